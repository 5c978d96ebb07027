-- Every call of the table asks the questions of its line in their order, so it answers no number that is not in its line; 11 is in none.
-- Document 02, job 7: 'Its number isn't used again.' Assumes nothing.
use mathlib.Core.Path.{◌≡◌, refl, ap, ◌∙◌}
use mathlib.Core.Bool.{Bool, false, ◌||◌}
use mathlib.Core.List.{List, [], ◌∷◌}
use mathlib.Core.Logic.{◌≢◌}
use Prim.Native.Nat.{ℕ}
use lib.Dec.{eqb}
use Rattle.plan.specs.Questions.{Question, ask}
use Rattle.plan.specs.Call.{refused}
use Rattle.plan.specs.Calls.{rate_call, table_call, read_call, write_call}
use Rattle.plan.specs.Comparison.{compare_call}
use Rattle.plan.specs.Charge.{charge_call}
use Rattle.plan.specs.SoldOnPremiums.{plan_call}
use Rattle.plan.specs.CallTable.{Listed, Rate, Table, Read, Write, Guaranteed, Charge1965, Plan, call, answer_to, order}
use Rattle.laws.proofs.Questions.{numbers, asks}
use Rattle.laws.proofs.Calls.{not-answered}

-- whether a number stands in a list
abbrev pub stands_in : ℕ → List ℕ → Bool
stands_in k [] = false
stands_in k (n ∷ ns) = eqb n k || stands_in k ns

-- the questions are those of the line, in its order; and 11 is not among them
pub record InOrder (c : Listed) : Type 0 where
  pub asked : numbers (call c).questions ≡ order c
  pub without_11 : stands_in 11 (order c) ≡ false

pub in-order : (c : Listed) → InOrder c
unfolding rate_call table_call read_call write_call compare_call charge_call plan_call
in-order (Rate s room) = record { asked = refl; without_11 = refl }
in-order (Table s r) = record { asked = refl; without_11 = refl }
in-order (Read s counts_room claims_room joined_room) = record { asked = refl; without_11 = refl }
in-order (Write g room) = record { asked = refl; without_11 = refl }
in-order (Guaranteed s ls premiums_room differences_room) = record { asked = refl; without_11 = refl }
in-order (Charge1965 column r) = record { asked = refl; without_11 = refl }
in-order (Plan s g h trials) = record { asked = refl; without_11 = refl }

-- a number is asked where it stands in the list of numbers
asks-numbers : (k : ℕ) (qs : List Question) → asks k qs ≡ stands_in k (numbers qs)
asks-numbers k [] = refl
asks-numbers k (ask n b ∷ qs) = ap (λ (later : Bool). eqb n k || later) (asks-numbers k qs)

-- a number that is not in a call's line is no answer of it
pub out-of-line : (k : ℕ) (c : Listed) → stands_in k (order c) ≡ false → answer_to c ≢ refused k
out-of-line k c none =
    not-answered (call c) k (asks-numbers k (call c).questions ∙ ap (stands_in k) (in-order c).asked ∙ none)

pub no-eleven : (c : Listed) → answer_to c ≢ refused 11
no-eleven c = out-of-line 11 c (in-order c).without_11
