-- Document 02, job 2: what passes 18 has the answer that it would have if 18 were not asked. Leaving out of a call's list a question
-- that is answered Yes changes no first No. Assumes nothing.
use mathlib.Core.Path.{◌≡◌, refl}
use mathlib.Core.List.{List, [], ◌∷◌}
use Prim.Native.Nat.{ℕ, ◌≤◌}
use borrow.Author.Tests.{le-leb}
use Rattle.plan.specs.Header.{Header, header_of}
use Rattle.plan.specs.File.{Group, group_of, file_of}
use Rattle.plan.specs.Losses.{losses_in}
use Rattle.plan.specs.Table.{charge, savings}
use Rattle.plan.specs.Questions.{Question, first_no, question3, question4, question5, question6, question7}
use Rattle.plan.specs.Questions.{header_questions, rate_questions, table_questions, read_questions, write_questions}
use Rattle.plan.specs.Call.{given, answer}
use Rattle.plan.specs.Calls.{rated_of, rate, table, read, write, rate_call, table_call, read_call, write_call}
use Rattle.plan.specs.Discount.{Layer}
use Rattle.plan.specs.Comparison.{compare_questions, comparison_of, compare, compare_call}
use Rattle.laws.proofs.Tests.{and_yes}
use Rattle.laws.proofs.Calls.{answered, given-passed}
use Rattle.laws.proofs.Questions.{without, left_out, passed-yes}

-- ---- the lists without 18

abbrev without_eighteen : List Question → List Question
without_eighteen = without 18

-- 18 stands once in the list of each call on a file and of Write (`CallOrder.in-order`), in this gate; without it the gate is document 01's 3 to 7
three-to-seven : (h : Header) (n : ℕ) → without_eighteen (header_questions h n) ≡ question3 h ∷ question4 h ∷ question5 h ∷ question6 h ∷ question7 n ∷ []
three-to-seven h n = refl

-- ---- the answers

-- of the calls on a file that passes 18
pub record FileAnswersStay (s : List ℕ) : Type 0 where
  pub rate_stays : (room : ℕ)
      → answer (first_no (without_eighteen (rate_questions s room))) (rated_of (header_of s) (losses_in s)) ≡ rate s room
  pub table_stays : (r : ℕ)
      → answer (first_no (without_eighteen (table_questions s r))) (record { charge = charge (losses_in s) r; savings = savings (losses_in s) r })
      ≡ table s r
  pub read_stays : (counts_room claims_room joined_room : ℕ)
      → answer (first_no (without_eighteen (read_questions s counts_room claims_room joined_room))) (group_of s)
      ≡ read s counts_room claims_room joined_room
  pub compare_stays : (ls : List Layer) (premiums_room differences_room : ℕ)
      → answer (first_no (without_eighteen (compare_questions s ls premiums_room differences_room))) (comparison_of ls (header_of s) (losses_in s))
      ≡ compare s ls premiums_room differences_room

pub file-answers-stay : (s : List ℕ) → (header_of s).minimum_mark ≤ (header_of s).maximum_mark → FileAnswersStay s
unfolding rate_call table_call read_call compare_call
file-answers-stay s h =
    let yes = and_yes (le-leb _ _ h) refl in
    record {
      rate_stays = λ room. answered _ (left_out 18 (rate_questions s room) yes);
      table_stays = λ r. answered _ (left_out 18 (table_questions s r) yes);
      read_stays = λ counts_room claims_room joined_room.
          answered _ (left_out 18 (read_questions s counts_room claims_room joined_room) yes);
      compare_stays = λ ls premiums_room differences_room.
          answered _ (left_out 18 (compare_questions s ls premiums_room differences_room) yes);
    }

-- of Write, of values that pass 18
pub write-stays : (g : Group) → g.header.minimum_mark ≤ g.header.maximum_mark → (room : ℕ)
    → answer (first_no (without_eighteen (write_questions g room))) (file_of g) ≡ write g room
unfolding write_call
write-stays g h room = answered _ (left_out 18 (write_questions g room) (and_yes (le-leb _ _ h) refl))

-- ---- what is still accepted

-- whatever a call's list and what it gives: a call that gives b gives b under the list without 18
pub accepted-stays : {A : Type 0} (qs : List Question) (a b : A) → answer (first_no qs) a ≡ given b
    → answer (first_no (without_eighteen qs)) a ≡ answer (first_no qs) a
accepted-stays qs a b e = answered a (left_out 18 qs (passed-yes 18 qs (given-passed (first_no qs) a b e).0))
