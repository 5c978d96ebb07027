-- The table of all calls: of each what is given to it, what it gives, the call, and the numbers of the questions that it asks, in their order.
-- What an exported function promises is a line of this table (`retro_c`); what holds of every line is in `laws`, `CallOrder`.
use Rattle.std.specs.Prelude.{List, [], ◌∷◌, ◌++◌, ℕ}
use Rattle.plan.specs.Call.{Call, Answer, answer_of}
use Rattle.plan.specs.File.{Group}
use Rattle.plan.specs.Discount.{Layer}
use Rattle.plan.specs.Calls.{Rated, rate_call, Tabled, table_call, read_call, write_call}
use Rattle.plan.specs.Comparison as comparison
use Rattle.plan.specs.Charge.{Charged, charge_call}
use Rattle.plan.specs.SoldOnPremiums as sold_on_premiums

-- what is given to each: a file, the lengths of the lent buffers, values
pub data Listed : Type 0 where
  Rate : List ℕ → ℕ → Listed
  Table : List ℕ → ℕ → Listed
  Read : List ℕ → ℕ → ℕ → ℕ → Listed
  Write : Group → ℕ → Listed
  Guaranteed : List ℕ → List Layer → ℕ → ℕ → Listed
  Charge1965 : ℕ → ℕ → Listed
  Plan : List ℕ → ℕ → ℕ → ℕ → Listed

-- what it gives
abbrev pub Gives : Listed → Type 0
Gives (Rate s room) = Rated
Gives (Table s r) = Tabled
Gives (Read s counts_room claims_room joined_room) = Group
Gives (Write g room) = List ℕ
Gives (Guaranteed s ls premiums_room differences_room) = comparison.Comparison
Gives (Charge1965 column r) = Charged
Gives (Plan s g h trials) = sold_on_premiums.Plan

abbrev pub call : (c : Listed) → Call (Gives c)
call (Rate s room) = rate_call s room
call (Table s r) = table_call s r
call (Read s counts_room claims_room joined_room) = read_call s counts_room claims_room joined_room
call (Write g room) = write_call g room
call (Guaranteed s ls premiums_room differences_room) = comparison.compare_call s ls premiums_room differences_room
call (Charge1965 column r) = charge_call column r
call (Plan s g h trials) = sold_on_premiums.plan_call s g h trials

abbrev pub answer_to : (c : Listed) → Answer (Gives c)
answer_to c = answer_of (call c)

-- 1 to 9, with document 02's 18 'after 6 and before 7' and 19 'after 9'
abbrev pub order1_9 : List ℕ
order1_9 = 1 ∷ 2 ∷ 3 ∷ 4 ∷ 5 ∷ 6 ∷ 18 ∷ 7 ∷ 8 ∷ 9 ∷ 19 ∷ []

-- 'Rate asks 1 to 13. Table asks 1 to 10, then 14. Read asks 1 to 9, then 13. Write asks 3 to 7, then 15, then 13.' Job 1: 16 and 17 'both
-- after 13'; job 4: 19 'after 15 and before 13 in Write', which 'asks question 2 of the edition first'; job 5: '20 .., then 21 ..'; job 6:
-- 'Questions 1 to 10 come first', then '22 .., then 23'; job 7: 'take question 11 out of the rater'
abbrev pub order : Listed → List ℕ
order (Rate s room) = order1_9 ++ 10 ∷ 12 ∷ 13 ∷ []
order (Table s r) = order1_9 ++ 10 ∷ 14 ∷ []
order (Read s counts_room claims_room joined_room) = order1_9 ++ 13 ∷ []
order (Write g room) = 2 ∷ 3 ∷ 4 ∷ 5 ∷ 6 ∷ 18 ∷ 7 ∷ 15 ∷ 19 ∷ 13 ∷ []
order (Guaranteed s ls premiums_room differences_room) = order1_9 ++ 10 ∷ 12 ∷ 13 ∷ 16 ∷ 17 ∷ []
order (Charge1965 column r) = 20 ∷ 21 ∷ []
order (Plan s g h trials) = order1_9 ++ 10 ∷ 22 ∷ 23 ∷ []
