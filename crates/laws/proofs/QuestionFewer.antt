-- Document 02, job 7, 'a question fewer': 'take question 11 out of the rater. Its number isn't used again. No file gets another result by
-- this.' A file that passes 18 has LH at most LG, so it would have passed 11; one that does not was refused before 11 came to be asked. That
-- no call answers 11 is `CallOrder`. Assumes nothing.
use mathlib.Core.Path.{◌≡◌, refl, sym, ◌∙◌}
use mathlib.Core.List.{List, [], ◌∷◌, ◌++◌}
use Prim.Native.Nat.{ℕ, ◌≤◌}
use lib.Dec.{leb}
use borrow.Author.Tests.{leb-true, le-leb}
use Rattle.plan.specs.Header.{header_of, risk_count}
use Rattle.plan.specs.Losses.{losses_in}
use Rattle.plan.specs.Marks.{LG, LH}
use Rattle.plan.specs.Questions.{Question, ask, Verdict, passed, failed, first_no, question6, question7, question13, question18}
use Rattle.plan.specs.Questions.{loss_questions, balance_questions, rating_questions, rate_enough}
use Rattle.plan.specs.Call.{answer}
use Rattle.plan.specs.Calls.{rated_of, rate, rate_call}
use Rattle.plan.specs.Discount.{Layer}
use Rattle.plan.specs.Comparison.{compare_enough, schedule_questions, comparison_of, compare, compare_call}
use Rattle.laws.proofs.MarksInOrder.{LH≤LG}
use Rattle.laws.proofs.Calls.{answered}
use Rattle.laws.proofs.Questions.{numbers, without, after-gate, goes_on, yes-to, loss-sound}

-- ---- 'With marks compared as written, LH can't exceed LG'

-- 6, 18 and 7
abbrev mark_questions : List ℕ → List Question
mark_questions s = question6 (header_of s) ∷ question18 (header_of s) ∷ question7 (risk_count s) ∷ []

-- of every file that passes them, whatever SA; that it passes 18 is enough
pub in_order : (s : List ℕ) → first_no (mark_questions s) ≡ passed → LH (header_of s) (losses_in s) ≤ LG (header_of s) (losses_in s)
in_order s e = LH≤LG (header_of s) (losses_in s) (leb-true _ _ (yes-to 18 (mark_questions s) refl e))

-- ---- 'No file gets another result by this'

module _ (s : List ℕ) where
  -- document 01's question 11, 'Is LH at most LG?', and 1 to 12 with it in its place, after 10
  abbrev eleven : Question
  eleven = ask 11 (leb (LH (header_of s) (losses_in s)) (LG (header_of s) (losses_in s)))

  abbrev with_eleven : List Question
  with_eleven = loss_questions s ++ eleven ∷ balance_questions (header_of s) (losses_in s)

  -- the two lists differ in 11 alone
  lists-differ : (numbers with_eleven ≡ 1 ∷ 2 ∷ 3 ∷ 4 ∷ 5 ∷ 6 ∷ 18 ∷ 7 ∷ 8 ∷ 9 ∷ 19 ∷ 10 ∷ 11 ∷ 12 ∷ [])
      × (without 11 with_eleven ≡ rating_questions s)
  lists-differ = (refl, refl)

  -- where 1 to 10 refuse, neither list comes to 11; where they pass, 18 has passed, and 11 is answered Yes
  gate-from : (v : Verdict) → first_no (loss_questions s) ≡ v → first_no with_eleven ≡ first_no (rating_questions s)
  gate-from passed e =
      after-gate (loss_questions s) (eleven ∷ balance_questions (header_of s) (losses_in s)) e
      ∙ goes_on 11 (balance_questions (header_of s) (losses_in s))
      (le-leb _ _ (LH≤LG (header_of s) (losses_in s) (loss-sound s e).file.header.marks_in_order))
      ∙ sym (after-gate (loss_questions s) (balance_questions (header_of s) (losses_in s)) e)
  gate-from (failed k) e =
      after-gate (loss_questions s) (eleven ∷ balance_questions (header_of s) (losses_in s)) e
      ∙ sym (after-gate (loss_questions s) (balance_questions (header_of s) (losses_in s)) e)

  -- whatever is asked after 12
  first-no-stays : (rest : List Question) → first_no (with_eleven ++ rest) ≡ first_no (rating_questions s ++ rest)
  first-no-stays rest =
      after-gate with_eleven rest (gate-from (first_no (loss_questions s)) refl) ∙ sym (after-gate (rating_questions s) rest refl)

  -- of the calls that asked it, under the list with 11 and under theirs: Rate, and job 1's; and of the gate alone, by which `retro` has each K
  pub record NoOtherResult : Type 0 where
    pub rate_stays : (room : ℕ)
        → answer (first_no (with_eleven ++ question13 (rate_enough s room) ∷ [])) (rated_of (header_of s) (losses_in s)) ≡ rate s room
    pub compare_stays : (ls : List Layer) (premiums_room differences_room : ℕ)
        → answer (first_no (with_eleven ++ question13 (compare_enough s premiums_room differences_room) ∷ schedule_questions ls))
        (comparison_of ls (header_of s) (losses_in s))
        ≡ compare s ls premiums_room differences_room
    pub gate_stays : first_no with_eleven ≡ first_no (rating_questions s)

  pub no-other-result : NoOtherResult
  unfolding rate_call compare_call
  no-other-result = record {
    rate_stays = λ room. answered _ (first-no-stays (question13 (rate_enough s room) ∷ []));
    compare_stays = λ ls premiums_room differences_room.
        answered _ (first-no-stays (question13 (compare_enough s premiums_room differences_room) ∷ schedule_questions ls));
    gate_stays = gate-from (first_no (loss_questions s)) refl;
  }
