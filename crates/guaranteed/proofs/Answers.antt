-- What the call answers, from what the gate of questions 1 to 12 gives. The bills that the code puts are step 6's of the file's
-- group and guaranteed cost is by its own standard premium; so the call says what document 02 says, and what holds of every call
-- that is not refused holds of it. Assumes nothing.
use Rattle.std.proofs.Common.{◌≡◌, refl, sym, ap, ◌∙◌, subst, true, List, [], ◌∷◌, ◌++◌, ℕ, ◌*◌, ◌-◌, ◌≤◌, ℤ, leb, length, arith, Ok, Err}
use Rattle.std.proofs.Math.IntN.{pos}
use borrow.Author.Tests.{leb-true}
use Rattle.plan.specs.Arithmetic.{sum, sum_z}
use Rattle.plan.specs.Field.{slots, bytes_of}
use Rattle.plan.specs.Header.{header_of, risk_count}
use Rattle.plan.specs.Losses.{losses_in}
use Rattle.plan.specs.Premium as premium
use Rattle.plan.specs.Premium.{terms_of}
use Rattle.plan.specs.Questions.{Verdict, passed, failed, first_no, or_else, rating_questions, rate_enough, question13}
use Rattle.plan.specs.Call.{Call, answer, filled}
use Rattle.plan.specs.Calls.{rated_of, premium_bytes}
use Rattle.plan.specs.Discount.{Layer, discount, guaranteed_cost, rates_pass}
use Rattle.plan.specs.Comparison.{differences_of, schedule_questions, compare_enough, compare_questions, comparison_of, compare, Beside, compare_call, numbers_of}
use Rattle.plan.specs.Comparison as comparison
use Rattle.laws.proofs.Tests.{both}
use Rattle.laws.proofs.Calls.{gives}
use Rattle.laws.proofs.Questions.{after-gate, or-passed, yes-to}
use Rattle.laws.proofs.Comparisons.{beside}
use Rattle.group.specs.Refusals.{number_of, answer_is}
use Rattle.group.specs.Values.{losses_of, LossesAre, each_of}
use Rattle.group.specs.declared.Refusal.{Refusal}
use Rattle.group.specs.declared.Losses as declared_losses
use Rattle.group.specs.declared.GroupLosses.{GroupLosses}
use Rattle.steps.specs.Terms.{terms_is}
use Rattle.steps.specs.declared.bill.Terms.{Terms}
use Rattle.group.proofs.Laws.{keeps, sets}
use Rattle.gates.proofs.Given.{passes, terms-are, risk-count, lent-bills}
use Rattle.rating.specs.Bills.{bills_of}
use Rattle.rating.specs.Rates.{figures_by}
use Rattle.rating.specs.declared.rates.GroupFigures.{GroupFigures}
use Rattle.guaranteed.specs.Comparisons.{numbers_given, CompareSays}
use Rattle.guaranteed.specs.declared.Comparison.{Comparison}

-- ---- the verdict, and a refusal

module _ (s : List ℕ) (ls : List Layer) (old_premiums : List ℕ) (old_differences : List ℤ) where
  -- what 13, 16 and 17 come to
  abbrev pub last_verdict : Verdict
  last_verdict =
      or_else (first_no (question13 (compare_enough s (length old_premiums) (length old_differences)) ∷ [])) (first_no (schedule_questions ls))

  -- the gate's No, else theirs
  pub verdict : {v w : Verdict} → first_no (rating_questions s) ≡ v → last_verdict ≡ w
      → first_no (compare_questions s ls (length old_premiums) (length old_differences)) ≡ or_else v w
  verdict {v} e f =
      let thirteen = question13 (compare_enough s (length old_premiums) (length old_differences)) ∷ [] in
      after-gate (rating_questions s) (thirteen ++ schedule_questions ls) e ∙ ap (or_else v) (after-gate thirteen (schedule_questions ls) refl ∙ f)

  -- a refusal leaves all as it was
  pub refused_says : (r : Refusal) → first_no (compare_questions s ls (length old_premiums) (length old_differences)) ≡ failed (number_of r)
      → CompareSays s ls old_premiums old_differences (Err r) old_premiums old_differences
  unfolding compare_call
  refused_says r e = keeps (compare_call s ls (length old_premiums) (length old_differences)) numbers_of numbers_given r e (refl, (refl, tt))

-- ---- what a call says that is not refused

-- questions 1 to 12 gave terms, and 13, 16 and 17 passed
module _ (s : List ℕ) (ls : List Layer) (t : Terms)
    (gave : answer_is terms_is (Ok t) ≡ answer (first_no (rating_questions s)) (terms_of (header_of s) (losses_in s)))
    {g : GroupLosses} (losses : LossesAre (losses_in s) g) (old_premiums : List ℕ) (old_differences : List ℤ)
    (asked : last_verdict s ls old_premiums old_differences ≡ passed) where
  -- all that is given
  abbrev all : comparison.Comparison
  all = comparison_of ls (header_of s) (losses_in s)

  abbrev called : Call comparison.Comparison
  called = compare_call s ls (length old_premiums) (length old_differences)

  passed-all : first_no (compare_questions s ls (length old_premiums) (length old_differences)) ≡ passed
  passed-all = verdict s ls old_premiums old_differences (passes s t gave) asked

  -- 13 and 16, as what the code needs them for
  thirteen : compare_enough s (length old_premiums) (length old_differences) ≡ true
  thirteen =
      yes-to 13 (question13 (compare_enough s (length old_premiums) (length old_differences)) ∷ []) refl
      (or-passed _ (first_no (schedule_questions ls)) asked).0

  enough : (rate_enough s (length old_premiums) ≡ true) × (leb (risk_count s) (length old_differences) ≡ true)
  enough = both (rate_enough s (length old_premiums)) (leb (risk_count s) (length old_differences)) thirteen

  pub room : 4 * t.risks ≤ length old_premiums
  room = omega (arith, leb-true (4 * risk_count s) (length old_premiums) enough.0, risk-count s t gave)

  pub room-too : t.risks ≤ length old_differences
  room-too = omega (arith, leb-true (risk_count s) (length old_differences) enough.1, risk-count s t gave)

  pub rates : rates_pass ls ≡ true
  rates =
      yes-to 16 (schedule_questions ls) refl
      (or-passed (first_no (question13 (compare_enough s (length old_premiums) (length old_differences)) ∷ [])) _ asked).1

  -- what the code gives and leaves, by the losses that it is lent
  module _ {xs : List declared_losses.Losses} (lent : xs ≡ each_of g) (c : Comparison) (premiums : List ℕ) (differences : List ℤ)
      (rated : c.rated ≡ figures_by t (losses_of xs))
      (discounted : c.discount ≡ discount ls (header_of s).standard_premium)
      (less : c.guaranteed ≡ (header_of s).standard_premium - c.discount)
      (summed : c.difference ≡ sum_z (λ z. z) (differences_of c.guaranteed (bills_of t (losses_of xs))))
      (put : premiums ≡ filled (bytes_of (slots 32 (bills_of t (losses_of xs)))) old_premiums)
      (put-too : differences ≡ filled (differences_of c.guaranteed (bills_of t (losses_of xs))) old_differences) where
    cost-is : c.guaranteed ≡ guaranteed_cost ls (header_of s).standard_premium
    unfolding guaranteed_cost
    cost-is = less ∙ ap (λ (x : ℕ). (header_of s).standard_premium - x) discounted

    -- the differences of the file's own bills
    differences_are : differences_of c.guaranteed (bills_of t (losses_of xs)) ≡ all.differences
    unfolding comparison_of
    differences_are = λ i. differences_of (cost-is i) (lent-bills s t gave losses lent i)

    numbers-are : numbers_given c ≡ numbers_of all
    unfolding comparison_of rated_of
    numbers-are = λ i. record {
      risks = (ap (λ (f : GroupFigures). f.risks) rated ∙ ap (λ (x : premium.Terms). x.risks) (terms-are s t gave)) i;
      basic = (ap (λ (f : GroupFigures). pos f.basic) rated ∙ ap (λ (x : premium.Terms). x.basic) (terms-are s t gave)) i;
      excess = (ap (λ (f : GroupFigures). f.excess) rated ∙ ap (λ (x : premium.Terms). x.excess) (terms-are s t gave)) i;
      billed = (ap (λ (f : GroupFigures). f.billed) rated ∙ ap sum (lent-bills s t gave losses lent)) i;
      discount = discounted i;
      guaranteed = cost-is i;
      difference = (summed ∙ ap (sum_z (λ z. z)) differences_are) i;
    }

    left : premiums ≡ filled (premium_bytes all.rated) old_premiums
    unfolding comparison_of rated_of
    left = put ∙ ap (λ (ps : List ℕ). filled (bytes_of (slots 32 ps)) old_premiums) (lent-bills s t gave losses lent)

    left-too : differences ≡ filled all.differences old_differences
    left-too = put-too ∙ ap (λ (zs : List ℤ). filled zs old_differences) differences_are

    pub given-says : CompareSays s ls old_premiums old_differences (Ok c) premiums differences
    unfolding compare_call
    given-says = sets called numbers_of numbers_given c passed-all numbers-are (left, (left-too, tt))

    pub beside-given : Beside s (numbers_given c) premiums differences
    unfolding compare_call
    beside-given =
        subst (λ (u : List ℤ). Beside s (numbers_given c) premiums u) (sym left-too)
        (subst (λ (p : List ℕ). Beside s (numbers_given c) p (filled all.differences old_differences)) (sym left)
        (subst (λ (f : comparison.NumbersGiven). Beside s f (filled (premium_bytes all.rated) old_premiums) (filled all.differences old_differences))
        (sym numbers-are) (beside s ls old_premiums old_differences all (gives called passed-all))))
