-- What Rate answers, from what the gate of questions 1 to 12 gives. The bills that the code puts are step 6's of the file's group,
-- since its terms and each A are the file's; so the call says what document 01 says, and demand 3 holds of it. Assumes nothing.
use Rattle.std.proofs.Common.{◌≡◌, refl, sym, ap, ◌∙◌, subst, subst₂, Bool, List, [], ◌∷◌, ℕ, ◌*◌, ◌≤◌, length, arith, Ok, Err}
use borrow.Author.Tests.{le-leb}
use Rattle.plan.specs.Arithmetic.{sum}
use Rattle.plan.specs.Field.{slots, bytes_of}
use Rattle.plan.specs.Header.{header_of, risk_count}
use Rattle.plan.specs.Losses.{losses_in}
use Rattle.plan.specs.Premium as premium
use Rattle.plan.specs.Premium.{terms_of, billed_premiums}
use Rattle.plan.specs.Demand3.{Demand3}
use Rattle.plan.specs.Questions.{Verdict, passed, failed, first_no, or_else, rating_questions, question13, rate_enough, rate_questions}
use Rattle.plan.specs.Call.{answer, filled}
use Rattle.plan.specs.Calls.{rated_of, rate_call, premium_bytes}
use Rattle.laws.proofs.Calls.{gives, buffer-filled}
use Rattle.laws.proofs.Questions.{after-gate}
use Rattle.laws.proofs.Demand3.{demand3}
use Rattle.group.specs.Refusals.{number_of, answer_is}
use Rattle.group.specs.Values.{losses_of, LossesAre, each_of}
use Rattle.group.specs.declared.Refusal.{Refusal}
use Rattle.group.specs.declared.Losses as declared_losses
use Rattle.group.specs.declared.GroupLosses.{GroupLosses}
use Rattle.steps.specs.Terms.{terms_is}
use Rattle.steps.specs.declared.bill.Terms.{Terms}
use Rattle.group.proofs.Laws.{keeps, sets}
use Rattle.gates.proofs.Given.{passes, terms-are, risk-count, lent-bills}
use Rattle.rating.specs.Bills.{bills_of}
use Rattle.rating.specs.Rates.{figures_of, figures_by, figures_are, RateSays}
use Rattle.rating.specs.declared.rates.GroupFigures.{GroupFigures}

-- ---- the verdict, and a refusal, which leaves all as it was

module _ (s old : List ℕ) where
  -- the gate's No, else that of 13
  pub verdict : {v : Verdict} {b : Bool} → first_no (rating_questions s) ≡ v → rate_enough s (length old) ≡ b
      → first_no (rate_questions s (length old)) ≡ or_else v (first_no (question13 b ∷ []))
  verdict {v} e f =
      after-gate (rating_questions s) (question13 (rate_enough s (length old)) ∷ []) e
      ∙ ap (λ (b : Bool). or_else v (first_no (question13 b ∷ []))) f

  pub refused_says : (r : Refusal) → first_no (rate_questions s (length old)) ≡ failed (number_of r) → RateSays s old (Err r) old
  unfolding rate_call
  refused_says r e = keeps (rate_call s (length old)) figures_of figures_are r e (refl, tt)

-- ---- what a rated file's call says

-- where questions 1 to 12 gave terms, and the group's losses are lent as xs
module _ (s : List ℕ) (t : Terms)
    (gave : answer_is terms_is (Ok t) ≡ answer (first_no (rating_questions s)) (terms_of (header_of s) (losses_in s)))
    {g : GroupLosses} (losses : LossesAre (losses_in s) g) {xs : List declared_losses.Losses} (lent : xs ≡ each_of g) where
  module _ (old new : List ℕ) {f : GroupFigures} (room : 4 * t.risks ≤ length old) (figures : f ≡ figures_by t (losses_of xs))
      (put : new ≡ filled (bytes_of (slots 32 (bills_of t (losses_of xs)))) old) where
    passed-all : first_no (rate_questions s (length old)) ≡ passed
    passed-all =
        let enough : 4 * risk_count s ≤ length old = omega (arith, room, risk-count s t gave) in
        verdict s old (passes s t gave) (le-leb _ _ enough)

    billed_is : sum (bills_of t (losses_of xs)) ≡ sum (billed_premiums (header_of s) (losses_in s))
    billed_is = ap sum (lent-bills s t gave losses lent)

    left : new ≡ filled (premium_bytes (rated_of (header_of s) (losses_in s))) old
    unfolding rated_of
    left = put ∙ ap (λ (ps : List ℕ). filled (bytes_of (slots 32 ps)) old) (lent-bills s t gave losses lent)

    figures-are : figures_are f ≡ figures_of (rated_of (header_of s) (losses_in s))
    unfolding rated_of
    figures-are =
        ap figures_are figures
        ∙ (λ i. record {
          risks = (terms-are s t gave i).risks;
          basic = (terms-are s t gave i).basic;
          excess = (terms-are s t gave i).excess;
          billed = billed_is i;
        })

    pub given-says : RateSays s old (Ok f) new
    unfolding rate_call
    given-says = sets (rate_call s (length old)) figures_of figures_are f passed-all figures-are (left, tt)

    pub demanded : Demand3 s f.basic f.excess f.billed new
    unfolding rate_call rated_of
    demanded =
        let is-given = gives (rate_call s (length old)) passed-all in
        let d = demand3 s old (rated_of (header_of s) (losses_in s)) t.basic is-given (ap (λ (x : premium.Terms). x.basic) (terms-are s t gave)) in
        subst (λ (x : GroupFigures). Demand3 s x.basic x.excess x.billed new) (sym figures)
        (subst₂ (λ (q b : ℕ). Demand3 s t.basic q b new) (sym (ap (λ (x : premium.Terms). x.excess) (terms-are s t gave))) (sym billed_is)
        (subst (Demand3 s t.basic (terms_of (header_of s) (losses_in s)).excess (sum (billed_premiums (header_of s) (losses_in s))))
        (buffer-filled premium_bytes old is-given ∙ sym left) d))
