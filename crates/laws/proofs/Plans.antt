-- Plans sold on premiums, of every file, G, H and number of trials: what the call gives is so many halvings, and what holds of it follows
-- from the laws of the trials and of the total. In a finished plan short is best − 1, so by the order of the totals every B below falls
-- short, and the last dollar adds at most 1,000 × n × n × T. Assumes nothing.
use mathlib.Core.Path.{◌≡◌, refl, sym, ap, ◌∙◌, subst}
use mathlib.Core.Bool.{Bool, true, false}
use mathlib.Core.List.{List, [], ◌∷◌}
use Prim.Native.Nat.{ℕ, zero, suc, ◌+◌, ◌-◌, ◌^◌, ◌≤◌, ◌<◌, min}
use native.Mathlib.Omega.{arith}
use borrow.Author.Tests.{leb-true, leb-false}
use lib.IntN.{pos, ◌-ℤ◌}
use Rattle.plan.specs.Demand3.{taxed_expenses_and_losses}
use Rattle.plan.specs.Questions.{ask, Verdict, passed, failed, first_no}
use Rattle.plan.specs.Call.{refused, given}
use Rattle.plan.specs.SoldOnPremiums.{premiums_at, reaches, most_basic, most_trials, Plan, bound_questions, plan_call}
use Rattle.plan.specs.SoldOnPremiums.{question23, plan_questions, plan_for, Finished, FallsShort, Sold, Unsold}
use Rattle.laws.proofs.Differences.{of-pos, of-minus, crossed}
use Rattle.laws.proofs.Calls.{given-by, refused-by}
use Rattle.laws.proofs.Questions.{after-gate, yes-to, no-asked}
use Rattle.laws.proofs.Halvings.{before, before-differs, apart-is, Halving, halvings-are}
use Rattle.laws.proofs.PremiumTotals as premium_totals

-- ---- a call that is not refused

module _ (s : List ℕ) (g h trials made best from : ℕ) (all : made ≡ min most_trials trials)
    (x : Halving (reaches s g h) made best from) (top : reaches s g h most_basic ≡ true) where
  abbrev target : ℕ
  target = taxed_expenses_and_losses s

  short_falls : (f : ℕ) → from ≡ f → FallsShort s g h (before f)
  short_falls zero e = tt
  short_falls (suc b) e = leb-false target (premiums_at s g h b) (x.falls b (omega (arith, e)))

  -- in a finished plan short is best − 1
  from_is : Finished best (before from) → from ≡ best
  from_is e =
      omega (arith, crossed (pos best -ℤ before from) (pos 1) (of-minus (pos best) (before from) (of-pos best) (before-differs from)) (of-pos 1) e)

  last-falls : Finished best (before from) → (b : ℕ) → b + 1 ≡ best → premiums_at s g h b < target
  last-falls e b f = leb-false target (premiums_at s g h b) (x.falls b (omega (arith, from_is e, f)))

  finishes : most_trials ≤ trials → Finished best (before from)
  finishes l =
      let none : most_trials - made ≡ 0 = omega (arith, all, l) in
      apart-is best from 1 (omega (arith, x.apart, ap (λ (j : ℕ). 2 ^ j) none))

  pub sold : Sold s g h trials made best (before from)
  sold = record {
    in_range = x.most;
    best_reaches = leb-true target (premiums_at s g h best) (x.passes top);
    short_falls = short_falls from refl;
    made_is = all;
    distance_is = apart-is best from (2 ^ (most_trials - made)) x.apart;
    finishes = finishes;
    never_falls = premium_totals.never_falls s g h;
    least = λ e b l.
        omega (arith, last-falls e (best - 1) (omega (arith, l)), premium_totals.never_falls s g h b (best - 1) (omega (arith, l)));
    over_by = λ e l.
        let above : best - 1 + 1 ≡ best = omega (arith, l) in
        omega (arith, last-falls e (best - 1) above, premium_totals.rises_by s g h (best - 1), ap (premiums_at s g h) above);
  }

-- ---- a call

module _ (s : List ℕ) (g h trials : ℕ) where
  -- what is given is what the trials come to
  pub given-sold : (p : Plan) → plan_for s g h trials ≡ given p → Sold s g h trials p.made p.best p.short
  unfolding plan_call
  given-sold p e =
      let gave = given-by (plan_call s g h trials) e in
      let x = halvings-are (reaches s g h) trials in
      subst (λ (q : Plan). Sold s g h trials q.made q.best q.short) (sym x.is ∙ gave.1)
      (sold s g h trials (min most_trials trials) x.best x.from refl x.halving (yes-to 23 (plan_questions s g h) refl gave.0))

  -- what the call comes to where 1 to 10 and 22 pass
  last-verdict : first_no (bound_questions s g h) ≡ passed → first_no (plan_questions s g h) ≡ first_no (question23 s g h ∷ [])
  last-verdict e = after-gate (bound_questions s g h) (question23 s g h ∷ []) e

  -- no question before it has the number 23
  passed-before : (v : Verdict) → first_no (bound_questions s g h) ≡ v → first_no (plan_questions s g h) ≡ failed 23
      → first_no (bound_questions s g h) ≡ passed
  passed-before passed e f = e
  passed-before (failed j) e f =
      let asked : false ≡ true =
      no-asked 23 (bound_questions s g h) (e ∙ sym (after-gate (bound_questions s g h) (question23 s g h ∷ []) e) ∙ f) in
      cc

  -- 23 exactly when those before it pass, and then no B in the range reaches
  pub refused-unsold : (k : ℕ) → plan_for s g h trials ≡ refused k → Unsold s g h k
  unfolding plan_call
  refused-unsold k e =
      let verdict = refused-by (plan_call s g h trials) e in
      let before = λ (is : k ≡ 23). passed-before (first_no (bound_questions s g h)) refl (verdict ∙ ap failed is) in
      record {
        passed_before = before;
        only = λ p. by-test (reaches s g h most_basic) (sym (last-verdict p) ∙ verdict);
        none = λ is.
            premium_totals.none-reaches s g h
            (not-reached (reaches s g h most_basic) (sym (last-verdict (before is)) ∙ verdict ∙ ap failed is));
      }
    where
      by-test : (t : Bool) → first_no (ask 23 t ∷ []) ≡ failed k → k ≡ 23
      by-test true f = cc
      by-test false f = cc

      not-reached : (t : Bool) → first_no (ask 23 t ∷ []) ≡ failed 23 → t ≡ false
      not-reached true f = cc
      not-reached false f = refl
