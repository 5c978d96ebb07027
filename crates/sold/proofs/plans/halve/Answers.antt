-- A trial that reaches takes the place of best, and one that falls short that of short. Where the loop is left,
-- as many are made as are given, or best and short are next to each other and no more would be.
use Rattle.std.proofs.Common.{◌≡◌, refl, sym, ap, ◌∙◌, subst, arith, Bool, ℕ, zero, suc, ◌-◌, ◌≤◌, pos, Option, Some, None, SomeIff}
use Rattle.plan.specs.SoldOnPremiums.{halvings}
use Rattle.laws.proofs.Halvings.{before, plan_with, Halving, halving-starts, halving-reached}
use Rattle.laws.proofs.Halvings.{halving-short, few, given_made, no-more-made}
use Rattle.sold.specs.PremiumPlans.{reached_by, short_is}
use Rattle.sold.proofs.plans.halve.Goals as goal
use Rattle.sold.proofs.plans.halve.Goals.{then-reaches, else-reaches}
use Rattle.sold.proofs.plans.halve.Goals.{then-loop-made-test+else-from-best, else-loop-made-test}

pub loop-made-init : goal.loop-made-init
loop-made-init c = (omega arith, halving-starts _)

-- what is known of a best and a `from` is known of their equals
of-equals : {test : ℕ → Bool} {k b f b' f' : ℕ} → b' ≡ b → f' ≡ f → Halving test k b f → Halving test k b' f'
of-equals {test} {k} {b} {f} {b'} e d x =
    subst (λ (f : ℕ). Halving test k b' f) (sym d) (subst (λ (b : ℕ). Halving test k b f) (sym e) x)

pub loop-made-preserved : goal.loop-made-preserved
loop-made-preserved c =
    let x = c.loop-made.invariant.1 in
    let more = few x c.if-from-best.true in
    let says = sym c.reaches.ensures in (
      omega (arith, c.loop-made-test.true),
      elim c.if-reaches.branch [
        | then-reaches w ↦ of-equals w.best-is w.from-is (halving-reached x more (says ∙ w.if-reaches.true))
        | else-reaches w ↦ of-equals w.best-is w.from-is (halving-short x more (says ∙ w.if-reaches.false))
      ],
    )

-- the number before `from`, if there is one
short-before : (from : ℕ) (o : Option ℕ) → SomeIff o (1 ≤ from) (from - 1) → short_is o ≡ before from
short-before zero None n = refl
short-before zero (Some b) p = absurd (omega (arith, p.0))
short-before (suc b) None n = absurd (n (omega arith))
short-before (suc b) (Some x) p = ap pos (omega (arith, p.1))

pub returns : goal.returns
returns c =
    let a = c.args in
    let l = c.loop-made in
    let x = l.invariant.1 in
    let short = short-before l.from c.checked_sub.result c.checked_sub.ensures in
    let all : halvings (reached_by a.target.now) a.trials ≡ plan_with l.made l.best l.from =
    elim c.loop-made-test.branch [
      | then-loop-made-test+else-from-best w ↦ no-more-made x l.invariant.0 w.if-from-best.false
      | else-loop-made-test w ↦ given_made x (omega (arith, w.loop-made-test.false, l.invariant.0))
    ] in
    (λ i. record { made = l.made; best = l.best; short = short i }) ∙ sym all
