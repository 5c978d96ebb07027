-- The total of the premiums of a basic of B whole dollars: it never falls as B grows, and a dollar more adds at most 1,000 × n × T to each
-- premium, so 1,000 × n × n × T to the total, since holding a premium between two bounds keeps its order and adds nothing to a rise.
-- So where 1,048,575 does not reach, no B in the range does. Assumes nothing.
use mathlib.Core.Path.{◌≡◌, ap}
use mathlib.Core.Bool.{false}
use mathlib.Core.List.{List}
use Prim.Native.Nat.{ℕ, ◌+◌, ◌*◌, ◌≤◌, ◌<◌}
use native.Mathlib.Nat.{mul-le-mul_left}
use native.Mathlib.Omega.{arith}
use borrow.Author.Tests.{leb-false}
use Rattle.plan.specs.Sizes.{premium_scale}
use Rattle.plan.specs.Header.{header_of, risk_count}
use Rattle.plan.specs.Losses.{Losses, losses_in}
use Rattle.plan.specs.Ratable.{clamp}
use Rattle.plan.specs.Demand3.{taxed_expenses_and_losses}
use Rattle.plan.specs.SoldOnPremiums.{PlanTerms, premium_of, held_premium, plan_terms_of, premiums_at, reaches, most_basic}
use Rattle.laws.proofs.Sums.{sum-le, sum-add, sum-const}
use Rattle.laws.proofs.Losses.{length-losses}

-- ---- one premium

clamp-keeps : (low high x y : ℕ) → x ≤ y → clamp low high x ≤ clamp low high y
clamp-keeps low high x y h = omega (arith, h)

clamp-rises : (low high x d : ℕ) → clamp low high (x + d) ≤ clamp low high x + d
clamp-rises low high x d = omega arith

module _ (t : PlanTerms) where
  -- what a dollar more of the basic adds to a premium
  abbrev rise : ℕ
  rise = 1000 * t.risks * t.tax

  held_keeps : (a b c : ℕ) → b ≤ c → held_premium t b a ≤ held_premium t c a
  held_keeps a b c h =
      clamp-keeps (premium_scale * t.risks * t.minimum) (premium_scale * t.risks * t.maximum) (premium_of t b a) (premium_of t c a)
      (mul-le-mul_left t.tax (omega (arith, mul-le-mul_left (1000 * t.risks) h)))

  premium-more : (a b : ℕ) → premium_of t (b + 1) a ≡ premium_of t b a + rise
  premium-more a b = omega arith

  held-rises : (a b : ℕ) → held_premium t (b + 1) a ≤ held_premium t b a + rise
  held-rises a b =
      let low = premium_scale * t.risks * t.minimum in
      let high = premium_scale * t.risks * t.maximum in
      omega (arith, ap (clamp low high) (premium-more a b), clamp-rises low high (premium_of t b a) rise)

-- ---- their total

module _ (s : List ℕ) (g h : ℕ) where
  -- the total never falls as B grows
  pub never_falls : (b c : ℕ) → b ≤ c → premiums_at s g h b ≤ premiums_at s g h c
  unfolding premiums_at
  never_falls b c e =
      sum-le (λ r. held_premium (plan_terms_of s g h) b r.limited) (λ r. held_premium (plan_terms_of s g h) c r.limited)
      (λ r. held_keeps (plan_terms_of s g h) r.limited b c e) (losses_in s)

  -- a dollar more of the basic: at most 1,000 × n × n × T
  pub rises_by : (b : ℕ) → premiums_at s g h (b + 1) ≤ premiums_at s g h b + 1000 * risk_count s * risk_count s * (header_of s).tax
  unfolding premiums_at
  rises_by b =
      let t = plan_terms_of s g h in
      let f : Losses → ℕ = λ r. held_premium t b r.limited in
      omega (
        arith,
        sum-le (λ r. held_premium t (b + 1) r.limited) (λ r. f r + rise t) (λ r. held-rises t r.limited b) (losses_in s),
        sum-add f (λ r. rise t) (losses_in s),
        sum-const (rise t) (losses_in s),
        ap (λ (n : ℕ). n * rise t) (length-losses s),
      )

  -- '23 no B in the range reaches the total'
  pub none-reaches : reaches s g h most_basic ≡ false → (b : ℕ) → b ≤ most_basic → premiums_at s g h b < taxed_expenses_and_losses s
  none-reaches e b l = omega (arith, leb-false (taxed_expenses_and_losses s) (premiums_at s g h most_basic) e, never_falls b most_basic l)
