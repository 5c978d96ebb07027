-- The trials of document 02, job 6, for any test of a basic. With `from` for short + 1, the least basic that is not known to fall short,
-- best + 1 is from + 2 ^ (20 − k) after k trials; so the middle is exact, one trial halves the distance, and after twenty it is 1.
-- Whatever the test, best passes it if 1,048,575 does, and short does not. Assumes nothing.
use mathlib.Core.Path.{◌≡◌, refl, sym, ap, ◌∙◌, subst}
use mathlib.Core.Bool.{Bool, true, false, cond}
use Prim.Native.Nat.{ℕ, zero, suc, ◌+◌, ◌*◌, ◌-◌, ◌/◌, ◌^◌, ◌≤◌, ◌<◌, min}
use native.Mathlib.Nat.{pow-succ', add-zero, add-suc}
use native.Mathlib.Numerals.{add-one}
use native.Mathlib.Omega.{arith}
use borrow.Author.Tests.{ne_eqb, leb-true, leb-false}
use lib.Pow.{pow_pos}
use lib.Dec.{leb, eqb}
use lib.IntN.{ℤ, pos, negsuc, nat_abs, ◌+ℤ◌, ◌-ℤ◌}
use Rattle.plan.specs.SoldOnPremiums.{most_basic, most_trials, Plan, distance, middle, halved, tried, halvings}
use Rattle.laws.proofs.Differences.{Differs, of-pos, of-add, of-minus, same}

-- ---- short as the number before `from`

abbrev pub before : ℕ → ℤ
before zero = negsuc 0
before (suc b) = pos b

pub before-differs : (from : ℕ) → Differs (before from) from 1
before-differs zero = record { is = omega arith }
before-differs (suc b) = record { is = omega arith }

pub before_is : (from : ℕ) → pos from -ℤ pos 1 ≡ before from
before_is from =
    same (pos from -ℤ pos 1) (before from) (of-minus (pos from) (pos 1) (of-pos from) (of-pos 1)) (before-differs from) (omega arith)

-- a plan after some trials
abbrev pub plan_with : ℕ → ℕ → ℕ → Plan
plan_with made best from = record { made = made; best = best; short = before from }

-- best − short, and best + short
pub apart-is : (best from w : ℕ) → best + 1 ≡ from + w → pos best -ℤ before from ≡ pos w
apart-is best from w e =
    same (pos best -ℤ before from) (pos w) (of-minus (pos best) (before from) (of-pos best) (before-differs from)) (of-pos w)
    (omega (arith, e))

sum_is : (best from : ℕ) → 1 ≤ best + from → pos best +ℤ before from ≡ pos (best + from - 1)
sum_is best from h =
    same (pos best +ℤ before from) (pos (best + from - 1)) (of-add (pos best) (before from) (of-pos best) (before-differs from))
    (of-pos (best + from - 1)) (omega (arith, h))

-- ---- one trial

-- the middle, of best and `from`
abbrev pub between : ℕ → ℕ → ℕ
between best from = (best + from - 1) / 2

-- half the distance above short
between_is : (best from w : ℕ) → best + 1 ≡ from + 2 * w → 1 ≤ w → between best from ≡ from + w - 1
between_is best from w e h = omega (arith, e, h)

middle-is : (made best from : ℕ) → 1 ≤ best + from → middle (plan_with made best from) ≡ between best from
middle-is made best from h = ap (λ (z : ℤ). nat_abs z / 2) (sum_is best from h)

-- it is exact: twice the middle is best + short
pub exact-middle : (made best from w : ℕ) → best + 1 ≡ from + 2 * w → 1 ≤ w
    → pos (2 * middle (plan_with made best from)) ≡ pos best +ℤ before from
exact-middle made best from w e h =
    let some : 1 ≤ best + from = omega (arith, e, h) in
    let twice : 2 * middle (plan_with made best from) ≡ best + from - 1 =
    omega (arith, middle-is made best from some, between_is best from w e h, e, h) in
    ap pos twice ∙ sym (sum_is best from some)

module _ (test : ℕ → Bool) where
  -- a trial where the distance is 2 × w
  halved_is : (made best from w : ℕ) → best + 1 ≡ from + 2 * w → 1 ≤ w
      → tried test (plan_with made best from)
      ≡ cond (test (between best from)) (plan_with (made + 1) (between best from) from) (plan_with (made + 1) best (between best from + 1))
  halved_is made best from w e h =
      let far : eqb (distance (plan_with made best from)) 1 ≡ false =
      ap (λ (z : ℤ). eqb (nat_abs z) 1) (apart-is best from (2 * w) e) ∙ ne_eqb (2 * w) 1 (λ x. absurd (omega (arith, x, h))) in
      ap (λ (t : Bool). cond t (plan_with made best from) (halved test (plan_with made best from))) far
      ∙ ap (λ (b : ℕ). cond (test b) (plan_with (made + 1) b from) (plan_with (made + 1) best (suc b)))
      (middle-is made best from (omega (arith, e, h)))
      ∙ ap (λ (f : ℕ). cond (test (between best from)) (plan_with (made + 1) (between best from) from) (plan_with (made + 1) best f))
      (sym (add-one (between best from)))

  -- where it is 1 no trial is made
  stays : (made best from : ℕ) → best + 1 ≡ from + 1 → tried test (plan_with made best from) ≡ plan_with made best from
  stays made best from e =
      let near : eqb (distance (plan_with made best from)) 1 ≡ true = ap (λ (z : ℤ). eqb (nat_abs z) 1) (apart-is best from 1 e) in
      ap (λ (t : Bool). cond t (plan_with made best from) (halved test (plan_with made best from))) near

-- ---- k trials

-- k trials, of which each was made
pub record Halving (test : ℕ → Bool) (k best from : ℕ) : Type 0 where
  pub is : halvings test k ≡ plan_with k best from
  pub apart : best + 1 ≡ from + 2 ^ (most_trials - k)
  pub most : best ≤ most_basic
  pub passes : test most_basic ≡ true → test best ≡ true
  pub falls : (b : ℕ) → b + 1 ≡ from → test b ≡ false

pub halving-starts : (test : ℕ → Bool) → Halving test 0 most_basic 0
unfolding halvings
halving-starts test = record {
  is = refl;
  apart = refl;
  most = omega arith;
  passes = λ e. e;
  falls = λ b e. absurd (omega (arith, e));
}

module _ {test : ℕ → Bool} {k best from : ℕ} (x : Halving test k best from) where
  -- best is never below `from`
  pub ordered : from ≤ best
  ordered = omega (arith, x.apart, pow_pos (most_trials - k))

  -- where they are apart, fewer than twenty trials were made
  pub few : from < best → k < most_trials
  few h = by_order (leb most_trials k) refl
    where
      by_order : (t : Bool) → leb most_trials k ≡ t → k < most_trials
      by_order false e = leb-false most_trials k e
      by_order true e =
          let none : most_trials - k ≡ 0 = omega (arith, leb-true most_trials k e) in
          absurd (omega (arith, x.apart, ap (λ (j : ℕ). 2 ^ j) none, h))

  -- where they are not, nothing changes any more
  ended : best ≤ from → (j : ℕ) → halvings test (k + j) ≡ plan_with k best from
  unfolding halvings
  ended h zero = ap (halvings test) (add-zero k) ∙ x.is
  ended h (suc j) =
      ap (halvings test) (add-suc k j) ∙ ap (tried test) (ended h j) ∙ stays test k best from (omega (arith, h, ordered))

  -- so for any number of trials: where as many were made, and where they are not apart any more
  pub given_made : {trials : ℕ} → k ≡ trials → halvings test trials ≡ plan_with k best from
  given_made e = ap (halvings test) (sym e) ∙ x.is

  pub no-more-made : {trials : ℕ} → k ≤ trials → best ≤ from → halvings test trials ≡ plan_with k best from
  no-more-made {trials} l h = ap (halvings test) (omega (arith, l)) ∙ ended h (trials - k)

  module _ (more : k < most_trials) where
    -- half of the distance
    abbrev half : ℕ
    half = 2 ^ (most_trials - (k + 1))

    twice : 2 ^ (most_trials - k) ≡ 2 * half
    twice =
        let e : most_trials - k ≡ suc (most_trials - (k + 1)) = omega (arith, more) in
        ap (λ (j : ℕ). 2 ^ j) e ∙ pow-succ' 2 (most_trials - (k + 1))

    some : 1 ≤ half
    some = pow_pos (most_trials - (k + 1))

    apart-twice : best + 1 ≡ from + 2 * half
    apart-twice = omega (arith, x.apart, twice)

    abbrev trial : ℕ
    trial = between best from

    trial-is : trial ≡ from + half - 1
    trial-is = between_is best from half apart-twice some

    pub trial-most : trial < best
    trial-most = omega (arith, trial-is, apart-twice, some)

    next : halvings test (k + 1) ≡ cond (test trial) (plan_with (k + 1) trial from) (plan_with (k + 1) best (trial + 1))
    unfolding halvings
    next = ap (halvings test) (add-one k) ∙ ap (tried test) x.is ∙ halved_is test k best from half apart-twice some

    next-by : {t : Bool} → test trial ≡ t
        → halvings test (k + 1) ≡ cond t (plan_with (k + 1) trial from) (plan_with (k + 1) best (trial + 1))
    next-by e = next ∙ ap (λ (t : Bool). cond t (plan_with (k + 1) trial from) (plan_with (k + 1) best (trial + 1))) e

    -- it becomes best if it reaches
    pub halving-reached : test (between best from) ≡ true → Halving test (k + 1) (between best from) from
    halving-reached e = record {
      is = next-by e;
      apart = omega (arith, trial-is, some);
      most = omega (arith, trial-most, x.most);
      passes = λ p. e;
      falls = x.falls;
    }

    -- and short if not
    pub halving-short : test (between best from) ≡ false → Halving test (k + 1) best (between best from + 1)
    halving-short e = record {
      is = next-by e;
      apart = omega (arith, trial-is, apart-twice, some);
      most = x.most;
      passes = x.passes;
      falls = λ b p. subst (λ (y : ℕ). test y ≡ false) (omega (arith, p)) e;
    }

-- ---- any number of trials

-- what any number of trials comes to: as many are made as the lesser of 20 and those given
pub record Halvings (test : ℕ → Bool) (trials : ℕ) : Type 0 where
  pub best : ℕ
  pub from : ℕ
  pub is : halvings test trials ≡ plan_with (min most_trials trials) best from
  pub halving : Halving test (min most_trials trials) best from

module _ (test : ℕ → Bool) where
  record After (k : ℕ) : Type 0 where
    best : ℕ
    from : ℕ
    halving : Halving test k best from

  after_one : {k best from : ℕ} → k < most_trials → Halving test k best from → (t : Bool) → test (between best from) ≡ t → After (k + 1)
  after_one more x true e = record { best = _; from = _; halving = halving-reached x more e }
  after_one more x false e = record { best = _; from = _; halving = halving-short x more e }

  after : (k : ℕ) → k ≤ most_trials → After k
  after zero h = record { best = most_basic; from = 0; halving = halving-starts test }
  after (suc k) h =
      let a = after k (omega (arith, h)) in
      subst After (add-one k) (after_one (omega (arith, h)) a.halving (test (between a.best a.from)) refl)

  pub halvings-are : (trials : ℕ) → Halvings test trials
  halvings-are trials = by_order (leb most_trials trials) refl
    where
      by_order : (t : Bool) → leb most_trials trials ≡ t → Halvings test trials
      by_order true e =
          let a = after most_trials (omega arith) in
          let all : min most_trials trials ≡ most_trials = omega (arith, leb-true most_trials trials e) in
          record {
            best = a.best;
            from = a.from;
            is =
                no-more-made a.halving (leb-true most_trials trials e) (omega (arith, a.halving.apart))
                ∙ ap (λ (k : ℕ). plan_with k a.best a.from) (sym all);
            halving = subst (λ (k : ℕ). Halving test k a.best a.from) (sym all) a.halving;
          }
      by_order false e =
          let a = after trials (omega (arith, leb-false most_trials trials e)) in
          let all : min most_trials trials ≡ trials = omega (arith, leb-false most_trials trials e) in
          record {
            best = a.best;
            from = a.from;
            is = a.halving.is ∙ ap (λ (k : ℕ). plan_with k a.best a.from) (sym all);
            halving = subst (λ (k : ℕ). Halving test k a.best a.from) (sym all) a.halving;
          }
