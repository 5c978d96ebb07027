-- The formula's denominator in doubles, 1 + r + r × r × (b2 + r × (b3 + .. + r × b8)) with r up to 5 and each coefficient up to 2 in size,
-- is near the exact one over 10 ^ 23. The exact one is a difference of naturals: each of the two adds up the coefficients of one sign.
-- From b8 outwards the values grow from 2 to 976,556 at most, and the errors from 513 grains to 10,555,506,103, which is about a
-- hundred-millionth. Assumes nothing.
use mathlib.Core.Path.{◌≡◌, refl, ap}
use mathlib.Core.Bool.{false}
use Prim.Native.Nat.{ℕ, ◌+◌, ◌*◌, ◌^◌, ◌≤◌, ◌<◌}
use native.Mathlib.Nat.{mul-le-mul_right}
use native.Mathlib.Omega.{arith}
use lib.IntN.{ℤ, pos, nat_abs}
use lib.Dec.{lit<, lit≤}
use lib.Ieee.{Float, of_int}
use Rattle.plan.specs.Doubles.{◌+ᵈ◌, ◌*ᵈ◌, whole}
use Rattle.plan.specs.Charge.{from_ten_millionths, ratio_double, last_ratio}
use Rattle.laws.proofs.Differences.{over, under}
use Rattle.table1965.proofs.Near.{Near, same}
use Rattle.table1965.proofs.Rounding.{off, round-near}
use Rattle.table1965.proofs.Product.{mul-near}
use Rattle.table1965.proofs.Sum.{Either, add-near}
use Rattle.table1965.proofs.Division.{negative, quotient-near}

-- ---- the coefficients, b2 first
-- what those of one sign add up to, times 10,000,000 × 100 ^ 6
abbrev pile : (ℕ → ℕ) → ℕ → ℕ
pile a r =
    100 ^ 6 * a 0
    + r * (100 ^ 5 * a 1 + r * (100 ^ 4 * a 2 + r * (100 ^ 3 * a 3 + r * (100 ^ 2 * a 4 + r * (100 ^ 1 * a 5 + r * a 6)))))

abbrev pub gives : (ℕ → ℤ) → ℕ → ℕ
gives b = pile (λ i. over (b i))

abbrev pub takes : (ℕ → ℤ) → ℕ → ℕ
takes b = pile (λ i. under (b i))

-- at most 2 in size
abbrev pub Fits : ℤ → Type 0
Fits z = nat_abs z ≤ 20000000

coefficient-near : (z : ℤ) → Fits z → Near (from_ten_millionths z) (negative z) (over z) (under z) 10000000 2 (off 2)
coefficient-near z h = quotient-near z 10000000 2 h (lit< tt) (lit≤ tt) (lit≤ tt) (lit≤ tt)

module _ (r : ℕ) (top : r ≤ last_ratio) where
  ratio-near : Near (ratio_double r) false r 0 100 5 (off 5)
  ratio-near = quotient-near (pos r) 100 5 top (lit< tt) (lit≤ tt) (lit≤ tt) (lit≤ tt)

  -- b + r × x, with x over N and the result over 100 × N, in which b's 10,000,000 goes K times
  step : (z : ℤ) (K N : ℕ) {x : Float} {p n m e : ℕ} → Fits z → 0 < N → 100 * N ≡ K * 10000000 → m ≤ 2 ^ 30 → e ≤ 2 ^ 50
      → Either x p n N m e
      → Either (from_ten_millionths z +ᵈ ratio_double r *ᵈ x) (K * over z + r * p) (K * under z + r * n) (100 * N) (2 + 5 * m)
      (off (2 + 5 * m + 2) + (off 2 + (off (6 * (m + 1)) + (6 * e + off 5 * m))))
  step z K N h c q l k (s, v) =
      let b = coefficient-near z h in
      add-near
      (same (K * over z) (K * under z) (100 * N) 2 b (lit< tt) (cross (over z) (under z)) (wide (over z) (under z) b.small))
      (mul-near ratio-near v (lit< tt) c (lit≤ tt) (omega arith) (omega arith)) (omega arith) (lit≤ tt) (omega arith) (omega arith)
    where
      cross : (a d : ℕ) → a * (100 * N) + K * d * 10000000 ≡ K * a * 10000000 + d * (100 * N)
      cross a d = omega (arith, ap (λ (o : ℕ). a * o) q, ap (λ (o : ℕ). d * o) q)

      wide : (a d : ℕ) → a + d ≤ 2 * 10000000 → K * a + K * d ≤ 2 * (100 * N)
      wide a d i = omega (arith, mul-le-mul_right K i)

  -- ---- r × r and 1 + r
  square-near : Near (ratio_double r *ᵈ ratio_double r) false (r * r) 0 10000 25 23308
  square-near =
      let v = mul-near ratio-near ratio-near (lit< tt) (lit< tt) (lit≤ tt) (lit≤ tt) (lit≤ tt) in
      same (r * r) 0 10000 25 v (lit< tt) (omega arith) (omega (arith, mul-le-mul_right r top))

  one-near : Near (whole 1) false (10 ^ 23) 0 (10 ^ 23) 1 (off 1)
  unfolding of_int
  one-near = same (10 ^ 23) 0 (10 ^ 23) 1 (round-near false 1 1 1 (lit< tt) (lit≤ tt) (lit≤ tt)) (lit< tt) refl (lit≤ tt)

  head_near : Either (whole 1 +ᵈ ratio_double r) (10 ^ 23 + r * 10 ^ 21) 0 (10 ^ 23) 6 3587
  head_near =
      let v = same (r * 10 ^ 21) 0 (10 ^ 23) 5 ratio-near (lit< tt) (omega arith) (omega arith) in
      add-near one-near v (lit< tt) (lit≤ tt) (lit≤ tt) (lit≤ tt)

  module _ (b : ℕ → ℤ) (f : (i : ℕ) → i < 7 → Fits (b i)) where
    -- ---- b2 + r × (b3 + .. + r × b8), over 10,000,000 × 100 ^ 6
    abbrev nest : Float
    nest =
        let c : ℕ → Float = λ i. from_ten_millionths (b i) in
        let R = ratio_double r in
        c 0 +ᵈ R *ᵈ (c 1 +ᵈ R *ᵈ (c 2 +ᵈ R *ᵈ (c 3 +ᵈ R *ᵈ (c 4 +ᵈ R *ᵈ (c 5 +ᵈ R *ᵈ c 6)))))

    nest-near : Either nest (gives b r) (takes b r) (10 ^ 19) 39062 351347817
    nest-near =
        step (b 0) (100 ^ 6) (10 ^ 17) (f 0 (lit< tt)) (lit< tt) refl (lit≤ tt) (lit≤ tt)
        (step (b 1) (100 ^ 5) (10 ^ 15) (f 1 (lit< tt)) (lit< tt) refl (lit≤ tt) (lit≤ tt)
        (step (b 2) (100 ^ 4) (10 ^ 13) (f 2 (lit< tt)) (lit< tt) refl (lit≤ tt) (lit≤ tt)
        (step (b 3) (100 ^ 3) (10 ^ 11) (f 3 (lit< tt)) (lit< tt) refl (lit≤ tt) (lit≤ tt)
        (step (b 4) (100 ^ 2) (10 ^ 9) (f 4 (lit< tt)) (lit< tt) refl (lit≤ tt) (lit≤ tt)
        (step (b 5) (100 ^ 1) (10 ^ 7) (f 5 (lit< tt)) (lit< tt) refl (lit≤ tt) (lit≤ tt)
        (negative (b 6), coefficient-near (b 6) (f 6 (lit< tt))))))))

    -- ---- the denominator
    pub denominator-near : Either (whole 1 +ᵈ ratio_double r +ᵈ ratio_double r *ᵈ ratio_double r *ᵈ nest)
        (10 ^ 23 + r * 10 ^ 21 + r * r * gives b r) (0 + r * r * takes b r) (10 ^ 23) 976556 10555506103
    denominator-near =
        let (s, v) = head_near in
        let (t, w) = nest-near in
        add-near v (mul-near square-near w (lit< tt) (lit< tt) (lit≤ tt) (lit≤ tt) (lit≤ tt)) (lit< tt) (lit≤ tt) (lit≤ tt) (lit≤ tt)
