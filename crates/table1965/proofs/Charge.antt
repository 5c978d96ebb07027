-- The charge is 1 divided by the denominator's double. Where the exact denominator is at least 1 and its double is off by at most 10 ^ 11
-- grains, less than a ten-millionth, the charge is within a millionth of the exact quotient: the denominator's error counts at most three times, the
-- charge being at most 3, and the last rounding adds 1,026 grains. Assumes nothing.
use mathlib.Core.Path.{◌≡◌, sym, ap, subst}
use mathlib.Core.Bool.{true, false, true≢false}
use Prim.Native.Nat.{ℕ, ◌+◌, ◌*◌, ◌^◌, ◌≤◌, ◌<◌}
use native.Mathlib.Nat.{add-mul, mul-le-mul, mul-le-mul_right, le_of_mul-le-mul_right, mul-pos}
use native.Mathlib.Omega.{arith}
use lib.IntN.{pos}
use lib.Dec.{lit<, lit≤}
use lib.Ieee.{Float, nan, inf, fin, binary64, up, down, round}
use lib.Ieee.Exact.{HasValue}
use Rattle.plan.specs.Doubles.{◌/ᵈ◌, whole}
use Rattle.plan.specs.Charge.{Within, apart}
use Rattle.table1965.proofs.Near.{scale, scale-pos, grain, grain-pos, grains, Near, same}
use Rattle.table1965.proofs.Rounding.{round-near}
use Rattle.table1965.proofs.Sum.{Either}
use Rattle.table1965.proofs.Division.{div_is, whole_is}

-- ---- D is the exact denominator times N; d and c are the doubles of the denominator and of the charge, times U; E is the denominator's
-- error and 513 × W the last rounding's, times U too. Each fact is taken times what it is needed times, and they are added up
module _ (D N d c U W E : ℕ) where
  rounding-part : d * N ≤ D * U + E * N → E * N ≤ U * D → 513 * W * d * N ≤ 1026 * (D * U * W)
  rounding-part high e = omega (arith, mul-le-mul_right W high, mul-le-mul_right W e)

  error-part : c * N ≤ 3 * U * D → c * E * N ≤ 3 * (D * U * E)
  error-part e = omega (arith, mul-le-mul_right E e)

  parted : (1026 * W + 3 * E) * D * U ≡ 1026 * (D * U * W) + 3 * (D * U * E)
  parted = omega arith

  charge-high : D * U ≤ d * N + E * N → c * d ≤ U * U + 513 * W * d → c * D * U ≤ N * U * U + 513 * W * d * N + c * E * N
  charge-high low over = omega (arith, mul-le-mul_right c low, mul-le-mul_right N over)

  charge-low : d * N ≤ D * U + E * N → U * U ≤ c * d + 513 * W * d → N * U * U ≤ c * D * U + 513 * W * d * N + c * E * N
  charge-low high under = omega (arith, mul-le-mul_right c high, mul-le-mul_right N under)

  slack : d * N ≤ D * U + E * N → N ≤ D → c ≤ 3 * U → E ≤ U → 513 * W * d * N + c * E * N ≤ (1026 * W + 3 * E) * D * U
  slack high least charge error =
      omega (arith, rounding-part high (mul-le-mul error least), error-part (mul-le-mul charge least), parted)

-- ---- a small error leaves the denominator's double at least a half, and the charge at most 3
abbrev tolerated : ℕ
tolerated = 10 ^ 11

twice-error : (e : ℕ) → e ≤ tolerated → 2 * (e * grain) ≤ scale
twice-error e h = omega (arith, mul-le-mul_right grain h, grains)

half : (D N d e : ℕ) → 0 < N → N ≤ D → e ≤ tolerated → D * scale ≤ d * N + e * grain * N → scale ≤ 2 * d
half D N d e c l h k = le_of_mul-le-mul_right {k = N} (sums (mul-le-mul_right scale l) (mul-le-mul_right N (twice-error e h))) c
  where
    sums : N * scale ≤ D * scale → 2 * (e * grain) * N ≤ scale * N → scale * N ≤ 2 * d * N
    sums t u = omega arith

charge-le : (c d : ℕ) → 0 < d → scale ≤ 2 * d → c * d ≤ scale * scale + 513 * grain * d → c ≤ 3 * scale
charge-le c d p l h = le_of_mul-le-mul_right {k = d} (sums (mul-le-mul_right scale l) (mul-le-mul_right d small)) p
  where
    small : 513 * grain ≤ scale
    small = omega (arith, grains)

    sums : scale * scale ≤ 2 * d * scale → 513 * grain * d ≤ scale * d → c * d ≤ 3 * scale * d
    sums t u = omega arith

-- ---- below a millionth
millionth : (e D : ℕ) → e ≤ tolerated → (1026 * grain + 3 * (e * grain)) * D * 1000000 ≤ scale * D
millionth e D h = omega (arith, mul-le-mul_right (grain * D) h, mul-le-mul_right D grain-pos, ap (λ (z : ℕ). z * D) grains)

-- a × scale is at most b × scale, but for the slack
below : (a b S D x y : ℕ) → S * D * 1000000 ≤ scale * D → a * scale ≤ b * scale + x + y → x + y ≤ S * D * scale
    → a * 1000000 ≤ b * 1000000 + scale * D
below a b S D x y m h k = sums (le_of_mul-le-mul_right {k = scale} factored scale-pos)
  where
    factored : a * scale ≤ (b + S * D) * scale
    factored = omega (arith, add-mul b (S * D) scale)

    sums : a ≤ b + S * D → a * 1000000 ≤ b * 1000000 + scale * D
    sums t = omega arith

-- ---- over the double's own digits, where A / q is c / scale
digits : (A q c D N : ℕ) → A * scale ≡ c * q → c * D * 1000000 ≤ N * scale * 1000000 + scale * D
    → N * scale * 1000000 ≤ c * D * 1000000 + scale * D → apart (A * D) (N * q) * 1000000 ≤ D * q
digits A q c D N i h k =
    let e = ap (λ (z : ℕ). z * D) i in
    both (le_of_mul-le-mul_right {k = scale} (over e (mul-le-mul_right q h)) scale-pos)
    (le_of_mul-le-mul_right {k = scale} (under e (mul-le-mul_right q k)) scale-pos)
  where
    over : A * scale * D ≡ c * q * D → c * D * 1000000 * q ≤ (N * scale * 1000000 + scale * D) * q
        → A * D * 1000000 * scale ≤ (N * q * 1000000 + D * q) * scale
    over t u = omega arith

    under : A * scale * D ≡ c * q * D → N * scale * 1000000 * q ≤ (c * D * 1000000 + scale * D) * q
        → N * q * 1000000 * scale ≤ (A * D * 1000000 + D * q) * scale
    under t u = omega arith

    both : A * D * 1000000 ≤ N * q * 1000000 + D * q → N * q * 1000000 ≤ A * D * 1000000 + D * q
        → apart (A * D) (N * q) * 1000000 ≤ D * q
    both t u = omega arith

within_of : (x : Float) (c D N : ℕ) → HasValue x false c scale → 0 < D → c * D * 1000000 ≤ N * scale * 1000000 + scale * D
    → N * scale * 1000000 ≤ c * D * 1000000 + scale * D → Within x N (pos D)
within_of nan c D N v p h k = absurd v
within_of (inf s) c D N v p h k = absurd v
within_of (fin true m e) c D N v p h k = absurd (true≢false v.0)
within_of (fin false m e) c D N v p h k = (p, digits (m * up e) (down e) c D N v.1 h k)

-- ---- 1 divided by a double d / scale that is near D / N
module _ (D N d e : ℕ) (p : 0 < N) (l : N ≤ D) (k : e ≤ tolerated)
    (high : d * N ≤ D * scale + e * grain * N) (low : D * scale ≤ d * N + e * grain * N) where
  double-pos : 0 < d
  double-pos = go (half D N d e p l k low)
    where
      go : scale ≤ 2 * d → 0 < d
      go h = omega (arith, scale-pos)

  module _ (c : ℕ) (over : c * d ≤ scale * scale + 513 * grain * d) (under : scale * scale ≤ c * d + 513 * grain * d) where
    all-slack : 513 * grain * d * N + c * (e * grain) * N ≤ (1026 * grain + 3 * (e * grain)) * D * scale
    all-slack =
        slack D N d c scale grain (e * grain) high l (charge-le c d double-pos (half D N d e p l k low) over)
        (omega (arith, twice-error e k))

    not_above : c * D * 1000000 ≤ N * scale * 1000000 + scale * D
    not_above =
        below (c * D) (N * scale) (1026 * grain + 3 * (e * grain)) D (513 * grain * d * N) (c * (e * grain) * N) (millionth e D k)
        (charge-high D N d c scale grain (e * grain) low over) all-slack

    not_below : N * scale * 1000000 ≤ c * D * 1000000 + scale * D
    not_below =
        below (N * scale) (c * D) (1026 * grain + 3 * (e * grain)) D (513 * grain * d * N) (c * (e * grain) * N) (millionth e D k)
        (charge-low D N d c scale grain (e * grain) high under) all-slack

  divided : (y : Float) → HasValue y false d scale → Within (whole 1 /ᵈ y) N (pos D)
  divided y v = go (round-near false (1 * scale) (d * 1) 2 (omega (arith, double-pos)) (omega (arith, half D N d e p l k low)) (lit≤ tt))
    where
      go : Near (round binary64 false (1 * scale) (d * 1)) false (1 * scale) 0 (d * 1) 2 513 → Within (whole 1 /ᵈ y) N (pos D)
      go r =
          within_of (whole 1 /ᵈ y) r.size D N
          (subst (λ (z : Float). HasValue z false r.size scale)
          (sym (div_is (whole 1) y false 1 1 d scale (lit< tt) scale-pos double-pos (whole_is 1 (lit≤ tt)) v)) r.is)
          (omega arith)
          (not_above r.size (omega (arith, r.high)) (omega (arith, r.low)))
          (not_below r.size (omega (arith, r.high)) (omega (arith, r.low)))

-- ---- the same where D is P − M, and the double's sign is to be worked out
not_negative : (g P M N e : ℕ) → 0 < N → N + M ≤ P → e ≤ tolerated → g * N + P * scale ≤ M * scale + 0 * N + e * grain * N → ⊥
not_negative g P M N e c h k l =
    omega (arith, mul-le-mul_right scale h, mul-le-mul_right N (twice-error e k), mul-pos c scale-pos)

pub charge-within : (y : Float) (P M D N m e : ℕ) → Either y P M N m e → 0 < N → D + M ≡ P → N ≤ D → e ≤ tolerated
    → Within (whole 1 /ᵈ y) N (pos D)
charge-within y P M D N m e (true, v) p q l k = absurd (not_negative v.size P M N e p (omega arith) k v.low)
charge-within y P M D N m e (false, v) p q l k = go (same D 0 N m v p (omega (arith, ap (λ (z : ℕ). z * N) q)) (omega (arith, v.small)))
  where
    go : Near y false D 0 N m e → Within (whole 1 /ᵈ y) N (pos D)
    go w = divided D N w.size e p l k (omega (arith, w.high)) (omega (arith, w.low)) y w.is
