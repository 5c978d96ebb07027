-- The error of one rounding. `round` works out num / den in units of the smallest double, keeps 53 binary digits of the whole part and
-- drops k, so its result is off by at most 2 ^ k units. Where digits are dropped, the fraction is at least 2 ^ (52 + k) units: so a
-- fraction up to m is rounded with an error of at most 2 ^ -52 × m, which is 256 × m grains, and one grain more covers the case where
-- none is dropped. A fraction up to 2 ^ 40 is far from overflow. Assumes nothing.
use mathlib.Core.Path.{◌≡◌, refl, sym, ap, subst}
use mathlib.Core.Bool.{Bool, true, false}
use Prim.Native.Nat.{ℕ, zero, suc, ◌+◌, ◌-◌, ◌*◌, ◌/◌, ◌%◌, ◌^◌, ◌≤◌, ◌<◌, compare}
use native.Mathlib.Nat.{le_trans, lt_of_le_of_lt, mul-le-mul_right, le_of_mul-le-mul_right, mul-pos}
use native.Mathlib.Nat.{le-div_iff_mul-le, div-add-mod', mod-lt}
use native.Mathlib.Omega.{arith}
use lib.Dec.{lit<}
use lib.Pow.{pow-add, pow_pos}
use lib.Ieee.{Float, binary64, size, round}
use lib.Ieee.Digits.{size_reaches}
use lib.Ieee.Exact.{HasValue, units_val}
use lib.Ieee.Fits.{nearest-le, round_is}
use lib.Ieee.Nearest.{closest, nearest-ge}
use lib.Ieee.Order.{drop, kept}
use lib.Ieee.Scale.{grid, overflow}
use Rattle.table1965.proofs.Near.{scale, grain, grain-pos, grains, one, plus, minus, Near}

-- what is rounded is at most this
abbrev pub limit : ℕ
limit = 2 ^ 40

-- the grains by which a fraction up to m is rounded wrong at most
abbrev pub off : ℕ → ℕ
off m = 256 * m + 1

-- ---- the nearest whole number to a / b is off by at most 1
closest-high : (a b : ℕ) → closest a b * b ≤ a + b
closest-high a b = go (closest a b) (a / b) (a % b) (nearest-le (a / b) (compare (a % b * 2) b)) (div-add-mod' a b)
  where
    go : (c q r : ℕ) → c ≤ suc q → q * b + r ≡ a → c * b ≤ a + b
    go c q r l e = omega (arith, mul-le-mul_right b l)

closest-low : (a b : ℕ) → 0 < b → a ≤ closest a b * b + b
closest-low a b h = go (closest a b) (a / b) (a % b) (nearest-ge (a / b) (compare (a % b * 2) b)) (div-add-mod' a b) (mod-lt a h)
  where
    go : (c q r : ℕ) → q ≤ c → q * b + r ≡ a → r < b → a ≤ c * b + b
    go c q r l e k = omega (arith, mul-le-mul_right b l)

-- ---- the unit that is kept, 2 ^ k of the smallest doubles, times den
dropped : (t num den m : ℕ) → 2 ^ 52 * t * den ≤ num * scale → num ≤ m * den → den * t ≤ off m * grain * den
dropped t num den m g h = omega (arith, mul-le-mul_right grain h, ap (λ (z : ℕ). num * z) grains)

none_dropped : (den m : ℕ) → den * 1 ≤ off m * grain * den
none_dropped den m = omega (arith, mul-le-mul_right den grain-pos)

unit-le : (num den m : ℕ) → 0 < den → num ≤ m * den → den * 2 ^ drop 53 (num * scale) den ≤ off m * grain * den
unit-le num den m c h =
    let w = num * scale / den in
    go (size w) (drop 53 (num * scale) den) refl (size_reaches w)
  where
    go : (z k : ℕ) → z - 53 ≡ k → ((j : ℕ) → j < z → 2 ^ j ≤ num * scale / den) → den * 2 ^ k ≤ off m * grain * den
    go z zero e f = none_dropped den m
    go z (suc k) e f =
        let l : 2 ^ (52 + suc k) * den ≤ num * scale = (le-div_iff_mul-le c).0 (f (52 + suc k) (omega arith)) in
        dropped (2 ^ suc k) num den m (subst (λ (x : ℕ). x * den ≤ num * scale) (pow-add 2 52 (suc k)) l) h

-- ---- the result, in units of the smallest double
abbrev result : ℕ → ℕ → ℕ
result num den = kept 53 (num * scale) den * 2 ^ drop 53 (num * scale) den

result-high : (num den m : ℕ) → 0 < den → num ≤ m * den → result num den * den ≤ num * scale + off m * grain * den
result-high num den m c h =
    let t = 2 ^ drop 53 (num * scale) den in
    go (num * scale) (off m * grain * den) t (kept 53 (num * scale) den) (unit-le num den m c h) (closest-high (num * scale) (den * t))
  where
    go : (n E t q : ℕ) → den * t ≤ E → q * (den * t) ≤ n + den * t → q * t * den ≤ n + E
    go n E t q u l = omega arith

result_low : (num den m : ℕ) → 0 < den → num ≤ m * den → num * scale ≤ result num den * den + off m * grain * den
result_low num den m c h =
    let k = drop 53 (num * scale) den in
    go (num * scale) (off m * grain * den) (2 ^ k) (kept 53 (num * scale) den) (unit-le num den m c h)
    (closest-low (num * scale) (den * 2 ^ k) (mul-pos c (pow_pos k)))
  where
    go : (n E t q : ℕ) → den * t ≤ E → n ≤ q * (den * t) + den * t → n ≤ q * t * den + E
    go n E t q u l = omega arith

-- ---- no overflow
far : 2 ^ 101 * grain < overflow binary64
unfolding grain
far = lit< tt

finite : (q num den m : ℕ) → 0 < den → num ≤ m * den → m ≤ limit → q * den ≤ num * scale + off m * grain * den → q < overflow binary64
finite q num den m c h k l =
    lt_of_le_of_lt
    (le_trans (le_of_mul-le-mul_right {k = den} (sums (mul-le-mul_right grain h) (ap (λ (z : ℕ). num * z) grains)) c)
    (mul-le-mul_right grain factor))
    far
  where
    sums : num * grain ≤ m * den * grain → num * scale ≡ num * (one * grain) → q * den ≤ ((one + 256) * m + 1) * grain * den
    sums t u = omega arith

    factor : (one + 256) * m + 1 ≤ 2 ^ 101
    factor = omega arith

round-value : (s : Bool) (num den : ℕ) → result num den < overflow binary64 → HasValue (round binary64 s num den) s (result num den) scale
unfolding scale
round-value s num den h =
    let n = num * 2 ^ 1074 in
    subst (λ (z : Float). HasValue z s (grid binary64 num den) (2 ^ 1074)) (sym (round_is binary64 s num den))
    (units_val binary64 s (kept 53 n den) (drop 53 n den) h)

-- ---- a fraction up to m, rounded
pub round-near : (s : Bool) (num den m : ℕ) → 0 < den → num ≤ m * den → m ≤ limit
    → Near (round binary64 s num den) s (plus s num) (minus s num) den m (off m)
round-near false num den m c h k =
    let a = result-high num den m c h in
    let b = result_low num den m c h in
    record {
      size = result num den;
      is = round-value false num den (finite (result num den) num den m c h k a);
      high = omega (arith, a);
      low = omega (arith, b);
      small = omega arith;
    }
round-near true num den m c h k =
    let a = result-high num den m c h in
    let b = result_low num den m c h in
    record {
      size = result num den;
      is = round-value true num den (finite (result num den) num den m c h k a);
      high = omega (arith, b);
      low = omega (arith, a);
      small = omega arith;
    }
