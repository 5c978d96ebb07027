-- What it means that a double is near a fraction. Every finite double is a whole number of the smallest doubles, of which 1 has `scale`;
-- an error is counted in grains, of which 1 has 2 ^ 60. A signed number is a difference of naturals: a fraction is (p − n) / N, and a
-- double of sign s and size g is (plus s g − minus s g) / scale. So each statement is an order of naturals, with products for atoms,
-- and a bound from below is one from above with the two parts of each difference exchanged. Assumes nothing.
use mathlib.Core.Path.{◌≡◌, refl, sym, ap, subst}
use mathlib.Core.Bool.{Bool, true, false}
use Prim.Native.Nat.{ℕ, ◌+◌, ◌*◌, ◌^◌, ◌≤◌, ◌<◌}
use native.Mathlib.Nat.{add-mul, mul-le-mul_right, le_of_mul-le-mul_right}
use native.Mathlib.Omega.{arith}
use lib.Dec.{lit<}
use lib.Ieee.{Float}
use lib.Ieee.Exact.{HasValue}

-- ---- the two units; their values stay shut, so that omega meets no number of hundreds of digits
unfoldable pub scale : ℕ
scale = 2 ^ 1074

unfoldable pub grain : ℕ
grain = 2 ^ 1014

-- the grains of 1
abbrev pub one : ℕ
one = 2 ^ 60

pub grains : scale ≡ one * grain
unfolding scale grain
grains = refl

pub grain-pos : 0 < grain
unfolding grain
grain-pos = lit< tt

pub scale-pos : 0 < scale
unfolding scale
scale-pos = lit< tt

-- ---- a signed number's two parts
abbrev pub plus : Bool → ℕ → ℕ
plus false g = g
plus true g = 0

abbrev pub minus : Bool → ℕ → ℕ
minus false g = 0
minus true g = g

-- (g − h) / scale is at most (p − n) / N + E / scale
abbrev pub AtMost : (g h p n N E : ℕ) → Type 0
AtMost g h p n N E = g * N + n * scale ≤ p * scale + h * N + E * N

-- x is finite, has the sign s and lies within e grains of (p − n) / N, where p and n together are at most m × N
pub record Near (x : Float) (s : Bool) (p n N m e : ℕ) : Type 0 where
  pub size : ℕ
  pub is : HasValue x s size scale
  pub high : AtMost (plus s size) (minus s size) p n N (e * grain)
  pub low : AtMost (minus s size) (plus s size) n p N (e * grain)
  pub small : p + n ≤ m * N

-- a sum's products, spread over its two parts
pub spread : (x y z u : ℕ) → (x + y) * z * u ≡ x * z * u + y * z * u
spread x y z u = omega arith

-- ---- from one fraction to another that it is close to
-- (P − M) / C is at most (p − n) / N + F / scale
abbrev pub Close : (P M C p n N F : ℕ) → Type 0
Close P M C p n N F = P * N * scale + n * C * scale ≤ p * C * scale + M * N * scale + F * C * N

at-most-move : (g h P M C p n N E F : ℕ) → 0 < C → AtMost g h P M C E → Close P M C p n N F → AtMost g h p n N (E + F)
at-most-move g h P M C p n N E F c a b = le_of_mul-le-mul_right {k = C} (sums scale (mul-le-mul_right N a) b) c
  where
    sums : (U : ℕ) → (g * C + M * U) * N ≤ (P * U + h * C + E * C) * N
        → P * N * U + n * C * U ≤ p * C * U + M * N * U + F * C * N → (g * N + n * U) * C ≤ (p * U + h * N + (E + F) * N) * C
    sums U t u = omega arith

pub move : {x : Float} {s : Bool} {P M C m e : ℕ} (p n N m' f : ℕ) → Near x s P M C m e → 0 < C
    → Close P M C p n N (f * grain) → Close M P C n p N (f * grain) → p + n ≤ m' * N → Near x s p n N m' (e + f)
move {s = s} {P} {M} {C} {e = e} p n N m' f v c a b k =
    let g = plus s v.size in
    let h = minus s v.size in
    let q : e * grain + f * grain ≡ (e + f) * grain = sym (add-mul e f grain) in
    record {
      size = v.size;
      is = v.is;
      high = subst (AtMost g h p n N) q (at-most-move g h P M C p n N (e * grain) (f * grain) c v.high a);
      low = subst (AtMost h g n p N) q (at-most-move h g M P C n p N (e * grain) (f * grain) c v.low b);
      small = k;
    }

-- ---- from one fraction to an equal one
at-most-same : (g h P M C p n N E : ℕ) → 0 < C → AtMost g h P M C E → P * N + n * C ≡ p * C + M * N → AtMost g h p n N E
at-most-same g h P M C p n N E c a q =
    le_of_mul-le-mul_right {k = C} (sums scale (mul-le-mul_right N a) (ap (λ (z : ℕ). z * scale) q)) c
  where
    sums : (U : ℕ) → (g * C + M * U) * N ≤ (P * U + h * C + E * C) * N → (P * N + n * C) * U ≡ (p * C + M * N) * U
        → (g * N + n * U) * C ≤ (p * U + h * N + E * N) * C
    sums U t u = omega arith

pub same : {x : Float} {s : Bool} {P M C m e : ℕ} (p n N m' : ℕ) → Near x s P M C m e → 0 < C
    → P * N + n * C ≡ p * C + M * N → p + n ≤ m' * N → Near x s p n N m' e
same {s = s} {P} {M} {C} {e = e} p n N m' v c q k =
    let g = plus s v.size in
    let h = minus s v.size in
    record {
      size = v.size;
      is = v.is;
      high = at-most-same g h P M C p n N (e * grain) c v.high q;
      low = at-most-same h g M P C n p N (e * grain) c v.low (omega arith);
      small = k;
    }

-- ---- a near double is, in size, at most the fraction's bound and one more
size-bound : (g p m N e : ℕ) → 0 < N → e ≤ one → g * N ≤ p * scale + e * grain * N → p ≤ m * N → g ≤ (m + 1) * scale
size-bound g p m N e c l a b =
    le_of_mul-le-mul_right {k = N}
    (sums (mul-le-mul_right scale b) (mul-le-mul_right N (mul-le-mul_right grain l)) (ap (λ (z : ℕ). z * N) grains)) c
  where
    sums : p * scale ≤ m * N * scale → e * grain * N ≤ one * grain * N → scale * N ≡ one * grain * N → g * N ≤ (m + 1) * scale * N
    sums t u w = omega arith

pub size-le : (x : Float) (s : Bool) {p n N m e : ℕ} (v : Near x s p n N m e) → 0 < N → e ≤ one → v.size ≤ (m + 1) * scale
size-le x false {p} {n} {N} {m} {e} v c l = size-bound v.size p m N e c l (omega (arith, v.high)) (omega (arith, v.small))
size-le x true {p} {n} {N} {m} {e} v c l = size-bound v.size n m N e c l (omega (arith, v.low)) (omega (arith, v.small))
