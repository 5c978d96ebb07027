-- Laws of the nearest whole number. (2a + b) ÷ 2b is a ÷ b to the nearest, since 2b times it is at most b from 2a; a multiple
-- of the divisor passes through it; where the divisor is even it is the quotient after half the divisor is added. Assumes nothing.
use mathlib.Core.Path.{◌≡◌, ap, ◌∙◌}
use mathlib.Core.List.{List, [], ◌∷◌}
use Prim.Native.Nat.{ℕ, ◌+◌, ◌*◌, ◌/◌, ◌%◌, ◌≤◌, ◌<◌}
use native.Mathlib.Omega.{arith}
use native.Mathlib.Nat.{div-add-mod, mod-lt, add-mul-div_left, mul-div-mul_left, lt_of_mul-lt-mul_left, lt_of_le_of_lt}
use lib.ListN.{length}
use Rattle.plan.specs.Arithmetic.{sum_of, nearest}
use Rattle.plan.specs.Premium.{bill_rounding}

-- a and b are at most k apart
pub record Within (a b k : ℕ) : Type 0 where
  pub low : a ≤ b + k
  pub high : b ≤ a + k

-- twice the divisor times the nearest is at most a divisor from twice the dividend
pub nearest-within : (a b : ℕ) → 0 < b → Within (2 * (b * nearest a b)) (2 * a) b
unfolding nearest
nearest-within a b p =
    let e = div-add-mod (2 * a + b) (2 * b) in
    let l : (2 * a + b) % (2 * b) < 2 * b = mod-lt (2 * a + b) {m = 2 * b} (omega arith) in
    record { low = omega (arith, e, l); high = omega (arith, e, l) }

-- a multiple of the divisor passes through
pub nearest-shift : (a b k : ℕ) → 0 < b → nearest (a + b * k) b ≡ nearest a b + k
unfolding nearest
nearest-shift a b k p =
    let e : 2 * (a + b * k) + b ≡ 2 * a + b + 2 * b * k = omega arith in
    ap (λ (x : ℕ). x / (2 * b)) e ∙ add-mul-div_left (2 * a + b) k {y = 2 * b} (omega arith)

-- half an even divisor is added, and the sum divided
pub nearest-even : (a k : ℕ) → 0 < k → nearest a (2 * k) ≡ (a + k) / (2 * k)
unfolding nearest
nearest-even a k p =
    let e : 2 * a + 2 * k ≡ 2 * (a + k) = omega arith in
    ap (λ (x : ℕ). x / (2 * (2 * k))) e ∙ mul-div-mul_left (a + k) (2 * k) (omega arith)

-- the sum of numbers each within k of another is within as many k of the sum
pub sum-within : {A : Type 0} (k : ℕ) (f g : A → ℕ) → ((x : A) → Within (f x) (g x) k) → (l : List A)
    → Within (sum_of f l) (sum_of g l) (length l * k)
sum-within k f g h [] = record { low = omega arith; high = omega arith }
sum-within k f g h (x ∷ xs) =
    let a = h x in
    let b = sum-within k f g h xs in
    record { low = omega (arith, a.low, b.low); high = omega (arith, a.high, b.high) }

-- ---- the rule by which premiums are billed

-- the one law by which a bill is compared: d times the bill is at most half of d from the dividend, here with d twice k
pub bill-within : (k a : ℕ) → 0 < k → Within (2 * k * bill_rounding a (2 * k)) a k
unfolding bill_rounding
bill-within k a p =
    let w = nearest-within a (2 * k) (omega arith) in
    record { low = omega (arith, w.low); high = omega (arith, w.high) }

-- what is within half a divisor of a bound's multiple is below the bound
pub within-lt : (k x a b : ℕ) → Within (2 * k * x) a k → a + k < 2 * k * b → x < b
within-lt k x a b w h = lt_of_mul-lt-mul_left (2 * k) (lt_of_le_of_lt w.low h)

-- how the code bills: half the divisor is added, and the sum divided
pub bill-even : (a k : ℕ) → 0 < k → bill_rounding a (2 * k) ≡ (a + k) / (2 * k)
unfolding bill_rounding
bill-even a k p = nearest-even a k p
