-- The thousandths of a charge. A whole number as a double is exact, so of the whole numbers up to 1,000 those at most a double y are the
-- ones up to y's whole part: the greatest is the lesser of 1,000 and that part, and 0 where y is below 1, a NaN or negative. From
-- that, at r 1.00 the thousandths are ten times the column's hundredths, by one test over the columns. Assumes nothing.
use Prim.Native.Nat.{ℕ, zero, suc, ◌+◌, ◌*◌, ◌-◌, ◌/◌, ◌^◌, ◌<◌, ◌≤◌, min, max}
use mathlib.Core.Path.{◌≡◌, refl, sym, ap, ◌∙◌, subst}
use mathlib.Core.Bool.{Bool, true, false, not, cond, ◌&&◌, ◌||◌, true≢false}
use native.Mathlib.Nat.{le_trans, le_of_eq, lt_of_not-le, lt_irrefl, zero-lt-suc, mul-one, mul_right_comm, mul-pos}
use native.Mathlib.Nat.{le_of_mul-le-mul_right, le-div_iff_mul-le, div-lt_iff_lt-mul}
use native.Mathlib.Omega.{arith}
use lib.IntN.{ℤ, pos}
use lib.Dec.{T, ltb, eqb, ltb→lt, lt→ltb, eqb→eq, eqb-suc-zero, T_not, lit≤, lit<}
use lib.Ieee.{Float, nan, inf, fin, binary64, up, down, of_int, le, lt, eq, to_unsigned, add, mul, div}
use lib.Ieee.Fits.{down_pos}
use lib.Ieee.Exact.{HasValue}
use lib.Ieee.Back.{round_whole}
use lib.Ieee.Order.{le_of_values}
use Rattle.plan.specs.Doubles.{whole, at_most}
use Rattle.plan.specs.Matrix.{first_column, last_column}
use Rattle.plan.specs.Charge.{charge_double, greatest, raised, thousandths}
use Rattle.laws.proofs.Columns.{at_columns, at-column}

-- ---- a whole number as a double

pub whole-value : (k : ℕ) → k ≤ 2 ^ 53 → HasValue (whole k) false k 1
unfolding of_int
whole-value k h = round_whole binary64 false k h

-- ---- which whole numbers are at most y

-- of two numbers that are not negative
tested_le : (a b : ℕ) → T (ltb a b || (eqb a b && true)) → a ≤ b
tested_le a b = go (ltb a b) (eqb a b) (ltb→lt a b) (eqb→eq a b)
  where
    go : (x y : Bool) → (T x → a < b) → (T y → a ≡ b) → T (x || (y && true)) → a ≤ b
    go true y p q t = omega (arith, p tt)
    go false true p q t = omega (arith, q tt)
    go false false p q t = absurd t

-- y's whole part
abbrev pub whole_part : ℕ → ℤ → ℕ
whole_part m e = m * up e / down e

module _ (m : ℕ) (e : ℤ) where
  at-most-yes : (x : Float) (k : ℕ) → HasValue x false k 1 → T (at_most x (fin false m e)) → k ≤ whole_part m e
  unfolding le lt eq
  at-most-yes nan k v t = absurd v
  at-most-yes (inf s) k v t = absurd v
  at-most-yes (fin true a d) k v t = absurd (true≢false v.0)
  at-most-yes (fin false a d) k v t =
      let crossed : a * up d * down e ≤ m * up e * down d = tested_le (a * up d * down e) (m * up e * down d) t in
      let is : a * up d ≡ k * down d = sym (mul-one (a * up d)) ∙ v.1 in
      let over : k * down d * down e ≤ m * up e * down d = subst (λ (z : ℕ). z * down e ≤ m * up e * down d) is crossed in
      (le-div_iff_mul-le (down_pos e)).1
      (le_of_mul-le-mul_right (subst (λ (z : ℕ). z ≤ m * up e * down d) (mul_right_comm k (down d) (down e)) over) (down_pos d))

  at-most-no : (x : Float) (k : ℕ) → HasValue x false k 1 → T (not (at_most x (fin false m e))) → whole_part m e < k
  at-most-no x k v t =
      lt_of_not-le (λ (g : k ≤ whole_part m e).
      let crossed : k * down e ≤ m * up e * 1 = le_trans ((le-div_iff_mul-le (down_pos e)).0 g) (le_of_eq (sym (mul-one (m * up e)))) in
      T_not (at_most x (fin false m e)) t (le_of_values x (fin false m e) k 1 (m * up e) (down e) (lit< tt) (down_pos e) v (refl, refl) crossed))

-- the doubles at most which no number above 0 is
abbrev low : Float → Bool
low nan = true
low (inf s) = s
low (fin s m e) = s

not-zero : (a : ℕ) → 0 < a → eqb a 0 ≡ false
not-zero zero h = absurd (lt_irrefl 0 h)
not-zero (suc a) h = eqb-suc-zero a

neither : (b c : Bool) → c ≡ false → (b && (false || c)) ≡ false
neither true c e = e
neither false c e = refl

at-most-low : (x y : Float) (k : ℕ) → HasValue x false (suc k) 1 → T (low y) → at_most x y ≡ false
unfolding le lt eq
at-most-low nan y k v t = absurd v
at-most-low (inf s) y k v t = absurd v
at-most-low (fin true a d) y k v t = absurd (true≢false v.0)
at-most-low (fin false a d) nan k v t = refl
at-most-low (fin false a d) (inf true) k v t = refl
at-most-low (fin false a d) (inf false) k v t = absurd t
at-most-low (fin false a d) (fin false m e) k v t = absurd t
at-most-low (fin false a d) (fin true m e) k v t =
    let is : a * up d ≡ suc k * down d = sym (mul-one (a * up d)) ∙ v.1 in
    let some : 0 < a * up d = subst (λ (z : ℕ). 0 < z) (sym is) (mul-pos (zero-lt-suc k) (down_pos d)) in
    neither (eqb (a * up d * down e) (m * up e * down d)) (eqb (a * up d * down e) 0) (not-zero (a * up d * down e) (mul-pos some (down_pos e)))

at-most-infinity : (x : Float) (k : ℕ) → HasValue x false k 1 → at_most x (inf false) ≡ true
unfolding le lt eq
at-most-infinity nan k v = absurd v
at-most-infinity (inf s) k v = absurd v
at-most-infinity (fin s a d) k v = refl

-- ---- the greatest

-- the whole part of y, of at most k
abbrev pub whole_up_to : ℕ → Float → ℕ
whole_up_to k nan = 0
whole_up_to k (inf true) = 0
whole_up_to k (inf false) = k
whole_up_to k (fin true m e) = 0
whole_up_to k (fin false m e) = min k (whole_part m e)

-- one number more, k + 1, where `b` says whether it is at most y
none_more : (b : Bool) (k g : ℕ) → b ≡ false → g ≡ 0 → cond b (suc k) g ≡ 0
none_more true k g p q = absurd (true≢false p)
none_more false k g p q = q

one_more : (b : Bool) (k g q : ℕ) → (T b → suc k ≤ q) → (T (not b) → q < suc k) → g ≡ min k q → cond b (suc k) g ≡ min (suc k) q
one_more true k g q y n e = omega (arith, y tt)
one_more false k g q y n e = omega (arith, n tt, e)

pub greatest-is : (k : ℕ) → k ≤ 2 ^ 53 → (y : Float) → greatest k y ≡ whole_up_to k y
unfolding greatest
greatest-is zero h nan = refl
greatest-is zero h (inf true) = refl
greatest-is zero h (inf false) = refl
greatest-is zero h (fin true m e) = refl
greatest-is zero h (fin false m e) = omega arith
greatest-is (suc k) h nan =
    none_more _ k _ (at-most-low (whole (suc k)) nan k (whole-value (suc k) h) tt) (greatest-is k (omega arith) nan)
greatest-is (suc k) h (inf true) =
    none_more _ k _ (at-most-low (whole (suc k)) (inf true) k (whole-value (suc k) h) tt) (greatest-is k (omega arith) (inf true))
greatest-is (suc k) h (inf false) =
    ap (λ (b : Bool). cond b (suc k) (greatest k (inf false))) (at-most-infinity (whole (suc k)) (suc k) (whole-value (suc k) h))
greatest-is (suc k) h (fin true m e) =
    none_more _ k _ (at-most-low (whole (suc k)) (fin true m e) k (whole-value (suc k) h) tt) (greatest-is k (omega arith) (fin true m e))
greatest-is (suc k) h (fin false m e) =
    one_more (at_most (whole (suc k)) (fin false m e)) k (greatest k (fin false m e)) (whole_part m e)
    (at-most-yes m e (whole (suc k)) (suc k) (whole-value (suc k) h))
    (at-most-no m e (whole (suc k)) (suc k) (whole-value (suc k) h))
    (greatest-is k (omega arith) (fin false m e))

pub greatest-most : (k : ℕ) (y : Float) → greatest k y ≤ k
unfolding greatest
greatest-most zero y = omega arith
greatest-most (suc k) y = go (at_most (whole (suc k)) y) (greatest k y) (greatest-most k y)
  where
    go : (b : Bool) (n : ℕ) → n ≤ k → cond b (suc k) n ≤ suc k
    go true n h = omega arith
    go false n h = omega arith

pub thousandths_are : (r : ℕ) (charge : Float) → thousandths r charge ≡ max (whole_up_to 1000 (raised charge)) (1000 - 10 * r)
unfolding thousandths
thousandths_are r charge = ap (λ (n : ℕ). max n (1000 - 10 * r)) (greatest-is 1000 (lit≤ tt) (raised charge))

-- ---- the greatest by cutting off the fraction

-- from 1,000 on it is 1,000
pub from-the-top : (y : Float) → at_most (whole 1000) y ≡ true → greatest 1000 y ≡ 1000
unfolding greatest
from-the-top y t = ap (λ (b : Bool). cond b 1000 (greatest 999 y)) t

-- below 1 it is 0
pub below_one : (y : Float) → at_most (whole 1) y ≡ false → greatest 1000 y ≡ 0
below_one y t = greatest-is 1000 (lit≤ tt) y ∙ cases y t
  where
    cases : (y : Float) → at_most (whole 1) y ≡ false → whole_up_to 1000 y ≡ 0
    cases nan t = refl
    cases (inf true) t = refl
    cases (inf false) t = absurd (true≢false (sym (at-most-infinity (whole 1) 1 (whole-value 1 (lit≤ tt))) ∙ t))
    cases (fin true m e) t = refl
    cases (fin false m e) t = omega (arith, at-most-no m e (whole 1) 1 (whole-value 1 (lit≤ tt)) (subst (λ (b : Bool). T (not b)) (sym t) tt))

-- between, y is above −1 and below 2 ^ 64, and what is left without its fraction is the greatest
pub record CutOff (y : Float) : Type 0 where
  pub above : T (lt (fin true 1 (pos 0)) y)
  pub below : T (lt y (fin false 1 (pos 64)))
  pub is : to_unsigned 64 y ≡ greatest 1000 y
  pub most : to_unsigned 64 y ≤ 1000

between-finite : (m : ℕ) (e : ℤ) → whole_part m e < 1000 → CutOff (fin false m e)
unfolding lt to_unsigned
between-finite m e few =
    let under : m * up e < 1000 * down e = (div-lt_iff_lt-mul (down_pos e)).0 few in
    let is = greatest-is 1000 (lit≤ tt) (fin false m e) in
    record {
      above = lt→ltb 0 (1 * 1 * down e + m * up e * 1) (omega (arith, down_pos e));
      below = lt→ltb (m * up e * 1) (1 * 2 ^ 64 * down e) (omega (arith, under));
      is = omega (arith, few, is);
      most = omega (arith, few);
    }

pub between : (y : Float) → at_most (whole 1) y ≡ true → at_most (whole 1000) y ≡ false → CutOff y
between nan t u = absurd (true≢false (sym t ∙ at-most-low (whole 1) nan 0 (whole-value 1 (lit≤ tt)) tt))
between (inf true) t u = absurd (true≢false (sym t ∙ at-most-low (whole 1) (inf true) 0 (whole-value 1 (lit≤ tt)) tt))
between (inf false) t u = absurd (true≢false (sym (at-most-infinity (whole 1000) 1000 (whole-value 1000 (lit≤ tt))) ∙ u))
between (fin true m e) t u = absurd (true≢false (sym t ∙ at-most-low (whole 1) (fin true m e) 0 (whole-value 1 (lit≤ tt)) tt))
between (fin false m e) t u =
    between-finite m e (at-most-no m e (whole 1000) 1000 (whole-value 1000 (lit≤ tt)) (subst (λ (b : Bool). T (not b)) (sym u) tt))

-- ---- 'At r 1.00 the thousandths equal ten times the column's hundredths.'

abbrev tenfold : ℕ → Bool
tenfold column = eqb (max (whole_up_to 1000 (raised (charge_double column 100))) 0) (10 * column)

computed : T (at_columns tenfold)
unfolding charge_double add mul div of_int
computed = tt

pub at_one : (column : ℕ) → first_column ≤ column → column ≤ last_column → thousandths 100 (charge_double column 100) ≡ 10 * column
at_one column l u =
    thousandths_are 100 (charge_double column 100)
    ∙ eqb→eq (max (whole_up_to 1000 (raised (charge_double column 100))) 0) (10 * column) (at-column tenfold computed column l u)
