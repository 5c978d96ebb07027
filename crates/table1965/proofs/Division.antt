-- The quotient of two doubles by the fractions that they equal, and the quotient of two whole numbers in doubles: one rounding of the
-- exact quotient, since whole numbers up to 2 ^ 53 are doubles. Assumes nothing.
use mathlib.Core.Path.{◌≡◌, refl, sym, ap, ap₂, ◌∙◌, subst}
use mathlib.Core.Bool.{Bool, true, false, cond}
use Prim.Native.Nat.{ℕ, zero, suc, ◌*◌, ◌^◌, ◌≤◌, ◌<◌}
use native.Mathlib.Nat.{mul-pos, zero-lt-suc}
use native.Mathlib.Omega.{arith}
use lib.IntN.{ℤ, pos, negsuc, nat_abs}
use lib.Dec.{lit<, eqb, eqb-suc-zero}
use lib.Ieee.{Float, nan, inf, fin, binary64, up, down, unlike, round, div, of_int}
use lib.Ieee.Back.{round_whole}
use lib.Ieee.Exact.{HasValue}
use lib.Ieee.Fits.{down_pos, up_pos}
use lib.Ieee.Scale.{round_same}
use Rattle.plan.specs.Doubles.{◌/ᵈ◌, double, whole}
use Rattle.laws.proofs.Differences.{over, under}
use Rattle.table1965.proofs.Near.{plus, minus, Near, same}
use Rattle.table1965.proofs.Rounding.{limit, off, round-near}

-- ---- `div`
unlike-right : (s : Bool) → unlike s false ≡ s
unlike-right false = refl
unlike-right true = refl

not-zero : (u D b d : ℕ) → 0 * u * D ≡ b * d → 0 < b → 0 < d → ⊥
not-zero u D b d e B k = omega (arith, mul-pos B k)

pub div_is : (x y : Float) (s : Bool) (a C b D : ℕ) → 0 < C → 0 < D → 0 < b → HasValue x s a C → HasValue y false b D
    → div binary64 x y ≡ round binary64 s (a * D) (b * C)
unfolding div
div_is nan y s a C b D p q B h k = absurd h
div_is (inf t) y s a C b D p q B h k = absurd h
div_is (fin t m e) nan s a C b D p q B h k = absurd k
div_is (fin t m e) (inf u) s a C b D p q B h k = absurd k
div_is (fin t m e) (fin u zero d) s a C b D p q B h k = absurd (not-zero (up d) D b (down d) k.1 B (down_pos d))
div_is (fin t m e) (fin u (suc n) d) s a C b D p q B h k =
    let num = m * up e * down d in
    let den = suc n * up d * down e in
    ap (λ (z : Bool). cond z (cond (eqb m 0) nan (inf (unlike t u))) (round binary64 (unlike t u) num den)) (eqb-suc-zero n)
    ∙ ap (λ (z : Bool). round binary64 z num den) (ap₂ unlike h.0 k.0 ∙ unlike-right s)
    ∙ round_same binary64 s num den (a * D) (b * C) (mul-pos (mul-pos (zero-lt-suc n) (up_pos d)) (down_pos e)) (mul-pos B p)
    (crossed (m * up e) (down e) (suc n * up d) (down d) h.1 k.1)
  where
    crossed : (w x y z : ℕ) → w * C ≡ a * x → y * D ≡ b * z → w * z * (b * C) ≡ a * D * (y * x)
    crossed w x y z i j = omega (arith, ap (λ (o : ℕ). o * (b * z)) i, ap (λ (o : ℕ). a * x * o) j)

-- ---- whole numbers
abbrev pub negative : ℤ → Bool
negative (pos n) = false
negative (negsuc n) = true

double-is : (z : ℤ) → nat_abs z ≤ 2 ^ 53 → HasValue (double z) (negative z) (nat_abs z) 1
unfolding of_int
double-is (pos n) h = round_whole binary64 false n h
double-is (negsuc n) h = round_whole binary64 true (suc n) h

pub whole_is : (n : ℕ) → n ≤ 2 ^ 53 → HasValue (whole n) false n 1
whole_is n h = double-is (pos n) h

quotient : (s : Bool) (x y : Float) (a k m : ℕ) → HasValue x s a 1 → HasValue y false k 1 → 0 < k → a ≤ m * k → m ≤ limit
    → Near (x /ᵈ y) s (plus s a) (minus s a) k m (off m)
quotient s x y a k m h g c l b =
    go s
    (subst (λ (z : Float). Near z s (plus s (a * 1)) (minus s (a * 1)) (k * 1) m (off m))
    (sym (div_is x y s a 1 k 1 (lit< tt) (lit< tt) c h g))
    (round-near s (a * 1) (k * 1) m (omega arith) (omega arith) b))
  where
    go : (s : Bool) → Near (x /ᵈ y) s (plus s (a * 1)) (minus s (a * 1)) (k * 1) m (off m)
        → Near (x /ᵈ y) s (plus s a) (minus s a) k m (off m)
    go false v = same a 0 k m v (omega arith) (omega arith) (omega arith)
    go true v = same 0 a k m v (omega arith) (omega arith) (omega arith)

pub quotient-near : (z : ℤ) (k m : ℕ) → nat_abs z ≤ m * k → 0 < k → k ≤ 2 ^ 53 → m * k ≤ 2 ^ 53 → m ≤ limit
    → Near (double z /ᵈ whole k) (negative z) (over z) (under z) k m (off m)
quotient-near (pos n) k m h c b l t =
    quotient false (double (pos n)) (whole k) n k m (double-is (pos n) (omega arith)) (whole_is k b) c h t
quotient-near (negsuc n) k m h c b l t =
    quotient true (double (negsuc n)) (whole k) (suc n) k m (double-is (negsuc n) (omega arith)) (whole_is k b) c h t
