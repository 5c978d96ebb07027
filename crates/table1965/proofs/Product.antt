-- The product of a double near a fraction a / c that is not negative and one near (p − n) / N is near their product: its error is what
-- each factor's error makes of it at the other factor's size, and the error of one rounding. Assumes nothing.
use mathlib.Core.Path.{◌≡◌, refl, sym, ap, ap₂, ◌∙◌, subst, subst₂}
use mathlib.Core.Bool.{Bool, true, false}
use Prim.Native.Nat.{ℕ, ◌+◌, ◌*◌, ◌≤◌, ◌<◌}
use native.Mathlib.Nat.{mul-le-mul, mul-le-mul_right, mul-pos, mul-mul-mul_comm}
use native.Mathlib.Omega.{arith}
use lib.Ieee.{Float, nan, inf, fin, binary64, up, down, unlike, round, mul}
use lib.Ieee.Exact.{HasValue}
use lib.Ieee.Fits.{down_pos}
use lib.Ieee.Scale.{round_same}
use Rattle.table1965.proofs.Near.{scale, scale-pos, grain, one, plus, minus, Near, spread, Close, move, size-le}
use Rattle.table1965.proofs.Rounding.{limit, off, round-near}

-- ---- `mul`, by the fractions that the factors equal
unlike-false : (s : Bool) → unlike false s ≡ s
unlike-false false = refl
unlike-false true = refl

mul_is : (x y : Float) (s : Bool) (a C b D : ℕ) → 0 < C → 0 < D → HasValue x false a C → HasValue y s b D
    → mul binary64 x y ≡ round binary64 s (a * b) (C * D)
unfolding mul
mul_is nan y s a C b D p q h k = absurd h
mul_is (inf t) y s a C b D p q h k = absurd h
mul_is (fin t m e) nan s a C b D p q h k = absurd k
mul_is (fin t m e) (inf u) s a C b D p q h k = absurd k
mul_is (fin t m e) (fin u n d) s a C b D p q h k =
    let num = m * up e * (n * up d) in
    let den = down e * down d in
    ap (λ (z : Bool). round binary64 z num den) (ap₂ unlike h.0 k.0 ∙ unlike-false s)
    ∙ round_same binary64 s num den (a * b) (C * D) (mul-pos (down_pos e) (down_pos d)) (mul-pos p q)
    (mul-mul-mul_comm (m * up e) (n * up d) C D ∙ ap₂ ◌*◌ h.1 k.1 ∙ mul-mul-mul_comm a (down e) b (down d))

plus-mul : (s : Bool) (a b : ℕ) → plus s (a * b) ≡ a * plus s b
plus-mul false a b = refl
plus-mul true a b = omega arith

minus-mul : (s : Bool) (a b : ℕ) → minus s (a * b) ≡ a * minus s b
minus-mul false a b = omega arith
minus-mul true a b = refl

-- ---- With a / c near w / U and (p − n) / N near (g − h) / U the products are close. Each of the five facts is taken times what it is
-- needed times; their sum is the bound
times-first : (w c g h p n N U F : ℕ) → g * N + n * U ≤ p * U + h * N + F * N
    → w * g * (c * N) * U + w * c * n * U * U ≤ w * c * p * U * U + w * h * (c * N) * U + w * c * F * N * U
times-first w c g h p n N U F v = omega (arith, mul-le-mul_right (w * c * U) v)

times-p : (w a c p U E : ℕ) → w * c ≤ a * U + E * c → w * c * p * U * U ≤ a * p * (U * U) * U + E * c * p * U * U
times-p w a c p U E r = omega (arith, mul-le-mul_right (p * U * U) r)

times-n : (w a c n U E : ℕ) → a * U ≤ w * c + E * c → a * n * (U * U) * U ≤ w * c * n * U * U + E * c * n * U * U
times-n w a c n U E s = omega (arith, mul-le-mul_right (n * U * U) s)

times-F : (w c N U M F : ℕ) → w ≤ M * U → w * c * F * N * U ≤ M * F * (U * U) * (c * N)
times-F w c N U M F t = omega (arith, mul-le-mul_right (c * F * N * U) t)

times-E : (c p n m N U E : ℕ) → p + n ≤ m * N → E * c * p * U * U + E * c * n * U * U ≤ E * m * (U * U) * (c * N)
times-E c p n m N U E k = omega (arith, mul-le-mul_right (E * c * U * U) k)

close-mul : (w a c g h p n N U M E m F : ℕ) → w * c ≤ a * U + E * c → a * U ≤ w * c + E * c → w ≤ M * U
    → g * N + n * U ≤ p * U + h * N + F * N → p + n ≤ m * N
    → w * g * (c * N) * U + a * n * (U * U) * U ≤ a * p * (U * U) * U + w * h * (c * N) * U + (M * F + E * m) * (U * U) * (c * N)
close-mul w a c g h p n N U M E m F r s t v k =
    omega (
      arith,
      times-first w c g h p n N U F v,
      times-p w a c p U E r,
      times-n w a c n U E s,
      times-F w c N U M F t,
      times-E c p n m N U E k,
      spread (M * F) (E * m) (U * U) (c * N),
    )

-- ---- the product
pub mul-near : {x y : Float} {s : Bool} {a c p n N mx my ex ey : ℕ} → Near x false a 0 c mx ex → Near y s p n N my ey
    → 0 < c → 0 < N → ex ≤ one → ey ≤ one → (mx + 1) * (my + 1) ≤ limit
    → Near (mul binary64 x y) s (a * p) (a * n) (c * N) (mx * my) (off ((mx + 1) * (my + 1)) + ((mx + 1) * ey + ex * my))
mul-near {x} {y} {s} {a} {c} {p} {n} {N} {mx} {my} {ex} {ey} v w C D lx ly l =
    let U = scale * scale in
    let m = (mx + 1) * (my + 1) in
    let f = (mx + 1) * ey + ex * my in
    let g = v.size in
    let h = w.size in
    let gs : g ≤ (mx + 1) * scale = size-le x false v C lx in
    let hs : h ≤ (my + 1) * scale = size-le y s w D ly in
    let above : g * c ≤ a * scale + ex * grain * c = omega (arith, v.high) in
    let below : a * scale ≤ g * c + ex * grain * c = omega (arith, v.low) in
    let swapped : n + p ≤ my * N = omega (arith, w.small) in
    let e : (mx + 1) * (ey * grain) + ex * grain * my ≡ f * grain = omega arith in
    let r : Near (round binary64 s (g * h) U) s (g * plus s h) (g * minus s h) U m (off m) =
    subst₂ (λ (i j : ℕ). Near (round binary64 s (g * h) U) s i j U m (off m)) (plus-mul s g h) (minus-mul s g h)
    (round-near s (g * h) U m (mul-pos scale-pos scale-pos) (omega (arith, mul-le-mul gs hs)) l) in
    move (a * p) (a * n) (c * N) (mx * my) f
    (subst (λ (z : Float). Near z s (g * plus s h) (g * minus s h) U m (off m))
    (sym (mul_is x y s g scale h scale scale-pos scale-pos v.is w.is)) r)
    (mul-pos scale-pos scale-pos)
    (subst (Close (g * plus s h) (g * minus s h) U (a * p) (a * n) (c * N)) e
    (close-mul g a c (plus s h) (minus s h) p n N scale (mx + 1) (ex * grain) my (ey * grain) above below gs w.high w.small))
    (subst (Close (g * minus s h) (g * plus s h) U (a * n) (a * p) (c * N)) e
    (close-mul g a c (minus s h) (plus s h) n p N scale (mx + 1) (ex * grain) my (ey * grain) above below gs w.low swapped))
    (omega (arith, mul-le-mul v.small w.small))
