-- The sum of two doubles near fractions over one denominator is near the fractions' sum: its error is the sum of the two errors and the
-- error of one rounding. Its sign is not worked out. Assumes nothing.
use mathlib.Core.Path.{◌≡◌, sym, ap, ap₂, subst}
use mathlib.Core.Bool.{Bool, true, false, not, cond}
use Prim.Native.Nat.{ℕ, ◌+◌, ◌-◌, ◌*◌, ◌≤◌, ◌<◌}
use native.Mathlib.Nat.{add-mul, le_of_lt, mul-le-mul_right, le_of_mul-le-mul_right, mul-pos}
use native.Mathlib.Omega.{arith}
use lib.Dec.{T, ltb, ltb→lt, nltb→le}
use lib.Ieee.{Float, nan, inf, fin, binary64, up, down, round, sum, add}
use lib.Ieee.Exact.{HasValue}
use lib.Ieee.Fits.{down_pos}
use Rattle.table1965.proofs.Near.{scale, scale-pos, grain, one, plus, minus, AtMost, Near, spread, Close, move, same, size-le}
use Rattle.table1965.proofs.Rounding.{limit, off, round-near}

-- near, with either sign
abbrev pub Either : Float → (p n N m e : ℕ) → Type 0
Either x p n N m e = (s : Bool) × Near x s p n N m e

-- ---- `sum`: a / c and b / c with their signs. Where the signs differ, the smaller is taken from the larger
module _ (a b c m : ℕ) (C : 0 < c) (k : a + b ≤ m * c) (l : m ≤ limit) where
  -- (i − j) / c with the sign s, which is (p − n) / c
  less : (s : Bool) (i j p n : ℕ) → j ≤ i → i ≤ a + b → p + n ≤ a + b → plus s i + minus s j + n ≡ p + minus s i + plus s j
      → Near (round binary64 s (i - j) c) s p n c m (off m)
  less s i j p n h u t q = go s (i - j) back (round-near s (i - j) c m C (omega arith) l) q
    where
      back : i - j + j ≡ i
      back = omega arith

      go : (s : Bool) (d : ℕ) → d + j ≡ i → Near (round binary64 s d c) s (plus s d) (minus s d) c m (off m)
          → plus s i + minus s j + n ≡ p + minus s i + plus s j → Near (round binary64 s d c) s p n c m (off m)
      go false d e v q = same p n c m v C (omega (arith, ap (λ (z : ℕ). z * c) e, ap (λ (z : ℕ). z * c) q)) (omega arith)
      go true d e v q = same p n c m v C (omega (arith, ap (λ (z : ℕ). z * c) e, ap (λ (z : ℕ). z * c) q)) (omega arith)

  sum_near : (s t : Bool) → Either (sum binary64 s a t b c) (plus s a + plus t b) (minus s a + minus t b) c m (off m)
  unfolding sum
  sum_near false false = (false, round-near false (a + b) c m C k l)
  sum_near true true = (true, round-near true (a + b) c m C k l)
  sum_near false true = go (ltb a b) (ltb→lt a b) (nltb→le a b)
    where
      go : (t : Bool) → (T t → a < b) → (T (not t) → b ≤ a)
          → Either (cond t (round binary64 true (b - a) c) (round binary64 false (a - b) c)) (a + 0) (0 + b) c m (off m)
      go true f g = (true, less true b a (a + 0) (0 + b) (le_of_lt (f tt)) (omega arith) (omega arith) (omega arith))
      go false f g = (false, less false a b (a + 0) (0 + b) (g tt) (omega arith) (omega arith) (omega arith))
  sum_near true false = go (ltb a b) (ltb b a) (ltb→lt a b) (nltb→le a b) (nltb→le b a)
    where
      go : (t u : Bool) → (T t → a < b) → (T (not t) → b ≤ a) → (T (not u) → a ≤ b)
          → Either (cond t (round binary64 false (b - a) c) (round binary64 u (a - b) c)) (0 + b) (a + 0) c m (off m)
      go true u f g h = (false, less false b a (0 + b) (a + 0) (le_of_lt (f tt)) (omega arith) (omega arith) (omega arith))
      go false true f g h = (true, less true a b (0 + b) (a + 0) (g tt) (omega arith) (omega arith) (omega arith))
      go false false f g h =
          let e : a ≤ b = h tt in
          let d : b ≤ a = g tt in
          (false, less false a b (0 + b) (a + 0) d (omega arith) (omega arith) (omega arith))

-- ---- `add`: the operands g / U and h / U over the denominator that it gives them
add_is : (x y : Float) (s t : Bool) (g h U : ℕ) → HasValue x s g U → HasValue y t h U
    → (a b c : ℕ) × (add binary64 x y ≡ sum binary64 s a t b c) × (0 < c) × (a * U ≡ g * c) × (b * U ≡ h * c)
unfolding add
add_is nan y s t g h U p q = absurd p
add_is (inf r) y s t g h U p q = absurd p
add_is (fin r m e) nan s t g h U p q = absurd q
add_is (fin r m e) (inf u) s t g h U p q = absurd q
add_is (fin r m e) (fin u n d) s t g h U p q = (
  m * up e * down d,
  n * up d * down e,
  down e * down d,
  ap₂ (λ (x y : Bool). sum binary64 x (m * up e * down d) y (n * up d * down e) (down e * down d)) p.0 q.0,
  mul-pos (down_pos e) (down_pos d),
  omega (arith, ap (λ (z : ℕ). z * down d) p.1),
  omega (arith, ap (λ (z : ℕ). z * down e) q.1),
)

plus-cross : (s : Bool) (a U g c : ℕ) → a * U ≡ g * c → plus s a * U ≡ plus s g * c
plus-cross false a U g c e = e
plus-cross true a U g c e = omega arith

minus-cross : (s : Bool) (a U g c : ℕ) → a * U ≡ g * c → minus s a * U ≡ minus s g * c
minus-cross false a U g c e = omega arith
minus-cross true a U g c e = e

-- a double near a fraction, over another denominator
close-over : (s : Bool) (x g p n c N E : ℕ) → x * scale ≡ g * c → AtMost (plus s g) (minus s g) p n N E
    → AtMost (minus s g) (plus s g) n p N E
    → Close (plus s x) (minus s x) c p n N E × Close (minus s x) (plus s x) c n p N E
close-over s x g p n c N E e u v = (
  go (plus s x) (minus s x) (plus s g) (minus s g) p n scale (plus-cross s x scale g c e) (minus-cross s x scale g c e) u,
  go (minus s x) (plus s x) (minus s g) (plus s g) n p scale (minus-cross s x scale g c e) (plus-cross s x scale g c e) v,
)
  where
    go : (x y g h p n U : ℕ) → x * U ≡ g * c → y * U ≡ h * c → g * N + n * U ≤ p * U + h * N + E * N
        → x * N * U + n * c * U ≤ p * c * U + y * N * U + E * c * N
    go x y g h p n U i j u = omega (arith, ap (λ (z : ℕ). z * N) i, ap (λ (z : ℕ). z * N) j, mul-le-mul_right c u)

-- two such bounds add
close-add : (P M C p n P' M' p' n' N E F : ℕ) → Close P M C p n N E → Close P' M' C p' n' N F
    → Close (P + P') (M + M') C (p + p') (n + n') N (E + F)
close-add P M C p n P' M' p' n' N E F u v =
    omega (arith, spread P P' N scale, spread n n' C scale, spread p p' C scale, spread M M' N scale, spread E F C N)

part-le : (a g c m : ℕ) → a * scale ≡ g * c → g ≤ m * scale → a ≤ m * c
part-le a g c m e h = le_of_mul-le-mul_right {k = scale} (sums (mul-le-mul_right c h)) scale-pos
  where
    sums : g * c ≤ m * scale * c → a * scale ≤ m * c * scale
    sums t = omega arith

-- ---- the sum
pub add-near : {x y : Float} {s t : Bool} {p n p' n' N mx my ex ey : ℕ} → Near x s p n N mx ex → Near y t p' n' N my ey
    → 0 < N → ex ≤ one → ey ≤ one → mx + my + 2 ≤ limit
    → Either (add binary64 x y) (p + p') (n + n') N (mx + my) (off (mx + my + 2) + (ex + ey))
add-near {x} {y} {s} {t} {p} {n} {p'} {n'} {N} {mx} {my} {ex} {ey} v w C lx ly l =
    let (a, b, c, is, D, ea, eb) = add_is x y s t v.size w.size scale v.is w.is in
    let la : a ≤ (mx + 1) * c = part-le a v.size c (mx + 1) ea (size-le x s v C lx) in
    let lb : b ≤ (my + 1) * c = part-le b w.size c (my + 1) eb (size-le y t w C ly) in
    let (z, r) = sum_near a b c (mx + my + 2) D (both a b c la lb) l s t in
    let i = close-over s a v.size p n c N (ex * grain) ea v.high v.low in
    let j = close-over t b w.size p' n' c N (ey * grain) eb w.high w.low in
    let e : ex * grain + ey * grain ≡ (ex + ey) * grain = sym (add-mul ex ey grain) in
    let P = plus s a + plus t b in
    let M = minus s a + minus t b in (
      z,
      move (p + p') (n + n') N (mx + my) (ex + ey) (subst (λ (q : Float). Near q z P M c (mx + my + 2) (off (mx + my + 2))) (sym is) r) D
          (subst (Close P M c (p + p') (n + n') N) e
          (close-add (plus s a) (minus s a) c p n (plus t b) (minus t b) p' n' N (ex * grain) (ey * grain) i.0 j.0))
          (subst (Close M P c (n + n') (p + p') N) e
          (close-add (minus s a) (plus s a) c n p (minus t b) (plus t b) n' p' N (ex * grain) (ey * grain) i.1 j.1))
          (omega (arith, v.small, w.small)),
    )
  where
    both : (a b c : ℕ) → a ≤ (mx + 1) * c → b ≤ (my + 1) * c → a + b ≤ (mx + my + 2) * c
    both a b c i j = omega arith
