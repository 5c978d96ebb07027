-- The balance of the plan. K + what was cut off = A + what was made up, for each risk and so for the group, where LH is at most LG, which
-- it is of marks that passed 18; put into the total of the premiums, step 4's M is what makes the total T × 1,000 × n × (n × e + SL).
-- The total moves by T × n for each unit of the basic, and T × n is above 0, so no other basic gives it. Assumes nothing.
use mathlib.Core.Path.{◌≡◌, sym, ap, ◌∙◌, subst}
use mathlib.Core.List.{List}
use Prim.Native.Nat.{ℕ, ◌+◌, ◌*◌, ◌-◌, ◌≤◌, ◌<◌}
use native.Mathlib.Omega.{arith}
use native.Mathlib.Nat.{eq_of_mul-eq-mul_left, mul-pos}
use lib.IntN.{ℤ, pos, ◌-ℤ◌, ◌*ℤ◌, *ℤ_comm}
use lib.ListN.{length}
use Rattle.plan.specs.Arithmetic.{sum_of, sum_z, above, below}
use Rattle.plan.specs.Header.{Header}
use Rattle.plan.specs.Losses.{Losses, SL, SA}
use Rattle.plan.specs.Marks.{LG, LH}
use Rattle.plan.specs.Ratable.{clamp, SX, SS, ratable}
use Rattle.plan.specs.Basic.{basic_of, basic_premium, excess_charge}
use Rattle.plan.specs.Premium.{unrounded_of}
use Rattle.plan.specs.Bounds.{GroupBounds}
use Rattle.laws.proofs.MarksInOrder.{LH≤LG}
use Rattle.laws.proofs.Sums.{sum-add, sum-mul, sum-const, sum-ext}
use Rattle.laws.proofs.Differences.{Differs, over, under, of-pos, of-self, of-add, of-minus, of-scale, of-sum, same, crossed}

-- what is kept and what is cut off, and what there was and what was made up
clamped : (low high x : ℕ) → low ≤ high → clamp low high x + above x high ≡ x + below x low
clamped low high x h = omega arith

-- of a group: ΣK + SX = SA + SS
pub ratable-sum : (h : Header) (rs : List Losses) → LH h rs ≤ LG h rs → sum_of (ratable h rs) rs + SX h rs ≡ SA rs + SS h rs
unfolding ratable SX SS
ratable-sum h rs o =
    let lg : ℕ = LG h rs in
    let lh : ℕ = LH h rs in
    sym (sum-add (λ r. clamp lh lg r.limited) (λ r. above r.limited lg) rs)
    ∙ sum-ext _ (λ r. r.limited + below r.limited lh) (λ r. clamped lh lg r.limited o) rs
    ∙ sum-add (λ r. r.limited) (λ r. below r.limited lh) rs

-- step 4's number as a difference of what is added and what is taken away
pub basic-differs : (n e c sl sx ss : ℕ)
    → Differs (basic_of n e c sl sx ss) (1000 * n * e + 1000 * sl + c * sx) (c * sl + c * ss)
basic-differs n e c sl sx ss =
    let rate : Differs (pos c -ℤ pos 1000) (c + 0) (0 + 1000) = of-minus (pos c) (pos 1000) (of-pos c) (of-pos 1000) in
    let part : Differs ((pos c -ℤ pos 1000) *ℤ pos sl) (sl * (c + 0)) (sl * (0 + 1000)) =
    subst (λ (z : ℤ). Differs z (sl * (c + 0)) (sl * (0 + 1000))) (*ℤ_comm (pos sl) (pos c -ℤ pos 1000))
    (of-scale sl (pos c -ℤ pos 1000) rate) in
    let swing = of-scale c (pos sx -ℤ pos ss) (of-minus (pos sx) (pos ss) (of-pos sx) (of-pos ss)) in
    let whole = of-add _ _ (of-minus (pos (1000 * n * e)) _ (of-pos (1000 * n * e)) part) swing in
    record { is = omega (arith, whole.is) }

-- the total of the unrounded premiums over ratable losses k, with q for the excess loss charge and m for the basic
abbrev pub premium_total : {A : Type 0} → ℕ → ℕ → ℕ → ℕ → (A → ℕ) → List A → ℤ → ℤ
premium_total n c t q k rs m = sum_z (λ r. unrounded_of n c t m q (k r)) rs

-- as a difference, where m is one
total-differs : {A : Type 0} (n c t q : ℕ) (k : A → ℕ) (rs : List A) (m : ℤ) (a b : ℕ) → Differs m a b
    → Differs (premium_total n c t q k rs m) (t * (length rs * (a + q) + n * c * sum_of k rs)) (length rs * (t * b))
total-differs n c t q k rs m a b d =
    let one : (r : _) → Differs (unrounded_of n c t m q (k r)) (t * (a + q + n * c * k r)) (t * b) = λ r.
    let p = of-scale t _ (of-add _ _ (of-add m (pos q) d (of-pos q)) (of-pos (n * c * k r))) in
    record { is = omega (arith, p.is) } in
    let p = of-sum (λ r. unrounded_of n c t m q (k r)) (λ r. t * (a + q + n * c * k r)) (λ r. t * b) one rs in
    let e₁ = sum-mul t (λ r. a + q + n * c * k r) rs in
    let e₂ = sum-add (λ r. a + q) (λ r. n * c * k r) rs in
    let e₃ = sum-mul (n * c) k rs in
    let e₄ = sum-const (a + q) rs in
    let e₅ = sum-const (t * b) rs in
    record {
      is = omega (arith, p.is, e₁, ap (λ (x : ℕ). t * x) e₂, ap (λ (x : ℕ). t * x) e₃, ap (λ (x : ℕ). t * x) e₄, e₅);
    }

algebra : (n e c t sl sa sx ss sk q : ℕ) → sk + sx ≡ sa + ss → sa + q ≡ sl
    → t * (n * (1000 * n * e + 1000 * sl + c * sx + c * q) + n * c * sk) + 0
    ≡ 1000 * n * t * (n * e + sl) + n * (t * (c * sl + c * ss))
algebra n e c t sl sa sx ss sk q h g = omega (arith, ap (λ (x : ℕ). t * n * c * x) h, ap (λ (x : ℕ). t * n * c * x) g)

-- the total with step 4's M and step 5's Q, of a group within its bounds, which passes 3 to 7, 18 among them
pub balance : (h : Header) (rs : List Losses) → GroupBounds h rs
    → premium_total (length rs) h.conversion h.tax (excess_charge h rs) (ratable h rs) rs (basic_premium h rs)
    ≡ pos (1000 * length rs * h.tax * (length rs * h.expense + SL rs))
unfolding basic_premium excess_charge
balance h rs b =
    let n : ℕ = length rs in
    let c : ℕ = h.conversion in
    same _ _
    (total-differs n c h.tax (c * (SL rs - SA rs)) (ratable h rs) rs _ _ _ (basic-differs n h.expense c (SL rs) (SX h rs) (SS h rs)))
    (of-pos (1000 * n * h.tax * (n * h.expense + SL rs)))
    (algebra n h.expense c h.tax (SL rs) (SA rs) (SX h rs) (SS h rs) (sum_of (ratable h rs) rs) (SL rs - SA rs)
    (ratable-sum h rs (LH≤LG h rs b.sound.marks_in_order)) (omega (arith, b.limited)))

cancel : (k a b a' b' : ℕ) → 0 < k → k * a + k * b' ≡ k * a' + k * b → a + b' ≡ a' + b
cancel k a b a' b' p h = eq_of_mul-eq-mul_left k p (a + b') (a' + b) (omega (arith, h))

-- two basics with one total are one, whatever Q and the ratable losses are
pub total-injective : {A : Type 0} (n c t q : ℕ) (k : A → ℕ) (rs : List A) → 0 < t → 0 < length rs → (m m' : ℤ)
    → premium_total n c t q k rs m ≡ premium_total n c t q k rs m' → m ≡ m'
total-injective n c t q k rs pt pn m m' e =
    let x = crossed _ _ (total-differs n c t q k rs m (over m) (under m) (of-self m))
    (total-differs n c t q k rs m' (over m') (under m') (of-self m')) e in
    same m m' (of-self m) (of-self m')
    (cancel (length rs * t) (over m) (under m) (over m') (under m') (mul-pos pn pt) (omega (arith, x)))
