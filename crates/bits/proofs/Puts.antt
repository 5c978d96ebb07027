-- Laws of putting. A put is told by its bits: those of the field, those before it and those after it. So each
-- law is one about fields that have the same bits. Assumes nothing.
use mathlib.Core.Path.{◌≡◌, refl, sym, ap₂, ◌∙◌}
use mathlib.Core.List.{List}
use Prim.Native.Nat.{ℕ, ◌+◌, ◌*◌, ◌^◌, ◌≤◌}
use native.Mathlib.Decide.{dec_lt}
use native.Mathlib.Omega.{arith}
use Rattle.plan.specs.Field.{bit, field}
use Rattle.laws.proofs.Fields.{by_cases, Bytes, field-none, field-split, field-same, field-bits, bits-ext}
use Rattle.bits.specs.Take.{Took}
use Rattle.bits.specs.Put.{Put}

-- a put leaves a field before it as it was
pub put-before : {s t : List ℕ} {at w v : ℕ} → Put s at w v t
    → (from n : ℕ) → from + n ≤ at → field t from n ≡ field s from n
put-before {s} {t} p from n h = field-same t s from n (λ k lo hi. p.before k (omega arith))

-- and a field after it
pub put-after : {s t : List ℕ} {at w v : ℕ} → Put s at w v t
    → (from n : ℕ) → at + w ≤ from → field t from n ≡ field s from n
put-after {s} {t} p from n h = field-same t s from n (λ k lo hi. p.after k (omega arith))

-- a put of no bits leaves all as it was
pub put-none : (s : List ℕ) (at : ℕ) → Put s at 0 0 s
put-none s at = record { same = refl; here = field-none s at; before = λ k h. refl; after = λ k h. refl }

-- two puts, one after the other, are one
pub put-put : {s t u : List ℕ} {at v a w b : ℕ} → Put s at v a t → Put t (at + v) w b u
    → Put s at (v + w) (a * 2 ^ w + b) u
put-put {s} {t} {u} {at} {v} {a} {w} {b} p q =
    let first : field u at v ≡ a = put-before q at v (omega arith) ∙ p.here in record {
      same = q.same ∙ p.same;
      here = field-split u at v w ∙ ap₂ (λ (x y : ℕ). x * 2 ^ w + y) first q.here;
      before = λ k h. q.before k (omega arith) ∙ p.before k h;
      after = λ k h. q.after k (omega arith) ∙ p.after k (omega arith);
    }

-- and so they are where the second of the two was put before the first
pub put-put-back : {s t u : List ℕ} {at v a w b : ℕ} → Put s (at + v) w b t → Put t at v a u
    → Put s at (v + w) (a * 2 ^ w + b) u
put-put-back {s} {t} {u} {at} {v} {a} {w} {b} p q =
    let second : field u (at + v) w ≡ b = put-after q (at + v) w (omega arith) ∙ p.here in record {
      same = q.same ∙ p.same;
      here = field-split u at v w ∙ ap₂ (λ (x y : ℕ). x * 2 ^ w + y) q.here second;
      before = λ k h. q.before k h ∙ p.before k (omega arith);
      after = λ k h. q.after k (omega arith) ∙ p.after k (omega arith);
    }

-- the field put is the field taken
pub take_put : {s t : List ℕ} {at w v x q : ℕ} → Put s at w v t → Took t at w x q → x ≡ v
take_put p k = k.is ∙ p.here

-- a put leaves the same bits whenever it is done
pub put-bits : {s t u : List ℕ} {at w v : ℕ} → Put s at w v t → Put s at w v u → (k : ℕ) → bit t k ≡ bit u k
put-bits {s} {t} {u} {at} {w} p q k =
    by_cases
    (λ lo. p.before k lo ∙ sym (q.before k lo))
    (λ lo. by_cases
    (λ hi. field-bits t u at w (p.here ∙ sym q.here) k (omega arith) hi)
    (λ hi. p.after k (omega arith) ∙ sym (q.after k (omega arith)))
    (dec_lt k (at + w)))
    (dec_lt k at)

-- so it changes a list of bytes in one way alone
pub put_one : {s t u : List ℕ} {at w v : ℕ} → Put s at w v t → Put s at w v u → Bytes t → Bytes u → t ≡ u
put_one {s} {t} {u} p q ht hu = bits-ext t u (p.same ∙ sym q.same) ht hu (λ k h. put-bits p q k)
