-- Fields put from the first bit on, and a fill of 0 after them: the first bytes are those of the fields, since the fields lie in
-- them and the fill is 0, and every later bit is kept, so the later bytes are. Assumes nothing.
use mathlib.Core.Path.{◌≡◌, sym, ap, ap₂, ◌∙◌, subst}
use mathlib.Core.List.{List, ◌++◌}
use Prim.Native.Nat.{ℕ, ◌+◌, ◌-◌, ◌*◌, ◌≤◌, ◌<◌}
use native.Mathlib.Decide.{dec_lt}
use native.Mathlib.Omega.{arith}
use lib.ListN.{length, get_or, take, drop, length-drop, take-append-drop, get_or-eq_default}
use lib.Seq.{length-take-le, get_or-take, get_or-drop, ext_get_or}
use Rattle.plan.specs.Call.{filled}
use Rattle.plan.specs.Field.{bit, field, Slot, total_width, bytes_for, bytes_of, Fitting}
use Rattle.laws.proofs.Fields.{by_cases, Bytes, field-same, field-byte, zero_bits, bit-append}
use Rattle.laws.proofs.Written.{laid_same, length-bytes_of, bytes_of-unique}
use Rattle.bits.specs.Put.{Put}
use Rattle.bits.specs.Runs.{Wrote}

-- ---- the first bytes of a list

bytes_take : (n : ℕ) (s : List ℕ) → Bytes s → n ≤ length s → Bytes (take n s)
bytes_take n s b h i =
    by_cases
    (λ l. subst (λ (x : ℕ). x < 256) (sym (get_or-take n s i 0 l)) (b i))
    (λ l. subst (λ (x : ℕ). x < 256)
    (sym (get_or-eq_default (take n s) 0 (omega (arith, length-take-le n s h)))) (omega arith))
    (dec_lt i n)

bit-take : (n : ℕ) (s : List ℕ) → n ≤ length s → (k : ℕ) → k < 8 * n → bit (take n s) k ≡ bit s k
bit-take n s h k l =
    sym (bit-append (take n s) (drop n s) k (omega (arith, length-take-le n s h)))
    ∙ ap (λ (x : List ℕ). bit x k) (take-append-drop n s)

-- ---- the bytes of fields that were put, with a fill of 0 after them

module _ {old t new : List ℕ} {q n : ℕ} (fs : List Slot) (fitting : Fitting fs) (was : Bytes old)
    (is : Bytes new) (wrote : Wrote old 0 fs t q) (fill : Put t q (8 * n - q) 0 new)
    (bytes : n ≡ bytes_for (total_width fs)) (enough : n ≤ length old) where
  within : n ≤ length new
  within = omega (arith, fill.same, wrote.same)

  ends : q ≡ total_width fs
  ends = omega (arith, wrote.place)

  first : take n new ≡ bytes_of fs
  unfolding field
  first =
      let l = length-take-le n new within in
      bytes_of-unique (take n new) fs (bytes_take n new is within) fitting (l ∙ bytes)
      (laid_same new (take n new) 0 fs (λ k lo hi. sym (bit-take n new within k (omega (arith, bytes))))
      (laid_same t new 0 fs (λ k lo hi. sym (fill.before k (omega (arith, ends)))) wrote.laid))
      (λ k lo hi. bit-take n new within k (omega (arith, l))
      ∙ zero_bits (bit new) q (8 * n - q) fill.here k (omega (arith, ends)) (omega (arith, l, ends)))

  later : (i : ℕ) → n ≤ i → get_or new i 0 ≡ get_or old i 0
  later i h =
      sym (field-byte new i (is i))
      ∙ field-same new old (8 * i) 8
      (λ k lo hi. fill.after k (omega (arith, bytes, ends)) ∙ wrote.after k (omega (arith, bytes, ends)))
      ∙ field-byte old i (was i)

  second : drop n new ≡ drop n old
  second =
      ext_get_or 0 (drop n new) (drop n old)
      (omega (arith, length-drop n new, length-drop n old, fill.same, wrote.same))
      (λ i h. get_or-drop n new i 0 ∙ later (n + i) (omega arith) ∙ sym (get_or-drop n old i 0))

  pub fields-put : new ≡ filled (bytes_of fs) old
  fields-put =
      sym (take-append-drop n new)
      ∙ ap₂ ◌++◌ first (second ∙ ap (λ (x : ℕ). drop x old) (bytes ∙ sym (length-bytes_of fs)))
