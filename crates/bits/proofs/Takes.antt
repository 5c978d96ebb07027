-- Eight bytes, the first the most significant, are the field of 64 bits. Assumes nothing.
use mathlib.Core.Path.{◌≡◌, ap, ◌∙◌}
use mathlib.Core.List.{List}
use Prim.Native.Nat.{ℕ, ◌+◌, ◌*◌, ◌^◌}
use native.Mathlib.Omega.{arith}
use lib.ListN.{get_or}
use Rattle.plan.specs.Field.{field}
use Rattle.laws.proofs.Fields.{Bytes, field-split, field_at, field-byte}

-- the first k bytes of the eight from byte i on, and the next
next-byte : (s : List ℕ) (i k : ℕ) → Bytes s → field s (8 * i) (8 * k + 8) ≡ field s (8 * i) (8 * k) * 2 ^ 8 + get_or s (i + k) 0
next-byte s i k b =
    let here : field s (8 * i + 8 * k) 8 ≡ field s (8 * (i + k)) 8 = field_at s 8 (omega arith) in
    field-split s (8 * i) (8 * k) 8 ∙ ap (λ (x : ℕ). field s (8 * i) (8 * k) * 2 ^ 8 + x) (here ∙ field-byte s (i + k) (b (i + k)))

-- eight bytes, each with its worth, are the word
pub eight_bytes : (s : List ℕ) (i : ℕ) → Bytes s
    → get_or s i 0 * 256 ^ 7 + get_or s (i + 1) 0 * 256 ^ 6 + get_or s (i + 2) 0 * 256 ^ 5 + get_or s (i + 3) 0 * 256 ^ 4
    + get_or s (i + 4) 0 * 256 ^ 3 + get_or s (i + 5) 0 * 256 ^ 2 + get_or s (i + 6) 0 * 256 + get_or s (i + 7) 0
    ≡ field s (8 * i) 64
eight_bytes s i b =
    let next = λ (k : ℕ). next-byte s i k b in
    let first : i + 0 ≡ i = omega arith in
    let one : field s (8 * i) 8 ≡ get_or s i 0 = omega (arith, field-byte s i (b i)) in
    omega (arith, one, next 1, next 2, next 3, next 4, next 5, next 6, next 7)
