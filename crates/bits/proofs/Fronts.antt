-- Fields cut from a word's front. Where the n highest bits of a word are those of the bytes from a place on, its m highest are
-- the field of m bits there; shifted to the left by m, it has the bits after that field. Assumes nothing.
use mathlib.Core.Path.{◌≡◌, sym, ap, ◌∙◌}
use mathlib.Core.List.{List}
use Prim.Native.Nat.{ℕ, ◌+◌, ◌-◌, ◌*◌, ◌/◌, ◌%◌, ◌^◌, ◌≤◌}
use native.Mathlib.Nat.{div-one}
use native.Mathlib.Omega.{arith}
use lib.Pow.{shr-shr, high, low}
use Rattle.plan.specs.Field.{field}
use Rattle.laws.proofs.Fields.{field_lt, field-split}
use Rattle.bits.proofs.Shifts.{front-after}
use Rattle.bits.specs.Take.{Ahead}

-- the word of eight bytes
pub ahead-word : (s : List ℕ) (at : ℕ) {w : ℕ} → w ≡ field s at 64 → Ahead s at 64 w
ahead-word s at {w} e = record { few = omega arith; are = div-one w ∙ e }

module _ {s : List ℕ} {at n w : ℕ} (a : Ahead s at n w) (m : ℕ) (h : m ≤ n) where
  -- a field of n bits is one of m and one of the others
  parts : field s at n ≡ field s at m * 2 ^ (n - m) + field s (at + m) (n - m)
  parts = let all : n ≡ m + (n - m) = omega arith in ap (field s at) all ∙ field-split s at m (n - m)

  -- the field on the front
  pub front-is : w / 2 ^ (64 - m) ≡ field s at m
  front-is =
      let all : 64 - m ≡ 64 - n + (n - m) = omega (arith, a.few) in
      ap (λ (k : ℕ). w / 2 ^ k) all
      ∙ sym (shr-shr w (64 - n) (n - m))
      ∙ ap (λ (x : ℕ). x / 2 ^ (n - m)) (a.are ∙ parts)
      ∙ high (field s at m) (n - m) (field_lt s (at + m) (n - m))

  -- so fewer bits are ahead too
  pub ahead-fewer : Ahead s at m w
  ahead-fewer = record { few = omega (arith, a.few); are = front-is }

  -- and the bits after it
  pub ahead_past : Ahead s (at + m) (n - m) ((w * 2 ^ m) % 2 ^ 64)
  ahead_past =
      let left : 64 - m - (n - m) ≡ 64 - n = omega (arith, a.few) in record {
        few = omega (arith, a.few);
        are =
            front-after w m (n - m) (omega (arith, a.few))
            ∙ ap (λ (k : ℕ). w / 2 ^ k % 2 ^ (n - m)) left
            ∙ ap (λ (x : ℕ). x % 2 ^ (n - m)) (a.are ∙ parts)
            ∙ low (field s at m) (n - m) (field_lt s (at + m) (n - m));
      }
