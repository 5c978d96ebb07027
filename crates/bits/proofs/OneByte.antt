-- A field put in one byte. The byte has three fields: the bits before, the field and the bits after. The store
-- leaves the first and the last as they were, and every other byte. Assumes nothing.
use mathlib.Core.Path.{◌≡◌, sym, ap, ◌∙◌}
use mathlib.Core.List.{List}
use Prim.Native.Nat.{ℕ, ◌+◌, ◌-◌, ◌*◌, ◌/◌, ◌%◌, ◌^◌, ◌≤◌, ◌<◌}
use native.Mathlib.Nat.{add_comm, div-one}
use native.Mathlib.Decide.{ℕ_discrete}
use native.Mathlib.Omega.{arith}
use lib.ListN.{length, get_or, set, length-set}
use lib.Seq.{get_or-set_same, get_or-set_other}
use Rattle.plan.specs.Field.{bit, field}
use Rattle.laws.proofs.Fields.{by_cases, field-part, field-bits, field-byte}
use Rattle.bits.specs.Words.{Inserted}
use Rattle.bits.specs.Put.{Put}

-- w bits of byte i, after v others and before `rest` others
byte-part : (s : List ℕ) (i v w rest : ℕ) → v + w + rest ≡ 8 → get_or s i 0 < 256
    → field s (8 * i + v) w ≡ get_or s i 0 / 2 ^ rest % 2 ^ w
byte-part s i v w rest e h =
    field-part s (8 * i) v w rest
    ∙ ap (λ (x : ℕ). field s (8 * i) x / 2 ^ rest % 2 ^ w) e
    ∙ ap (λ (x : ℕ). x / 2 ^ rest % 2 ^ w) (field-byte s i h)

-- r is stored over byte i, with the new bits after `skip` others and before `low` others
module _ (s : List ℕ) (i skip n low part r : ℕ) (all : skip + n + low ≡ 8) (within : i < length s)
    (old : get_or s i 0 < 256) (byte : r < 256) (new : Inserted (get_or s i 0) low n part r) where
  stored : get_or (set s i r) i 0 ≡ r
  stored = get_or-set_same s i r 0 within

  -- a part of the stored byte
  stored-part : (v w rest : ℕ) → v + w + rest ≡ 8 → field (set s i r) (8 * i + v) w ≡ r / 2 ^ rest % 2 ^ w
  stored-part v w rest e =
      byte-part (set s i r) i v w rest e (rw stored byte) ∙ ap (λ (x : ℕ). x / 2 ^ rest % 2 ^ w) stored

  -- a bit of a part that is as it was
  same-part : (v w rest : ℕ) → v + w + rest ≡ 8 → r / 2 ^ rest % 2 ^ w ≡ get_or s i 0 / 2 ^ rest % 2 ^ w
      → (k : ℕ) → 8 * i + v ≤ k → k < 8 * i + v + w → bit (set s i r) k ≡ bit s k
  same-part v w rest e q =
      field-bits (set s i r) s (8 * i + v) w (stored-part v w rest e ∙ q ∙ sym (byte-part s i v w rest e old))

  -- a bit of another byte
  other_byte : (k : ℕ) → (k / 8 ≡ i → ⊥) → bit (set s i r) k ≡ bit s k
  unfolding bit
  other_byte k d = ap (λ (x : ℕ). x / 2 ^ (7 - k % 8) % 2) (get_or-set_other s i (k / 8) r 0 d)

  -- the bits before the field are as they were
  above : r / 2 ^ (n + low) % 2 ^ skip ≡ get_or s i 0 / 2 ^ (n + low) % 2 ^ skip
  above = rw (add_comm n low, new.above)

  -- and those after it
  below : r / 1 % 2 ^ low ≡ get_or s i 0 / 1 % 2 ^ low
  below = simp div-one new.below

  put-there : Put s (8 * i + skip) n part (set s i r)
  put-there = record {
    same = length-set s i r;
    here = stored-part skip n low all ∙ new.here;
    before = λ k h. by_cases
        (λ e. same-part 0 skip (n + low) (omega arith) above k (omega arith) (omega arith))
        (other_byte k)
        (ℕ_discrete (k / 8) i);
    after = λ k h. by_cases
        (λ e. same-part (skip + n) low 0 (omega arith) below k (omega arith) (omega arith))
        (other_byte k)
        (ℕ_discrete (k / 8) i);
  }

  pub put-one-byte : {at : ℕ} → 8 * i + skip ≡ at → Put s at n part (set s i r)
  put-one-byte place = rw (← place) put-there
