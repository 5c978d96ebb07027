-- Taking a field: what it asks for, and what it gives.
use Rattle.std.specs.Prelude.{◌≡◌, List, ℕ, ◌+◌, ◌-◌, ◌*◌, ◌/◌, ◌%◌, ◌^◌, ◌≤◌, ◌<◌}
use Rattle.plan.specs.Field.{field}
use Rattle.bits.specs.declared.Front.{Front}
use Rattle.bits.specs.declared.Taken.{Taken}

-- a field of w bits at the place `at` is at most 32 bits wide, and the next place is a number of 64 bits
pub record Reach (at w : ℕ) : Type 0 where
  pub narrow : w ≤ 32
  pub next : at + w < 2 ^ 64

-- w bits of the bytes s taken at the place `at`: v is the field there, and the next place q is where it ended
pub record Took (s : List ℕ) (at w v q : ℕ) : Type 0 where
  pub is : v ≡ field s at w
  pub place : q ≡ at + w

-- the n highest bits of the word w, 64 at most, are those of the bytes s from the place `at` on
pub record Ahead (s : List ℕ) (at n w : ℕ) : Type 0 where
  pub few : n ≤ 64
  pub are : w / 2 ^ (64 - n) ≡ field s at n

-- the `left` highest bits of a front are those of the bytes s from its place on
abbrev pub FrontIs : List ℕ → ℕ → Front → Type 0
FrontIs s left f = Ahead s f.place.at left f.bits

-- w bits taken from a front: its highest, and the others are handed on; so of any bytes that the front has so many bits of, the value is the
-- field at its place, and the front behind it has the others
pub record FieldTaken (f : Front) (w : ℕ) (r : Taken ℕ Front) : Type 0 where
  pub place : r.next.place.at ≡ f.place.at + w
  pub fits : r.value < 2 ^ w
  pub highest : r.value ≡ f.bits / 2 ^ (64 - w)
  pub others : r.next.bits ≡ (f.bits * 2 ^ w) % 2 ^ 64
  pub is : (s : List ℕ) (left : ℕ) → w ≤ left → FrontIs s left f → r.value ≡ field s f.place.at w
  pub rest : (s : List ℕ) (left : ℕ) → w ≤ left → FrontIs s left f → FrontIs s (left - w) r.next
