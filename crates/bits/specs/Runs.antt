-- Fields put one after another: what a run of them asks for, and what it leaves.
use Rattle.std.specs.Prelude.{◌≡◌, List, ℕ, ◌+◌, ◌*◌, ◌^◌, ◌≤◌, ◌<◌, length}
use Rattle.plan.specs.Field.{bit, Slot, total_width, Laid, Fitting}

-- the bytes s have room for the fields from the place `at` on, and each value fits its field
pub record Space (s : List ℕ) (at : ℕ) (fs : List Slot) : Type 0 where
  pub within : at + total_width fs ≤ 8 * length s
  pub reach : at + total_width fs < 2 ^ 64
  pub fitting : Fitting fs

-- put over the bytes s from the place `at` on, which leaves t: the fields lie there, `next` is the place after
-- them, and each bit elsewhere is kept
pub record Wrote (s : List ℕ) (at : ℕ) (fs : List Slot) (t : List ℕ) (next : ℕ) : Type 0 where
  pub same : length t ≡ length s
  pub place : next ≡ at + total_width fs
  pub laid : Laid t at fs
  pub before : (k : ℕ) → k < at → bit t k ≡ bit s k
  pub after : (k : ℕ) → next ≤ k → bit t k ≡ bit s k
