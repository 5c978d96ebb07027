-- Bits of a word or a byte, counted from the lowest.
use Rattle.std.specs.Prelude.{◌≡◌, ℕ, ◌+◌, ◌*◌, ◌/◌, ◌%◌, ◌^◌, ◌<◌}

-- `low` is a number of n bits, and `high` with n bits after it is one of 64
pub record Joins (high n low : ℕ) : Type 0 where
  pub narrow : n < 64
  pub fits : low < 2 ^ n
  pub room : high * 2 ^ n < 2 ^ 64

-- r is b with `part` in the n bits above its `low` lowest
pub record Inserted (b low n part r : ℕ) : Type 0 where
  pub above : r / 2 ^ (low + n) ≡ b / 2 ^ (low + n)
  pub here : r / 2 ^ low % 2 ^ n ≡ part
  pub below : r % 2 ^ low ≡ b % 2 ^ low
