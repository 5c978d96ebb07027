-- Putting a field: what it asks for, and what it leaves.
use Rattle.std.specs.Prelude.{◌≡◌, List, ℕ, ◌+◌, ◌*◌, ◌%◌, ◌^◌, ◌≤◌, ◌<◌, length}
use Rattle.plan.specs.Field.{bit, field}
use Rattle.bits.specs.Take.{Reach}

-- the bytes s have w bits at the place `at`, and v is a number of w bits
pub record Room (s : List ℕ) (at w v : ℕ) : Type 0 where
  pub reach : Reach at w
  pub within : at + w ≤ 8 * length s
  pub fits : v < 2 ^ w

-- the bytes s have n whole bytes, eight at most, at the place `at`, and v is a number of so many
pub record WholeBytes (s : List ℕ) (at n v : ℕ) : Type 0 where
  pub few : n ≤ 8
  pub begins : at % 8 ≡ 0
  pub next : at + 8 * n < 2 ^ 64
  pub within : at + 8 * n ≤ 8 * length s
  pub fits : v < 2 ^ (8 * n)

-- v put in w bits of the bytes s at the place `at` leaves t: the field there is v, every other bit is as it was
pub record Put (s : List ℕ) (at w v : ℕ) (t : List ℕ) : Type 0 where
  pub same : length t ≡ length s
  pub here : field t at w ≡ v
  pub before : (k : ℕ) → k < at → bit t k ≡ bit s k
  pub after : (k : ℕ) → at + w ≤ k → bit t k ≡ bit s k

-- n of the `left` bits from the place `at` on, one at least, that lie in one byte
pub record InByte (at left n : ℕ) : Type 0 where
  pub some : 0 < n
  pub most : n ≤ left
  pub inside : at % 8 + n ≤ 8
