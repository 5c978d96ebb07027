-- Fields put and held before they are stored: what each step asks for, and what it leaves.
use Rattle.std.specs.Prelude.{◌≡◌, List, ℕ, ◌+◌, ◌*◌, ◌/◌, ◌%◌, ◌^◌, ◌≤◌, ◌<◌, length}
use Rattle.plan.specs.Field.{field}
use Rattle.bits.specs.Put.{Put}
use Rattle.bits.specs.declared.begun.Begun.{Begun}

-- begun at the place `at` of the bytes s: fewer bits than a byte has are held, which are those before the place
pub record BegunAt (s : List ℕ) (at : ℕ) (b : Begun) : Type 0 where
  pub place : 8 * b.byte + b.bits ≡ at
  pub few : b.bits < 8
  pub held : b.held ≡ field s (8 * b.byte) b.bits

-- v is a number of w bits, and a word has room for the bits held and these
pub record RoomToHold (b : Begun) (w v : ℕ) : Type 0 where
  pub room : b.bits + w ≤ 64
  pub narrow : w < 64
  pub held : b.held < 2 ^ b.bits
  pub fits : v < 2 ^ w

-- v put in w bits, which are held
pub record Held (b : Begun) (w v : ℕ) (r : Begun) : Type 0 where
  pub byte : r.byte ≡ b.byte
  pub bits : r.bits ≡ b.bits + w
  pub held : r.held ≡ b.held * 2 ^ w + v

-- n whole bytes, eight at most, are held, and the bytes s have so many there
pub record RoomToStore (s : List ℕ) (b : Begun) (n : ℕ) : Type 0 where
  pub few : n ≤ 8
  pub whole : 8 * n ≤ b.bits
  pub narrow : b.bits < 64
  pub held : b.held < 2 ^ b.bits
  pub next : 8 * b.byte + 8 * n < 2 ^ 64
  pub within : 8 * b.byte + 8 * n ≤ 8 * length s

-- n whole bytes stored over the bytes s, which leaves t: the bits held are the others
pub record Stored (s : List ℕ) (b : Begun) (n : ℕ) (t : List ℕ) (r : Begun) : Type 0 where
  pub byte : r.byte ≡ b.byte + n
  pub bits : b.bits ≡ 8 * n + r.bits
  pub held : r.held ≡ b.held % 2 ^ r.bits
  pub put : Put s (8 * b.byte) (8 * n) (b.held / 2 ^ r.bits) t
