-- Putting a claim: what it asks for, and what it leaves.
use Rattle.std.specs.Prelude.{ℕ, ◌+◌, ◌^◌, ◌≤◌, ◌<◌}
use Rattle.plan.specs.Claim.{joined_width, dollars_width}
use Rattle.bits.specs.Begun.{Held}
use Rattle.bits.specs.declared.begun.Begun.{Begun}

-- the bits held and both fields are fewer than a word has, and each value fits
pub record RoomForClaim (b : Begun) (edition joins dollars : ℕ) : Type 0 where
  pub room : b.bits + joined_width edition + dollars_width ≤ 63
  pub held : b.held < 2 ^ b.bits
  pub bit : joins < 2 ^ joined_width edition
  pub fits : dollars < 2 ^ dollars_width

-- its bit is put, where the edition has one, and then its dollars
pub record ClaimPut (b : Begun) (edition joins dollars : ℕ) (r : Begun) : Type 0 where
  pub between : Begun
  pub bit : Held b (joined_width edition) joins between
  pub rest : Held between dollars_width dollars r
