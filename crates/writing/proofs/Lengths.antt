-- The bytes of so many bits, as the quotient by 8 and one more where bits are left.
use mathlib.Core.Path.{◌≡◌}
use Prim.Native.Nat.{ℕ, ◌+◌, ◌/◌, ◌%◌, min}
use native.Mathlib.Omega.{arith}
use Rattle.plan.specs.Field.{bytes_for}

pub ceil-bytes : (n : ℕ) → n / 8 + min 1 (n % 8) ≡ bytes_for n
ceil-bytes n = grind arith
