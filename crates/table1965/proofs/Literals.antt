-- The literals of the code, by their bit patterns, are the definitions' whole numbers and quotients. Assumes nothing.
use Rattle.std.proofs.Common.{◌≡◌, refl}
use lib.Ieee.{binary64, of_bits, of_int, div}
use Rattle.plan.specs.Doubles.{whole, ◌/ᵈ◌}

pub one : of_bits binary64 0x3ff0_0000_0000_0000 ≡ whole 1
unfolding of_bits of_int
one = refl

pub hundred : of_bits binary64 0x4059_0000_0000_0000 ≡ whole 100
unfolding of_bits of_int
hundred = refl

pub thousand : of_bits binary64 0x408f_4000_0000_0000 ≡ whole 1000
unfolding of_bits of_int
thousand = refl

-- 0.0005 as a double is 5 divided by 10,000
pub half-thousandth : of_bits binary64 0x3f40_624d_d2f1_a9fc ≡ whole 5 /ᵈ whole 10000
unfolding of_bits of_int div
half-thousandth = refl
