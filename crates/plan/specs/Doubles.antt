-- Document 02, job 5: 'in doubles'. A double is a value of IEEE 754's binary64; each operation works out its result exactly and
-- rounds it once, to the nearest double and at a tie to the one whose last digit is even (the kit's `Rattle.std.specs.Float.Ieee`).
use Rattle.std.specs.Prelude.{ℕ, Bool, ℤ, pos, Float}
use Rattle.std.specs.Float.{binary64}
use Rattle.std.specs.Float.Ieee.{add, mul, div, le, of_int}

abbrev pub ◌+ᵈ◌ : Float → Float → Float
x +ᵈ y = add binary64 x y

abbrev pub ◌*ᵈ◌ : Float → Float → Float
x *ᵈ y = mul binary64 x y

abbrev pub ◌/ᵈ◌ : Float → Float → Float
x /ᵈ y = div binary64 x y

infixl 6 ◌+ᵈ◌
infixl 7 ◌*ᵈ◌
infixl 7 ◌/ᵈ◌
-- a whole number as a double
abbrev pub double : ℤ → Float
double z = of_int binary64 z

abbrev pub whole : ℕ → Float
whole n = double (pos n)

-- one double is at most another
abbrev pub at_most : Float → Float → Bool
at_most x y = le x y
