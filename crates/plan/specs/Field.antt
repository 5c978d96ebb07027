-- 'Fields lie one after another, most significant bit first, without gaps. Each field is taken at the bit where the one
-- before it ended, and taking it hands on the next place.' A place is the number of a bit, counted from 0 at the first.
use Rattle.std.specs.Prelude.{◌≡◌, Bool, true, ◌&&◌, List, [], ◌∷◌, ◌++◌, ℕ, zero, suc, ◌+◌, ◌-◌, ◌*◌, ◌/◌, ◌%◌, ◌^◌, ◌<◌, ltb, get_or, replicate}

-- ---- taken

-- bit k of the bytes s: in byte k ÷ 8, most significant first (7 − k % 8 cannot cut off); 0 past the end
unfoldable pub bit : List ℕ → ℕ → ℕ
bit s k = get_or s (k / 8) 0 / 2 ^ (7 - k % 8) % 2

-- the number whose binary digits are the w bits from the place `at` on
unfoldable pub number : (ℕ → ℕ) → ℕ → ℕ → ℕ
number b at zero = 0
number b at (suc w) = number b at w * 2 + b (at + w)

-- a field of w bits at the place `at`; the next place is at + w
unfoldable pub field : List ℕ → ℕ → ℕ → ℕ
field s at w = number (bit s) at w

-- k fields of w bits each, one after another
abbrev pub fields : List ℕ → ℕ → ℕ → ℕ → List ℕ
fields s at w zero = []
fields s at w (suc k) = field s at w ∷ fields s (at + w) w k

-- ---- written

-- a field to be written: its width and its value
pub data Slot : Type 0 where
  slot : (width value : ℕ) → Slot

-- numbers as fields of w bits each
abbrev pub slots : ℕ → List ℕ → List Slot
slots w [] = []
slots w (v ∷ vs) = slot w v ∷ slots w vs

-- how many bits the fields take
abbrev pub total_width : List Slot → ℕ
total_width [] = 0
total_width (slot w v ∷ fs) = w + total_width fs

-- a number's w bits, most significant first
abbrev pub digits : ℕ → ℕ → List ℕ
digits zero v = []
digits (suc w) v = v / 2 ^ w % 2 ∷ digits w v

-- the fields' bits, one field after another, without gaps
abbrev pub bits_of : List Slot → List ℕ
bits_of [] = []
bits_of (slot w v ∷ fs) = digits w v ++ bits_of fs

-- n bytes of the bits b from the place `at` on
abbrev pub bytes_from : (ℕ → ℕ) → ℕ → ℕ → List ℕ
bytes_from b at zero = []
bytes_from b at (suc n) = number b at 8 ∷ bytes_from b (at + 8) n

-- how many bytes hold so many bits
abbrev pub bytes_for : ℕ → ℕ
bytes_for bits = (bits + 7) / 8

-- fields as whole bytes: their bits, then zero bits that fill the last byte, eight to a byte
-- (8 × bytes − bits cannot cut off: bytes_for rounds up)
unfoldable pub bytes_of : List Slot → List ℕ
bytes_of fs =
    let bits : List ℕ = bits_of fs ++ replicate (8 * bytes_for (total_width fs) - total_width fs) 0 in
    bytes_from (λ k. get_or bits k 0) 0 (bytes_for (total_width fs))

-- ---- of fields and bytes

-- the fields lie in s from `at` on, one after another
abbrev pub Laid : List ℕ → ℕ → List Slot → Type 0
Laid s at [] = Unit {0}
Laid s at (slot w v ∷ fs) = (field s at w ≡ v) × Laid s (at + w) fs

-- each field's value has no more bits than the field
abbrev pub Fitting : List Slot → Type 0
Fitting [] = Unit {0}
Fitting (slot w v ∷ fs) = (v < 2 ^ w) × Fitting fs

-- whether a value fits so many bits
abbrev pub fits : ℕ → ℕ → Bool
fits w v = ltb v (2 ^ w)

-- whether each value of a list does
abbrev pub all_fit : ℕ → List ℕ → Bool
all_fit w [] = true
all_fit w (v ∷ vs) = fits w v && all_fit w vs
