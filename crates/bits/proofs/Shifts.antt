-- Shifts and masks of words. A shift that loses nothing is a product, a mask is a remainder, and `|` is a sum
-- where the one side is 0 in the bits of the other. Assumes nothing.
use mathlib.Core.Path.{◌≡◌, sym, ap, ◌∙◌}
use Prim.Native.Nat.{ℕ, ◌+◌, ◌-◌, ◌*◌, ◌/◌, ◌%◌, ◌^◌, ◌≤◌, ◌<◌}
use native.Mathlib.Nat.{one-mul, mod-eq_of_lt, mod-lt, lt_of_lt_of_le}
use native.Mathlib.Omega.{arith}
use lib.Arith.{digits_lt}
use lib.Pow.{pow_pos, pow-lt, pow_mono, pow-add, shl_lt, shr_lt, shl-shr, shr-shr, split, high, low as low_of, field as field_of}
use lib.Bits.{bit_and, bit_or, and_mask, or_shifted}
use Rattle.bits.specs.Words.{Joins, Inserted}

-- `1 << n` loses nothing
one_shl : (n : ℕ) → n < 64 → (1 * 2 ^ n) % 2 ^ 64 ≡ 2 ^ n
one_shl n h = ap (λ (x : ℕ). x % 2 ^ 64) (one-mul (2 ^ n)) ∙ mod-eq_of_lt (pow-lt h)

-- `x & ((1 << n) - 1)` is the n low bits
pub masked : (x n : ℕ) → n < 64 → bit_and x ((1 * 2 ^ n) % 2 ^ 64 - 1) ≡ x % 2 ^ n
masked x n h = ap (λ (m : ℕ). bit_and x (m - 1)) (one_shl n h) ∙ and_mask x n

-- `(high << n) | low` is a sum
pub join-is : {high n low : ℕ} → Joins high n low → bit_or ((high * 2 ^ n) % 2 ^ 64) low ≡ high * 2 ^ n + low
join-is {high} {n} {low} j =
    ap (λ (m : ℕ). bit_or m low) (mod-eq_of_lt j.room) ∙ or_shifted high n low j.fits

-- a number of i bits and one of n bits can be joined
pub joins : (i n : ℕ) {h l : ℕ} → h < 2 ^ i → l < 2 ^ n → (i + n ≤ 64) × (n < 64) → Joins h n l
joins i n p q w = record { narrow = w.1; fits = q; room = lt_of_lt_of_le (shl_lt i n p) (pow_mono w.0) }

-- and are a number of i + n bits
pub join-lt : (i n k : ℕ) {h l : ℕ} → h < 2 ^ i → l < 2 ^ n → i + n ≤ k → h * 2 ^ n + l < 2 ^ k
join-lt i n k p q w = lt_of_lt_of_le (rw (pow-add 2 i n) (digits_lt p q)) (pow_mono w)

-- shifted to the left by s in 64 bits, x has on its front its w bits after the s highest
pub front-after : (x s w : ℕ) → s + w ≤ 64 → (x * 2 ^ s) % 2 ^ 64 / 2 ^ (64 - w) ≡ x / 2 ^ (64 - s - w) % 2 ^ w
front-after x s w h =
    let k : ℕ = 64 - w in
    let rest : ℕ = 64 - s - w in
    let all : 64 ≡ w + k = omega arith in
    let drop : k ≡ s + rest = omega arith in
    ap (λ (j : ℕ). (x * 2 ^ s) % 2 ^ j / 2 ^ k) all
    ∙ field_of (x * 2 ^ s) w k
    ∙ ap (λ (j : ℕ). x * 2 ^ s / 2 ^ j % 2 ^ w) drop
    ∙ ap (λ (y : ℕ). y % 2 ^ w) (sym (shr-shr (x * 2 ^ s) s rest))
    ∙ ap (λ (y : ℕ). y / 2 ^ rest % 2 ^ w) (shl-shr x s)

-- the same by two shifts to the right
pub after-skip : (x s w : ℕ) → s < 8 → w ≤ 32
    → (x * 2 ^ s) % 2 ^ 64 / 2 ^ 1 / 2 ^ (63 - w) ≡ x / 2 ^ 1 / 2 ^ (63 - s - w) % 2 ^ w
after-skip x s w p q =
    let rest : 64 - s - w ≡ 1 + (63 - s - w) = omega arith in
    let k : 1 + (63 - w) ≡ 64 - w = omega arith in
    shr-shr ((x * 2 ^ s) % 2 ^ 64) 1 (63 - w)
    ∙ ap (λ (j : ℕ). (x * 2 ^ s) % 2 ^ 64 / 2 ^ j) k
    ∙ front-after x s w (omega arith)
    ∙ ap (λ (j : ℕ). x / 2 ^ j % 2 ^ w) rest
    ∙ ap (λ (y : ℕ). y % 2 ^ w) (sym (shr-shr x 1 (63 - s - w)))

-- the bits of x above its `left` lowest, and the n next, are those above its left - n lowest
pub next-bits : (x left n : ℕ) → n ≤ left
    → x / 2 ^ left * 2 ^ n + x / 2 ^ (left - n) % 2 ^ n ≡ x / 2 ^ (left - n)
next-bits x left n h =
    let rest : left ≡ left - n + n = omega arith in
    ap (λ (k : ℕ). x / 2 ^ k * 2 ^ n + x / 2 ^ (left - n) % 2 ^ n) rest
    ∙ ap (λ (y : ℕ). y * 2 ^ n + x / 2 ^ (left - n) % 2 ^ n) (sym (shr-shr x (left - n) n))
    ∙ split (x / 2 ^ (left - n)) n

-- ---- a byte b with `part` in the n bits above its `low` lowest

-- the bits above, with the part after them
abbrev top : ℕ → ℕ → ℕ → ℕ → ℕ
top b low n part = b / 2 ^ (low + n) * 2 ^ n + part

-- and with the bits below
abbrev new : ℕ → ℕ → ℕ → ℕ → ℕ
new b low n part = top b low n part * 2 ^ low + b % 2 ^ low

-- both can be joined, and the second is the byte
pub record Parts (b low n part : ℕ) : Type 0 where
  pub first : Joins (b / 2 ^ (low + n)) n part
  pub second : Joins (top b low n part) low (b % 2 ^ low)
  pub byte : new b low n part < 2 ^ 8
  pub is : Inserted b low n part (new b low n part)

pub parts : (b low n part : ℕ) → b < 2 ^ 8 → low + n ≤ 8 → part < 2 ^ n → Parts b low n part
parts b low n part byte inside fits =
    let above : ℕ = b / 2 ^ (low + n) in
    let rest : ℕ = 8 - (low + n) in
    let wide : b < 2 ^ (rest + (low + n)) = lt_of_lt_of_le byte (pow_mono {i = 8} (omega arith)) in
    let above-lt : above < 2 ^ rest = shr_lt rest (low + n) wide in
    let top_lt : top b low n part < 2 ^ (8 - low) = join-lt rest n (8 - low) above-lt fits (omega arith) in
    let below-lt : b % 2 ^ low < 2 ^ low = mod-lt b (pow_pos low) in
    let upper : new b low n part / 2 ^ low ≡ top b low n part = high (top b low n part) low below-lt in record {
      first = joins rest n above-lt fits (omega arith);
      second = joins (8 - low) low top_lt below-lt (omega arith);
      byte = join-lt (8 - low) low 8 top_lt below-lt (omega arith);
      is = record {
        above = sym (shr-shr (new b low n part) low n) ∙ ap (λ (x : ℕ). x / 2 ^ n) upper ∙ high above n fits;
        here = ap (λ (x : ℕ). x % 2 ^ n) upper ∙ low_of above n fits;
        below = low_of (top b low n part) low below-lt;
      };
    }
