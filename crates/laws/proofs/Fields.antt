-- Laws of fields: bound, split, part, locality, extensionality, and the byte law. A field is the number that its bits write,
-- so each law is one about `number`, by induction on the width, and holds for any source of bits. The byte law says that the
-- bits of a byte are its binary digits: dividing by 2 ^ (8 − j) leaves the first j. Assumes nothing.
use mathlib.Core.Path.{◌≡◌, refl, sym, ap, ap₂, ◌∙◌}
use mathlib.Core.List.{List, ◌∷◌, ◌++◌}
use Prim.Native.Nat.{ℕ, zero, suc, ◌+◌, ◌-◌, ◌*◌, ◌/◌, ◌%◌, ◌^◌, ◌≤◌, ◌<◌}
use native.Mathlib.Nat.{zero-add, add-zero, add-suc, add_assoc, mul_assoc, mod-lt, div-eq_of_lt, div-one, pow-suc, zero-lt-suc, lt_of_lt_of_le}
use native.Mathlib.Decide.{ℕ_discrete}
use native.Mathlib.Omega.{arith}
use lib.ListN.{length, get_or, get_or-eq_default, get_or-append}
use lib.Seq.{ext_get_or}
use lib.Pow.{pow_mono, shr-shr, high, low}
use Rattle.plan.specs.Field.{bit, number, field, fields}

-- a decision's two cases
pub by_cases : {A B : Type 0} → (A → B) → ((A → ⊥) → B) → Dec A → B
by_cases f g (yes a) = f a
by_cases f g (no d) = g d

-- each element is a byte
abbrev pub Bytes : List ℕ → Type 0
Bytes s = (i : ℕ) → get_or s i 0 < 256

-- ---- numbers of any bits

-- bits of a source are 0 or 1
abbrev pub Binary : (ℕ → ℕ) → Type 0
Binary b = (k : ℕ) → b k < 2

pub number-none : (b : ℕ → ℕ) (at : ℕ) → number b at 0 ≡ 0
unfolding number
number-none b at = refl

pub number-one : (b : ℕ → ℕ) (at : ℕ) → number b at 1 ≡ b at
unfolding number
number-one b at = zero-add (b (at + 0)) ∙ ap b (add-zero at)

-- bound: a number of w bits is below 2 ^ w
pub number_lt : (b : ℕ → ℕ) → Binary b → (at w : ℕ) → number b at w < 2 ^ w
unfolding number
number_lt b h at zero = omega arith
number_lt b h at (suc w) = omega (arith, number_lt b h at w, h (at + w), pow-suc 2 w)

shl-suc : (a k : ℕ) → a * 2 ^ suc k ≡ a * 2 ^ k * 2
shl-suc a k = ap (λ (x : ℕ). a * x) (pow-suc 2 k) ∙ sym (mul_assoc a (2 ^ k) 2)

-- split: v + w bits are the first v, then the w after them
pub number-split : (b : ℕ → ℕ) (at v w : ℕ) → number b at (v + w) ≡ number b at v * 2 ^ w + number b (at + v) w
unfolding number
number-split b at v zero = ap (number b at) (add-zero v) ∙ omega arith
number-split b at v (suc w) =
    ap (number b at) (add-suc v w)
    ∙ omega (arith, number-split b at v w, shl-suc (number b at v) w, ap b (add_assoc at v w))

-- locality: a number is a matter of its own bits, wherever they stand
pub number_same : (b c : ℕ → ℕ) (at at' w : ℕ) → ((k : ℕ) → k < w → b (at + k) ≡ c (at' + k)) → number b at w ≡ number c at' w
unfolding number
number_same b c at at' zero h = refl
number_same b c at at' (suc w) h =
    ap₂ (λ (x y : ℕ). x * 2 + y) (number_same b c at at' w (λ k l. h k (omega arith))) (h w (omega arith))

-- part: w bits that stand after v others and before `rest` others
pub number-part : (b : ℕ → ℕ) → Binary b → (at v w rest : ℕ) → number b (at + v) w ≡ number b at (v + w + rest) / 2 ^ rest % 2 ^ w
number-part b h at v w rest =
    sym (ap (λ (x : ℕ). x / 2 ^ rest % 2 ^ w) (number-split b at (v + w) rest)
    ∙ ap (λ (x : ℕ). x % 2 ^ w) (high (number b at (v + w)) rest (number_lt b h (at + (v + w)) rest) ∙ number-split b at v w)
    ∙ low (number b at v) w (number_lt b h (at + v) w))

-- extensionality: equal numbers have equal bits
pub number-bits : (b c : ℕ → ℕ) → Binary b → Binary c → (at w : ℕ) → number b at w ≡ number c at w
    → (k : ℕ) → at ≤ k → k < at + w → b k ≡ c k
unfolding number
number-bits b c hb hc at zero e k lo hi = omega arith
number-bits b c hb hc at (suc w) e k lo hi =
    let highs : number b at w ≡ number c at w = omega (arith, hb (at + w), hc (at + w)) in
    let lows : b (at + w) ≡ c (at + w) = omega (arith, hb (at + w), hc (at + w)) in
    by_cases
    (λ q. ap b q ∙ lows ∙ ap c (sym q))
    (λ d. number-bits b c hb hc at w highs k lo (omega arith))
    (ℕ_discrete k (at + w))

-- bits that are all 0 write 0
pub number-zero : (b : ℕ → ℕ) (at w : ℕ) → ((k : ℕ) → at ≤ k → k < at + w → b k ≡ 0) → number b at w ≡ 0
unfolding number
number-zero b at zero h = refl
number-zero b at (suc w) h =
    omega (arith, number-zero b at w (λ k l m. h k l (omega arith)), h (at + w) (omega arith) (omega arith))

-- and a number that is 0 has no other bits
pub zero_bits : (b : ℕ → ℕ) (at w : ℕ) → number b at w ≡ 0 → (k : ℕ) → at ≤ k → k < at + w → b k ≡ 0
unfolding number
zero_bits b at zero e k lo hi = omega arith
zero_bits b at (suc w) e k lo hi =
    by_cases
    (λ q. ap b q ∙ omega arith)
    (λ d. zero_bits b at w (omega arith) k lo (omega arith))
    (ℕ_discrete k (at + w))

-- ---- fields of bytes

pub bit-lt : (s : List ℕ) → Binary (bit s)
unfolding bit
bit-lt s k = mod-lt _ (zero-lt-suc 1)

pub field-none : (s : List ℕ) (at : ℕ) → field s at 0 ≡ 0
unfolding field
field-none s at = number-none (bit s) at

pub field_lt : (s : List ℕ) (at w : ℕ) → field s at w < 2 ^ w
unfolding field
field_lt s at w = number_lt (bit s) (bit-lt s) at w

-- a field of at most v bits is below 2 ^ v
pub field_below : (s : List ℕ) (at w v : ℕ) → w ≤ v → field s at w < 2 ^ v
field_below s at w v h = lt_of_lt_of_le (field_lt s at w) (pow_mono h)

pub field-split : (s : List ℕ) (at v w : ℕ) → field s at (v + w) ≡ field s at v * 2 ^ w + field s (at + v) w
unfolding field
field-split s at v w = number-split (bit s) at v w

pub field-part : (s : List ℕ) (at v w rest : ℕ) → field s (at + v) w ≡ field s at (v + w + rest) / 2 ^ rest % 2 ^ w
unfolding field
field-part s at v w rest = number-part (bit s) (bit-lt s) at v w rest

pub field-same : (s t : List ℕ) (at w : ℕ) → ((k : ℕ) → at ≤ k → k < at + w → bit s k ≡ bit t k) → field s at w ≡ field t at w
unfolding field
field-same s t at w h = number_same (bit s) (bit t) at at w (λ k l. h (at + k) (omega arith) (omega arith))

pub field-bits : (s t : List ℕ) (at w : ℕ) → field s at w ≡ field t at w → (k : ℕ) → at ≤ k → k < at + w → bit s k ≡ bit t k
unfolding field
field-bits s t at w e = number-bits (bit s) (bit t) (bit-lt s) (bit-lt t) at w e

-- a field at another place where its bits are
pub field_at : (s : List ℕ) {at at' : ℕ} (w : ℕ) → at ≡ at' → field s at w ≡ field s at' w
field_at s w e = ap (λ (x : ℕ). field s x w) e

-- past the end all bits are 0
pub bit_past : (s : List ℕ) (k : ℕ) → 8 * length s ≤ k → bit s k ≡ 0
unfolding bit
bit_past s k h =
    let past : length s ≤ k / 8 = omega arith in
    ap (λ (x : ℕ). x / 2 ^ (7 - k % 8) % 2) (get_or-eq_default s 0 past)
    ∙ ap (λ (x : ℕ). x % 2) (div-eq_of_lt {n = 0} (lt_of_lt_of_le (zero-lt-suc 0) (pow_mono {i = 0} (omega arith))))

-- bytes behind others change none of the others' bits
pub bit-append : (s t : List ℕ) (k : ℕ) → k < 8 * length s → bit (s ++ t) k ≡ bit s k
unfolding bit
bit-append s t k h = ap (λ (x : ℕ). x / 2 ^ (7 - k % 8) % 2) (get_or-append s t 0 (k / 8) (omega arith))

-- ---- the byte law

halved : (x k : ℕ) → x / 2 ^ suc k * 2 + x / 2 ^ k % 2 ≡ x / 2 ^ k
halved x k =
    let e : x / 2 ^ k / 2 ≡ x / 2 ^ suc k = shr-shr x k 1 ∙ ap (λ (j : ℕ). x / 2 ^ j) (omega arith) in
    omega (arith, e)

-- the first j bits of byte i
byte-part : (s : List ℕ) (i j : ℕ) → j ≤ 8 → get_or s i 0 < 2 ^ 8 → number (bit s) (8 * i) j ≡ get_or s i 0 / 2 ^ (8 - j)
unfolding number bit
byte-part s i zero h b = sym (div-eq_of_lt b)
byte-part s i (suc j) h b =
    let up : 8 - j ≡ suc (7 - j) = omega arith in
    let down : 8 - suc j ≡ 7 - j = omega arith in
    let here : (8 * i + j) / 8 ≡ i = omega arith in
    let within : (8 * i + j) % 8 ≡ j = omega arith in
    ap₂ (λ (x y : ℕ). x * 2 + y)
    (byte-part s i j (omega arith) b ∙ ap (λ (k : ℕ). get_or s i 0 / 2 ^ k) up)
    (ap₂ (λ (x y : ℕ). get_or s x 0 / 2 ^ (7 - y) % 2) here within)
    ∙ halved (get_or s i 0) (7 - j)
    ∙ ap (λ (k : ℕ). get_or s i 0 / 2 ^ k) (sym down)

-- a field of eight bits at a byte's border is the byte
pub field-byte : (s : List ℕ) (i : ℕ) → get_or s i 0 < 256 → field s (8 * i) 8 ≡ get_or s i 0
unfolding field
field-byte s i h = byte-part s i 8 (omega arith) h ∙ div-one (get_or s i 0)

-- two lists of bytes, of one length, with the same bits are the same
pub bits-ext : (s t : List ℕ) → length s ≡ length t → Bytes s → Bytes t
    → ((k : ℕ) → k < 8 * length s → bit s k ≡ bit t k) → s ≡ t
bits-ext s t l hs ht h =
    ext_get_or 0 s t l
    (λ i b. sym (field-byte s i (hs i)) ∙ field-same s t (8 * i) 8 (λ k lo hi. h k (omega arith)) ∙ field-byte t i (ht i))

-- ---- rows of fields

-- a row is a matter of its own bits
pub fields-same : (s t : List ℕ) (at w k : ℕ) → ((j : ℕ) → at ≤ j → j < at + k * w → bit s j ≡ bit t j) → fields s at w k ≡ fields t at w k
fields-same s t at w zero h = refl
fields-same s t at w (suc k) h =
    ap₂ ◌∷◌
    (field-same s t at w (λ j lo hi. h j lo (omega arith)))
    (fields-same s t (at + w) w k (λ j lo hi. h j (omega arith) (omega arith)))
