-- Fields written are the fields taken. A number's digits write the number again, so the bits of fields written one after
-- another hold each field at the place where the one before it ended; packing eight bits to a byte keeps every bit. And bytes
-- are told by their bits: those on which given fields lie, with zero bits behind them, are the bytes of these fields. Assumes
-- nothing.
use mathlib.Core.Path.{◌≡◌, refl, sym, ap, ap₂, ◌∙◌, subst}
use mathlib.Core.List.{List, [], ◌∷◌, ◌++◌, append_assoc}
use Prim.Native.Nat.{ℕ, zero, suc, ◌+◌, ◌-◌, ◌*◌, ◌/◌, ◌%◌, ◌^◌, ◌≤◌, ◌<◌}
use native.Mathlib.Nat.{zero-add, add-zero, add_assoc, mod-lt, mod-eq_of_lt, zero-lt-suc}
use native.Mathlib.Decide.{dec_lt}
use native.Mathlib.Omega.{arith}
use lib.ListN.{length, get_or, replicate, length-append, length-replicate, get_or-eq_default}
use lib.Seq.{get_or-append-add}
use lib.Pow.{mod-pow-add}
use Rattle.plan.specs.Field.{bit, number, field, fields, Slot, slot, slots, total_width, digits, bits_of, bytes_from, bytes_for}
use Rattle.plan.specs.Field.{bytes_of, Laid, Fitting}
use Rattle.laws.proofs.Fields.{
  by_cases,
  Bytes,
  Binary,
  number-none,
  number-one,
  number_lt,
  number-split,
  number_same,
  number-part,
  field-same,
  field-bits,
  bits-ext,
  bit_past,
}

-- ---- lists of bits

-- a list as a source of bits, 0 past its end
abbrev pub source : List ℕ → ℕ → ℕ
source bs k = get_or bs k 0

binary-append : (xs ys : List ℕ) → Binary (source xs) → Binary (source ys) → Binary (source (xs ++ ys))
binary-append [] ys hx hy k = hy k
binary-append (x ∷ xs) ys hx hy zero = hx 0
binary-append (x ∷ xs) ys hx hy (suc k) = binary-append xs ys (λ j. hx (suc j)) hy k

binary-digits : (w v : ℕ) → Binary (source (digits w v))
binary-digits zero v zero = omega arith
binary-digits zero v (suc k) = omega arith
binary-digits (suc w) v zero = mod-lt _ (zero-lt-suc 1)
binary-digits (suc w) v (suc k) = binary-digits w v k

binary-bits : (fs : List Slot) → Binary (source (bits_of fs))
binary-bits [] zero = omega arith
binary-bits [] (suc k) = omega arith
binary-bits (slot w v ∷ fs) k = binary-append (digits w v) (bits_of fs) (binary-digits w v) (binary-bits fs) k

zeros : (n k : ℕ) → source (replicate n 0) k ≡ 0
zeros zero zero = refl
zeros zero (suc k) = refl
zeros (suc n) zero = refl
zeros (suc n) (suc k) = zeros n k

length_digits : (w v : ℕ) → length (digits w v) ≡ w
length_digits zero v = refl
length_digits (suc w) v = ap suc (length_digits w v)

length-bits : (fs : List Slot) → length (bits_of fs) ≡ total_width fs
length-bits [] = refl
length-bits (slot w v ∷ fs) =
    length-append (digits w v) (bits_of fs) ∙ ap₂ ◌+◌ (length_digits w v) (length-bits fs)

-- bits behind others
behind : (p q : List ℕ) (at w : ℕ) → number (source (p ++ q)) (length p + at) w ≡ number (source q) at w
behind p q at w =
    number_same (source (p ++ q)) (source q) (length p + at) at w
    (λ k h. ap (source (p ++ q)) (add_assoc (length p) at k) ∙ get_or-append-add p q (at + k) 0)

-- the digits of a number write its last w bits
digits_number : (w v : ℕ) (q : List ℕ) → number (source (digits w v ++ q)) 0 w ≡ v % 2 ^ w
digits_number zero v q = number-none (source q) 0 ∙ omega arith
digits_number (suc w) v q =
    let b : ℕ → ℕ = source (digits (suc w) v ++ q) in
    let one : 1 + w ≡ suc w = omega arith in
    let first : number b 0 1 ≡ v / 2 ^ w % 2 = number-one b 0 in
    let rest : number b 1 w ≡ v % 2 ^ w =
    behind (v / 2 ^ w % 2 ∷ []) (digits w v ++ q) 0 w ∙ digits_number w v q in
    ap (number b 0) (sym one) ∙ number-split b 0 1 w ∙ ap₂ (λ (x y : ℕ). x * 2 ^ w + y) first rest
    ∙ sym (mod-pow-add v 1 w) ∙ ap (λ (x : ℕ). v % 2 ^ x) one

-- fields written behind p, and before q, hold their values
abbrev LaidBits : (ℕ → ℕ) → ℕ → List Slot → Type 0
LaidBits b at [] = Unit {0}
LaidBits b at (slot w v ∷ fs) = (number b at w ≡ v) × LaidBits b (at + w) fs

laid-bits : (p : List ℕ) (fs : List Slot) (q : List ℕ) → Fitting fs → LaidBits (source (p ++ (bits_of fs ++ q))) (length p) fs
laid-bits p [] q f = tt
laid-bits p (slot w v ∷ fs) q f =
    let all : List ℕ = p ++ ((digits w v ++ bits_of fs) ++ q) in
    let one : all ≡ p ++ (digits w v ++ (bits_of fs ++ q)) =
    ap (λ (l : List ℕ). p ++ l) (append_assoc (digits w v) (bits_of fs) q) in
    let two : all ≡ (p ++ digits w v) ++ (bits_of fs ++ q) = one ∙ sym (append_assoc p (digits w v) (bits_of fs ++ q)) in
    let here : number (source all) (length p) w ≡ v =
    ap (λ (l : List ℕ). number (source l) (length p) w) one
    ∙ ap (λ (x : ℕ). number (source (p ++ (digits w v ++ (bits_of fs ++ q)))) x w) (sym (add-zero (length p)))
    ∙ behind p (digits w v ++ (bits_of fs ++ q)) 0 w
    ∙ digits_number w v (bits_of fs ++ q)
    ∙ mod-eq_of_lt f.0 in
    let place : length (p ++ digits w v) ≡ length p + w =
    length-append p (digits w v) ∙ ap (λ (x : ℕ). length p + x) (length_digits w v) in
    let next : LaidBits (source all) (length p + w) fs =
    subst (λ (l : List ℕ). LaidBits (source l) (length p + w) fs) (sym two)
    (subst (λ (x : ℕ). LaidBits (source ((p ++ digits w v) ++ (bits_of fs ++ q))) x fs) place
    (laid-bits (p ++ digits w v) fs q f.1)) in
    (here, next)

-- ---- eight bits to a byte

pub length-bytes_from : (b : ℕ → ℕ) (at n : ℕ) → length (bytes_from b at n) ≡ n
length-bytes_from b at zero = refl
length-bytes_from b at (suc n) = ap suc (length-bytes_from b (at + 8) n)

-- byte i
bytes_from-at : (b : ℕ → ℕ) (at n i : ℕ) → i < n → get_or (bytes_from b at n) i 0 ≡ number b (at + 8 * i) 8
bytes_from-at b at zero i h = absurd (omega arith)
bytes_from-at b at (suc n) zero h = ap (λ (x : ℕ). number b x 8) (omega arith)
bytes_from-at b at (suc n) (suc i) h =
    bytes_from-at b (at + 8) n i (omega arith) ∙ ap (λ (x : ℕ). number b x 8) (omega arith)

bytes_from-bytes : (b : ℕ → ℕ) → Binary b → (at n : ℕ) → Bytes (bytes_from b at n)
bytes_from-bytes b h at n i =
    by_cases
    (λ l. subst (λ (x : ℕ). x < 256) (sym (bytes_from-at b at n i l)) (number_lt b h (at + 8 * i) 8))
    (λ l. subst (λ (x : ℕ). x < 256) (sym (get_or-eq_default (bytes_from b at n) 0 (omega (arith, length-bytes_from b at n)))) (omega arith))
    (dec_lt i n)

-- packing keeps each bit
bytes_from-bit : (b : ℕ → ℕ) → Binary b → (n k : ℕ) → k < 8 * n → bit (bytes_from b 0 n) k ≡ b k
unfolding bit
bytes_from-bit b h n k l =
    let i : ℕ = k / 8 in
    let j : ℕ = k % 8 in
    let byte : get_or (bytes_from b 0 n) (k / 8) 0 ≡ number b (8 * (k / 8)) 8 =
    bytes_from-at b 0 n (k / 8) (omega arith) ∙ ap (λ (x : ℕ). number b x 8) (zero-add (8 * (k / 8))) in
    let whole : k % 8 + 1 + (7 - k % 8) ≡ 8 = omega arith in
    let place : 8 * (k / 8) + k % 8 ≡ k = omega arith in
    ap (λ (x : ℕ). x / 2 ^ (7 - k % 8) % 2) byte
    ∙ ap (λ (x : ℕ). number b (8 * (k / 8)) x / 2 ^ (7 - k % 8) % 2) (sym whole)
    ∙ sym (number-part b h (8 * (k / 8)) (k % 8) 1 (7 - k % 8))
    ∙ number-one b (8 * (k / 8) + k % 8)
    ∙ ap b place

-- ---- the bytes of fields

module _ (fs : List Slot) where
  -- the zero bits that fill the last byte
  abbrev fill : ℕ
  fill = 8 * bytes_for (total_width fs) - total_width fs

  -- the fields' bits and the fill
  abbrev packed : List ℕ
  packed = bits_of fs ++ replicate fill 0

  binary-packed : Binary (source packed)
  binary-packed =
      binary-append (bits_of fs) (replicate fill 0) (binary-bits fs)
      (λ k. subst (λ (x : ℕ). x < 2) (sym (zeros fill k)) (omega arith))

  pub length-bytes_of : length (bytes_of fs) ≡ bytes_for (total_width fs)
  unfolding bytes_of
  length-bytes_of = length-bytes_from (source packed) 0 (bytes_for (total_width fs))

  pub bytes_of-bytes : Bytes (bytes_of fs)
  unfolding bytes_of
  bytes_of-bytes = bytes_from-bytes (source packed) binary-packed 0 (bytes_for (total_width fs))

  length-packed : length packed ≡ 8 * bytes_for (total_width fs)
  length-packed =
      omega (
        arith,
        length-append (bits_of fs) (replicate fill 0),
        length-bits fs,
        length-replicate {A = ℕ} fill 0,
      )

  bytes_of-bit : (k : ℕ) → bit (bytes_of fs) k ≡ source packed k
  unfolding bytes_of
  bytes_of-bit k =
      by_cases
      (λ l. bytes_from-bit (source packed) binary-packed (bytes_for (total_width fs)) k l)
      (λ l. bit_past (bytes_of fs) k (omega (arith, length-bytes_of)) ∙ sym (get_or-eq_default packed 0 (omega (arith, length-packed))))
      (dec_lt k (8 * bytes_for (total_width fs)))

  -- 'Zero bits fill the last byte'
  pub bytes_of-fill : (k : ℕ) → total_width fs ≤ k → bit (bytes_of fs) k ≡ 0
  bytes_of-fill k h =
      let e : length (bits_of fs) + (k - total_width fs) ≡ k = omega (arith, length-bits fs) in
      bytes_of-bit k ∙ ap (source packed) (sym e) ∙ get_or-append-add (bits_of fs) (replicate fill 0) (k - total_width fs) 0
      ∙ zeros fill (k - total_width fs)

same-laid : (s : List ℕ) (b : ℕ → ℕ) → ((k : ℕ) → bit s k ≡ b k) → (at : ℕ) (fs : List Slot) → LaidBits b at fs → Laid s at fs
unfolding field
same-laid s b e at [] l = tt
same-laid s b e at (slot w v ∷ fs) l =
    (number_same (bit s) b at at w (λ k h. e (at + k)) ∙ l.0, same-laid s b e (at + w) fs l.1)

-- fields written lie there
pub bytes_of-laid : (fs : List Slot) → Fitting fs → Laid (bytes_of fs) 0 fs
bytes_of-laid fs f = same-laid (bytes_of fs) (source (packed fs)) (bytes_of-bit fs) 0 fs (laid-bits [] fs (replicate (fill fs) 0) f)

-- ---- fields that lie somewhere

-- they stay where their bits stay
pub laid_same : (s t : List ℕ) (at : ℕ) (fs : List Slot) → ((k : ℕ) → at ≤ k → k < at + total_width fs → bit s k ≡ bit t k)
    → Laid s at fs → Laid t at fs
laid_same s t at [] h l = tt
laid_same s t at (slot w v ∷ fs) h l = (
  sym (field-same s t at w (λ k lo hi. h k lo (omega arith))) ∙ l.0,
  laid_same s t (at + w) fs (λ k lo hi. h k (omega arith) (omega arith)) l.1,
)

-- lists on which the same fields lie have the same bits there
pub laid_one : (s t : List ℕ) (at : ℕ) (fs : List Slot) → Laid s at fs → Laid t at fs
    → (k : ℕ) → at ≤ k → k < at + total_width fs → bit s k ≡ bit t k
laid_one s t at [] l m k lo hi = absurd (omega arith)
laid_one s t at (slot w v ∷ fs) l m k lo hi =
    by_cases
    (λ h. field-bits s t at w (l.0 ∙ sym m.0) k lo h)
    (λ h. laid_one s t (at + w) fs l.1 m.1 k (omega arith) (omega arith))
    (dec_lt k (at + w))

-- two runs of fields, one behind the other
pub width-append : (fs gs : List Slot) → total_width (fs ++ gs) ≡ total_width fs + total_width gs
width-append [] gs = omega arith
width-append (slot w v ∷ fs) gs = omega (arith, width-append fs gs)

pub laid-append : (s : List ℕ) (at : ℕ) (fs gs : List Slot) → Laid s at fs → Laid s (at + total_width fs) gs → Laid s at (fs ++ gs)
laid-append s at [] gs l m = subst (λ (x : ℕ). Laid s x gs) (add-zero at) m
laid-append s at (slot w v ∷ fs) gs l m =
    (l.0, laid-append s (at + w) fs gs l.1 (subst (λ (x : ℕ). Laid s x gs) (sym (add_assoc at w (total_width fs))) m))

pub laid-first : (s : List ℕ) (at : ℕ) (fs gs : List Slot) → Laid s at (fs ++ gs) → Laid s at fs
laid-first s at [] gs l = tt
laid-first s at (slot w v ∷ fs) gs l = (l.0, laid-first s (at + w) fs gs l.1)

pub laid-second : (s : List ℕ) (at : ℕ) (fs gs : List Slot) → Laid s at (fs ++ gs) → Laid s (at + total_width fs) gs
laid-second s at [] gs l = subst (λ (x : ℕ). Laid s x gs) (sym (add-zero at)) l
laid-second s at (slot w v ∷ fs) gs l =
    subst (λ (x : ℕ). Laid s x gs) (add_assoc at w (total_width fs)) (laid-second s (at + w) fs gs l.1)

pub fitting-append : (fs gs : List Slot) → Fitting fs → Fitting gs → Fitting (fs ++ gs)
fitting-append [] gs f g = g
fitting-append (slot w v ∷ fs) gs f g = (f.0, fitting-append fs gs f.1 g)

pub fitting-first : (fs gs : List Slot) → Fitting (fs ++ gs) → Fitting fs
fitting-first [] gs f = tt
fitting-first (slot w v ∷ fs) gs f = (f.0, fitting-first fs gs f.1)

pub fitting-second : (fs gs : List Slot) → Fitting (fs ++ gs) → Fitting gs
fitting-second [] gs f = f
fitting-second (slot w v ∷ fs) gs f = fitting-second fs gs f.1

-- rows of numbers
pub width-slots : (w : ℕ) (vs : List ℕ) → total_width (slots w vs) ≡ length vs * w
width-slots w [] = omega arith
width-slots w (v ∷ vs) = omega (arith, width-slots w vs)

pub slots-laid : (s : List ℕ) (at w : ℕ) (vs : List ℕ) → Laid s at (slots w vs) → fields s at w (length vs) ≡ vs
slots-laid s at w [] l = refl
slots-laid s at w (v ∷ vs) l = ap₂ ◌∷◌ l.0 (slots-laid s (at + w) w vs l.1)

-- ---- bytes are told by their fields

pub bytes_of-unique : (s : List ℕ) (fs : List Slot) → Bytes s → Fitting fs → length s ≡ bytes_for (total_width fs) → Laid s 0 fs
    → ((k : ℕ) → total_width fs ≤ k → k < 8 * length s → bit s k ≡ 0) → s ≡ bytes_of fs
bytes_of-unique s fs hs f l laid fill =
    bits-ext s (bytes_of fs) (l ∙ sym (length-bytes_of fs)) hs (bytes_of-bytes fs)
    (λ k h. by_cases
    (λ lo. laid_one s (bytes_of fs) 0 fs laid (bytes_of-laid fs f) k (omega arith) (omega arith))
    (λ hi. fill k (omega arith) h ∙ sym (bytes_of-fill fs k (omega arith)))
    (dec_lt k (total_width fs)))
