-- A field put as whole bytes. The bytes of a number, the highest first, are its field: the first k of n bytes are the number without
-- its 8 × (n − k) lowest bits. Assumes nothing.
use Rattle.std.proofs.Common.{◌≡◌, refl, sym, ap, ap₂, ◌∙◌, ℕ, zero, suc, ◌+◌, ◌-◌, ◌*◌, ◌/◌, ◌%◌, ◌^◌, ◌≤◌, ◌<◌, List, length, get_or, take, drop, w64, arith, rules}
use native.Mathlib.Nat.{div-eq_of_lt, div-one}
use native.Mathlib.Nat.{pow-suc}
use lib.Pow.{pow-add}
use borrow.Rule.Slice.PartMut.{put_mid}
use Rattle.std.specs.Int.{byte_at, bytes_high_first, to_be_bytes}
use Rattle.std.proofs.lemmas.List.{places}
use Rattle.plan.specs.Field.{bit, field}
use Rattle.laws.proofs.Fields.{Bytes, field-none, field-split, field_at, field-byte}
use Rattle.bits.proofs.Shifts.{next-bits}
use Rattle.bits.specs.Put.{Put}

-- a power of 256 is one of 2
pow-256 : (j : ℕ) → 256 ^ j ≡ 2 ^ (8 * j)
pow-256 zero = refl
pow-256 (suc j) =
    let next : 8 * suc j ≡ 8 * j + 8 = omega arith in
    pow-suc 256 j ∙ ap (λ (x : ℕ). x * 256) (pow-256 j) ∙ sym (pow-add 2 (8 * j) 8) ∙ ap (λ (x : ℕ). 2 ^ x) (sym next)

-- byte j of a number is eight of its bits
byte-bits : (v j : ℕ) → byte_at j v ≡ v / 2 ^ (8 * j) % 2 ^ 8
byte-bits v zero = ap (λ (x : ℕ). x % 256) (sym (div-one v))
byte-bits v (suc j) = ap (λ (x : ℕ). v / x % 256) (pow-256 (suc j))

-- byte k of n, the highest first
byte-high : (v n k : ℕ) → k < n → get_or (bytes_high_first n v) k 0 ≡ byte_at (n - 1 - k) v
byte-high v zero k h = absurd (omega arith)
byte-high v (suc n) zero h = ap (λ (j : ℕ). byte_at j v) (omega arith)
byte-high v (suc n) (suc k) h = byte-high v n k (omega arith) ∙ ap (λ (j : ℕ). byte_at j v) (omega arith)

-- the n lowest bytes of v put over byte i and those after it
module _ (s ys : List ℕ) (i n v : ℕ) (few : n ≤ 8) (within : i + n ≤ length s) (fits : v < 2 ^ (8 * n))
    (are : ys ≡ take (8 - (8 - n)) (drop (8 - n) (to_be_bytes w64 v))) where
  abbrev pub whole_put : List ℕ
  whole_put = put_mid i (i + n - i) s ys

  same : length whole_put ≡ length s
  same = let l : length ys ≡ n = rw are (search (rules, places)) in search (rules, places)

  first : (k : ℕ) → k < i → get_or whole_put k 0 ≡ get_or s k 0
  first k h = search (rules, places)

  there : (k : ℕ) → k < n → get_or whole_put (i + k) 0 ≡ get_or (to_be_bytes w64 v) (8 - n + k) 0
  there k h =
      let l : length ys ≡ n = rw are (search (rules, places)) in
      let e : get_or ys k 0 ≡ get_or (to_be_bytes w64 v) (8 - n + k) 0 = rw are (search (rules, places)) in
      search (rules, places)

  later : (k : ℕ) → i + n ≤ k → get_or whole_put k 0 ≡ get_or s k 0
  later k h = let l : length ys ≡ n = rw are (search (rules, places)) in search (rules, places)

  -- byte k of them is eight bits of the number
  byte-is : (k : ℕ) → k < n → get_or whole_put (i + k) 0 ≡ v / 2 ^ (8 * (n - k) - 8) % 2 ^ 8
  byte-is k h =
      let place : 8 * (8 - 1 - (8 - n + k)) ≡ 8 * (n - k) - 8 = omega arith in
      there k h
      ∙ byte-high v 8 (8 - n + k) (omega arith)
      ∙ byte-bits v (8 - 1 - (8 - n + k))
      ∙ ap (λ (x : ℕ). v / 2 ^ x % 2 ^ 8) place

  module _ (bytes : Bytes whole_put) where
    -- the first k of them are the number without its lowest bits
    so-far : (k : ℕ) → k ≤ n → field whole_put (8 * i) (8 * k) ≡ v / 2 ^ (8 * (n - k))
    so-far zero h =
        let all : 8 * n ≡ 8 * (n - 0) = omega arith in
        field-none whole_put (8 * i) ∙ sym (div-eq_of_lt fits) ∙ ap (λ (x : ℕ). v / 2 ^ x) all
    so-far (suc k) h =
        let more : 8 * suc k ≡ 8 * k + 8 = omega arith in
        let left : 8 * (n - k) - 8 ≡ 8 * (n - suc k) = omega arith in
        let here : field whole_put (8 * i + 8 * k) 8 ≡ v / 2 ^ (8 * (n - k) - 8) % 2 ^ 8 =
        field_at whole_put 8 (omega arith) ∙ field-byte whole_put (i + k) (bytes (i + k)) ∙ byte-is k (omega arith) in
        ap (field whole_put (8 * i)) more
        ∙ field-split whole_put (8 * i) (8 * k) 8
        ∙ ap₂ (λ (x y : ℕ). x * 2 ^ 8 + y) (so-far k (omega arith)) here
        ∙ next-bits v (8 * (n - k)) 8 (omega arith)
        ∙ ap (λ (x : ℕ). v / 2 ^ x) left

    all-of-it : field whole_put (8 * i) (8 * n) ≡ v
    all-of-it =
        let none : 8 * (n - n) ≡ 0 = omega arith in
        so-far n (omega arith) ∙ ap (λ (x : ℕ). v / 2 ^ x) none ∙ div-one v

    pub put-whole : {at : ℕ} → 8 * i ≡ at → Put s at (8 * n) v whole_put
    unfolding bit
    put-whole {at} e = record {
      same = same;
      here = ap (λ (x : ℕ). field whole_put x (8 * n)) (sym e) ∙ all-of-it;
      before = λ k h. ap (λ (x : ℕ). x / 2 ^ (7 - k % 8) % 2) (first (k / 8) (omega arith));
      after = λ k h. ap (λ (x : ℕ). x / 2 ^ (7 - k % 8) % 2) (later (k / 8) (omega arith));
    }
