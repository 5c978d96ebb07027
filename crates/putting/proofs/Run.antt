-- A run of claims put by pairs: each claim's bit and its dollars are put, and bytes of the bits held are stored. Between two pairs fewer
-- than eight bits are held.
use mathlib.Core.Path.{◌≡◌, refl, sym, ap, ap₂, ◌∙◌, subst}
use mathlib.Core.List.{List, [], ◌∷◌}
use Prim.Native.Nat.{ℕ, zero, suc, ◌+◌, ◌*◌, ◌/◌, ◌%◌, ◌≤◌, ◌<◌}
use native.Mathlib.Omega.{arith}
use lib.ListN.{length, get_or, take, drop, drop_of_length-le}
use lib.Seq.{drop-drop}
use denote.Ref.{Bor}
use Rattle.std.proofs.Common.{Some, None, Option, Iter}
use Rattle.std.proofs.iter.Yields.{fronts}
use Rattle.std.proofs.lemmas.Iterator.{zips}
use Rattle.std.proofs.lemmas.List.{get_or-take, get_or-drop}
use Rattle.std.proofs.lemmas.Slice.Zip.{zip_turn, zip_end}
use Rattle.std.specs.declared.iter.Zip.{Zip}
use Rattle.std.specs.Iterator.{Yields}
use Rattle.std.specs.Iterator.Adapters.{zip_first, zip_second}
use Rattle.std.specs.Simd.{first_chunks}
use Rattle.std.specs.Slice.Iter.{iter_rest}
use Rattle.plan.specs.Field.{Slot, slot}
use Rattle.plan.specs.Claim.{joined_width, dollars_width, slots_of_claim, slots_of_claims, claims_of}
use Rattle.laws.proofs.Claims.{joined-width-le}
use Rattle.laws.proofs.Rests.{rest_more}
use Rattle.bits.specs.Put.{Room, Put}
use Rattle.bits.specs.Begun.{RoomToStore, Stored}
use Rattle.bits.specs.Runs.{Wrote}
use Rattle.bits.specs.declared.begun.Begun.{Begun}
use Rattle.bits.proofs.Laws.{putting-as, putting-ends}
use Rattle.bits.proofs.Laws.{Holding, holding-more, room-to-store, holding-stored, room-to-end, holding-ends}
use Rattle.putting.specs.ClaimPut.{RoomForClaim, ClaimPut}

-- ---- the pairs of a list

pair_at : (m : ℕ) (xs : List ℕ) (n : ℕ) → n < m → get_or (first_chunks 2 m xs) n [] ≡ take 2 (drop (2 * n) xs)
pair_at zero xs n h = absurd (omega arith)
pair_at (suc m) xs zero h = λ i. take 2 xs
pair_at (suc m) xs (suc n) h =
    pair_at m (drop 2 xs) n (omega arith) ∙ ap (take 2) (drop-drop (2 * n) 2 xs ∙ ap (λ (k : ℕ). drop k xs) (omega arith))

length-pairs : (m : ℕ) (xs : List ℕ) → length (first_chunks 2 m xs) ≡ m
length-pairs zero xs = refl
length-pairs (suc m) xs = ap suc (length-pairs m (drop 2 xs))

-- the two numbers of one
module _ (xs : List ℕ) (n : ℕ) {two : List ℕ} (is : two ≡ take 2 (drop (2 * n) xs)) where
  first-of : get_or two 0 0 ≡ get_or xs (2 * n) 0
  first-of =
      ap (λ (l : List ℕ). get_or l 0 0) is ∙ get_or-take 2 (drop (2 * n) xs) 0 0 (omega arith) ∙ get_or-drop (2 * n) xs 0 0
      ∙ ap (λ (k : ℕ). get_or xs k 0) (omega arith)

  second-of : get_or two 1 0 ≡ get_or xs (2 * n + 1) 0
  second-of =
      ap (λ (l : List ℕ). get_or l 1 0) is ∙ get_or-take 2 (drop (2 * n) xs) 1 0 (omega arith) ∙ get_or-drop (2 * n) xs 1 0

-- a loop goes over the pairs of two lists
pub record Over (js ds : List ℕ) (s : Zip (Iter (List ℕ)) (Iter (List ℕ))) : Type 0 where
  pub bits : iter_rest (zip_first s) ≡ first_chunks 2 (length js / 2) js
  pub dollars : iter_rest (zip_second s) ≡ first_chunks 2 (length ds / 2) ds

-- the turn after n others goes over these two
pub record Turn (js ds : List ℕ) (n : ℕ) (bits dollars : List ℕ) : Type 0 where
  pub inside : n < length ds / 2
  pub bits_are : bits ≡ take 2 (drop (2 * n) js)
  pub dollars_are : dollars ≡ take 2 (drop (2 * n) ds)

-- where the lists have one length
module _ {js ds : List ℕ} {s : Zip (Iter (List ℕ)) (Iter (List ℕ))} (o : Over js ds s) (e : length js ≡ length ds)
    (xs : List (Bor (List ℕ) × Bor (List ℕ))) (t u : Zip (Iter (List ℕ)) (Iter (List ℕ))) {r : Option (Bor (List ℕ) × Bor (List ℕ))}
    (y : Yields (zips fronts fronts) s xs t) where
  pub turn : {p : Bor (List ℕ) × Bor (List ℕ)} → r ≡ Some p → zips fronts fronts t r u → Turn js ds (length xs) p.0.now p.1.now
  turn {p} is steps =
      let z = zip_turn (first_chunks 2 (length js / 2) js) (first_chunks 2 (length ds / 2) ds) xs s t u r o.bits o.dollars y p is steps in
      let inside : length xs < length ds / 2 = omega (arith, z.1, length-pairs (length ds / 2) ds) in
      record {
        inside = inside;
        bits_are = z.2 [] ∙ pair_at (length js / 2) js (length xs) (rw e inside);
        dollars_are = z.3 [] ∙ pair_at (length ds / 2) ds (length xs) inside;
      }

  -- at the end all the pairs have had a turn
  pub turns : r ≡ None → zips fronts fronts t r u → length xs ≡ length ds / 2
  turns is steps =
      omega (
        arith,
        zip_end (first_chunks 2 (length js / 2) js) (first_chunks 2 (length ds / 2) ds) xs s t u r o.bits o.dollars y is steps,
        length-pairs (length js / 2) js,
        length-pairs (length ds / 2) ds,
        e,
      )

-- ---- the fields that are left

-- those of the claims from i on
abbrev pub left_from : ℕ → List ℕ → List ℕ → ℕ → List Slot
left_from edition js ds i = slots_of_claims edition (claims_of (drop i js) (drop i ds))

-- the next claim's are the first of them
next-left : (edition : ℕ) (js ds : List ℕ) (i : ℕ) → length js ≡ length ds → i < length ds
    → left_from edition js ds i ≡ slot (joined_width edition) (get_or js i 0) ∷ slot dollars_width (get_or ds i 0) ∷ left_from edition js ds (i + 1)
unfolding slots_of_claim
next-left edition js ds i e h =
    ap₂ (λ (l m : List ℕ). slots_of_claims edition (claims_of l m)) (rest_more js i (omega (arith, e))) (rest_more ds i h)

none-left : (edition : ℕ) (js ds : List ℕ) (i : ℕ) → length js ≤ i → length ds ≤ i → left_from edition js ds i ≡ []
none-left edition js ds i h l =
    ap₂ (λ (x y : List ℕ). slots_of_claims edition (claims_of x y)) (drop_of_length-le js h) (drop_of_length-le ds l)

-- ---- what is left to be put, from claim i on, with fewer bits held than `most`

pub record Left (edition : ℕ) (s : List ℕ) (at : ℕ) (js ds t : List ℕ) (b : Begun) (most i : ℕ) : Type 0 where
  pub few : b.bits < most
  pub holding : Holding s at (slots_of_claims edition (claims_of js ds)) t b (left_from edition js ds i)

pub left-at : {edition : ℕ} {s : List ℕ} {at : ℕ} {js ds t : List ℕ} {b : Begun} {most i j : ℕ} → i ≡ j
    → Left edition s at js ds t b most i → Left edition s at js ds t b most j
left-at {edition} {s} {at} {js} {ds} {t} {b} {most} e g = subst (Left edition s at js ds t b most) e g

module _ {edition : ℕ} {s : List ℕ} {at : ℕ} {js ds t : List ℕ} {b : Begun} {most i : ℕ}
    (g : Left edition s at js ds t b most i) (e : length js ≡ length ds) where
  -- ---- a claim put

  module _ (h : i < length ds) {j d : ℕ} (is : (j ≡ get_or js i 0) × (d ≡ get_or ds i 0)) (narrow : most ≤ 42) where
    next : Holding s at (slots_of_claims edition (claims_of js ds)) t b
        (slot (joined_width edition) j ∷ slot dollars_width d ∷ left_from edition js ds (i + 1))
    next =
        putting-as g.holding
        (ap (λ (l : List Slot). slot b.bits b.held ∷ l)
        (next-left edition js ds i e h
        ∙ ap₂ (λ (x y : ℕ). slot (joined_width edition) x ∷ slot dollars_width y ∷ left_from edition js ds (i + 1)) (sym is.0) (sym is.1)))

    pub room-for-claim : RoomForClaim b edition j d
    room-for-claim = record {
      room = omega (arith, g.few, narrow, joined-width-le edition);
      held = next.space.fitting.0;
      bit = next.space.fitting.1.0;
      fits = next.space.fitting.1.1.0;
    }

    pub left-more : {r : Begun} → ClaimPut b edition j d r → Left edition s at js ds t r (most + 21) (i + 1)
    left-more {r} x = record {
      few = omega (arith, x.bit.bits, x.rest.bits, g.few, joined-width-le edition);
      holding = holding-more x.between (holding-more b next x.bit) x.rest;
    }

  -- ---- whole bytes stored

  pub room-for-bytes : (n : ℕ) → n ≤ 8 → 8 * n ≤ b.bits → most ≤ 64 → RoomToStore t b n
  room-for-bytes n few whole narrow = room-to-store b g.holding n few whole (omega (arith, g.few, narrow))

  pub left-stored : {n : ℕ} {u : List ℕ} {r : Begun} (fewer : ℕ) → Stored t b n u r → most ≤ 8 * n + fewer
      → Left edition s at js ds u r fewer i
  left-stored fewer x h = record { few = omega (arith, g.few, x.bits, h); holding = holding-stored b g.holding x }

  -- with fewer bits
  pub left-few : (fewer : ℕ) → b.bits < fewer → Left edition s at js ds t b fewer i
  left-few fewer h = record { few = h; holding = g.holding }

  -- ---- the end

  pub room-for-end : most ≤ 33 → Room t (8 * b.byte) b.bits b.held
  room-for-end h = room-to-end b g.holding (omega (arith, g.few, h))

  pub all-put : length ds ≤ i → {u : List ℕ} {q : ℕ} → (q ≡ 8 * b.byte + b.bits) × Put t (8 * b.byte) b.bits b.held u
      → Wrote s at (slots_of_claims edition (claims_of js ds)) u q
  all-put h p = putting-ends (putting-as (holding-ends b g.holding p) (none-left edition js ds i (omega (arith, e, h)) h))

-- ---- a pair put, after n others

module _ {edition : ℕ} {s : List ℕ} {at : ℕ} {js ds t : List ℕ} {b : Begun} {n : ℕ} (g : Left edition s at js ds t b 8 (2 * n))
    (e : length js ≡ length ds) {bits dollars : List ℕ} (o : Turn js ds n bits dollars) where
  inside : 2 * n + 1 < length ds
  inside = omega (arith, o.inside)

  pub room-for-first : RoomForClaim b edition (get_or bits 0 0) (get_or dollars 0 0)
  room-for-first = room-for-claim g e (omega (arith, inside)) (first-of js n o.bits_are, first-of ds n o.dollars_are) (omega arith)

  module _ {q : Begun} (x : ClaimPut b edition (get_or bits 0 0) (get_or dollars 0 0) q) where
    first-put : Left edition s at js ds t q 29 (2 * n + 1)
    first-put = left-more g e (omega (arith, inside)) (first-of js n o.bits_are, first-of ds n o.dollars_are) (omega arith) x

    pub room-for-second : RoomForClaim q edition (get_or bits 1 0) (get_or dollars 1 0)
    room-for-second = room-for-claim first-put e inside (second-of js n o.bits_are, second-of ds n o.dollars_are) (omega arith)

    module _ {r : Begun} (y : ClaimPut q edition (get_or bits 1 0) (get_or dollars 1 0) r) where
      both-put : Left edition s at js ds t r 50 (2 * n + 1 + 1)
      both-put = left-more first-put e inside (second-of js n o.bits_are, second-of ds n o.dollars_are) (omega arith) y

      pub room-for-pair : RoomToStore t r 5
      room-for-pair =
          room-for-bytes both-put e 5 (omega arith) (omega (arith, x.bit.bits, x.rest.bits, y.bit.bits, y.rest.bits)) (omega arith)

      pub pair-stored : {u : List ℕ} {z : Begun} → Stored t r 5 u z → {m : ℕ} → m ≡ n + 1 → Left edition s at js ds u z 10 (2 * m)
      pair-stored w turned = left-at (omega (arith, turned)) (left-stored both-put e 10 w (omega arith))

-- ---- the last claim put, where it has no other

module _ {edition : ℕ} {s : List ℕ} {at : ℕ} {js ds t : List ℕ} {b : Begun} {n : ℕ} (g : Left edition s at js ds t b 8 (2 * n))
    (e : length js ≡ length ds) (h : n ≡ length ds / 2) {bits dollars : List ℕ} (lb : bits ≡ drop (length js / 2 * 2) js)
    (ld : dollars ≡ drop (length ds / 2 * 2) ds) (odd : length ds % 2 ≡ 1) where
  last-is : (get_or bits 0 0 ≡ get_or js (2 * n) 0) × (get_or dollars 0 0 ≡ get_or ds (2 * n) 0)
  last-is = (
    ap (λ (k : List ℕ). get_or k 0 0) lb ∙ get_or-drop (length js / 2 * 2) js 0 0
        ∙ ap (λ (k : ℕ). get_or js k 0) (omega (arith, h, e)),
    ap (λ (k : List ℕ). get_or k 0 0) ld ∙ get_or-drop (length ds / 2 * 2) ds 0 0
        ∙ ap (λ (k : ℕ). get_or ds k 0) (omega (arith, h)),
  )

  pub room-for-last : RoomForClaim b edition (get_or bits 0 0) (get_or dollars 0 0)
  room-for-last = room-for-claim g e (omega (arith, h, odd)) last-is (omega arith)

  pub last-put : {r : Begun} → ClaimPut b edition (get_or bits 0 0) (get_or dollars 0 0) r → Left edition s at js ds t r 29 (2 * n + 1)
  last-put x = left-more g e (omega (arith, h, odd)) last-is (omega arith) x
