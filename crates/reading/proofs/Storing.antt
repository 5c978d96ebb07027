-- The two loops of Read. After i claims of a risk their dollars are stored in their entries, and their bits likewise, by one law over
-- the part of a claim, and the cursor has the others; after i risks their counts, claims and bits fill the first entries of their
-- buffers. Each law takes one claim, or one risk, more. Assumes nothing.
use mathlib.Core.Path.{◌≡◌, refl, sym, ap, ap₂, ◌∙◌}
use mathlib.Core.List.{List, [], ◌∷◌, ◌++◌, map}
use Rattle.std.proofs.lemmas.List.{append-nil}
use Rattle.std.proofs.lemmas.Slice.{put_mid-paste}
use borrow.Rule.Slice.PartMut.{put_mid}
use Prim.Native.Nat.{ℕ, ◌+◌, ◌-◌, ◌≤◌, ◌<◌}
use native.Mathlib.Numerals.{add-one}
use native.Mathlib.Nat.{zero-add}
use native.Mathlib.Omega.{arith}
use lib.ListN.{length, get_or, set, drop, length-set, length-map, drop_of_length-le}
use lib.Seq.{paste, paste-zero, paste-suc}
use Rattle.std.proofs.lemmas.List.{get_or-drop, drop-drop, drop-map}
use Rattle.plan.specs.Arithmetic.{sum}
use Rattle.plan.specs.Sizes.{most_file_bits}
use Rattle.plan.specs.Claim.{Claim, dollars}
use Rattle.plan.specs.Risk.{count_width, count_at, claims_at, counts_from, risks_from, past_risk, past_risks, all_claims}
use Rattle.plan.specs.Call.{filled}
use Rattle.laws.proofs.Sums.{sum-append}
use Rattle.laws.proofs.Risks.{length-claims-at, length-counts, counts-claims, counts-more, past-risks-more, past-risks-le, sum-prefix}
use Rattle.laws.proofs.Risks.{parts_more}
use Rattle.laws.proofs.Filled.{filled_none, filled_more, filled-run}
use Rattle.bits.specs.declared.Taken.{Taken}
use Rattle.claims.proofs.Laws.{next-risk-own, next-risk-past}
use Rattle.claims.specs.Cursor.{own_claims, past_own, NextRisk}
use Rattle.claims.specs.declared.cursor.Cursor.{Cursor}
use Rattle.reading.specs.Reading.{bit, RisksRoom}

-- filled with as many entries as it has, a buffer is those
pub filled_all : {A : Type 0} (new old : List A) → length new ≡ length old → filled new old ≡ new
filled_all {A = A} new old e = ap (λ (l : List A). new ++ l) (drop_of_length-le old (omega (arith, e))) ∙ append-nil new

-- ---- the claims of a risk

-- of a list, of which the first i are done, the others are `ours`
abbrev pub Rest : {A : Type 0} → List A → ℕ → List A → Type 0
Rest all i ours = drop i all ≡ ours

module _ (all : List Claim) (i : ℕ) {c : Claim} {rest : List Claim} (e : Rest all i (c ∷ rest)) where
  pub rest-next : Rest all (i + 1) rest
  rest-next = sym (drop-drop 1 i all) ∙ ap (drop 1) e

  -- a part of the first of them is entry i
  part-here : (part : Claim → ℕ) → get_or (map part all) i 0 ≡ part c
  part-here part =
      ap (λ (j : ℕ). get_or (map part all) j 0) (omega arith)
      ∙ sym (get_or-drop i (map part all) 0 0)
      ∙ ap (λ (l : List ℕ). get_or l 0 0) (drop-map part i all ∙ ap (map part) e)

-- a part of each claim is stored in its entry, of the first i
pub record Parts (part : Claim → ℕ) (all : List Claim) (old : List ℕ) (i : ℕ) (present : List ℕ) : Type 0 where
  pub same : length present ≡ length old
  pub stored : present ≡ paste old 0 (map part all) i

pub parts-start : (part : Claim → ℕ) (all : List Claim) (old : List ℕ) → Parts part all old 0 old
parts-start part all old = record { same = refl; stored = paste-zero old 0 (map part all) }

module _ {part : Claim → ℕ} {all : List Claim} {old : List ℕ} {i : ℕ} {present : List ℕ} (w : Parts part all old i present) where
  pub parts-more : {c : Claim} {rest : List Claim} {x : ℕ} → Rest all i (c ∷ rest) → x ≡ part c → i < length all → length all ≡ length old
      → Parts part all old (i + 1) (set present i x)
  parts-more {c} {rest} {x} e is h room =
      record {
        same = length-set present i x ∙ w.same;
        stored =
            ap₂ (λ (l : List ℕ) (v : ℕ). set l i v) w.stored (is ∙ sym (part-here all i e part))
            ∙ ap (λ (j : ℕ). set (paste old 0 (map part all) i) j (get_or (map part all) i 0)) (sym (zero-add i))
            ∙ paste-suc old 0 (map part all) i 0 (omega arith) (omega (arith, room, length-map all part))
            ∙ ap (paste old 0 (map part all)) (sym (add-one i));
      }

  -- all of as many as the buffer has entries
  pub parts-all : i ≡ length all → length all ≡ length old → present ≡ map part all
  parts-all e n =
      let these = map part all in
      let many : length these ≡ length all = length-map all part in
      w.stored ∙ ap (paste old 0 these) e ∙ filled-run [] old these refl many ∙ filled_all these old (many ∙ n)

-- ---- the risks of a file

-- a part of the claims of risks from `at` on, of which i are read, fills a buffer's first entries
abbrev pub Entries : (Claim → ℕ) → List ℕ → ℕ → List ℕ → ℕ → List ℕ → Type 0
Entries part s at old i present = present ≡ filled (map part (all_claims (risks_from s at i))) old

-- of risks from `at` on, i are read, with `from` claims, and the next begins at p
pub record Storing (s : List ℕ) (at : ℕ) (old_counts old_claims old_joined : List ℕ) (i p from : ℕ) (counts claims joined : List ℕ) : Type 0 where
  pub place : p ≡ past_risks s at i
  pub entries : from ≡ sum (counts_from s at i)
  pub counts_are : counts ≡ filled (counts_from s at i) old_counts
  pub claims_are : Entries dollars s at old_claims i claims
  pub joined_are : Entries bit s at old_joined i joined

pub storing-starts : (s : List ℕ) (at : ℕ) (old_counts old_claims old_joined : List ℕ)
    → Storing s at old_counts old_claims old_joined 0 at 0 old_counts old_claims old_joined
storing-starts s at old_counts old_claims old_joined = record {
  place = refl;
  entries = refl;
  counts_are = filled_none old_counts;
  claims_are = filled_none old_claims;
  joined_are = filled_none old_joined;
}

module _ {s : List ℕ} {at : ℕ} {old_counts old_claims old_joined : List ℕ} {i p from : ℕ} {counts claims joined : List ℕ}
    (w : Storing s at old_counts old_claims old_joined i p from counts claims joined)
    (room : RisksRoom s at (length old_counts) (length old_claims) (length old_joined)) (h : i < length old_counts) where
  pub place-most : p + count_width ≤ most_file_bits
  place-most = omega (arith, w.place, past-risks-le s at i, room.place, room.few)

  -- there is room for the next risk's claims, in either buffer
  next-within : from + count_at s p ≤ sum (counts_from s at (length old_counts))
  next-within =
      let n = length old_counts in
      let e : sum (counts_from s at (i + 1)) ≤ sum (counts_from s at n) = sum-prefix s at (i + 1) n (omega arith) in
      omega (
        arith,
        e,
        w.entries,
        ap sum (counts-more s at i),
        sum-append (λ x. x) (counts_from s at i) (count_at s (past_risks s at i) ∷ []),
        ap (count_at s) w.place,
      )

  -- one risk more, as the code has it: its claims are taken from a cursor that stands at p
  module _ {c : Cursor} {t : Taken ℕ Cursor} (here : c.place.at ≡ p) (x : NextRisk s c t) where
    abbrev b : ℕ
    b = past_risks s at i

    place : c.place.at ≡ b
    place = here ∙ w.place

    count : t.value ≡ count_at s b
    count = x.count ∙ ap (count_at s) place

    own : own_claims s t.next ≡ claims_at s b
    own = next-risk-own x ∙ ap (claims_at s) place

    pub claims-within : from + t.value ≤ length old_claims
    claims-within = omega (arith, x.count, ap (count_at s) here, next-within, room.claims)

    pub joined-within : from + t.value ≤ length old_joined
    joined-within = omega (arith, x.count, ap (count_at s) here, next-within, room.joined)

    -- a part of its claims, stored behind those before
    part-more : (part : Claim → ℕ) (old present : List ℕ) {these : List ℕ} → Entries part s at old i present
        → these ≡ map part (own_claims s t.next) → Entries part s at old (i + 1) (put_mid from (from + t.value - from) present these)
    part-more part old present {these} e stored =
        let before = length-map (all_claims (risks_from s at i)) part ∙ sym (counts-claims s at i) in
        let behind = length-map (claims_at s b) part ∙ length-claims-at s b in
        put_mid-paste from (from + t.value - from) present these (map part (claims_at s b)) t.value (stored ∙ ap (map part) own)
        (omega arith) (count ∙ sym behind)
        ∙ (λ j. paste (e j) (w.entries j) (map part (claims_at s b)) (count j))
        ∙ filled-run (map part (all_claims (risks_from s at i))) old (map part (claims_at s b)) before behind
        ∙ ap (λ (l : List ℕ). filled l old) (sym (parts_more part s at i))

    -- then that many claims, stored
    pub storing-more : {q : ℕ} {claims' joined' : List ℕ} → q ≡ past_own s t.next → claims' ≡ map dollars (own_claims s t.next)
        → joined' ≡ map bit (own_claims s t.next)
        → Storing s at old_counts old_claims old_joined (i + 1) q (from + t.value) (set counts i t.value)
        (put_mid from (from + t.value - from) claims claims') (put_mid from (from + t.value - from) joined joined')
    storing-more e l j = record {
      place = e ∙ next-risk-past x ∙ ap (past_risk s) place ∙ sym (past-risks-more s at i);
      entries =
          ap₂ ◌+◌ w.entries count
          ∙ sym (ap sum (counts-more s at i) ∙ sum-append (λ x. x) (counts_from s at i) (count_at s b ∷ []) ∙ omega arith);
      counts_are =
          ap₂ (λ (l : List ℕ) (v : ℕ). set l i v) w.counts_are count
          ∙ filled_more (counts_from s at i) old_counts (count_at s b) (length-counts s at i) h
          ∙ ap (λ (l : List ℕ). filled l old_counts) (sym (counts-more s at i));
      claims_are = part-more dollars old_claims claims w.claims_are l;
      joined_are = part-more bit old_joined joined w.joined_are j;
    }
