-- What Write asks of given values, as facts, both ways: from a Yes to its questions the facts, and from the facts and room
-- enough a Yes. Values that pass question 15 fit the fields that they are written in. Assumes nothing.
use mathlib.Core.Path.{◌≡◌, refl, ap, ◌∙◌}
use mathlib.Core.Bool.{Bool, true, false, ◌||◌}
use mathlib.Core.List.{List, [], ◌∷◌, ◌++◌}
use Prim.Native.Nat.{ℕ, ◌+◌, ◌^◌, ◌*◌, ◌≤◌, ◌<◌}
use native.Mathlib.Omega.{arith}
use borrow.Author.Tests.{ltb-true, le-leb, eqb-true, eq-eqb}
use lib.Dec.{lit<, eqb}
use lib.ListN.{length}
use Rattle.plan.specs.Arithmetic.{sum}
use Rattle.plan.specs.Sizes.{most_risks, most_claims}
use Rattle.plan.specs.Field.{slots, Fitting, fits, all_fit, bytes_for}
use Rattle.plan.specs.Header.{Header, header_bits, header_slots, edition_field, risks_field}
use Rattle.plan.specs.Claim.{joined_width, dollars_width, claim_width}
use Rattle.plan.specs.Risk.{count_width, divided, slots_of_risks}
use Rattle.plan.specs.File.{Group, claims_given, file_slots, file_length}
use Rattle.plan.specs.Accidents.{all_open}
use Rattle.plan.specs.Questions.{passed, first_no, known_edition, edition_question, header_questions, header_fits, question13, question15}
use Rattle.plan.specs.Questions.{question19, value_questions, write_enough, write_questions}
use Rattle.plan.specs.Bounds.{HeaderSound}
use Rattle.laws.proofs.Tests.{both, and_yes}
use Rattle.laws.proofs.Written.{fitting-append, width-append, length-bytes_of}
use Rattle.laws.proofs.Claims.{length-claims-of}
use Rattle.laws.proofs.Risks.{risks-fitting, risks-width, counts-most}
use Rattle.laws.proofs.Questions.{yes-to, goes_on, passed-both, after-gate, header-sound, header-passes}
use Rattle.laws.proofs.Decoded.{Matching}

-- ---- values that fit their widths

pub all-below : (w : ℕ) (vs : List ℕ) → all_fit w vs ≡ true → Fitting (slots w vs)
all-below w [] e = tt
all-below w (v ∷ vs) e = let p = both _ _ e in (ltb-true _ _ p.0, all-below w vs p.1)

-- what question 15 asks of given values
pub record Writable (g : Group) : Type 0 where
  pub risks : fits risks_field.width (length g.counts) ≡ true
  pub counts_fit : all_fit count_width g.counts ≡ true
  pub claims_fit : all_fit dollars_width g.claims ≡ true
  pub joined_fit : all_fit (joined_width g.edition) g.joined ≡ true
  pub header : header_fits g.header ≡ true
  pub adds : sum g.counts ≡ length g.claims
  pub bits : length g.joined ≡ length g.claims

-- the header's values, each below the power of its width
header-fitting : (edition : ℕ) (h : Header) (n : ℕ) → edition < 2 ^ edition_field.width → header_fits h ≡ true
    → n < 2 ^ risks_field.width → Fitting (header_slots edition h n)
header-fitting edition h n d e f =
    let p₈ = both _ _ e in
    let p₇ = both _ _ p₈.0 in
    let p₆ = both _ _ p₇.0 in
    let p₅ = both _ _ p₆.0 in
    let p₄ = both _ _ p₅.0 in
    let p₃ = both _ _ p₄.0 in
    let p₂ = both _ _ p₃.0 in (
      d,
      (
        ltb-true _ _ p₂.0,
        (
          ltb-true _ _ p₂.1,
          (
            ltb-true _ _ p₃.1,
            (
              ltb-true _ _ p₄.1,
              (
                ltb-true _ _ p₅.1,
                (ltb-true _ _ p₆.1, (ltb-true _ _ p₇.1, (ltb-true _ _ p₈.1, (f, (lit< tt, tt))))),
              ),
            ),
          ),
        ),
      ),
    )

-- an edition that passes question 2 is 1 or 2
pub edition-few : (edition : ℕ) → known_edition edition ≡ true → edition ≤ 2
edition-few edition e = few (eqb edition 1) (eqb edition 2) (eqb-true edition 1) (eqb-true edition 2) e
  where
    few : (a b : Bool) → (a ≡ true → edition ≡ 1) → (b ≡ true → edition ≡ 2) → (a || b) ≡ true → edition ≤ 2
    few true b f g e = omega (arith, f refl)
    few false true f g e = omega (arith, g refl)
    few false false f g e = omega (arith, g e)

-- what Write's questions but 13 say
pub record WriteSound (g : Group) : Type 0 where
  -- 2
  pub edition : known_edition g.edition ≡ true
  -- 3 to 7
  pub header : HeaderSound g.header (length g.counts)
  -- 15
  pub writable : Writable g
  -- 19
  pub each_opens : all_open (divided g.counts (claims_given g)) ≡ true

pub file-fitting : (g : Group) → known_edition g.edition ≡ true → Writable g → Fitting (file_slots g)
file-fitting g e w =
    fitting-append (header_slots g.edition g.header (length g.counts)) (slots_of_risks g.edition g.counts (claims_given g))
    (header-fitting g.edition g.header (length g.counts) (omega (arith, edition-few g.edition e)) w.header
    (ltb-true _ _ w.risks))
    (risks-fitting g.edition g.counts g.joined g.claims (all-below count_width g.counts w.counts_fit)
    w.joined_fit w.claims_fit)

pub risks-few : {g : Group} → Writable g → length g.counts ≤ most_risks
risks-few {g} w = omega (arith, ltb-true (length g.counts) (2 ^ risks_field.width) w.risks)

-- at most 63 claims for each of 255 risks
pub claims-few : {g : Group} → Writable g → length g.claims ≤ most_claims * most_risks
claims-few {g} w =
    omega (arith, counts-most g.counts (all-below count_width g.counts w.counts_fit), w.adds, risks-few w)

-- the file's length: the header, a count for each risk, and as many claims as the counts add to
pub file-length : {g : Group} → Writable g
    → file_length g
    ≡ bytes_for (header_bits + count_width * length g.counts + claim_width g.edition * length g.claims)
file-length {g} w =
    length-bytes_of (file_slots g)
    ∙ ap bytes_for
    (omega (
      arith,
      width-append (header_slots g.edition g.header (length g.counts))
          (slots_of_risks g.edition g.counts (claims_given g)),
      risks-width g.edition g.counts (claims_given g)
          (omega (arith, w.adds, length-claims-of g.joined g.claims w.bits)),
      ap (λ (n : ℕ). claim_width g.edition * n) w.adds,
    ))

-- counts and lists match
pub written-matching : {g : Group} → Writable g → Matching g
written-matching w = record { adds = w.adds; bits = w.bits }

-- the facts of a Yes to 15, wherever it was asked
pub fifteen-sound : (g : Group) → first_no (question15 g ∷ []) ≡ passed → Writable g
fifteen-sound g e =
    let p₇ = both _ _ (yes-to 15 (question15 g ∷ []) refl e) in
    let p₆ = both _ _ p₇.0 in
    let p₅ = both _ _ p₆.0 in
    let p₄ = both _ _ p₅.0 in
    let p₃ = both _ _ p₄.0 in
    let p₂ = both _ _ p₃.0 in
    record {
      risks = p₂.0;
      counts_fit = p₂.1;
      claims_fit = p₃.1;
      joined_fit = p₄.1;
      header = p₅.1;
      adds = eqb-true _ _ p₆.1;
      bits = eqb-true _ _ p₇.1;
    }

pub write-sound : (g : Group) (room : ℕ) → first_no (write_questions g room) ≡ passed → WriteSound g
write-sound g room e =
    let qs = write_questions g room in
    let rest = value_questions g ++ question13 (write_enough g room) ∷ [] in
    let later = (passed-both (edition_question g.edition ∷ []) (header_questions g.header (length g.counts) ++ rest) e).1 in
    let p = passed-both (header_questions g.header (length g.counts)) rest later in
    let q = passed-both (question15 g ∷ []) (question19 (divided g.counts (claims_given g)) ∷ question13 (write_enough g room) ∷ []) p.1 in
    record {
      edition = yes-to 2 qs refl e;
      header = header-sound g.header (length g.counts) p.0;
      writable = fifteen-sound g q.0;
      each_opens = yes-to 19 qs refl e;
    }

pub write-passes : (g : Group) (room : ℕ) → WriteSound g → file_length g ≤ room → first_no (write_questions g room) ≡ passed
write-passes g room w r =
    let v = w.writable in
    let fits_all = and_yes (and_yes (and_yes (and_yes v.risks v.counts_fit) v.claims_fit) v.joined_fit) v.header in
    let fifteen = and_yes (and_yes fits_all (eq-eqb _ _ v.adds)) (eq-eqb _ _ v.bits) in
    let rest = value_questions g ++ question13 (write_enough g room) ∷ [] in
    goes_on 2 (header_questions g.header (length g.counts) ++ rest) w.edition
    ∙ after-gate (header_questions g.header (length g.counts)) rest (header-passes g.header (length g.counts) w.header)
    ∙ simp (fifteen, w.each_opens, le-leb _ _ r)
