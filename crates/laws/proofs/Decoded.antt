-- The fields of a file lie in it, and fields that lie in a file are those that are taken: the header's eleven, then the risks'.
-- Assumes nothing.
use mathlib.Core.Path.{◌≡◌, refl, sym, ap, ap₂, ◌∙◌, subst}
use mathlib.Core.List.{List, map, ◌++◌}
use Prim.Native.Nat.{ℕ, ◌+◌, ◌<◌}
use native.Mathlib.Omega.{arith}
use lib.ListN.{length, length-map}
use Rattle.plan.specs.Arithmetic.{sum}
use Rattle.plan.specs.Field.{bit, Slot, total_width, Laid}
use Rattle.plan.specs.Header.{Header, header_of, header_bits, edition_of, risk_count, value_of, spare_field, header_slots}
use Rattle.plan.specs.Claim.{Claim, joins, dollars}
use Rattle.plan.specs.Risk.{counts_from, risks_from, past_risks, all_claims, slots_of_risks}
use Rattle.plan.specs.File.{Group, counts_of, claims_in, end_of, group_of, claims_given, file_slots}
use Rattle.laws.proofs.Written.{width-append, laid-append, laid-first, laid-second, laid_same}
use Rattle.laws.proofs.Claims.{claims-of-parts, length-claims-of, dollars-of, joined_of}
use Rattle.laws.proofs.Risks.{length-counts, counts-claims, risks-laid, risks-end, RisksTaken, laid-risks}
use Rattle.laws.proofs.Questions.{FileSound}

-- ---- the fields of a file lie in it

header-laid : (s : List ℕ) → value_of s spare_field ≡ 0 → Laid s 0 (header_slots (edition_of s) (header_of s) (risk_count s))
header-laid s z = (refl, (refl, (refl, (refl, (refl, (refl, (refl, (refl, (refl, (refl, (z, tt)))))))))))

-- every field of a file
abbrev pub slots_of : List ℕ → List Slot
slots_of s = file_slots (group_of s)

-- its header's, and its risks'
abbrev own_header : List ℕ → ℕ → List Slot
own_header s n = header_slots (edition_of s) (header_of s) n

abbrev own_risks : List ℕ → List Slot
own_risks s = slots_of_risks (edition_of s) (counts_of s) (claims_in s)

-- the claims of a file's bits and dollars are its claims
own-claims : (s : List ℕ) → claims_given (group_of s) ≡ claims_in s
own-claims s = claims-of-parts (claims_in s)

slots-are : (s : List ℕ) → slots_of s ≡ own_header s (risk_count s) ++ own_risks s
slots-are s =
    ap₂ (λ (n : ℕ) (l : List Claim). own_header s n ++ slots_of_risks (edition_of s) (counts_of s) l)
    (length-counts s header_bits (risk_count s)) (own-claims s)

pub file-laid : (s : List ℕ) → FileSound s → Laid s 0 (slots_of s)
file-laid s f =
    subst (Laid s 0) (sym (slots-are s))
    (laid-append s 0 (own_header s (risk_count s)) (own_risks s) (header-laid s f.spare_is) (risks-laid s header_bits (risk_count s)))

pub file-end : (s : List ℕ) → total_width (slots_of s) ≡ end_of s
file-end s =
    omega (
      arith,
      ap total_width (slots-are s),
      width-append (own_header s (risk_count s)) (own_risks s),
      risks-end s header_bits (risk_count s),
    )

-- ---- fields that lie in a file are those that are taken

-- the values that the header's fields hold
pub record HeaderTaken (s : List ℕ) (edition : ℕ) (h : Header) (n : ℕ) : Type 0 where
  pub edition_is : edition_of s ≡ edition
  pub header_is : header_of s ≡ h
  pub risks_are : risk_count s ≡ n
  pub spare_is : value_of s spare_field ≡ 0

pub laid-header : (s : List ℕ) (edition : ℕ) (h : Header) (n : ℕ) → Laid s 0 (header_slots edition h n) → HeaderTaken s edition h n
laid-header s edition h n l = record {
  edition_is = l.0;
  header_is = λ i. record {
    loss_limit = l.1.0 i;
    standard_premium = l.1.1.0 i;
    expense = l.1.1.1.0 i;
    conversion = l.1.1.1.1.0 i;
    tax = l.1.1.1.1.1.0 i;
    mark_kind = l.1.1.1.1.1.1.0 i;
    maximum_mark = l.1.1.1.1.1.1.1.0 i;
    minimum_mark = l.1.1.1.1.1.1.1.1.0 i;
  };
  risks_are = l.1.1.1.1.1.1.1.1.1.0;
  spare_is = l.1.1.1.1.1.1.1.1.1.1.0;
}

-- the values that a file's fields hold
pub record FileTaken (s : List ℕ) (g : Group) : Type 0 where
  pub header : HeaderTaken s g.edition g.header (length g.counts)
  pub counts_are : counts_of s ≡ g.counts
  pub all_are : claims_in s ≡ claims_given g
  pub claims_are : map dollars (claims_in s) ≡ g.claims
  pub joined_are : map joins (claims_in s) ≡ g.joined
  pub ends : end_of s ≡ total_width (file_slots g)

-- counts that add to the number of claims, and a bit for each
pub record Matching (g : Group) : Type 0 where
  pub adds : sum g.counts ≡ length g.claims
  pub bits : length g.joined ≡ length g.claims

pub laid-file : (s : List ℕ) (g : Group) → Matching g → Laid s 0 (file_slots g) → FileTaken s g
laid-file s g m l =
    let front : List Slot = header_slots g.edition g.header (length g.counts) in
    let claims : List Claim = claims_given g in
    let risks : List Slot = slots_of_risks g.edition g.counts claims in
    let t : HeaderTaken s g.edition g.header (length g.counts) =
    laid-header s g.edition g.header (length g.counts) (laid-first s 0 front risks l) in
    let same : g.edition ≡ edition_of s = sym t.edition_is in
    let adds : sum g.counts ≡ length claims = m.adds ∙ sym (length-claims-of g.joined g.claims m.bits) in
    let r : RisksTaken s header_bits g.counts claims =
    laid-risks s header_bits g.counts claims adds
    (subst (λ (e : ℕ). Laid s header_bits (slots_of_risks e g.counts claims)) same (laid-second s 0 front risks l)) in
    let n = t.risks_are in
    let all : claims_in s ≡ claims = ap (λ (k : ℕ). all_claims (risks_from s header_bits k)) n ∙ r.claims_are in
    record {
      header = t;
      counts_are = ap (counts_from s header_bits) n ∙ r.counts_are;
      all_are = all;
      claims_are = ap (map dollars) all ∙ dollars-of g.joined g.claims m.bits;
      joined_are = ap (map joins) all ∙ joined_of g.joined g.claims m.bits;
      ends =
          ap (past_risks s header_bits) n
          ∙ r.ends
          ∙ ap (λ (e : ℕ). header_bits + total_width (slots_of_risks e g.counts claims)) (sym same)
          ∙ sym (width-append front risks);
    }

-- ---- what is taken is a matter of the bits before the end, which question 8 has in the file

-- the counts of a file and its lists match
pub own-matching : (s : List ℕ) → Matching (group_of s)
own-matching s = record {
  adds = counts-claims s header_bits (risk_count s) ∙ sym (length-map (claims_in s) dollars);
  bits = length-map (claims_in s) joins ∙ sym (length-map (claims_in s) dollars);
}

pub record SameTaken (s t : List ℕ) : Type 0 where
  pub group : group_of t ≡ group_of s
  pub ends : end_of t ≡ end_of s

pub taken-group : {s : List ℕ} {g : Group} → FileTaken s g → group_of s ≡ g
taken-group t = λ i. record {
  edition = t.header.edition_is i;
  header = t.header.header_is i;
  counts = t.counts_are i;
  claims = t.claims_are i;
  joined = t.joined_are i;
}

pub taken-local : (s t : List ℕ) → FileSound s → ((k : ℕ) → k < end_of s → bit s k ≡ bit t k) → SameTaken s t
taken-local s t f same =
    let r = laid-file t (group_of s) (own-matching s)
    (laid_same s t 0 (slots_of s) (λ k lo hi. same k (omega (arith, file-end s))) (file-laid s f)) in
    record { group = taken-group r; ends = r.ends ∙ file-end s }
