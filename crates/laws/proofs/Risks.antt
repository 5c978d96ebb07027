-- Laws of a risk and of a run of risks: how many claims it has, where it ends, that it lies where it is taken and is taken where
-- it lies, and that the first k + 1 risks are the first k and the next. Assumes nothing.
use mathlib.Core.Path.{◌≡◌, refl, sym, ap, ap₂, ◌∙◌, subst}
use mathlib.Core.Bool.{true}
use mathlib.Core.List.{List, [], ◌∷◌, ◌++◌, append_assoc, append-nil, map, map-append}
use Prim.Native.Nat.{ℕ, zero, suc, ◌+◌, ◌*◌, ◌≤◌}
use native.Mathlib.Nat.{zero-add}
use native.Mathlib.Omega.{arith}
use borrow.Author.Tests.{lt-ltb}
use lib.ListN.{length, take, drop, length-append, length-drop, take-append-drop}
use lib.Seq.{length-take-le, take_at, drop_at}
use Rattle.plan.specs.Arithmetic.{sum}
use Rattle.plan.specs.Sizes.{most_claims, most_risk_bits}
use Rattle.plan.specs.Field.{Slot, slot, slots, total_width, Laid, Fitting, all_fit}
use Rattle.plan.specs.Header.{edition_of}
use Rattle.plan.specs.Claim.{Claim, joins, dollars, joined_width, dollars_width, claim_width, claims_from}
use Rattle.plan.specs.Claim.{slots_of_claims, claims_of}
use Rattle.plan.specs.Risk.{count_width, count_at, first_claim, claims_at, past_risk, counts_from, risks_from, past_risks, all_claims}
use Rattle.plan.specs.Risk.{divided, slots_of_risks}
use Rattle.laws.proofs.Tests.{and_yes}
use Rattle.laws.proofs.Fields.{field_lt}
use Rattle.laws.proofs.Written.{width-append, laid-append, laid-first, laid-second, fitting-append}
use Rattle.laws.proofs.Claims.{length-claims, past-claims-le, claims-width, claims-end, claims-laid, laid-claims, claims-fitting}
use Rattle.laws.proofs.Claims.{take-claims-of, drop-claims-of, dollars-fit, joined_fit, fit_append, fit-take, fit-drop}

-- ---- one risk

pub count-le : (s : List ℕ) (at : ℕ) → count_at s at ≤ most_claims
unfolding count_at
count-le s at = omega (arith, field_lt s at count_width)

pub first-claim : (at : ℕ) → first_claim at ≡ at + count_width
unfolding first_claim
first-claim at = refl

count-laid : (s : List ℕ) (at : ℕ) (fs : List Slot) → Laid s (first_claim at) fs → Laid s at (slot count_width (count_at s at) ∷ fs)
unfolding count_at first_claim
count-laid s at fs l = (refl, l)

laid-count : (s : List ℕ) (at k : ℕ) (fs : List Slot) → Laid s at (slot count_width k ∷ fs) → (count_at s at ≡ k) × Laid s (first_claim at) fs
unfolding count_at first_claim
laid-count s at k fs l = l

pub length-claims-at : (s : List ℕ) (at : ℕ) → length (claims_at s at) ≡ count_at s at
length-claims-at s at = length-claims s (first_claim at) (count_at s at)

-- a risk takes at most a count and 63 claims
pub past-risk-le : (s : List ℕ) (at : ℕ) → past_risk s at ≤ at + most_risk_bits
past-risk-le s at = omega (arith, past-claims-le s (first_claim at) (count_at s at), first-claim at, count-le s at)

-- ---- a run of risks: how many, and where they end

pub length-counts : (s : List ℕ) (at n : ℕ) → length (counts_from s at n) ≡ n
length-counts s at zero = refl
length-counts s at (suc n) = ap suc (length-counts s (past_risk s at) n)

pub length-risks : (s : List ℕ) (at n : ℕ) → length (risks_from s at n) ≡ n
length-risks s at zero = refl
length-risks s at (suc n) = ap suc (length-risks s (past_risk s at) n)

pub past-risks-le : (s : List ℕ) (at n : ℕ) → past_risks s at n ≤ at + most_risk_bits * n
past-risks-le s at zero = omega arith
past-risks-le s at (suc n) = omega (arith, past-risk-le s at, past-risks-le s (past_risk s at) n)

-- the counts add to the number of claims
pub counts-claims : (s : List ℕ) (at n : ℕ) → sum (counts_from s at n) ≡ length (all_claims (risks_from s at n))
counts-claims s at zero = refl
counts-claims s at (suc n) =
    omega (
      arith,
      counts-claims s (past_risk s at) n,
      length-append (claims_at s at) (all_claims (risks_from s (past_risk s at) n)),
      length-claims-at s at,
    )

pub counts-le : (s : List ℕ) (at n : ℕ) → sum (counts_from s at n) ≤ most_claims * n
counts-le s at zero = omega arith
counts-le s at (suc n) = omega (arith, count-le s at, counts-le s (past_risk s at) n)

-- ---- the first k + 1 risks: the first k, and the one that begins where they end

suc-add : (k : ℕ) → suc k + 1 ≡ suc (k + 1)
suc-add k = omega arith

pub past-risks-more : (s : List ℕ) (at k : ℕ) → past_risks s at (k + 1) ≡ past_risk s (past_risks s at k)
past-risks-more s at zero = ap (past_risks s at) (zero-add 1)
past-risks-more s at (suc k) = ap (past_risks s at) (suc-add k) ∙ past-risks-more s (past_risk s at) k

pub counts-more : (s : List ℕ) (at k : ℕ) → counts_from s at (k + 1) ≡ counts_from s at k ++ count_at s (past_risks s at k) ∷ []
counts-more s at zero = ap (counts_from s at) (zero-add 1)
counts-more s at (suc k) =
    ap (counts_from s at) (suc-add k) ∙ ap (λ (l : List ℕ). count_at s at ∷ l) (counts-more s (past_risk s at) k)

pub risks-more : (s : List ℕ) (at k : ℕ) → risks_from s at (k + 1) ≡ risks_from s at k ++ claims_at s (past_risks s at k) ∷ []
risks-more s at zero = ap (risks_from s at) (zero-add 1)
risks-more s at (suc k) =
    ap (risks_from s at) (suc-add k) ∙ ap (λ (l : List (List Claim)). claims_at s at ∷ l) (risks-more s (past_risk s at) k)

-- their claims one after another, likewise
pub all_more : (s : List ℕ) (at k : ℕ) → all_claims (risks_from s at (k + 1)) ≡ all_claims (risks_from s at k) ++ claims_at s (past_risks s at k)
all_more s at k = ap all_claims (risks-more s at k) ∙ all_append (risks_from s at k) (claims_at s (past_risks s at k))
  where
    all_append : (rs : List (List Claim)) (last : List Claim) → all_claims (rs ++ last ∷ []) ≡ all_claims rs ++ last
    all_append [] last = append-nil last
    all_append (r ∷ rs) last = ap (λ (l : List Claim). r ++ l) (all_append rs last) ∙ sym (append_assoc r (all_claims rs) last)

-- and the counts of the first risks add to no more than those of more risks
pub sum-prefix : (s : List ℕ) (at k n : ℕ) → k ≤ n → sum (counts_from s at k) ≤ sum (counts_from s at n)
sum-prefix s at zero n h = omega arith
sum-prefix s at (suc k) zero h = absurd (omega arith)
sum-prefix s at (suc k) (suc n) h = omega (arith, sum-prefix s (past_risk s at) k n (omega arith))

-- a part of their claims one after another, as the dollars, likewise
pub parts_more : (part : Claim → ℕ) (s : List ℕ) (at k : ℕ)
    → map part (all_claims (risks_from s at (k + 1))) ≡ map part (all_claims (risks_from s at k)) ++ map part (claims_at s (past_risks s at k))
parts_more part s at k =
    ap (map part) (all_more s at k) ∙ map-append part (all_claims (risks_from s at k)) (claims_at s (past_risks s at k))

-- ---- as fields

-- a risk's claims are those that its count takes
first-claims : (s : List ℕ) (at : ℕ) (rest : List Claim) → take (count_at s at) (claims_at s at ++ rest) ≡ claims_at s at
first-claims s at rest = take_at (claims_at s at) rest (count_at s at) (length-claims-at s at)

later-claims : (s : List ℕ) (at : ℕ) (rest : List Claim) → drop (count_at s at) (claims_at s at ++ rest) ≡ rest
later-claims s at rest = drop_at (claims_at s at) rest (count_at s at) (length-claims-at s at)

-- risks whose counts and claims are written are those risks again
pub divided-again : (s : List ℕ) (at n : ℕ) → divided (counts_from s at n) (all_claims (risks_from s at n)) ≡ risks_from s at n
divided-again s at zero = refl
divided-again s at (suc n) =
    let rest : List Claim = all_claims (risks_from s (past_risk s at) n) in
    ap₂ (λ (a b : List Claim). a ∷ divided (counts_from s (past_risk s at) n) b) (first-claims s at rest) (later-claims s at rest)
    ∙ ap (λ (l : List (List Claim)). claims_at s at ∷ l) (divided-again s (past_risk s at) n)

module _ (s : List ℕ) where
  -- the fields of claims, and of risks, in the file's own edition
  abbrev own : List Claim → List Slot
  own = slots_of_claims (edition_of s)

  abbrev owns : List ℕ → List Claim → List Slot
  owns = slots_of_risks (edition_of s)

  -- the fields of one risk, and of those behind it
  risk-slots : (at : ℕ) (ks : List ℕ) (rest : List Claim)
      → owns (count_at s at ∷ ks) (claims_at s at ++ rest)
      ≡ slot count_width (count_at s at) ∷ (own (claims_at s at) ++ owns ks rest)
  risk-slots at ks rest =
      ap₂ (λ (a b : List Claim). slot count_width (count_at s at) ∷ (own a ++ owns ks b))
      (first-claims s at rest) (later-claims s at rest)

  -- where risks are taken their fields lie
  pub risks-laid : (at n : ℕ) → Laid s at (slots_of_risks (edition_of s) (counts_from s at n) (all_claims (risks_from s at n)))
  risks-laid at zero = tt
  risks-laid at (suc n) =
      let rest : List Claim = all_claims (risks_from s (past_risk s at) n) in
      let ks : List ℕ = counts_from s (past_risk s at) n in
      let first : List Slot = own (claims_at s at) in
      let place : past_risk s at ≡ first_claim at + total_width first = sym (claims-end s (first_claim at) (count_at s at)) in
      let next : Laid s (first_claim at + total_width first) (owns ks rest) =
      subst (λ (x : ℕ). Laid s x (owns ks rest)) place (risks-laid (past_risk s at) n) in
      subst (Laid s at) (sym (risk-slots at ks rest))
      (count-laid s at (first ++ owns ks rest)
      (laid-append s (first_claim at) first (owns ks rest) (claims-laid s (first_claim at) (count_at s at)) next))

  -- and end where the last of them ends
  pub risks-end : (at n : ℕ)
      → at + total_width (slots_of_risks (edition_of s) (counts_from s at n) (all_claims (risks_from s at n))) ≡ past_risks s at n
  risks-end at zero = omega arith
  risks-end at (suc n) =
      let rest : List Claim = all_claims (risks_from s (past_risk s at) n) in
      let ks : List ℕ = counts_from s (past_risk s at) n in
      omega (
        arith,
        ap total_width (risk-slots at ks rest),
        width-append (own (claims_at s at)) (owns ks rest),
        claims-end s (first_claim at) (count_at s at),
        first-claim at,
        risks-end (past_risk s at) n,
      )

-- the values that the risks' fields hold
pub record RisksTaken (s : List ℕ) (at : ℕ) (counts : List ℕ) (claims : List Claim) : Type 0 where
  pub counts_are : counts_from s at (length counts) ≡ counts
  pub claims_are : all_claims (risks_from s at (length counts)) ≡ claims
  pub ends : past_risks s at (length counts) ≡ at + total_width (slots_of_risks (edition_of s) counts claims)

none_left : (claims : List Claim) → 0 ≡ length claims → [] ≡ claims
none_left [] e = refl
none_left (x ∷ xs) e = absurd (omega arith)

-- where their fields lie risks are taken
pub laid-risks : (s : List ℕ) (at : ℕ) (counts : List ℕ) (claims : List Claim) → sum counts ≡ length claims
    → Laid s at (slots_of_risks (edition_of s) counts claims) → RisksTaken s at counts claims
laid-risks s at [] claims e l = record { counts_are = refl; claims_are = none_left claims e; ends = omega arith }
laid-risks s at (k ∷ ks) claims e l =
    let taken : List Claim = take k claims in
    let rest : List Claim = drop k claims in
    let first : List Slot = own s taken in
    let taken-length : length taken ≡ k = length-take-le k claims (omega arith) in
    let p = laid-count s at k (first ++ owns s ks rest) l in
    let count : count_at s at ≡ k = p.0 in
    let row : claims_at s at ≡ taken =
    ap (claims_from s (first_claim at)) (count ∙ sym taken-length)
    ∙ laid-claims s (first_claim at) taken (laid-first s (first_claim at) first (owns s ks rest) p.1) in
    let place : past_risk s at ≡ first_claim at + total_width first =
    sym (claims-end s (first_claim at) (count_at s at)) ∙ ap (λ (x : List Claim). first_claim at + total_width (own s x)) row in
    let next : RisksTaken s (first_claim at + total_width first) ks rest =
    laid-risks s (first_claim at + total_width first) ks rest (omega (arith, length-drop k claims))
    (laid-second s (first_claim at) first (owns s ks rest) p.1) in
    let there : RisksTaken s (past_risk s at) ks rest = subst (λ (x : ℕ). RisksTaken s x ks rest) (sym place) next in
    record {
      counts_are = ap₂ ◌∷◌ count there.counts_are;
      claims_are = ap₂ ◌++◌ row there.claims_are ∙ take-append-drop k claims;
      ends = there.ends ∙ omega (arith, place, first-claim at, width-append first (owns s ks rest));
    }

-- how wide they are, of counts that take no more claims than there are
pub risks-width : (edition : ℕ) (counts : List ℕ) (claims : List Claim) → sum counts ≤ length claims
    → total_width (slots_of_risks edition counts claims) ≡ count_width * length counts + claim_width edition * sum counts
risks-width edition [] claims h = omega arith
risks-width edition (k ∷ ks) claims h =
    omega (
      arith,
      width-append (slots_of_claims edition (take k claims)) (slots_of_risks edition ks (drop k claims)),
      claims-width edition (take k claims),
      ap (λ (n : ℕ). claim_width edition * n) (length-take-le k claims (omega arith)),
      risks-width edition ks (drop k claims) (omega (arith, length-drop k claims)),
    )

-- ---- counts and claims that fit their fields

pub risks-fitting : (edition : ℕ) (counts js ds : List ℕ) → Fitting (slots count_width counts)
    → all_fit (joined_width edition) js ≡ true → all_fit dollars_width ds ≡ true
    → Fitting (slots_of_risks edition counts (claims_of js ds))
risks-fitting edition [] js ds f e d = tt
risks-fitting edition (k ∷ ks) js ds f e d = (
  f.0,
  fitting-append (slots_of_claims edition (take k (claims_of js ds))) (slots_of_risks edition ks (drop k (claims_of js ds)))
      (subst (λ (l : List Claim). Fitting (slots_of_claims edition l)) (sym (take-claims-of k js ds))
      (claims-fitting edition (take k js) (take k ds) (fit-take _ k js e) (fit-take dollars_width k ds d)))
      (subst (λ (l : List Claim). Fitting (slots_of_risks edition ks l)) (sym (drop-claims-of k js ds))
      (risks-fitting edition ks (drop k js) (drop k ds) f.1 (fit-drop _ k js e) (fit-drop dollars_width k ds d))),
)

pub counts_fit : (s : List ℕ) (at n : ℕ) → all_fit count_width (counts_from s at n) ≡ true
unfolding count_at
counts_fit s at zero = refl
counts_fit s at (suc n) = and_yes (lt-ltb _ _ (field_lt s at count_width)) (counts_fit s (past_risk s at) n)

-- what fits of the claims of each risk fits of all
parts-fit : (part : Claim → ℕ) (w : ℕ) (s : List ℕ) → ((at k : ℕ) → all_fit w (map part (claims_from s at k)) ≡ true) → (at n : ℕ)
    → all_fit w (map part (all_claims (risks_from s at n))) ≡ true
parts-fit part w s fit at zero = refl
parts-fit part w s fit at (suc n) =
    ap (all_fit w) (map-append part (claims_at s at) (all_claims (risks_from s (past_risk s at) n)))
    ∙ fit_append w (map part (claims_at s at)) (map part (all_claims (risks_from s (past_risk s at) n)))
    (fit (first_claim at) (count_at s at)) (parts-fit part w s fit (past_risk s at) n)

pub all-dollars-fit : (s : List ℕ) (at n : ℕ) → all_fit dollars_width (map dollars (all_claims (risks_from s at n))) ≡ true
all-dollars-fit s = parts-fit dollars dollars_width s (dollars-fit s)

pub all-joined-fit : (s : List ℕ) (at n : ℕ) → all_fit (joined_width (edition_of s)) (map joins (all_claims (risks_from s at n))) ≡ true
all-joined-fit s = parts-fit joins (joined_width (edition_of s)) s (joined_fit s)

-- counts of 6 bits add to 63 a risk at most
pub counts-most : (counts : List ℕ) → Fitting (slots count_width counts) → sum counts ≤ most_claims * length counts
counts-most [] f = omega arith
counts-most (k ∷ ks) f = omega (arith, counts-most ks f.1)
