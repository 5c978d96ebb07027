-- Laws of a claim and of a run of claims, in either edition: how large a claim is, how many there are, where they end, that they lie
-- where they are taken and are taken where they lie, and that a run of j + k claims is one of j and then one of k. And of claims as
-- two lists, of their bits and of their dollars. Assumes nothing.
use mathlib.Core.Path.{◌≡◌, refl, sym, ap, ap₂, ◌∙◌, subst}
use mathlib.Core.Bool.{Bool, true, false, cond}
use mathlib.Core.List.{List, [], ◌∷◌, ◌++◌, map}
use Prim.Native.Nat.{ℕ, zero, suc, ◌+◌, ◌*◌, ◌/◌, ◌%◌, ◌^◌, ◌≤◌}
use native.Mathlib.Nat.{zero-add, mul-le-mul_right}
use native.Mathlib.Omega.{arith}
use borrow.Author.Tests.{ltb-true, lt-ltb}
use lib.Dec.{eqb}
use lib.ListN.{length, take, drop}
use lib.Pow.{high, low}
use Rattle.plan.specs.Sizes.{largest_claim, most_claim_width}
use Rattle.plan.specs.Field.{field, Slot, total_width, Laid, Fitting, fits, all_fit}
use Rattle.plan.specs.Header.{edition_of}
use Rattle.plan.specs.Claim.{Claim, claim, joins, dollars, joined_width, dollars_width, claim_width, claim_at, past_claim, claims_from}
use Rattle.plan.specs.Claim.{past_claims, slots_of_claim, slots_of_claims, claims_of}
use Rattle.laws.proofs.Tests.{both, and_yes}
use Rattle.laws.proofs.Fields.{field_lt, field_below, field-none, field-split}
use Rattle.laws.proofs.Written.{width-append, laid-append, laid-first, laid-second, fitting-append}

-- ---- widths

-- 20 bits, and the bit's field
pub width_is : (edition : ℕ) → claim_width edition ≡ joined_width edition + dollars_width
unfolding claim_width
width_is edition = refl

-- which has one bit at most
pub joined-width-le : (edition : ℕ) → joined_width edition ≤ 1
joined-width-le edition = either (eqb edition 2)
  where
    either : (b : Bool) → cond b 1 0 ≤ 1
    either true = omega arith
    either false = omega arith

pub width-le : (edition : ℕ) → claim_width edition ≤ most_claim_width
width-le edition = omega (arith, width_is edition, joined-width-le edition)

-- so a run of claims has at most so many bits for each
pub run-le : (edition k : ℕ) → claim_width edition * k ≤ most_claim_width * k
run-le edition k = mul-le-mul_right k (width-le edition)

-- ---- one claim

pub joined_at : (s : List ℕ) (at : ℕ) → joins (claim_at s at) ≡ field s at (joined_width (edition_of s))
unfolding claim_at
joined_at s at = refl

pub dollars-at : (s : List ℕ) (at : ℕ) → dollars (claim_at s at) ≡ field s (at + joined_width (edition_of s)) dollars_width
unfolding claim_at
dollars-at s at = refl

pub dollars-le : (s : List ℕ) (at : ℕ) → dollars (claim_at s at) ≤ largest_claim
dollars-le s at = omega (arith, dollars-at s at, field_lt s (at + joined_width (edition_of s)) dollars_width)

pub joined-le : (s : List ℕ) (at : ℕ) → joins (claim_at s at) ≤ 1
joined-le s at = omega (arith, joined_at s at, field_below s at (joined_width (edition_of s)) 1 (joined-width-le (edition_of s)))

-- both fields taken as one
pub joined-of-both : (s : List ℕ) (at : ℕ) → field s at (claim_width (edition_of s)) / 2 ^ dollars_width ≡ joins (claim_at s at)
unfolding claim_at claim_width
joined-of-both s at =
    let bit = joined_width (edition_of s) in
    ap (λ (x : ℕ). x / 2 ^ dollars_width) (field-split s at bit dollars_width)
    ∙ high (field s at bit) dollars_width (field_lt s (at + bit) dollars_width)

pub dollars-of-both : (s : List ℕ) (at : ℕ) → field s at (claim_width (edition_of s)) % 2 ^ dollars_width ≡ dollars (claim_at s at)
unfolding claim_at claim_width
dollars-of-both s at =
    let bit = joined_width (edition_of s) in
    ap (λ (x : ℕ). x % 2 ^ dollars_width) (field-split s at bit dollars_width)
    ∙ low (field s at bit) dollars_width (field_lt s (at + bit) dollars_width)

-- a bit's field of no bits is 0
pub not-joined : (s : List ℕ) (at : ℕ) → joined_width (edition_of s) ≡ 0 → joins (claim_at s at) ≡ 0
not-joined s at e = joined_at s at ∙ ap (field s at) e ∙ field-none s at

pub past-claim : (s : List ℕ) (at : ℕ) → past_claim s at ≡ at + claim_width (edition_of s)
unfolding past_claim
past-claim s at = refl

pub claim-width : (edition : ℕ) (c : Claim) → total_width (slots_of_claim edition c) ≡ claim_width edition
unfolding slots_of_claim
claim-width edition (claim j d) = omega (arith, width_is edition)

claim-laid : (s : List ℕ) (at : ℕ) → Laid s at (slots_of_claim (edition_of s) (claim_at s at))
unfolding claim_at slots_of_claim
claim-laid s at = (refl, (refl, tt))

laid-claim : (s : List ℕ) (at : ℕ) (c : Claim) → Laid s at (slots_of_claim (edition_of s) c) → claim_at s at ≡ c
unfolding claim_at slots_of_claim
laid-claim s at (claim j d) l = ap₂ claim l.0 l.1.0

-- ---- a run of claims: how many, and where they end

pub length-claims : (s : List ℕ) (at k : ℕ) → length (claims_from s at k) ≡ k
length-claims s at zero = refl
length-claims s at (suc k) = ap suc (length-claims s (past_claim s at) k)

pub past-claims : (s : List ℕ) (at k : ℕ) → past_claims s at k ≡ at + claim_width (edition_of s) * k
past-claims s at zero = omega arith
past-claims s at (suc k) = omega (arith, past-claims s (past_claim s at) k, past-claim s at)

-- the same by a number that is the width
pub past-claims-by : (s : List ℕ) {w : ℕ} → w ≡ claim_width (edition_of s) → (at k : ℕ) → past_claims s at k ≡ at + w * k
past-claims-by s e at k = past-claims s at k ∙ ap (λ (w : ℕ). at + w * k) (sym e)

pub past-claims-le : (s : List ℕ) (at k : ℕ) → past_claims s at k ≤ at + most_claim_width * k
past-claims-le s at k = omega (arith, past-claims s at k, run-le (edition_of s) k)

-- ---- a run in two

pub claims-split : (s : List ℕ) (at j k : ℕ) → claims_from s at (j + k) ≡ claims_from s at j ++ claims_from s (past_claims s at j) k
claims-split s at zero k = ap (claims_from s at) (zero-add k)
claims-split s at (suc j) k =
    let e : suc j + k ≡ suc (j + k) = omega arith in
    ap (claims_from s at) e ∙ ap (λ (l : List Claim). claim_at s at ∷ l) (claims-split s (past_claim s at) j k)

-- one claim more
pub claims-more : (s : List ℕ) (at k : ℕ) → claims_from s at (k + 1) ≡ claims_from s at k ++ claim_at s (past_claims s at k) ∷ []
claims-more s at k = claims-split s at k 1

-- ---- as fields

pub claims-width : (edition : ℕ) (claims : List Claim)
    → total_width (slots_of_claims edition claims) ≡ claim_width edition * length claims
claims-width edition [] = omega arith
claims-width edition (c ∷ cs) =
    omega (
      arith,
      width-append (slots_of_claim edition c) (slots_of_claims edition cs),
      claim-width edition c,
      claims-width edition cs,
    )

module _ (s : List ℕ) where
  -- the fields of claims in the file's own edition
  abbrev own : List Claim → List Slot
  own = slots_of_claims (edition_of s)

  -- they end where their fields do
  pub claims-end : (at k : ℕ) → at + total_width (slots_of_claims (edition_of s) (claims_from s at k)) ≡ past_claims s at k
  claims-end at k =
      omega (
        arith,
        claims-width (edition_of s) (claims_from s at k),
        ap (λ (n : ℕ). claim_width (edition_of s) * n) (length-claims s at k),
        past-claims s at k,
      )

  -- where claims are taken their fields lie
  pub claims-laid : (at k : ℕ) → Laid s at (slots_of_claims (edition_of s) (claims_from s at k))
  claims-laid at zero = tt
  claims-laid at (suc k) =
      let first : List Slot = slots_of_claim (edition_of s) (claim_at s at) in
      let rest : List Slot = own (claims_from s (past_claim s at) k) in
      let here : past_claim s at ≡ at + total_width first = omega (arith, past-claim s at, claim-width (edition_of s) (claim_at s at)) in
      laid-append s at first rest (claim-laid s at) (subst (λ (x : ℕ). Laid s x rest) here (claims-laid (past_claim s at) k))

  -- and where their fields lie they are taken
  pub laid-claims : (at : ℕ) (claims : List Claim) → Laid s at (slots_of_claims (edition_of s) claims)
      → claims_from s at (length claims) ≡ claims
  laid-claims at [] l = refl
  laid-claims at (c ∷ cs) l =
      let first : List Slot = slots_of_claim (edition_of s) c in
      let here : at + total_width first ≡ past_claim s at = omega (arith, past-claim s at, claim-width (edition_of s) c) in
      ap₂ ◌∷◌ (laid-claim s at c (laid-first s at first (own cs) l))
      (laid-claims (past_claim s at) cs (subst (λ (x : ℕ). Laid s x (own cs)) here (laid-second s at first (own cs) l)))

-- ---- claims as a list of bits and a list of dollars

-- a claim is its bit and its dollars
pub claims-of-parts : (claims : List Claim) → claims_of (map joins claims) (map dollars claims) ≡ claims
claims-of-parts [] = refl
claims-of-parts (claim j d ∷ cs) = ap (λ (l : List Claim). claim j d ∷ l) (claims-of-parts cs)

pub length-claims-of : (js ds : List ℕ) → length js ≡ length ds → length (claims_of js ds) ≡ length ds
length-claims-of [] [] e = refl
length-claims-of [] (d ∷ ds) e = absurd (omega arith)
length-claims-of (j ∷ js) [] e = refl
length-claims-of (j ∷ js) (d ∷ ds) e = ap suc (length-claims-of js ds (omega arith))

pub dollars-of : (js ds : List ℕ) → length js ≡ length ds → map dollars (claims_of js ds) ≡ ds
dollars-of [] [] e = refl
dollars-of [] (d ∷ ds) e = absurd (omega arith)
dollars-of (j ∷ js) [] e = refl
dollars-of (j ∷ js) (d ∷ ds) e = ap (λ (l : List ℕ). d ∷ l) (dollars-of js ds (omega arith))

pub joined_of : (js ds : List ℕ) → length js ≡ length ds → map joins (claims_of js ds) ≡ js
joined_of [] ds e = refl
joined_of (j ∷ js) [] e = absurd (omega arith)
joined_of (j ∷ js) (d ∷ ds) e = ap (λ (l : List ℕ). j ∷ l) (joined_of js ds (omega arith))

pub take-claims-of : (k : ℕ) (js ds : List ℕ) → take k (claims_of js ds) ≡ claims_of (take k js) (take k ds)
take-claims-of zero js ds = refl
take-claims-of (suc k) [] ds = refl
take-claims-of (suc k) (j ∷ js) [] = refl
take-claims-of (suc k) (j ∷ js) (d ∷ ds) = ap (λ (l : List Claim). claim j d ∷ l) (take-claims-of k js ds)

pub drop-claims-of : (k : ℕ) (js ds : List ℕ) → drop k (claims_of js ds) ≡ claims_of (drop k js) (drop k ds)
drop-claims-of zero js ds = refl
drop-claims-of (suc k) [] ds = refl
drop-claims-of (suc k) (j ∷ js) [] = none (drop k js)
  where
    none : (l : List ℕ) → [] ≡ claims_of l []
    none [] = refl
    none (x ∷ xs) = refl
drop-claims-of (suc k) (j ∷ js) (d ∷ ds) = drop-claims-of k js ds

-- ---- claims that fit their fields

claim-fitting : (edition j d : ℕ) → fits (joined_width edition) j ≡ true → fits dollars_width d ≡ true
    → Fitting (slots_of_claim edition (claim j d))
unfolding slots_of_claim
claim-fitting edition j d e f = (ltb-true _ _ e, (ltb-true _ _ f, tt))

pub claims-fitting : (edition : ℕ) (js ds : List ℕ) → all_fit (joined_width edition) js ≡ true → all_fit dollars_width ds ≡ true
    → Fitting (slots_of_claims edition (claims_of js ds))
claims-fitting edition [] ds e f = tt
claims-fitting edition (j ∷ js) [] e f = tt
claims-fitting edition (j ∷ js) (d ∷ ds) e f =
    let p = both (fits (joined_width edition) j) (all_fit (joined_width edition) js) e in
    let q = both (fits dollars_width d) (all_fit dollars_width ds) f in
    fitting-append (slots_of_claim edition (claim j d)) (slots_of_claims edition (claims_of js ds))
    (claim-fitting edition j d p.0 q.0)
    (claims-fitting edition js ds p.1 q.1)

-- those that are taken do
pub dollars-fit : (s : List ℕ) (at k : ℕ) → all_fit dollars_width (map dollars (claims_from s at k)) ≡ true
unfolding claim_at
dollars-fit s at zero = refl
dollars-fit s at (suc k) = and_yes (lt-ltb _ _ (field_lt s _ dollars_width)) (dollars-fit s (past_claim s at) k)

pub joined_fit : (s : List ℕ) (at k : ℕ) → all_fit (joined_width (edition_of s)) (map joins (claims_from s at k)) ≡ true
unfolding claim_at
joined_fit s at zero = refl
joined_fit s at (suc k) =
    and_yes (lt-ltb _ _ (field_lt s at (joined_width (edition_of s)))) (joined_fit s (past_claim s at) k)

-- ---- lists of numbers that fit so many bits

module _ (w : ℕ) where
  pub fit_append : (xs ys : List ℕ) → all_fit w xs ≡ true → all_fit w ys ≡ true → all_fit w (xs ++ ys) ≡ true
  fit_append [] ys e f = f
  fit_append (x ∷ xs) ys e f = let p = both (fits w x) (all_fit w xs) e in and_yes p.0 (fit_append xs ys p.1 f)

  pub fit-take : (k : ℕ) (xs : List ℕ) → all_fit w xs ≡ true → all_fit w (take k xs) ≡ true
  fit-take zero xs e = refl
  fit-take (suc k) [] e = refl
  fit-take (suc k) (x ∷ xs) e = let p = both (fits w x) (all_fit w xs) e in and_yes p.0 (fit-take k xs p.1)

  pub fit-drop : (k : ℕ) (xs : List ℕ) → all_fit w xs ≡ true → all_fit w (drop k xs) ≡ true
  fit-drop zero xs e = e
  fit-drop (suc k) [] e = refl
  fit-drop (suc k) (x ∷ xs) e = fit-drop k xs (both (fits w x) (all_fit w xs) e).1
