-- Claims taken from a front, whichever edition's: by its number a claim is the one at its place; and so with the claims after i others of a
-- run. Assumes nothing.
use mathlib.Core.Path.{◌≡◌, refl, sym, ap, ap₂, ◌∙◌}
use mathlib.Core.List.{List, [], ◌∷◌, ◌++◌}
use Prim.Native.Nat.{ℕ, ◌+◌, ◌/◌, ◌%◌, ◌^◌}
use native.Mathlib.Omega.{arith}
use Rattle.plan.specs.Field.{field}
use Rattle.plan.specs.Header.{edition_of}
use Rattle.plan.specs.Claim.{Claim, claim, joins, dollars, joined_width, dollars_width, claim_width, claim_at, past_claim, claims_from, past_claims}
use Rattle.laws.proofs.Claims.{width_is, joined-of-both, dollars-of-both, claims-split}
use Rattle.group.specs.Edition.{edition_number, LieAs}
use Rattle.group.specs.declared.edition.Edition.{Edition}
use Rattle.claims.specs.Claim.{claim_of}
use Rattle.claims.specs.declared.claim.FileClaim.{FileClaim}

-- the claims of a file that lie as those of an edition have their width
pub width-like : (s : List ℕ) (e : Edition) → LieAs s e → claim_width (edition_number e) ≡ claim_width (edition_of s)
width-like s e same = omega (arith, width_is (edition_number e), same, width_is (edition_of s))

module _ (s : List ℕ) {b : ℕ} (e : joined_width (edition_of s) ≡ b) where
  -- a claim is its bits and its dollars
  pub width-by : b + dollars_width ≡ claim_width (edition_of s)
  width-by = omega (arith, width_is (edition_of s), e)

  -- both fields taken as one are the claim
  pub claim-by : (at : ℕ) (c : FileClaim) → c.number ≡ field s at (b + dollars_width) → claim_of c ≡ claim_at s at
  claim-by at c is =
      let both : c.number ≡ field s at (claim_width (edition_of s)) = is ∙ ap (field s at) width-by in
      ap₂ claim (ap (λ (x : ℕ). x / 2 ^ dollars_width) both ∙ joined-of-both s at)
      (ap (λ (x : ℕ). x % 2 ^ dollars_width) both ∙ dollars-of-both s at)
      ∙ parts (claim_at s at)
    where
      parts : (c : Claim) → claim (joins c) (dollars c) ≡ c
      parts (claim j d) = refl

-- the claim after i others of a run
pub one-more : (s : List ℕ) (at i : ℕ) {p : ℕ} {c : Claim} → p ≡ past_claims s at i → c ≡ claim_at s p
    → claims_from s at i ++ c ∷ [] ≡ claims_from s at (i + 1)
one-more s at i here is =
    ap (λ (x : Claim). claims_from s at i ++ x ∷ []) (is ∙ ap (claim_at s) here) ∙ sym (claims-split s at i 1)

-- and the one behind it
pub two-more : (s : List ℕ) (at i : ℕ) {p : ℕ} {c d : Claim} → p ≡ past_claims s at i → c ≡ claim_at s p
    → d ≡ claim_at s (past_claim s p) → claims_from s at i ++ c ∷ d ∷ [] ≡ claims_from s at (i + 2)
two-more s at i here is next =
    ap₂ (λ (x y : Claim). claims_from s at i ++ x ∷ y ∷ []) (is ∙ ap (claim_at s) here)
    (next ∙ ap (λ (q : ℕ). claim_at s (past_claim s q)) here)
    ∙ sym (claims-split s at i 2)
