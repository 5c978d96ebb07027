-- What is to come behind a cursor: a step to the next risk takes the first of the later risks, and a step to the next claim the first of the
-- claims that are left. So the steps of a file's risks, one after another, give all of them. Assumes nothing.
use mathlib.Core.Path.{◌≡◌, sym, ap, ap₂, ◌∙◌}
use mathlib.Core.List.{List, ◌∷◌}
use Prim.Native.Nat.{ℕ, suc}
use native.Mathlib.Numerals.{add-one}
use Rattle.plan.specs.Claim.{Claim, claims_from, past_claims}
use Rattle.plan.specs.Risk.{claims_at, past_risk, risks_from}
use Rattle.bits.specs.declared.Taken.{Taken}
use Rattle.claims.specs.Claim.{claim_of}
use Rattle.claims.specs.Cursor.{own_claims, past_own, later_risks, NextRisk, NextClaim}
use Rattle.claims.specs.declared.claim.FileClaim.{FileClaim}
use Rattle.claims.specs.declared.cursor.Cursor.{Cursor}

module _ {s : List ℕ} {c : Cursor} where
  -- ---- a risk more

  module _ {r : Taken ℕ Cursor} (x : NextRisk s c r) where
    pub next-risk-own : own_claims s r.next ≡ claims_at s c.place.at
    next-risk-own = ap₂ (claims_from s) x.place (x.left ∙ x.count)

    pub next-risk-past : past_own s r.next ≡ past_risk s c.place.at
    next-risk-past = ap₂ (past_claims s) x.place (x.left ∙ x.count)

    -- where no claim of the risk before is left
    pub next-risk : c.left ≡ 0 → (n : ℕ) → later_risks s c (suc n) ≡ own_claims s r.next ∷ later_risks s r.next n
    next-risk none n =
        ap (λ (k : ℕ). risks_from s (past_claims s c.place.at k) (suc n)) none
        ∙ ap₂ (λ (own : List Claim) (p : ℕ). own ∷ risks_from s p n) (sym next-risk-own) (sym next-risk-past)

  -- ---- a claim more

  module _ {r : Taken FileClaim Cursor} (x : NextClaim s c r) where
    left-is : c.left ≡ suc r.next.left
    left-is = x.left ∙ add-one r.next.left

    pub next-claim : own_claims s c ≡ claim_of r.value ∷ own_claims s r.next
    next-claim =
        ap (claims_from s c.place.at) left-is
        ∙ ap₂ (λ (d : Claim) (p : ℕ). d ∷ claims_from s p r.next.left) (sym x.is) (sym x.place)

    pub next-claim-past : past_own s c ≡ past_own s r.next
    next-claim-past =
        ap (past_claims s c.place.at) left-is ∙ ap (λ (p : ℕ). past_claims s p r.next.left) (sym x.place)

    pub next-claim-later : (n : ℕ) → later_risks s c n ≡ later_risks s r.next n
    next-claim-later n = ap (λ (p : ℕ). risks_from s p n) next-claim-past
