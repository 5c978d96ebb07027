-- The cases of document 02, job 3.
use mathlib.Core.Path.{◌≡◌, refl}
use mathlib.Core.List.{[], ◌∷◌, map}
use Rattle.plan.specs.Losses.{losses_in, limited_of, SL, SA, losses_so_far}
use Rattle.plan.specs.Field.{bit, number, field}
use Rattle.plan.specs.Claim.{claim_width, claim_at, past_claim}
use Rattle.plan.specs.Risk.{count_at, first_claim}
use Rattle.plan.proofs.Groups.{four_file, so_far}
use Rattle.plan.proofs.FieldCases.{by_fields}

-- 'after each risk it is the sum of A so far', and the same of L: risk 1 has no claims, and after risk 4 they are SA and SL
abbrev pub SumsCase : Type 0
SumsCase =
    (map (λ k. SA (losses_so_far four_file k)) so_far ≡ 0 ∷ 0 ∷ 4000 ∷ 9000 ∷ 21000 ∷ [])
    × (map (λ k. SL (losses_so_far four_file k)) so_far ≡ 0 ∷ 0 ∷ 4000 ∷ 11000 ∷ 24000 ∷ [])
    × (SA (losses_in four_file) ≡ 21000)
    × (SL (losses_in four_file) ≡ 24000)

pub sums_case : SumsCase
unfolding number bit field claim_width claim_at past_claim count_at first_claim limited_of
sums_case = by_fields (refl, refl, refl, refl)
