-- The file, field by field, on bytes so few that any reading of them ends. The cases of groups stand on these, since a count that is read
-- wrongly can be of more claims than anyone reads: where a case here is refused the prover computes none of those.
use mathlib.Core.Path.{◌≡◌, refl}
use mathlib.Core.Bool.{true, false}
use mathlib.Core.List.{[], ◌∷◌}
use Prim.Native.Nat.{ℕ, ◌<◌}
use Rattle.plan.specs.Field.{bit, number, field, fields, slots, digits, bytes_of, fits, all_fit, Laid, Fitting}
use Rattle.plan.specs.Header.{edition_field, loss_limit_field, standard_premium_field, expense_field, conversion_field, tax_field}
use Rattle.plan.specs.Header.{mark_kind_field, maximum_mark_field, minimum_mark_field, risks_field, spare_field, header_bits}
use Rattle.plan.specs.Header.{header_of, edition_of, risk_count}
use Rattle.plan.specs.Claim.{claim, claim_width, claim_at, past_claim}
use Rattle.plan.specs.Risk.{count_at, first_claim}
use Rattle.plan.proofs.Groups.{header, four_file, four_joining_file}

abbrev pub FieldCase : Type 0
FieldCase =
    -- the bits of 5 and 128, and past them
    (bit (5 ∷ 128 ∷ []) 4 ≡ 0)
    × (bit (5 ∷ 128 ∷ []) 5 ≡ 1)
    × (bit (5 ∷ 128 ∷ []) 7 ≡ 1)
    × (bit (5 ∷ 128 ∷ []) 8 ≡ 1)
    × (bit (5 ∷ 128 ∷ []) 9 ≡ 0)
    × (bit (5 ∷ 128 ∷ []) 16 ≡ 0)
    × (field (5 ∷ 128 ∷ []) 5 4 ≡ 11)
    × (fields (18 ∷ 52 ∷ []) 4 4 3 ≡ 2 ∷ 3 ∷ 4 ∷ [])
    × (digits 4 11 ≡ 1 ∷ 0 ∷ 1 ∷ 1 ∷ [])
    × (bytes_of (slots 4 (1 ∷ 2 ∷ 3 ∷ [])) ≡ 18 ∷ 48 ∷ [])
    × (fits 4 15 ≡ true)
    × (fits 4 16 ≡ false)
    × (all_fit 4 (15 ∷ 15 ∷ []) ≡ true)
    × (all_fit 4 (16 ∷ 15 ∷ []) ≡ false)
    × Laid (18 ∷ 52 ∷ []) 4 (slots 4 (2 ∷ 3 ∷ []))
    × ((v : ℕ) → Fitting (slots 4 (v ∷ [])) → (v < 16) × Unit {0})
    -- where each field of the header begins, 'widths in bits', and 'The header has 128 bits'
    × (edition_field.at
    ∷ loss_limit_field.at
    ∷ standard_premium_field.at
    ∷ expense_field.at
    ∷ conversion_field.at
    ∷ tax_field.at
    ∷ mark_kind_field.at
    ∷ maximum_mark_field.at
    ∷ minimum_mark_field.at
    ∷ risks_field.at
    ∷ spare_field.at
    ∷ header_bits
    ∷ []
    ≡ 0 ∷ 4 ∷ 24 ∷ 46 ∷ 66 ∷ 77 ∷ 92 ∷ 93 ∷ 106 ∷ 119 ∷ 127 ∷ 128 ∷ [])
    × (edition_field.width
    ∷ loss_limit_field.width
    ∷ standard_premium_field.width
    ∷ expense_field.width
    ∷ conversion_field.width
    ∷ tax_field.width
    ∷ mark_kind_field.width
    ∷ maximum_mark_field.width
    ∷ minimum_mark_field.width
    ∷ risks_field.width
    ∷ spare_field.width
    ∷ []
    ≡ 4 ∷ 20 ∷ 22 ∷ 20 ∷ 11 ∷ 15 ∷ 1 ∷ 13 ∷ 13 ∷ 8 ∷ 1 ∷ [])
    × (edition_of four_file ≡ 1)
    × (edition_of four_joining_file ≡ 2)
    × (header_of four_file ≡ header 5000 10000 2000 1100 10500 0 900 200)
    × (risk_count four_file ≡ 4)
    -- the first two risks of the group of four, with no claim and with two, the first of them 3,000
    × (count_at four_file 128 ≡ 0)
    × (first_claim 128 ≡ 134)
    × (count_at four_file 134 ≡ 2)
    × (claim_at four_file 140 ≡ claim 0 3000)
    × (past_claim four_file 140 ≡ 160)
    × (claim_at four_joining_file 140 ≡ claim 0 3000)
    × (past_claim four_joining_file 140 ≡ 161)

pub field_case : FieldCase
unfolding bit number field bytes_of claim_width claim_at past_claim count_at first_claim
field_case = (
  refl,
  refl,
  refl,
  refl,
  refl,
  refl,
  refl,
  refl,
  refl,
  refl,
  refl,
  refl,
  refl,
  refl,
  (refl, (refl, tt)),
  λ v fit. fit,
  refl,
  refl,
  refl,
  refl,
  refl,
  refl,
  refl,
  refl,
  refl,
  refl,
  refl,
  refl,
  refl,
)

-- a case that stands on these
pub by_fields : {A : Type 0} → A → A
by_fields a = let fields_right : FieldCase = field_case in a
