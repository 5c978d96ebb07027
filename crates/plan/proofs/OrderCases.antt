-- The cases of document 02, job 7.
use mathlib.Core.Path.{◌≡◌, refl}
use mathlib.Core.List.{[], ◌∷◌, map}
use lib.IntN.{pos}
use Rattle.plan.specs.Header.{header_of}
use Rattle.plan.specs.Losses.{losses_in, limited_of}
use Rattle.plan.specs.Marks.{LG, LH}
use Rattle.plan.specs.Ratable.{ratable, SX, SS}
use Rattle.plan.specs.Call.{refused}
use Rattle.plan.specs.Calls.{rated_of, rate, rate_call}
use Rattle.plan.specs.Arithmetic.{nearest}
use Rattle.plan.specs.Field.{bit, number, field, bytes_of}
use Rattle.plan.specs.Claim.{claim_width, claim_at, past_claim, slots_of_claim}
use Rattle.plan.specs.Risk.{count_at, first_claim}
use Rattle.plan.specs.Basic.{basic_premium, excess_charge}
use Rattle.plan.specs.Premium.{bill_rounding, bill_with}
use Rattle.plan.specs.Comparison.{compare, compare_call}
use Rattle.plan.proofs.Groups.{header, group, Written, rates, lg, lh, stock, marked, half_file, next_entry_file, next_loss_file, expense_file}
use Rattle.plan.proofs.FieldCases.{by_fields}

abbrev pub OrderCase : Type 0
OrderCase =
    -- 'LH can't exceed LG': equal marks
    Written (marked 1 1 500 500) half_file
    × (lg half_file ≡ 0)
    × (lh half_file ≡ 0)
    × (rate half_file 4 ≡ rates 1 (pos 1000) 0 1 (1 ∷ []))
    -- a thousandth apart
    × Written (marked 1 1 1000 999) next_entry_file
    × (lg next_entry_file ≡ 1)
    × (lh next_entry_file ≡ 0)
    × (rate next_entry_file 4 ≡ rates 1 (pos 0) 0 1 (1 ∷ []))
    -- after 10 comes 12, in job 1's call too
    × Written (marked 1000 0 900 899) next_loss_file
    × (lg next_loss_file ≡ 900)
    × (lh next_loss_file ≡ 899)
    × (rate next_loss_file 4 ≡ refused 12)
    × (compare next_loss_file (stock 0) 4 1 ≡ refused 12)
    -- 18 keeps out what would be rated out of balance: M is 1,051,000 and K 900, in all 1,951, where 2,001 is owed
    × Written (group (header 0 1000 2000 1000 10000 0 900 950) (1 ∷ []) (1 ∷ [])) expense_file
    × (basic_premium (header_of expense_file) (losses_in expense_file) ≡ pos 1051000)
    × (map (ratable (header_of expense_file) (losses_in expense_file)) (losses_in expense_file) ≡ 900 ∷ [])
    × (rate expense_file 4 ≡ refused 18)

pub order_case : OrderCase
unfolding bytes_of number bit field claim_width claim_at past_claim slots_of_claim count_at first_claim limited_of LG LH SX SS ratable basic_premium excess_charge nearest bill_rounding bill_with rated_of rate_call compare_call
order_case = by_fields (refl, refl, refl, refl, refl, refl, refl, refl, refl, refl, refl, refl, refl, refl, refl, refl, refl)
