-- The cases of document 02, job 2.
use mathlib.Core.Path.{◌≡◌, refl}
use mathlib.Core.List.{[], ◌∷◌}
use lib.IntN.{pos}
use Rattle.plan.specs.Losses.{limited_of}
use Rattle.plan.specs.Marks.{LG, LH}
use Rattle.plan.specs.Ratable.{ratable, SX, SS}
use Rattle.plan.specs.Call.{given, refused}
use Rattle.plan.specs.Calls.{rated_of, rate, table, read, write, rate_call, table_call, read_call, write_call}
use Rattle.plan.specs.Arithmetic.{nearest}
use Rattle.plan.specs.Field.{bit, number, field, bytes_of}
use Rattle.plan.specs.Claim.{claim_width, claim_at, past_claim, slots_of_claim}
use Rattle.plan.specs.Risk.{count_at, first_claim}
use Rattle.plan.specs.Basic.{basic_premium, excess_charge}
use Rattle.plan.specs.Premium.{bill_rounding, bill_with}
use Rattle.plan.specs.Comparison.{compare, compare_call}
use Rattle.plan.proofs.Groups.{group, Written, rates, lg, lh, stock, marked, crossing, crossing_file1, crossing_file1000, entry_file, equal_file, above_file, no_risks_file}
use Rattle.plan.proofs.FieldCases.{by_fields}

abbrev pub MarksCase : Type 0
MarksCase =
    -- 'The P 1 example of document 01 is refused from now on': its marks are 0 dollars both
    Written (crossing 1) crossing_file1
    × (lg crossing_file1 ≡ 0)
    × (lh crossing_file1 ≡ 0)
    × (rate crossing_file1 4 ≡ refused 18)
    -- 'and the P 1,000 one gives 18 in place of 11'
    × Written (crossing 1000) crossing_file1000
    × (lg crossing_file1000 ≡ 900)
    × (lh crossing_file1000 ≡ 950)
    × (rate crossing_file1000 4 ≡ refused 18)
    -- 'in Rate, Read, Table and Write', and in job 1's call, which opens a file as Rate does
    × (read crossing_file1 1 1 1 ≡ refused 18)
    × (table crossing_file1 100 ≡ refused 18)
    × (write (crossing 1) 20 ≡ refused 18)
    × (compare crossing_file1 (stock 0) 4 1 ≡ refused 18)
    -- 'as written', whatever the mark kind
    × Written (marked 1 1 900 950) entry_file
    × (rate entry_file 4 ≡ refused 18)
    -- equal marks pass, and are rated, read and written
    × (rate equal_file 4 ≡ rates 1 (pos 1000) 0 1 (1 ∷ []))
    × (read equal_file 1 1 1 ≡ given (marked 1 0 950 950))
    × (write (marked 1 0 950 950) 20 ≡ given equal_file)
    -- 'after 6 and before 7'
    × Written (marked 1 0 900 6001) above_file
    × (rate above_file 4 ≡ refused 6)
    × (write (marked 1 0 900 6001) 20 ≡ refused 6)
    × Written (group (crossing 1).header [] []) no_risks_file
    × (rate no_risks_file 0 ≡ refused 18)
    × (write (group (crossing 1).header [] []) 16 ≡ refused 18)

pub marks_case : MarksCase
unfolding bytes_of number bit field claim_width claim_at past_claim slots_of_claim count_at first_claim limited_of LG LH SX SS ratable basic_premium excess_charge nearest bill_rounding bill_with rated_of rate_call table_call read_call write_call compare_call
marks_case = by_fields (refl, refl, refl, refl, refl, refl, refl, refl, refl, refl, refl, refl, refl, refl, refl, refl, refl, refl, refl, refl, refl, refl, refl)
