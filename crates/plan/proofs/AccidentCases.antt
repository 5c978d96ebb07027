-- The cases of document 02, job 4.
use mathlib.Core.Path.{◌≡◌, refl}
use mathlib.Core.List.{[], ◌∷◌}
use Prim.Native.Nat.{◌*◌}
use lib.IntN.{pos}
use Rattle.plan.specs.Losses.{limited_of}
use Rattle.plan.specs.Marks.{LG, LH}
use Rattle.plan.specs.Ratable.{ratable, SX, SS}
use Rattle.plan.specs.Call.{given, refused}
use Rattle.plan.specs.Calls.{rated_of, rate, table, read, write, rate_call, table_call, read_call, write_call}
use Rattle.plan.specs.Arithmetic.{nearest}
use Rattle.plan.specs.Field.{bit, number, field, bytes_of}
use Rattle.plan.specs.Claim.{claim_width, claim_at, past_claim, slots_of_claim, claim}
use Rattle.plan.specs.Risk.{count_at, first_claim}
use Rattle.plan.specs.Basic.{basic_premium, excess_charge}
use Rattle.plan.specs.Premium.{bill_rounding, bill_with}
use Rattle.plan.specs.Demand3.{total_with, taxed_expenses_and_losses}
use Rattle.plan.specs.Comparison.{compare, compare_call}
use Rattle.plan.specs.Accidents.{accidents_of}
use Rattle.plan.proofs.Groups.{header, group, Written, four_file, rates, totals, limiteds, stock, four_joining, four_joining_file, scaffold_header, scaffold, scaffold_file, apart_file, single_file, accidents, accidents_file, leading, leading_file, leading_filled_file, leading_nothing, leading_nothing_file, four_rated}
use Rattle.plan.proofs.FieldCases.{by_fields}

abbrev pub AccidentsCase : Type 0
AccidentsCase =
    -- 'A risk with 3,000 and 4,000 in one accident and limit 5,000 counts 5,000', Q shows the 2,000 cut off, and 'The total of the
    -- premiums still includes what the accident limit cuts off': 4,000 of expenses and 7,000 of losses
    Written (scaffold (0 ∷ 1 ∷ [])) scaffold_file
    × (totals scaffold_file ≡ 7000 ∷ 0 ∷ [])
    × (limiteds scaffold_file ≡ 5000 ∷ 0 ∷ [])
    × (rate scaffold_file 8 ≡ rates 2 (pos 1100000) (1100 * 2000) 11000 (7150 ∷ 3850 ∷ []))
    × (total_with scaffold_file (pos 1100000) 2200000 ≡ pos (10000000 * 2 * 11000))
    × (taxed_expenses_and_losses scaffold_file ≡ 10000000 * 2 * 11000)
    × (read scaffold_file 2 2 2 ≡ given (scaffold (0 ∷ 1 ∷ [])))
    × (write (scaffold (0 ∷ 1 ∷ [])) 23 ≡ given scaffold_file)
    -- the same claims in two accidents count 7,000, and so in edition 1
    × Written (group scaffold_header (2 ∷ 0 ∷ []) (3000 ∷ 4000 ∷ [])) single_file
    × Written (scaffold (0 ∷ 0 ∷ [])) apart_file
    × (limiteds apart_file ≡ 7000 ∷ 0 ∷ [])
    × (rate apart_file 8 ≡ rates 2 (pos 1100000) 0 11000 (8250 ∷ 2750 ∷ []))
    × (rate single_file 8 ≡ rates 2 (pos 1100000) 0 11000 (8250 ∷ 2750 ∷ []))
    × (read single_file 2 2 2 ≡ given (group scaffold_header (2 ∷ 0 ∷ []) (3000 ∷ 4000 ∷ [])))
    -- (3,000, 4,000 joined), 1,000 has A 6,000, and (1,000, 4,000 joined), 3,000 has 8,000
    × Written accidents accidents_file
    × (limiteds accidents_file ≡ 5000 ∷ 7000 ∷ 6000 ∷ 8000 ∷ [])
    × (rate accidents_file 16 ≡ rates 4 (pos 5000000) 4400000 38000 (7850 ∷ 10050 ∷ 8950 ∷ 11150 ∷ []))
    × (accidents_of (claim 0 3000 ∷ claim 1 4000 ∷ claim 0 1000 ∷ []) ≡ 7000 ∷ 1000 ∷ [])
    × (accidents_of (claim 0 1000 ∷ claim 1 4000 ∷ claim 0 3000 ∷ []) ≡ 5000 ∷ 3000 ∷ [])
    -- an accident of 0 dollars exists; a claim may join with 0 dollars
    × (accidents_of (claim 0 0 ∷ claim 0 5 ∷ claim 1 0 ∷ claim 1 2 ∷ []) ≡ 0 ∷ 7 ∷ [])
    -- the group of four in edition 2 with no bit set rates as in edition 1
    × Written four_joining four_joining_file
    × (rate four_joining_file 16 ≡ four_rated)
    × (rate four_file 16 ≡ four_rated)
    × (read four_joining_file 4 6 6 ≡ given four_joining)
    × (write four_joining 35 ≡ given four_joining_file)
    -- 19 in each call; after 9 and before 10
    × Written leading leading_file
    × Written leading_nothing leading_nothing_file
    × (rate leading_file 8 ≡ refused 19)
    × (read leading_file 2 2 2 ≡ refused 19)
    × (table leading_file 100 ≡ refused 19)
    × (compare leading_file (stock 0) 8 2 ≡ refused 19)
    × (rate leading_filled_file 8 ≡ refused 9)
    × (rate leading_nothing_file 8 ≡ refused 19)
    -- 'Write .. asks question 2 of the edition first'
    × (write (record { edition = 3; header = header 0 0 0 0 0 0 0 0; counts = []; claims = []; joined = [] }) 0 ≡ refused 2)
    × (write (record { edition = 0; header = header 0 0 0 0 0 0 0 0; counts = []; claims = []; joined = [] }) 0 ≡ refused 2)
    -- 'a list not as long as the claims, an entry above 1, or a 1 given with edition 1 is a No to 15'
    × (write (scaffold (0 ∷ [])) 23 ≡ refused 15)
    × (write (scaffold (0 ∷ 1 ∷ 0 ∷ [])) 23 ≡ refused 15)
    × (write (scaffold (0 ∷ 2 ∷ [])) 23 ≡ refused 15)
    × (write (record { edition = 1; header = scaffold_header; counts = 2 ∷ 0 ∷ []; claims = 3000 ∷ 4000 ∷ []; joined = 0 ∷ 1 ∷ [] }) 23
    ≡ refused 15)
    -- '19 .. after 15 and before 13 in Write'
    × (write (scaffold (1 ∷ 2 ∷ [])) 0 ≡ refused 15)
    × (write leading 0 ≡ refused 19)
    -- 13 asks for the room of the bits too, in edition 1 as well
    × (read scaffold_file 2 2 1 ≡ refused 13)
    × (read single_file 2 2 1 ≡ refused 13)

pub accidents_case : AccidentsCase
unfolding bytes_of number bit field claim_width claim_at past_claim slots_of_claim count_at first_claim limited_of LG LH SX SS ratable basic_premium excess_charge nearest bill_rounding bill_with rated_of rate_call total_with taxed_expenses_and_losses table_call read_call write_call compare_call
accidents_case = by_fields (
  refl,
  refl,
  refl,
  refl,
  refl,
  refl,
  refl,
  refl,
  refl,
  refl,
  refl,
  refl,
  refl,
  refl,
  refl,
  refl,
  refl,
  refl,
  refl,
  refl,
  refl,
  refl,
  refl,
  refl,
  refl,
  refl,
  refl,
  refl,
  refl,
  refl,
  refl,
  refl,
  refl,
  refl,
  refl,
  refl,
  refl,
  refl,
  refl,
  refl,
  refl,
  refl,
  refl,
)
