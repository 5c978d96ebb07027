-- Document 01's cases.
use mathlib.Core.Logic.{◌≢◌}
use mathlib.Core.Path.{◌≡◌, refl}
use mathlib.Core.List.{[], ◌∷◌, ◌++◌}
use Prim.Native.Nat.{ℕ, ◌*◌, ◌+◌, ◌-◌}
use lib.IntN.{pos, negsuc}
use Rattle.plan.specs.Losses.{limited_of, losses_in}
use Rattle.plan.specs.Marks.{LG, LH}
use Rattle.plan.specs.Ratable.{ratable, SX, SS}
use Rattle.plan.specs.Table.{charge, savings, charge_sum, savings_sum}
use Rattle.plan.specs.Call.{given, refused, IfGiven, number_after, BuffersAfter}
use Rattle.plan.specs.Calls.{rate_buffers, rated_of, rate, table, read, write, Buffers, read_with, read_buffers, write_buffers, rate_call, table_call, read_call, write_call}
use Rattle.plan.specs.Arithmetic.{nearest}
use Rattle.plan.specs.Field.{bit, number, field, bytes_of}
use Rattle.plan.specs.Claim.{claim_width, claim_at, past_claim, slots_of_claim}
use Rattle.plan.specs.Risk.{count_at, first_claim}
use Rattle.plan.specs.Basic.{basic_premium, excess_charge}
use Rattle.plan.specs.Premium.{bill_rounding, bill_with, bill_of}
use Rattle.plan.specs.Demand3.{Demand3, total_with, taxed_expenses_and_losses, numbers_in}
use Rattle.plan.proofs.Groups.{header, longer_file, Written, four, four_file, thirds, thirds_file, halves, halves_file, tens, tens_file2000, tens_file1000, limits, limits_file, rates, tables, totals, limiteds, ratables, lg, four_premiums}
use lib.Signed.{◌≤ℤ◌}
use lib.ListN.{length, replicate}
use Rattle.plan.proofs.FieldCases.{by_fields}

-- the group of four, as `retro` prints it: 'group 4 6700000 3300000 33600', then risk number, L, A, K and premium
abbrev pub FourCase : Type 0
FourCase =
    Written four four_file
    × (rate four_file 16 ≡ rates 4 (pos 6700000) 3300000 33600 (4935 ∷ 7245 ∷ 8400 ∷ 13020 ∷ []))
    × (totals four_file ≡ 0 ∷ 4000 ∷ 7000 ∷ 13000 ∷ [])
    × (limiteds four_file ≡ 0 ∷ 4000 ∷ 5000 ∷ 12000 ∷ [])
    × (ratables four_file ≡ 2000 ∷ 4000 ∷ 5000 ∷ 9000 ∷ [])
    -- '1.05 × (8,000 + 24,000) = 33,600', and the total of the unrounded premiums
    × (taxed_expenses_and_losses four_file ≡ 10000000 * 4 * 33600)
    × (total_with four_file (pos 6700000) 3300000 ≡ pos (10000000 * 4 * 33600))
    × (read four_file 4 6 6 ≡ given four)
    × (write four 34 ≡ given four_file)
    × (rate four_file 15 ≡ refused 13)
    -- 8 before 9
    × (rate longer_file 16 ≡ refused 8)

pub four_case : FourCase
unfolding bytes_of number bit field claim_width claim_at past_claim slots_of_claim count_at first_claim limited_of LG LH SX SS ratable basic_premium excess_charge nearest bill_rounding bill_with rated_of rate_call total_with taxed_expenses_and_losses read_call write_call
four_case = by_fields (refl, refl, refl, refl, refl, refl, refl, refl, refl, refl, refl)

-- 'Table on it: r 0 gives 1000 and 0; r 100 gives 321 and 321; r 200 gives 71 and 1071; r 300 gives 0 and 2000.' And r 25, where
-- 812.5 and 62.5 thousandths are exact halves
abbrev pub TableCase : Type 0
TableCase =
    (table four_file 0 ≡ tables 1000 0)
    × (table four_file 100 ≡ tables 321 321)
    × (table four_file 200 ≡ tables 71 1071)
    × (table four_file 300 ≡ tables 0 2000)
    × (table four_file 25 ≡ tables 813 63)

pub table_case : TableCase
unfolding number bit field claim_width claim_at past_claim count_at first_claim limited_of nearest charge_sum savings_sum charge savings table_call
table_case = by_fields (refl, refl, refl, refl, refl)

-- the other groups
abbrev pub OtherCases : Type 0
OtherCases =
    -- 'LG is 0, M is 1,000, billed 0, 0, 0'
    Written thirds thirds_file
    × (lg thirds_file ≡ 0)
    × (rate thirds_file 12 ≡ rates 3 (pos 1000) 0 0 (0 ∷ 0 ∷ 0 ∷ []))
    × (total_with thirds_file (pos 1000) 0 ≡ pos (10000000 * 3 * 1))
    × (taxed_expenses_and_losses thirds_file ≡ 10000000 * 3 * 1)
    -- 'billed 1 and 1, the exact total 1'
    × Written halves halves_file
    × (rate halves_file 8 ≡ rates 2 (pos 1000) 0 2 (1 ∷ 1 ∷ []))
    × (total_with halves_file (pos 1000) 0 ≡ pos (10000000 * 2 * 1))
    × (taxed_expenses_and_losses halves_file ≡ 10000000 * 2 * 1)
    -- 'with c 2.000 refused 12; with c 1.000 M is 0, billed 10 and 10'
    × Written (tens 2000) tens_file2000
    × (rate tens_file2000 8 ≡ refused 12)
    × Written (tens 1000) tens_file1000
    × (rate tens_file1000 8 ≡ rates 2 (pos 0) 0 20 (10 ∷ 10 ∷ []))
    -- 'both count 5,000'
    × Written limits limits_file
    × (limiteds limits_file ≡ 5000 ∷ 5000 ∷ [])
    -- what A lacks, where the limit cut off what L would not lack: LH is 6,000, and L of the third risk 7,000
    × (SS (header 5000 10000 2000 1100 10500 0 900 600) (losses_in four_file) ≡ 6000 + 2000 + 1000)
    -- a negative premium, which question 12 keeps out, is billed as 0
    × (bill_of (negsuc 4) 10 ≡ 0)
    × (lg limits_file ≡ 30000)

pub other_cases : OtherCases
unfolding bytes_of number bit field claim_width claim_at past_claim slots_of_claim count_at first_claim limited_of LG LH SX SS ratable basic_premium excess_charge nearest bill_rounding bill_with rated_of rate_call total_with taxed_expenses_and_losses
other_cases = by_fields (refl, refl, refl, refl, refl, refl, refl, refl, refl, refl, refl, refl, refl, refl, refl, refl, refl, refl)

-- buffers for Read, with so many entries of 9 each
abbrev nines : ℕ → ℕ → ℕ → Buffers
nines counts claims joined = record { counts = replicate counts 9; claims = replicate claims 9; joined = replicate joined 9 }

-- 'Later bytes of the buffer keep their contents': what lent buffers hold after a call on the group of four, each one entry longer than it
-- need be, and the lent length after Write; and that a refusal keeps them
abbrev pub BufferCase : Type 0
BufferCase =
    BuffersAfter (rate four_file 17) (rate_buffers (replicate 17 9) (four_premiums ++ 9 ∷ []))
    × BuffersAfter (read_with four_file (nines 5 7 7)) (read_buffers (nines 5 7 7) (record {
      counts = 0 ∷ 2 ∷ 1 ∷ 3 ∷ 9 ∷ [];
      claims = 3000 ∷ 1000 ∷ 7000 ∷ 5000 ∷ 6000 ∷ 2000 ∷ 9 ∷ [];
      joined = 0 ∷ 0 ∷ 0 ∷ 0 ∷ 0 ∷ 0 ∷ 9 ∷ [];
    }))
    × BuffersAfter (write four 35) (write_buffers (replicate 35 9) (four_file ++ 9 ∷ []))
    × (number_after length (write four 35) 9 ≡ 34)
    × BuffersAfter (rate four_file 15) (rate_buffers (replicate 15 9) (replicate 15 9))
    × BuffersAfter (read_with four_file (nines 3 6 6)) (read_buffers (nines 3 6 6) (nines 3 6 6))
    × BuffersAfter (read_with four_file (nines 4 5 6)) (read_buffers (nines 4 5 6) (nines 4 5 6))
    × BuffersAfter (read_with four_file (nines 4 6 5)) (read_buffers (nines 4 6 5) (nines 4 6 5))
    × BuffersAfter (write four 33) (write_buffers (replicate 33 9) (replicate 33 9))
    × (number_after length (write four 33) 9 ≡ 9)

pub buffer_case : BufferCase
unfolding bytes_of number bit field claim_width claim_at past_claim slots_of_claim count_at first_claim limited_of LG LH SX SS ratable basic_premium excess_charge nearest bill_rounding bill_with rated_of rate_call total_with taxed_expenses_and_losses read_call write_call
buffer_case = by_fields (
  (refl, tt),
  (refl, (refl, (refl, tt))),
  (refl, tt),
  refl,
  (refl, tt),
  (refl, (refl, (refl, tt))),
  (refl, (refl, (refl, tt))),
  (refl, (refl, (refl, tt))),
  (refl, tt),
  refl,
)

-- what demand 3 says of the group of four, field by field, another basic premium being 0; and how near the bills are where each is half a
-- dollar above what is owed, and where none is billed
abbrev pub DemandCase : Type 0
DemandCase =
    (IfGiven (rate four_file 16) (Demand3 four_file 6700000 3300000 33600 four_premiums)
    → (pos 6700000 ≡ pos 6700000)
    × (3300000 ≡ 1100 * 3000)
    × (numbers_in four_premiums 4 ≡ 4935 ∷ 7245 ∷ 8400 ∷ 13020 ∷ [])
    × (33600 ≡ 4935 + 7245 + 8400 + 13020)
    × (pos (10000000 * 4 * 33600) ≡ pos (10000000 * 4 * 33600))
    × (pos 0 ≢ pos 6700000 → pos (10000000 * 4 * 33600 - 4 * 10500 * 6700000) ≢ pos (10000000 * 4 * 33600))
    × (pos (10000000 * 4 * 33600) ≤ℤ pos (10000000 * 4 * 33600 + 5000000 * 4 * 4))
    × (pos (10000000 * 4 * 33600) ≤ℤ pos (10000000 * 4 * 33600 + 5000000 * 4 * 4)))
    × (Demand3 halves_file 1000 0 2 (0 ∷ 0 ∷ 0 ∷ 1 ∷ 0 ∷ 0 ∷ 0 ∷ 1 ∷ []) → pos 40000000 ≤ℤ pos 40000000)
    × (Demand3 thirds_file 1000 0 0 (replicate 12 0) → pos 30000000 ≤ℤ pos 45000000)

pub demand_case : DemandCase
unfolding bytes_of number bit field claim_width claim_at past_claim slots_of_claim count_at first_claim limited_of LG LH SX SS ratable basic_premium excess_charge nearest bill_rounding bill_with rated_of rate_call total_with taxed_expenses_and_losses read_call write_call
demand_case = by_fields (
  λ b. (b.basic_after, b.excess_is, b.premiums_are, b.billed_is, b.total, b.no_other (pos 0), b.not_above, b.not_below),
  λ b. b.not_above,
  λ b. b.not_below,
)
