-- The cases of document 02, job 1.
use mathlib.Core.Path.{◌≡◌, refl}
use mathlib.Core.List.{[], ◌∷◌, ◌++◌}
use Rattle.plan.specs.Losses.{limited_of}
use Rattle.plan.specs.Marks.{LG, LH}
use Rattle.plan.specs.Ratable.{ratable, SX, SS}
use Rattle.plan.specs.Call.{given, refused, giving, IfGiven, BuffersAfter}
use Rattle.plan.specs.Calls.{rated_of, rate}
use Rattle.plan.specs.Arithmetic.{nearest}
use Rattle.plan.specs.Field.{bit, number, field, bytes_of}
use Rattle.plan.specs.Claim.{claim_width, claim_at, past_claim}
use Rattle.plan.specs.Risk.{count_at, first_claim}
use Rattle.plan.specs.Basic.{basic_premium, excess_charge}
use Rattle.plan.specs.Premium.{bill_rounding, bill_with}
use Rattle.plan.specs.Discount.{discount_sum, discount, guaranteed_cost, widths_pass}
use Rattle.plan.specs.Comparison.{comparison_of, compare, numbers_of, Beside, Sized, compare_buffers, compare_call}
use Rattle.plan.proofs.Groups.{four_file, tens_file2000, layer, stock, four_beside, four_numbers, four_premiums, four_differences, rates}
use Prim.Native.Nat.{◌+◌, ℕ, ◌*◌, ◌≤◌}
use lib.IntN.{negsuc, pos, ◌-ℤ◌}
use lib.Signed.{◌≤ℤ◌, ◌<ℤ◌}
use lib.ListN.{replicate}
use mathlib.Core.Bool.{true}
use Rattle.plan.proofs.FieldCases.{by_fields}

abbrev pub GuaranteedCase : Type 0
GuaranteedCase =
    -- 'gives 13,505 on 125,000, so 111,495'
    (discount (stock 0) 125000 ≡ 13505)
    × (guaranteed_cost (stock 0) 125000 ≡ 111495)
    -- two quarters of a dollar are an exact half, which goes up to 1; rounded in each layer they would be 0
    × (discount (layer 1 250 ∷ layer 1 250 ∷ layer 1 0 ∷ layer 0 0 ∷ []) 2 ≡ 1)
    -- an exact half upward
    × (discount (layer 1 500 ∷ layer 1 0 ∷ layer 1 0 ∷ layer 0 0 ∷ []) 1 ≡ 1)
    -- what reaches the last layer, whose width is not looked at
    × (discount (stock 0) 600000 ≡ 75155)
    -- the largest premium: all of it, and widths that add up to more than 32 bits
    × (discount (layer 1 1000 ∷ layer 2 1000 ∷ layer 3 1000 ∷ layer 0 1000 ∷ []) 4194303 ≡ 4194303)
    × (discount (layer 4294967295 100 ∷ layer 4294967295 200 ∷ layer 4294967295 300 ∷ layer 0 400 ∷ []) 4194303 ≡ 419430)
    × (compare four_file (stock 0) 16 4 ≡ four_beside)
    × (compare four_file (stock 4294967295) 16 4 ≡ four_beside)
    × (giving numbers_of four_beside ≡ given four_numbers)
    -- without a layer
    × (discount_sum [] 5 ≡ 0)
    × (discount [] 5 ≡ 0)
    × (widths_pass [] ≡ true)
    -- a width of 1 passes
    × (widths_pass (layer 1 0 ∷ layer 1 0 ∷ layer 1 0 ∷ layer 0 0 ∷ []) ≡ true)
    -- the questions after 12, in their order
    × (compare four_file (stock 0) 15 4 ≡ refused 13)
    × (compare four_file (stock 0) 16 3 ≡ refused 13)
    × (compare four_file (layer 0 1001 ∷ layer 1 0 ∷ layer 1 0 ∷ layer 1 0 ∷ []) 15 4 ≡ refused 13)
    × (compare four_file (layer 0 0 ∷ layer 1 0 ∷ layer 1 0 ∷ layer 1 1001 ∷ []) 16 4 ≡ refused 16)
    × (compare four_file (layer 1 1000 ∷ layer 1 1000 ∷ layer 0 1000 ∷ layer 1 1000 ∷ []) 16 4 ≡ refused 17)
    × (compare tens_file2000 (layer 0 1001 ∷ layer 0 1001 ∷ layer 0 1001 ∷ layer 0 1001 ∷ []) 0 0 ≡ refused 12)

pub guaranteed_case : GuaranteedCase
unfolding number bit field claim_width claim_at past_claim count_at first_claim limited_of LG LH SX SS ratable basic_premium excess_charge nearest bill_rounding bill_with rated_of discount guaranteed_cost comparison_of compare_call
guaranteed_case = by_fields (refl, refl, refl, refl, refl, refl, refl, refl, refl, refl, refl, refl, refl, refl, refl, refl, refl, refl, refl, refl)

-- its two buffers after the call, each longer than it need be; and after refusals, which keep them
abbrev pub BesideBufferCase : Type 0
BesideBufferCase =
    BuffersAfter (compare four_file (stock 0) 18 5)
    (compare_buffers (replicate 18 9) (replicate 5 (pos 9)) (four_premiums ++ 9 ∷ 9 ∷ []) (four_differences ++ pos 9 ∷ []))
    × BuffersAfter (compare four_file (stock 0) 16 3)
    (compare_buffers (replicate 16 9) (replicate 3 (pos 9)) (replicate 16 9) (replicate 3 (pos 9)))
    × BuffersAfter (compare four_file (stock 0) 15 4)
    (compare_buffers (replicate 15 9) (replicate 4 (pos 9)) (replicate 15 9) (replicate 4 (pos 9)))

pub beside_buffer_case : BesideBufferCase
unfolding bytes_of number bit field claim_width claim_at past_claim count_at first_claim limited_of LG LH SX SS ratable basic_premium excess_charge nearest bill_rounding bill_with rated_of discount guaranteed_cost comparison_of compare_call
beside_buffer_case = by_fields ((refl, (refl, tt)), (refl, (refl, tt)), (refl, (refl, tt)))

-- what the call promises beside Rate, of the group of four, field by field
abbrev pub BesideCase : Type 0
BesideCase =
    IfGiven (compare four_file (stock 0) 16 4) (Beside four_file four_numbers four_premiums four_differences)
    → (545 ≤ 10000)
    × (9455 + 545 ≡ 10000)
    × (four_differences ≡ four_differences)
    × (negsuc 4194302 ≤ℤ negsuc 4519)
    × (negsuc 4519 <ℤ pos 2147483648)
    × Sized (negsuc 2209 ∷ negsuc 1054 ∷ pos 3565 ∷ [])
    × (negsuc 1069547264 ≤ℤ negsuc 4219)
    × (negsuc 4219 <ℤ pos 547608330240)
    × (negsuc 4219 ≡ negsuc 4219)
    × (negsuc 4219 ≡ pos 33600 -ℤ pos (4 * 9455))
    × ((room : ℕ) → 4 * 4 ≤ room → rate four_file room ≡ rates 4 (pos 6700000) 3300000 33600 (4935 ∷ 7245 ∷ 8400 ∷ 13020 ∷ []))

pub beside_case : BesideCase
unfolding number bit field claim_width claim_at past_claim count_at first_claim limited_of LG LH SX SS ratable basic_premium excess_charge nearest bill_rounding bill_with rated_of discount guaranteed_cost comparison_of compare_call
beside_case = by_fields (λ b. (
  b.discount_most,
  b.less_discount,
  b.differences_are,
  b.sized.0,
  b.sized.1,
  b.sized.2,
  b.sum_least,
  b.sum_most,
  b.summed,
  b.billed_less_cost,
  b.as_rated,
))
