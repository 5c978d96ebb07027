-- The cases of document 02, job 6, on the group of four: M ÷ (1,000 × n) is 1,675, and the taxed expenses and losses are 33,600.
use mathlib.Core.Path.{◌≡◌, refl}
use Prim.Native.Nat.{◌*◌, ◌-◌, ◌+◌, ◌<◌, ◌≤◌, ℕ, ◌^◌, min}
use lib.IntN.{ℤ, pos, negsuc, ◌-ℤ◌}
use Rattle.plan.specs.Losses.{limited_of}
use Rattle.plan.specs.Marks.{LG, LH}
use Rattle.plan.specs.Ratable.{ratable, SX, SS}
use Rattle.plan.specs.Call.{refused, IfGiven, IfRefused}
use Rattle.plan.specs.Arithmetic.{nearest}
use Rattle.plan.specs.Field.{bit, number, field}
use Rattle.plan.specs.Claim.{claim_width, claim_at, past_claim}
use Rattle.plan.specs.Risk.{count_at, first_claim}
use Rattle.plan.specs.Basic.{basic_premium, excess_charge}
use Rattle.plan.specs.Demand3.{taxed_expenses_and_losses}
use Rattle.plan.specs.SoldOnPremiums.{premiums_at, halvings, plan_for, Sold, Finished, Unsold, bound_questions, plan_call}
use Rattle.plan.proofs.Groups.{four_file, tens_file2000, crossing_file1, plans, unbounded}
use Rattle.plan.specs.Questions.{passed, first_no}
use Rattle.plan.proofs.FieldCases.{by_fields}

abbrev pub PlanCase : Type 0
PlanCase =
    -- Rate's own greatest and least premium for G and H: Rate's basic, and the total is met exactly, so that more than it would be 1,676
    (plan_for four_file 13020 4935 20 ≡ plans 20 1675 (pos 1674))
    × (premiums_at four_file 13020 4935 1675 ≡ 10000000 * 4 * 33600)
    × (premiums_at four_file 13020 4935 1674 ≡ 10000000 * 4 * 33600 - 2 * 42000000)
    -- bounds that bind below and above: 50 cents over, where two premiums rise, by 1.05 each a dollar
    × (plan_for four_file 12000 5000 20 ≡ plans 20 2130 (pos 2129))
    × (premiums_at four_file 12000 5000 2130 ≡ 10000000 * 4 * 33600 + 20000000)
    -- no bounds in effect
    × (plan_for four_file unbounded 0 20 ≡ plans 20 1400 (pos 1399))
    -- all premiums the same
    × (plan_for four_file 8400 8400 20 ≡ plans 20 0 (negsuc 0))
    -- whole dollars alone would need 3,289, and rounded bills 5,032
    × (plan_for four_file 10250 0 20 ≡ plans 20 3288 (pos 3287))
    × (plan_for four_file 9150 0 20 ≡ plans 20 5033 (pos 5032))
    -- 'A number of trials is given'
    × (plan_for four_file 13020 4935 0 ≡ plans 0 1048575 (negsuc 0))
    × (plan_for four_file 13020 4935 1 ≡ plans 1 524287 (negsuc 0))
    × (plan_for four_file 13020 4935 10 ≡ plans 10 2047 (pos 1023))
    × (plan_for four_file 13020 4935 19 ≡ plans 19 1675 (pos 1673))
    × (plan_for four_file 13020 4935 21 ≡ plans 20 1675 (pos 1674))
    -- '23 no B in the range reaches the total', with no trial too
    × (plan_for four_file 8399 0 20 ≡ refused 23)
    × (plan_for four_file 8399 0 0 ≡ refused 23)
    -- '22 H above G, then 23', after 1 to 10
    × (plan_for four_file 8398 8399 20 ≡ refused 22)
    × (plan_for crossing_file1 0 1 20 ≡ refused 18)
    -- no 12: what Rate refuses by it has a plan
    × (plan_for tens_file2000 unbounded 0 20 ≡ plans 20 0 (negsuc 0))

pub plan_case : PlanCase
unfolding number bit field claim_width claim_at past_claim count_at first_claim limited_of LG LH SX SS ratable basic_premium excess_charge nearest taxed_expenses_and_losses premiums_at halvings plan_call
plan_case = by_fields (refl, refl, refl, refl, refl, refl, refl, refl, refl, refl, refl, refl, refl, refl, refl, refl, refl, refl, refl)

-- what is promised of a plan, field by field: by Rate's own bounds, the most that a finished plan is over by, and of a refusal by 23
abbrev pub SoldCase : Type 0
SoldCase =
    (IfGiven (plan_for four_file 13020 4935 20) (Sold four_file 13020 4935 20 20 1675 (pos 1674))
    → (1675 ≤ 1048575)
    × (10000000 * 4 * 33600 ≤ 10000000 * 4 * 33600)
    × (10000000 * 4 * 33600 - 2 * 42000000 < 10000000 * 4 * 33600)
    × (20 ≡ min 20 20)
    × (pos 1675 -ℤ pos 1674 ≡ pos (2 ^ 0))
    × (20 ≤ 20 → Finished 1675 (pos 1674))
    × ((a b : ℕ) → a ≤ b → premiums_at four_file 13020 4935 a ≤ premiums_at four_file 13020 4935 b)
    × (Finished 1675 (pos 1674) → (b : ℕ) → b < 1675 → premiums_at four_file 13020 4935 b < 10000000 * 4 * 33600))
    × (Sold four_file unbounded 2500 20 20 1349 (pos 1348)
    → Finished 1349 (pos 1348) → 0 < 1349 → 1344124000000 ≤ 1344000000000 + 168000000)
    × (IfRefused (plan_for four_file 8399 0 20) (Unsold four_file 8399 0)
    → (◌≡◌ {A = ℕ} 23 23 → first_no (bound_questions four_file 8399 0) ≡ passed)
    × (◌≡◌ {A = ℕ} 23 23 → (b : ℕ) → b ≤ 1048575 → premiums_at four_file 8399 0 b < 10000000 * 4 * 33600)
    × (first_no (bound_questions four_file 8399 0) ≡ passed → ◌≡◌ {A = ℕ} 23 23))
    × ((best : ℕ) (short : ℤ) → Finished best short → pos best -ℤ short ≡ pos 1)
    -- of 10 trials 10 are made
    × (Sold four_file 13020 4935 10 10 2047 (pos 1023) → ◌≡◌ {A = ℕ} 10 10)

pub sold_case : SoldCase
unfolding number bit field claim_width claim_at past_claim count_at first_claim limited_of LG LH SX SS ratable basic_premium excess_charge nearest taxed_expenses_and_losses premiums_at halvings plan_call
sold_case = by_fields (
  λ b. (b.in_range, b.best_reaches, b.short_falls, b.made_is, b.distance_is, b.finishes, b.never_falls, b.least),
  λ b. b.over_by,
  λ b. (b.passed_before, b.none, b.only),
  λ best short f. f,
  λ b. b.made_is,
)
