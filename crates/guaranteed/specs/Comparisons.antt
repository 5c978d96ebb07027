-- The call's answer as document 02's.
use Rattle.std.specs.Prelude.{List, ℕ, ℤ, pos, length, Result}
use Rattle.plan.specs.Discount.{Layer}
use Rattle.plan.specs.Comparison as comparison
use Rattle.plan.specs.Comparison.{NumbersGiven, numbers_of, compare_buffers}
use Rattle.group.specs.Says.{Says}
use Rattle.group.specs.declared.Refusal.{Refusal}
use Rattle.guaranteed.specs.declared.Comparison.{Comparison}

-- the numbers of the code's answer
abbrev pub numbers_given : Comparison → NumbersGiven
numbers_given g = record {
  risks = g.rated.risks;
  basic = pos g.rated.basic;
  excess = g.rated.excess;
  billed = g.rated.billed;
  discount = g.discount;
  guaranteed = g.guaranteed;
  difference = g.difference;
}

-- a call on the file s by the schedule ls, whose buffers held `old_premiums` and `old_differences` and hold `premiums` and
-- `differences` after it
abbrev pub CompareSays : List ℕ → List Layer → List ℕ → List ℤ → Result Comparison Refusal → List ℕ → List ℤ → Type 0
CompareSays s ls old_premiums old_differences r premiums differences =
    Says (comparison.compare s ls (length old_premiums) (length old_differences)) numbers_of numbers_given r
    (compare_buffers old_premiums old_differences premiums differences)
