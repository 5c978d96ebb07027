-- The terms of a plan as the code has them, the total of its premiums, and whether it reaches.
use Rattle.std.specs.Prelude.{Bool, List, ℕ, leb}
use Rattle.plan.specs.Arithmetic.{sum_of}
use Rattle.plan.specs.Losses.{Losses}
use Rattle.plan.specs.SoldOnPremiums as sold_on_premiums
use Rattle.plan.specs.SoldOnPremiums.{held_premium}
use Rattle.sold.specs.declared.premiums.PlanTerms.{PlanTerms}

abbrev pub plan_terms_is : PlanTerms → sold_on_premiums.PlanTerms
plan_terms_is t = record {
  risks = t.risks;
  conversion = t.conversion;
  tax = t.tax;
  excess = t.excess;
  maximum = t.maximum;
  minimum = t.minimum;
}

-- the total of the premiums of risks by their limited losses and a basic premium
abbrev pub premiums_by : PlanTerms → List Losses → ℕ → ℕ
premiums_by t losses basic = sum_of (λ x. held_premium (plan_terms_is t) basic x.limited) losses

-- ---- whether a basic premium reaches, of the terms, the losses and what is to be paid

abbrev pub reaches_by : PlanTerms → List Losses → ℕ → ℕ → Bool
reaches_by t losses owed basic = leb owed (premiums_by t losses basic)
