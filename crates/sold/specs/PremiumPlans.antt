-- A plan sold on premiums as the code gives it, as document 02's, and what holds of a call.
use Rattle.std.specs.Prelude.{Bool, List, ℕ, ℤ, pos, negsuc, Option, Some, None, Result, MatchResult}
use Rattle.plan.specs.SoldOnPremiums as sold_on_premiums
use Rattle.plan.specs.SoldOnPremiums.{Sold, Unsold}
use Rattle.group.specs.Refusals.{number_of}
use Rattle.group.specs.Values.{losses_of}
use Rattle.group.specs.declared.Refusal.{Refusal}
use Rattle.sold.specs.Premiums.{reaches_by}
use Rattle.sold.specs.declared.premiums.Target.{Target}
use Rattle.sold.specs.declared.plans.PlanFound.{PlanFound}

-- whether a basic premium reaches
abbrev pub reached_by : Target → ℕ → Bool
reached_by t basic = reaches_by t.terms (losses_of t.losses.now) t.owed basic

-- the largest known to fall short as a whole number, '−1 if none'
abbrev pub short_is : Option ℕ → ℤ
short_is (Some b) = pos b
short_is None = negsuc 0

abbrev pub plan_is : PlanFound → sold_on_premiums.Plan
plan_is p = record { made = p.made; best = p.best; short = short_is p.short_of }

-- what holds of a call on the file s with G, H and a number of trials
abbrev pub SoldBy : Result PlanFound Refusal → List ℕ → ℕ → ℕ → ℕ → Type 0
SoldBy r s g h trials = MatchResult r (λ p. Sold s g h trials p.made p.best (short_is p.short_of)) (λ e. Unsold s g h (number_of e))
