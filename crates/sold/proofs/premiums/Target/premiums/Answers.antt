-- The chain's sum is that over the losses as document 01 has them.
use Rattle.std.proofs.Common.{◌≡◌, ◌∙◌, List, ℕ, map, sum, rules}
use Rattle.plan.specs.SoldOnPremiums.{held_premium}
use Rattle.group.specs.Values.{losses_of}
use Rattle.group.specs.declared.Losses.{Losses}
use Rattle.steps.proofs.Laws.{sum-limited}
use Rattle.sold.specs.Premiums.{plan_terms_is, premiums_by}
use Rattle.sold.specs.declared.premiums.PlanTerms.{PlanTerms}
use Rattle.sold.proofs.premiums.Target.premiums.Goals as goal

total_is : {total : ℕ} (t : PlanTerms) (xs : List Losses) (basic : ℕ)
    → total ≡ sum (map (λ (x : Losses). held_premium (plan_terms_is t) basic x.limited) xs) → total ≡ premiums_by t (losses_of xs) basic
total_is t xs basic e = e ∙ sum-limited (held_premium (plan_terms_is t) basic) xs

pub returns : goal.returns
returns c = total_is c.args.self.now.terms c.args.self.now.losses.now c.args.basic.dollars (search rules)
