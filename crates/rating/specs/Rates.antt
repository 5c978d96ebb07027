-- Rate's answer as document 01's.
use Rattle.std.specs.Prelude.{List, ℕ, ℤ, pos, length, Result}
use Rattle.plan.specs.Arithmetic.{sum}
use Rattle.plan.specs.Losses.{Losses}
use Rattle.plan.specs.Calls as calls
use Rattle.plan.specs.Calls.{rate, rate_buffers}
use Rattle.group.specs.Says.{Says}
use Rattle.group.specs.declared.Refusal.{Refusal}
use Rattle.steps.specs.declared.bill.Terms.{Terms}
use Rattle.rating.specs.Bills.{bills_of}
use Rattle.rating.specs.declared.rates.GroupFigures.{GroupFigures}

-- what Rate gives beside the premiums: n, M, Q and the sum billed
pub record Figures : Type 0 where
  pub risks : ℕ
  pub basic : ℤ
  pub excess : ℕ
  pub billed : ℕ

abbrev pub figures_of : calls.Rated → Figures
figures_of r = record { risks = r.risks; basic = r.basic; excess = r.excess; billed = r.billed }

-- the figures of a group by its terms: theirs, and the sum of its bills
abbrev pub figures_by : Terms → List Losses → GroupFigures
figures_by t rs = record { risks = t.risks; basic = t.basic; excess = t.excess; billed = sum (bills_of t rs) }

-- the code's figures
abbrev pub figures_are : GroupFigures → Figures
figures_are g = record { risks = g.risks; basic = pos g.basic; excess = g.excess; billed = g.billed }

-- a call of Rate on the file s, whose output buffer held `old` and holds `new` after it
abbrev pub RateSays : List ℕ → List ℕ → Result GroupFigures Refusal → List ℕ → Type 0
RateSays s old r new = Says (rate s (length old)) figures_of figures_are r (rate_buffers old new)
