-- What the functions of Table ask for and give, and its answer as document 01's.
use Rattle.std.specs.Prelude.{◌≡◌, ℕ, ◌+◌, ◌*◌, ◌^◌, ◌≤◌, ◌<◌, Result, Ok, Err}
use Rattle.plan.specs.Sizes.{most_ratio}
use Rattle.plan.specs.Calls as calls
use Rattle.group.specs.declared.Refusal.{Refusal}
use Rattle.tables.specs.declared.Ratios.{Ratios}

-- a ratio x ÷ divisor of at most 6, whose thousandths are computed in 64 bits
pub record ThousandthsBounds (x half divisor : ℕ) : Type 0 where
  pub halves : divisor ≡ 2 * half
  pub some : 0 < half
  pub fits : 1000 * x + half < 2 ^ 63
  pub most : 1000 * x ≤ 10 * most_ratio * divisor

-- charge and savings
abbrev pub ratios_are : Ratios → calls.Tabled
ratios_are t = record { charge = t.charge; savings = t.savings }

-- formula (9) of document 001, S = X + r − 1, of the thousandths that a call of Table gives at r hundredths
abbrev pub OnCurve : Result Ratios Refusal → ℕ → Type 0
OnCurve (Ok t) r = t.savings + 1000 ≡ t.charge + 10 * r
OnCurve (Err refusal) r = Unit {0}
