-- The entries of a group's losses that no risk has: of 255, those behind its risks.
use Rattle.std.specs.Prelude.{List, ℕ, ◌-◌, replicate}
use Rattle.plan.specs.Sizes.{most_risks}
use Rattle.group.specs.declared.Losses.{Losses}

-- behind n risks: 0 and 0 in each
abbrev pub behind : ℕ → List Losses
behind n = replicate (most_risks - n) (record { total = 0; limited = 0 })
