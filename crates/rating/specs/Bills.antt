-- The bills of risks by the terms of a group.
use Rattle.std.specs.Prelude.{List, map, ℕ}
use Rattle.plan.specs.Losses.{Losses}
use Rattle.plan.specs.Premium.{bill_with}
use Rattle.steps.specs.Terms.{terms_is}
use Rattle.steps.specs.declared.bill.Terms.{Terms}

-- the bill of each
abbrev pub bills_of : Terms → List Losses → List ℕ
bills_of t rs = map (λ r. bill_with (terms_is t) r.limited) rs
