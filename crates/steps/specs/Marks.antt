-- LG and LH of a group.
use Rattle.std.specs.Prelude.{◌≡◌, List}
use Rattle.plan.specs.Header.{Header}
use Rattle.plan.specs.Losses.{Losses}
use Rattle.plan.specs.Marks.{LG, LH}
use Rattle.steps.specs.declared.balance.MarkDollars.{MarkDollars}

pub record MarksAre (h : Header) (rs : List Losses) (r : MarkDollars) : Type 0 where
  pub maximum : r.maximum ≡ LG h rs
  pub minimum : r.minimum ≡ LH h rs
