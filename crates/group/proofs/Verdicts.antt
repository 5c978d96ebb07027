-- What questions come to that are asked one list after another: the first No of both. Assumes nothing.
use Rattle.std.proofs.Common.{◌≡◌, refl, Result, Ok, Err}
use Rattle.std.specs.Result.{result_and}
use Rattle.plan.specs.Questions.{or_else}
use Rattle.group.specs.Refusals.{verdict_is}
use Rattle.group.specs.declared.Refusal.{Refusal}

pub verdict-and : (a b : Result Unit Refusal) → verdict_is (result_and a b) ≡ or_else (verdict_is a) (verdict_is b)
verdict-and (Ok u) b = refl
verdict-and (Err r) b = refl
