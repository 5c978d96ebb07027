-- L, A and K of each risk, as equations with steps 1 and 3.
use Rattle.std.specs.Prelude.{◌≡◌, List, [], map, ℕ}
use Rattle.plan.specs.Header.{header_of}
use Rattle.plan.specs.Losses.{losses_in}
use Rattle.plan.specs.Ratable.{ratable}
use Rattle.plan.specs.Questions.{Verdict, passed, failed, first_no, rating_questions}
use Rattle.group.specs.Values.{LossesAre}
use Rattle.rating.specs.declared.details.Details.{Details}

-- K of each risk of a file that passes 1 to 12, with 18 and 19 in their places and without 11; of another file none
abbrev pub ratables_after : Verdict → List ℕ → List ℕ
ratables_after passed s = map (ratable (header_of s) (losses_in s)) (losses_in s)
ratables_after (failed k) s = []

-- of the file s: L and A of each risk, and K of each where these questions pass
pub record DetailsAre (s : List ℕ) (r : Details) : Type 0 where
  pub losses : LossesAre (losses_in s) r.losses
  pub ratables : r.ratables.items ≡ ratables_after (first_no (rating_questions s)) s
