-- What a function of the libraries says of a call, whatever the call gives: its own answer, and each lent buffer, by the call's answer.
use Rattle.std.specs.Prelude.{◌≡◌, List, Result}
use Rattle.plan.specs.Call.{Answer, giving, LentBuffer, BuffersAfter}
use Rattle.group.specs.Refusals.{answer_is}
use Rattle.group.specs.declared.Refusal.{Refusal}

-- a is the call's answer. `part` is what the function gives of it beside the buffers, and `is` reads that off the code's value
pub record Says {A B C : Type 0} (a : Answer A) (part : A → B) (is : C → B) (r : Result C Refusal) (buffers : List (LentBuffer A)) : Type 0 where
  pub answer : answer_is is r ≡ giving part a
  pub buffers_after : BuffersAfter a buffers
