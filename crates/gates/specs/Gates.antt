-- What the gate of questions 1 to 12 gives; 18 and 19 are in their places, and 11 is not asked.
use Rattle.std.specs.Prelude.{◌≡◌, List, ℕ}
use Rattle.plan.specs.Header.{header_of}
use Rattle.plan.specs.Losses.{losses_in}
use Rattle.plan.specs.Premium.{terms_of}
use Rattle.plan.specs.Questions.{first_no, rating_questions}
use Rattle.plan.specs.Call.{answer}
use Rattle.group.specs.Refusals.{answer_is}
use Rattle.group.specs.Values.{header_is, LossesAre}
use Rattle.groupfile.specs.Opening.{RiskLayoutIs}
use Rattle.steps.specs.Terms.{terms_is}
use Rattle.groupfile.specs.declared.opening.Opened.{Opened}
use Rattle.steps.specs.declared.bill.Terms.{Terms}

-- of the file s: its terms, or the first No of 1 to 12; and, whatever that is, the header values, where the risks lie, and step 1's losses
pub record RatingOpenedIs (s : List ℕ) (r : Opened Terms) : Type 0 where
  pub verdict : answer_is terms_is r.verdict ≡ answer (first_no (rating_questions s)) (terms_of (header_of s) (losses_in s))
  pub header : header_is r.header ≡ header_of s
  pub layout : RiskLayoutIs s r.layout
  pub losses : LossesAre (losses_in s) r.losses
