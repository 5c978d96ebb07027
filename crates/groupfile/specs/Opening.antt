-- What opening a file gives, whichever gate was asked.
use Rattle.std.specs.Prelude.{◌≡◌, List, ℕ}
use Rattle.plan.specs.Arithmetic.{sum}
use Rattle.plan.specs.Header.{header_of, header_bits, edition_of, risk_count}
use Rattle.plan.specs.File.{counts_of}
use Rattle.plan.specs.Losses.{losses_in}
use Rattle.plan.specs.Questions.{Question, first_no}
use Rattle.group.specs.Refusals.{verdict_is}
use Rattle.group.specs.Values.{header_is, LossesAre}
use Rattle.groupfile.specs.declared.opening.RiskLayout.{RiskLayout}
use Rattle.groupfile.specs.declared.opening.Opened.{Opened}
use Rattle.groupfile.specs.declared.opening.Outline.{Outline}

-- the risks of the file s: the edition in which they lie, where they begin, and how many claims there are
pub record RiskLayoutIs (s : List ℕ) (r : RiskLayout) : Type 0 where
  pub edition : r.edition ≡ edition_of s
  pub first : r.first.at ≡ header_bits
  pub claims : r.claims ≡ sum (counts_of s)

-- of the file s: the gate's verdict and, whatever it is, the header values, where the risks lie, and step 1's losses
pub record OpenedIs (gate : List Question) (s : List ℕ) (r : Opened Unit) : Type 0 where
  pub verdict : verdict_is r.verdict ≡ first_no gate
  pub header : header_is r.header ≡ header_of s
  pub layout : RiskLayoutIs s r.layout
  pub losses : LossesAre (losses_in s) r.losses

-- the same without the losses: n in their place
pub record OutlineIs (gate : List Question) (s : List ℕ) (r : Outline) : Type 0 where
  pub verdict : verdict_is r.verdict ≡ first_no gate
  pub header : header_is r.header ≡ header_of s
  pub risks : r.risks ≡ risk_count s
  pub layout : RiskLayoutIs s r.layout
