-- The walk is that of the file's own n and loss limit, from the header's end on: after the last risk its running sums are SL and
-- SA, and it is at the file's end.
use Rattle.std.proofs.Common.{ap, subst, subst₂, List, ℕ, arith}
use Rattle.plan.specs.Header as header
use Rattle.laws.proofs.FileSizes.{risks-le}
use Rattle.losses.proofs.RunningSums.{total-is-all, limited-is-all}
use Rattle.losses.specs.Walks.{WalkIs}
use Rattle.groupfile.proofs.opening.open.Goals as goal

pub walk-walked-requires : goal.walk-walked-requires
walk-walked-requires c =
    let e = c.header_of-header.ensures in
    (omega (arith, e.risks, risks-le c.args.file.now), e.next)

pub returns : goal.returns
returns c =
    let s = c.args.file.now in
    let e = c.header_of-header.ensures in
    let walk = subst (λ (t : List ℕ). WalkIs t c.header_of-header.result.risks c.header_of-header.result.values.loss_limit c.walk-walked.result)
    c.new-claim_file.ensures c.walk-walked.ensures in
    let l = subst₂ (λ (n l : ℕ). WalkIs s n l c.walk-walked.result) e.risks (ap (λ (x : header.Header). x.loss_limit) e.values) walk in
    record {
      verdict = c.file_verdict.ensures;
      header = e.values;
      layout = record { edition = e.edition; first = e.next; claims = l.sums.claims };
      losses = record { each = l.each; total = total-is-all l.sums; limited = limited-is-all l.sums };
    }
