-- The gate's verdict, then room enough or not, then the buffers filled: each return has the first No of Read's questions.
use Rattle.std.proofs.Common.{refl, sym, ap, ◌∙◌}
use Rattle.std.proofs.lemmas.Result.{err_from_is_err_and}
use Rattle.group.specs.Refusals.{verdict_is}
use Rattle.reading.specs.Reading.{buffers}
use Rattle.reading.proofs.Answers.{verdict, refused_says, few-counts, few-claims, few-bits, risks-room, read-says}
use Rattle.reading.proofs.read.Goals as goal

pub returns-then-counts-risks : goal.returns-then-counts-risks
returns-then-counts-risks c = few-counts _ _ c.open_outline-verdict.ensures c.in_ok-verdict.was c.if-counts-risks.true

pub returns-then-claims-layout : goal.returns-then-claims-layout
returns-then-claims-layout c =
    few-claims _ _ c.open_outline-verdict.ensures c.in_ok-verdict.was c.if-counts-risks.false c.if-claims-layout.true

pub returns-then-joined-layout : goal.returns-then-joined-layout
returns-then-joined-layout c =
    few-bits _ _ c.open_outline-verdict.ensures c.in_ok-verdict.was c.if-counts-risks.false c.if-claims-layout.false c.if-joined-layout.true

pub read_risks-requires : goal.read_risks-requires
read_risks-requires c =
    risks-room c.args.file.now (buffers c.args.counts.now c.args.claims.now c.args.joined.now) c.open_outline-verdict.ensures
    c.in_ok-verdict.was c.if-counts-risks.false c.if-claims-layout.false c.if-joined-layout.false c.new-claim_file.ensures

pub returns-in_err-verdict : goal.returns-in_err-verdict
returns-in_err-verdict c =
    let s = c.args.file.now in
    let old = buffers c.args.counts.now c.args.claims.now c.args.joined.now in
    let p = err_from_is_err_and c.from_residual.result c.from_residual.ensures.1 in
    rw (p.1, p.2)
    (refused_says s old _ (verdict s old (sym c.open_outline-verdict.ensures.verdict ∙ ap verdict_is c.in_err-verdict.was) refl))

pub returns : goal.returns
returns c =
    let stored = c.read_risks.ensures in
    read-says c.args.file.now (buffers c.args.counts.now c.args.claims.now c.args.joined.now) c.open_outline-verdict.ensures
    c.in_ok-verdict.was c.if-counts-risks.false c.if-claims-layout.false c.if-joined-layout.false c.new-claim_file.ensures
    stored.counted stored.claimed stored.joining
