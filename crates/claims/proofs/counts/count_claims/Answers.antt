-- A turn counts one risk more: its head is where the ones before it end, and its claims are passed by their number.
use Rattle.std.proofs.Common.{arith}
use Rattle.laws.proofs.Risks.{count-le}
use Rattle.claims.proofs.Counting.{counting-place, counting-most, counting_more}
use Rattle.claims.proofs.counts.count_claims.Goals as goal

pub head_at-head-requires : goal.head_at-head-requires
head_at-head-requires c =
    omega (arith, counting-place c.loop.invariant.1, c.loop-test.true, c.requires.0)

pub overflow_add-claims : goal.overflow_add-claims
overflow_add-claims c =
    omega (
      arith,
      counting-most c.loop.invariant.1,
      c.loop-test.true,
      c.requires.0,
      c.head_at-head.ensures.count,
      count-le c.args.file.now.bytes.now c.loop.next.at,
    )

pub loop-preserved : goal.loop-preserved
loop-preserved c =
    let f = c.args.file.now in
    (omega arith, counting_more c.loop.invariant.1 f.edition c.head_at-head.ensures f.lie c.end-next.ensures)
