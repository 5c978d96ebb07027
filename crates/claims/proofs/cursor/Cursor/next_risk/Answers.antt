-- A risk has as many claims as a count can say, and they begin where one of a file can.
use Rattle.std.proofs.Common.{arith}
use Rattle.laws.proofs.Risks.{count-le, first-claim}
use Rattle.claims.proofs.cursor.Cursor.next_risk.Goals as goal

pub invariant_of-claims : goal.invariant_of-claims
invariant_of-claims c =
    let count = c.count_at-count.ensures in
    let at = c.args.self.place.at in
    record {
      reach = record {
        few = omega (arith, count.is, count-le c.args.file.now.bytes.now at);
        inside = omega (arith, count.next, first-claim at, c.requires);
      };
    }
