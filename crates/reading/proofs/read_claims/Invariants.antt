-- The claims passed are stored, their dollars in the one buffer and their bits in the other; the others are left, and end where all do.
use Rattle.std.proofs.Common.{◌≡◌, ◌+◌}
use Rattle.plan.specs.Claim.{dollars}
use Rattle.claims.specs.Cursor.{own_claims, past_own}
use Rattle.reading.specs.Reading.{bit}
use Rattle.reading.proofs.Storing.{Rest, Parts}
use Rattle.reading.proofs.read_claims.Given as goal

abbrev pub invariant-loop-i : goal.invariant-loop-i
invariant-loop-i l =
    let s = l.file.bytes.now in
    let all = own_claims s l.fn.cursor in
    record {
      left : l.i + l.next.left ≡ l.fn.cursor.left;
      rest : Rest all l.i (own_claims s l.next);
      past : past_own s l.fn.cursor ≡ past_own s l.next;
      dollars : Parts dollars all l.initial.claims l.i l.claims;
      bits : Parts bit all l.initial.joined l.i l.joined;
    }
