-- The invariant: the fields of the claims behind the pairs passed are left to be put, with fewer than eight bits held.
use Rattle.std.proofs.Common.{length, not, eqb, ◌*◌}
use Rattle.putting.proofs.Run.{Over, Left}
use Rattle.putting.specs.Edition.{edition_by}
use Rattle.putting.proofs.runs.put_run.Given as goal

abbrev pub invariant-loop-bit_pair : goal.invariant-loop-bit_pair
invariant-loop-bit_pair g l = record {
  over : Over l.claims.joined.now l.claims.dollars.now l.initial.bit_pair-iterator;
  left : Left (edition_by (not (eqb g.row.JOINS 0))) l.fn.out l.fn.place.at l.claims.joined.now l.claims.dollars.now l.out l.begun 8
      (2 * length l.yielded);
}
