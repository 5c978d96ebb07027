-- Of the risks passed the counts fill the entries for them, and claims and bits the first entries of their buffers, and the place is
-- where they end.
use Rattle.reading.proofs.Storing.{Storing}
use Rattle.reading.proofs.read_risks.Given as goal

abbrev pub invariant-loop-entry : goal.invariant-loop-entry
invariant-loop-entry l =
    Storing l.file.bytes.now l.fn.place.at l.initial.entry-items l.initial.claims l.initial.joined l.entry-index l.next.place.at l.from
    l.entry-items l.claims l.joined
