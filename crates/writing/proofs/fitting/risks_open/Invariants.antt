-- The invariant: the risks before the turn's were found to open, and those from it on, with the bits that are left, do, where all do,
-- whatever the dollars.
use Rattle.writing.proofs.Opening.{Opening}
use Rattle.writing.proofs.fitting.risks_open.Given as goal

abbrev pub invariant-loop-count : goal.invariant-loop-count
invariant-loop-count l = Opening l.counts l.joined l.all l.count-index l.rest
