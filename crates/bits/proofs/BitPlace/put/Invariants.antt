-- The invariant: all bits of the value but its `left` lowest are put, and `at` is where they ended. The measure
-- is the bits left.
use Rattle.bits.proofs.Parts.{PutSoFar}
use Rattle.bits.proofs.BitPlace.put.Given as goal

abbrev pub invariant-loop-left : goal.invariant-loop-left
invariant-loop-left l = PutSoFar l.initial.out l.initial.at l.width l.value l.out l.at l.left

abbrev pub decreases-loop-left : goal.decreases-loop-left
decreases-loop-left l = l.left
