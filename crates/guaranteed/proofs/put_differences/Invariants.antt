-- The invariant: the differences so far are put and summed.
use Rattle.group.specs.Values.{losses_of}
use Rattle.rating.specs.Bills.{bills_of}
use Rattle.guaranteed.proofs.Differencing.{Differencing}
use Rattle.guaranteed.proofs.put_differences.Given as goal

abbrev pub invariant-loop-i : goal.invariant-loop-i
invariant-loop-i l = Differencing (bills_of l.terms (losses_of l.losses.each.now)) l.cost l.initial.out l.i l.so_far l.out
