-- The invariant: the bills so far are put and summed, and the buffer has bytes, as it had at first.
use Rattle.laws.proofs.Fields.{Bytes}
use Rattle.group.specs.Values.{losses_of}
use Rattle.rating.specs.Bills.{bills_of}
use Rattle.rating.proofs.Billing.{Billing}
use Rattle.rating.proofs.rates.bill_group.Given as goal

abbrev pub invariant-loop-risk : goal.invariant-loop-risk
invariant-loop-risk l = record {
  billing : Billing (bills_of l.terms (losses_of l.losses.each.now)) l.initial.out l.risk-index l.place.at l.billed l.out;
  bytes : Bytes l.out;
  first : Bytes l.initial.out;
}
