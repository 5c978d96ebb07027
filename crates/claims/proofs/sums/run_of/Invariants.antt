-- The invariant: the sums so far are of the first 2 × k claims, after k pairs, and the place is where they end.
use Rattle.std.proofs.Common.{◌≡◌, ◌*◌, ◌≤◌, ◌/◌}
use Rattle.plan.specs.Claim.{claims_from, past_claims}
use Rattle.claims.proofs.sums.run_of.Given as goal

abbrev pub invariant-loop : goal.invariant-loop
invariant-loop g l = record {
  within : l.counter ≤ l.fn.span.count / 2;
  place : l.next.at ≡ past_claims l.fn.file l.fn.span.first.at (2 * l.counter);
  are : g.S.Sums.Are (claims_from l.fn.file l.fn.span.first.at (2 * l.counter)) l.fn.limit l.sums;
}
