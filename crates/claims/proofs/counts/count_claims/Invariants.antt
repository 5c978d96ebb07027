-- The invariant: what was counted is the number of claims of the first k risks, each was looked at whether its first claim opens an
-- accident, and the place is where they end.
use Prim.Native.Nat.{◌≤◌}
use Rattle.claims.proofs.Counting.{Counting}
use Rattle.claims.proofs.counts.count_claims.Given as goal

abbrev pub invariant-loop : goal.invariant-loop
invariant-loop l = (l.counter ≤ l.risks) × Counting l.file.bytes.now l.counter l.next.at l.claims l.each_opens
