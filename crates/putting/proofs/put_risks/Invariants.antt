-- The invariant: of the risks, those from the turn's on are left to be put, with the claims that are left.
use Rattle.group.specs.Edition.{edition_number}
use Rattle.putting.specs.Claims.{claims_are}
use Rattle.putting.proofs.Risks.{Risks}
use Rattle.putting.proofs.put_risks.Given as goal

abbrev pub invariant-loop-count : goal.invariant-loop-count
invariant-loop-count l =
    Risks l.fn.out l.fn.place.at (edition_number l.claims.edition) l.counts (claims_are l.claims) l.out l.next.at l.count-index
    l.claims_left
