-- The count's field, and then the claims' fields.
use Rattle.bits.proofs.Laws.{wrote-more}
use Rattle.putting.proofs.put_risk.Goals as goal

pub returns : goal.returns
returns c = wrote-more (c.put-next.ensures.next, c.put-next.ensures.put) c.put_claims.ensures
