-- Each field is put at the place that the put before it hands on. Alike in put_first, of other fields: the bytes between two puts are
-- in no goal, and no search was found that finds them, so each put is named.
use Rattle.bits.proofs.Laws.{wrote_none, wrote-more}
use Rattle.putting.proofs.put_last.Goals as goal

pub returns : goal.returns
returns c =
    wrote-more (c.put-kind.ensures.next, c.put-kind.ensures.put)
    (wrote-more (c.put-maximum.ensures.next, c.put-maximum.ensures.put)
    (wrote-more (c.put-minimum.ensures.next, c.put-minimum.ensures.put)
    (wrote-more (c.put-n.ensures.next, c.put-n.ensures.put)
    (wrote-more (c.put-spare.ensures.next, c.put-spare.ensures.put)
    (wrote-more (c.put.ensures.next, c.put.ensures.put) (wrote_none _ _))))))
