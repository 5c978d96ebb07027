-- Each field is put at the place that the put before it hands on. Alike in put_last, of other fields: the bytes between two puts are
-- in no goal, and no search was found that finds them, so each put is named.
use mathlib.Core.Path.{subst}
use Prim.Native.Nat.{ℕ}
use Rattle.bits.specs.Runs.{Wrote}
use Rattle.bits.proofs.Laws.{wrote_none, wrote-more}
use Rattle.group.specs.Values.{header_is}
use Rattle.putting.specs.Putting.{first_slots}
use Rattle.putting.proofs.put_first.Goals as goal

pub returns : goal.returns
returns c =
    let a = c.args in
    subst (λ (n : ℕ). Wrote a.out.now 0 (first_slots n (header_is a.h)) c.put.new.out c.put.result.at) c.from.ensures
    (wrote-more (c.put-limit.ensures.next, c.put-limit.ensures.put)
    (wrote-more (c.put-premium.ensures.next, c.put-premium.ensures.put)
    (wrote-more (c.put-expense.ensures.next, c.put-expense.ensures.put)
    (wrote-more (c.put-conversion.ensures.next, c.put-conversion.ensures.put)
    (wrote-more (c.put.ensures.next, c.put.ensures.put) (wrote_none _ _))))))
