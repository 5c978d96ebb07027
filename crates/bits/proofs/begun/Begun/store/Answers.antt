-- The bits above those that stay held are the bytes.
use Rattle.std.proofs.Common.{◌≡◌, subst, ℕ, ◌+◌, ◌-◌, ◌*◌, ◌<◌, ◌^◌, arith}
use lib.Pow.{shr_lt}
use Rattle.bits.proofs.begun.Begun.store.Goals as goal

pub put_whole-requires : goal.put_whole-requires
put_whole-requires g c =
    let b = c.args.self in
    let r = c.requires in
    let n = g.row.N in
    let rest : ℕ = b.bits - 8 * n in
    let all : b.bits ≡ 8 * n + rest = omega (arith, r.whole) in
    record {
      few = r.few;
      begins = omega arith;
      next = r.next;
      within = r.within;
      fits = shr_lt (8 * n) rest (subst (λ (k : ℕ). b.held < 2 ^ k) all r.held);
    }
