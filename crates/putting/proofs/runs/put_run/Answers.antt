-- The run's first byte may be begun; the bits held then are its own, and are put as they were. A turn puts a pair, stores five bytes, and one
-- more where the bits held have one; those held, with a claim that has no other, are stored at the end.
use Rattle.std.proofs.Common.{arith, refl, ◌≡◌, ◌∙◌, ℕ, ◌+◌, ◌*◌, ◌/◌, ◌%◌, not, eqb, length}
use Rattle.std.proofs.lemmas.List.{length_push}
use Rattle.bits.proofs.Laws.{holding-starts}
use Rattle.putting.proofs.Run.{Turn, turn, turns, Left, room-for-bytes, left-stored, left-few, room-for-end, all-put}
use Rattle.putting.proofs.Run.{room-for-first, room-for-second, room-for-pair, pair-stored, room-for-last, last-put}
use Rattle.putting.specs.Edition.{edition_by}
use Rattle.putting.proofs.runs.put_run.Goals as goal
use Rattle.putting.proofs.runs.put_run.Goals.{In-Some, In-None, After-store-begun}

-- the edition, by the number of the const parameter
abbrev edition : ℕ → ℕ
edition n = edition_by (not (eqb n 0))

pub loop-bit_pair-init : goal.loop-bit_pair-init
loop-bit_pair-init g c = record {
  over = record { bits = (cc) ∙ c.as_chunks.ensures.front; dollars = (cc) ∙ c.as_chunks-2.ensures.front };
  left = record { few = c.at-begun.ensures.few; holding = holding-starts c.requires c.at-begun.ensures };
}

-- ---- a turn

-- the pair that it goes over
pair-of : {g : _} (c : In-Some g)
    → Turn c.args.claims.joined.now c.args.claims.dollars.now (length c.loop-bit_pair.yielded) c.in-Some.bit_pair.now c.in-Some.claim_pair.now
pair-of c =
    turn c.loop-bit_pair.invariant.over c.args.claims.same _ _ c.next.new.self c.loop-bit_pair.yielded_by c.in-Some.is
    c.next.ensures.steps

pub put_claim-first-requires : goal.put_claim-first-requires
put_claim-first-requires g c =
    room-for-first c.loop-bit_pair.invariant.left c.args.claims.same (pair-of (goal.at.put_claim-first-requires g c).In-Some)

pub put_claim-second-requires : goal.put_claim-second-requires
put_claim-second-requires g c =
    room-for-second c.loop-bit_pair.invariant.left c.args.claims.same (pair-of (goal.at.put_claim-second-requires g c).In-Some)
    c.put_claim-first.ensures

pub store-begun-requires : goal.store-begun-requires
store-begun-requires g c =
    room-for-pair c.loop-bit_pair.invariant.left c.args.claims.same (pair-of (goal.at.store-begun-requires g c).In-Some)
    c.put_claim-first.ensures c.put_claim-second.ensures

-- five bytes are stored
stored : {g : _} (c : After-store-begun g)
    → Turn c.args.claims.joined.now c.args.claims.dollars.now (length c.loop-bit_pair.yielded) c.in-Some.bit_pair.now c.in-Some.claim_pair.now
    → {m : ℕ} → m ≡ length c.loop-bit_pair.yielded + 1
    → Left (edition g.row.JOINS) c.args.out.now c.args.place.at c.args.claims.joined.now c.args.claims.dollars.now c.store-begun.new.out
    c.store-begun.result 10 (2 * m)
stored c two turned =
    pair-stored c.loop-bit_pair.invariant.left c.args.claims.same two c.put_claim-first.ensures c.put_claim-second.ensures
    c.store-begun.ensures turned

pub loop-bit_pair-preserved : goal.loop-bit_pair-preserved
loop-bit_pair-preserved g c =
    let p = goal.at.loop-bit_pair-preserved g c in
    let w = stored p.After-store-begun (pair-of p.In-Some) (length_push _ _) in
    record {
      over = c.loop-bit_pair.invariant.over;
      left = left-few w c.args.claims.same 8 c.if-begun-ge-BYTE_WIDTH.false;
    }

-- ---- and a byte

pub store-begun-requires-then-begun-ge-BYTE_WIDTH : goal.store-begun-requires-then-begun-ge-BYTE_WIDTH
store-begun-requires-then-begun-ge-BYTE_WIDTH g c =
    let p = goal.at.store-begun-requires-then-begun-ge-BYTE_WIDTH g c in
    room-for-bytes (stored p.After-store-begun (pair-of p.In-Some) refl) c.args.claims.same 1 (omega arith) c.if-begun-ge-BYTE_WIDTH.true
    (omega arith)

pub loop-bit_pair-preserved-then-begun-ge-BYTE_WIDTH : goal.loop-bit_pair-preserved-then-begun-ge-BYTE_WIDTH
loop-bit_pair-preserved-then-begun-ge-BYTE_WIDTH g c =
    let p = goal.at.loop-bit_pair-preserved-then-begun-ge-BYTE_WIDTH g c in
    let w = stored p.After-store-begun (pair-of p.In-Some) (length_push _ _) in
    record {
      over = c.loop-bit_pair.invariant.over;
      left = left-stored w c.args.claims.same 8 c.store-begun-then-begun-ge-BYTE_WIDTH.ensures (omega arith);
    }

-- ---- the end

-- all the pairs have had a turn
pairs-passed : {g : _} (c : In-None g) → length c.loop-bit_pair.yielded ≡ length c.args.claims.dollars.now / 2
pairs-passed c =
    turns c.loop-bit_pair.invariant.over c.args.claims.same _ _ c.next.new.self c.loop-bit_pair.yielded_by c.in-None.is
    c.next.ensures.steps

pub returns-then-is_empty : goal.returns-then-is_empty
returns-then-is_empty g c =
    let n = pairs-passed (goal.at.returns-then-is_empty g c).In-None in
    let end = c.end.ensures in
    all-put c.loop-bit_pair.invariant.left c.args.claims.same (grind (arith, n, c.as_chunks-2.ensures.back_len)) (end.next, end.put)

-- a claim is left
pub put_claim-requires : goal.put_claim-requires
put_claim-requires g c =
    let n = pairs-passed (goal.at.put_claim-requires g c).In-None in
    room-for-last c.loop-bit_pair.invariant.left c.args.claims.same n c.as_chunks.ensures.back c.as_chunks-2.ensures.back
    (grind (arith, c.as_chunks-2.ensures.back_len))

pub end-requires-2 : goal.end-requires-2
end-requires-2 g c =
    let n = pairs-passed (goal.at.end-requires-2 g c).In-None in
    room-for-end
    (last-put c.loop-bit_pair.invariant.left c.args.claims.same n c.as_chunks.ensures.back c.as_chunks-2.ensures.back
    (grind (arith, c.as_chunks-2.ensures.back_len)) c.put_claim.ensures)
    c.args.claims.same (omega arith)

pub returns : goal.returns
returns g c =
    let n = pairs-passed (goal.at.returns g c).In-None in
    let odd : length c.args.claims.dollars.now % 2 ≡ 1 = grind (arith, c.as_chunks-2.ensures.back_len) in
    let end = c.end-2.ensures in
    all-put
    (last-put c.loop-bit_pair.invariant.left c.args.claims.same n c.as_chunks.ensures.back c.as_chunks-2.ensures.back odd
    c.put_claim.ensures)
    c.args.claims.same (omega (arith, n, odd)) (end.next, end.put)
