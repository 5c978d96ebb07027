-- There is room for the next risk's claims in either buffer, and a turn stores one risk more.
use Rattle.std.proofs.Common.{arith, ◌≡◌, refl, ap, ◌∙◌, ℕ, ◌+◌, ◌≤◌, length}
use Rattle.plan.specs.Call.{filled}
use Rattle.plan.specs.Risk.{counts_from}
use Rattle.laws.proofs.Risks.{count-le, counts-le, length-counts}
use Rattle.reading.proofs.Storing.{filled_all, place-most, claims-within, joined-within, storing-more}
use Rattle.reading.proofs.read_risks.Goals as goal

pub next_risk-risk-requires : goal.next_risk-risk-requires
next_risk-risk-requires c = place-most c.loop-entry.invariant c.requires c.loop-entry-test.true

pub overflow_cast-entry : goal.overflow_cast-entry
overflow_cast-entry c =
    record { fits = omega (arith, c.next_risk-risk.ensures.count, count-le c.args.file.now.bytes.now c.loop-entry.next.place.at) }

pub overflow_add-past : goal.overflow_add-past
overflow_add-past c =
    record { fits = omega (arith, claims-within c.loop-entry.invariant c.requires c.loop-entry-test.true refl c.next_risk-risk.ensures) }

pub loop-entry-preserved : goal.loop-entry-preserved
loop-entry-preserved c =
    let stored = c.read_claims-next.ensures in
    storing-more c.loop-entry.invariant c.requires c.loop-entry-test.true refl c.next_risk-risk.ensures stored.placed stored.claimed stored.joining

-- the entries for its claims, and for their bits, are in the buffers
pub offset_bounds-claims-from : goal.offset_bounds-claims-from
offset_bounds-claims-from c =
    let w = c.loop-entry.invariant in
    record { fits = omega (arith, w.entries, counts-le c.args.file.now.bytes.now c.args.place.at c.loop-entry.entry-index, c.loop-entry-test.true, c.requires.few) }

pub slice_bounds-read_claims-end : goal.slice_bounds-read_claims-end
slice_bounds-read_claims-end c =
    let l = c.loop-entry in
    let room : l.from + c.next_risk-risk.result.value ≤ length l.claims =
    omega (arith, claims-within l.invariant c.requires c.loop-entry-test.true refl c.next_risk-risk.ensures, l.auto.claims) in
    room

pub slice_bounds-read_claims-end-in-loop-entry : goal.slice_bounds-read_claims-end-in-loop-entry
slice_bounds-read_claims-end-in-loop-entry c =
    let l = c.loop-entry in
    let room : l.from + c.next_risk-risk.result.value ≤ length l.joined =
    omega (arith, joined-within l.invariant c.requires c.loop-entry-test.true refl c.next_risk-risk.ensures, l.auto.joined) in
    room

pub returns-clause-counted : goal.returns-clause-counted
returns-clause-counted c =
    let s = c.args.file.now.bytes.now in
    let n = length c.args.counts.now in
    let all : c.loop-entry.entry-index ≡ n = omega (arith, c.loop-entry-test.false, c.loop-entry.auto.entry-index-end) in
    c.loop-entry.invariant.counts_are
    ∙ ap (λ (i : ℕ). filled (counts_from s c.args.place.at i) c.args.counts.now) all
    ∙ filled_all (counts_from s c.args.place.at n) c.args.counts.now (length-counts s c.args.place.at n)
