-- A turn takes the next of the claims that are left, and stores it.
use Rattle.std.proofs.Common.{◌≡◌, ◌<◌, refl, sym, ap, ◌∙◌, arith, length}
use Rattle.plan.specs.Claim.{dollars}
use Rattle.laws.proofs.Claims.{joined-le, length-claims}
use Rattle.claims.proofs.Laws.{next-claim, next-claim-past}
use Rattle.claims.specs.Cursor.{own_claims}
use Rattle.reading.specs.Reading.{bit}
use Rattle.reading.proofs.Storing.{rest-next, parts-start, parts-more, parts-all}
use Rattle.reading.proofs.read_claims.Goals as goal

pub next_claim-claim-requires : goal.next_claim-claim-requires
next_claim-claim-requires c = omega (arith, c.loop-i.invariant.left, c.loop-i-test.true, c.requires.0)

pub overflow_cast-joined : goal.overflow_cast-joined
overflow_cast-joined c =
    record { fits = omega (arith, c.joins.ensures, ap bit c.next_claim-claim.ensures.is, joined-le c.args.file.now.bytes.now c.loop-i.next.place.at) }

pub loop-i-init : goal.loop-i-init
loop-i-init c =
    let all = own_claims c.args.file.now.bytes.now c.args.cursor in
    record {
      left = omega arith;
      rest = refl;
      past = refl;
      dollars = parts-start dollars all c.args.claims.now;
      bits = parts-start bit all c.args.joined.now;
    }

pub loop-i-preserved : goal.loop-i-preserved
loop-i-preserved c =
    let s = c.args.file.now.bytes.now in
    let a = c.args.cursor in
    let w = c.loop-i.invariant in
    let x = c.next_claim-claim.ensures in
    let many : length (own_claims s a) ≡ a.left = length-claims s a.place.at a.left in
    let h : c.loop-i.i < length (own_claims s a) = omega (arith, c.loop-i-test.true, c.requires.0, many) in
    let rest = w.rest ∙ next-claim x in
    record {
      left = omega (arith, w.left, x.left);
      rest = rest-next (own_claims s a) c.loop-i.i rest;
      past = w.past ∙ next-claim-past x;
      dollars = parts-more w.dollars rest c.dollars.ensures h (many ∙ sym c.requires.0);
      bits = parts-more w.bits rest c.joins.ensures h (many ∙ sym c.requires.1);
    }

-- all are passed
module _ (c : goal.After-loop-i) where
  many : length (own_claims c.args.file.now.bytes.now c.args.cursor) ≡ c.args.cursor.left
  many = length-claims c.args.file.now.bytes.now c.args.cursor.place.at c.args.cursor.left

  all : c.loop-i.i ≡ length (own_claims c.args.file.now.bytes.now c.args.cursor)
  all = omega (arith, c.loop-i-test.false, c.loop-i.auto.i-end, c.requires.0, many)

pub returns-clause-claimed : goal.returns-clause-claimed
returns-clause-claimed c = parts-all c.loop-i.invariant.dollars (all c) (many c ∙ sym c.requires.0)

pub returns-clause-joining : goal.returns-clause-joining
returns-clause-joining c = parts-all c.loop-i.invariant.bits (all c) (many c ∙ sym c.requires.1)
