-- A turn passes the next risk, of which there are at most 255, and keeps its losses. `set-set` is for an entry that is stored in two steps,
-- as an edit does.
use Rattle.std.proofs.Common.{◌≡◌, ◌<◌, refl, subst, arith, rules, ℕ, length, take, drop, replicate}
use Rattle.std.proofs.lemmas.List.{take_more_set, length-set, set-set, drop-set-lt}
use Rattle.plan.specs.Sizes.{most_risks}
use Rattle.plan.specs.Header.{header_bits}
use Rattle.plan.specs.Losses.{losses_from}
use Rattle.group.specs.Entries.{behind}
use Rattle.group.specs.Values.{losses_of}
use Rattle.losses.specs.RunningSums.{SumsAre}
use Rattle.losses.proofs.RunningSums.{passed-next}
use Rattle.losses.proofs.WalkLoop.{sums-start, kept-length, kept_more, behind_more}
use Rattle.losses.proofs.walking.walk.Goals as goal

pub loop-i-preserved : goal.loop-i-preserved
loop-i-preserved c =
    let l = c.loop-i in
    let p = passed-next l.invariant.sums c.pass_risk-risk.ensures in
    let few : l.i < length l.of_risks = omega (arith, l.invariant.entries, c.loop-i-test.true, c.requires.0) in
    record {
      sums = p.sums;
      kept = kept_more _ l.invariant.kept p (search (rules, take_more_set, set-set, length-set, few));
      entries = search (rules, length-set, l.invariant.entries);
      rest = search (rules, drop-set-lt, behind_more l.i l.of_risks l.invariant.rest);
    }

pub loop-i-init : goal.loop-i-init
loop-i-init c =
    let none = c.default-of_risks.ensures in
    record {
      sums = sums-start c.args.file.now.bytes.now c.args.limit refl refl refl refl refl c.requires.1;
      kept = refl;
      entries = refl;
      rest = λ i. replicate most_risks (record { total = none.0 i; limited = none.1 i });
    }

pub invariant_of-result : goal.invariant_of-result
invariant_of-result c =
    let all : c.loop-i.i ≡ c.args.risks = omega (arith, c.loop-i-test.false, c.loop-i.auto.i-end) in
    record { few = c.requires.0; rest = subst (λ (k : ℕ). drop k c.loop-i.of_risks ≡ behind k) all c.loop-i.invariant.rest }

pub returns : goal.returns
returns c =
    let s = c.args.file.now.bytes.now in
    let all : c.loop-i.i ≡ c.args.risks = omega (arith, c.loop-i-test.false, c.loop-i.auto.i-end) in
    let w = subst (λ (k : ℕ). SumsAre s c.args.limit k c.loop-i.sums) all c.loop-i.invariant.sums in
    let kept = subst (λ (k : ℕ). losses_of (take k c.loop-i.of_risks) ≡ losses_from s c.args.limit header_bits k) all
    c.loop-i.invariant.kept in
    record {
      sums = record {
        risks = kept-length s c.args.limit _ kept;
        claims = w.claims;
        each_opens = w.each_opens;
        total = w.total;
        limited = w.limited;
        next = w.next;
      };
      each = kept;
    }
