-- Question 12 by M's sign, and the terms where it passes, since the numbers that the code has are the group's.
use Rattle.std.proofs.Common.{◌≡◌, sym, ap, ◌∙◌, subst, pos, true, false, List, []}
use Rattle.std.specs.Int.Signed.{non_neg}
use Rattle.plan.specs.Header as header
use Rattle.plan.specs.Losses.{Losses}
use Rattle.plan.specs.Ratable.{SX, SS}
use Rattle.plan.specs.Basic.{basic_of, basic_premium}
use Rattle.plan.specs.Premium.{Terms, terms_of}
use Rattle.plan.specs.Questions.{balance_questions, first_no}
use Rattle.plan.specs.Call.{Answer, refused, given, answer}
use Rattle.plan.specs.Bounds.{TermsBounds}
use Rattle.laws.proofs.GroupSizes.{terms-bounds}
use Rattle.laws.proofs.Calls.{answered}
use Rattle.laws.proofs.Questions.{goes_on, stops}
use Rattle.group.specs.Values.{header_is, losses_is}
use Rattle.steps.proofs.Sums.{of-slice}
use Rattle.steps.proofs.Group.{above_is, below_is, basic-bounds, basic_are, terms-are}
use Rattle.steps.proofs.balance.balance.Goals as goal
use Rattle.steps.proofs.balance.balance.Goals.{In-Some, After-from-3, After-basic_of}

-- ---- what 12 comes to

module _ (h : header.Header) (rs : List Losses) where
  abbrev Answers : Answer Terms → Type 0
  Answers a = a ≡ answer (first_no (balance_questions h rs)) (terms_of h rs)

  twelve : non_neg (basic_premium h rs) ≡ false → Answers (refused 12)
  twelve n = sym (answered (terms_of h rs) (stops 12 [] n))

  terms : non_neg (basic_premium h rs) ≡ true → Answers (given (terms_of h rs))
  terms n = sym (answered (terms_of h rs) (goes_on 12 [] n))

-- ---- the goals

-- SX and SS, as the code has them
module _ (c : After-from-3) where
  sx-is : c.above_in_all-above.result ≡ SX (header_is c.args.h) (losses_is c.args.losses.now)
  sx-is =
      above_is c.requires c.risks-risks.ensures c.marks_of-marks.ensures c.from.ensures
      (of-slice _ c.above_in_all-above.ensures c.lent.ensures)

  ss-is : c.below_in_all-below.result ≡ SS (header_is c.args.h) (losses_is c.args.losses.now)
  ss-is =
      below_is c.requires c.risks-risks.ensures c.marks_of-marks.ensures c.from-2.ensures
      (of-slice _ c.below_in_all-below.ensures c.lent-2.ensures)

pub basic_of-requires : goal.basic_of-requires
basic_of-requires c =
    rw (c.from-3.ensures, c.from-c.ensures)
    (basic-bounds c.requires (c.from-n.ensures ∙ c.risks-risks.ensures) c.marks_of-marks.ensures (sx-is c) (ss-is c))

-- M by the numbers that the code has
basic-is : (c : After-basic_of) → basic_of c.from-n.result c.from-3.result c.from-c.result c.args.losses.now.total
    c.above_in_all-above.result c.below_in_all-below.result
    ≡ basic_premium (header_is c.args.h) (losses_is c.args.losses.now)
basic-is c =
    rw (c.from-3.ensures, c.from-c.ensures)
    (basic_are c.requires (c.from-n.ensures ∙ c.risks-risks.ensures) c.marks_of-marks.ensures (sx-is c.before) (ss-is c.before))

pub returns-in_default : goal.returns-in_default
returns-in_default c = twelve _ _ (ap non_neg (sym (basic-is (goal.at.returns-in_default c).After-basic_of)) ∙ c.in_default.ensures)

-- and M as the code has it, where it is given
m-is : (c : In-Some) → pos c.in-Some.basic ≡ basic_premium (header_is c.args.h) (losses_is c.args.losses.now)
m-is c = c.in-Some.ensures ∙ basic-is c.before

pub invariant_of-result : goal.invariant_of-result
invariant_of-result c =
    let m = m-is (goal.at.invariant_of-result c).In-Some in
    let b =
    subst TermsBounds (sym (terms-are c.requires c.risks-risks.ensures c.marks_of-marks.ensures m c.from-c.ensures c.excess_of-excess.ensures))
    (terms-bounds (header_is c.args.h) (losses_is c.args.losses.now) c.requires.bounds (record { not_negative = ap non_neg (sym m) })) in
    record {
      some = b.some;
      few = b.few;
      conversion_most = b.conversion;
      tax_most = b.tax;
      shared = b.shared;
      maximum_most = b.maximum;
    }

pub returns : goal.returns
returns c =
    let m = m-is (goal.at.returns c).In-Some in
    ap given (terms-are c.requires c.risks-risks.ensures c.marks_of-marks.ensures m c.from-c.ensures c.excess_of-excess.ensures)
    ∙ terms _ _ (ap non_neg (sym m))
