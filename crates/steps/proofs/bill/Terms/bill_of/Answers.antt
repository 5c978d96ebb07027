-- The numerator and half the divisor stay below 2 ^ 63, and the divisor is even, so adding its half before
-- dividing is the billing rule.
use Rattle.std.proofs.Common.{◌≡◌, refl, ◌∙◌, arith, ℕ, ◌+◌, ◌*◌, ◌/◌, ◌^◌, ◌≤◌, ◌<◌}
use Rattle.plan.specs.Sizes.{most_risks, premium_scale}
use Rattle.plan.specs.Ratable.{clamp}
use Rattle.plan.specs.Premium.{bill_with}
use Rattle.laws.proofs.Bills.{numerator-le, bill-quotient, bill-lt}
use Rattle.steps.specs.Terms.{terms_is}
use Rattle.steps.specs.declared.bill.Terms.{Terms}
use Rattle.steps.proofs.Bounds.{within}
use Rattle.steps.proofs.bill.Terms.bill_of.Goals as goal
use Rattle.steps.proofs.bill.Terms.bill_of.Goals.{After-from-2}

-- by the terms t, of a risk whose A is a: the numerator and the bill, of the code's T, n, c and K
module _ (t : Terms) (a : ℕ) {tax n c k : ℕ} (tax_is : tax ≡ t.tax) (n_is : n ≡ t.risks) (c_is : c ≡ t.conversion)
    (k_is : k ≡ clamp t.minimum t.maximum a) where
  abbrev numerator : ℕ
  numerator = tax * (t.basic + t.excess + n * c * k)

  record Billed : Type 0 where
    numerator_most : numerator ≤ 17196630000000000 * n
    bill_is : (numerator + 5000000 * n) / (premium_scale * n) ≡ bill_with (terms_is t) a
    bill_fits : bill_with (terms_is t) a < 2 ^ 31
    few : n ≤ most_risks

  billed : Billed
  billed = record {
    numerator_most = rw (tax_is, n_is, c_is, k_is) (numerator-le (terms_is t) (within t) t.basic refl a);
    bill_is = rw (tax_is, n_is, c_is, k_is) (bill-quotient (terms_is t) (within t) t.basic refl a);
    bill_fits = bill-lt (terms_is t) (within t) t.basic refl a;
    few = omega (arith, n_is, t.few);
  }

-- the code's own
at-hand : (c : After-from-2)
    → Billed c.args.self.now c.args.limited c.from.ensures c.from-n.ensures c.from-2.ensures (c.from-k.ensures ∙ c.ratable_of.ensures)
at-hand c = billed c.args.self.now c.args.limited c.from.ensures c.from-n.ensures c.from-2.ensures (c.from-k.ensures ∙ c.ratable_of.ensures)

pub overflow_mul-numerator-3 : goal.overflow_mul-numerator-3
overflow_mul-numerator-3 c =
    let b = at-hand (goal.at.overflow_mul-numerator-3 c).After-from-2 in
    omega (arith, b.numerator_most, b.few)

pub overflow_add-result : goal.overflow_add-result
overflow_add-result c =
    let b = at-hand (goal.at.overflow_add-result c).After-from-2 in
    omega (arith, b.numerator_most, b.few)

pub overflow_cast-result : goal.overflow_cast-result
overflow_cast-result c =
    let b = at-hand (goal.at.overflow_cast-result c).After-from-2 in
    omega (arith, b.bill_is, b.bill_fits)

pub returns : goal.returns
returns c = (at-hand (goal.at.returns c).After-from-2).bill_is
