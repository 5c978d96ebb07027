-- The code's terms as document 01's: what the bills of a group share.
use Rattle.std.specs.Prelude.{pos}
use Rattle.plan.specs.Premium as premium
use Rattle.steps.specs.declared.bill.Terms.{Terms}

abbrev pub terms_is : Terms → premium.Terms
terms_is t = record {
  risks = t.risks;
  conversion = t.conversion;
  tax = t.tax;
  basic = pos t.basic;
  excess = t.excess;
  minimum = t.minimum;
  maximum = t.maximum;
}
