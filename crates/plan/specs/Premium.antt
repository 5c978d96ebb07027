-- Step 6: 'A risk's unrounded premium is T × (M + Q + n × c × K) ÷ (10,000,000 × n). Billed is the nearest whole dollar, an
-- exact half upward.'
use Rattle.std.specs.Prelude.{List, map, ℕ, ◌*◌, ℤ, pos, negsuc, ◌+ℤ◌, ◌*ℤ◌, length}
use Rattle.plan.specs.Arithmetic.{nearest}
use Rattle.plan.specs.Sizes.{premium_scale}
use Rattle.plan.specs.Header.{Header}
use Rattle.plan.specs.Losses.{Losses}
use Rattle.plan.specs.Marks.{LG, LH}
use Rattle.plan.specs.Ratable.{clamp}
use Rattle.plan.specs.Basic.{basic_premium, excess_charge}

-- T × (M + Q + n × c × K): the unrounded premium times 10,000,000 × n, of n, c, T, M, Q and K
abbrev pub unrounded_of : ℕ → ℕ → ℕ → ℤ → ℕ → ℕ → ℤ
unrounded_of n c t m q k = pos t *ℤ (m +ℤ pos q +ℤ pos (n * c * k))

-- the rule by which a premium is billed: 'the nearest whole dollar, an exact half upward'
unfoldable pub bill_rounding : ℕ → ℕ → ℕ
bill_rounding a d = nearest a d

-- whole dollars of a premium. The 0 is never billed: M is at least 0 by question 12, and Q and K are not negative
abbrev pub bill_of : ℤ → ℕ → ℕ
bill_of (pos a) d = bill_rounding a d
bill_of (negsuc a) d = 0

-- what the premiums of a group share
pub record Terms : Type 0 where
  -- n
  pub risks : ℕ
  -- c
  pub conversion : ℕ
  -- T
  pub tax : ℕ
  -- M
  pub basic : ℤ
  -- Q
  pub excess : ℕ
  -- LH
  pub minimum : ℕ
  -- LG
  pub maximum : ℕ

-- the terms of a group
abbrev pub terms_of : Header → List Losses → Terms
terms_of h rs = record {
  risks = length rs;
  conversion = h.conversion;
  tax = h.tax;
  basic = basic_premium h rs;
  excess = excess_charge h rs;
  minimum = LH h rs;
  maximum = LG h rs;
}

module _ (t : Terms) where
  -- the unrounded premium, times 10,000,000 × n, of a risk whose A is a; its K is a between LH and LG
  abbrev pub unrounded_with : ℕ → ℤ
  unrounded_with a =
      unrounded_of t.risks t.conversion t.tax t.basic t.excess (clamp t.minimum t.maximum a)

  -- the bill of a risk whose A is a
  unfoldable pub bill_with : ℕ → ℕ
  bill_with a = bill_of (unrounded_with a) (premium_scale * t.risks)

module _ (h : Header) (rs : List Losses) where
  -- the bill of one risk
  abbrev pub billed_premium : Losses → ℕ
  billed_premium r = bill_with (terms_of h rs) r.limited

  -- the bills of a group, in file order
  abbrev pub billed_premiums : List ℕ
  billed_premiums = map billed_premium rs
