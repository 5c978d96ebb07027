-- 'The header has 128 bits. In order, with widths in bits:'
use Rattle.std.specs.Prelude.{List, [], ◌∷◌, ℕ, ◌+◌}
use Rattle.plan.specs.Field.{field, Slot, slot}

-- where a field lies: the bit at which it begins, and its width
pub record Extent : Type 0 where
  pub at : ℕ
  pub width : ℕ

-- the bit where a field ends
abbrev pub end : Extent → ℕ
end x = x.at + x.width

-- 'Each field is taken at the bit where the one before it ended'
abbrev pub after : Extent → ℕ → Extent
after x w = record { at = end x; width = w }

-- 'edition 4, which is 1'; since document 02, job 4, 1 or 2
abbrev pub edition_field : Extent
edition_field = record { at = 0; width = 4 }

-- 'loss limit per claim 20 (0 means no limit)'; since job 4 'The limit applies to the accident's sum'
abbrev pub loss_limit_field : Extent
loss_limit_field = after edition_field 20

-- 'standard premium P 22'
abbrev pub standard_premium_field : Extent
standard_premium_field = after loss_limit_field 22

-- 'expense provision e per risk 20, taxes excluded'
abbrev pub expense_field : Extent
expense_field = after standard_premium_field 20

-- 'loss conversion factor c 11, thousandths'
abbrev pub conversion_field : Extent
conversion_field = after expense_field 11

-- 'tax multiplier T 15, ten-thousandths'
abbrev pub tax_field : Extent
tax_field = after conversion_field 15

-- 'mark kind 1: 0 loss ratio, 1 entry ratio'
abbrev pub mark_kind_field : Extent
mark_kind_field = after tax_field 1

-- 'maximum mark 13, thousandths'
abbrev pub maximum_mark_field : Extent
maximum_mark_field = after mark_kind_field 13

-- 'minimum mark 13, thousandths'
abbrev pub minimum_mark_field : Extent
minimum_mark_field = after maximum_mark_field 13

-- 'number of risks n 8'
abbrev pub risks_field : Extent
risks_field = after minimum_mark_field 8

-- 'spare 1, which is 0'
abbrev pub spare_field : Extent
spare_field = after risks_field 1

-- 'The header has 128 bits': where its last field ends
abbrev pub header_bits : ℕ
header_bits = end spare_field

-- the value of a field of the header
abbrev pub value_of : List ℕ → Extent → ℕ
value_of s x = field s x.at x.width

-- the header values: 'loss limit to minimum mark'
pub record Header : Type 0 where
  -- dollars per accident; 0 means no limit
  pub loss_limit : ℕ
  -- P, dollars
  pub standard_premium : ℕ
  -- e, dollars per risk
  pub expense : ℕ
  -- c, thousandths
  pub conversion : ℕ
  -- T, ten-thousandths
  pub tax : ℕ
  -- 0 loss ratio, 1 entry ratio
  pub mark_kind : ℕ
  -- thousandths
  pub maximum_mark : ℕ
  -- thousandths
  pub minimum_mark : ℕ

-- the header values of a file
abbrev pub header_of : List ℕ → Header
header_of s = record {
  loss_limit = value_of s loss_limit_field;
  standard_premium = value_of s standard_premium_field;
  expense = value_of s expense_field;
  conversion = value_of s conversion_field;
  tax = value_of s tax_field;
  mark_kind = value_of s mark_kind_field;
  maximum_mark = value_of s maximum_mark_field;
  minimum_mark = value_of s minimum_mark_field;
}

-- the edition of a file
abbrev pub edition_of : List ℕ → ℕ
edition_of s = value_of s edition_field

-- n of a file
abbrev pub risk_count : List ℕ → ℕ
risk_count s = value_of s risks_field

-- the header to be written, of an edition, given values and n: 'edition and spare are written as 1 and 0', and since job 4 'the
-- writer takes the edition'
abbrev pub header_slots : ℕ → Header → ℕ → List Slot
header_slots edition h n =
    slot edition_field.width edition
    ∷ slot loss_limit_field.width h.loss_limit
    ∷ slot standard_premium_field.width h.standard_premium
    ∷ slot expense_field.width h.expense
    ∷ slot conversion_field.width h.conversion
    ∷ slot tax_field.width h.tax
    ∷ slot mark_kind_field.width h.mark_kind
    ∷ slot maximum_mark_field.width h.maximum_mark
    ∷ slot minimum_mark_field.width h.minimum_mark
    ∷ slot risks_field.width n
    ∷ slot spare_field.width 0
    ∷ []
