-- Numbers by name. The first are document 01's own, by which questions 4, 5, 6 and 14 and step 6 are stated; document 02's stand with its
-- jobs (16: `Discount.most_rate`; 20: `Matrix.first_column`, `last_column`; 21: `Charge.last_ratio`; 23: `SoldOnPremiums.most_basic`).
-- The others follow from the file's widths and from passed questions, as the laws show.
use Rattle.std.specs.Prelude.{ℕ}

-- ---- document 01's numbers

-- 'Is c from 1,000 to 2,000?', in thousandths
abbrev pub least_conversion : ℕ
least_conversion = 1000

abbrev pub most_conversion : ℕ
most_conversion = 2000

-- 'Is T from 10,000 to 20,000?', in ten-thousandths
abbrev pub least_tax : ℕ
least_tax = 10000

abbrev pub most_tax : ℕ
most_tax = 20000

-- 'Are both marks at most 6,000?', in thousandths
abbrev pub most_mark : ℕ
most_mark = 6000

-- 'Is r at most 600?', in hundredths
abbrev pub most_ratio : ℕ
most_ratio = 600

-- 'every premium times 10,000,000 × n', and half a dollar in that unit
abbrev pub premium_scale : ℕ
premium_scale = 10000000

abbrev pub half_dollar : ℕ
half_dollar = 5000000

-- ---- what the widths of the fields bound: no number of a file is above these

-- 'One size group: 1 to 255 risks'
abbrev pub most_risks : ℕ
most_risks = 255

-- 'number of claims 6 (0 to 63)'
abbrev pub most_claims : ℕ
most_claims = 63

-- a claim: 20 bits
abbrev pub largest_claim : ℕ
largest_claim = 1048575

-- a claim's fields: a bit and 20 bits at most
abbrev pub most_claim_width : ℕ
most_claim_width = 21

-- an expense provision: 20 bits
abbrev pub largest_expense : ℕ
largest_expense = 1048575

-- L of a risk: 63 of the largest claims. They may be one accident, so an accident's sum is at most that too
abbrev pub most_risk_losses : ℕ
most_risk_losses = 66060225

-- SL of 255 such risks
abbrev pub most_group_losses : ℕ
most_group_losses = 16845357375

-- the most bits of a risk: a count and 63 claims of 21 bits
abbrev pub most_risk_bits : ℕ
most_risk_bits = 1329

-- where the last field of the largest file ends
abbrev pub most_file_bits : ℕ
most_file_bits = 339023

-- job 4: 'The largest file becomes 42,378 bytes.' None that passes 1 to 9 is longer (`FileSizes.file-le`), and one is so long
-- (`LargestFile.attained`)
abbrev pub largest_file : ℕ
largest_file = 42378

-- ---- what follows from them and from passed questions: bounds, of which no law says that a group attains them

-- LG, LH and K: six times the largest mean loss
abbrev pub most_dollars : ℕ
most_dollars = 396361350

-- M + Q for each risk: 1,000 times the largest expense provision and L
abbrev pub most_shared : ℕ
most_shared = 67108800000
