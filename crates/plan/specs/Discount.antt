-- Document 02, job 1: 'A premium discount schedule has four layers, each with a rate in tenths of a percent; the first three
-- have a width in whole dollars of 32 bits and the last has no end. The discount is the sum over layers, to the nearest dollar,
-- half upward, and guaranteed cost is standard premium less discount.' A schedule is the list of its layers, the first first.
use Rattle.std.specs.Prelude.{Bool, true, ◌&&◌, List, [], ◌∷◌, ℕ, ◌+◌, ◌*◌, ◌-◌, min, leb}
use Rattle.plan.specs.Arithmetic.{nearest}

-- a row of a schedule
pub record Layer : Type 0 where
  -- whole dollars; of the last layer it is not looked at
  pub width : ℕ
  -- tenths of a percent
  pub rate : ℕ

-- the part of P in each layer times the layer's rate, added over the layers: 'the first three have a width', at which what
-- remains of P is cut, 'and the last has no end', so that it takes the rest
abbrev pub discount_sum : List Layer → ℕ → ℕ
discount_sum [] p = 0
discount_sum (l ∷ []) p = p * l.rate
discount_sum (l ∷ m ∷ ls) p = min p l.width * l.rate + discount_sum (m ∷ ls) (p - l.width)

-- 'to the nearest dollar, half upward': a tenth of a percent is a thousandth, so the sum is divided by 1,000, once
unfoldable pub discount : List Layer → ℕ → ℕ
discount ls p = nearest (discount_sum ls p) 1000

-- 'guaranteed cost is standard premium less discount'. By question 16 no discount is above P, so nothing is cut off
unfoldable pub guaranteed_cost : List Layer → ℕ → ℕ
guaranteed_cost ls p = p - discount ls p

-- ---- what questions 16 and 17 ask for

-- a rate of all of a premium, in tenths of a percent
abbrev pub most_rate : ℕ
most_rate = 1000

-- no rate is above 1,000
abbrev pub rates_pass : List Layer → Bool
rates_pass [] = true
rates_pass (l ∷ ls) = leb l.rate most_rate && rates_pass ls

-- none of the widths before the last is 0
abbrev pub widths_pass : List Layer → Bool
widths_pass [] = true
widths_pass (l ∷ []) = true
widths_pass (l ∷ m ∷ ls) = leb 1 l.width && widths_pass (m ∷ ls)
