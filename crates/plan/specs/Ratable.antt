-- Step 3: 'SX is the sum of what each A has above LG. SS is the sum of what each A lacks below LH. K is a risk's A, raised to
-- LH if below and cut to LG if above.'
use Rattle.std.specs.Prelude.{List, ℕ, min, max}
use Rattle.plan.specs.Arithmetic.{sum_of, above, below}
use Rattle.plan.specs.Header.{Header}
use Rattle.plan.specs.Losses.{Losses}
use Rattle.plan.specs.Marks.{LG, LH}

-- x raised to `low` if below and cut to `high` if above, which is K of LH, LG and A; raised first, so that `high` is never
-- exceeded
abbrev pub clamp : ℕ → ℕ → ℕ → ℕ
clamp low high x = min (max x low) high

module _ (h : Header) (rs : List Losses) where
  -- SX
  unfoldable pub SX : ℕ
  SX = sum_of (λ r. above r.limited (LG h rs)) rs

  -- SS
  unfoldable pub SS : ℕ
  SS = sum_of (λ r. below r.limited (LH h rs)) rs

  -- K, the ratable losses of a risk; 'The clamp to minimum and maximum premium is in K, by formulas (2) and (3)'
  unfoldable pub ratable : Losses → ℕ
  ratable r = clamp (LH h rs) (LG h rs) r.limited
