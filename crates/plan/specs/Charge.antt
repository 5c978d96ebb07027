-- Document 02, job 5: a charge of the 1965 table. 'With r the entry ratio, the charge is 1 ÷ (1 + r + r × r × (b2 + r × (b3 + .. +
-- r × b8))), in doubles in the order written, each coefficient divided by 10,000,000 and r's hundredths by 100.' It is formula (3)
-- of document 003, nested as its Exhibit P writes it.
use Rattle.std.specs.Prelude.{◌≡◌, ℕ, zero, suc, ◌+◌, ◌-◌, ◌*◌, ◌^◌, ◌≤◌, ◌<◌, max, true, false, cond, ◌&&◌, List, [], ◌∷◌, ℤ, pos, negsuc, ◌+ℤ◌, ◌*ℤ◌, leb, Float}
use Rattle.std.specs.Float.{nan, inf, fin}
use Rattle.std.specs.Float.Ieee.{up, down}
use Rattle.plan.specs.Questions.{Question, ask}
use Rattle.plan.specs.Call.{Call, Answer, answer_of}
use Rattle.plan.specs.Doubles.{◌+ᵈ◌, ◌*ᵈ◌, ◌/ᵈ◌, double, whole, at_most}
use Rattle.plan.specs.Matrix.{first_column, last_column, coefficient}

-- ---- the charge

-- '1 ÷ (1 + r + r × r × (b2 + r × (b3 + .. + r × b8))), in doubles in the order written': sums and products from left to right,
-- so (1 + r) + ((r × r) × (..)), and each operation rounds, so that no product is fused with a sum
unfoldable pub nested : Float → Float → Float → Float → Float → Float → Float → Float → Float
nested b2 b3 b4 b5 b6 b7 b8 r =
    whole 1
    /ᵈ (whole 1 +ᵈ r
    +ᵈ r *ᵈ r *ᵈ (b2 +ᵈ r *ᵈ (b3 +ᵈ r *ᵈ (b4 +ᵈ r *ᵈ (b5 +ᵈ r *ᵈ (b6 +ᵈ r *ᵈ (b7 +ᵈ r *ᵈ b8)))))))

-- 'each coefficient divided by 10,000,000'
abbrev pub from_ten_millionths : ℤ → Float
from_ten_millionths b = double b /ᵈ whole 10000000

-- b_(i + 2) of a column
abbrev pub coefficient_double : ℕ → ℕ → Float
coefficient_double column i = from_ten_millionths (coefficient column i)

-- 'and r's hundredths by 100'
abbrev pub ratio_double : ℕ → Float
ratio_double r = whole r /ᵈ whole 100

-- the charge of a column at an entry ratio, both in hundredths
unfoldable pub charge_double : ℕ → ℕ → Float
unfolding nested
charge_double column r =
    let b2 = coefficient_double column 0 in
    let b3 = coefficient_double column 1 in
    let b4 = coefficient_double column 2 in
    let b5 = coefficient_double column 3 in
    let b6 = coefficient_double column 4 in
    let b7 = coefficient_double column 5 in
    let b8 = coefficient_double column 6 in
    nested b2 b3 b4 b5 b6 b7 b8 (ratio_double r)

-- ---- its thousandths

-- 'the greatest whole number from 1 to' k 'that is at most' y, 'or 0 if none is'
unfoldable pub greatest : ℕ → Float → ℕ
greatest zero y = 0
greatest (suc k) y = cond (at_most (whole (suc k)) y) (suc k) (greatest k y)

-- '(charge + 0.0005) × 1,000, also in doubles'; 0.0005 as a double is 5 ÷ 10,000 in doubles
abbrev pub raised : Float → Float
raised charge = (charge +ᵈ whole 5 /ᵈ whole 10000) *ᵈ whole 1000

-- 'if below 1 − r, then 1 − r': in thousandths, 1,000 − 10 × r, which is 0 from r 1.00 on
unfoldable pub thousandths : ℕ → Float → ℕ
thousandths r charge = max (greatest 1000 (raised charge)) (1000 - 10 * r)

-- ---- the exact quotient, as a fraction of whole numbers

-- 1 ÷ (1 + r + r × r × (b2 + ..)) with r hundredths and ten-millionths for the coefficients, both sides of the fraction times
-- 10 ^ 23, which is 10,000,000 × 100 ^ 8
abbrev pub exact_numerator : ℕ
exact_numerator = 10 ^ 23

-- b + r × p, where p is times 10,000,000 × 100 ^ (k − 1) and the result is times 10,000,000 × 100 ^ k
abbrev pub exact_step : ℕ → ℕ → ℤ → ℤ → ℤ
exact_step r k b p = b *ℤ pos (100 ^ k) +ℤ pos r *ℤ p

-- b2 + r × (b3 + .. + r × b8), times 10,000,000 × 100 ^ 6
abbrev pub exact_sum : ℕ → ℕ → ℤ
exact_sum column r =
    let b = coefficient column in
    exact_step r 6 (b 0) (exact_step r 5 (b 1) (exact_step r 4 (b 2) (exact_step r 3 (b 3) (exact_step r 2 (b 4) (exact_step r 1 (b 5) (b 6))))))

unfoldable pub exact_denominator : ℕ → ℕ → ℤ
exact_denominator column r = pos (10 ^ 23 + r * 10 ^ 21) +ℤ pos (r * r) *ℤ exact_sum column r

-- the distance of two numbers
abbrev pub apart : ℕ → ℕ → ℕ
apart a b = (a - b) + (b - a)

-- 'The unrounded one lies within a millionth of the exact quotient', over whole numbers: |charge × Den − Num| × 1,000,000 ≤ Den,
-- where the double is the binary fraction m × 2 ^ e that it is, and Den is above 0
abbrev pub Within : Float → ℕ → ℤ → Type 0
Within nan num den = ⊥
Within (inf s) num den = ⊥
Within (fin true m e) num den = ⊥
Within (fin false m e) num (negsuc den) = ⊥
Within (fin false m e) num (pos den) = (0 < den) × (apart (m * up e * den) (num * down e) * 1000000 ≤ den * down e)

-- ---- the call

-- the largest entry ratio that is taken, 5.00, in hundredths: Exhibit H's 'Maximum Usable r' of these columns
abbrev pub last_ratio : ℕ
last_ratio = 500

-- 'Errors: 20 a column outside .36 to .52'
abbrev pub question20 : ℕ → Question
question20 column = ask 20 (leb first_column column && leb column last_column)

-- 'then 21 an entry ratio above 5.00'
abbrev pub question21 : ℕ → Question
question21 r = ask 21 (leb r last_ratio)

abbrev pub charge_questions : ℕ → ℕ → List Question
charge_questions column r = question20 column ∷ question21 r ∷ []

-- 'Both the unrounded charge and its thousandths come back.'
pub record Charged : Type 0 where
  pub unrounded : Float
  pub in_thousandths : ℕ

abbrev pub charged_of : ℕ → ℕ → Charged
charged_of column r =
    record { unrounded = charge_double column r; in_thousandths = thousandths r (charge_double column r) }

-- the charge of a column at an entry ratio, both in hundredths, any numbers
unfoldable pub charge_call : ℕ → ℕ → Call Charged
charge_call column r = record { questions = charge_questions column r; result = charged_of column r }

abbrev pub charge1965 : ℕ → ℕ → Answer Charged
charge1965 column r = answer_of (charge_call column r)

-- ---- what holds of a call that is not refused, of the double x and the thousandths n that it gives

pub record OnTable (column r : ℕ) (x : Float) (n : ℕ) : Type 0 where
  -- 'The unrounded one lies within a millionth of the exact quotient.'
  pub within : Within x exact_numerator (exact_denominator column r)
  -- 'At r 1.00 the thousandths equal ten times the column's hundredths.'
  pub tenfold : r ≡ 100 → n ≡ 10 * column
