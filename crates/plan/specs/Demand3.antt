-- Demand 3: 'one statement about every call of Rate that is not refused. It is compared over whole numbers, every premium
-- times 10,000,000 × n. In it n, e, c, T and the claims are those in the file, and SL and each K follow from the file by
-- steps 1 to 3.'
use Rattle.std.specs.Prelude.{◌≡◌, ◌≢◌, List, ℕ, ◌+◌, ◌*◌, ℤ, pos, ◌+ℤ◌, ◌≤ℤ◌}
use Rattle.plan.specs.Arithmetic.{sum, sum_z}
use Rattle.plan.specs.Field.{fields}
use Rattle.plan.specs.Header.{header_of, risk_count}
use Rattle.plan.specs.Losses.{losses_in, SL}
use Rattle.plan.specs.Ratable.{ratable}
use Rattle.plan.specs.Basic.{basic_premium, excess_charge}
use Rattle.plan.specs.Premium.{unrounded_of, billed_premiums}

-- 'numbers of 32 bits': the first n of a buffer, most significant bit first
abbrev pub numbers_in : List ℕ → ℕ → List ℕ
numbers_in t n = fields t 0 32 n

module _ (s : List ℕ) where
  -- 'The total of the unrounded premiums is the sum over all risks of T × (M + Q + n × c × K)', with m for M and q for Q
  unfoldable pub total_with : ℤ → ℕ → ℤ
  total_with m q =
      let h = header_of s in
      let k = ratable h (losses_in s) in
      sum_z (λ r. unrounded_of (risk_count s) h.conversion h.tax m q (k r)) (losses_in s)

  -- '1,000 × n × T × (n × e + SL)': the tax multiplier times all expense provisions and all losses, those cut off included,
  -- times 10,000,000 × n
  unfoldable pub taxed_expenses_and_losses : ℕ
  taxed_expenses_and_losses =
      1000 * risk_count s * (header_of s).tax * (risk_count s * (header_of s).expense + SL (losses_in s))

-- of the file s, the M, Q and sum billed that Rate gives, and the bytes t of the output buffer after the call
pub record Demand3 (s : List ℕ) (m q billed : ℕ) (t : List ℕ) : Type 0 where
  -- 'M and Q are those of steps 4 and 5'
  pub basic_after : pos m ≡ basic_premium (header_of s) (losses_in s)
  pub excess_is : q ≡ excess_charge (header_of s) (losses_in s)
  -- 'and each billed premium is that of step 6'
  pub premiums_are : numbers_in t (risk_count s) ≡ billed_premiums (header_of s) (losses_in s)
  -- 'The sum billed is the sum of the first n numbers of 32 bits in the output buffer after the call.'
  pub billed_is : billed ≡ sum (numbers_in t (risk_count s))
  -- 'It equals 1,000 × n × T × (n × e + SL).'
  pub total : total_with s (pos m) q ≡ pos (taxed_expenses_and_losses s)
  -- 'Another basic premium is any other whole number in place of M, a negative one too. The same loss marks means that Q and
  -- each K are kept. The sum over all risks is then not equal to 1,000 × n × T × (n × e + SL).'
  pub no_other : (other : ℤ) → other ≢ pos m → total_with s other q ≢ pos (taxed_expenses_and_losses s)
  -- 'Taken times 10,000,000 × n, it differs from the total by at most 5,000,000 × n × n.'
  pub not_above :
      pos (10000000 * risk_count s * billed) ≤ℤ (total_with s (pos m) q +ℤ pos (5000000 * risk_count s * risk_count s))
  pub not_below :
      total_with s (pos m) q ≤ℤ pos (10000000 * risk_count s * billed + 5000000 * risk_count s * risk_count s)
