-- Steps 4 and 5: the balanced basic premium and the excess loss charge, both in thousandths of a dollar for the whole group.
use Rattle.std.specs.Prelude.{List, ℕ, ◌*◌, ◌-◌, ℤ, pos, ◌+ℤ◌, ◌-ℤ◌, ◌*ℤ◌, length}
use Rattle.plan.specs.Header.{Header}
use Rattle.plan.specs.Losses.{Losses, SL, SA}
use Rattle.plan.specs.Ratable.{SX, SS}

-- 'M = 1,000 × n × e − (c − 1,000) × SL + c × (SX − SS). It may come out negative. Per risk it is M ÷ (1,000 × n). This is
-- formula (5) of document 001 with E as the group's mean loss; charge and savings are taken on limited losses, as that
-- document asks where a loss limit applies.' So per risk b = e − (c − 1)E + c(X − S)Ê, with E = SL ÷ n, Ê = SA ÷ n, and
-- XÊ = SX ÷ n and SÊ = SS ÷ n the charge and the savings in dollars
abbrev pub basic_of : ℕ → ℕ → ℕ → ℕ → ℕ → ℕ → ℤ
basic_of n e c sl sx ss =
    pos (1000 * n * e) -ℤ (pos c -ℤ pos 1000) *ℤ pos sl +ℤ pos c *ℤ (pos sx -ℤ pos ss)

-- 'The excess loss charge, in the same unit, is Q = c × (SL − SA): formula (11).' By step 1 no A is above its L, so SL − SA
-- cannot cut off
abbrev pub excess_of : ℕ → ℕ → ℕ → ℕ
excess_of c sl sa = c * (sl - sa)

module _ (h : Header) (rs : List Losses) where
  -- M, the balanced basic premium
  unfoldable pub basic_premium : ℤ
  basic_premium = basic_of (length rs) h.expense h.conversion (SL rs) (SX h rs) (SS h rs)

  -- Q, the excess loss charge
  unfoldable pub excess_charge : ℕ
  excess_charge = excess_of h.conversion (SL rs) (SA rs)
