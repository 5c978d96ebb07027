-- The bounds: each number by the widths of the file's fields, and each fact field by field.
use mathlib.Core.Path.{◌≡◌, refl}
use mathlib.Core.List.{List}
use Prim.Native.Nat.{ℕ, ◌+◌, ◌-◌, ◌*◌, ◌/◌, ◌^◌, ◌≤◌, ◌<◌}
use lib.IntN.{nat_abs}
use lib.ListN.{length}
use Rattle.plan.specs.Sizes.{premium_scale, half_dollar, most_risks, most_claims, largest_claim, most_claim_width, largest_expense, most_risk_losses}
use Rattle.plan.specs.Sizes.{most_group_losses, most_risk_bits, most_file_bits, largest_file, most_dollars, most_shared}
use Rattle.plan.specs.Header.{Header}
use Rattle.plan.specs.Losses.{Losses, SA, SL}
use Rattle.plan.specs.Premium.{Terms}
use Rattle.plan.specs.Bounds.{HeaderSound, GroupBounds, TermsBounds}

abbrev pub SizeCase : Type 0
SizeCase =
    (2 * half_dollar ≡ premium_scale)
    × (most_risks ≡ 2 ^ 8 - 1)
    × (most_claims ≡ 2 ^ 6 - 1)
    × (largest_claim ≡ 2 ^ 20 - 1)
    × (most_claim_width ≡ 1 + 20)
    × (largest_expense ≡ 2 ^ 20 - 1)
    × (most_risk_losses ≡ 63 * 1048575)
    × (most_group_losses ≡ 255 * 66060225)
    × (most_risk_bits ≡ 6 + 63 * 21)
    × (most_file_bits ≡ 128 + 255 * 1329)
    × (largest_file ≡ (339023 + 7) / 8)
    × (most_dollars ≡ 6 * 66060225)
    × (most_shared ≡ 1000 * (1048575 + 66060225))

pub size_case : SizeCase
size_case = (refl, refl, refl, refl, refl, refl, refl, refl, refl, refl, refl, refl, refl)

abbrev pub BoundCase : Type 0
BoundCase =
    ((h : Header) (n : ℕ) → HeaderSound h n
    → (1 ≤ h.standard_premium)
    × (1000 ≤ h.conversion)
    × (h.conversion ≤ 2000)
    × (10000 ≤ h.tax)
    × (h.tax ≤ 20000)
    × (h.maximum_mark ≤ 6000)
    × (h.minimum_mark ≤ 6000)
    × (h.minimum_mark ≤ h.maximum_mark)
    × (1 ≤ n))
    × ((h : Header) (rs : List Losses) → GroupBounds h rs
    → HeaderSound h (length rs)
    × (h.standard_premium < 2 ^ 22)
    × (h.expense < 2 ^ 20)
    × (length rs ≤ 255)
    × (SA rs ≤ SL rs)
    × (SL rs ≤ 66060225 * length rs))
    × ((t : Terms) → TermsBounds t
    → (1 ≤ t.risks)
    × (t.risks ≤ 255)
    × (t.conversion ≤ 2000)
    × (t.tax ≤ 20000)
    × (nat_abs t.basic + t.excess ≤ 67108800000 * t.risks)
    × (t.maximum ≤ 396361350))

pub bound_case : BoundCase
bound_case = (
  λ h n b. (b.premium, b.conversion, b.conversion_most, b.tax, b.tax_most, b.maximum, b.minimum, b.marks_in_order, b.risks),
  λ h rs b. (b.sound, b.premium, b.expense, b.risks, b.limited, b.total),
  λ t b. (b.some, b.few, b.conversion, b.tax, b.shared, b.maximum),
)
