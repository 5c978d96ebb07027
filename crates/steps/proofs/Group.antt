-- The numbers that the code has of a group are the group's: what its limited losses have above LG and lack below LH is SX and SS, so
-- the basic premium of these numbers is M, within the bounds in which the code computes it. Assumes nothing.
use Rattle.std.proofs.Common.{◌≡◌, ap, ◌∙◌, ℕ, ◌*◌, ◌-◌, length, arith}
use Rattle.std.proofs.Math.IntN.{pos}
use Rattle.plan.specs.Arithmetic.{sum_of, above, below}
use Rattle.plan.specs.Losses.{Losses}
use Rattle.plan.specs.Ratable.{SX, SS}
use Rattle.plan.specs.Basic.{basic_of, basic_premium, excess_charge}
use Rattle.plan.specs.Premium.{terms_of}
use Rattle.laws.proofs.Sums.{sum-ext}
use Rattle.laws.proofs.GroupSizes.{SA-le, SX-le, SS-le}
use Rattle.group.specs.Values.{header_is, losses_is, GroupIs, each_of}
use Rattle.group.specs.declared.Header.{Header}
use Rattle.group.specs.declared.GroupLosses.{GroupLosses}
use Rattle.group.proofs.Laws.{risks}
use Rattle.steps.specs.Basic.{BasicBounds}
use Rattle.steps.specs.Marks.{MarksAre}
use Rattle.steps.specs.declared.balance.MarkDollars.{MarkDollars}

-- n risks, and LG and LH of their group
module _ {h : Header} {g : GroupLosses} (b : GroupIs h g) {n : ℕ} (count : n ≡ length (each_of g))
    {m : MarkDollars} (marks : MarksAre (header_is h) (losses_is g) m) where
  n_is : n ≡ length (losses_is g)
  n_is = count ∙ risks b.losses

  -- the terms, once M is known
  pub terms-are : {basic excess c : ℕ} → pos basic ≡ basic_premium (header_is h) (losses_is g)
      → c ≡ h.conversion → excess ≡ c * (g.total - g.limited)
      → record {
        risks = n;
        conversion = h.conversion;
        tax = h.tax;
        basic = pos basic;
        excess = excess;
        minimum = m.minimum;
        maximum = m.maximum;
      }
      ≡ terms_of (header_is h) (losses_is g)
  unfolding excess_charge
  terms-are is e q =
      let charge = q ∙ (λ i. e i * (b.losses.total i - b.losses.limited i)) in
      λ i. record {
        risks = n_is i;
        conversion = h.conversion;
        tax = h.tax;
        basic = is i;
        excess = charge i;
        minimum = marks.minimum i;
        maximum = marks.maximum i;
      }

  -- what lies above LG and below LH, in all
  pub above_is : {mark sx : ℕ} → mark ≡ m.maximum → sx ≡ sum_of (λ r. above (1 * r.limited) mark) (losses_is g)
      → sx ≡ SX (header_is h) (losses_is g)
  unfolding SX
  above_is {mark} e is =
      is
      ∙ sum-ext _ (λ r. above r.limited mark) (λ r. omega arith) (losses_is g)
      ∙ ap (λ (x : ℕ). sum_of (λ (r : Losses). above r.limited x) (losses_is g)) (e ∙ marks.maximum)

  pub below_is : {mark ss : ℕ} → mark ≡ m.minimum → ss ≡ sum_of (λ r. below (1 * r.limited) mark) (losses_is g)
      → ss ≡ SS (header_is h) (losses_is g)
  unfolding SS
  below_is {mark} e is =
      is
      ∙ sum-ext _ (λ r. below r.limited mark) (λ r. omega arith) (losses_is g)
      ∙ ap (λ (x : ℕ). sum_of (λ (r : Losses). below r.limited x) (losses_is g)) (e ∙ marks.minimum)

  module _ {sx ss : ℕ} (sx_is : sx ≡ SX (header_is h) (losses_is g)) (ss_is : ss ≡ SS (header_is h) (losses_is g)) where
    pub basic-bounds : BasicBounds n h.expense h.conversion g.total sx ss
    basic-bounds =
        let p = header_is h in
        let rs = losses_is g in
        record {
          risks = omega (arith, n_is, b.bounds.risks);
          expense = b.bounds.expense;
          conversion = b.bounds.sound.conversion;
          conversion_most = b.bounds.sound.conversion_most;
          total = omega (arith, b.losses.total, b.bounds.total, b.bounds.risks);
          cut_off = omega (arith, sx_is, SX-le p rs b.bounds, SA-le p rs b.bounds, b.bounds.risks);
          made_up = omega (arith, ss_is, SS-le p rs b.bounds, b.bounds.risks);
        }

    -- the basic premium of these numbers is M
    pub basic_are : basic_of n h.expense h.conversion g.total sx ss ≡ basic_premium (header_is h) (losses_is g)
    unfolding basic_premium
    basic_are = λ i. basic_of (n_is i) h.expense h.conversion (b.losses.total i) (sx_is i) (ss_is i)
