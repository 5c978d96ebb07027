-- From a test that the code makes to document 02's answer: questions 20 and 21 in their order, or the charge. Assumes nothing.
use Rattle.std.proofs.Common.{◌≡◌, [], refl, ℕ, ◌<◌, ◌≤◌, Bool, true, false, ◌&&◌, leb, sym, ap, ◌∙◌, subst, le-leb, Ok, Err}
use borrow.Author.Tests.{lt-leb, leb-true}
use lib.Ieee.{Float}
use Rattle.plan.specs.Call.{given}
use Rattle.plan.specs.Matrix.{first_column, last_column}
use Rattle.plan.specs.Charge.{charge_double, thousandths, charge1965, last_ratio, OnTable, Within, exact_numerator, exact_denominator, charge_call}
use Rattle.laws.proofs.Tests.{both}
use Rattle.laws.proofs.Thousandths.{at_one}
use Rattle.table1965.proofs.Within.{within}
use Rattle.table1965.specs.Charges.{ChargeIs, charged_is}
use Rattle.table1965.specs.declared.charges.Charge1965.{Charge1965}
use Rattle.group.specs.Says.{Says}
use Rattle.group.proofs.Laws.{alone}
use Rattle.group.specs.declared.Refusal.TheVariants as variants

module _ (column r : ℕ) where
  -- that the column is carried, and whether it is
  abbrev pub Carried : Type 0
  Carried = (first_column ≤ column) × (column ≤ last_column)

  abbrev carried : Bool
  carried = leb first_column column && leb column last_column

  not-carried : (Carried → ⊥) → (b : Bool) → carried ≡ b → carried ≡ false
  not-carried h false e = e
  not-carried h true e =
      let b = both (leb first_column column) (leb column last_column) e in
      absurd (h (leb-true first_column column b.0, leb-true column last_column b.1))

  pub outside : (Carried → ⊥) → Says (charge1965 column r) (λ c. c) charged_is (Err variants.Column) []
  unfolding charge_call
  outside h = alone (simp (not-carried h carried refl))

  module _ (in_table : Carried) where
    first : leb first_column column ≡ true
    first = le-leb first_column column in_table.0

    last : leb column last_column ≡ true
    last = le-leb column last_column in_table.1

    pub above-ratio : last_ratio < r → Says (charge1965 column r) (λ c. c) charged_is (Err variants.TableRatio) []
    unfolding charge_call
    above-ratio h = alone (simp (first, last, lt-leb r last_ratio h))

    module _ (b : r ≤ last_ratio) (t : Charge1965) (is : ChargeIs column r t) where
      pub given_is : Says (charge1965 column r) (λ c. c) charged_is (Ok t) []
      unfolding charge_call
      given_is =
          alone (simp (first, last, le-leb r last_ratio b)
          (λ i. given (record { unrounded = is.charge_is i; in_thousandths = is.thousandths_are i })))

      pub on-table : OnTable column r t.unrounded t.thousandths
      on-table = record {
        within = subst (λ (x : Float). Within x exact_numerator (exact_denominator column r)) (sym is.charge_is) (within column r in_table.0 in_table.1 b);
        tenfold =
            λ e. is.thousandths_are ∙ ap (λ (k : ℕ). thousandths k (charge_double column k)) e ∙ at_one column in_table.0 in_table.1;
      }
