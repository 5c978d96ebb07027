-- From 1,000 on it is 1,000, below 1 and at a NaN 0, and between the fraction is cut off.
use Rattle.std.proofs.Common.{◌≡◌, Bool, true, false, sym, ap, ◌∙◌, arith}
use lib.Ieee.{Float, binary64, of_bits, le}
use Rattle.plan.specs.Doubles.{whole, at_most}
use Rattle.laws.proofs.Thousandths.{CutOff, from-the-top, between, below_one}
use Rattle.table1965.proofs.Literals.{one, thousand}
use Rattle.table1965.proofs.charges.greatest.Goals as goal

-- the code's tests as the definitions'
at_one : (y : Float) (b : Bool) → le (of_bits binary64 0x3ff0_0000_0000_0000) y ≡ b
    → at_most (whole 1) y ≡ b
at_one y b t = ap (λ (x : Float). le x y) (sym one) ∙ t

at-thousand : (y : Float) (b : Bool) → le (of_bits binary64 0x408f_4000_0000_0000) y ≡ b
    → at_most (whole 1000) y ≡ b
at-thousand y b t = ap (λ (x : Float). le x y) (sym thousand) ∙ t

cut : (y : Float) → le (of_bits binary64 0x3ff0_0000_0000_0000) y ≡ true
    → le (of_bits binary64 0x408f_4000_0000_0000) y ≡ false → CutOff y
cut y t u = between y (at_one y true t) (at-thousand y false u)

pub returns-then-y : goal.returns-then-y
returns-then-y c = sym (from-the-top c.args.y (at-thousand c.args.y true c.if-y.true))

pub truncating_f64_to_u64-requires-clause-lower_bound : goal.truncating_f64_to_u64-requires-clause-lower_bound
truncating_f64_to_u64-requires-clause-lower_bound c = (cut c.args.y c.if-y-2.true c.if-y.false).above

pub truncating_f64_to_u64-requires-clause-upper_bound : goal.truncating_f64_to_u64-requires-clause-upper_bound
truncating_f64_to_u64-requires-clause-upper_bound c = (cut c.args.y c.if-y-2.true c.if-y.false).below

pub overflow_cast-result : goal.overflow_cast-result
overflow_cast-result c =
    omega (arith, (cut c.args.y c.if-y-2.true c.if-y.false).most, c.truncating_f64_to_u64.ensures)

pub returns-then-y-2 : goal.returns-then-y-2
returns-then-y-2 c = c.truncating_f64_to_u64.ensures ∙ (cut c.args.y c.if-y-2.true c.if-y.false).is

pub returns : goal.returns
returns c = sym (below_one c.args.y (at_one c.args.y false c.if-y-2.false))
