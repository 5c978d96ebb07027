-- The definition takes c × SL away and adds 1,000 × SL, the code takes (c − 1,000) × SL away: M is the
-- difference of the code's two sums.
use Rattle.std.proofs.Common.{◌≡◌, refl, sym, ap, ◌∙◌, arith, false, ℕ, ◌+◌, ◌-◌, ◌*◌, ◌<◌, ◌≤◌, Option, Some, None}
use Rattle.std.proofs.Math.Nat.{add-mul, lt_of_not-le}
use Rattle.std.proofs.Math.IntN.{ℤ, pos, negsuc}
use Rattle.std.specs.Option.{SomeIff}
use Rattle.std.specs.Int.Signed.{non_neg}
use Rattle.plan.specs.Basic.{basic_of}
use Rattle.laws.proofs.Differences.{Differs, of-pos, same}
use Rattle.laws.proofs.Balance.{basic-differs}
use Rattle.steps.specs.Basic.{BasicBounds, basic_is}
use Rattle.steps.proofs.basic.basic_of.Goals as goal

negative : (z : ℤ) {a b : ℕ} → Differs z a b → a < b → non_neg z ≡ false
negative (pos m) d h = absurd (omega arith)
negative (negsuc m) d h = refl

differs : {n e c sl sx ss : ℕ} → BasicBounds n e c sl sx ss
    → Differs (basic_of n e c sl sx ss) (1000 * n * e + c * sx) ((c - 1000) * sl + c * ss)
differs {n} {e} {c} {sl} {sx} {ss} b =
    let k : c - 1000 + 1000 ≡ c = omega (arith, b.conversion) in
    let s : (c - 1000) * sl + 1000 * sl ≡ c * sl =
    sym (add-mul (c - 1000) 1000 sl) ∙ ap (λ (x : ℕ). x * sl) k in
    record { is = omega (arith, (basic-differs n e c sl sx ss).is, s) }

-- what is left, or nothing where more is taken away than added
left : (r : Option ℕ) {z : ℤ} {a b : ℕ} → Differs z a b → SomeIff r (b ≤ a) (a - b) → basic_is r z
left None {z} d none = negative z d (lt_of_not-le none)
left (Some m) {z} d some = same (pos m) z (of-pos m) d (omega (arith, some.0, some.1))

pub returns : goal.returns
returns c = left c.checked_sub.result (differs c.requires) c.checked_sub.ensures
