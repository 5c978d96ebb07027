-- Table's answer from the verdict of its questions; and its numbers as the code has them are those of the file's group: the
-- numerators, the divisor, and the bounds within which they are computed. Assumes nothing.
use Rattle.std.proofs.Common.{◌≡◌, refl, sym, ap, ap₂, ◌∙◌, Bool, List, [], ◌∷◌, ℕ, ◌+◌, ◌*◌, ◌^◌, ◌≤◌, ◌<◌, leb, length, arith}
use Rattle.std.proofs.Math.Nat.{mul-le-mul, mul-pos}
use Rattle.plan.specs.Arithmetic.{sum_of, above, below, nearest}
use Rattle.plan.specs.Sizes.{most_risks, most_group_losses, most_ratio}
use Rattle.plan.specs.Header.{header_of}
use Rattle.plan.specs.Losses.{Losses, losses_in, SA}
use Rattle.plan.specs.Questions.{ask, Verdict, passed, first_no, or_else, loss_questions, question14}
use Rattle.plan.specs.Table.{charge_sum, savings_sum, charge, savings}
use Rattle.plan.specs.Bounds.{GroupBounds}
use Rattle.plan.specs.Call.{answer}
use Rattle.plan.specs.Calls.{Tabled, table, table_call}
use Rattle.laws.proofs.Calls.{answered}
use Rattle.laws.proofs.Questions.{after-gate, loss-sound}
use Rattle.laws.proofs.FileSizes.{group-bounds}
use Rattle.laws.proofs.Curve.{savings-charge}
use Rattle.laws.proofs.TableSizes.{losses-le, charge-le, savings-le, charge-lt, savings-lt}
use Rattle.tables.specs.Tables.{ThousandthsBounds}

-- ---- the answer

module _ (s : List ℕ) (r : ℕ) where
  abbrev pub ratios : Tabled
  ratios = record { charge = charge (losses_in s) r; savings = savings (losses_in s) r }

  -- the gate's No, else that of 14
  pub tabled : {v : Verdict} {b : Bool} → first_no (loss_questions s) ≡ v → leb r most_ratio ≡ b
      → answer (or_else v (first_no (ask 14 b ∷ []))) ratios ≡ table s r
  unfolding table_call
  tabled {v} e f =
      sym (answered ratios
      (after-gate (loss_questions s) (question14 r ∷ []) e ∙ ap (λ (b : Bool). or_else v (first_no (ask 14 b ∷ []))) f))

-- ---- the numbers, of n risks with limited losses sa in all

-- what the code has at hand once questions 1 to 10 and 14 have passed
pub record AtHand (s : List ℕ) (r n sa : ℕ) (rs : List Losses) : Type 0 where
  pub passes : first_no (loss_questions s) ≡ passed
  pub ratio : r ≤ most_ratio
  pub n_is : n ≡ length (losses_in s)
  pub sa_is : sa ≡ SA (losses_in s)
  pub each : rs ≡ losses_in s

module _ {s : List ℕ} {r n sa : ℕ} {rs : List Losses} (x : AtHand s r n sa rs) where
  bounds : GroupBounds (header_of s) (losses_in s)
  bounds = group-bounds s (loss-sound s x.passes).file

  count : n ≡ length (losses_in s)
  count = x.n_is

  some : 1 ≤ SA (losses_in s)
  some = (loss-sound s x.passes).some

  half_is : 50 * n * sa ≡ 50 * length (losses_in s) * SA (losses_in s)
  half_is = ap₂ (λ (x y : ℕ). 50 * x * y) count x.sa_is

  divisor-is : 2 * (50 * n * sa) ≡ 100 * length (losses_in s) * SA (losses_in s)
  divisor-is = omega (arith, half_is)

  pub risks-few : n ≤ most_risks
  risks-few = omega (arith, count, bounds.risks)

  -- m is the r that the code has
  pub entry-fits : {m : ℕ} → m ≡ r → m * sa < 2 ^ 44
  entry-fits {m} e =
      let low : m ≤ most_ratio = omega (arith, e, x.ratio) in
      let most : sa ≤ most_group_losses = omega (arith, x.sa_is, losses-le (header_of s) (losses_in s) bounds r x.ratio) in
      omega (arith, mul-le-mul low most)

  pub half-fits : 2 * (50 * n * sa) < 2 ^ 64
  half-fits = omega (arith, half_is, charge-lt (header_of s) (losses_in s) bounds r x.ratio)

  pub charge-sum : {m v : ℕ} → m ≡ r → v ≡ sum_of (λ a. above (100 * n * a.limited) (m * sa)) rs → v ≡ charge_sum (losses_in s) r
  unfolding charge_sum
  charge-sum e is = is ∙ (λ i. sum_of (λ (a : Losses). above (100 * count i * a.limited) (e i * x.sa_is i)) (x.each i))

  pub savings-sum : {m v : ℕ} → m ≡ r → v ≡ sum_of (λ a. below (100 * n * a.limited) (m * sa)) rs → v ≡ savings_sum (losses_in s) r
  unfolding savings_sum
  savings-sum e is = is ∙ (λ i. sum_of (λ (a : Losses). below (100 * count i * a.limited) (e i * x.sa_is i)) (x.each i))

  half-some : 0 < 50 * n * sa
  half-some =
      let p : 0 < length (losses_in s) * SA (losses_in s) = mul-pos bounds.sound.risks some in
      omega (arith, half_is, p)

  pub charge-bounds : {v : ℕ} → v ≡ charge_sum (losses_in s) r → ThousandthsBounds v (50 * n * sa) (2 * (50 * n * sa))
  charge-bounds {v} e = record {
    halves = refl;
    some = half-some;
    fits = omega (arith, e, half_is, charge-lt (header_of s) (losses_in s) bounds r x.ratio);
    most = omega (arith, e, divisor-is, charge-le (header_of s) (losses_in s) bounds r x.ratio);
  }

  pub savings-bounds : {v : ℕ} → v ≡ savings_sum (losses_in s) r → ThousandthsBounds v (50 * n * sa) (2 * (50 * n * sa))
  savings-bounds {v} e = record {
    halves = refl;
    some = half-some;
    fits = omega (arith, e, half_is, savings-lt (header_of s) (losses_in s) bounds r x.ratio);
    most = omega (arith, e, divisor-is, savings-le (header_of s) (losses_in s) bounds r x.ratio);
  }

  pub charge_is : {v : ℕ} → v ≡ charge_sum (losses_in s) r → nearest (1000 * v) (2 * (50 * n * sa)) ≡ charge (losses_in s) r
  unfolding charge
  charge_is e = ap₂ (λ (v d : ℕ). nearest (1000 * v) d) e divisor-is

  pub savings_is : {v : ℕ} → v ≡ savings_sum (losses_in s) r → nearest (1000 * v) (2 * (50 * n * sa)) ≡ savings (losses_in s) r
  unfolding savings
  savings_is e = ap₂ (λ (v d : ℕ). nearest (1000 * v) d) e divisor-is

  -- the two lie on one curve, after rounding too
  pub on-curve : {v w : ℕ} → v ≡ charge (losses_in s) r → w ≡ savings (losses_in s) r → w + 1000 ≡ v + 10 * r
  on-curve e f = omega (arith, e, f, savings-charge (losses_in s) r bounds.sound.risks some)
