-- Demand 3, of every file that Rate does not refuse. The total and 'no other basic' are the balance of the plan; the sum billed
-- is within half a dollar a risk since each bill is; and the buffer holds the bills since each fits 32 bits. Assumes nothing.
use mathlib.Core.Path.{◌≡◌, refl, sym, ap, ◌∙◌, subst}
use mathlib.Core.List.{List, [], ◌∷◌, ◌++◌, map}
use mathlib.Core.Logic.{◌≢◌}
use Prim.Native.Nat.{ℕ, ◌+◌, ◌*◌, ◌^◌, ◌<◌}
use native.Mathlib.Omega.{arith}
use native.Mathlib.Nat.{lt_trans}
use lib.Dec.{lit<}
use lib.IntN.{ℤ, pos, ◌+ℤ◌, nat_abs}
use lib.Signed.{◌≤ℤ◌}
use lib.ListN.{length, drop, length-map}
use Rattle.plan.specs.Arithmetic.{sum_of, sum}
use Rattle.plan.specs.Field.{slots, bytes_of, Fitting}
use Rattle.plan.specs.Header.{Header, header_of, risk_count}
use Rattle.plan.specs.Losses.{Losses, losses_in, SL}
use Rattle.plan.specs.Ratable.{ratable}
use Rattle.plan.specs.Basic.{basic_premium, excess_charge}
use Rattle.plan.specs.Premium.{terms_of, billed_premium, billed_premiums}
use Rattle.plan.specs.Demand3.{Demand3, numbers_in, total_with, taxed_expenses_and_losses}
use Rattle.plan.specs.Questions.{rating_questions, rate_enough, question13}
use Rattle.plan.specs.Bounds.{GroupBounds}
use Rattle.plan.specs.Call.{Answer, given, filled, buffer_after}
use Rattle.plan.specs.Calls.{Rated, rated_of, rate, premium_bytes, rate_call}
use Rattle.laws.proofs.Sums.{sum-map, sum-mul, sum_z-pos}
use Rattle.laws.proofs.Differences.{pos-≤}
use Rattle.laws.proofs.Fields.{fields-same, bit-append}
use Rattle.laws.proofs.Written.{width-slots, slots-laid, bytes_of-laid, length-bytes_of}
use Rattle.laws.proofs.Calls.{given-by}
use Rattle.laws.proofs.Questions.{passed-both, BalanceSound, RatingSound, rating-sound}
use Rattle.laws.proofs.Rounding.{Within, sum-within}
use Rattle.laws.proofs.Balance.{premium_total, balance, total-injective}
use Rattle.laws.proofs.Losses.{length-losses}
use Rattle.laws.proofs.FileSizes.{group-bounds}
use Rattle.laws.proofs.GroupSizes.{terms-bounds}
use Rattle.laws.proofs.Bills.{premium-within, bill-lt}

-- ---- numbers of 32 bits in a buffer

pub fitting-map : {A : Type 0} (w : ℕ) (f : A → ℕ) → ((x : A) → f x < 2 ^ w) → (l : List A) → Fitting (slots w (map f l))
fitting-map w f h [] = tt
fitting-map w f h (x ∷ xs) = (h x, fitting-map w f h xs)

-- n numbers written at the start of a buffer are its first n numbers
pub numbers-written : (ps rest : List ℕ) → Fitting (slots 32 ps) → numbers_in (bytes_of (slots 32 ps) ++ rest) (length ps) ≡ ps
numbers-written ps rest f =
    fields-same (bytes_of (slots 32 ps) ++ rest) (bytes_of (slots 32 ps)) 0 32 (length ps)
    (λ k lo hi. bit-append (bytes_of (slots 32 ps)) rest k (omega (arith, length-bytes_of (slots 32 ps), width-slots 32 ps)))
    ∙ slots-laid (bytes_of (slots 32 ps)) 0 32 ps (bytes_of-laid (slots 32 ps) f)

-- ---- the total, in naturals

module _ (h : Header) (rs : List Losses) (b : GroupBounds h rs) (sound : BalanceSound h rs) (m : ℕ) (is : pos m ≡ basic_premium h rs) where
  -- the tax multiplier times all expense provisions and all losses
  abbrev cost : ℕ
  cost = 1000 * length rs * h.tax * (length rs * h.expense + SL rs)

  abbrev total_for : ℤ → ℤ
  total_for z = premium_total (length rs) h.conversion h.tax (excess_charge h rs) (ratable h rs) rs z

  total_is : total_for (pos m) ≡ pos cost
  total_is = ap total_for is ∙ balance h rs b

  no_other : (z : ℤ) → z ≢ pos m → total_for z ≢ pos cost
  no_other z ne e =
      ne (total-injective (length rs) h.conversion h.tax (excess_charge h rs) (ratable h rs) rs
      (omega (arith, b.sound.tax)) b.sound.risks z (pos m) (e ∙ sym total_is))

  -- a risk's unrounded premium
  abbrev premium_of : Losses → ℕ
  premium_of r = h.tax * (m + excess_charge h rs + length rs * h.conversion * ratable h rs r)

  each_within : (r : Losses) → Within (10000000 * length rs * billed_premium h rs r) (premium_of r) (5000000 * length rs)
  unfolding ratable
  each_within r = premium-within (terms_of h rs) (terms-bounds h rs b sound) m is r.limited

  billed-within : Within (10000000 * length rs * sum (billed_premiums h rs)) cost (5000000 * length rs * length rs)
  billed-within =
      let w = sum-within (5000000 * length rs) (λ r. 10000000 * length rs * billed_premium h rs r) premium_of each_within rs in
      let left : sum_of (λ r. 10000000 * length rs * billed_premium h rs r) rs ≡ 10000000 * length rs * sum (billed_premiums h rs) =
      sum-mul (10000000 * length rs) (billed_premium h rs) rs
      ∙ ap (λ (x : ℕ). 10000000 * length rs * x) (sym (sum-map (λ x. x) (billed_premium h rs) rs)) in
      let right : sum_of premium_of rs ≡ cost = ap nat_abs (sym (sum_z-pos premium_of rs) ∙ total_is) in
      record { low = omega (arith, w.low, left, right); high = omega (arith, w.high, left, right) }

-- ---- demand 3

-- for the group of the file, over n as the header has it
demanded : (s old : List ℕ) (m : ℕ) → RatingSound s → pos m ≡ basic_premium (header_of s) (losses_in s)
    → Demand3 s m (excess_charge (header_of s) (losses_in s)) (sum (billed_premiums (header_of s) (losses_in s)))
    (filled (bytes_of (slots 32 (billed_premiums (header_of s) (losses_in s)))) old)
unfolding total_with taxed_expenses_and_losses
demanded s old m f is =
    let h = header_of s in
    let rs = losses_in s in
    let b : GroupBounds h rs = group-bounds s f.losses.file in
    let sound : BalanceSound h rs = f.balance in
    let n : length rs ≡ risk_count s = length-losses s in
    let ps : List ℕ = billed_premiums h rs in
    let count : length ps ≡ risk_count s = length-map rs (billed_premium h rs) ∙ n in
    let bytes : List ℕ = filled (bytes_of (slots 32 ps)) old in
    let fits : Fitting (slots 32 ps) =
    fitting-map 32 (billed_premium h rs) (λ r. lt_trans (bill-lt (terms_of h rs) (terms-bounds h rs b sound) m is r.limited) (lit< tt)) rs in
    let numbers : numbers_in bytes (risk_count s) ≡ ps =
    ap (numbers_in bytes) (sym count) ∙ numbers-written ps (drop (length (bytes_of (slots 32 ps))) old) fits in
    let cost-at : ℕ → ℕ = λ (k : ℕ). 1000 * k * h.tax * (k * h.expense + SL rs) in
    let total-at : ℕ → ℤ → ℤ = λ (k : ℕ) (z : ℤ). premium_total k h.conversion h.tax (excess_charge h rs) (ratable h rs) rs z in
    let total : total-at (risk_count s) (pos m) ≡ pos (cost-at (risk_count s)) =
    subst (λ (k : ℕ). total-at k (pos m) ≡ pos (cost-at k)) n (total_is h rs b sound m is) in
    let within : Within (10000000 * risk_count s * sum ps) (cost-at (risk_count s)) (5000000 * risk_count s * risk_count s) =
    subst (λ (k : ℕ). Within (10000000 * k * sum ps) (cost-at k) (5000000 * k * k)) n
    (billed-within h rs b sound m is) in
    record {
      basic_after = is;
      excess_is = refl;
      premiums_are = numbers;
      billed_is = ap sum (sym numbers);
      total = total;
      no_other =
          subst (λ (k : ℕ). (z : ℤ) → z ≢ pos m → total-at k z ≢ pos (cost-at k)) n (no_other h rs b sound m is);
      not_above =
          subst (λ (z : ℤ). pos (10000000 * risk_count s * sum ps) ≤ℤ (z +ℤ pos (5000000 * risk_count s * risk_count s)))
          (sym total) (pos-≤ within.low);
      not_below =
          subst (λ (z : ℤ). z ≤ℤ pos (10000000 * risk_count s * sum ps + 5000000 * risk_count s * risk_count s))
          (sym total) (pos-≤ within.high);
    }

-- of whatever Rate gives: the M, Q and sum, and the lent buffer after the call
pub demand3 : (s old : List ℕ) (r : Rated) (m : ℕ) → rate s (length old) ≡ given r → pos m ≡ r.basic
    → Demand3 s m r.excess r.billed (buffer_after premium_bytes (rate s (length old)) old)
unfolding rate_call rated_of
demand3 s old r m e is =
    let p = given-by (rate_call s (length old)) e in
    let f : RatingSound s =
    rating-sound s (passed-both (rating_questions s) (question13 (rate_enough s (length old)) ∷ []) p.0).0 in
    let d = demanded s old m f (is ∙ ap (λ (x : Rated). x.basic) (sym p.1)) in
    subst (λ (a : Answer Rated). Demand3 s m r.excess r.billed (buffer_after premium_bytes a old)) (sym e)
    (subst (λ (x : Rated). Demand3 s m x.excess x.billed (buffer_after premium_bytes (given x) old)) p.1 d)
