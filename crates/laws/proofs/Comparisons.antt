-- Guaranteed cost beside the retro premium, of every file that the call does not refuse. Its questions begin with Rate's, so what
-- Rate gives on the file is what the call gives of it; the differences add up to the sum billed less n times guaranteed cost, since
-- each takes guaranteed cost once. Assumes nothing.
use mathlib.Core.Path.{◌≡◌, refl, sym, ap, ◌∙◌, subst}
use mathlib.Core.Bool.{true}
use mathlib.Core.List.{List, [], ◌∷◌, map}
use Prim.Native.Nat.{ℕ, ◌+◌, ◌*◌, ◌^◌, ◌≤◌, ◌<◌}
use native.Mathlib.Nat.{mul-le-mul}
use native.Mathlib.Omega.{arith}
use borrow.Author.Tests.{leb-true, le-leb}
use lib.Dec.{T}
use lib.IntN.{ℤ, pos, negsuc, nat_abs, ◌-ℤ◌}
use lib.Signed.{◌≤ℤ◌, ◌<ℤ◌, pos-nat_abs}
use lib.ListN.{length, take, length-map}
use Rattle.plan.specs.Arithmetic.{sum_of, sum, sum_z}
use Rattle.plan.specs.Sizes.{most_risks}
use Rattle.plan.specs.Header.{header_of, risk_count}
use Rattle.plan.specs.Losses.{Losses, losses_in}
use Rattle.plan.specs.Basic.{basic_premium}
use Rattle.plan.specs.Premium.{terms_of, billed_premium, billed_premiums}
use Rattle.plan.specs.Bounds.{GroupBounds}
use Rattle.plan.specs.Demand3.{numbers_in}
use Rattle.plan.specs.Questions.{passed, first_no, rating_questions, rate_questions, rate_enough, question13}
use Rattle.plan.specs.Call.{Answer, given, filled, buffer_after}
use Rattle.plan.specs.Calls.{Rated, rated_of, rate, premium_bytes, rate_call}
use Rattle.plan.specs.Discount.{Layer, guaranteed_cost, rates_pass}
use Rattle.plan.specs.Comparison.{differences_of, compare_enough, schedule_questions, compare_questions, compare_call}
use Rattle.plan.specs.Comparison.{Comparison, comparison_of, compare, numbers_of, Sized, Beside}
use Rattle.laws.proofs.Tests.{both}
use Rattle.laws.proofs.Differences.{Differs, of-pos, of-add, of-minus, same, between}
use Rattle.laws.proofs.Filled.{first-filled}
use Rattle.laws.proofs.Losses.{length-losses}
use Rattle.laws.proofs.Calls.{given-by, answered}
use Rattle.laws.proofs.Questions.{passed-both, after-gate, goes_on, yes-to}
use Rattle.laws.proofs.Questions.{RatingSound, rating-sound}
use Rattle.laws.proofs.Sums.{sum-map, sum-const, sum-le}
use Rattle.laws.proofs.FileSizes.{group-bounds}
use Rattle.laws.proofs.GroupSizes.{terms-bounds}
use Rattle.laws.proofs.Bills as bills
use Rattle.laws.proofs.Discounts as discounts
use Rattle.laws.proofs.Demand3.{demand3}

-- ---- the sum of the differences

pub added : (cost : ℕ) (bills : List ℕ) → Differs (sum_z (λ z. z) (differences_of cost bills)) (sum bills) (length bills * cost)
added cost [] = record { is = omega arith }
added cost (b ∷ bs) =
    let d = of-add (pos b -ℤ pos cost) (sum_z (λ z. z) (differences_of cost bs)) (of-minus (pos b) (pos cost) (of-pos b) (of-pos cost)) (added cost bs) in
    record { is = omega (arith, d.is) }

-- the sum billed less guaranteed cost as often as there are bills
pub differences-total : (cost : ℕ) (bills : List ℕ)
    → sum_z (λ z. z) (differences_of cost bills) ≡ pos (sum bills) -ℤ pos (length bills * cost)
differences-total cost bills =
    same (sum_z (λ z. z) (differences_of cost bills)) (pos (sum bills) -ℤ pos (length bills * cost)) (added cost bills)
    (of-minus (pos (sum bills)) (pos (length bills * cost)) (of-pos _) (of-pos _)) (omega arith)

-- ---- a call that is not refused

module _ (s : List ℕ) (ls : List Layer) (premiums_room differences_room : ℕ) (c : Comparison)
    (gave : compare s ls premiums_room differences_room ≡ given c) where
  asked : first_no (compare_questions s ls premiums_room differences_room) ≡ passed
  unfolding compare_call
  asked = (given-by (compare_call s ls premiums_room differences_room) gave).0

  pub is : comparison_of ls (header_of s) (losses_in s) ≡ c
  unfolding compare_call
  is = (given-by (compare_call s ls premiums_room differences_room) gave).1

  rates : rates_pass ls ≡ true
  rates = yes-to 16 (compare_questions s ls premiums_room differences_room) refl asked

  -- Rate, with any buffer that is long enough
  pub rate-gives : (room : ℕ) → 4 * risk_count s ≤ room → rate s room ≡ given c.rated
  unfolding rate_call comparison_of
  rate-gives room h =
      let gate = (passed-both (rating_questions s) (question13 (compare_enough s premiums_room differences_room) ∷ schedule_questions ls) asked).0 in
      let all : first_no (rate_questions s room) ≡ passed =
      after-gate (rating_questions s) (question13 (rate_enough s room) ∷ []) gate ∙ goes_on 13 [] (le-leb _ _ h) in
      answered (rated_of (header_of s) (losses_in s)) all
      ∙ ap (λ (x : Comparison). given x.rated) is

-- ---- sizes, of a call that is not refused

module _ (s : List ℕ) (ls : List Layer) (premiums_room differences_room : ℕ) (c : Comparison)
    (gave : compare s ls premiums_room differences_room ≡ given c) where
  sound : RatingSound s
  sound =
      rating-sound s
      (passed-both (rating_questions s) (question13 (compare_enough s premiums_room differences_room) ∷ schedule_questions ls)
      (asked s ls premiums_room differences_room c gave)).0

  bounds : GroupBounds (header_of s) (losses_in s)
  bounds = group-bounds s sound.losses.file

  cost-most : guaranteed_cost ls (header_of s).standard_premium ≤ 4194303
  cost-most =
      omega (
        arith,
        discounts.less_discount ls (rates s ls premiums_room differences_room c gave) (header_of s).standard_premium,
        bounds.premium,
      )

  bill-lt : (r : Losses) → billed_premium (header_of s) (losses_in s) r < 2 ^ 31
  bill-lt r =
      bills.bill-lt (terms_of (header_of s) (losses_in s)) (terms-bounds (header_of s) (losses_in s) bounds sound.balance)
      (nat_abs (basic_premium (header_of s) (losses_in s)))
      (pos-nat_abs (basic_premium (header_of s) (losses_in s)) (subst T (sym sound.balance.not_negative) tt)) r.limited

  -- each difference is from −4,194,303 to below 2 ^ 31
  each-between : (r : Losses)
      → let z = pos (billed_premium (header_of s) (losses_in s) r) -ℤ pos (guaranteed_cost ls (header_of s).standard_premium) in
      (negsuc 4194302 ≤ℤ z) × (z <ℤ pos 2147483648)
  each-between r =
      let b = billed_premium (header_of s) (losses_in s) r in
      let g = guaranteed_cost ls (header_of s).standard_premium in
      between (pos b -ℤ pos g) (of-minus (pos b) (pos g) (of-pos b) (of-pos g)) (omega (arith, bill-lt r)) (omega (arith, cost-most))

  each-sized : (rs : List Losses) → Sized (differences_of (guaranteed_cost ls (header_of s).standard_premium) (map (billed_premium (header_of s) (losses_in s)) rs))
  each-sized [] = tt
  each-sized (r ∷ rs) = ((each-between r).0, (each-between r).1, each-sized rs)

  all-sized : Sized c.differences
  unfolding comparison_of
  all-sized = subst (λ (x : Comparison). Sized x.differences) (is s ls premiums_room differences_room c gave) (each-sized (losses_in s))

  -- and their sum from −1,069,547,265 to below 547,608,330,240
  sum-between : (negsuc 1069547264 ≤ℤ c.difference) × (c.difference <ℤ pos 547608330240)
  unfolding comparison_of
  sum-between =
      let h = header_of s in
      let rs = losses_in s in
      let g = guaranteed_cost ls h.standard_premium in
      let ps : List ℕ = billed_premiums h rs in
      let n : length ps ≡ length rs = length-map rs (billed_premium h rs) in
      let most : sum ps ≤ length rs * 2147483647 =
      subst (λ (x : ℕ). x ≤ length rs * 2147483647) (sym (sum-map (λ x. x) (billed_premium h rs) rs))
      (subst (λ (x : ℕ). sum_of (billed_premium h rs) rs ≤ x) (sum-const 2147483647 rs)
      (sum-le (billed_premium h rs) (λ r. 2147483647) (λ r. omega (arith, bill-lt r)) rs)) in
      let taken : length ps * g ≤ most_risks * 4194303 = mul-le-mul (subst (λ (k : ℕ). k ≤ most_risks) (sym n) bounds.risks) cost-most in
      let z = sum_z (λ z. z) (differences_of g ps) in
      let d : (negsuc 1069547264 ≤ℤ z) × (z <ℤ pos 547608330240) =
      between z (added g ps) (omega (arith, most, bounds.risks)) (omega (arith, taken)) in
      subst (λ (x : Comparison). (negsuc 1069547264 ≤ℤ x.difference) × (x.difference <ℤ pos 547608330240)) (is s ls premiums_room differences_room c gave) d

-- ---- all that is said of it

-- what such a call gives and leaves in its buffers
module _ (s : List ℕ) (ls : List Layer) (old_premiums : List ℕ) (old_differences : List ℤ) where
  abbrev left : Comparison → Type 0
  left c = Beside s (numbers_of c) (filled (premium_bytes c.rated) old_premiums) (filled c.differences old_differences)

  module _ (c : Comparison) (gave : compare s ls (length old_premiums) (length old_differences) ≡ given c) where
    enough : 4 * risk_count s ≤ length old_premiums
    enough =
        leb-true _ _
        (both _ _ (yes-to 13 (compare_questions s ls (length old_premiums) (length old_differences)) refl (asked s ls _ _ c gave))).0

    rated : rate s (length old_premiums) ≡ given c.rated
    rated = rate-gives s ls _ _ c gave (length old_premiums) enough

    pub beside : left c
    unfolding comparison_of rated_of
    beside =
        let h = header_of s in
        let rs = losses_in s in
        let m = nat_abs (basic_premium h rs) in
        let bills : List ℕ = billed_premiums h rs in
        let cost : ℕ = guaranteed_cost ls h.standard_premium in
        let all = is s ls _ _ c gave in
        let count : length bills ≡ risk_count s = length-map rs (billed_premium h rs) ∙ length-losses s in
        let t : List ℕ = filled (premium_bytes c.rated) old_premiums in
        let e : pos m ≡ c.rated.basic =
        pos-nat_abs (basic_premium h rs) (subst T (sym (sound s ls _ _ c gave).balance.not_negative) tt)
        ∙ ap (λ (x : Comparison). x.rated.basic) all in
        let d = demand3 s old_premiums c.rated m rated e in
        let numbers : numbers_in t (risk_count s) ≡ bills =
        ap (λ (a : Answer Rated). numbers_in (buffer_after premium_bytes a old_premiums) (risk_count s)) (sym rated) ∙ d.premiums_are in
        let differences : List ℤ = differences_of cost bills in
        let first : take (risk_count s) (filled c.differences old_differences) ≡ differences =
        ap (λ (x : Comparison). take (risk_count s) (filled x.differences old_differences)) (sym all)
        ∙ first-filled differences old_differences (sym (length-map bills (λ bill. pos bill -ℤ pos cost) ∙ count)) in
        let r = rates s ls _ _ c gave in
        record {
          discount_most = subst (λ (x : Comparison). x.discount ≤ h.standard_premium) all (discounts.discount_most ls r h.standard_premium);
          less_discount = subst (λ (x : Comparison). x.guaranteed + x.discount ≡ h.standard_premium) all (discounts.less_discount ls r h.standard_premium);
          differences_are =
              first
              ∙ ap (differences_of cost) (sym numbers)
              ∙ ap (λ (x : Comparison). differences_of x.guaranteed (numbers_in t (risk_count s))) all;
          sized =
              subst Sized (ap (λ (x : Comparison). x.differences) (sym all) ∙ sym first) (all-sized s ls _ _ c gave);
          sum_least = (sum-between s ls _ _ c gave).0;
          sum_most = (sum-between s ls _ _ c gave).1;
          summed = ap (λ (x : Comparison). x.difference) (sym all) ∙ ap (sum_z (λ z. z)) (sym first);
          billed_less_cost =
              ap (λ (x : Comparison). x.difference) (sym all)
              ∙ differences-total cost bills
              ∙ ap (λ (n : ℕ). pos (sum bills) -ℤ pos (n * cost)) (length-map rs (billed_premium h rs))
              ∙ ap (λ (x : Comparison). pos x.rated.billed -ℤ pos (x.rated.risks * x.guaranteed)) all;
          as_rated = λ room long.
              rate-gives s ls _ _ c gave room long
              ∙ (λ i. given (record {
                risks = c.rated.risks;
                basic = c.rated.basic;
                excess = c.rated.excess;
                billed = c.rated.billed;
                premiums = (ap (λ (x : Comparison). x.rated.premiums) (sym all) ∙ sym numbers) i;
              }));
        }
