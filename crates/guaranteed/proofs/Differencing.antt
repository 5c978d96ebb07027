-- The loop that puts the differences: the first i of them lie in the buffer, and their sum is what the bills so far come to less as
-- often guaranteed cost. Assumes nothing.
use Rattle.std.proofs.Common.{◌≡◌, sym, ap, ◌∙◌, subst, List, [], ◌∷◌, ◌++◌, ℕ, ◌+◌, ◌*◌, ◌^◌, ◌≤◌, ◌<◌}
use Rattle.std.proofs.Common.{ℤ, ◌+ℤ◌, ◌-ℤ◌, length, get_or, set, take, drop, drop-cons, add-one, arith}
use Rattle.std.proofs.lemmas.List.{length-map, map-append}
use Rattle.std.proofs.Math.IntN.{pos}
use lib.Signed.{mag}
use Rattle.std.proofs.Math.ListN.{drop_of_length-le}
use Rattle.std.proofs.Math.Nat.{mul-le-mul, le_of_lt}
use Rattle.std.proofs.Math.Seq.{take-suc, take-length, length-take-le}
use Rattle.plan.specs.Arithmetic.{sum, sum_z}
use Rattle.plan.specs.Sizes.{most_risks}
use Rattle.plan.specs.Call.{filled}
use Rattle.plan.specs.Comparison.{differences_of}
use Rattle.laws.proofs.Differences.{Differs, of-pos, of-add, of-minus, same, mag-lt}
use Rattle.laws.proofs.Filled.{filled_none, length-filled, filled_more}
use Rattle.laws.proofs.Comparisons.{added}
use Rattle.group.specs.Values.{losses_of}
use Rattle.group.specs.declared.Losses as declared_losses
use Rattle.steps.specs.declared.bill.Terms.{Terms}
use Rattle.rating.specs.Bills.{bills_of}

-- of the differences of bills, i are put and summed
pub record Differencing (bills : List ℕ) (cost : ℕ) (old : List ℤ) (i : ℕ) (so_far : ℤ) (present : List ℤ) : Type 0 where
  pub within : i ≤ length bills
  pub billed : ℕ
  pub billed_most : billed ≤ 2147483648 * i
  pub sums : billed + sum (drop i bills) ≡ sum bills
  pub so_far_is : Differs so_far billed (i * cost)
  pub puts : present ≡ filled (differences_of cost (take i bills)) old

-- a bill less guaranteed cost fits 64 bits
pub difference-fits : {a b : ℕ} → a < 2 ^ 32 → b < 2 ^ 32 → mag (pos a -ℤ pos b) < 2 ^ 63
difference-fits {a} {b} h k = mag-lt (pos a -ℤ pos b) (of-minus (pos a) (pos b) (of-pos a) (of-pos b)) (omega (arith, h)) (omega (arith, k))

module _ (t : Terms) (xs : List declared_losses.Losses) (cost : ℕ) (old : List ℤ) (few : length xs ≤ most_risks) (enough : length xs ≤ length old) where
  abbrev bills : List ℕ
  bills = bills_of t (losses_of xs)

  count : length bills ≡ length xs
  count = length-map (losses_of xs) _ ∙ length-map xs _

  pub differencing-starts : Differencing bills cost old 0 (pos 0) old
  differencing-starts = record {
    within = omega arith;
    billed = 0;
    billed_most = omega arith;
    sums = omega arith;
    so_far_is = record { is = omega arith };
    puts = filled_none old;
  }

  module _ {i : ℕ} {so_far : ℤ} {present : List ℤ} (w : Differencing bills cost old i so_far present) where
    put-length : length (differences_of cost (take i bills)) ≡ i
    put-length = length-map (take i bills) (λ bill. pos bill -ℤ pos cost) ∙ length-take-le i bills w.within

    pub same_length : length present ≡ length old
    same_length = ap length w.puts ∙ length-filled (differences_of cost (take i bills)) old (omega (arith, put-length, w.within, count, enough))

    module _ {bill : ℕ} (h : i < length xs) (is : bill ≡ get_or bills i 0) (small : bill < 2 ^ 31) {z : ℤ} (e : z ≡ pos bill -ℤ pos cost) where
      -- the sum with the next
      next : Differs (so_far +ℤ z) (w.billed + bill) ((i + 1) * cost)
      next =
          let one : Differs z (bill + 0) (0 + cost) =
          subst (λ (y : ℤ). Differs y (bill + 0) (0 + cost)) (sym e) (of-minus (pos bill) (pos cost) (of-pos bill) (of-pos cost)) in
          let x = of-add so_far z w.so_far_is one in
          record { is = omega (arith, x.is) }

      pub sum_fits : cost < 2 ^ 32 → mag (so_far +ℤ z) < 2 ^ 63
      sum_fits c =
          let turn : i + 1 ≤ most_risks = omega (arith, h, few) in
          let most : (i + 1) * cost ≤ most_risks * 2 ^ 32 = mul-le-mul turn (le_of_lt c) in
          mag-lt (so_far +ℤ z) next (omega (arith, w.billed_most, small, h, few)) (omega (arith, most))

      -- the bills to come are the next and those after it
      to-come : drop i bills ≡ bill ∷ drop (i + 1) bills
      to-come = drop-cons bills i 0 (omega (arith, h, count)) ∙ (λ j. sym is j ∷ drop (sym (add-one i) j) bills)

      grown : differences_of cost (take (i + 1) bills) ≡ differences_of cost (take i bills) ++ z ∷ []
      grown =
          let more : take (i + 1) bills ≡ take i bills ++ bill ∷ [] =
          ap (λ (k : ℕ). take k bills) (add-one i)
          ∙ take-suc bills i 0 (omega (arith, h, count))
          ∙ ap (λ (b : ℕ). take i bills ++ b ∷ []) (sym is) in
          ap (differences_of cost) more
          ∙ map-append (λ (b : ℕ). pos b -ℤ pos cost) (take i bills) (bill ∷ [])
          ∙ ap (λ (y : ℤ). differences_of cost (take i bills) ++ y ∷ []) (sym e)

      pub differencing-more : Differencing bills cost old (i + 1) (so_far +ℤ z) (set present i z)
      differencing-more = record {
        within = omega (arith, h, count);
        billed = w.billed + bill;
        billed_most = omega (arith, w.billed_most, small);
        sums = omega (arith, w.sums, ap sum to-come);
        so_far_is = next;
        puts =
            ap (λ (l : List ℤ). set l i z) w.puts
            ∙ filled_more (differences_of cost (take i bills)) old z put-length (omega (arith, h, enough))
            ∙ ap (λ (l : List ℤ). filled l old) (sym grown);
      }

    module _ (h : length xs ≤ i) where
      all : i ≡ length bills
      all = omega (arith, h, w.within, count)

      pub differences-summed : so_far ≡ sum_z (λ z. z) (differences_of cost bills)
      differences-summed =
          let none : drop i bills ≡ [] = drop_of_length-le bills (omega (arith, all)) in
          let summed : w.billed ≡ sum bills = omega (arith, w.sums, ap sum none) in
          same so_far (sum_z (λ z. z) (differences_of cost bills)) w.so_far_is (added cost bills) (λ j. summed j + sym all j * cost)

      pub differences-put : present ≡ filled (differences_of cost bills) old
      differences-put = w.puts ∙ ap (λ (l : List ℕ). filled (differences_of cost l) old) (ap (λ (k : ℕ). take k bills) all ∙ take-length bills)
