-- Laws of a premium discount. Layer by layer: a layer that another follows takes at most its width, the last takes the rest. No
-- rate is above 1,000, so no part of P gives more than itself, and the discount is at most P. Assumes nothing.
use mathlib.Core.Path.{◌≡◌, refl, sym, ap, ◌∙◌}
use mathlib.Core.Bool.{Bool, true, ◌&&◌}
use mathlib.Core.List.{List, [], ◌∷◌, ◌++◌}
use Prim.Native.Nat.{ℕ, suc, ◌+◌, ◌*◌, ◌-◌, ◌/◌, ◌≤◌, ◌<◌, min}
use native.Mathlib.Nat.{mul-le-mul_left}
use native.Mathlib.Omega.{arith}
use borrow.Author.Tests.{leb-true}
use lib.Dec.{leb, lit<}
use lib.ListN.{length, get_or, drop}
use lib.Seq.{drop-cons}
use Rattle.plan.specs.Discount.{Layer, discount_sum, discount, guaranteed_cost, most_rate, rates_pass, widths_pass}
use Rattle.laws.proofs.Tests.{both}
use Rattle.laws.proofs.Rounding.{nearest-within, nearest-even}

-- ---- at most P

module _ (l : Layer) (ls : List Layer) (e : rates_pass (l ∷ ls) ≡ true) where
  rate-most : l.rate ≤ most_rate
  rate-most = leb-true _ _ (both (leb l.rate most_rate) (rates_pass ls) e).0

  later-pass : rates_pass ls ≡ true
  later-pass = (both (leb l.rate most_rate) (rates_pass ls) e).1

pub sum_most : (ls : List Layer) → rates_pass ls ≡ true → (p : ℕ) → discount_sum ls p ≤ most_rate * p
sum_most [] e p = omega arith
sum_most (l ∷ []) e p = omega (arith, mul-le-mul_left p (rate-most l [] e))
sum_most (l ∷ m ∷ ls) e p =
    omega (
      arith,
      mul-le-mul_left (min p l.width) (rate-most l (m ∷ ls) e),
      sum_most (m ∷ ls) (later-pass l (m ∷ ls) e) (p - l.width),
    )

module _ (ls : List Layer) (e : rates_pass ls ≡ true) (p : ℕ) where
  pub discount_most : discount ls p ≤ p
  unfolding discount
  discount_most = omega (arith, (nearest-within (discount_sum ls p) 1000 (lit< tt)).low, sum_most ls e p)

  pub less_discount : guaranteed_cost ls p + discount ls p ≡ p
  unfolding guaranteed_cost
  less_discount = omega (arith, discount_most)

-- how the code rounds: half of 1,000 is added, and the sum divided
pub discount-quotient : (ls : List Layer) (p : ℕ) → (discount_sum ls p + 500) / 1000 ≡ discount ls p
unfolding discount
discount-quotient ls p = sym (nearest-even (discount_sum ls p) 500 (lit< tt))

-- ---- 'the last has no end': its width is not looked at

abbrev layer : ℕ → ℕ → Layer
layer w r = record { width = w; rate = r }

pub last-width : (ls : List Layer) (v w r p : ℕ)
    → (discount_sum (ls ++ layer v r ∷ []) p ≡ discount_sum (ls ++ layer w r ∷ []) p)
    × (widths_pass (ls ++ layer v r ∷ []) ≡ widths_pass (ls ++ layer w r ∷ []))
last-width [] v w r p = (refl, refl)
last-width (l ∷ []) v w r p = (refl, refl)
last-width (l ∷ m ∷ ls) v w r p =
    let later = last-width (m ∷ ls) v w r (p - l.width) in (
      ap (λ (x : ℕ). min p l.width * l.rate + x) later.0,
      ap (λ (x : Bool). leb 1 l.width && x) later.1,
    )

-- ---- layer by layer

module _ (ls : List Layer) (i : ℕ) (none : Layer) where
  -- the layer i, and those that follow it
  from : i < length ls → drop i ls ≡ get_or ls i none ∷ drop (suc i) ls
  from h = drop-cons ls i none h

  -- a layer that another follows
  two : suc i < length ls → drop i ls ≡ get_or ls i none ∷ get_or ls (suc i) none ∷ drop (suc (suc i)) ls
  two h = from (omega arith) ∙ ap (λ (x : List Layer). get_or ls i none ∷ x) (drop-cons ls (suc i) none h)

  pub layer-taken : suc i < length ls → (p : ℕ)
      → discount_sum (drop i ls) p
      ≡ min p (get_or ls i none).width * (get_or ls i none).rate + discount_sum (drop (suc i) ls) (p - (get_or ls i none).width)
  layer-taken h p =
      ap (λ (x : List Layer). discount_sum x p) (two h)
      ∙ ap (λ (x : List Layer). min p (get_or ls i none).width * (get_or ls i none).rate + discount_sum x (p - (get_or ls i none).width))
      (sym (drop-cons ls (suc i) none h))

  pub rate-asked : i < length ls → rates_pass (drop i ls) ≡ leb (get_or ls i none).rate most_rate && rates_pass (drop (suc i) ls)
  rate-asked h = ap rates_pass (from h)

  pub width-asked : suc i < length ls
      → widths_pass (drop i ls) ≡ leb 1 (get_or ls i none).width && widths_pass (drop (suc i) ls)
  width-asked h =
      ap widths_pass (two h)
      ∙ ap (λ (x : List Layer). leb 1 (get_or ls i none).width && widths_pass x) (sym (drop-cons ls (suc i) none h))
