-- What is asked of the rows, and taken by them as the loop cuts a premium layer by layer: the parts taken times their rates, and what
-- the layers to come take of what remains, are the whole sum. No rate is above 1,000, so the sum fits 32 bits at every row. Assumes nothing.
use Rattle.std.proofs.Common.{◌≡◌, refl, sym, ap, ◌∙◌, Bool, ◌&&◌, leb, List, [], ◌∷◌, length, get_or, drop, take, ℕ, zero, suc, ◌+◌, ◌*◌, ◌-◌, ◌/◌, ◌≤◌, ◌<◌, min, add-one, arith}
use Rattle.std.specs.List.{list_all}
use Rattle.std.proofs.Math.ListN.{get_or-map}
use Rattle.std.proofs.Math.Seq.{get_or-take, drop-cons}
use Rattle.std.proofs.lemmas.List.{length-map, drop_all}
use Rattle.plan.specs.Discount as discount
use Rattle.plan.specs.Discount.{discount_sum, discount, most_rate, rates_pass, widths_pass}
use Rattle.laws.proofs.Discounts.{sum_most, discount-quotient, layer-taken}
use Rattle.guaranteed.specs.Schedules.{layer_is, layers_of, Discountable}
use Rattle.guaranteed.specs.declared.schedule.Layer.{Layer}

-- question 16 row by row
pub rates_are : (rows : List Layer) → rates_pass (layers_of rows) ≡ list_all (λ r. leb r.rate most_rate) rows
rates_are [] = refl
rates_are (r ∷ rows) = ap (λ (b : Bool). leb r.rate most_rate && b) (rates_are rows)

-- question 17 row by row, but for the last
pub widths_are : (rows : List Layer) (n : ℕ) → length rows ≡ suc n → widths_pass (layers_of rows) ≡ list_all (λ r. leb 1 r.width) (take n rows)
widths_are [] n e = absurd (omega (arith, e))
widths_are (r ∷ []) zero e = refl
widths_are (r ∷ []) (suc n) e = absurd (omega (arith, e))
widths_are (r ∷ q ∷ rows) zero e = absurd (omega (arith, e))
widths_are (r ∷ q ∷ rows) (suc n) e = ap (λ (b : Bool). leb 1 r.width && b) (widths_are (q ∷ rows) n (omega (arith, e)))

-- past the last row
abbrev pub none : Layer
none = record { width = 0; rate = 0 }

-- of the rows, i are passed, and `remains` of the premium is to be cut
pub record Cutting (rows : List Layer) (premium i remains sum : ℕ) : Type 0 where
  pub whole : sum + discount_sum (drop i (layers_of rows)) remains ≡ discount_sum (layers_of rows) premium

module _ {rows : List Layer} {premium i remains sum : ℕ} (four : length rows ≡ 4) (w : Cutting rows premium i remains sum) where
  sum-fits : Discountable (layers_of rows) premium → discount_sum (layers_of rows) premium ≤ 4194303000
  sum-fits d = omega (arith, sum_most (layers_of rows) d.rates premium, d.fits)

  -- what a row that another follows takes is added
  module _ {part : ℕ} (h : i < 3) (e : part ≡ min remains (get_or (take 3 rows) i none).width) where
    abbrev row : Layer
    row = get_or (take 3 rows) i none

    layer : get_or (layers_of rows) i (layer_is none) ≡ layer_is row
    layer = get_or-map layer_is rows i none ∙ ap layer_is (sym (get_or-take 3 rows i none h))

    followed : suc i < length (layers_of rows)
    followed = omega (arith, length-map rows layer_is, four)

    taken : sum + part * row.rate + discount_sum (drop (i + 1) (layers_of rows)) (remains - part) ≡ discount_sum (layers_of rows) premium
    taken =
        let step = layer-taken (layers_of rows) i (layer_is none) followed remains
        ∙ (λ j. min remains (layer j).width * (layer j).rate + discount_sum (drop (sym (add-one i) j) (layers_of rows)) (remains - (layer j).width)) in
        let rest : remains - row.width ≡ remains - part = omega (arith, e) in
        let most = step ∙ (λ j. sym e j * row.rate + discount_sum (drop (i + 1) (layers_of rows)) (rest j)) in
        omega (arith, most, w.whole)

    pub part-most : Discountable (layers_of rows) premium → sum + part * row.rate ≤ 4194303000
    part-most d = omega (arith, taken, sum-fits d)

    pub cutting-more : Cutting rows premium (i + 1) (remains - part) (sum + part * row.rate)
    cutting-more = record { whole = taken }

  -- the last row takes the rest
  module _ (last : i ≡ 3) where
    rest-is : drop i (layers_of rows) ≡ layer_is (get_or rows 3 none) ∷ []
    rest-is =
        ap (λ (k : ℕ). drop k (layers_of rows)) last
        ∙ drop-cons (layers_of rows) 3 (layer_is none) (omega (arith, length-map rows layer_is, four))
        ∙ (λ j. get_or-map layer_is rows 3 none j ∷ drop_all 4 (layers_of rows) (omega (arith, length-map rows layer_is, four)) j)

    last_taken : sum + remains * (get_or rows 3 none).rate ≡ discount_sum (layers_of rows) premium
    last_taken = ap (λ (x : List discount.Layer). sum + discount_sum x remains) (sym rest-is) ∙ w.whole

    pub all-most : Discountable (layers_of rows) premium → sum + remains * (get_or rows 3 none).rate ≤ 4194303000
    all-most d = omega (arith, last_taken, sum-fits d)

    pub discounted : (sum + remains * (get_or rows 3 none).rate + 500) / 1000 ≡ discount (layers_of rows) premium
    discounted = ap (λ (x : ℕ). (x + 500) / 1000) last_taken ∙ discount-quotient (layers_of rows) premium
