-- The loop that puts the bills: those so far lie in the buffer and are summed, and those to come will fill up the rest. Every bill
-- fits 32 bits, so what is put is what was billed. Assumes nothing.
use Rattle.std.proofs.Common.{◌≡◌, refl, sym, ap, ◌∙◌, subst, List, [], ◌∷◌, ℕ, zero, suc, ◌+◌, ◌-◌, ◌*◌, ◌%◌, ◌^◌, ◌≤◌, ◌<◌}
use Rattle.std.proofs.Common.{length, get_or, drop, drop-cons, add-one, arith, lit<}
use Rattle.std.proofs.lemmas.List.{length-map}
use Rattle.std.proofs.Math.Nat.{lt_trans}
use Rattle.std.proofs.Math.ListN.{drop_of_length-le}
use Rattle.plan.specs.Arithmetic.{sum}
use Rattle.plan.specs.Field.{slot, slots, total_width, bytes_of, Fitting}
use Rattle.plan.specs.Losses.{Losses}
use Rattle.plan.specs.Sizes.{most_risks}
use Rattle.plan.specs.Premium.{bill_with}
use Rattle.plan.specs.Call.{filled}
use Rattle.laws.proofs.Fields.{Bytes}
use Rattle.laws.proofs.Written.{width-slots}
use Rattle.laws.proofs.Bills.{bill-lt}
use Rattle.laws.proofs.Demand3.{fitting-map}
use Rattle.bits.specs.Put.{Put}
use Rattle.bits.specs.Runs.{Wrote}
use Rattle.bits.proofs.Laws.{put-none, Putting, putting-starts, putting-as, putting-more, putting-ends, fields-put}
use Rattle.group.specs.Values.{losses_of}
use Rattle.group.specs.declared.Losses as declared_losses
use Rattle.steps.proofs.Laws.{within}
use Rattle.steps.specs.Terms.{terms_is}
use Rattle.steps.specs.declared.bill.Terms.{Terms}
use Rattle.rating.specs.Bills.{bills_of}

-- the bill that the code makes at an entry of its losses is that of the risk
pub bill-at : (t : Terms) (xs : List declared_losses.Losses) (i : ℕ) (d : declared_losses.Losses) → i < length xs
    → bill_with (terms_is t) (get_or xs i d).limited ≡ get_or (bills_of t (losses_of xs)) i 0
bill-at t [] i d h = absurd (omega arith)
bill-at t (x ∷ xs) zero d h = refl
bill-at t (x ∷ xs) (suc i) d h = bill-at t xs i d (omega arith)

-- a bill fits 31 bits
pub fits : (t : Terms) (a : ℕ) → bill_with (terms_is t) a < 2 ^ 31
fits t a = bill-lt (terms_is t) (within t) t.basic refl a

-- of bills, i are put and summed, and the next goes to the place p
pub record Billing (bills old : List ℕ) (i p billed : ℕ) (present : List ℕ) : Type 0 where
  pub whole : p % 8 ≡ 0
  pub billed_most : billed ≤ 2147483648 * i
  pub sums : billed + sum (drop i bills) ≡ sum bills
  pub puts : Putting old 0 (slots 32 bills) present p (slots 32 (drop i bills))

module _ (t : Terms) (xs : List declared_losses.Losses) (old : List ℕ) (few : length xs ≤ most_risks) (enough : 4 * length xs ≤ length old) where
  abbrev bills : List ℕ
  bills = bills_of t (losses_of xs)

  count : length bills ≡ length xs
  count = length-map (losses_of xs) _ ∙ length-map xs _

  fitting : (rs : List Losses) → Fitting (slots 32 (bills_of t rs))
  fitting = fitting-map 32 (λ (r : Losses). bill_with (terms_is t) r.limited) (λ r. lt_trans (fits t r.limited) (lit< tt))

  wide : total_width (slots 32 bills) ≡ 32 * length xs
  wide = omega (arith, width-slots 32 bills, count)

  pub billing-starts : Billing bills old 0 0 0 old
  billing-starts = record {
    whole = refl;
    billed_most = omega arith;
    sums = omega arith;
    puts =
        putting-starts (record {
          within = omega (arith, wide, enough);
          reach = omega (arith, wide, few);
          fitting = fitting (losses_of xs);
        });
  }

  module _ {i p billed : ℕ} {present : List ℕ} (w : Billing bills old i p billed present) where
    module _ {v : ℕ} (h : i < length xs) (e : v ≡ get_or bills i 0) where
      -- the bills to come are the next and those after it
      next : drop i bills ≡ v ∷ drop (i + 1) bills
      next =
          drop-cons bills i 0 (omega (arith, h, count))
          ∙ (λ j. sym e j ∷ drop (sym (add-one i) j) bills)

      -- the next bill, and room for it
      pub next-put : Putting old 0 (slots 32 bills) present p (slot 32 v ∷ slots 32 (drop (i + 1) bills))
      next-put = putting-as w.puts (ap (slots 32) next)

      pub billing-more : {q : ℕ} {after : List ℕ} → v < 2 ^ 31 → (q ≡ p + 32) × Put present p 32 v after
          → Billing bills old (i + 1) q (billed + v) after
      billing-more {q} {after} small put = record {
        whole = omega (arith, w.whole, put.0);
        billed_most = omega (arith, w.billed_most, small);
        sums = omega (arith, w.sums, ap sum next);
        puts = putting-more next-put put;
      }

    module _ (h : length xs ≤ i) where
      none : drop i bills ≡ []
      none = drop_of_length-le bills (omega (arith, h, count))

      pub bills-summed : billed ≡ sum bills
      bills-summed = omega (arith, w.sums, ap sum none)

      wrote : Wrote old 0 (slots 32 bills) present p
      wrote = putting-ends (putting-as w.puts (ap (slots 32) none))

      pub bills-put : Bytes old → Bytes present → present ≡ filled (bytes_of (slots 32 bills)) old
      bills-put was is =
          let end : 0 ≡ 8 * (4 * length xs) - p = omega (arith, wrote.place, wide) in
          fields-put {n = 4 * length xs} (slots 32 bills) (fitting (losses_of xs)) was is wrote
          (subst (λ (x : ℕ). Put present p x 0 present) end (put-none present p)) (omega (arith, wide)) enough
