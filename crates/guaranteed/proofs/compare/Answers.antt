-- Questions 1 to 12, then 13, 16 and 17, then the bills of the file's group and each beside guaranteed cost.
use Rattle.std.proofs.Common.{◌≡◌, refl, sym, ap, ◌∙◌, List, [], ◌∷◌, ◌&&◌, ℕ, ℤ, ◌*◌, ◌≤◌, ◌-◌, leb, length, arith, w64, to_z, of_z, to_z-of_z, Ok, Err}
use Rattle.std.proofs.lemmas.Result.{err_from_is_err_and}
use Rattle.plan.specs.Arithmetic.{sum_z}
use Rattle.plan.specs.Header.{Header, header_of}
use Rattle.plan.specs.Losses.{losses_in}
use Rattle.plan.specs.Premium.{terms_of}
use Rattle.plan.specs.Questions.{Verdict, passed, failed, first_no, or_else, rating_questions, question13}
use Rattle.plan.specs.Call.{answer}
use Rattle.plan.specs.Discount.{Layer, discount}
use Rattle.plan.specs.Comparison.{differences_of, schedule_questions}
use Rattle.laws.proofs.Questions.{rating-sound}
use Rattle.laws.proofs.FileSizes.{group-bounds}
use Rattle.laws.proofs.Discounts.{discount_most}
use Rattle.group.specs.Refusals.{number_of, verdict_is, answer_is}
use Rattle.group.specs.Values.{losses_of, each_of}
use Rattle.group.specs.declared.Losses as declared_losses
use Rattle.group.specs.declared.Refusal.{Refusal}
use Rattle.steps.specs.Terms.{terms_is}
use Rattle.steps.specs.declared.bill.Terms.{Terms}
use Rattle.gates.specs.Gates.{RatingOpenedIs}
use Rattle.groupfile.specs.declared.opening.Opened.{Opened}
use Rattle.gates.proofs.Given.{gives, refuses, passes, risk-count, as-many}
use Rattle.guaranteed.specs.Schedules.{layers_of, Discountable}
use Rattle.rating.specs.Bills.{bills_of}
use Rattle.guaranteed.specs.Comparisons.{CompareSays}
use Rattle.guaranteed.proofs.Answers.{last_verdict, verdict, refused_says, room, room-too, rates, given-says, beside-given}
use Rattle.guaranteed.proofs.compare.Goals as goal
use Rattle.guaranteed.proofs.compare.Goals.{In_ok-terms, In_ok-schedule_verdict, After-put_differences-difference}

-- ---- what is known where the terms of the file s are given

module _ (s : List ℕ) (ls : List Layer) (premiums : List ℕ) (differences : List ℤ) (t : Terms)
    (gave : answer_is terms_is (Ok t) ≡ answer (first_no (rating_questions s)) (terms_of (header_of s) (losses_in s))) where
  -- what the code asks after 12 is what the call asks
  last_is : {v w : Verdict} → first_no (question13 (leb (4 * t.risks) (length premiums) && leb t.risks (length differences)) ∷ []) ≡ v
      → first_no (schedule_questions ls) ≡ w → last_verdict s ls premiums differences ≡ or_else v w
  last_is x y =
      let thirteen =
      ap (λ (k : ℕ). first_no (question13 (leb (4 * k) (length premiums) && leb k (length differences)) ∷ [])) (sym (risk-count s t gave)) ∙ x in
      λ i. or_else (thirteen i) (y i)

  module _ {o : Opened Terms} (x : RatingOpenedIs s o) (all : last_verdict s ls premiums differences ≡ passed) where
    -- the file's premium can be discounted
    discountable : Discountable ls o.header.standard_premium
    discountable =
        let sound = rating-sound s (passes s t gave) in
        record {
          rates = rates s ls t gave x.losses premiums differences all;
          fits = omega (arith, ap (λ (h : Header). h.standard_premium) x.header, (group-bounds s sound.losses.file).premium);
        }

-- ---- refusals

pub returns-in_err-terms-clause-says : goal.returns-in_err-terms-clause-says
returns-in_err-terms-clause-says c =
    let a = c.args in
    let s = a.file.now in
    let no = refuses c.open_rating-terms.ensures c.in_err-terms.was in
    let p = err_from_is_err_and c.from_residual.result c.from_residual.ensures.1 in
    rw (p.1, p.2)
    (refused_says s (layers_of a.schedule.layers) a.premiums.now a.differences.now _
    (verdict s (layers_of a.schedule.layers) a.premiums.now a.differences.now no refl))

-- past 12
module _ (c : In_ok-terms) where
  -- a No of 13, 16 or 17 is the answer
  refused : (k : Refusal)
      → last_verdict c.args.file.now (layers_of c.args.schedule.layers) c.args.premiums.now c.args.differences.now ≡ failed (number_of k)
      → CompareSays c.args.file.now (layers_of c.args.schedule.layers) c.args.premiums.now c.args.differences.now (Err k)
      c.args.premiums.now c.args.differences.now
  refused k e =
      let a = c.args in
      let s = a.file.now in
      let ls = layers_of a.schedule.layers in
      refused_says s ls a.premiums.now a.differences.now k
      (verdict s ls a.premiums.now a.differences.now (passes s c.in_ok-terms.terms (gives c.open_rating-terms.ensures c.in_ok-terms.was)) e)

  -- what 13 comes to, as the code asks it, and 16 and 17 after it
  last : {v w : Verdict}
      → first_no (question13 (leb (4 * c.in_ok-terms.terms.risks) (length c.args.premiums.now) && leb c.in_ok-terms.terms.risks (length c.args.differences.now)) ∷ []) ≡ v
      → first_no (schedule_questions (layers_of c.args.schedule.layers)) ≡ w
      → last_verdict c.args.file.now (layers_of c.args.schedule.layers) c.args.premiums.now c.args.differences.now ≡ or_else v w
  last = last_is c.args.file.now (layers_of c.args.schedule.layers) c.args.premiums.now c.args.differences.now c.in_ok-terms.terms
      (gives c.open_rating-terms.ensures c.in_ok-terms.was)

pub returns-in_err-room_verdict-clause-says : goal.returns-in_err-room_verdict-clause-says
returns-in_err-room_verdict-clause-says c =
    let q = (goal.at.returns-in_err-room_verdict-clause-says c).In_ok-terms in
    let p = err_from_is_err_and c.from_residual-in_err-room_verdict.result c.from_residual-in_err-room_verdict.ensures.1 in
    rw (p.1, p.2) (refused q _ (last q (sym c.room_verdict.ensures ∙ ap verdict_is c.in_err-room_verdict.was) refl))

pub returns-in_err-schedule_verdict-clause-says : goal.returns-in_err-schedule_verdict-clause-says
returns-in_err-schedule_verdict-clause-says c =
    let q = (goal.at.returns-in_err-schedule_verdict-clause-says c).In_ok-terms in
    let p = err_from_is_err_and c.from_residual-in_err-schedule_verdict.result c.from_residual-in_err-schedule_verdict.ensures.1 in
    rw (p.1, p.2)
    (refused q _
    (last q (sym c.room_verdict.ensures ∙ ap verdict_is c.in_ok-room_verdict.was)
    (sym c.schedule_verdict.ensures ∙ ap verdict_is c.in_err-schedule_verdict.was)))

-- ---- the result

-- past 13, 16 and 17
module _ (c : In_ok-schedule_verdict) where
  all-passed : last_verdict c.args.file.now (layers_of c.args.schedule.layers) c.args.premiums.now c.args.differences.now ≡ passed
  all-passed =
      last_is c.args.file.now (layers_of c.args.schedule.layers) c.args.premiums.now c.args.differences.now c.in_ok-terms.terms
      (gives c.open_rating-terms.ensures c.in_ok-terms.was) (sym c.room_verdict.ensures ∙ ap verdict_is c.in_ok-room_verdict.was)
      (sym c.schedule_verdict.ensures ∙ ap verdict_is c.in_ok-schedule_verdict.was)

  to-discount : Discountable (layers_of c.args.schedule.layers) c.open_rating-terms.result.header.standard_premium
  to-discount =
      discountable c.args.file.now (layers_of c.args.schedule.layers) c.args.premiums.now c.args.differences.now c.in_ok-terms.terms
      (gives c.open_rating-terms.ensures c.in_ok-terms.was) c.open_rating-terms.ensures all-passed

  -- and both buffers have room for the losses that are lent
  enough : {xs : List declared_losses.Losses} → xs ≡ each_of c.open_rating-terms.result.losses
      → (4 * length xs ≤ length c.args.premiums.now) × (length xs ≤ length c.args.differences.now)
  enough lent =
      let s = c.args.file.now in
      let ls = layers_of c.args.schedule.layers in
      let t = c.in_ok-terms.terms in
      let x = c.open_rating-terms.ensures.losses in
      let gave = gives c.open_rating-terms.ensures c.in_ok-terms.was in
      let many = as-many s t gave x lent in (
        omega (arith, many, room s ls t gave x c.args.premiums.now c.args.differences.now all-passed),
        omega (arith, many, room-too s ls t gave x c.args.premiums.now c.args.differences.now all-passed),
      )

pub discount_of-discount-requires : goal.discount_of-discount-requires
discount_of-discount-requires c = to-discount c

pub overflow_sub-guaranteed : goal.overflow_sub-guaranteed
overflow_sub-guaranteed c =
    let p = (goal.at.overflow_sub-guaranteed c).In_ok-schedule_verdict in
    omega (
      arith,
      c.discount_of-discount.ensures,
      discount_most (layers_of c.args.schedule.layers) (to-discount p).rates c.open_rating-terms.result.header.standard_premium,
    )

pub bill_group-rated-requires : goal.bill_group-rated-requires
bill_group-rated-requires c = (enough (goal.at.bill_group-rated-requires c).In_ok-schedule_verdict c.lent-lent.ensures).0

pub put_differences-difference-requires : goal.put_differences-difference-requires
put_differences-difference-requires c =
    (enough (goal.at.put_differences-difference-requires c).In_ok-schedule_verdict c.lent-lent.ensures).1

-- the discount, guaranteed cost and the sum, as the code has them
module _ (c : After-put_differences-difference) where
  discounted : c.discount_of-discount.result ≡ discount (layers_of c.args.schedule.layers) (header_of c.args.file.now).standard_premium
  discounted =
      c.discount_of-discount.ensures
      ∙ ap (λ (h : Header). discount (layers_of c.args.schedule.layers) h.standard_premium) c.open_rating-terms.ensures.header

  less : c.open_rating-terms.result.header.standard_premium - c.discount_of-discount.result
      ≡ (header_of c.args.file.now).standard_premium - c.discount_of-discount.result
  less = ap (λ (h : Header). h.standard_premium - c.discount_of-discount.result) c.open_rating-terms.ensures.header

  summed : to_z w64 (of_z w64 c.put_differences-difference.result) ≡ sum_z (λ z. z)
      (differences_of (c.open_rating-terms.result.header.standard_premium - c.discount_of-discount.result)
      (bills_of c.in_ok-terms.terms (losses_of c.lent-lent.result.each.now)))
  summed = to_z-of_z {w = w64} (record { sfits = c.put_differences-difference.type_inv }) ∙ c.put_differences-difference.ensures.summed

pub returns-clause-says : goal.returns-clause-says
returns-clause-says c =
    let p = (goal.at.returns-clause-says c).In_ok-schedule_verdict in
    let q = (goal.at.returns-clause-says c).After-put_differences-difference in
    given-says c.args.file.now (layers_of c.args.schedule.layers) c.in_ok-terms.terms
    (gives c.open_rating-terms.ensures c.in_ok-terms.was) c.open_rating-terms.ensures.losses
    c.args.premiums.now c.args.differences.now (all-passed p) c.lent-lent.ensures _ _ _
    c.bill_group-rated.ensures.figures (discounted q) (less q) (summed q) c.bill_group-rated.ensures.put c.put_differences-difference.ensures.put

pub returns-clause-beside : goal.returns-clause-beside
returns-clause-beside c =
    let p = (goal.at.returns-clause-beside c).In_ok-schedule_verdict in
    let q = (goal.at.returns-clause-beside c).After-put_differences-difference in
    beside-given c.args.file.now (layers_of c.args.schedule.layers) c.in_ok-terms.terms
    (gives c.open_rating-terms.ensures c.in_ok-terms.was) c.open_rating-terms.ensures.losses
    c.args.premiums.now c.args.differences.now (all-passed p) c.lent-lent.ensures _ _ _
    c.bill_group-rated.ensures.figures (discounted q) (less q) (summed q) c.bill_group-rated.ensures.put c.put_differences-difference.ensures.put
