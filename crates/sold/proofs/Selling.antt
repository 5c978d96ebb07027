-- From the numbers that the code has of a file's group to document 02's: the terms are the file's, each limited loss is within its
-- bound, and whether a basic premium reaches by them is whether it reaches by the file. So the answer is the file's, and what holds of it
-- is what the laws say. Assumes nothing.
use Rattle.std.proofs.Common.{◌≡◌, sym, ap, ◌∙◌, subst, Bool, List, [], ◌∷◌, map, ℕ, ◌+◌, ◌*◌, ◌-◌, ◌≤◌, ◌<◌, leb, length, get_or, Result, Ok, Err, le-leb, arith}
use Rattle.std.proofs.Math.Nat.{mul-le-mul}
use Rattle.std.proofs.lemmas.List.{get_or-map}
use Rattle.std.proofs.lemmas.Simd.{map-map}
use Rattle.plan.specs.Arithmetic.{sum_of}
use Rattle.plan.specs.Sizes.{most_conversion, most_risk_losses, most_group_losses}
use Rattle.plan.specs.Header as header
use Rattle.plan.specs.Header.{header_of, header_bits, risk_count}
use Rattle.plan.specs.Losses as losses
use Rattle.plan.specs.Losses.{losses_in}
use Rattle.plan.specs.Basic.{excess_of, excess_charge}
use Rattle.plan.specs.Demand3.{taxed_expenses_and_losses}
use Rattle.plan.specs.Bounds.{GroupBounds}
use Rattle.plan.specs.Questions.{Verdict, passed, first_no, or_else, ask, loss_questions}
use Rattle.plan.specs.Call.{answer}
use Rattle.plan.specs.SoldOnPremiums as sold_on_premiums
use Rattle.plan.specs.SoldOnPremiums.{held_premium, plan_terms_of, premiums_at, reaches, most_basic, halvings, plan_call}
use Rattle.plan.specs.SoldOnPremiums.{question22, question23, bound_questions, plan_for}
use Rattle.laws.proofs.Losses.{length-losses, each-limited-le}
use Rattle.laws.proofs.Calls.{answered}
use Rattle.laws.proofs.Questions.{after-gate, loss-sound}
use Rattle.laws.proofs.FileSizes.{group-bounds}
use Rattle.laws.proofs.Plans.{given-sold, refused-unsold}
use Rattle.group.specs.Refusals.{number_of, answer_is}
use Rattle.group.specs.Values.{header_is, losses_of, losses_is, LossesAre, each_of}
use Rattle.group.specs.declared.Refusal.{Refusal}
use Rattle.group.specs.declared.Header as declared_header
use Rattle.group.specs.declared.Losses as declared_losses
use Rattle.group.specs.declared.GroupLosses.{GroupLosses}
use Rattle.group.proofs.Laws as laws
use Rattle.steps.specs.Basic.{ExcessBounds}
use Rattle.sold.specs.Owed.{OwedBounds}
use Rattle.sold.specs.PremiumPlans.{plan_is, SoldBy}
use Rattle.sold.specs.declared.plans.PlanFound.{PlanFound}

-- what holds of an answer follows from its being document 02's
pub sold-by : (r : Result PlanFound Refusal) (s : List ℕ) (g h trials : ℕ) → answer_is plan_is r ≡ plan_for s g h trials → SoldBy r s g h trials
sold-by (Ok p) s g h trials e = given-sold s g h trials _ (sym e)
sold-by (Err k) s g h trials e = refused-unsold s g h trials (number_of k) (sym e)

-- ---- the verdict

module _ (s : List ℕ) (g h trials : ℕ) where
  -- the gate's No, else that of 22, else that of 23
  pub planned : {v : Verdict} {b : Bool} → first_no (loss_questions s) ≡ v → leb h g ≡ b
      → answer (or_else (or_else v (first_no (ask 22 b ∷ []))) (first_no (question23 s g h ∷ []))) (halvings (reaches s g h) trials)
      ≡ plan_for s g h trials
  unfolding plan_call
  planned {v} e f =
      sym (answered (halvings (reaches s g h) trials)
      (after-gate (bound_questions s g h) (question23 s g h ∷ [])
      (after-gate (loss_questions s) (question22 g h ∷ []) e ∙ ap (λ (b : Bool). or_else v (first_no (ask 22 b ∷ []))) f)))

-- ---- the numbers, of a file that passes 1 to 10

-- what the code has at hand
pub record AtHand (s : List ℕ) (v : declared_header.Header) (l : GroupLosses) : Type 0 where
  pub passes : first_no (loss_questions s) ≡ passed
  pub header : header_is v ≡ header_of s
  pub losses : LossesAre (losses_in s) l

-- and what it looks for a basic premium by, with G and H: the terms, the losses and what is to be paid
pub record LooksBy (v : declared_header.Header) (l : GroupLosses) (g h : ℕ) (t : sold_on_premiums.PlanTerms) (rs : List losses.Losses) (owed : ℕ) : Type 0 where
  pub risks : t.risks ≡ length (each_of l)
  pub conversion : t.conversion ≡ v.conversion
  pub tax : t.tax ≡ v.tax
  pub excess : t.excess ≡ excess_of v.conversion l.total l.limited
  pub maximum : t.maximum ≡ g
  pub minimum : t.minimum ≡ h
  pub each : rs ≡ losses_is l
  pub owed_is : owed ≡ 1000 * t.risks * v.tax * (t.risks * v.expense + l.total)

module _ {s : List ℕ} {v : declared_header.Header} {l : GroupLosses} (x : AtHand s v l) where
  bounds : GroupBounds (header_of s) (losses_in s)
  bounds = group-bounds s (loss-sound s x.passes).file

  conversion-is : v.conversion ≡ (header_of s).conversion
  conversion-is = ap (λ (y : header.Header). y.conversion) x.header

  tax-is : v.tax ≡ (header_of s).tax
  tax-is = ap (λ (y : header.Header). y.tax) x.header

  expense-is : v.expense ≡ (header_of s).expense
  expense-is = ap (λ (y : header.Header). y.expense) x.header

  total_most : l.total ≤ most_group_losses
  total_most = omega (arith, x.losses.total, bounds.total, bounds.risks)

  pub excess-bounds : ExcessBounds v.conversion l.total l.limited
  excess-bounds = record {
    conversion_most = omega (arith, conversion-is, bounds.sound.conversion_most);
    limited_most = omega (arith, x.losses.total, x.losses.limited, bounds.limited);
    total_most = total_most;
  }

  pub owed-bounds : (n : ℕ) → n ≡ length (each_of l) → OwedBounds n v.tax v.expense l.total
  owed-bounds n e = record {
    few = omega (arith, e, laws.risks x.losses, bounds.risks);
    tax_most = omega (arith, tax-is, bounds.sound.tax_most);
    expense_lt = omega (arith, expense-is, bounds.expense);
    total_most = total_most;
  }

  -- Q
  pub excess-le : excess_of v.conversion l.total l.limited ≤ most_conversion * most_group_losses
  excess-le =
      let some : l.total - l.limited ≤ most_group_losses = omega (arith, total_most) in
      omega (arith, mul-le-mul excess-bounds.conversion_most some)

  -- each A
  pub each : (xs : List declared_losses.Losses) → losses_of xs ≡ losses_is l → (k : ℕ) (d : declared_losses.Losses) → k < length xs
      → (get_or xs k d).limited ≤ most_risk_losses
  each xs e k d h =
      let own : map (λ (r : losses.Losses). r.limited) (losses_of xs) ≡ map (λ (r : losses.Losses). r.limited) (losses_in s) =
      ap (λ (rs : List losses.Losses). map (λ (r : losses.Losses). r.limited) rs) (e ∙ x.losses.each) in
      subst (λ (a : ℕ). a ≤ most_risk_losses)
      (ap (λ (bs : List ℕ). get_or bs k 0) (sym own ∙ map-map (λ (r : losses.Losses). r.limited) _ xs) ∙ get_or-map (λ (y : declared_losses.Losses). y.limited) xs k d 0 h)
      (each-limited-le s (header_of s).loss_limit header_bits (risk_count s) k)

  -- a basic premium reaches by them where it does by the file
  module _ {g h : ℕ} {t : sold_on_premiums.PlanTerms} {rs : List losses.Losses} {owed : ℕ} (w : LooksBy v l g h t rs owed) where
    abbrev pub test : ℕ → Bool
    test b = leb owed (sum_of (λ (r : losses.Losses). held_premium t b r.limited) rs)

    risks-are : t.risks ≡ risk_count s
    risks-are = w.risks ∙ laws.risks x.losses ∙ length-losses s

    terms-are : t ≡ plan_terms_of s g h
    unfolding excess_charge
    terms-are =
        let charge = w.excess ∙ (λ i. excess_of (conversion-is i) (x.losses.total i) (x.losses.limited i)) in
        λ i. record {
          risks = risks-are i;
          conversion = (w.conversion ∙ conversion-is) i;
          tax = (w.tax ∙ tax-is) i;
          excess = charge i;
          maximum = w.maximum i;
          minimum = w.minimum i;
        }

    total_is : (b : ℕ) → sum_of (λ (r : losses.Losses). held_premium t b r.limited) rs ≡ premiums_at s g h b
    unfolding premiums_at
    total_is b = λ i. sum_of (λ (r : losses.Losses). held_premium (terms-are i) b r.limited) ((w.each ∙ x.losses.each) i)

    owed-is : owed ≡ taxed_expenses_and_losses s
    unfolding taxed_expenses_and_losses
    owed-is = w.owed_is ∙ (λ i. 1000 * risks-are i * tax-is i * (risks-are i * expense-is i + x.losses.total i))

    tests : test ≡ reaches s g h
    tests = λ i b. leb (owed-is i) (total_is b i)

    pub found : (trials : ℕ) (r : Result PlanFound Refusal) → h ≤ g
        → answer_is plan_is r ≡ answer (first_no (ask 23 (test most_basic) ∷ [])) (halvings test trials)
        → answer_is plan_is r ≡ plan_for s g h trials
    found trials r in_order e =
        e
        ∙ ap (λ (test : ℕ → Bool). answer (first_no (ask 23 (test most_basic) ∷ [])) (halvings test trials)) tests
        ∙ planned s g h trials x.passes (le-leb h g in_order)
