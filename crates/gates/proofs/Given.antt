-- What the gate of questions 1 to 12 gives, to a call that goes on from it: its refusal is the questions' No; where it gives terms, the
-- questions pass, the terms are the file's own, and the bills by them are step 6's premiums. Assumes nothing.
use Rattle.std.proofs.Common.{◌≡◌, sym, ap, ap₂, ◌∙◌, List, map, ℕ, length, get_or, Ok, Err}
use Rattle.plan.specs.Header.{header_of, risk_count}
use Rattle.plan.specs.Losses.{Losses, losses_in}
use Rattle.plan.specs.Premium as premium
use Rattle.plan.specs.Premium.{terms_of, bill_with, billed_premium, billed_premiums}
use Rattle.plan.specs.Questions.{passed, failed, first_no, rating_questions}
use Rattle.plan.specs.Call.{answer}
use Rattle.laws.proofs.Calls.{given-passed, refused-failed}
use Rattle.laws.proofs.Losses.{length-losses}
use Rattle.group.specs.Refusals.{number_of, answer_is}
use Rattle.group.specs.Values.{losses_of, losses_is, LossesAre, each_of}
use Rattle.group.specs.declared.Losses as declared_losses
use Rattle.group.specs.declared.Refusal.{Refusal}
use Rattle.group.specs.declared.GroupLosses.{GroupLosses}
use Rattle.group.proofs.Laws.{risks}
use Rattle.steps.specs.Terms.{terms_is}
use Rattle.steps.specs.declared.bill.Terms.{Terms}
use Rattle.groupfile.specs.declared.opening.Opened.{Opened}
use Rattle.gates.specs.Gates.{RatingOpenedIs}

-- what stands past the last risk
abbrev pub no_losses : Losses
no_losses = record { total = 0; limited = 0 }

-- what is known of the verdict that the gate gave, by its case
pub gives : {s : List ℕ} {o : Opened Terms} {t : Terms} → RatingOpenedIs s o → o.verdict ≡ Ok t
    → answer_is terms_is (Ok t) ≡ answer (first_no (rating_questions s)) (terms_of (header_of s) (losses_in s))
gives x e = sym (ap (answer_is terms_is) e) ∙ x.verdict

pub refuses : {s : List ℕ} {o : Opened Terms} {k : Refusal} → RatingOpenedIs s o → o.verdict ≡ Err k
    → first_no (rating_questions s) ≡ failed (number_of k)
refuses {s} x e =
    refused-failed (first_no (rating_questions s)) (terms_of (header_of s) (losses_in s))
    (sym x.verdict ∙ ap (answer_is terms_is) e)

module _ (s : List ℕ) (t : Terms)
    (gave : answer_is terms_is (Ok t) ≡ answer (first_no (rating_questions s)) (terms_of (header_of s) (losses_in s))) where
  pub passes : first_no (rating_questions s) ≡ passed
  passes = (given-passed (first_no (rating_questions s)) (terms_of (header_of s) (losses_in s)) (terms_is t) (sym gave)).0

  -- are those of the file
  pub terms-are : terms_is t ≡ terms_of (header_of s) (losses_in s)
  terms-are = sym (given-passed (first_no (rating_questions s)) (terms_of (header_of s) (losses_in s)) (terms_is t) (sym gave)).1

  pub risks_are : t.risks ≡ length (losses_in s)
  risks_are = ap (λ (x : premium.Terms). x.risks) terms-are

  pub risk-count : t.risks ≡ risk_count s
  risk-count = risks_are ∙ length-losses s

  -- as many as the losses that the gate gives
  pub as-many : {g : GroupLosses} {xs : List declared_losses.Losses} → LossesAre (losses_in s) g → xs ≡ each_of g → length xs ≡ t.risks
  as-many x lent = ap length lent ∙ risks x ∙ sym risks_are

  -- the bills by the losses that the gate gives are step 6's premiums of the risks
  pub bills-are : {g : GroupLosses} → LossesAre (losses_in s) g
      → map (λ (r : Losses). bill_with (terms_is t) r.limited) (losses_is g) ≡ billed_premiums (header_of s) (losses_in s)
  bills-are x = ap₂ (λ (y : premium.Terms) (l : List Losses). map (λ (r : Losses). bill_with y r.limited) l) terms-are x.each

  -- and where those losses are lent
  pub lent-bills : {g : GroupLosses} {xs : List declared_losses.Losses} → LossesAre (losses_in s) g → xs ≡ each_of g
      → map (λ (r : Losses). bill_with (terms_is t) r.limited) (losses_of xs) ≡ billed_premiums (header_of s) (losses_in s)
  lent-bills x lent =
      ap (λ (l : List declared_losses.Losses). map (λ (r : Losses). bill_with (terms_is t) r.limited) (losses_of l)) lent ∙ bills-are x

  -- and one by one: the bill by the A of risk i is its premium
  pub bill_is : {g : GroupLosses} → LossesAre (losses_in s) g → (i : ℕ)
      → bill_with (terms_is t) (get_or (losses_is g) i no_losses).limited
      ≡ billed_premium (header_of s) (losses_in s) (get_or (losses_in s) i no_losses)
  bill_is x i = ap₂ (λ (y : premium.Terms) (l : List Losses). bill_with y (get_or l i no_losses).limited) terms-are x.each
