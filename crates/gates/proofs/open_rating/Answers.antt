-- Questions 1 to 10, then those of the balance, over the file's own header and losses.
use Rattle.std.proofs.Common.{◌≡◌, refl, sym, ap, ◌∙◌, List, ℕ, Result, Ok, Err, rules}
use Rattle.std.specs.Result.{MatchResult}
use Rattle.std.proofs.lemmas.Result.{MatchResult-weaker}
use Rattle.plan.specs.Header.{header_of}
use Rattle.plan.specs.Losses.{losses_in}
use Rattle.plan.specs.Premium.{terms_of}
use Rattle.plan.specs.Questions.{passed, first_no, or_else, loss_questions, balance_questions, rating_questions}
use Rattle.plan.specs.Call.{answer}
use Rattle.laws.proofs.Calls.{answered}
use Rattle.laws.proofs.Questions.{after-gate, loss-sound}
use Rattle.laws.proofs.FileSizes.{group-bounds}
use Rattle.group.specs.Refusals.{verdict_is, answer_is}
use Rattle.group.specs.Values.{header_is, losses_is, GroupIs}
use Rattle.group.specs.declared.Refusal.{Refusal}
use Rattle.group.proofs.Laws.{group_is}
use Rattle.groupfile.specs.Opening.{OpenedIs}
use Rattle.groupfile.specs.declared.opening.Opened.{Opened}
use Rattle.steps.specs.Terms.{terms_is}
use Rattle.steps.specs.declared.bill.Terms.{Terms}
use Rattle.gates.proofs.open_rating.Goals as goal

-- of a file s that is opened with questions 1 to 10
module _ {s : List ℕ} {o : Opened Unit} (x : OpenedIs (loss_questions s) s o) where
  is-group : o.verdict ≡ Ok tt → GroupIs o.header o.losses
  is-group e =
      let passes : first_no (loss_questions s) ≡ passed = sym x.verdict ∙ ap verdict_is e in
      group_is x.losses x.header (group-bounds s (loss-sound s passes).file)

  -- the answer r of the balance, by its own header values and losses
  abbrev Balanced : Result Terms Refusal → Type 0
  Balanced r = answer_is terms_is r
      ≡ answer (first_no (balance_questions (header_is o.header) (losses_is o.losses))) (terms_of (header_is o.header) (losses_is o.losses))

  -- is that of 1 to 12 where 1 to 10 pass, and else their No is
  asked : (v : Result Unit Refusal) → o.verdict ≡ v → answer (first_no (rating_questions s)) (terms_of (header_of s) (losses_in s))
      ≡ answer (or_else (verdict_is v) (first_no (balance_questions (header_of s) (losses_in s)))) (terms_of (header_of s) (losses_in s))
  asked v e =
      answered (terms_of (header_of s) (losses_in s))
      (after-gate (loss_questions s) (balance_questions (header_of s) (losses_in s)) (sym x.verdict ∙ ap verdict_is e))

  rated : (r : Result Terms Refusal) (v : Result Unit Refusal) → o.verdict ≡ v → MatchResult v (λ u. Balanced r) (λ k. r ≡ Err k)
      → answer_is terms_is r ≡ answer (first_no (rating_questions s)) (terms_of (header_of s) (losses_in s))
  rated r (Ok u) e given =
      given
      ∙ (λ i. answer (first_no (balance_questions (x.header i) (x.losses.each i))) (terms_of (x.header i) (x.losses.each i)))
      ∙ sym (asked (Ok u) e)
  rated r (Err k) e is = ap (answer_is terms_is) is ∙ sym (asked (Err k) e)

pub and_then-terms-requires : goal.and_then-terms-requires
and_then-terms-requires c = λ u e. search (rules, is-group c.open_losses-verdict.ensures e)

pub returns : goal.returns
returns c =
    let x = c.open_losses-verdict.ensures in
    record {
      verdict =
          rated x c.and_then-terms.result c.open_losses-verdict.result.verdict refl
          (MatchResult-weaker c.open_losses-verdict.result.verdict c.and_then-terms.ensures (λ u p. search (rules, p)) (λ k p. p));
      header = x.header;
      layout = x.layout;
      losses = x.losses;
    }
