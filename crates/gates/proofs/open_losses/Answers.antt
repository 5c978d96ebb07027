-- The file's own questions, then question 10 of its limited losses.
use Rattle.std.proofs.Common.{refl, sym, ap, ap₂, ◌∙◌, [], ◌∷◌, ℕ, leb}
use Rattle.plan.specs.Losses.{losses_in}
use Rattle.plan.specs.Questions.{ask, first_no, or_else, file_questions, question10}
use Rattle.laws.proofs.Questions.{after-gate}
use Rattle.group.specs.Refusals.{verdict_is}
use Rattle.group.proofs.Laws.{verdict-and}
use Rattle.gates.proofs.open_losses.Goals as goal

pub returns : goal.returns
returns c =
    let s = c.args.file.now in
    let x = c.open-opened.ensures in
    record {
      verdict =
          ap verdict_is c.and.ensures
          ∙ verdict-and _ _
          ∙ ap₂ or_else x.verdict (c.losses_verdict.ensures ∙ ap (λ (n : ℕ). first_no (ask 10 (leb 1 n) ∷ [])) x.losses.limited)
          ∙ sym (after-gate (file_questions s) (question10 (losses_in s) ∷ []) refl);
      header = x.header;
      layout = x.layout;
      losses = x.losses;
    }
