-- L and A from the walk, K from them and the file's LG and LH.
use Rattle.std.proofs.Common.{◌≡◌, sym, ap, ◌∙◌, List, [], ◌∷◌, map, ℕ, refl, Ok}
use Rattle.plan.specs.Header.{header_of}
use Rattle.plan.specs.Losses.{Losses, losses_in}
use Rattle.plan.specs.Ratable.{clamp, ratable}
use Rattle.plan.specs.Premium.{terms_of}
use Rattle.plan.specs.Questions.{Verdict, first_no, rating_questions}
use Rattle.plan.specs.Call.{answer}
use Rattle.group.specs.Refusals.{answer_is}
use Rattle.group.specs.Values.{losses_of, LossesAre, each_of}
use Rattle.group.specs.declared.Losses as declared_losses
use Rattle.group.specs.declared.GroupLosses.{GroupLosses}
use Rattle.steps.specs.Terms.{terms_is}
use Rattle.steps.specs.declared.bill.Terms.{Terms}
use Rattle.rating.specs.Details.{ratables_after}
use Rattle.gates.proofs.Given.{gives, refuses, passes, terms-are}
use Rattle.rating.proofs.details.details_of.Goals as goal
use Rattle.rating.proofs.details.details_of.Goals.{in-Ok, in-Err}

limited : (f : ℕ → ℕ) (xs : List declared_losses.Losses) → map (λ (x : declared_losses.Losses). f x.limited) xs ≡ map (λ (r : Losses). f r.limited) (losses_of xs)
limited f [] = refl
limited f (x ∷ xs) = ap (λ (l : List ℕ). f x.limited ∷ l) (limited f xs)

-- clamped by the file's own marks, the limited losses are the ratable ones
ratables-are : (s : List ℕ) (t : Terms) {g : GroupLosses}
    (gave : answer_is terms_is (Ok t) ≡ answer (first_no (rating_questions s)) (terms_of (header_of s) (losses_in s)))
    → LossesAre (losses_in s) g
    → map (λ (x : declared_losses.Losses). clamp t.minimum t.maximum x.limited) (each_of g) ≡ map (ratable (header_of s) (losses_in s)) (losses_in s)
unfolding ratable
ratables-are s t {g} gave x =
    limited (clamp t.minimum t.maximum) (each_of g)
    ∙ (λ i. map (λ (r : Losses). clamp (terms-are s t gave i).minimum (terms-are s t gave i).maximum r.limited) (x.each i))

pub returns : goal.returns
returns c =
    let s = c.args.file.now in
    let x = c.open_rating-terms.ensures in
    record {
      losses = x.losses;
      ratables =
          elim c.match-terms.branch [
            | in-Ok w ↦
                let t = w.in-Ok.terms in
                let gave = gives x w.in-Ok.is in
                ap (λ y. y.items) w.ratables-is
                ∙ w.ratables_of-ratables.ensures
                ∙ ap (map (λ (y : declared_losses.Losses). clamp t.minimum t.maximum y.limited)) w.lent.ensures
                ∙ ratables-are s t gave x.losses
                ∙ sym (ap (λ (v : Verdict). ratables_after v s) (passes s t gave))
            | in-Err w ↦
                ap (λ y. y.items) w.ratables-is
                ∙ w.new-ratables.ensures
                ∙ sym (ap (λ (v : Verdict). ratables_after v s) (refuses x w.in-Err.is))
          ];
    }
