-- At each return the answers so far are those of Write's questions, in their order, and nothing is stored
-- before the last of them.
use Rattle.std.proofs.Common.{◌≡◌, refl, sym, ap, ◌∙◌, subst, ℕ, true, Result, Ok}
use Rattle.std.proofs.lemmas.Result.{err_from_is_err_and}
use lib.Seq.{length-take-le}
use Rattle.plan.specs.Questions.{known_edition}
use Rattle.group.specs.Refusals.{verdict_is}
use Rattle.group.specs.declared.Refusal.{Refusal}
use Rattle.group.specs.Edition.{edition_number, EditionIs}
use Rattle.group.specs.declared.edition.Edition.{Edition}
use Rattle.group.specs.declared.edition.Edition.TheVariants.{First, Second}
use Rattle.laws.proofs.Writable.{risks-few, claims-few}
use Rattle.group.specs.Given.{given_group}
use Rattle.writing.proofs.Asked.{fifteen, refused-2, refused-header, refused-15, refused-19, refused-13}
use Rattle.writing.proofs.Asked.{ready, written-all}
use Rattle.writing.proofs.writer.write.Goals as goal

-- an edition is known
known : (e : Edition) → true ≡ known_edition (edition_number e)
known First = refl
known Second = refl

-- and has the number that it was made of
its-number : (n : ℕ) {r : Result Edition Refusal} {e : Edition} → EditionIs n r → r ≡ Ok e → edition_number e ≡ n
its-number n x was = (subst (EditionIs n) was x).1

pub returns-in_err-edition : goal.returns-in_err-edition
returns-in_err-edition c =
    let k = subst (EditionIs c.args.edition) c.in_err-edition.was c.try_from.ensures in
    let p = err_from_is_err_and c.from_residual.result c.from_residual.ensures.1 in
    rw (p.1, p.2, k.1) (refused-2 _ _ (sym k.0))

pub returns-in_err-header_verdict : goal.returns-in_err-header_verdict
returns-in_err-header_verdict c =
    let n = its-number c.args.edition c.try_from.ensures c.in_ok-edition.was in
    let p = err_from_is_err_and c.from_residual-in_err-header_verdict.result c.from_residual-in_err-header_verdict.ensures.1 in
    rw (p.1, p.2, sym n) (refused-header _ _ (known c.in_ok-edition.edition) _
    (sym (ap verdict_is c.in_err-header_verdict.was) ∙ c.header_verdict.ensures))

pub returns-then-not-values_fit : goal.returns-then-not-values_fit
returns-then-not-values_fit c =
    let n = its-number c.args.edition c.try_from.ensures c.in_ok-edition.was in
    rw (sym n) (refused-15 _ _ (known c.in_ok-edition.edition) (sym (ap verdict_is c.in_ok-header_verdict.was) ∙ c.header_verdict.ensures)
    c.if-not-values_fit.ensures)

pub returns-then-not-risks_open : goal.returns-then-not-risks_open
returns-then-not-risks_open c =
    let n = its-number c.args.edition c.try_from.ensures c.in_ok-edition.was in
    rw (sym n) (refused-19 _ _ (known c.in_ok-edition.edition) (sym (ap verdict_is c.in_ok-header_verdict.was) ∙ c.header_verdict.ensures)
    c.if-not-values_fit.ensures c.if-not-risks_open.ensures)

pub file_length-size-requires : goal.file_length-size-requires
file_length-size-requires c =
    let a = c.args in
    let g = given_group (edition_number c.in_ok-edition.edition) a.header a.counts.now a.claims.now a.joined.now in
    let w = fifteen g c.if-not-values_fit.ensures in
    (risks-few w, claims-few w)

pub returns-then-out-size : goal.returns-then-out-size
returns-then-out-size c =
    let n = its-number c.args.edition c.try_from.ensures c.in_ok-edition.was in
    rw (sym n) (refused-13 _ _ (known c.in_ok-edition.edition) (sym (ap verdict_is c.in_ok-header_verdict.was) ∙ c.header_verdict.ensures)
    c.if-not-values_fit.ensures c.if-not-risks_open.ensures c.file_length-size.ensures c.if-out-size.true)

pub put_file-requires : goal.put_file-requires
put_file-requires c =
    ready _ _ (known c.in_ok-edition.edition) (sym (ap verdict_is c.in_ok-header_verdict.was) ∙ c.header_verdict.ensures)
    c.if-not-values_fit.ensures c.if-not-risks_open.ensures c.file_length-size.ensures
    (length-take-le c.file_length-size.result c.args.out.now c.if-out-size.false)

pub returns : goal.returns
returns c =
    let n = its-number c.args.edition c.try_from.ensures c.in_ok-edition.was in
    rw (sym n) (written-all _ _ (known c.in_ok-edition.edition) (sym (ap verdict_is c.in_ok-header_verdict.was) ∙ c.header_verdict.ensures)
    c.if-not-values_fit.ensures c.if-not-risks_open.ensures c.file_length-size.ensures c.if-out-size.false c.put_file.ensures)
