-- The fold asks each claim.
use Rattle.std.proofs.Common.{◌&&◌, ◌∙◌, true, rules}
use borrow.Author.Tests.{tests}
use Rattle.std.proofs.lemmas.Iterator.{YieldsList-from_slice}
use Rattle.std.proofs.lemmas.Iterator.Consumers.{fold_from_yields_List}
use Rattle.plan.specs.Field.{fits}
use Rattle.plan.specs.Claim.{dollars_width}
use Rattle.writing.proofs.Fits.{each_asked}
use Rattle.writing.proofs.fitting.claims_fit.Goals as goal

pub returns : goal.returns
returns c =
    fold_from_yields_List _ (λ a x. a && fits dollars_width x) true c.fold.result c.fold.ensures.ran
    (YieldsList-from_slice c.args.claims.now (cc))
    (λ a x b q k. search (rules, tests))
    ∙ each_asked dollars_width true c.args.claims.now
