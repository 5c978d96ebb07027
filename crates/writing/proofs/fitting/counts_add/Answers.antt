-- Each count is asked whether it fits; where all do, they are added.
use Rattle.std.proofs.Common.{◌≡◌, ◌&&◌, ◌∙◌, ap, ap₂, sym, rules, eqb, Bool}
use Prim.Native.Nat.{ℕ, ◌+◌}
use borrow.Author.Tests.{tests}
use Rattle.std.proofs.iter.runs.Made.{chains}
use Rattle.std.proofs.lemmas.Iterator.{YieldsList-from_slice}
use Rattle.std.proofs.lemmas.Iterator.Search.{all_from_yields_List}
use Rattle.std.specs.List.{fold}
use Rattle.plan.specs.Arithmetic.{sum}
use Rattle.plan.specs.Field.{fits, all_fit}
use Rattle.plan.specs.Risk.{count_width}
use Rattle.writing.proofs.Fits.{added, all-asked}
use Rattle.writing.proofs.fitting.counts_add.Goals as goal
use Rattle.writing.proofs.fitting.counts_add.Goals.{After-all-fit}

-- whether all fit
fit-is : (c : After-all-fit) → c.all-fit.result ≡ all_fit count_width c.args.counts.now
fit-is c =
    all_from_yields_List (fits count_width) _ _ _ c.all-fit.ensures.ran (YieldsList-from_slice c.args.counts.now (cc))
    (λ x b q k. search (rules, tests))
    ∙ all-asked count_width c.args.counts.now

pub returns : goal.returns
returns c =
    let counts = c.args.counts.now in
    let e : c.sum-total.result ≡ fold ◌+◌ 0 counts = search (rules, chains) in
    ap₂ (λ (b : Bool) (n : ℕ). b && eqb n c.args.claims) (sym c.if-not-fit.false ∙ fit-is (goal.at.returns c).After-all-fit) (e ∙ added counts)

pub returns-then-not-fit : goal.returns-then-not-fit
returns-then-not-fit c =
    ap (λ (b : Bool). b && eqb (sum c.args.counts.now) c.args.claims)
    (sym c.if-not-fit.true ∙ fit-is (goal.at.returns-then-not-fit c).After-all-fit)
