-- The fold finds the greatest bit, and whether it fits is asked; 0, from which it begins, fits any width.
use Rattle.std.proofs.Common.{◌≡◌, ◌&&◌, ◌∙◌, ap, ap₂, Bool, rules}
use lib.Pow.{pow_pos}
use borrow.Author.Tests.{lt-ltb}
use Prim.Native.Nat.{max, ◌^◌}
use Rattle.std.proofs.iter.runs.Made.{chains}
use Rattle.std.specs.List.{fold}
use Rattle.plan.specs.Field.{fits, all_fit}
use Rattle.plan.specs.Claim.{joined_width}
use Rattle.group.specs.Edition.{edition_number}
use Rattle.writing.proofs.Fits.{greatest-asked}
use Rattle.writing.proofs.fitting.joined_fit.Goals as goal

pub returns : goal.returns
returns c =
    let w = joined_width (edition_number c.args.edition) in
    let e : c.fold-most.result ≡ fold max 0 c.args.joined.now = search (rules, chains) in
    c.value_fits.ensures ∙ ap₂ fits c.joined_width.ensures (c.from.ensures ∙ e) ∙ greatest-asked w 0 c.args.joined.now
    ∙ ap (λ (b : Bool). b && all_fit w c.args.joined.now) (lt-ltb 0 (2 ^ w) (pow_pos w))
