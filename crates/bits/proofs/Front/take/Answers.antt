-- The field is on the front: one fact over the width.
use Rattle.std.proofs.Common.{refl, ◌∙◌}
use Rattle.bits.proofs.Fronts.{front-is, ahead_past}
use Rattle.bits.proofs.Front.take.Goals as goal

pub returns : goal.returns
returns c =
    let f = c.args.self in
    let w = c.args.width in
    record {
      place = refl;
      fits = c.highest-value.ensures.fits;
      highest = c.highest-value.ensures.is;
      others = refl;
      is = λ s left h a. c.highest-value.ensures.is ∙ front-is a w h;
      rest = λ s left h a. ahead_past a w h;
    }
