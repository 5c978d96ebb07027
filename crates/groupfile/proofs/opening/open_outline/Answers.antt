-- The counts are those of the file's own n, from the header's end on.
use native.Mathlib.Omega.{arith}
use Rattle.laws.proofs.FileSizes.{risks-le}
use Rattle.groupfile.proofs.opening.open_outline.Goals as goal

pub count_claims-counted-requires : goal.count_claims-counted-requires
count_claims-counted-requires c =
    let e = c.header_of-header.ensures in
    (omega (arith, e.risks, risks-le c.args.file.now), e.next)
