-- The end is no later than that of the largest file, so that the field of the fill bits is fewer than eight bits wide.
use Rattle.std.proofs.Common.{◌∙◌, arith}
use Rattle.laws.proofs.FileSizes.{end-le}
use Rattle.groupfile.proofs.opening.end_verdict.Goals as goal

pub overflow_mul-width : goal.overflow_mul-width
overflow_mul-width c = omega (arith, c.if-file-div_ceil.false, c.div_ceil.ensures, c.requires.0, end-le c.args.file.now)

pub take-fill-requires : goal.take-fill-requires
take-fill-requires c =
    let s = c.args.file.now in
    let end = c.if-file-div_ceil.false ∙ c.div_ceil.ensures in
    record {
      narrow = omega (arith, end, c.requires.0, end-le s);
      next = omega (arith, end, c.requires.0, end-le s);
    }
