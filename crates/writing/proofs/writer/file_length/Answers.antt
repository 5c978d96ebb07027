-- The quotient by 8, rounded up, and a claim's width in the edition.
use Rattle.std.proofs.Common.{◌∙◌, ap, ℕ, ◌+◌, ◌*◌}
use Rattle.plan.specs.Field.{bytes_for}
use Rattle.plan.specs.Header.{header_bits}
use Rattle.plan.specs.Risk.{count_width}
use Rattle.writing.proofs.Lengths.{ceil-bytes}
use Rattle.writing.proofs.writer.file_length.Goals as goal

pub returns : goal.returns
returns c =
    c.div_ceil.ensures ∙ ceil-bytes _
    ∙ ap (λ (w : ℕ). bytes_for (header_bits + count_width * c.args.risks + w * c.args.claims)) c.claim_width.ensures
