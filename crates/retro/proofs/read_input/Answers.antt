-- What a read gives stands behind the bytes read before, and comes off what the reader had left.
use Rattle.std.proofs.Common.{rules, subst, sym, ◌-◌, length}
use Rattle.std.specs.Prelude.{take}
use Rattle.std.specs.Io.KnownBytes.{Consumes}
use Rattle.retro.proofs.Reading.{consumes-more, take-more}
use Rattle.retro.proofs.read_input.Goals as goal

pub loop-done-preserved : goal.loop-done-preserved
loop-done-preserved g c =
    let l = c.loop-done in
    let remaining = g.R.Read.remaining in
    let room = length l.input - l.done in
    let behind = take-more l.done room c.in_ok-more.more l.input c.read.new.buf (search rules) (search rules) in (
      search rules,
      search rules,
      subst (λ bytes. Consumes (remaining c.args.reader.now) (remaining c.read.new.self) bytes) (sym behind)
          (consumes-more (remaining c.args.reader.now) (remaining l.reader) (remaining c.read.new.self)
          (take l.done l.input) (take c.in_ok-more.more c.read.new.buf) l.invariant.2 c.in_ok-more.ensures.bytes.0),
    )
