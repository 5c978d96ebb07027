-- The word from the place's byte on, without the bits before the place.
use Rattle.std.proofs.Common.{◌≡◌, refl, subst, ℕ, ◌+◌, ◌*◌, ◌/◌, ◌%◌, ◌^◌, arith}
use Rattle.bits.specs.Take.{Ahead}
use Rattle.bits.proofs.Fronts.{ahead-word, ahead-fewer, ahead_past}
use Rattle.bits.proofs.BitPlace.front.Goals as goal

pub returns : goal.returns
returns c =
    let a = c.args in
    let at = a.self.at in
    let here : 8 * (at / 8) + at % 8 ≡ at = omega arith in
    let word = ahead-word a.file.now (8 * (at / 8)) c.word_within.ensures in (
      refl,
      subst (λ (p : ℕ). Ahead a.file.now p 57 ((c.word_within.result * 2 ^ (at % 8)) % 2 ^ 64)) here
          (ahead-fewer (ahead_past word (at % 8) (omega arith)) 57 (omega arith)),
    )
