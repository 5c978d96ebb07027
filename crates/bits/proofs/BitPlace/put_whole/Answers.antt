-- The bytes of the number are its field.
use Rattle.std.proofs.Common.{◌≡◌, ◌∙◌, ◌-◌, ◌/◌, ap, arith, List, ℕ, take, drop}
use Rattle.std.proofs.Common.{w64}
use Rattle.std.specs.Int.{to_be_bytes}
use Rattle.bits.proofs.Whole.{put-whole}
use Rattle.bits.proofs.BitPlace.put_whole.Goals as goal

-- the bytes of a number are those of an equal one, however it is computed
of-equal : {b : List ℕ} {v w : ℕ} → b ≡ to_be_bytes w64 v → v ≡ w → b ≡ to_be_bytes w64 w
of-equal e same = e ∙ ap (to_be_bytes w64) same

pub returns-clause-put : goal.returns-clause-put
returns-clause-put g c =
    let a = c.args in
    let r = c.requires in
    let n = g.row.N in
    put-whole a.out.now c.copy_from_slice.new.self (a.self.at / 8) n a.value r.few (omega arith) r.fits
    (c.copy_from_slice.ensures.after ∙ ap (λ (b : List ℕ). take (8 - (8 - n)) (drop (8 - n) b)) (of-equal c.to_be_bytes.ensures (omega arith)))
    (λ i. (c.type_inv.out i).fits) (omega arith)
