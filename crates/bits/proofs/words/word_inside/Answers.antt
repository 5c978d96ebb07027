-- Eight bytes of the file are the word.
use Rattle.std.proofs.Common.{◌≡◌, ap, ◌∙◌, ℕ, ◌+◌, ◌-◌, ◌<◌, List, get_or, take, drop, arith}
use Rattle.std.proofs.lemmas.List.{get_or-take, get_or-drop}
use Rattle.bits.proofs.Takes.{eight_bytes}
use Rattle.bits.proofs.words.word_inside.Goals as goal

pub returns : goal.returns
returns c =
    let s = c.args.file.now in
    let i = c.args.i in
    let bytes = c.copy_from_slice.new.self in
    let eight : i + 8 - i ≡ 8 = omega arith in
    let are : bytes ≡ take 8 (drop i s) = c.copy_from_slice.ensures.after ∙ ap (λ (n : ℕ). take n (drop i s)) eight in
    let byte : (k : ℕ) → k < 8 → get_or bytes k 0 ≡ get_or s (i + k) 0 =
    λ k h. ap (λ (b : List ℕ). get_or b k 0) are ∙ get_or-take 8 (drop i s) k 0 h ∙ get_or-drop i s k 0 in
    let first : get_or bytes 0 0 ≡ get_or s i 0 = byte 0 (omega arith) ∙ ap (λ (k : ℕ). get_or s k 0) (omega arith) in
    omega (
      arith,
      c.from_be_bytes.ensures,
      eight_bytes s i (λ k. (c.type_inv.file k).fits),
      first,
      byte 1 (omega arith),
      byte 2 (omega arith),
      byte 3 (omega arith),
      byte 4 (omega arith),
      byte 5 (omega arith),
      byte 6 (omega arith),
      byte 7 (omega arith),
    )
