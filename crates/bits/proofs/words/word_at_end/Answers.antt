-- Eight bytes are the word: each call gave the byte there, and 0 past the file's end.
use Rattle.std.proofs.Common.{◌≡◌, ◌+◌, arith, rules, get_or}
use Rattle.bits.proofs.Takes.{eight_bytes}
use Rattle.bits.proofs.words.word_at_end.Goals as goal

pub returns : goal.returns
returns c =
    let s = c.args.file.now in
    let i = c.args.i in
    let bytes = c.from_fn.result in
    let calls = c.from_fn.ensures.items.each in
    let e0 : get_or bytes 0 0 ≡ get_or s i 0 = search rules in
    let e1 : get_or bytes 1 0 ≡ get_or s (i + 1) 0 = search rules in
    let e2 : get_or bytes 2 0 ≡ get_or s (i + 2) 0 = search rules in
    let e3 : get_or bytes 3 0 ≡ get_or s (i + 3) 0 = search rules in
    let e4 : get_or bytes 4 0 ≡ get_or s (i + 4) 0 = search rules in
    let e5 : get_or bytes 5 0 ≡ get_or s (i + 5) 0 = search rules in
    let e6 : get_or bytes 6 0 ≡ get_or s (i + 6) 0 = search rules in
    let e7 : get_or bytes 7 0 ≡ get_or s (i + 7) 0 = search rules in
    omega (arith, c.from_be_bytes.ensures, eight_bytes s i (λ k. (c.type_inv.file k).fits))
