-- Reads one after another: what each gives stands in the buffer behind what those before it gave, so together they are
-- one read.
use Rattle.std.proofs.Common.{◌≡◌, ℕ, ◌+◌, ◌≤◌, List, ◌++◌, length, sym, ap, ◌∙◌, append_assoc}
use Rattle.std.specs.Prelude.{Option, None, Some, take}
use Rattle.std.specs.Io.KnownBytes.{Consumes}
use Rattle.std.proofs.Math.Seq.{take-append-add}
use Rattle.std.proofs.lemmas.List.{take-append-le, length-take-le}
use borrow.Rule.Slice.PartMut.{put_mid, post_of}

pub consumes-more : (a b c : Option (List ℕ)) (xs ys : List ℕ) → Consumes a b xs → Consumes b c ys
    → Consumes a c (xs ++ ys)
consumes-more None b c xs ys p q = tt
consumes-more (Some all) None c xs ys p q = elim p [ ]
consumes-more (Some all) (Some left) None xs ys p q = elim q [ ]
consumes-more (Some all) (Some left) (Some last) xs ys p q = p ∙ ap (λ t. xs ++ t) q ∙ sym (append_assoc xs ys last)

pub take-more : (done k more : ℕ) (xs ys : List ℕ) → done ≤ length xs → more ≤ length ys
    → take (done + more) (put_mid done k xs ys) ≡ take done xs ++ take more ys
take-more done k more xs ys d m =
    let e : length (take done xs) ≡ done = length-take-le done xs d in
    ap (λ n. take (n + more) (put_mid done k xs ys)) (sym e)
    ∙ take-append-add (take done xs) (ys ++ post_of done k xs) more
    ∙ ap (λ t. take done xs ++ t) (take-append-le more ys (post_of done k xs) m)
