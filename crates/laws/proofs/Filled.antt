-- A lent buffer whose first entries are filled, as a loop fills it: one store makes it filled with one entry more, a run of
-- stores with several. Assumes nothing.
use mathlib.Core.Path.{◌≡◌, refl, sym, ap, ap₂, ◌∙◌}
use mathlib.Core.List.{List, [], ◌∷◌, ◌++◌}
use Prim.Native.Nat.{ℕ, suc, ◌+◌, ◌≤◌, ◌<◌}
use native.Mathlib.Omega.{arith}
use lib.ListN.{length, take, drop, set, length-append, length-drop}
use lib.Seq.{drop-cons, set_at, append_snoc, drop_at, drop-drop, take-length, paste, take-append_seam}
use Rattle.plan.specs.Call.{filled}

module _ {A : Type 0} where
  pub filled_none : (old : List A) → old ≡ filled [] old
  filled_none old = refl

  pub length-filled : (new old : List A) → length new ≤ length old → length (filled new old) ≡ length old
  length-filled new old h = omega (arith, length-append new (drop (length new) old), length-drop (length new) old)

  -- the first entries are the new ones
  pub first-filled : (new old : List A) {n : ℕ} → n ≡ length new → take n (filled new old) ≡ new
  first-filled new old e = ap (λ (k : ℕ). take k (filled new old)) e ∙ take-append_seam new (drop (length new) old)

  -- one store behind the first i
  pub filled_more : (new old : List A) (v : A) {i : ℕ} → length new ≡ i → i < length old
      → set (filled new old) i v ≡ filled (new ++ v ∷ []) old
  filled_more new old v {i} e h =
      let n : length (new ++ v ∷ []) ≡ suc (length new) = length-append new (v ∷ []) ∙ omega arith in
      ap (λ (l : List A). set (new ++ l) i v) (drop-cons old (length new) v (omega arith))
      ∙ set_at new _ (drop (suc (length new)) old) v i e
      ∙ sym (append_snoc new v (drop (suc (length new)) old))
      ∙ ap (λ (k : ℕ). (new ++ v ∷ []) ++ drop k old) (sym n)

  -- a run of stores behind the first i
  pub filled-run : (new old vs : List A) {i k : ℕ} → length new ≡ i → length vs ≡ k
      → paste (filled new old) i vs k ≡ filled (new ++ vs) old
  filled-run new old vs {i} {k} e f =
      let n : length (new ++ vs) ≡ length new + length vs = length-append new vs in
      ap₂ (λ (a b : ℕ). paste (filled new old) a vs b) (sym e) (sym f)
      ∙ ap₂ ◌++◌ (ap₂ ◌++◌ (take-append_seam new (drop (length new) old)) (take-length vs))
      (sym (drop-drop (length vs) (length new) (filled new old))
      ∙ ap (drop (length vs)) (drop_at new (drop (length new) old) (length new) refl)
      ∙ drop-drop (length vs) (length new) old)
      ∙ ap (λ (k : ℕ). (new ++ vs) ++ drop k old) (sym n)
