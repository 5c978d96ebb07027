-- Whether each of many values fits, as it is looked for: all of them asked, or the greatest alone, or the sum with them.
use mathlib.Core.Path.{◌≡◌, refl, sym, ap, ◌∙◌}
use mathlib.Core.Bool.{Bool, true, false, ◌&&◌, and_assoc}
use mathlib.Core.List.{List, [], ◌∷◌}
use Prim.Native.Nat.{ℕ, ◌+◌, max}
use native.Mathlib.Omega.{arith}
use Rattle.std.proofs.lemmas.Bool.Decides.{nat_tests}
use Rattle.std.proofs.Math.Bool.{and-true}
use Rattle.std.specs.List.{fold, list_all}
use Rattle.plan.specs.Arithmetic.{sum}
use Rattle.plan.specs.Field.{fits, all_fit}

-- asked one after another, after others that were found to fit or not
pub each_asked : (w : ℕ) (b : Bool) (xs : List ℕ) → fold (λ a x. a && fits w x) b xs ≡ (b && all_fit w xs)
each_asked w true [] = refl
each_asked w false [] = refl
each_asked w b (x ∷ xs) = each_asked w (b && fits w x) xs ∙ and_assoc b (fits w x) (all_fit w xs)

-- the greater of two fits where both do
greater-fits : (w a b : ℕ) → fits w (max a b) ≡ (fits w a && fits w b)
greater-fits w a b = grind (arith, nat_tests)

-- the greatest asked
pub greatest-asked : (w m : ℕ) (xs : List ℕ) → fits w (fold max m xs) ≡ (fits w m && all_fit w xs)
greatest-asked w m [] = sym (and-true (fits w m))
greatest-asked w m (x ∷ xs) =
    greatest-asked w (max m x) xs
    ∙ ap (λ (b : Bool). b && all_fit w xs) (greater-fits w m x)
    ∙ and_assoc (fits w m) (fits w x) (all_fit w xs)

-- the sum
added_after : (a : ℕ) (xs : List ℕ) → fold ◌+◌ a xs ≡ a + sum xs
added_after a [] = omega arith
added_after a (x ∷ xs) = added_after (a + x) xs ∙ omega arith

pub added : (xs : List ℕ) → fold ◌+◌ 0 xs ≡ sum xs
added xs = added_after 0 xs ∙ omega arith

-- each asked, until one does not
pub all-asked : (w : ℕ) (xs : List ℕ) → list_all (fits w) xs ≡ all_fit w xs
all-asked w [] = refl
all-asked w (x ∷ xs) = ap (λ (b : Bool). fits w x && b) (all-asked w xs)
