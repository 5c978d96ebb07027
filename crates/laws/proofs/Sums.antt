-- Laws of sums over a list. Each is an induction over the list whose step is linear. Assumes nothing.
use mathlib.Core.Path.{◌≡◌, refl, ap}
use mathlib.Core.List.{List, [], ◌∷◌, ◌++◌, map}
use Prim.Native.Nat.{ℕ, ◌+◌, ◌*◌, ◌≤◌}
use native.Mathlib.Omega.{arith}
use lib.ListN.{length}
use lib.IntN.{ℤ, pos, ◌+ℤ◌}
use Rattle.plan.specs.Arithmetic.{sum_of, sum_z}

module _ {A : Type 0} where
  pub sum-add : (f g : A → ℕ) (l : List A) → sum_of (λ x. f x + g x) l ≡ sum_of f l + sum_of g l
  sum-add f g [] = refl
  sum-add f g (x ∷ xs) = omega (arith, sum-add f g xs)

  pub sum-mul : (k : ℕ) (f : A → ℕ) (l : List A) → sum_of (λ x. k * f x) l ≡ k * sum_of f l
  sum-mul k f [] = omega arith
  sum-mul k f (x ∷ xs) = omega (arith, sum-mul k f xs)

  pub sum-const : (k : ℕ) (l : List A) → sum_of (λ x. k) l ≡ length l * k
  sum-const k [] = omega arith
  sum-const k (x ∷ xs) = omega (arith, sum-const k xs)

  pub sum-ext : (f g : A → ℕ) → ((x : A) → f x ≡ g x) → (l : List A) → sum_of f l ≡ sum_of g l
  sum-ext f g e [] = refl
  sum-ext f g e (x ∷ xs) = omega (arith, e x, sum-ext f g e xs)

  pub sum-le : (f g : A → ℕ) → ((x : A) → f x ≤ g x) → (l : List A) → sum_of f l ≤ sum_of g l
  sum-le f g e [] = omega arith
  sum-le f g e (x ∷ xs) = omega (arith, e x, sum-le f g e xs)

  pub sum-append : (f : A → ℕ) (l m : List A) → sum_of f (l ++ m) ≡ sum_of f l + sum_of f m
  sum-append f [] m = omega arith
  sum-append f (x ∷ xs) m = omega (arith, sum-append f xs m)

  -- a sum of naturals is the same in whole numbers
  pub sum_z-pos : (f : A → ℕ) (l : List A) → sum_z (λ x. pos (f x)) l ≡ pos (sum_of f l)
  sum_z-pos f [] = refl
  sum_z-pos f (x ∷ xs) = ap (λ (z : ℤ). pos (f x) +ℤ z) (sum_z-pos f xs)

pub sum-map : {A B : Type 0} (g : B → ℕ) (f : A → B) (l : List A) → sum_of g (map f l) ≡ sum_of (λ x. g (f x)) l
sum-map g f [] = refl
sum-map g f (x ∷ xs) = ap (λ (y : ℕ). g (f x) + y) (sum-map g f xs)
