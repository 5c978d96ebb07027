-- A sum that the code makes of a group's limited losses by a chain is that over the losses as document 01 has them. Assumes nothing.
use Rattle.std.proofs.Common.{◌≡◌, refl, ap, ◌∙◌, subst, ℕ, ◌+◌, List, [], ◌∷◌, map, sum, sum_by}
use Rattle.std.proofs.lemmas.List.Sums.{sum-map, sum_by-cons}
use Rattle.plan.specs.Arithmetic.{sum_of}
use Rattle.plan.specs.Losses as losses
use Rattle.group.specs.Values.{losses_of}
use Rattle.group.specs.declared.Losses.{Losses}

by-limited : (f : ℕ → ℕ) (xs : List Losses) → sum_by (λ (x : Losses). f x.limited) xs
    ≡ sum_of (λ (r : losses.Losses). f r.limited) (losses_of xs)
by-limited f [] = refl
by-limited f (x ∷ xs) = sum_by-cons (λ (x : Losses). f x.limited) x xs ∙ ap (λ (n : ℕ). f x.limited + n) (by-limited f xs)

pub sum-limited : (f : ℕ → ℕ) (xs : List Losses) → sum (map (λ (x : Losses). f x.limited) xs)
    ≡ sum_of (λ (r : losses.Losses). f r.limited) (losses_of xs)
sum-limited f xs = sum-map (λ (x : Losses). f x.limited) xs ∙ by-limited f xs

-- what losses come to by f, where they are passed as a slice
pub of-slice : (f : losses.Losses → ℕ) {xs ys : List Losses} {v : ℕ} → v ≡ sum_of f (losses_of xs) → xs ≡ ys → v ≡ sum_of f (losses_of ys)
of-slice f {v = v} e is = subst (λ (l : List Losses). v ≡ sum_of f (losses_of l)) is e
