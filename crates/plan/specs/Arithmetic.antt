-- What document 01 takes for granted: sums over a list, what a number has above or lacks below another, the nearest whole number.
use Rattle.std.specs.Prelude.{List, [], ◌∷◌, ℕ, ◌+◌, ◌*◌, ◌-◌, ◌/◌, ℤ, pos, ◌+ℤ◌}

module _ {A : Type 0} where
  -- the sum of f over a list, in naturals
  abbrev pub sum_of : (A → ℕ) → List A → ℕ
  sum_of f [] = 0
  sum_of f (x ∷ xs) = f x + sum_of f xs

  -- the sum of f over a list, in whole numbers
  abbrev pub sum_z : (A → ℤ) → List A → ℤ
  sum_z f [] = pos 0
  sum_z f (x ∷ xs) = f x +ℤ sum_z f xs

-- the sum of a list
abbrev pub sum : List ℕ → ℕ
sum xs = sum_of (λ x. x) xs

-- what x has above y: 0 where it has nothing above
abbrev pub above : ℕ → ℕ → ℕ
above x y = x - y

-- what x lacks below y: 0 where it lacks nothing
abbrev pub below : ℕ → ℕ → ℕ
below x y = y - x

-- a ÷ b to the nearest whole number, an exact half upward, for every b above 0
unfoldable pub nearest : ℕ → ℕ → ℕ
nearest a b = (2 * a + b) / (2 * b)
