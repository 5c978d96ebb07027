-- Facts from Boolean tests and back. Assumes nothing.
use mathlib.Core.Path.{◌≡◌, refl}
use mathlib.Core.Bool.{Bool, true, false, ◌&&◌}

-- both halves of a test that passed
pub both : (a b : Bool) → (a && b) ≡ true → (a ≡ true) × (b ≡ true)
both true b e = (refl, e)
both false b e = (cc, cc)

-- a test passes where both halves do
pub and_yes : {a b : Bool} → a ≡ true → b ≡ true → (a && b) ≡ true
and_yes {a} {b} p q = simp (p, q)

-- and fails where its first half does, or where its second does after the first passed
pub and-first-no : {a : Bool} (b : Bool) → a ≡ false → (a && b) ≡ false
and-first-no b p = simp p

pub and-second-no : {a b : Bool} → a ≡ true → b ≡ false → (a && b) ≡ false
and-second-no p q = simp (p, q)
