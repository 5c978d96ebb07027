-- Whole numbers as differences of naturals. `Differs z a b` says that z is a − b; sums, differences, natural multiples and
-- sums over a list keep it, so an equation or an order of whole numbers becomes one of naturals, which omega reads.
-- Assumes nothing.
use mathlib.Core.Path.{◌≡◌, ap}
use mathlib.Core.Bool.{Bool, true, false, not, cond}
use mathlib.Core.List.{List, [], ◌∷◌}
use Prim.Native.Nat.{ℕ, zero, suc, ◌+◌, ◌*◌, ◌-◌, ◌≤◌, ◌<◌}
use native.Mathlib.Omega.{arith}
use lib.IntN.{ℤ, pos, negsuc, neg_ℤ, ◌+ℤ◌, ◌-ℤ◌, ◌*ℤ◌, sub_ℕ}
use lib.Signed.{◌≤ℤ◌, ◌<ℤ◌, mag, le_z_yes, lt_z_yes}
use lib.Dec.{T, ltb, ltb→lt, nltb→le, le→leb, lt→ltb}
use Rattle.plan.specs.Arithmetic.{sum_of, sum_z}

-- what z has above 0, and what it lacks below
abbrev pub over : ℤ → ℕ
over (pos n) = n
over (negsuc n) = 0

abbrev pub under : ℤ → ℕ
under (pos n) = 0
under (negsuc n) = suc n

-- z is a − b
pub record Differs (z : ℤ) (a b : ℕ) : Type 0 where
  pub is : over z + b ≡ under z + a

pub of-pos : (n : ℕ) → Differs (pos n) n 0
of-pos n = record { is = omega arith }

pub of-self : (z : ℤ) → Differs z (over z) (under z)
of-self z = record { is = omega arith }

pub of-neg : (z : ℤ) {a b : ℕ} → Differs z a b → Differs (neg_ℤ z) b a
of-neg (pos zero) d = record { is = omega arith }
of-neg (pos (suc n)) d = record { is = omega arith }
of-neg (negsuc n) d = record { is = omega arith }

sub-cond : (a b : ℕ) (t : Bool) → (T t → a < b) → (T (not t) → b ≤ a) → Differs (cond t (negsuc (b - suc a)) (pos (a - b))) a b
sub-cond a b true f g = let h : a < b = f tt in record { is = omega arith }
sub-cond a b false f g = let h : b ≤ a = g tt in record { is = omega arith }

of-sub : (a b : ℕ) → Differs (sub_ℕ a b) a b
of-sub a b = sub-cond a b (ltb a b) (ltb→lt a b) (nltb→le a b)

pub of-add : (z w : ℤ) {a b c d : ℕ} → Differs z a b → Differs w c d → Differs (z +ℤ w) (a + c) (b + d)
of-add (pos m) (pos n) p q = record { is = omega arith }
of-add (pos m) (negsuc n) p q =
    let s : Differs (sub_ℕ m (suc n)) m (suc n) = of-sub m (suc n) in record { is = omega arith }
of-add (negsuc m) (pos n) p q =
    let s : Differs (sub_ℕ n (suc m)) n (suc m) = of-sub n (suc m) in record { is = omega arith }
of-add (negsuc m) (negsuc n) p q = record { is = omega arith }

pub of-minus : (z w : ℤ) {a b c d : ℕ} → Differs z a b → Differs w c d → Differs (z -ℤ w) (a + d) (b + c)
of-minus z w p q = of-add z (neg_ℤ w) p (of-neg w q)

pub of-scale : (k : ℕ) (z : ℤ) {a b : ℕ} → Differs z a b → Differs (pos k *ℤ z) (k * a) (k * b)
of-scale k (pos n) p = record { is = omega (arith, ap (λ (x : ℕ). k * x) p.is) }
of-scale k (negsuc n) p =
    let s : Differs (neg_ℤ (pos (k * suc n))) 0 (k * suc n) = of-neg (pos (k * suc n)) (of-pos (k * suc n)) in
    record { is = omega (arith, ap (λ (x : ℕ). k * x) p.is) }

pub of-sum : {A : Type 0} (f : A → ℤ) (a b : A → ℕ) → ((x : A) → Differs (f x) (a x) (b x)) → (l : List A)
    → Differs (sum_z f l) (sum_of a l) (sum_of b l)
of-sum f a b d [] = of-pos 0
of-sum f a b d (x ∷ xs) = of-add (f x) (sum_z f xs) (d x) (of-sum f a b d xs)

-- two differences that agree are one whole number
pub same : (z w : ℤ) {a b c d : ℕ} → Differs z a b → Differs w c d → a + d ≡ c + b → z ≡ w
same (pos m) (pos n) p q e = ap pos (omega arith)
same (pos m) (negsuc n) p q e = absurd (omega arith)
same (negsuc m) (pos n) p q e = absurd (omega arith)
same (negsuc m) (negsuc n) p q e = ap negsuc (omega arith)

-- and one whole number's differences agree
pub crossed : (z w : ℤ) {a b c d : ℕ} → Differs z a b → Differs w c d → z ≡ w → a + d ≡ c + b
crossed z w p q e = omega (arith, p.is, q.is, ap over e, ap under e)

-- the order of naturals is theirs in whole numbers
pub pos-≤ : {a b : ℕ} → a ≤ b → pos a ≤ℤ pos b
pos-≤ {a} {b} h = record { le = le→leb a b h }

-- a difference a − b with a below a bound and b at most that bound is within it on both sides
pub mag-lt : (z : ℤ) {a b m : ℕ} → Differs z a b → a < m → b ≤ m → mag z < m
mag-lt (pos n) d h k = omega (arith, d.is)
mag-lt (negsuc n) d h k = omega (arith, d.is)

-- the same in the order of whole numbers: from −(k + 1) to below m
pub between : (z : ℤ) {a b m k : ℕ} → Differs z a b → a < m → b ≤ suc k → (negsuc k ≤ℤ z) × (z <ℤ pos m)
between (pos n) {m = m} d h l = (le_z_yes tt, lt_z_yes (lt→ltb n m (omega (arith, d.is))))
between (negsuc n) {k = k} d h l = (le_z_yes (le→leb n k (omega (arith, d.is))), lt_z_yes tt)
