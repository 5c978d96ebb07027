-- Laws of accidents. The sums of the first k claims' accidents and the next claim's bit make those of the first k + 1: a bit 0 opens
-- an accident, a bit 1 adds to the last. So of any claims the sum of the last accident and what the limit leaves of those before it
-- are enough to go on with. The accidents add to the claims' dollars. Assumes nothing.
use mathlib.Core.Path.{◌≡◌, refl, sym, ap, ◌∙◌}
use mathlib.Core.Bool.{Bool, ◌&&◌, and-true, and_assoc}
use mathlib.Core.List.{List, [], ◌∷◌, ◌++◌}
use Prim.Native.Nat.{ℕ, zero, suc, ◌+◌, ◌≤◌}
use native.Mathlib.Omega.{arith}
use Rattle.plan.specs.Arithmetic.{sum, sum_of}
use Rattle.plan.specs.Claim.{Claim, claim, joins, dollars}
use Rattle.plan.specs.Accidents.{accidents_from, accidents_of, opens, all_open}

-- ---- the last accident, and those before it

-- after an accident of `last` dollars and some claims: the sum of the last accident
abbrev pub last_from : ℕ → List Claim → ℕ
last_from last [] = last
last_from last (claim zero d ∷ cs) = last_from d cs
last_from last (claim (suc j) d ∷ cs) = last_from (last + d) cs

-- and what f gives of those before it, added up
abbrev pub before_from : (ℕ → ℕ) → ℕ → List Claim → ℕ
before_from f last [] = 0
before_from f last (claim zero d ∷ cs) = f last + before_from f d cs
before_from f last (claim (suc j) d ∷ cs) = before_from f (last + d) cs

-- of a risk's claims, from its first on; no claims are as an accident of no dollars
abbrev pub last_of : List Claim → ℕ
last_of cs = last_from 0 cs

abbrev pub before_last : (ℕ → ℕ) → List Claim → ℕ
before_last f cs = before_from f 0 cs

module _ (f : ℕ → ℕ) where
  all_from : (last : ℕ) (cs : List Claim) → sum_of f (accidents_from last cs) ≡ before_from f last cs + f (last_from last cs)
  all_from last [] = omega arith
  all_from last (claim zero d ∷ cs) = omega (arith, all_from d cs)
  all_from last (claim (suc j) d ∷ cs) = all_from (last + d) cs

  -- all accidents: those before the last, and the last. Of f it is asked that nothing comes of an accident of no dollars
  pub all-accidents : f 0 ≡ 0 → (cs : List Claim) → sum_of f (accidents_of cs) ≡ before_last f cs + f (last_of cs)
  all-accidents z [] = omega (arith, z)
  all-accidents z (claim zero d ∷ cs) = omega (arith, z, all_from d cs)
  all-accidents z (claim (suc j) d ∷ cs) = all_from d cs ∙ ap (λ (x : ℕ). before_from f x cs + f (last_from x cs)) (sym (zero-first d))
    where
      zero-first : (x : ℕ) → 0 + x ≡ x
      zero-first x = omega arith

-- ---- a claim more

last-opens : (last : ℕ) (cs : List Claim) (c : Claim) → joins c ≡ 0 → last_from last (cs ++ c ∷ []) ≡ dollars c
last-opens last [] (claim zero d) e = refl
last-opens last [] (claim (suc j) d) e = absurd (omega arith)
last-opens last (claim zero d ∷ cs) c e = last-opens d cs c e
last-opens last (claim (suc j) d ∷ cs) c e = last-opens (last + d) cs c e

last-joins : (last : ℕ) (cs : List Claim) (c : Claim) → 1 ≤ joins c → last_from last (cs ++ c ∷ []) ≡ last_from last cs + dollars c
last-joins last [] (claim zero d) e = absurd (omega arith)
last-joins last [] (claim (suc j) d) e = refl
last-joins last (claim zero d ∷ cs) c e = last-joins d cs c e
last-joins last (claim (suc j) d ∷ cs) c e = last-joins (last + d) cs c e

before-opens : (f : ℕ → ℕ) (last : ℕ) (cs : List Claim) (c : Claim) → joins c ≡ 0
    → before_from f last (cs ++ c ∷ []) ≡ before_from f last cs + f (last_from last cs)
before-opens f last [] (claim zero d) e = omega arith
before-opens f last [] (claim (suc j) d) e = absurd (omega arith)
before-opens f last (claim zero d ∷ cs) c e = omega (arith, before-opens f d cs c e)
before-opens f last (claim (suc j) d ∷ cs) c e = before-opens f (last + d) cs c e

before-joins : (f : ℕ → ℕ) (last : ℕ) (cs : List Claim) (c : Claim) → 1 ≤ joins c
    → before_from f last (cs ++ c ∷ []) ≡ before_from f last cs
before-joins f last [] (claim zero d) e = absurd (omega arith)
before-joins f last [] (claim (suc j) d) e = refl
before-joins f last (claim zero d ∷ cs) c e = omega (arith, before-joins f d cs c e)
before-joins f last (claim (suc j) d ∷ cs) c e = before-joins f (last + d) cs c e

-- the law of a claim more: what it opens or joins
pub record More (f : ℕ → ℕ) (cs : List Claim) (c : Claim) : Type 0 where
  -- bit 0: the accident before it is closed, and its dollars are the last
  pub opened_last : joins c ≡ 0 → last_of (cs ++ c ∷ []) ≡ dollars c
  pub opened_before : joins c ≡ 0 → before_last f (cs ++ c ∷ []) ≡ before_last f cs + f (last_of cs)
  -- bit 1: it adds to the last
  pub joined_last : 1 ≤ joins c → last_of (cs ++ c ∷ []) ≡ last_of cs + dollars c
  pub joined_before : 1 ≤ joins c → before_last f (cs ++ c ∷ []) ≡ before_last f cs

pub one_more : (f : ℕ → ℕ) (cs : List Claim) (c : Claim) → More f cs c
one_more f cs c = record {
  opened_last = last-opens 0 cs c;
  opened_before = before-opens f 0 cs c;
  joined_last = last-joins 0 cs c;
  joined_before = before-joins f 0 cs c;
}

-- ---- the accidents add to the claims' dollars

sum-from : (last : ℕ) (cs : List Claim) → sum (accidents_from last cs) ≡ last + sum_of dollars cs
sum-from last [] = omega arith
sum-from last (claim zero d ∷ cs) = omega (arith, sum-from d cs)
sum-from last (claim (suc j) d ∷ cs) = omega (arith, sum-from (last + d) cs)

pub sum-accidents : (cs : List Claim) → sum (accidents_of cs) ≡ sum_of dollars cs
sum-accidents [] = refl
sum-accidents (claim j d ∷ cs) = sum-from d cs

-- so the last is no more than all
pub last-le : (cs : List Claim) → last_of cs ≤ sum_of dollars cs
last-le cs = omega (arith, sum-accidents cs, all-accidents (λ x. x) refl cs)

-- ---- first claims that open an accident

pub all-open-more : (rs : List (List Claim)) (last : List Claim) → all_open (rs ++ last ∷ []) ≡ (all_open rs && opens last)
all-open-more [] last = and-true (opens last)
all-open-more (r ∷ rs) last = ap (λ (b : Bool). opens r && b) (all-open-more rs last) ∙ sym (and_assoc (opens r) (all_open rs) (opens last))
