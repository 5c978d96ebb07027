-- Whether a risk's first claim opens an accident. Assumes nothing.
use mathlib.Core.Path.{◌≡◌, refl, ap, ap₂, ◌∙◌}
use mathlib.Core.Bool.{Bool, true, ◌||◌}
use mathlib.Core.List.{List}
use Prim.Native.Nat.{ℕ, zero, suc}
use native.Mathlib.Omega.{arith}
use borrow.Author.Tests.{eq-eqb, ne_eqb}
use lib.Dec.{eqb}
use Rattle.plan.specs.Header.{edition_of}
use Rattle.plan.specs.Claim.{joins, joined_width, claim_at, claims_from}
use Rattle.plan.specs.Accidents.{opens}
use Rattle.laws.proofs.Claims.{not-joined}

-- claims without bits open an accident each
pub single-opens : (s : List ℕ) (at k : ℕ) → joined_width (edition_of s) ≡ 0 → opens (claims_from s at k) ≡ true
single-opens s at zero e = refl
single-opens s at (suc k) e = eq-eqb _ _ (not-joined s at e)

-- with bits: where there is none, or the first one's bit is 0
pub joined-opens : (s : List ℕ) (at : ℕ) {k b : ℕ} (n : ℕ) → k ≡ n → b ≡ joins (claim_at s at)
    → (eqb k 0 || eqb b 0) ≡ opens (claims_from s at n)
joined-opens s at {k} {b} zero e f = ap (λ (x : ℕ). eqb x 0 || eqb b 0) e
joined-opens s at {k} {b} (suc n) e f =
    ap₂ (λ (x y : ℕ). eqb x 0 || eqb y 0) e f
    ∙ ap (λ (z : Bool). z || eqb (joins (claim_at s at)) 0) (ne_eqb (suc n) 0 (λ z. omega (arith, z)))
