-- A run of claims that is in reach has each of its claims in reach. Assumes nothing.
use mathlib.Core.Path.{◌≡◌}
use mathlib.Core.List.{List}
use Prim.Native.Nat.{ℕ, ◌+◌, ◌*◌, ◌≤◌}
use native.Mathlib.Omega.{arith}
use Rattle.plan.specs.Claim.{past_claims}
use Rattle.laws.proofs.Claims.{past-claims-le}
use Rattle.claims.specs.Claim.{ClaimReach}

-- where k claims from `at` on end in time, so does the one after i of them, at p
pub next-reach : (s : List ℕ) {at k i p reach : ℕ} → p ≡ past_claims s at i → i ≤ k → ClaimReach at k reach → ClaimReach p 0 reach
next-reach s {at} {k} {i} {p} e h r =
    let most : p + 21 * 0 ≤ at + 21 * k = omega (arith, e, past-claims-le s at i) in
    record { inside = omega (arith, most, r.inside); ends = omega (arith, most, r.ends) }
