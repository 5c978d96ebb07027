-- A file of edition 1 is what it was before there was another: its bits are 0, so each claim is an accident of its own, A is the sum of
-- what the limit leaves of each claim, and question 19 refuses none. Assumes nothing.
use mathlib.Core.Path.{◌≡◌, refl, ap}
use mathlib.Core.Bool.{true}
use mathlib.Core.List.{List, [], ◌∷◌, map}
use Prim.Native.Nat.{ℕ, zero, suc}
use native.Mathlib.Omega.{arith}
use borrow.Author.Tests.{eq-eqb}
use Rattle.plan.specs.Arithmetic.{sum_of}
use Rattle.plan.specs.Header.{edition_of, header_bits, risk_count}
use Rattle.plan.specs.Claim.{Claim, claim, joins, dollars, joined_width, past_claim, claims_from}
use Rattle.plan.specs.Risk.{count_at, first_claim, claims_at, past_risk, risks_from, all_claims}
use Rattle.plan.specs.File.{claims_in, risks_of}
use Rattle.plan.specs.Accidents.{accidents_from, accidents_of, opens, all_open}
use Rattle.plan.specs.Losses.{limited_to, limited_of}
use Rattle.laws.proofs.Sums.{sum-append}
use Rattle.laws.proofs.Tests.{and_yes}
use Rattle.laws.proofs.Claims.{not-joined}

-- the claims' bits add to nothing, so each is 0
abbrev pub NoBit : List Claim → Type 0
NoBit cs = sum_of joins cs ≡ 0

-- ---- claims without a bit

accidents-single : (last : ℕ) (cs : List Claim) → NoBit cs → accidents_from last cs ≡ last ∷ map dollars cs
accidents-single last [] e = refl
accidents-single last (claim zero d ∷ cs) e = ap (λ (l : List ℕ). last ∷ l) (accidents-single d cs (omega (arith, e)))
accidents-single last (claim (suc j) d ∷ cs) e = absurd (omega (arith, e))

-- each claim is an accident of its own
pub each-its-own : (cs : List Claim) → NoBit cs → accidents_of cs ≡ map dollars cs
each-its-own [] e = refl
each-its-own (claim j d ∷ cs) e = accidents-single d cs (omega (arith, e))

-- ---- the claims of a file of edition 1

module _ (s : List ℕ) (one : edition_of s ≡ 1) where
  none : joined_width (edition_of s) ≡ 0
  none = ap joined_width one

  no-bit : (at k : ℕ) → NoBit (claims_from s at k)
  no-bit at zero = refl
  no-bit at (suc k) = omega (arith, not-joined s at none, no-bit (past_claim s at) k)

  -- the accidents of a risk are its claims, and A is document 01's 'sum of the lesser of each claim and the loss limit'
  pub accidents-are-claims : (at : ℕ) → accidents_of (claims_at s at) ≡ map dollars (claims_at s at)
  accidents-are-claims at = each-its-own (claims_at s at) (no-bit (first_claim at) (count_at s at))

  pub limited-as-it-was : (limit at : ℕ) → limited_of limit (claims_at s at) ≡ sum_of (limited_to limit) (map dollars (claims_at s at))
  unfolding limited_of
  limited-as-it-was limit at = ap (sum_of (limited_to limit)) (accidents-are-claims at)

  -- 'all 0 for edition 1'
  no_bits : (at n : ℕ) → NoBit (all_claims (risks_from s at n))
  no_bits at zero = refl
  no_bits at (suc n) =
      omega (
        arith,
        sum-append joins (claims_at s at) (all_claims (risks_from s (past_risk s at) n)),
        no-bit (first_claim at) (count_at s at),
        no_bits (past_risk s at) n,
      )

  pub all-bits-zero : NoBit (claims_in s)
  all-bits-zero = no_bits header_bits (risk_count s)

  -- no file of edition 1 is refused with 19
  opens-each : (at k : ℕ) → opens (claims_from s at k) ≡ true
  opens-each at zero = refl
  opens-each at (suc k) = eq-eqb _ _ (not-joined s at none)

  opens-all : (at n : ℕ) → all_open (risks_from s at n) ≡ true
  opens-all at zero = refl
  opens-all at (suc n) = and_yes (opens-each (first_claim at) (count_at s at)) (opens-all (past_risk s at) n)

  pub each_opens : all_open (risks_of s) ≡ true
  each_opens = opens-all header_bits (risk_count s)
