-- Step 1: 'L is a risk's sum of claims. A is its sum of the lesser of each claim and the loss limit; without a limit A = L.
-- SL and SA are their sums over the group.' Since document 02, job 4, 'The limit applies to the accident's sum'; in edition 1 each
-- claim is its own accident, so there A is as document 01 has it (`FirstEdition.limited-as-it-was`). All later steps speak of the
-- header and of the list of losses only.
use Rattle.std.specs.Prelude.{List, map, ℕ, zero, suc, min, take}
use Rattle.plan.specs.Arithmetic.{sum_of}
use Rattle.plan.specs.Header.{header_of, header_bits, risk_count}
use Rattle.plan.specs.Claim.{Claim, dollars}
use Rattle.plan.specs.Risk.{risks_from}
use Rattle.plan.specs.Accidents.{accidents_of}

-- a risk's losses
pub record Losses : Type 0 where
  -- L
  pub total : ℕ
  -- A, the limited losses
  pub limited : ℕ

-- the lesser of an accident's sum and the loss limit; a limit of 0 is none
abbrev pub limited_to : ℕ → ℕ → ℕ
limited_to zero x = x
limited_to (suc l) x = min x (suc l)

-- L of a risk's claims, from its first on
abbrev pub total_of : List Claim → ℕ
total_of claims = sum_of dollars claims

-- A of a risk's claims, from its first on; the first k of them have an A too
unfoldable pub limited_of : ℕ → List Claim → ℕ
limited_of limit claims = sum_of (limited_to limit) (accidents_of claims)

-- L and A of a risk's claims
abbrev pub losses_of : ℕ → List Claim → Losses
losses_of limit claims = record { total = total_of claims; limited = limited_of limit claims }

-- SL
abbrev pub SL : List Losses → ℕ
SL rs = sum_of (λ r. r.total) rs

-- SA
abbrev pub SA : List Losses → ℕ
SA rs = sum_of (λ r. r.limited) rs

-- the losses of the first n risks of the file s from a place on
abbrev pub losses_from : List ℕ → ℕ → ℕ → ℕ → List Losses
losses_from s limit at n = map (losses_of limit) (risks_from s at n)

-- the losses of each risk of a file
abbrev pub losses_in : List ℕ → List Losses
losses_in s = losses_from s (header_of s).loss_limit header_bits (risk_count s)

-- ---- job 3: 'keep a running sum while the claims are read, and show that after each risk it is the sum of A so far'

-- the losses of the first k risks of a file: the sums so far are SL and SA of them
abbrev pub losses_so_far : List ℕ → ℕ → List Losses
losses_so_far s k = take k (losses_in s)
