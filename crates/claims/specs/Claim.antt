-- Taking a claim: what it asks for, and what it gives.
use Rattle.std.specs.Prelude.{◌≡◌, List, ℕ, ◌+◌, ◌-◌, ◌*◌, ◌/◌, ◌%◌, ◌^◌, ◌≤◌, ◌<◌}
use Rattle.plan.specs.Sizes.{most_claims, most_claim_width, most_file_bits}
use Rattle.plan.specs.Header.{edition_of}
use Rattle.plan.specs.Claim.{Claim, claim, joined_width, dollars_width, claim_at, past_claim}
use Rattle.bits.specs.Take.{FrontIs}
use Rattle.bits.specs.declared.Front.{Front}
use Rattle.bits.specs.declared.Taken.{Taken}
use Rattle.claims.specs.declared.claim.FileClaim.{FileClaim}

-- a run of `count` claims that begins where one of a file can
pub record RunReach (at count : ℕ) : Type 0 where
  pub few : count ≤ most_claims
  pub inside : at ≤ most_file_bits

-- the word of the claim after `count` others, and of each before it, ends at byte `reach` or before, whichever edition they are of
pub record ClaimReach (at count reach : ℕ) : Type 0 where
  pub inside : at + most_claim_width * count ≤ most_file_bits + most_claim_width * most_claims
  pub ends : (at + most_claim_width * count) / 8 + 8 ≤ reach

-- a claim by the number of its fields
abbrev pub claim_of : FileClaim → Claim
claim_of c = claim (c.number / 2 ^ dollars_width) (c.number % 2 ^ dollars_width)

-- the number is one of a claim with so many bits before its dollars
abbrev pub ClaimFits : ℕ → FileClaim → Type 0
ClaimFits bits c = c.number < 2 ^ (bits + dollars_width)

-- by its bits, the claim on a front, with so many bits before its dollars, and the one behind it
abbrev pub first_on : ℕ → Front → FileClaim
first_on bits f = record { number = f.bits / 2 ^ (64 - (bits + dollars_width)) }

abbrev pub second_on : ℕ → Front → FileClaim
second_on bits f = record { number = (f.bits * 2 ^ (bits + dollars_width)) % 2 ^ 64 / 2 ^ (64 - (bits + dollars_width)) }

-- a claim taken from a front, with so many bits before its dollars: of any file with such claims that the front has the bits of, it is the
-- claim at its place, and the front behind it has the others
pub record ClaimOn (f : Front) (bits : ℕ) (r : Taken FileClaim Front) : Type 0 where
  pub place : r.next.place.at ≡ f.place.at + (bits + dollars_width)
  pub fits : ClaimFits bits r.value
  pub first : r.value ≡ first_on bits f
  pub others : r.next.bits ≡ (f.bits * 2 ^ (bits + dollars_width)) % 2 ^ 64
  pub is :
      (s : List ℕ) (left : ℕ) → joined_width (edition_of s) ≡ bits → bits + dollars_width ≤ left → FrontIs s left f
      → claim_of r.value ≡ claim_at s f.place.at
  pub rest : (s : List ℕ) (left : ℕ) → bits + dollars_width ≤ left → FrontIs s left f → FrontIs s (left - (bits + dollars_width)) r.next

-- the claim at the place `at` of the file s, and the place after it
pub record ClaimTaken (s : List ℕ) (at : ℕ) (r : Taken FileClaim Front) : Type 0 where
  pub is : claim_of r.value ≡ claim_at s at
  pub next : r.next.place.at ≡ past_claim s at
