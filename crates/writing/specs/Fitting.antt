-- Question 19 of given counts and bits: the dollars of the claims have no part in it, so an answer holds of claims of any dollars.
use Rattle.std.specs.Prelude.{◌≡◌, Bool, List, ℕ, length}
use Rattle.plan.specs.Claim.{claims_of}
use Rattle.plan.specs.Risk.{divided}
use Rattle.plan.specs.Accidents.{opens, all_open}

-- r answers whether a risk of these bits has the bit 0 in its first claim
abbrev pub OpensSays : List ℕ → Bool → Type 0
OpensSays joined r = (dollars : List ℕ) → length joined ≡ length dollars → r ≡ opens (claims_of joined dollars)

-- r answers whether every risk has, of these counts and bits
abbrev pub OpenSays : List ℕ → List ℕ → Bool → Type 0
OpenSays counts joined r =
    (dollars : List ℕ) → length joined ≡ length dollars → r ≡ all_open (divided counts (claims_of joined dollars))
