-- Document 02, job 4: 'the loss limit is written per accident'. The accidents of a risk are a list of sums, built from its first
-- claim on: a claim whose bit is 0 opens an accident, and one whose bit is 1 'belongs to the same accident as the claim before it
-- in that risk'. 'Edition 1 is still read, each claim its own accident', since its bits are 0. A list is of one risk's claims: no
-- accident crosses risks.
use Rattle.std.specs.Prelude.{Bool, true, ◌&&◌, List, [], ◌∷◌, ℕ, zero, suc, ◌+◌, eqb}
use Rattle.plan.specs.Claim.{Claim, claim, joins}

-- the sums of an accident that so far has `last` dollars, and of those after it, by the claims to come
abbrev pub accidents_from : ℕ → List Claim → List ℕ
accidents_from last [] = last ∷ []
accidents_from last (claim zero d ∷ cs) = last ∷ accidents_from d cs
accidents_from last (claim (suc j) d ∷ cs) = accidents_from (last + d) cs

-- the sums of a risk's accidents. The first claim opens one whatever its bit; where question 19 is answered Yes that bit is 0, so no
-- answer of a call depends on what a leading 1 means here
abbrev pub accidents_of : List Claim → List ℕ
accidents_of [] = []
accidents_of (claim j d ∷ cs) = accidents_from d cs

-- whether a risk's first claim has the bit 0; a risk without claims passes
abbrev pub opens : List Claim → Bool
opens [] = true
opens (c ∷ cs) = eqb (joins c) 0

-- whether every risk's has
abbrev pub all_open : List (List Claim) → Bool
all_open [] = true
all_open (r ∷ rs) = opens r && all_open rs
