-- The fields of a file in the runs in which they are put, and what putting the whole file asks for.
use Rattle.std.specs.Prelude.{◌≡◌, List, ◌∷◌, ℕ, length, take, drop}
use Rattle.plan.specs.Field.{Slot, slot}
use Rattle.plan.specs.Header.{Header, header_slots}
use Rattle.plan.specs.Claim.{slots_of_claims}
use Rattle.plan.specs.Risk.{count_width}
use Rattle.plan.specs.File.{Group, file_length}
use Rattle.plan.specs.Questions.{passed, first_no, write_questions}
use Rattle.group.specs.Edition.{edition_number}
use Rattle.putting.specs.Claims.{claims_are}
use Rattle.putting.specs.declared.given.GivenClaims.{GivenClaims}

-- the header's first five fields, which n is not among, and the other six, which the edition is not among
abbrev pub first_slots : ℕ → Header → List Slot
first_slots edition h = take 5 (header_slots edition h 0)

abbrev pub last_slots : Header → ℕ → List Slot
last_slots h n = drop 5 (header_slots 0 h n)

-- a risk's fields in the edition of its claims: the number of them, then they
abbrev pub slots_of_risk : GivenClaims → List Slot
slots_of_risk given =
    slot count_width (length given.dollars.now) ∷ slots_of_claims (edition_number given.edition) (claims_are given)

-- every question of Write is answered Yes, and the bytes are as many as the file's
pub record Ready (g : Group) (out : List ℕ) : Type 0 where
  pub passes : first_no (write_questions g (length out)) ≡ passed
  pub is : length out ≡ file_length g
