-- The editions that are read and written, by their numbers; and the edition by which the claims of a file lie.
use Rattle.std.specs.Prelude.{◌≡◌, List, ℕ, true, false, Result, Ok, Err}
use Rattle.plan.specs.Header.{edition_of}
use Rattle.plan.specs.Claim.{joined_width}
use Rattle.plan.specs.Questions.{known_edition}
use Rattle.group.specs.declared.Refusal.{Refusal}
use Rattle.group.specs.declared.Refusal.TheVariants as variants
use Rattle.group.specs.declared.edition.Edition.{Edition}
use Rattle.group.specs.declared.edition.Edition.TheVariants.{First, Second}

-- an edition's number
abbrev pub edition_number : Edition → ℕ
edition_number First = 1
edition_number Second = 2

-- the edition with a number where that is a known one, and else question 2's No
abbrev pub EditionIs : ℕ → Result Edition Refusal → Type 0
EditionIs n (Ok e) = (known_edition n ≡ true) × (edition_number e ≡ n)
EditionIs n (Err r) = (known_edition n ≡ false) × (r ≡ variants.Edition)

-- the claims of a file lie as those of an edition; a file with a number that is not known as those of the first
abbrev pub LieAs : List ℕ → Edition → Type 0
LieAs s e = joined_width (edition_number e) ≡ joined_width (edition_of s)
