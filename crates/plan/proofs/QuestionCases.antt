-- Each question at its edges: the last value that passes and the first that does not.
use mathlib.Core.Path.{◌≡◌, refl}
use mathlib.Core.Bool.{true, false}
use mathlib.Core.List.{List, [], ◌∷◌, ◌++◌}
use Prim.Native.Nat.{ℕ}
use lib.ListN.{replicate, take}
use Rattle.plan.specs.Field.{bit, number, field, bytes_of}
use Rattle.plan.specs.Header.{Header}
use Rattle.plan.specs.Claim.{claim_width, claim_at, past_claim, slots_of_claim}
use Rattle.plan.specs.Risk.{count_at, first_claim}
use Rattle.plan.specs.File.{Group, risks_of}
use Rattle.plan.specs.Losses.{limited_of, losses_in}
use Rattle.plan.specs.Marks.{LG, LH}
use Rattle.plan.specs.Ratable.{SX, SS, ratable}
use Rattle.plan.specs.Basic.{basic_premium}
use Rattle.plan.specs.Questions.{ask, question1, question2, question3, question4, question5, question6, question7, question8, question9, question10}
use Rattle.plan.specs.Questions.{question12, question14, question15, question18, question19, header_fits}
use Rattle.plan.specs.Questions.{passed, failed, first_no, write_questions}
use Rattle.plan.proofs.Groups.{header, group, thirds_file, tens, accidents_file, leading_file}
use Rattle.plan.proofs.Groups.{tens_file1000, tens_file2000}
use Rattle.plan.proofs.FieldCases.{by_fields}

-- header values that pass, but for the conversion factor, the tax multiplier and the marks that are given
abbrev with_factors : ℕ → ℕ → ℕ → ℕ → Header
with_factors c t g h = header 0 1 0 c t 0 g h

-- the group of these counts and claims
abbrev counted : List ℕ → List ℕ → Group
counted counts claims = group (with_factors 1000 10000 0 0) counts claims

abbrev pub HeaderQuestionCase : Type 0
HeaderQuestionCase =
    (question1 (replicate 15 0) ≡ ask 1 false)
    × (question1 (replicate 16 0) ≡ ask 1 true)
    -- editions 0 to 3; and edition 1 with the spare bit set
    × (question2 (replicate 16 0) ≡ ask 2 false)
    × (question2 (16 ∷ replicate 15 0) ≡ ask 2 true)
    × (question2 (32 ∷ replicate 15 0) ≡ ask 2 true)
    × (question2 (48 ∷ replicate 15 0) ≡ ask 2 false)
    × (question2 (16 ∷ replicate 14 0 ++ 1 ∷ []) ≡ ask 2 false)
    × (question3 (header 1 0 1 1000 10000 1 1 1) ≡ ask 3 false)
    × (question3 (header 0 1 0 1000 10000 0 0 0) ≡ ask 3 true)
    × (question4 (with_factors 999 10000 0 0) ≡ ask 4 false)
    × (question4 (with_factors 1000 10000 0 0) ≡ ask 4 true)
    × (question4 (with_factors 2000 10000 0 0) ≡ ask 4 true)
    × (question4 (with_factors 2001 10000 0 0) ≡ ask 4 false)
    × (question5 (with_factors 1000 9999 0 0) ≡ ask 5 false)
    × (question5 (with_factors 1000 10000 0 0) ≡ ask 5 true)
    × (question5 (with_factors 1000 20000 0 0) ≡ ask 5 true)
    × (question5 (with_factors 1000 20001 0 0) ≡ ask 5 false)
    × (question6 (with_factors 1000 10000 6000 6000) ≡ ask 6 true)
    × (question6 (with_factors 1000 10000 6001 0) ≡ ask 6 false)
    × (question6 (with_factors 1000 10000 0 6001) ≡ ask 6 false)
    × (question18 (with_factors 1000 10000 900 900) ≡ ask 18 true)
    × (question18 (with_factors 1000 10000 900 901) ≡ ask 18 false)
    × (question7 0 ≡ ask 7 false)
    × (question7 1 ≡ ask 7 true)

pub header_question_case : HeaderQuestionCase
unfolding number bit field
header_question_case = by_fields (
  refl,
  refl,
  refl,
  refl,
  refl,
  refl,
  refl,
  refl,
  refl,
  refl,
  refl,
  refl,
  refl,
  refl,
  refl,
  refl,
  refl,
  refl,
  refl,
  refl,
  refl,
  refl,
  refl,
  refl,
)

abbrev pub FileQuestionCase : Type 0
FileQuestionCase =
    -- a byte less, and one more
    (question8 (take 20 thirds_file) ≡ ask 8 false)
    × (question8 thirds_file ≡ ask 8 true)
    × (question8 (thirds_file ++ 0 ∷ []) ≡ ask 8 false)
    × (question9 thirds_file ≡ ask 9 true)
    × (question9 (take 20 thirds_file ++ 1 ∷ []) ≡ ask 9 false)
    × (question19 (risks_of accidents_file) ≡ ask 19 true)
    × (question19 (risks_of leading_file) ≡ ask 19 false)
    -- SA 0 and 1
    × (question10 [] ≡ ask 10 false)
    × (question10 (losses_in thirds_file) ≡ ask 10 true)
    -- M 0, and below
    × (question12 (tens 1000).header (losses_in tens_file1000) ≡ ask 12 true)
    × (question12 (tens 2000).header (losses_in tens_file2000) ≡ ask 12 false)
    × (question14 600 ≡ ask 14 true)
    × (question14 601 ≡ ask 14 false)

pub file_question_case : FileQuestionCase
unfolding number bit field claim_width claim_at past_claim count_at first_claim limited_of LG LH SX SS ratable basic_premium
file_question_case = by_fields (refl, refl, refl, refl, refl, refl, refl, refl, refl, refl, refl, refl, refl)

abbrev pub FitCase : Type 0
FitCase =
    -- every header value the largest of its width, and each in turn one more
    (header_fits (header 1048575 4194303 1048575 2047 32767 1 8191 8191) ≡ true)
    × (header_fits (header 1048576 4194303 1048575 2047 32767 1 8191 8191) ≡ false)
    × (header_fits (header 1048575 4194304 1048575 2047 32767 1 8191 8191) ≡ false)
    × (header_fits (header 1048575 4194303 1048576 2047 32767 1 8191 8191) ≡ false)
    × (header_fits (header 1048575 4194303 1048575 2048 32767 1 8191 8191) ≡ false)
    × (header_fits (header 1048575 4194303 1048575 2047 32768 1 8191 8191) ≡ false)
    × (header_fits (header 1048575 4194303 1048575 2047 32767 2 8191 8191) ≡ false)
    × (header_fits (header 1048575 4194303 1048575 2047 32767 1 8192 8191) ≡ false)
    × (header_fits (header 1048575 4194303 1048575 2047 32767 1 8191 8192) ≡ false)
    -- n, a count, a claim, and the sum of the counts
    × (question15 (counted (replicate 255 0) []) ≡ ask 15 true)
    × (question15 (counted (replicate 256 0) []) ≡ ask 15 false)
    × (question15 (counted (63 ∷ []) (replicate 63 0)) ≡ ask 15 true)
    × (question15 (counted (64 ∷ []) (replicate 64 0)) ≡ ask 15 false)
    × (question15 (counted (1 ∷ []) (1048575 ∷ [])) ≡ ask 15 true)
    × (question15 (counted (1 ∷ []) (1048576 ∷ [])) ≡ ask 15 false)
    × (question15 (counted (2 ∷ []) (0 ∷ [])) ≡ ask 15 false)
    × (question15 (group (header 1048576 1 0 1000 10000 0 0 0) (1 ∷ []) (0 ∷ [])) ≡ ask 15 false)
    -- 'n is the number of counts': a risk without claims, and a claim without a risk
    × (first_no (write_questions (counted (0 ∷ []) []) 17) ≡ passed)
    × (first_no (write_questions (counted [] (0 ∷ [])) 17) ≡ failed 7)

pub fit_case : FitCase
unfolding bytes_of slots_of_claim number bit field claim_width
fit_case = by_fields (refl, refl, refl, refl, refl, refl, refl, refl, refl, refl, refl, refl, refl, refl, refl, refl, refl, refl, refl)
