-- Document 01's calls: what each gives, as a function of the bytes, the values and the lengths of the lent buffers, and what every lent
-- buffer and number is after it.
use Rattle.std.specs.Prelude.{List, [], ◌∷◌, ℕ, ℤ, length}
use Rattle.plan.specs.Arithmetic.{sum}
use Rattle.plan.specs.Field.{slots, bytes_of}
use Rattle.plan.specs.Header.{Header, header_of}
use Rattle.plan.specs.File.{Group, group_of, file_of}
use Rattle.plan.specs.Losses.{Losses, losses_in}
use Rattle.plan.specs.Basic.{basic_premium, excess_charge}
use Rattle.plan.specs.Premium.{billed_premiums}
use Rattle.plan.specs.Table.{charge, savings}
use Rattle.plan.specs.Questions.{rate_questions, table_questions, read_questions, write_questions}
use Rattle.plan.specs.Call.{Call, Answer, answer_of, LentBuffer, buffer}

-- ---- 'Rate: file and an output buffer. Gives n, M, Q, the sum of billed premiums, and writes each billed premium in file
-- order as 32 bits, most significant first. Later bytes of the buffer keep their contents.'

pub record Rated : Type 0 where
  -- n
  pub risks : ℕ
  -- M, in thousandths of a dollar for the group
  pub basic : ℤ
  -- Q, in the same unit
  pub excess : ℕ
  -- the sum billed
  pub billed : ℕ
  -- in file order
  pub premiums : List ℕ

unfoldable pub rated_of : Header → List Losses → Rated
rated_of h rs = record {
  risks = length rs;
  basic = basic_premium h rs;
  excess = excess_charge h rs;
  billed = sum (billed_premiums h rs);
  premiums = billed_premiums h rs;
}

unfoldable pub rate_call : List ℕ → ℕ → Call Rated
rate_call s room = record { questions = rate_questions s room; result = rated_of (header_of s) (losses_in s) }

abbrev pub rate : List ℕ → ℕ → Answer Rated
rate s room = answer_of (rate_call s room)

-- the bytes that Rate writes
abbrev pub premium_bytes : Rated → List ℕ
premium_bytes r = bytes_of (slots 32 r.premiums)

-- its buffer
abbrev pub rate_buffers : List ℕ → List ℕ → List (LentBuffer Rated)
rate_buffers before after = buffer premium_bytes before after ∷ []

-- ---- 'Table: file and an entry ratio r in hundredths, 0 to 600.'

-- both in thousandths
pub record Tabled : Type 0 where
  pub charge : ℕ
  pub savings : ℕ

unfoldable pub table_call : List ℕ → ℕ → Call Tabled
table_call s r = record {
  questions = table_questions s r;
  result = record { charge = charge (losses_in s) r; savings = savings (losses_in s) r };
}

abbrev pub table : List ℕ → ℕ → Answer Tabled
table s r = answer_of (table_call s r)

-- ---- 'Read: file, a buffer for the claim counts and one for the claims. Gives the header and fills the first n counts and as
-- many claims as they add to; entries after those keep their contents, as do bytes after the length in Write.' And job 4: 'Read fills
-- a third buffer with the bits, all 0 for edition 1.' It gives the edition with the header: 'the writer takes the edition, and reading
-- back is equal for either'

unfoldable pub read_call : List ℕ → ℕ → ℕ → ℕ → Call Group
read_call s counts_room claims_room joined_room =
    record { questions = read_questions s counts_room claims_room joined_room; result = group_of s }

abbrev pub read : List ℕ → ℕ → ℕ → ℕ → Answer Group
read s counts_room claims_room joined_room = answer_of (read_call s counts_room claims_room joined_room)

-- the three buffers that are lent to Read: counts, claims and bits
pub record Buffers : Type 0 where
  pub counts : List ℕ
  pub claims : List ℕ
  pub joined : List ℕ

-- Read with these buffers
abbrev pub read_with : List ℕ → Buffers → Answer Group
read_with s b = read s (length b.counts) (length b.claims) (length b.joined)

abbrev pub read_buffers : Buffers → Buffers → List (LentBuffer Group)
read_buffers before after =
    buffer (λ g. g.counts) before.counts after.counts
    ∷ buffer (λ g. g.claims) before.claims after.claims
    ∷ buffer (λ g. g.joined) before.joined after.joined
    ∷ []

-- ---- 'Write: header values (loss limit to minimum mark; edition and spare are written as 1 and 0), counts, claims, output.
-- Gives the length and writes the file. n is the number of counts.' And job 4: 'the writer takes the edition', and 'Write takes the
-- bits as a list'

-- the file's bytes; the length given is theirs
unfoldable pub write_call : Group → ℕ → Call (List ℕ)
write_call g room = record { questions = write_questions g room; result = file_of g }

abbrev pub write : Group → ℕ → Answer (List ℕ)
write g room = answer_of (write_call g room)

-- its buffer
abbrev pub write_buffers : List ℕ → List ℕ → List (LentBuffer (List ℕ))
write_buffers before after = buffer (λ bytes. bytes) before after ∷ []
