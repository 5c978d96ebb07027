-- 'Asked in this order. The first No is the result, as that number and nothing else, and no lent byte or number changes. No
-- refusal has another cause.' One definition a question; each call's list is made of their names. 18 is document 02's, job 2, and 19 is
-- job 4's. 11, document 01's 'Is LH at most LG?', is not asked: job 7, 'take question 11 out of the rater. Its number isn't used again.'
use Rattle.std.specs.Prelude.{Bool, true, false, ◌&&◌, ◌||◌, List, [], ◌∷◌, ◌++◌, ℕ, ◌*◌, leb, eqb, length}
use Rattle.std.specs.Int.Signed.{non_neg}
use Rattle.plan.specs.Arithmetic.{sum}
use Rattle.plan.specs.Sizes.{least_conversion, most_conversion, least_tax, most_tax, most_mark, most_ratio}
use Rattle.plan.specs.Field.{bytes_for, fits, all_fit}
use Rattle.plan.specs.Header.{Header, header_of, edition_of, risk_count, value_of, spare_field, loss_limit_field}
use Rattle.plan.specs.Header.{standard_premium_field, expense_field, conversion_field, tax_field, mark_kind_field}
use Rattle.plan.specs.Header.{maximum_mark_field, minimum_mark_field, risks_field}
use Rattle.plan.specs.Claim.{Claim, joined_width, dollars_width}
use Rattle.plan.specs.Risk.{count_width, divided}
use Rattle.plan.specs.File.{Group, counts_of, risks_of, end_of, fill_of, claims_given, file_length}
use Rattle.plan.specs.Accidents.{all_open}
use Rattle.plan.specs.Losses.{Losses, SA, losses_in}
use Rattle.plan.specs.Basic.{basic_premium}

-- a question: the number of its No, and its answer
pub data Question : Type 0 where
  ask : ℕ → Bool → Question

-- what a list of questions comes to
pub data Verdict : Type 0 where
  passed : Verdict
  failed : ℕ → Verdict

-- 'The first No is the result'
abbrev pub first_no : List Question → Verdict
first_no [] = passed
first_no (ask k true ∷ qs) = first_no qs
first_no (ask k false ∷ qs) = failed k

-- a verdict and what is asked after it: the first No of both
abbrev pub or_else : Verdict → Verdict → Verdict
or_else passed v = v
or_else (failed k) v = failed k

-- ---- of the bytes of a file

-- 'Has the file at least 16 bytes?'
abbrev pub question1 : List ℕ → Question
question1 s = ask 1 (leb 16 (length s))

-- 'Edition 1 is still read', and 'Edition 2 passes question 2.'
abbrev pub known_edition : ℕ → Bool
known_edition edition = eqb edition 1 || eqb edition 2

-- 'Is the edition 1 and the spare bit 0?', with edition 2 since job 4
abbrev pub question2 : List ℕ → Question
question2 s = ask 2 (known_edition (edition_of s) && eqb (value_of s spare_field) 0)

-- of what Write is given: 'asks question 2 of the edition first'; the spare bit is written as 0
abbrev pub edition_question : ℕ → Question
edition_question edition = ask 2 (known_edition edition)

-- ---- of the header values and n

-- 'Is P at least 1?'
abbrev pub question3 : Header → Question
question3 h = ask 3 (leb 1 h.standard_premium)

-- 'Is c from 1,000 to 2,000?'
abbrev pub question4 : Header → Question
question4 h = ask 4 (leb least_conversion h.conversion && leb h.conversion most_conversion)

-- 'Is T from 10,000 to 20,000?'
abbrev pub question5 : Header → Question
question5 h = ask 5 (leb least_tax h.tax && leb h.tax most_tax)

-- 'Are both marks at most 6,000?'
abbrev pub question6 : Header → Question
question6 h = ask 6 (leb h.maximum_mark most_mark && leb h.minimum_mark most_mark)

-- job 2: 'The minimum mark may not exceed the maximum mark as written': in thousandths, whatever the mark kind. Equal marks pass
abbrev pub question18 : Header → Question
question18 h = ask 18 (leb h.minimum_mark h.maximum_mark)

-- 'Is n at least 1?'
abbrev pub question7 : ℕ → Question
question7 n = ask 7 (leb 1 n)

-- ---- of the bytes of a file, and where its last field ends

-- 'Does the file end with the byte that holds the last claim or count?'
abbrev pub question8 : List ℕ → Question
question8 s = ask 8 (eqb (length s) (bytes_for (end_of s)))

-- 'Are its fill bits zero?'
abbrev pub question9 : List ℕ → Question
question9 s = ask 9 (eqb (fill_of s) 0)

-- ---- of the claims of each risk

-- job 4: '19 a risk's first claim has the bit set'
abbrev pub question19 : List (List Claim) → Question
question19 rs = ask 19 (all_open rs)

-- ---- of the header and the losses

-- 'Is SA at least 1?'
abbrev pub question10 : List Losses → Question
question10 rs = ask 10 (leb 1 (SA rs))

-- 'Is M at least 0?'
abbrev pub question12 : Header → List Losses → Question
question12 h rs = ask 12 (non_neg (basic_premium h rs))

-- ---- of what is lent or given

-- 'Is each lent buffer long enough?'
abbrev pub question13 : Bool → Question
question13 enough = ask 13 enough

-- 'Is r at most 600?'
abbrev pub question14 : ℕ → Question
question14 r = ask 14 (leb r most_ratio)

-- whether the header values fit their widths
abbrev pub header_fits : Header → Bool
header_fits h =
    fits loss_limit_field.width h.loss_limit
    && fits standard_premium_field.width h.standard_premium
    && fits expense_field.width h.expense
    && fits conversion_field.width h.conversion
    && fits tax_field.width h.tax
    && fits mark_kind_field.width h.mark_kind
    && fits maximum_mark_field.width h.maximum_mark
    && fits minimum_mark_field.width h.minimum_mark

-- 'Do n, counts, claims and header values fit their widths, and do the counts add to the number of claims?' And job 4: 'a list not as
-- long as the claims, an entry above 1, or a 1 given with edition 1 is a No to 15', where the bit's field has no bits
abbrev pub question15 : Group → Question
question15 g =
    ask 15
    (fits risks_field.width (length g.counts)
    && all_fit count_width g.counts
    && all_fit dollars_width g.claims
    && all_fit (joined_width g.edition) g.joined
    && header_fits g.header
    && eqb (sum g.counts) (length g.claims)
    && eqb (length g.joined) (length g.claims))

-- ---- the gates: lists that calls have in common. A range, as 1 to 9, has 18 in its place, 'after 6 and before 7', and where it goes
-- up to 9 or beyond 19, 'after 9 in Rate, Read and Table'; a range that goes beyond 10 is without 11

-- 3 to 7
abbrev pub header_questions : Header → ℕ → List Question
header_questions h n = question3 h ∷ question4 h ∷ question5 h ∷ question6 h ∷ question18 h ∷ question7 n ∷ []

-- 8, 9 and 19
abbrev pub end_questions : List ℕ → List Question
end_questions s = question8 s ∷ question9 s ∷ question19 (risks_of s) ∷ []

-- 1 to 9
abbrev pub file_questions : List ℕ → List Question
file_questions s = question1 s ∷ question2 s ∷ (header_questions (header_of s) (risk_count s) ++ end_questions s)

-- 12
abbrev pub balance_questions : Header → List Losses → List Question
balance_questions h rs = question12 h rs ∷ []

-- 1 to 10
abbrev pub loss_questions : List ℕ → List Question
loss_questions s = file_questions s ++ question10 (losses_in s) ∷ []

-- 1 to 12
abbrev pub rating_questions : List ℕ → List Question
rating_questions s = loss_questions s ++ balance_questions (header_of s) (losses_in s)

-- ---- the questions of each call: a gate and its own last ones; `room` is a lent buffer's length

-- 'For Rate, 4 × n bytes are enough.'
abbrev pub rate_enough : List ℕ → ℕ → Bool
rate_enough s room = leb (4 * risk_count s) room

-- 'Rate asks 1 to 13.' And job 7: 'take question 11 out of the rater'
abbrev pub rate_questions : List ℕ → ℕ → List Question
rate_questions s room = rating_questions s ++ question13 (rate_enough s room) ∷ []

-- 'Table asks 1 to 10, then 14.'
abbrev pub table_questions : List ℕ → ℕ → List Question
table_questions s r = loss_questions s ++ question14 r ∷ []

-- for Read, n counts, as many claims as they add to, and as many bits, in edition 1 too, are enough
abbrev pub read_enough : List ℕ → ℕ → ℕ → ℕ → Bool
read_enough s counts_room claims_room joined_room =
    leb (risk_count s) counts_room && leb (sum (counts_of s)) claims_room && leb (sum (counts_of s)) joined_room

-- 'Read asks 1 to 9, then 13.'
abbrev pub read_questions : List ℕ → ℕ → ℕ → ℕ → List Question
read_questions s counts_room claims_room joined_room =
    file_questions s ++ question13 (read_enough s counts_room claims_room joined_room) ∷ []

-- for Write, the file's length is enough
abbrev pub write_enough : Group → ℕ → Bool
write_enough g room = leb (file_length g) room

-- of given values: 15, then '19 .. after 15 and before 13 in Write'
abbrev pub value_questions : Group → List Question
value_questions g = question15 g ∷ question19 (divided g.counts (claims_given g)) ∷ []

-- 'Write asks 3 to 7, then 15, then 13.' 'n is the number of counts.' And job 4: 'asks question 2 of the edition first'
abbrev pub write_questions : Group → ℕ → List Question
write_questions g room =
    edition_question g.edition
    ∷ (header_questions g.header (length g.counts) ++ (value_questions g ++ question13 (write_enough g room) ∷ []))
