-- The groups of the cases of documents 01 and 02, the bytes of their files, and what the cases say of a file.
use mathlib.Core.Path.{◌≡◌}
use mathlib.Core.List.{List, [], ◌∷◌, ◌++◌, map}
use Prim.Native.Nat.{ℕ}
use lib.IntN.{ℤ, pos, negsuc}
use lib.ListN.{length, replicate}
use Rattle.plan.specs.Header.{Header, header_of}
use Rattle.plan.specs.File.{Group, file_of}
use Rattle.plan.specs.Losses.{losses_in}
use Rattle.plan.specs.Marks.{LG, LH}
use Rattle.plan.specs.Ratable.{ratable}
use Rattle.plan.specs.Call.{Answer, given}
use Rattle.plan.specs.Calls.{Rated, Tabled}
use Rattle.plan.specs.Discount.{Layer}
use Rattle.plan.specs.Comparison.{Comparison, NumbersGiven}
use lib.Ieee.{binary64, of_bits}
use Rattle.plan.specs.Charge.{Charged}
use Rattle.plan.specs.SoldOnPremiums.{Plan}

-- header values: limit, P, e, c, T, kind, maximum, minimum
abbrev pub header : ℕ → ℕ → ℕ → ℕ → ℕ → ℕ → ℕ → ℕ → Header
header l p e c t k g h =
    record {
      loss_limit = l;
      standard_premium = p;
      expense = e;
      conversion = c;
      tax = t;
      mark_kind = k;
      maximum_mark = g;
      minimum_mark = h;
    }

-- a group of edition 1: all bits are 0
abbrev pub group : Header → List ℕ → List ℕ → Group
group h counts claims = record { edition = 1; header = h; counts = counts; claims = claims; joined = replicate (length claims) 0 }

-- a file's values are g, and its bytes are those that g makes
abbrev pub Written : Group → List ℕ → Type 0
Written g s = file_of g ≡ s

-- ---- the groups

-- 'P 10,000, e 2,000, c 1.100, T 1.0500, limit 5,000, loss ratio marks 0.900 and 0.200. Claims: none; 3,000 and 1,000; 7,000;
-- 5,000, 6,000 and 2,000.'
abbrev pub four : Group
four =
    group (header 5000 10000 2000 1100 10500 0 900 200) (0 ∷ 2 ∷ 1 ∷ 3 ∷ []) (3000 ∷ 1000 ∷ 7000 ∷ 5000 ∷ 6000 ∷ 2000 ∷ [])

abbrev pub four_file : List ℕ
four_file =
    16 ∷ 19 ∷ 136 ∷ 0 ∷ 156 ∷ 64 ∷ 1 ∷ 244 ∷ 34 ∷ 98 ∷ 144 ∷ 64 ∷ 225 ∷ 1 ∷ 144 ∷ 8 ∷ 0
    ∷ 32 ∷ 11 ∷ 184 ∷ 0 ∷ 62 ∷ 128 ∷ 64 ∷ 109 ∷ 96 ∷ 48 ∷ 19 ∷ 136 ∷ 1 ∷ 119 ∷ 0 ∷ 7 ∷ 208 ∷ []

-- with a byte of 1 added, which has bits after the last claim that are not 0
abbrev pub longer_file : List ℕ
longer_file = four_file ++ 1 ∷ []

-- its four premiums in an output buffer: 4,935, 7,245, 8,400 and 13,020
abbrev pub four_premiums : List ℕ
four_premiums = 0 ∷ 0 ∷ 19 ∷ 71 ∷ 0 ∷ 0 ∷ 28 ∷ 77 ∷ 0 ∷ 0 ∷ 32 ∷ 208 ∷ 0 ∷ 0 ∷ 50 ∷ 220 ∷ []

-- 'Three risks, one claim of 1 in all, e 0, c 1.000, T 1.0000, no limit, entry marks 1.000 and 0'
abbrev pub thirds : Group
thirds = group (header 0 1 0 1000 10000 1 1000 0) (1 ∷ 0 ∷ 0 ∷ []) (1 ∷ [])

abbrev pub thirds_file : List ℕ
thirds_file =
    16 ∷ 0 ∷ 0 ∷ 0 ∷ 0 ∷ 4 ∷ 0 ∷ 0 ∷ 31 ∷ 66 ∷ 113 ∷ 8 ∷ 250 ∷ 0 ∷ 0 ∷ 6 ∷ 4 ∷ 0 ∷ 0 ∷ 64 ∷ 0 ∷ []

-- 'The same with two risks'
abbrev pub halves : Group
halves = group (header 0 1 0 1000 10000 1 1000 0) (1 ∷ 0 ∷ []) (1 ∷ [])

abbrev pub halves_file : List ℕ
halves_file = 16 ∷ 0 ∷ 0 ∷ 0 ∷ 0 ∷ 4 ∷ 0 ∷ 0 ∷ 31 ∷ 66 ∷ 113 ∷ 8 ∷ 250 ∷ 0 ∷ 0 ∷ 4 ∷ 4 ∷ 0 ∷ 0 ∷ 64 ∷ []

-- 'Two risks of 10, e 0, T 1.0000, no limit, entry marks 6.000 and 0', with c
abbrev pub tens : ℕ → Group
tens c = group (header 0 1 0 c 10000 1 6000 0) (1 ∷ 1 ∷ []) (10 ∷ 10 ∷ [])

abbrev pub tens_file2000 : List ℕ
tens_file2000 =
    16 ∷ 0 ∷ 0 ∷ 0 ∷ 0 ∷ 4 ∷ 0 ∷ 0 ∷ 62 ∷ 130 ∷ 113 ∷ 13 ∷ 220 ∷ 0 ∷ 0 ∷ 4 ∷ 4 ∷ 0 ∷ 2 ∷ 129 ∷ 0 ∷ 0 ∷ 160 ∷ []

abbrev pub tens_file1000 : List ℕ
tens_file1000 =
    16 ∷ 0 ∷ 0 ∷ 0 ∷ 0 ∷ 4 ∷ 0 ∷ 0 ∷ 31 ∷ 66 ∷ 113 ∷ 13 ∷ 220 ∷ 0 ∷ 0 ∷ 4 ∷ 4 ∷ 0 ∷ 2 ∷ 129 ∷ 0 ∷ 0 ∷ 160 ∷ []

-- 'With limit 5,000, claims of 5,000 and 5,001', and entry marks, which are ratios of limited losses
abbrev pub limits : Group
limits = group (header 5000 1 0 1000 10000 1 6000 0) (1 ∷ 1 ∷ []) (5000 ∷ 5001 ∷ [])

abbrev pub limits_file : List ℕ
limits_file =
    16 ∷ 19 ∷ 136 ∷ 0 ∷ 0 ∷ 4 ∷ 0 ∷ 0 ∷ 31 ∷ 66 ∷ 113 ∷ 13 ∷ 220 ∷ 0 ∷ 0 ∷ 4 ∷ 4 ∷ 4 ∷ 226 ∷ 1 ∷ 1 ∷ 56 ∷ 144 ∷ []

-- ---- what is said of them

-- a group that is rated: n, M, Q, sum billed, premiums
abbrev pub rates : ℕ → ℤ → ℕ → ℕ → List ℕ → Answer Rated
rates n m q b ps = given (record { risks = n; basic = m; excess = q; billed = b; premiums = ps })

abbrev pub tables : ℕ → ℕ → Answer Tabled
tables c s = given (record { charge = c; savings = s })

-- L, A, K of each risk
abbrev pub totals : List ℕ → List ℕ
totals s = map (λ r. r.total) (losses_in s)

abbrev pub limiteds : List ℕ → List ℕ
limiteds s = map (λ r. r.limited) (losses_in s)

abbrev pub ratables : List ℕ → List ℕ
ratables s = map (ratable (header_of s) (losses_in s)) (losses_in s)

abbrev pub lg : List ℕ → ℕ
lg s = LG (header_of s) (losses_in s)

abbrev pub lh : List ℕ → ℕ
lh s = LH (header_of s) (losses_in s)

-- ---- document 02, job 1

abbrev pub layer : ℕ → ℕ → Layer
layer w r = record { width = w; rate = r }

-- 'The 1986 stock schedule of source document 001 (5,000 at 0; 95,000 at 10.9; 400,000 at 12.6; rest 14.4)', with a width of the last
-- row, which is not looked at
abbrev pub stock : ℕ → List Layer
stock w = layer 5000 0 ∷ layer 95000 109 ∷ layer 400000 126 ∷ layer w 144 ∷ []

-- the group of four under the stock schedule: P 10,000, so 5,000 × 0.109 = 545
abbrev pub four_beside : Answer Comparison
four_beside =
    given (record {
      rated =
          record { risks = 4; basic = pos 6700000; excess = 3300000; billed = 33600; premiums = 4935 ∷ 7245 ∷ 8400 ∷ 13020 ∷ [] };
      discount = 545;
      guaranteed = 9455;
      -- −4,520, −2,210, −1,055 and 3,565
      differences = negsuc 4519 ∷ negsuc 2209 ∷ negsuc 1054 ∷ pos 3565 ∷ [];
      -- −4,220
      difference = negsuc 4219;
    })

-- the same as the call's numbers and its second buffer
abbrev pub four_numbers : NumbersGiven
four_numbers =
    record {
      risks = 4;
      basic = pos 6700000;
      excess = 3300000;
      billed = 33600;
      discount = 545;
      guaranteed = 9455;
      difference = negsuc 4219;
    }

abbrev pub four_differences : List ℤ
four_differences = negsuc 4519 ∷ negsuc 2209 ∷ negsuc 1054 ∷ pos 3565 ∷ []

-- ---- document 02, job 2

-- one risk with one claim of 1 and c 1.000, with P, the mark kind and the two marks
abbrev pub marked : ℕ → ℕ → ℕ → ℕ → Group
marked p k g h = group (header 0 p 0 1000 10000 k g h) (1 ∷ []) (1 ∷ [])

-- document 01's 'Loss ratio marks 0.900 and 0.950, c 1.000', with P
abbrev pub crossing : ℕ → Group
crossing p = marked p 0 900 950

abbrev pub crossing_file1 : List ℕ
crossing_file1 = 16 ∷ 0 ∷ 0 ∷ 0 ∷ 0 ∷ 4 ∷ 0 ∷ 0 ∷ 31 ∷ 66 ∷ 113 ∷ 0 ∷ 225 ∷ 7 ∷ 108 ∷ 2 ∷ 4 ∷ 0 ∷ 0 ∷ 64 ∷ []

abbrev pub crossing_file1000 : List ℕ
crossing_file1000 = 16 ∷ 0 ∷ 0 ∷ 0 ∷ 15 ∷ 160 ∷ 0 ∷ 0 ∷ 31 ∷ 66 ∷ 113 ∷ 0 ∷ 225 ∷ 7 ∷ 108 ∷ 2 ∷ 4 ∷ 0 ∷ 0 ∷ 64 ∷ []

-- P 1 with entry ratio marks 0.900 and 0.950, and with loss ratio marks 0.950 and 0.950
abbrev pub entry_file : List ℕ
entry_file = 16 ∷ 0 ∷ 0 ∷ 0 ∷ 0 ∷ 4 ∷ 0 ∷ 0 ∷ 31 ∷ 66 ∷ 113 ∷ 8 ∷ 225 ∷ 7 ∷ 108 ∷ 2 ∷ 4 ∷ 0 ∷ 0 ∷ 64 ∷ []

abbrev pub equal_file : List ℕ
equal_file = 16 ∷ 0 ∷ 0 ∷ 0 ∷ 0 ∷ 4 ∷ 0 ∷ 0 ∷ 31 ∷ 66 ∷ 113 ∷ 0 ∷ 237 ∷ 135 ∷ 108 ∷ 2 ∷ 4 ∷ 0 ∷ 0 ∷ 64 ∷ []

-- P 1 with loss ratio marks 0.900 and 6.001, and with 0.900 and 0.950 and no risks
abbrev pub above_file : List ℕ
above_file = 16 ∷ 0 ∷ 0 ∷ 0 ∷ 0 ∷ 4 ∷ 0 ∷ 0 ∷ 31 ∷ 66 ∷ 113 ∷ 0 ∷ 225 ∷ 46 ∷ 226 ∷ 2 ∷ 4 ∷ 0 ∷ 0 ∷ 64 ∷ []

abbrev pub no_risks_file : List ℕ
no_risks_file = 16 ∷ 0 ∷ 0 ∷ 0 ∷ 0 ∷ 4 ∷ 0 ∷ 0 ∷ 31 ∷ 66 ∷ 113 ∷ 0 ∷ 225 ∷ 7 ∷ 108 ∷ 0 ∷ []

-- ---- document 02, job 3

-- the numbers of risks so far of the group of four
abbrev pub so_far : List ℕ
so_far = 0 ∷ 1 ∷ 2 ∷ 3 ∷ 4 ∷ []

-- ---- document 02, job 4

-- a group of edition 2, with a bit for each claim
abbrev pub joining : Header → List ℕ → List ℕ → List ℕ → Group
joining h counts claims bits = record { edition = 2; header = h; counts = counts; claims = claims; joined = bits }

-- the group of four in edition 2, no bit set
abbrev pub four_joining : Group
four_joining = joining four.header four.counts four.claims (0 ∷ 0 ∷ 0 ∷ 0 ∷ 0 ∷ 0 ∷ [])

abbrev pub four_joining_file : List ℕ
four_joining_file =
    32 ∷ 19 ∷ 136 ∷ 0 ∷ 156 ∷ 64 ∷ 1 ∷ 244 ∷ 34 ∷ 98 ∷ 144 ∷ 64 ∷ 225 ∷ 1 ∷ 144 ∷ 8 ∷ 0 ∷ 32 ∷ 5 ∷ 220 ∷ 0 ∷ 15 ∷ 160
    ∷ 16 ∷ 13 ∷ 172 ∷ 6 ∷ 1 ∷ 56 ∷ 128 ∷ 11 ∷ 184 ∷ 0 ∷ 31 ∷ 64 ∷ []

-- 'A scaffold fell on two men': two risks, the first with 3,000 and 4,000, the other without claims; P 10,000, e 2,000, c 1.100,
-- T 1.0000, limit 5,000, loss ratio marks 0.900 and 0.200
abbrev pub scaffold_header : Header
scaffold_header = header 5000 10000 2000 1100 10000 0 900 200

abbrev pub scaffold : List ℕ → Group
scaffold bits = joining scaffold_header (2 ∷ 0 ∷ []) (3000 ∷ 4000 ∷ []) bits

-- in one accident
abbrev pub scaffold_file : List ℕ
scaffold_file =
    32 ∷ 19 ∷ 136 ∷ 0 ∷ 156 ∷ 64 ∷ 1 ∷ 244 ∷ 34 ∷ 98 ∷ 113 ∷ 0 ∷ 225 ∷ 1 ∷ 144 ∷ 4 ∷ 8 ∷ 1 ∷ 119 ∷ 16 ∷ 15 ∷ 160 ∷ 0
    ∷ []

-- in two
abbrev pub apart_file : List ℕ
apart_file =
    32 ∷ 19 ∷ 136 ∷ 0 ∷ 156 ∷ 64 ∷ 1 ∷ 244 ∷ 34 ∷ 98 ∷ 113 ∷ 0 ∷ 225 ∷ 1 ∷ 144 ∷ 4 ∷ 8 ∷ 1 ∷ 119 ∷ 0 ∷ 15 ∷ 160 ∷ 0
    ∷ []

-- in edition 1, where each claim is its own accident
abbrev pub single_file : List ℕ
single_file =
    16 ∷ 19 ∷ 136 ∷ 0 ∷ 156 ∷ 64 ∷ 1 ∷ 244 ∷ 34 ∷ 98 ∷ 113 ∷ 0 ∷ 225 ∷ 1 ∷ 144 ∷ 4 ∷ 8 ∷ 2 ∷ 238 ∷ 0 ∷ 62 ∷ 128 ∷ 0
    ∷ []

-- four risks: both claims in one accident, in two, in one with 1,000 after it, and (1,000, 4,000 joined), 3,000
abbrev pub accidents : Group
accidents =
    joining scaffold_header (2 ∷ 2 ∷ 3 ∷ 3 ∷ []) (3000 ∷ 4000 ∷ 3000 ∷ 4000 ∷ 3000 ∷ 4000 ∷ 1000 ∷ 1000 ∷ 4000 ∷ 3000 ∷ [])
    (0 ∷ 1 ∷ 0 ∷ 0 ∷ 0 ∷ 1 ∷ 0 ∷ 0 ∷ 1 ∷ 0 ∷ [])

abbrev pub accidents_file : List ℕ
accidents_file =
    32 ∷ 19 ∷ 136 ∷ 0 ∷ 156 ∷ 64 ∷ 1 ∷ 244 ∷ 34 ∷ 98 ∷ 113 ∷ 0 ∷ 225 ∷ 1 ∷ 144 ∷ 8 ∷ 8 ∷ 1 ∷ 119 ∷ 16 ∷ 15 ∷ 160 ∷ 8
    ∷ 1 ∷ 119 ∷ 0 ∷ 15 ∷ 160 ∷ 12 ∷ 1 ∷ 119 ∷ 16 ∷ 15 ∷ 160 ∷ 0 ∷ 31 ∷ 64 ∷ 96 ∷ 3 ∷ 232 ∷ 128 ∷ 125 ∷ 0 ∷ 2 ∷ 238 ∷ 0
    ∷ []

-- two risks of one claim, the second with its bit set, as if it belonged to the first risk's accident. The same with a fill bit set
abbrev pub leading : Group
leading = joining scaffold_header (1 ∷ 1 ∷ []) (3000 ∷ 4000 ∷ []) (0 ∷ 1 ∷ [])

abbrev pub leading_file : List ℕ
leading_file =
    32 ∷ 19 ∷ 136 ∷ 0 ∷ 156 ∷ 64 ∷ 1 ∷ 244 ∷ 34 ∷ 98 ∷ 113 ∷ 0 ∷ 225 ∷ 1 ∷ 144 ∷ 4 ∷ 4 ∷ 1 ∷ 119 ∷ 0 ∷ 192 ∷ 62 ∷ 128
    ∷ []

abbrev pub leading_filled_file : List ℕ
leading_filled_file =
    32 ∷ 19 ∷ 136 ∷ 0 ∷ 156 ∷ 64 ∷ 1 ∷ 244 ∷ 34 ∷ 98 ∷ 113 ∷ 0 ∷ 225 ∷ 1 ∷ 144 ∷ 4 ∷ 4 ∷ 1 ∷ 119 ∷ 0 ∷ 192 ∷ 62 ∷ 131
    ∷ []

-- one claim of 0 with its bit set, and none
abbrev pub leading_nothing : Group
leading_nothing = joining scaffold_header (1 ∷ 0 ∷ []) (0 ∷ []) (1 ∷ [])

abbrev pub leading_nothing_file : List ℕ
leading_nothing_file =
    32 ∷ 19 ∷ 136 ∷ 0 ∷ 156 ∷ 64 ∷ 1 ∷ 244 ∷ 34 ∷ 98 ∷ 113 ∷ 0 ∷ 225 ∷ 1 ∷ 144 ∷ 4 ∷ 6 ∷ 0 ∷ 0 ∷ 0 ∷ 0 ∷ []

-- what is said of the group of four, of either edition
abbrev pub four_rated : Answer Rated
four_rated = rates 4 (pos 6700000) 3300000 33600 (4935 ∷ 7245 ∷ 8400 ∷ 13020 ∷ [])

-- ---- document 02, job 5

abbrev pub charged : ℕ → ℕ → Answer Charged
charged bits n = given (record { unrounded = of_bits binary64 bits; in_thousandths = n })

-- ---- document 02, job 6

abbrev pub plans : ℕ → ℕ → ℤ → Answer Plan
plans made best short = given (record { made = made; best = best; short = short })

-- G where no maximum is in effect
abbrev pub unbounded : ℕ
unbounded = 4294967295

-- ---- document 02, job 7

-- P 1 with entry ratio marks 0.500 and 0.500, and with 1.000 and 0.999; P 1,000 with loss ratio marks 0.900 and 0.899, and with 0.900 and
-- 0.950 and e 2,000
abbrev pub half_file : List ℕ
half_file = 16 ∷ 0 ∷ 0 ∷ 0 ∷ 0 ∷ 4 ∷ 0 ∷ 0 ∷ 31 ∷ 66 ∷ 113 ∷ 8 ∷ 125 ∷ 3 ∷ 232 ∷ 2 ∷ 4 ∷ 0 ∷ 0 ∷ 64 ∷ []

abbrev pub next_entry_file : List ℕ
next_entry_file = 16 ∷ 0 ∷ 0 ∷ 0 ∷ 0 ∷ 4 ∷ 0 ∷ 0 ∷ 31 ∷ 66 ∷ 113 ∷ 8 ∷ 250 ∷ 7 ∷ 206 ∷ 2 ∷ 4 ∷ 0 ∷ 0 ∷ 64 ∷ []

abbrev pub next_loss_file : List ℕ
next_loss_file = 16 ∷ 0 ∷ 0 ∷ 0 ∷ 15 ∷ 160 ∷ 0 ∷ 0 ∷ 31 ∷ 66 ∷ 113 ∷ 0 ∷ 225 ∷ 7 ∷ 6 ∷ 2 ∷ 4 ∷ 0 ∷ 0 ∷ 64 ∷ []

abbrev pub expense_file : List ℕ
expense_file = 16 ∷ 0 ∷ 0 ∷ 0 ∷ 15 ∷ 160 ∷ 1 ∷ 244 ∷ 31 ∷ 66 ∷ 113 ∷ 0 ∷ 225 ∷ 7 ∷ 108 ∷ 2 ∷ 4 ∷ 0 ∷ 0 ∷ 64 ∷ []
