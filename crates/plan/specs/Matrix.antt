-- Document 02, job 5: 'Source document 003 has a formula for the charge and a matrix of coefficients b2 to b8. Carry columns .36 to
-- .52, seven coefficients each, 119 in all, as whole ten-millionths.' The matrix is Exhibit H of document 003, where a column of the
-- table, a premium group, is a row. The scan has a comma for the point in b3 of .36; docs/DECISIONS.md says how each number was
-- checked.
use Rattle.std.specs.Prelude.{ℕ, ◌+◌, ◌-◌, ◌*◌, ◌≤◌, List, [], ◌∷◌, ℤ, pos, ◌+ℤ◌, ◌-ℤ◌, ◌*ℤ◌, neg_ℤ, nat_abs, get_or}
use Rattle.plan.specs.Arithmetic.{sum_z}

-- 'columns .36 to .52', in hundredths
abbrev pub first_column : ℕ
first_column = 36

abbrev pub last_column : ℕ
last_column = 52

-- 'seven coefficients each'
abbrev pub coefficients : ℕ
coefficients = 7

-- −n, so that a number stands here with the digits of the page
abbrev pub minus : ℕ → ℤ
minus n = neg_ℤ (pos n)

-- 'as whole ten-millionths', b2 first
abbrev pub matrix : List ℤ
matrix =
    -- .36
    pos 6988077 ∷ pos 1534788 ∷ minus 2401878 ∷ pos 2446196 ∷ minus 935920 ∷ pos 156192 ∷ minus 9676
    -- .37
    ∷ pos 6699527 ∷ pos 362174 ∷ minus 1052290 ∷ pos 1558492 ∷ minus 643880 ∷ pos 109835 ∷ minus 6831
    -- .38
    ∷ pos 6373082 ∷ minus 619243 ∷ pos 65091 ∷ pos 850057 ∷ minus 426207 ∷ pos 78055 ∷ minus 5046
    -- .39
    ∷ pos 6000823 ∷ minus 1393633 ∷ pos 963798 ∷ pos 270763 ∷ minus 250111 ∷ pos 53088 ∷ minus 3703
    -- .40
    ∷ pos 5578036 ∷ minus 1952433 ∷ pos 1636623 ∷ minus 183729 ∷ minus 108692 ∷ pos 32798 ∷ minus 2603
    -- .41
    ∷ pos 5105354 ∷ minus 2297982 ∷ pos 2072574 ∷ minus 497446 ∷ minus 8845 ∷ pos 18417 ∷ minus 1828
    -- .42
    ∷ pos 4520075 ∷ minus 2252639 ∷ pos 2077841 ∷ minus 572532 ∷ pos 25717 ∷ pos 12534 ∷ minus 1473
    -- .43
    ∷ pos 3848930 ∷ minus 1929981 ∷ pos 1803976 ∷ minus 498168 ∷ pos 20876 ∷ pos 11522 ∷ minus 1341
    -- .44
    ∷ pos 3140541 ∷ minus 1462885 ∷ pos 1387943 ∷ minus 343862 ∷ minus 6725 ∷ pos 13635 ∷ minus 1375
    -- .45
    ∷ pos 2380330 ∷ minus 828200 ∷ pos 811232 ∷ minus 97579 ∷ minus 61649 ∷ pos 19723 ∷ minus 1634
    -- .46
    ∷ pos 1540083 ∷ pos 62860 ∷ minus 37170 ∷ pos 308102 ∷ minus 165737 ∷ pos 33337 ∷ minus 2345
    -- .47
    ∷ pos 688215 ∷ pos 1034968 ∷ minus 973794 ∷ pos 767784 ∷ minus 286993 ∷ pos 49637 ∷ minus 3220
    -- .48
    ∷ minus 330425 ∷ pos 2511240 ∷ minus 2463034 ∷ pos 1543364 ∷ minus 502972 ∷ pos 80085 ∷ minus 4926
    -- .49
    ∷ minus 1339706 ∷ pos 4013138 ∷ minus 3983194 ∷ pos 2338214 ∷ minus 725095 ∷ pos 111496 ∷ minus 6690
    -- .50
    ∷ minus 2502708 ∷ pos 5970000 ∷ minus 5988208 ∷ pos 3401507 ∷ minus 1025966 ∷ pos 154505 ∷ minus 9130
    -- .51
    ∷ minus 3651269 ∷ pos 7926783 ∷ minus 7988756 ∷ pos 4460618 ∷ minus 1325207 ∷ pos 197223 ∷ minus 11549
    -- .52
    ∷ minus 4911550 ∷ pos 10191766 ∷ minus 10283315 ∷ pos 5666651 ∷ minus 1663803 ∷ pos 245276 ∷ minus 14256 ∷ []

-- b_(i + 2) of a column given in hundredths, in ten-millionths, for columns from .36 to .52 and i below 7, which is all that is asked for:
-- below .36 the minus would stop at 0, and from 7 on i would reach the next row
abbrev pub coefficient : ℕ → ℕ → ℤ
coefficient column i = get_or matrix ((column - first_column) * coefficients + i) (pos 0)

-- ---- 'Show once for the matrix that a row's sum is within 2 ten-millionths of 1 ÷ column − 2.'

-- the sum of a row
abbrev pub row_sum : ℕ → ℤ
row_sum column = sum_z (coefficient column) (0 ∷ 1 ∷ 2 ∷ 3 ∷ 4 ∷ 5 ∷ 6 ∷ [])

-- with k hundredths for the column, |sum − (1 ÷ column − 2)| ≤ 2 in ten-millionths, times k:
-- |k × (sum + 20,000,000) − 1,000,000,000| ≤ 2 × k
abbrev pub row_off : ℕ → ℕ
row_off column = nat_abs (pos column *ℤ (row_sum column +ℤ pos 20000000) -ℤ pos 1000000000)

-- 'within 2 ten-millionths'
abbrev pub row_tolerance : ℕ
row_tolerance = 2

abbrev pub RowSumRule : ℕ → Type 0
RowSumRule column = row_off column ≤ row_tolerance * column
