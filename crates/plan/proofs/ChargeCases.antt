-- Document 02, job 5, on columns .36, .44 and .52 at r 0, 0.50, 1.00, 2.00 and 5.00: the double by its bits, and its thousandths
use mathlib.Core.Path.{◌≡◌, refl}
use lib.IntN.{pos, negsuc}
use Rattle.plan.specs.Call.{refused, IfGiven}
use lib.Ieee.{of_bits, of_int, add, mul, div, le, Float, fin, binary64}
use Rattle.plan.specs.Charge.{charge_double, greatest, thousandths, charge1965, exact_denominator, OnTable, Within, exact_numerator, raised, charge_call}
use Rattle.plan.proofs.Groups.{charged}
use mathlib.Core.Bool.{true, false}
use lib.Dec.{leb}
use Rattle.plan.specs.Matrix.{row_off, row_tolerance, RowSumRule}
use Prim.Native.Nat.{ℕ, ◌*◌, ◌<◌, ◌≤◌}
use Rattle.plan.specs.Doubles.{whole}
use Rattle.plan.proofs.FieldCases.{by_fields}

abbrev pub ChargeCase : Type 0
ChargeCase =
    (charge1965 36 0 ≡ charged 0x3ff0_0000_0000_0000 1000)
    × (charge1965 36 50 ≡ charged 0x3fe2_fd37_2565_d4a1 593)
    × (charge1965 36 100 ≡ charged 0x3fd7_0a3d_5fa1_c62e 360)
    × (charge1965 36 200 ≡ charged 0x3fc2_e880_2ee0_99b1 148)
    × (charge1965 36 500 ≡ charged 0x3f9b_c3fe_663d_ef2a 27)
    × (charge1965 44 0 ≡ charged 0x3ff0_0000_0000_0000 1000)
    × (charge1965 44 50 ≡ charged 0x3fe4_6910_d877_b7c6 638)
    × (charge1965 44 100 ≡ charged 0x3fdc_28f5_d1ad_a41b 440)
    × (charge1965 44 200 ≡ charged 0x3fcd_bff4_5003_b341 232)
    × (charge1965 44 500 ≡ charged 0x3fad_d66e_e611_f8ed 58)
    × (charge1965 52 0 ≡ charged 0x3ff0_0000_0000_0000 1000)
    × (charge1965 52 50 ≡ charged 0x3fe5_fbcb_894c_833a 687)
    × (charge1965 52 100 ≡ charged 0x3fe0_a3d7_0d97_0f20 520)
    × (charge1965 52 200 ≡ charged 0x3fd5_5e6d_c7ff_f9b1 334)
    × (charge1965 52 500 ≡ charged 0x3fbc_cb09_fcbc_ad4b 112)
    -- here r × (r × ..), 1 + (r + ..), powers, h × 0.01, and coefficients times 0.0000001 or divided once, each give another double
    × (charge1965 50 332 ≡ charged 0x3fc6_8702_7cde_7b61 176)
    × (charge1965 51 357 ≡ charged 0x3fc5_f5cd_f127_b983 172)
    -- the other columns, each at one entry ratio: of a coefficient one ten-millionth more or less the double is another
    × (charge1965 37 137 ≡ charged 0x3fd0_fcfd_8e25_9304 265)
    × (charge1965 38 137 ≡ charged 0x3fd1_aa85_ceb7_285c 276)
    × (charge1965 39 137 ≡ charged 0x3fd2_5b96_a915_1887 287)
    × (charge1965 40 137 ≡ charged 0x3fd3_0ffc_6b1b_cd2f 298)
    × (charge1965 41 137 ≡ charged 0x3fd3_c723_3188_ea43 309)
    × (charge1965 42 137 ≡ charged 0x3fd4_810c_6c14_41aa 320)
    × (charge1965 43 137 ≡ charged 0x3fd5_3c59_8de3_c56b 332)
    × (charge1965 45 137 ≡ charged 0x3fd6_b6f3_57a8_1f09 355)
    × (charge1965 46 137 ≡ charged 0x3fd7_74b4_4612_b4d5 366)
    × (charge1965 47 137 ≡ charged 0x3fd8_34a5_72ff_21a1 378)
    × (charge1965 48 137 ≡ charged 0x3fd8_f418_4f2c_5900 390)
    × (charge1965 49 137 ≡ charged 0x3fd9_b680_ec7d_9df3 402)
    -- the exact denominator, times 10 ^ 23
    × (exact_denominator 36 0 ≡ pos 100000000000000000000000)
    × (exact_denominator 36 100 ≡ pos 277777790000000000000000)
    × (exact_denominator 44 50 ≡ pos 156782714492187500000000)
    × (exact_denominator 52 500 ≡ pos 889101250000000000000000)
    × (exact_numerator ≡ 100000000000000000000000)
    -- 'at most (charge + 0.0005) × 1,000', and 'or 0 if none is'
    × (raised (whole 1) ≡ of_bits binary64 0x408f_4400_0000_0000)
    × (greatest 1000 (whole 0) ≡ 0)
    -- 'Errors: 20 a column outside .36 to .52, then 21 an entry ratio above 5.00'
    × (charge1965 35 100 ≡ refused 20)
    × (charge1965 53 100 ≡ refused 20)
    × (charge1965 36 501 ≡ refused 21)
    × (charge1965 52 501 ≡ refused 21)
    × (charge1965 53 501 ≡ refused 20)
    × (charge1965 0 4294967295 ≡ refused 20)

pub charge_case : ChargeCase
unfolding charge_double charge_call exact_denominator thousandths greatest add mul div le of_int of_bits
charge_case = by_fields (
  refl,
  refl,
  refl,
  refl,
  refl,
  refl,
  refl,
  refl,
  refl,
  refl,
  refl,
  refl,
  refl,
  refl,
  refl,
  refl,
  refl,
  refl,
  refl,
  refl,
  refl,
  refl,
  refl,
  refl,
  refl,
  refl,
  refl,
  refl,
  refl,
  refl,
  refl,
  refl,
  refl,
  refl,
  refl,
  refl,
  refl,
  refl,
  refl,
  refl,
  refl,
  refl,
)

-- what is promised of a charge, at r 1.00; and how far rows are off 1 ÷ column − 2: .40 by nothing, .48 by more than 1 ten-millionth
abbrev pub TenfoldCase : Type 0
TenfoldCase =
    ((x : Float) (n : ℕ) → IfGiven (charge1965 36 100) (OnTable 36 100 x n)
    → Within x exact_numerator (pos 277777790000000000000000) × (n ≡ 360))
    -- within a millionth: a half and 0.500001, and 0.499999, each just so
    × (Within (fin false 1 (negsuc 0)) 1000002 (pos 2000000) → (0 < 2000000) × (4 * 1000000 ≤ 2000000 * 2))
    × (Within (fin false 1 (negsuc 0)) 999998 (pos 2000000) → (0 < 2000000) × (4 * 1000000 ≤ 2000000 * 2))
    × (row_off 36 ≡ 44)
    × (row_off 40 ≡ 0)
    × (row_off 48 ≡ 64)
    × (leb (row_off 48) (row_tolerance * 48) ≡ true)
    × ((column : ℕ) → RowSumRule column → row_off column ≤ 2 * column)

pub tenfold_case : TenfoldCase
unfolding charge_double charge_call exact_denominator thousandths greatest add mul div le of_int of_bits
tenfold_case = by_fields (λ x n b. (b.within, b.tenfold refl), λ w. w, λ w. w, refl, refl, refl, refl, λ column rule. rule)
