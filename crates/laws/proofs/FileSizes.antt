-- Sizes of a file and of its group: the fields' widths bound n, the place where the last field ends, the length, and each number
-- that step 1 gives. Assumes nothing.
use mathlib.Core.Path.{sym, subst}
use mathlib.Core.List.{List}
use Prim.Native.Nat.{ℕ, ◌*◌, ◌≤◌}
use native.Mathlib.Omega.{arith}
use lib.ListN.{length}
use Rattle.plan.specs.Sizes.{most_risks, most_file_bits, largest_file}
use Rattle.plan.specs.Header.{header_of, header_bits, risk_count, standard_premium_field, expense_field, risks_field}
use Rattle.plan.specs.File.{end_of, risks_of}
use Rattle.plan.specs.Losses.{losses_in}
use Rattle.plan.specs.Bounds.{HeaderSound, GroupBounds}
use Rattle.laws.proofs.Fields.{field_lt}
use Rattle.laws.proofs.Risks.{past-risks-le}
use Rattle.laws.proofs.Losses.{SA≤SL, SL-le, length-losses}
use Rattle.laws.proofs.Questions.{FileSound}

-- ---- of any bytes

pub risks-le : (s : List ℕ) → risk_count s ≤ most_risks
risks-le s = omega (arith, field_lt s risks_field.at risks_field.width)

pub end-le : (s : List ℕ) → end_of s ≤ most_file_bits
end-le s = omega (arith, past-risks-le s header_bits (risk_count s), risks-le s)

-- ---- of a file that passes 1 to 9

-- where question 8 is answered Yes, every field of the file lies in it
pub end-within : (s : List ℕ) → FileSound s → end_of s ≤ 8 * length s
end-within s f = omega (arith, f.ends)

-- job 4: 'The largest file becomes 42,378 bytes.'
pub file-le : (s : List ℕ) → FileSound s → length s ≤ largest_file
file-le s f = omega (arith, f.ends, end-le s)

pub group-bounds : (s : List ℕ) → FileSound s → GroupBounds (header_of s) (losses_in s)
group-bounds s f =
    let n = length-losses s in
    record {
      sound = subst (HeaderSound (header_of s)) (sym n) f.header;
      premium = field_lt s standard_premium_field.at standard_premium_field.width;
      expense = field_lt s expense_field.at expense_field.width;
      risks = omega (arith, risks-le s);
      limited = SA≤SL (header_of s).loss_limit (risks_of s);
      total = omega (arith, SL-le s (header_of s).loss_limit header_bits (risk_count s));
    }
