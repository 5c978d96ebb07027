-- The form of what every exported call says: the number that it answers, the numbers that are lent to it and the buffers that are lent to it
-- are what the answer of its line in the table of calls makes of them. Which numbers and buffers these are, a call's contract names.
use Rattle.std.specs.Prelude.{◌≡◌, List, ℕ, ℤ, pos}
use Rattle.plan.specs.Call.{code_of, number_after, LentBuffer, BuffersAfter}
use Rattle.plan.specs.CallTable.{Listed, Gives, answer_to}
use Rattle.plan.specs.Comparison.{NumbersGiven}
use Rattle.reading.specs.Reading.{ValuesGiven}
use Rattle.group.specs.Values.{header_is}
use Rattle.retro_c.specs.declared.RetroGroup.{RetroGroup}

-- a line of the table with what was given, what the lent numbers are of its result, the number answered, and what was there before the call
-- and is there after it
pub record Exported {B : Type 0} (c : Listed) (lends : Gives c → B) (code : ℕ) (before after : B) (buffers : List (LentBuffer (Gives c)))
    : Type 0 where
  pub code_is : code ≡ code_of (answer_to c)
  pub numbers_are : after ≡ number_after lends (answer_to c) before
  pub buffers_are : BuffersAfter (answer_to c) buffers

-- the seven numbers that are lent to the call for guaranteed cost
abbrev pub lent : ℕ → ℕ → ℕ → ℕ → ℕ → ℕ → ℤ → NumbersGiven
lent n m q b d g z = record { risks = n; basic = pos m; excess = q; billed = b; discount = d; guaranteed = g; difference = z }

-- the ten numbers that Read answers beside its code; as if they were lent, and 0 before the call
abbrev pub values : RetroGroup → ValuesGiven
values g = record { edition = g.edition; risks = g.risks; header = header_is g.header }

abbrev pub no_values : ValuesGiven
no_values = record {
  edition = 0;
  risks = 0;
  header = record {
    loss_limit = 0;
    standard_premium = 0;
    expense = 0;
    conversion = 0;
    tax = 0;
    mark_kind = 0;
    maximum_mark = 0;
    minimum_mark = 0;
  };
}
