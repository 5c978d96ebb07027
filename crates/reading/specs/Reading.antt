-- The answer of Read as document 01's, and document 02's, job 4. And the room that reading the risks asks for.
use Rattle.std.specs.Prelude.{List, ℕ, ◌≤◌, length, Result}
use Rattle.plan.specs.Arithmetic.{sum}
use Rattle.plan.specs.Sizes.{most_risks}
use Rattle.plan.specs.Header as header
use Rattle.plan.specs.Claim.{Claim}
use Rattle.plan.specs.Claim as claim
use Rattle.plan.specs.Risk.{counts_from}
use Rattle.plan.specs.File.{Group}
pub use Rattle.plan.specs.Calls.{Buffers, read_with, read_buffers}
use Rattle.group.specs.Values.{header_is}
use Rattle.group.specs.Says.{Says}
use Rattle.group.specs.declared.Refusal.{Refusal}
use Rattle.reading.specs.declared.ReadValues.{ReadValues}

-- a claim's bit
abbrev pub bit : Claim → ℕ
bit = claim.joins

-- what Read gives beside its buffers: the edition, n and the header values
pub record ValuesGiven : Type 0 where
  pub edition : ℕ
  pub risks : ℕ
  pub header : header.Header

-- of a group: n is the number of counts
abbrev pub values_given : Group → ValuesGiven
values_given g = record { edition = g.edition; risks = length g.counts; header = g.header }

-- the code's values
abbrev pub read_is : ReadValues → ValuesGiven
read_is v = record { edition = v.edition; risks = v.risks; header = header_is v.header }

-- the three buffers that are lent to Read, as one value
abbrev pub buffers : List ℕ → List ℕ → List ℕ → Buffers
buffers c d j = record { counts = c; claims = d; joined = j }

-- a call of Read on the file s, whose buffers held `old` and hold `new` after it
abbrev pub ReadSays : List ℕ → Buffers → Result ReadValues Refusal → Buffers → Type 0
ReadSays s old r new = Says (read_with s old) values_given read_is r (read_buffers old new)

-- buffers with room for the claims and bits of the first n risks from the place `at` on, which is no later than the header's end
pub record RisksRoom (s : List ℕ) (at n claims_room joined_room : ℕ) : Type 0 where
  pub place : at ≤ header.header_bits
  pub few : n ≤ most_risks
  pub claims : sum (counts_from s at n) ≤ claims_room
  pub joined : sum (counts_from s at n) ≤ joined_room
