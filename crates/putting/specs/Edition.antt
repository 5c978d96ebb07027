-- The edition of a run, by whether its claims have bits.
use Rattle.std.specs.Prelude.{ℕ, Bool, cond}

abbrev pub edition_by : Bool → ℕ
edition_by joins = cond joins 2 1
