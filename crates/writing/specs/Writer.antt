-- Write's answer as document 01's.
use Rattle.std.specs.Prelude.{List, ℕ, length, Result}
use Rattle.plan.specs.File.{Group}
use Rattle.plan.specs.Calls.{write, write_buffers}
use Rattle.group.specs.Says.{Says}
use Rattle.group.specs.declared.Refusal.{Refusal}
pub use Rattle.group.specs.Given.{given_group}

-- a call of Write with the values g, whose output buffer held `old` and holds `new` after it: the length, or the refusal
abbrev pub WriteSays : Group → List ℕ → Result ℕ Refusal → List ℕ → Type 0
WriteSays g old r new = Says (write g (length old)) length (λ n. n) r (write_buffers old new)
