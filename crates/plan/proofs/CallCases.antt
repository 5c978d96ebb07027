-- The answers of the table of calls are those of the calls by their names, and the code for C of an answer.
use mathlib.Core.Path.{◌≡◌, refl}
use mathlib.Core.List.{List}
use Prim.Native.Nat.{ℕ}
use Rattle.plan.specs.File.{Group}
use Rattle.plan.specs.Discount.{Layer}
use Rattle.plan.specs.Call.{given, refused, code_of}
use Rattle.plan.specs.Calls.{rate, table, read, write}
use Rattle.plan.specs.Comparison.{compare}
use Rattle.plan.specs.Charge.{charge1965}
use Rattle.plan.specs.SoldOnPremiums.{plan_for}
use Rattle.plan.specs.CallTable as call_table

abbrev pub CallCase : Type 0
CallCase =
    ((s : List ℕ) (room : ℕ) → call_table.answer_to (call_table.Rate s room) ≡ rate s room)
    × ((s : List ℕ) (r : ℕ) → call_table.answer_to (call_table.Table s r) ≡ table s r)
    × ((s : List ℕ) (counts_room claims_room joined_room : ℕ)
    → call_table.answer_to (call_table.Read s counts_room claims_room joined_room) ≡ read s counts_room claims_room joined_room)
    × ((g : Group) (room : ℕ) → call_table.answer_to (call_table.Write g room) ≡ write g room)
    × ((s : List ℕ) (ls : List Layer) (premiums_room differences_room : ℕ)
    → call_table.answer_to (call_table.Guaranteed s ls premiums_room differences_room) ≡ compare s ls premiums_room differences_room)
    × ((column r : ℕ) → call_table.answer_to (call_table.Charge1965 column r) ≡ charge1965 column r)
    × ((s : List ℕ) (g h trials : ℕ) → call_table.answer_to (call_table.Plan s g h trials) ≡ plan_for s g h trials)
    × (code_of {A = ℕ} (given 7) ≡ 0)
    × (code_of {A = ℕ} (refused 12) ≡ 12)

pub call_case : CallCase
call_case = (
  λ s room. refl,
  λ s r. refl,
  λ s counts_room claims_room joined_room. refl,
  λ g room. refl,
  λ s ls premiums_room differences_room. refl,
  λ column r. refl,
  λ s g h trials. refl,
  refl,
  refl,
)
