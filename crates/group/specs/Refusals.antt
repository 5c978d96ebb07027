-- Why a call is refused, as the number of the first question that failed; and what questions come to, and what a call answers, as
-- documents 01 and 02 have them.
use Rattle.std.specs.Prelude.{ℕ, Result, Ok, Err}
use Rattle.plan.specs.Questions as questions
use Rattle.plan.specs.Call.{Answer, refused, given}
use Rattle.group.specs.declared.Refusal.{Refusal}
use Rattle.group.specs.declared.Refusal.TheVariants as variants

-- the question's number
abbrev pub number_of : Refusal → ℕ
number_of variants.NoHeader = 1
number_of variants.Edition = 2
number_of variants.StandardPremium = 3
number_of variants.Conversion = 4
number_of variants.Tax = 5
number_of variants.Mark = 6
number_of variants.NoRisks = 7
number_of variants.Length = 8
number_of variants.Fill = 9
number_of variants.NoLosses = 10
number_of variants.NegativeBasic = 12
number_of variants.Room = 13
number_of variants.EntryRatio = 14
number_of variants.Misfit = 15
number_of variants.DiscountRate = 16
number_of variants.LayerWidth = 17
number_of variants.MarkOrder = 18
number_of variants.FirstJoined = 19
number_of variants.Column = 20
number_of variants.TableRatio = 21
number_of variants.PremiumOrder = 22
number_of variants.OutOfReach = 23

-- what questions come to
abbrev pub verdict_is : Result Unit Refusal → questions.Verdict
verdict_is (Ok u) = questions.passed
verdict_is (Err r) = questions.failed (number_of r)

-- what a call answers, by what it gives
abbrev pub answer_is : {A B : Type 0} → (A → B) → Result A Refusal → Answer B
answer_is f (Ok a) = given (f a)
answer_is f (Err r) = refused (number_of r)
