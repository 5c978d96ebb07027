-- 'Proved cases, with the group above as the first': one list, over literal bytes and numbers, computed by the prover. Each group's bytes
-- are also the file that its values make; one file has a fill bit set, which no values make. Values that document 01 leaves open are in docs/DECISIONS.md. Assumes nothing.
use Rattle.plan.proofs.FieldCases.{FieldCase, field_case}
use Rattle.plan.proofs.BaseCases.{FourCase, four_case, TableCase, table_case, OtherCases, other_cases, BufferCase, buffer_case, DemandCase, demand_case}
use Rattle.plan.proofs.QuestionCases.{HeaderQuestionCase, header_question_case, FileQuestionCase, file_question_case, FitCase, fit_case}
use Rattle.plan.proofs.BoundCases.{SizeCase, size_case, BoundCase, bound_case}
use Rattle.plan.proofs.GuaranteedCases.{GuaranteedCase, guaranteed_case, BesideBufferCase, beside_buffer_case, BesideCase, beside_case}
use Rattle.plan.proofs.MarkCases.{MarksCase, marks_case}
use Rattle.plan.proofs.SumCases.{SumsCase, sums_case}
use Rattle.plan.proofs.AccidentCases.{AccidentsCase, accidents_case}
use Rattle.plan.proofs.ChargeCases.{ChargeCase, charge_case, TenfoldCase, tenfold_case}
use Rattle.plan.proofs.PlanCases.{PlanCase, plan_case, SoldCase, sold_case}
use Rattle.plan.proofs.OrderCases.{OrderCase, order_case}
use Rattle.plan.proofs.CallCases.{CallCase, call_case}

-- all of them: 'gathered as one checked list'
pub proved_cases :
    FieldCase × FourCase × TableCase × OtherCases × BufferCase × DemandCase × HeaderQuestionCase × FileQuestionCase × FitCase × SizeCase × BoundCase × GuaranteedCase × BesideBufferCase × BesideCase × MarksCase × SumsCase × AccidentsCase × ChargeCase
    × TenfoldCase × PlanCase × SoldCase × OrderCase × CallCase
proved_cases = (
  field_case,
  four_case,
  table_case,
  other_cases,
  buffer_case,
  demand_case,
  header_question_case,
  file_question_case,
  fit_case,
  size_case,
  bound_case,
  guaranteed_case,
  beside_buffer_case,
  beside_case,
  marks_case,
  sums_case,
  accidents_case,
  charge_case,
  tenfold_case,
  plan_case,
  sold_case,
  order_case,
  call_case,
)
