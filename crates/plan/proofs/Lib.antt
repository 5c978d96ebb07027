-- The cases of documents 01 and 02, computed: a file for the base and one for each request, and one list of all.
pub mod Groups
pub mod FieldCases
pub mod BaseCases
pub mod QuestionCases
pub mod BoundCases
pub mod GuaranteedCases
pub mod MarkCases
pub mod SumCases
pub mod AccidentCases
pub mod ChargeCases
pub mod PlanCases
pub mod OrderCases
pub mod CallCases
pub mod Cases
