-- From what a function of the libraries says of a call to what the exported one says, for every call of the table at once: a refusal keeps
-- every lent number, a result sets them; what holds of a result holds of the call; and none answers 11. Assumes nothing.
use mathlib.Core.Path.{◌≡◌, sym, ap, ◌∙◌, subst}
use mathlib.Core.List.{List}
use mathlib.Core.Logic.{◌≢◌}
use Prim.Native.Nat.{ℕ}
use native.Mathlib.Omega.{arith}
use Rattle.std.proofs.Common.{Ok, Err}
use Rattle.plan.specs.Call.{Answer, refused, given, code_of, LentBuffer, IfGiven, IfRefused}
use Rattle.plan.specs.CallTable.{Listed, Gives, answer_to}
use Rattle.laws.proofs.Calls.{Gave, giving-refused, giving-given, number-kept, number-set}
use Rattle.laws.proofs.CallOrder.{no-eleven}
use Rattle.group.specs.Refusals.{number_of}
use Rattle.group.specs.Says.{Says}
use Rattle.group.specs.declared.Refusal.{Refusal}
use Rattle.retro_c.specs.Exported.{Exported}

module _ {A B C : Type 0} {a : Answer A} {lends : A → B} {is : C → B} {buffers : List (LentBuffer A)} where
  -- a refusal
  module _ {r : Refusal} (x : Says a lends is (Err r) buffers) where
    refusal : a ≡ refused (number_of r)
    refusal = giving-refused lends a x.answer

    pub given-none : (Holds : Type 0) → IfGiven a Holds
    given-none Holds = subst (λ (y : Answer A). IfGiven y Holds) (sym refusal) tt

    pub refused-holds : (Holds : ℕ → Type 0) → Holds (number_of r) → IfRefused a Holds
    refused-holds Holds h = subst (λ (y : Answer A). IfRefused y Holds) (sym refusal) h

  -- a result
  module _ {v : C} (x : Says a lends is (Ok v) buffers) where
    gave : Gave lends a (is v)
    gave = giving-given lends a x.answer

    pub given-holds : (Holds : Type 0) → Holds → IfGiven a Holds
    given-holds Holds h = subst (λ (y : Answer A). IfGiven y Holds) (sym gave.is) h

    pub refused-none : (Holds : ℕ → Type 0) → IfRefused a Holds
    refused-none Holds = subst (λ (y : Answer A). IfRefused y Holds) (sym gave.is) tt

module _ {B C : Type 0} {c : Listed} {lends : Gives c → B} {is : C → B} {buffers : List (LentBuffer (Gives c))} {before : B} where
  pub exported-refused : {r : Refusal} → Says (answer_to c) lends is (Err r) buffers → Exported c lends (number_of r) before before buffers
  exported-refused x =
      let e = refusal x in
      record { code_is = sym (ap code_of e); numbers_are = sym (number-kept lends before e); buffers_are = x.buffers_after }

  pub exported-given : {v : C} → Says (answer_to c) lends is (Ok v) buffers → Exported c lends 0 before (is v) buffers
  exported-given x =
      let e = gave x in
      record {
        code_is = sym (ap code_of e.is);
        numbers_are = sym (number-set lends before e.is ∙ e.part);
        buffers_are = x.buffers_after;
      }

-- document 02, job 7: 'Its number isn't used again'
pub exported-not-11 : {B : Type 0} {c : Listed} {lends : Gives c → B} {code : ℕ} {before after : B} {buffers : List (LentBuffer (Gives c))}
    → Exported c lends code before after buffers → code ≢ 11
exported-not-11 {c} x = code-not (answer_to c) (no-eleven c) x.code_is
  where
    code-not : {A : Type 0} (a : Answer A) {code : ℕ} → a ≢ refused 11 → code ≡ code_of a → code ≢ 11
    code-not (refused k) n is e = n (ap refused (sym is ∙ e))
    code-not (given b) n is e = omega (arith, is, e)
