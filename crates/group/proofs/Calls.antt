-- From a call's first No to what a function of the libraries says of the call: where there is one, that refusal, if all buffers are as they
-- were; where there is none, the result, if the code's value is its part and the buffers are filled with theirs. Assumes nothing.
use Rattle.std.proofs.Common.{◌≡◌, refl, sym, ap, ◌∙◌, subst, List, [], Ok, Err, Result}
use Rattle.plan.specs.Questions.{Verdict, passed, failed, first_no}
use Rattle.plan.specs.Call.{Call, Answer, refused, given, answer, answer_of, giving, LentBuffer, BuffersAfter}
use Rattle.group.specs.Refusals.{number_of, answer_is}
use Rattle.group.specs.Says.{Says}
use Rattle.group.specs.declared.Refusal.{Refusal}

module _ {A B C : Type 0} (c : Call A) (part : A → B) (is : C → B) where
  pub keeps : {buffers : List (LentBuffer A)} (r : Refusal) → first_no c.questions ≡ failed (number_of r)
      → BuffersAfter (refused (number_of r)) buffers → Says (answer_of c) part is (Err r) buffers
  keeps {buffers} r e kept =
      subst (λ (v : Verdict). Says (answer v c.result) part is (Err r) buffers) (sym e) (record { answer = refl; buffers_after = kept })

  pub sets : {buffers : List (LentBuffer A)} (v : C) → first_no c.questions ≡ passed → is v ≡ part c.result
      → BuffersAfter (given c.result) buffers → Says (answer_of c) part is (Ok v) buffers
  sets {buffers} v e p filled =
      subst (λ (w : Verdict). Says (answer w c.result) part is (Ok v) buffers) (sym e) (record { answer = ap given p; buffers_after = filled })

-- of a call that fills no buffer, an answer that is the call's
pub alone : {A C : Type 0} {a : Answer A} {is : C → A} {r : Result C Refusal} → answer_is is r ≡ a → Says a (λ x. x) is r []
alone {A} {a} e = record { answer = e ∙ sym (all a); buffers_after = tt }
  where
    all : (x : Answer A) → giving (λ y. y) x ≡ x
    all (refused k) = refl
    all (given v) = refl
