-- Laws of a call, whatever it gives: it is refused by the number of its first No, and gives its result where all its questions pass, and
-- the other way round; a number that it does not ask is no answer of it; and a refusal keeps every lent number and buffer, while what is
-- given sets them. A part of an answer tells the answer. Assumes nothing.
use mathlib.Core.Path.{◌≡◌, refl, sym, ap, ◌∙◌}
use mathlib.Core.Bool.{false, true≢false}
use mathlib.Core.List.{List}
use mathlib.Core.Logic.{◌≢◌}
use Prim.Native.Nat.{ℕ}
use native.Mathlib.Omega.{arith}
use Rattle.plan.specs.Questions.{Verdict, passed, failed, first_no}
use Rattle.plan.specs.Call.{Call, Answer, refused, given, answer, answer_of, giving, number_after, filled, buffer_after}
use Rattle.laws.proofs.Questions.{asks, no-asked}

-- ---- what a verdict answers

pub answered : {A : Type 0} {v w : Verdict} (a : A) → v ≡ w → answer v a ≡ answer w a
answered a e = ap (λ (v : Verdict). answer v a) e

pub given-passed : {A : Type 0} (v : Verdict) (a b : A) → answer v a ≡ given b → (v ≡ passed) × (a ≡ b)
given-passed passed a b e = (refl, cc)
given-passed (failed k) a b e = (cc, cc)

pub refused-failed : {A : Type 0} (v : Verdict) (a : A) {k : ℕ} → answer v a ≡ refused k → v ≡ failed k
refused-failed passed a e = cc
refused-failed (failed j) a e = cc

-- ---- a call

module _ {A : Type 0} (c : Call A) where
  -- 'The first No is the result, as that number and nothing else'
  pub refuses : {k : ℕ} → first_no c.questions ≡ failed k → answer_of c ≡ refused k
  refuses e = answered c.result e

  pub gives : first_no c.questions ≡ passed → answer_of c ≡ given c.result
  gives e = answered c.result e

  -- 'No refusal has another cause'
  pub refused-by : {k : ℕ} → answer_of c ≡ refused k → first_no c.questions ≡ failed k
  refused-by e = refused-failed (first_no c.questions) c.result e

  pub given-by : {a : A} → answer_of c ≡ given a → (first_no c.questions ≡ passed) × (c.result ≡ a)
  given-by {a} e = given-passed (first_no c.questions) c.result a e

  -- a number that it does not ask is no answer
  pub not-answered : (k : ℕ) → asks k c.questions ≡ false → answer_of c ≢ refused k
  not-answered k none = λ (e : answer_of c ≡ refused k). true≢false (sym (no-asked k c.questions (refused-by e)) ∙ none)

-- ---- what is lent: 'and no lent byte or number changes'

module _ {A B : Type 0} (new : A → B) (old : B) {a : Answer A} where
  pub number-kept : {k : ℕ} → a ≡ refused k → number_after new a old ≡ old
  number-kept e = ap (λ (x : Answer A). number_after new x old) e

  pub number-set : {v : A} → a ≡ given v → number_after new a old ≡ new v
  number-set e = ap (λ (x : Answer A). number_after new x old) e

module _ {A B : Type 0} (new : A → List B) (old : List B) {a : Answer A} where
  pub buffer-kept : {k : ℕ} → a ≡ refused k → buffer_after new a old ≡ old
  buffer-kept e = ap (λ (x : Answer A). buffer_after new x old) e

  pub buffer-filled : {v : A} → a ≡ given v → buffer_after new a old ≡ filled (new v) old
  buffer-filled e = ap (λ (x : Answer A). buffer_after new x old) e

-- ---- a part of an answer

pub giving-refused : {A B : Type 0} (f : A → B) (a : Answer A) {k : ℕ} → refused k ≡ giving f a → a ≡ refused k
giving-refused f (refused j) e = cc
giving-refused f (given a) e = cc

-- what was given, of which a part is known
pub record Gave {A B : Type 0} (f : A → B) (a : Answer A) (b : B) : Type 0 where
  pub value : A
  pub is : a ≡ given value
  pub part : f value ≡ b

pub giving-given : {A B : Type 0} (f : A → B) (a : Answer A) {b : B} → given b ≡ giving f a → Gave f a b
giving-given f (refused j) {b} e = let z : ◌≡◌ {A = ℕ} 0 1 = cc in absurd (omega arith)
giving-given f (given a) {b} e = record { value = a; is = refl; part = cc }
