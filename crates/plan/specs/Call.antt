-- A call, over the type of what it gives: the questions that it asks, in their order, and its result. Its answer is made of both, and so is
-- what every lent buffer and number is after it. 'The first No is the result, as that number and nothing else, and no lent byte or number
-- changes. No refusal has another cause.' `CallTable` lists the calls.
use Rattle.std.specs.Prelude.{◌≡◌, List, [], ◌∷◌, ◌++◌, ℕ, ℤ, length, drop}
use Rattle.plan.specs.Questions.{Question, Verdict, passed, failed, first_no}

-- a call of whatever is given to it
pub record Call (A : Type 0) : Type 0 where
  pub questions : List Question
  -- what it gives where all of them pass
  pub result : A

-- a call's answer: the number of the first No, or what the call gives
pub data Answer (A : Type 0) : Type 0 where
  refused : ℕ → Answer A
  given : A → Answer A

abbrev pub answer : {A : Type 0} → Verdict → A → Answer A
answer passed a = given a
answer (failed k) a = refused k

abbrev pub answer_of : {A : Type 0} → Call A → Answer A
answer_of c = answer (first_no c.questions) c.result

-- a part of what a call gives; a refusal has the same number
abbrev pub giving : {A B : Type 0} → (A → B) → Answer A → Answer B
giving f (refused k) = refused k
giving f (given a) = given (f a)

-- for C, 0 where a call has a result, else the number of the first No
abbrev pub code_of : {A : Type 0} → Answer A → ℕ
code_of (refused k) = k
code_of (given a) = 0

-- a lent number after a call that gives it, or several as one value; a refusal keeps it
abbrev pub number_after : {A B : Type 0} → (A → B) → Answer A → B → B
number_after new (refused k) old = old
number_after new (given a) old = new a

-- a lent buffer whose first entries are filled: 'Later bytes of the buffer keep their contents'
abbrev pub filled : {A : Type 0} → List A → List A → List A
filled new old = new ++ drop (length new) old

-- a lent buffer after a call; a refusal keeps it
abbrev pub buffer_after : {A B : Type 0} → (A → List B) → Answer A → List B → List B
buffer_after new (refused k) old = old
buffer_after new (given a) old = filled (new a) old

-- a buffer lent to a call: what its first entries are filled with, what it held, and what it holds after the call
pub data LentBuffer (A : Type 0) : Type 0 where
  buffer : (A → List ℕ) → List ℕ → List ℕ → LentBuffer A
  signed_buffer : (A → List ℤ) → List ℤ → List ℤ → LentBuffer A

-- each of the buffers lent to a call is what the answer makes of it
abbrev pub BuffersAfter : {A : Type 0} → Answer A → List (LentBuffer A) → Type 0
BuffersAfter a [] = Unit {0}
BuffersAfter a (buffer new before after ∷ bs) = (after ≡ buffer_after new a before) × BuffersAfter a bs
BuffersAfter a (signed_buffer new before after ∷ bs) = (after ≡ buffer_after new a before) × BuffersAfter a bs

-- what holds of a call that is not refused
abbrev pub IfGiven : {A : Type 0} → Answer A → Type 0 → Type 0
IfGiven (refused k) Holds = Unit {0}
IfGiven (given a) Holds = Holds

-- what holds of the number of a refusal
abbrev pub IfRefused : {A : Type 0} → Answer A → (ℕ → Type 0) → Type 0
IfRefused (refused k) Holds = Holds k
IfRefused (given a) Holds = Unit {0}
