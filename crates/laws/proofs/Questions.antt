-- Laws of the questions. The first No of a gate and a list that goes on from it is the gate's, else that of the rest; where all
-- are passed, the answer looked up by any number that is asked is Yes. So a gate's Yes gives the facts that its questions ask
-- for, and those facts give its Yes: each question has a line of its own in either direction. Leaving out a question that is
-- answered Yes changes no first No. A range of questions, as 1 to 9, has 18 in its place, after 6 and before 7, and 19 in its, after 9;
-- one that goes beyond 10 is without 11.
-- Assumes nothing.
use mathlib.Core.Path.{◌≡◌, refl, ◌∙◌, ap}
use mathlib.Core.Bool.{Bool, true, false, cond, ◌&&◌, ◌||◌}
use mathlib.Core.List.{List, [], ◌∷◌, ◌++◌}
use Prim.Native.Nat.{ℕ, ◌≤◌}
use lib.Dec.{eqb}
use lib.Signed.{non_neg}
use lib.ListN.{length}
use borrow.Author.Tests.{leb-true, le-leb, eqb-true, eq-eqb}
use Rattle.plan.specs.Header.{Header, header_of, edition_of, risk_count, value_of, spare_field}
use Rattle.plan.specs.Field.{bytes_for}
use Rattle.plan.specs.File.{risks_of, end_of, fill_of}
use Rattle.plan.specs.Accidents.{all_open}
use Rattle.plan.specs.Losses.{Losses, SA, losses_in}
use Rattle.plan.specs.Basic.{basic_premium}
use Rattle.plan.specs.Questions.{Question, ask, Verdict, passed, failed, first_no, or_else, known_edition, question1, question2}
use Rattle.plan.specs.Questions.{question10}
use Rattle.plan.specs.Questions.{header_questions, end_questions, file_questions, balance_questions, loss_questions, rating_questions}
use Rattle.plan.specs.Bounds.{HeaderSound}
use Rattle.laws.proofs.Tests.{both, and_yes}

-- ---- the numbers that a list asks, in its order

abbrev pub numbers : List Question → List ℕ
numbers [] = []
numbers (ask k b ∷ qs) = k ∷ numbers qs

-- ---- one question

-- a Yes goes on
pub goes_on : (k : ℕ) {b : Bool} (qs : List Question) → b ≡ true → first_no (ask k b ∷ qs) ≡ first_no qs
goes_on k qs e = ap (λ (x : Bool). first_no (ask k x ∷ qs)) e

-- a No is the result
pub stops : (k : ℕ) {b : Bool} (qs : List Question) → b ≡ false → first_no (ask k b ∷ qs) ≡ failed k
stops k qs e = ap (λ (x : Bool). first_no (ask k x ∷ qs)) e

-- ---- a gate, and a list that goes on from it

-- the gate's No, else the first No of the rest, whatever the rest is
pub after-gate : (gate rest : List Question) {v : Verdict} → first_no gate ≡ v → first_no (gate ++ rest) ≡ or_else v (first_no rest)
after-gate gate rest e = both_lists gate ∙ ap (λ (v : Verdict). or_else v (first_no rest)) e
  where
    both_lists : (qs : List Question) → first_no (qs ++ rest) ≡ or_else (first_no qs) (first_no rest)
    both_lists [] = refl
    both_lists (ask k true ∷ qs) = both_lists qs
    both_lists (ask k false ∷ qs) = refl

-- what passes all passes the gate and the rest
pub passed-both : (gate rest : List Question) → first_no (gate ++ rest) ≡ passed → (first_no gate ≡ passed) × (first_no rest ≡ passed)
passed-both [] rest e = (refl, e)
passed-both (ask k true ∷ gate) rest e = passed-both gate rest e
passed-both (ask k false ∷ gate) rest e = (e, cc)

-- and what comes to a Yes one after the other comes to a Yes each
pub or-passed : (v w : Verdict) → or_else v w ≡ passed → (v ≡ passed) × (w ≡ passed)
or-passed passed w e = (refl, e)
or-passed (failed k) w e = (e, cc)

-- ---- an answer by its number

-- whether a number is asked
abbrev pub asks : ℕ → List Question → Bool
asks k [] = false
asks k (ask n b ∷ qs) = eqb n k || asks k qs

-- the answer to question k; No where it is not asked
abbrev pub answer_to : ℕ → List Question → Bool
answer_to k [] = false
answer_to k (ask n b ∷ qs) = cond (eqb n k) b (answer_to k qs)

found : (t a b : Bool) → (a ≡ true → b ≡ true) → (t || a) ≡ true → cond t true b ≡ true
found true a b f e = refl
found false a b f e = f e

pub yes-to : (k : ℕ) (qs : List Question) → asks k qs ≡ true → first_no qs ≡ passed → answer_to k qs ≡ true
yes-to k [] a e = a
yes-to k (ask n true ∷ qs) a e = found (eqb n k) (asks k qs) (answer_to k qs) (λ h. yes-to k qs h e) a
yes-to k (ask n false ∷ qs) a e = cc

-- the number of a verdict; 0 where all passed
abbrev number_of : Verdict → ℕ
number_of passed = 0
number_of (failed k) = k

-- no call answers a number that it does not ask
pub no-asked : (k : ℕ) (qs : List Question) → first_no qs ≡ failed k → asks k qs ≡ true
no-asked k [] e = cc
no-asked k (ask n true ∷ qs) e = or_later (eqb n k) (no-asked k qs e)
  where
    or_later : (t : Bool) {b : Bool} → b ≡ true → (t || b) ≡ true
    or_later true h = refl
    or_later false h = h
no-asked k (ask n false ∷ qs) e = simp (eq-eqb n k (ap number_of e))

-- ---- a question left out of a list

-- the list without the question of a number
abbrev pub without : ℕ → List Question → List Question
without k [] = []
without k (ask n b ∷ qs) = cond (eqb n k) (without k qs) (ask n b ∷ without k qs)

-- whether the question of a number is answered Yes, wherever it is asked
abbrev pub answers_yes : ℕ → List Question → Bool
answers_yes k [] = true
answers_yes k (ask n b ∷ qs) = cond (eqb n k) b true && answers_yes k qs

passed_over : (t b later : Bool) (n : ℕ) (rest qs : List Question) → (cond t b true && later) ≡ true → first_no rest ≡ first_no qs
    → first_no (cond t rest (ask n b ∷ rest)) ≡ first_no (ask n b ∷ qs)
passed_over true true later n rest qs e h = h
passed_over true false later n rest qs e h = cc
passed_over false true later n rest qs e h = h
passed_over false false later n rest qs e h = refl

-- where it is answered Yes, leaving it out changes no first No
pub left_out : (k : ℕ) (qs : List Question) → answers_yes k qs ≡ true → first_no (without k qs) ≡ first_no qs
left_out k [] e = refl
left_out k (ask n b ∷ qs) e =
    passed_over (eqb n k) b (answers_yes k qs) n (without k qs) qs e
    (left_out k qs (both (cond (eqb n k) b true) (answers_yes k qs) e).1)

-- as it is in a list that passes
pub passed-yes : (k : ℕ) (qs : List Question) → first_no qs ≡ passed → answers_yes k qs ≡ true
passed-yes k [] e = refl
passed-yes k (ask n true ∷ qs) e = and_yes (either (eqb n k)) (passed-yes k qs e)
  where
    either : (t : Bool) → cond t true true ≡ true
    either true = refl
    either false = refl
passed-yes k (ask n false ∷ qs) e = cc

-- ---- the facts that passed questions give, by number

pub header-sound : (h : Header) (n : ℕ) → first_no (header_questions h n) ≡ passed → HeaderSound h n
header-sound h n e =
    let qs = header_questions h n in
    let four = both _ _ (yes-to 4 qs refl e) in
    let five = both _ _ (yes-to 5 qs refl e) in
    let six = both _ _ (yes-to 6 qs refl e) in
    record {
      premium = leb-true _ _ (yes-to 3 qs refl e);
      conversion = leb-true _ _ four.0;
      conversion_most = leb-true _ _ four.1;
      tax = leb-true _ _ five.0;
      tax_most = leb-true _ _ five.1;
      maximum = leb-true _ _ six.0;
      minimum = leb-true _ _ six.1;
      marks_in_order = leb-true _ _ (yes-to 18 qs refl e);
      risks = leb-true _ _ (yes-to 7 qs refl e);
    }

pub header-passes : (h : Header) (n : ℕ) → HeaderSound h n → first_no (header_questions h n) ≡ passed
header-passes h n f =
    simp (
      le-leb _ _ f.premium,
      le-leb _ _ f.conversion,
      le-leb _ _ f.conversion_most,
      le-leb _ _ f.tax,
      le-leb _ _ f.tax_most,
      le-leb _ _ f.maximum,
      le-leb _ _ f.minimum,
      le-leb _ _ f.marks_in_order,
      le-leb _ _ f.risks,
    )

-- of a file that passes 1 to 9
pub record FileSound (s : List ℕ) : Type 0 where
  -- 1
  pub long : 16 ≤ length s
  -- 2
  pub edition_known : known_edition (edition_of s) ≡ true
  pub spare_is : value_of s spare_field ≡ 0
  -- 3 to 7
  pub header : HeaderSound (header_of s) (risk_count s)
  -- 8
  pub ends : length s ≡ bytes_for (end_of s)
  -- 9
  pub fill : fill_of s ≡ 0
  -- 19
  pub each_opens : all_open (risks_of s) ≡ true

-- 1 and 2
abbrev first_questions : List ℕ → List Question
first_questions s = question1 s ∷ question2 s ∷ []

pub file-sound : (s : List ℕ) → first_no (file_questions s) ≡ passed → FileSound s
file-sound s e =
    let qs = file_questions s in
    let two = both _ _ (yes-to 2 qs refl e) in
    let later = (passed-both (first_questions s) (header_questions (header_of s) (risk_count s) ++ end_questions s) e).1 in
    record {
      long = leb-true _ _ (yes-to 1 qs refl e);
      edition_known = two.0;
      spare_is = eqb-true _ _ two.1;
      header = header-sound (header_of s) (risk_count s) (passed-both (header_questions (header_of s) (risk_count s)) (end_questions s) later).0;
      ends = eqb-true _ _ (yes-to 8 qs refl e);
      fill = eqb-true _ _ (yes-to 9 qs refl e);
      each_opens = yes-to 19 qs refl e;
    }

pub file-passes : (s : List ℕ) → FileSound s → first_no (file_questions s) ≡ passed
file-passes s f =
    simp (le-leb _ _ f.long, f.edition_known, eq-eqb _ _ f.spare_is)
    (after-gate (header_questions (header_of s) (risk_count s)) (end_questions s) (header-passes (header_of s) (risk_count s) f.header)
    ∙ simp (eq-eqb _ _ f.ends, eq-eqb _ _ f.fill, f.each_opens))

-- of a file that passes 1 to 10
pub record LossSound (s : List ℕ) : Type 0 where
  pub file : FileSound s
  -- 10
  pub some : 1 ≤ SA (losses_in s)

pub loss-sound : (s : List ℕ) → first_no (loss_questions s) ≡ passed → LossSound s
loss-sound s e = record {
  file = file-sound s (passed-both (file_questions s) (question10 (losses_in s) ∷ []) e).0;
  some = leb-true _ _ (yes-to 10 (loss_questions s) refl e);
}

-- of a group that passes 12
pub record BalanceSound (h : Header) (rs : List Losses) : Type 0 where
  -- 12
  pub not_negative : non_neg (basic_premium h rs) ≡ true

pub balance-sound : (h : Header) (rs : List Losses) → first_no (balance_questions h rs) ≡ passed → BalanceSound h rs
balance-sound h rs e = record { not_negative = yes-to 12 (balance_questions h rs) refl e }

-- of a file that passes 1 to 12
pub record RatingSound (s : List ℕ) : Type 0 where
  pub losses : LossSound s
  pub balance : BalanceSound (header_of s) (losses_in s)

pub rating-sound : (s : List ℕ) → first_no (rating_questions s) ≡ passed → RatingSound s
rating-sound s e =
    let p = passed-both (loss_questions s) (balance_questions (header_of s) (losses_in s)) e in
    record { losses = loss-sound s p.0; balance = balance-sound (header_of s) (losses_in s) p.1 }
