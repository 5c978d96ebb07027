-- Document 02, job 6: plans sold on premiums. 'Most offices choose maximum and minimum premium G and H in whole dollars of 32 bits.'
-- The bounds are on the premium and not on the losses, so the basic premium is found by trials. 'Demand 3's equality is for plans with
-- loss marks', and nothing here changes it.
use Rattle.std.specs.Prelude.{◌≡◌, Bool, cond, List, [], ◌∷◌, ◌++◌, ℕ, zero, suc, ◌+◌, ◌-◌, ◌*◌, ◌/◌, ◌^◌, ◌≤◌, ◌<◌, min, leb, eqb, ℤ, pos, negsuc, nat_abs, ◌+ℤ◌, ◌-ℤ◌}
use Rattle.plan.specs.Arithmetic.{sum_of}
use Rattle.plan.specs.Sizes.{premium_scale}
use Rattle.plan.specs.Header.{header_of, risk_count}
use Rattle.plan.specs.Losses.{losses_in}
use Rattle.plan.specs.Ratable.{clamp}
use Rattle.plan.specs.Basic.{excess_charge}
use Rattle.plan.specs.Demand3.{taxed_expenses_and_losses}
use Rattle.plan.specs.Questions.{Question, ask, passed, first_no, loss_questions}
use Rattle.plan.specs.Call.{Call, Answer, answer_of}

-- ---- the premiums of a basic of B whole dollars

-- what the premiums of a plan share
pub record PlanTerms : Type 0 where
  -- n
  pub risks : ℕ
  -- c
  pub conversion : ℕ
  -- T
  pub tax : ℕ
  -- Q
  pub excess : ℕ
  -- G
  pub maximum : ℕ
  -- H
  pub minimum : ℕ

module _ (t : PlanTerms) where
  -- 'For a basic of B whole dollars the unrounded premium is T × (1,000 × n × B + Q + n × c × A) ÷ (10,000,000 × n)': of B and A, times
  -- 10,000,000 × n. It is step 6's with 1,000 × n × B for M, and A for K
  abbrev pub premium_of : ℕ → ℕ → ℕ
  premium_of b a = t.tax * (1000 * t.risks * b + t.excess + t.risks * t.conversion * a)

  -- 'held between H and G': the bounds are whole dollars of the taxed premium, so they are times 10,000,000 × n as it is
  abbrev pub held_premium : ℕ → ℕ → ℕ
  held_premium b a =
      clamp (premium_scale * t.risks * t.minimum) (premium_scale * t.risks * t.maximum) (premium_of b a)

-- of a file, G and H
module _ (s : List ℕ) (g h : ℕ) where
  abbrev pub plan_terms_of : PlanTerms
  plan_terms_of = record {
    risks = risk_count s;
    conversion = (header_of s).conversion;
    tax = (header_of s).tax;
    excess = excess_charge (header_of s) (losses_in s);
    maximum = g;
    minimum = h;
  }

  -- what the premiums of a basic of B whole dollars total, times 10,000,000 × n
  unfoldable pub premiums_at : ℕ → ℕ
  premiums_at b = sum_of (λ r. held_premium plan_terms_of b r.limited) (losses_in s)

  -- 'whose premiums total at least the taxed expenses and losses'
  abbrev pub reaches : ℕ → Bool
  reaches b = leb (taxed_expenses_and_losses s) (premiums_at b)

-- ---- the trials, of any test of a basic of B whole dollars

-- 'from 0 to 1,048,575'
abbrev pub most_basic : ℕ
most_basic = 1048575

-- 'Twenty trials always finish': from 1,048,575 down to −1 it is 2 ^ 20
abbrev pub most_trials : ℕ
most_trials = 20

-- 'the result has the trials made, the best B yet that reaches the total, and the largest B known to fall short, −1 if none'
pub record Plan : Type 0 where
  pub made : ℕ
  pub best : ℕ
  pub short : ℤ

-- 'before any trial the result is 1,048,575 and −1'
abbrev pub untried : Plan
untried = record { made = 0; best = most_basic; short = negsuc 0 }

-- 'their distance': short is always below best
abbrev pub distance : Plan → ℕ
distance p = nat_abs (pos p.best -ℤ p.short)

-- 'at the middle': (best + short) ÷ 2, which is exact and not negative as long as a trial is made (`Halvings.exact-middle`)
abbrev pub middle : Plan → ℕ
middle p = nat_abs (pos p.best +ℤ p.short) / 2

module _ (test : ℕ → Bool) where
  -- a trial at the middle, which becomes best if it reaches and short if not
  abbrev pub halved : Plan → Plan
  halved p =
      let b = middle p in
      cond (test b) (record { made = p.made + 1; best = b; short = p.short })
      (record { made = p.made + 1; best = p.best; short = pos b })

  -- 'Each trial given is made at the middle and halves their distance, until it is 1, and then no more are made.'
  abbrev pub tried : Plan → Plan
  tried p = cond (eqb (distance p) 1) p (halved p)

  -- 'A number of trials is given'
  unfoldable pub halvings : ℕ → Plan
  halvings zero = untried
  halvings (suc k) = tried (halvings k)

-- ---- the call

-- 'Errors: 22 H above G'
abbrev pub question22 : ℕ → ℕ → Question
question22 g h = ask 22 (leb h g)

-- 'then 23 no B in the range reaches the total': 'Whether 1,048,575 reaches the total is looked at first and is no trial'. Where it does
-- not, no B in the range does (`PremiumTotals.none-reaches`)
abbrev pub question23 : List ℕ → ℕ → ℕ → Question
question23 s g h = ask 23 (reaches s g h most_basic)

-- 'Questions 1 to 10 come first, with 18 and 19 in their places; the file's marks are not used further', then 22
abbrev pub bound_questions : List ℕ → ℕ → ℕ → List Question
bound_questions s g h = loss_questions s ++ question22 g h ∷ []

abbrev pub plan_questions : List ℕ → ℕ → ℕ → List Question
plan_questions s g h = bound_questions s g h ++ question23 s g h ∷ []

-- the file, G, H and the number of trials
unfoldable pub plan_call : List ℕ → ℕ → ℕ → ℕ → Call Plan
plan_call s g h trials = record { questions = plan_questions s g h; result = halvings (reaches s g h) trials }

abbrev pub plan_for : List ℕ → ℕ → ℕ → ℕ → Answer Plan
plan_for s g h trials = answer_of (plan_call s g h trials)

-- ---- what holds of a call, of the trials made, the best and the short that it gives

-- 'until it is 1'
abbrev pub Finished : ℕ → ℤ → Type 0
Finished best short = pos best -ℤ short ≡ pos 1

-- 'the largest B known to fall short, −1 if none'
abbrev pub FallsShort : List ℕ → ℕ → ℕ → ℤ → Type 0
FallsShort s g h (pos b) = premiums_at s g h b < taxed_expenses_and_losses s
FallsShort s g h (negsuc zero) = Unit {0}
FallsShort s g h (negsuc (suc k)) = ⊥

-- of a call that is not refused
pub record Sold (s : List ℕ) (g h trials made best : ℕ) (short : ℤ) : Type 0 where
  pub in_range : best ≤ most_basic
  -- 'the best B yet that reaches the total'
  pub best_reaches : taxed_expenses_and_losses s ≤ premiums_at s g h best
  pub short_falls : FallsShort s g h short
  -- 'Each trial given .. halves their distance, until it is 1'; no more than 20 are made, so 20 − made cannot cut off
  pub made_is : made ≡ min most_trials trials
  pub distance_is : pos best -ℤ short ≡ pos (2 ^ (most_trials - made))
  -- 'Twenty trials always finish.'
  pub finishes : most_trials ≤ trials → Finished best short
  -- the total never falls as B grows
  pub never_falls : (a b : ℕ) → a ≤ b → premiums_at s g h a ≤ premiums_at s g h b
  -- 'Find the least B': in a finished plan every B below falls short
  pub least : Finished best short → (b : ℕ) → b < best → premiums_at s g h b < taxed_expenses_and_losses s
  -- 'In a finished plan with B above 0 the total is over by at most n × T ÷ 10,000 dollars'
  pub over_by : Finished best short → 0 < best
      → premiums_at s g h best ≤ taxed_expenses_and_losses s + 1000 * risk_count s * risk_count s * (header_of s).tax

-- of a call that is refused by k: it is 23 exactly where 1 to 10 and 22 pass, and then no B in the range reaches
pub record Unsold (s : List ℕ) (g h k : ℕ) : Type 0 where
  pub passed_before : k ≡ 23 → first_no (bound_questions s g h) ≡ passed
  pub only : first_no (bound_questions s g h) ≡ passed → k ≡ 23
  pub none : k ≡ 23 → (b : ℕ) → b ≤ most_basic → premiums_at s g h b < taxed_expenses_and_losses s
