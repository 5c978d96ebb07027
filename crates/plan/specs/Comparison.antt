-- Document 02, job 1: the call that sets guaranteed cost beside the retro premium. 'A new call takes the schedule beside what
-- Rate takes. Beside Rate's results it gives the discount, guaranteed cost, for each risk billed minus guaranteed cost, which
-- may be negative, and their sum. Rate itself stays.'
use Rattle.std.specs.Prelude.{◌≡◌, Bool, ◌&&◌, List, [], ◌∷◌, ◌++◌, map, ℕ, ◌+◌, ◌*◌, ◌≤◌, leb, ℤ, pos, negsuc, ◌-ℤ◌, ◌≤ℤ◌, ◌<ℤ◌, length, take}
use Rattle.plan.specs.Arithmetic.{sum_z}
use Rattle.plan.specs.Header.{Header, header_of, risk_count}
use Rattle.plan.specs.Losses.{Losses, losses_in}
use Rattle.plan.specs.Premium.{billed_premiums}
use Rattle.plan.specs.Demand3.{numbers_in}
use Rattle.plan.specs.Questions.{Question, ask, rating_questions, rate_enough, question13}
use Rattle.plan.specs.Call.{Call, Answer, given, answer_of, LentBuffer, buffer, signed_buffer}
use Rattle.plan.specs.Calls.{Rated, rated_of, rate, premium_bytes}
use Rattle.plan.specs.Discount.{Layer, discount, guaranteed_cost, rates_pass, widths_pass}

-- ---- the questions

-- 'Errors: 16 a rate above 1,000'
abbrev pub question16 : List Layer → Question
question16 ls = ask 16 (rates_pass ls)

-- 'then 17 one of the first three widths is 0'
abbrev pub question17 : List Layer → Question
question17 ls = ask 17 (widths_pass ls)

-- 16 and 17
abbrev pub schedule_questions : List Layer → List Question
schedule_questions ls = question16 ls ∷ question17 ls ∷ []

-- 'fills the first entries of a lent buffer of its own': Rate's 4 × n bytes, and n differences, are enough
abbrev pub compare_enough : List ℕ → ℕ → ℕ → Bool
compare_enough s premiums_room differences_room = rate_enough s premiums_room && leb (risk_count s) differences_room

-- 'both after 13, which ends Rate's questions as they then stand'
abbrev pub compare_questions : List ℕ → List Layer → ℕ → ℕ → List Question
compare_questions s ls premiums_room differences_room =
    rating_questions s ++ question13 (compare_enough s premiums_room differences_room) ∷ schedule_questions ls

-- ---- the results

-- 'for each risk billed minus guaranteed cost, which may be negative'
abbrev pub differences_of : ℕ → List ℕ → List ℤ
differences_of cost bills = map (λ bill. pos bill -ℤ pos cost) bills

pub record Comparison : Type 0 where
  -- 'Beside Rate's results'
  pub rated : Rated
  -- of the standard premium
  pub discount : ℕ
  -- guaranteed cost, the same for each risk
  pub guaranteed : ℕ
  -- in file order
  pub differences : List ℤ
  -- 'and their sum'
  pub difference : ℤ

unfoldable pub comparison_of : List Layer → Header → List Losses → Comparison
comparison_of ls h rs =
    let cost = guaranteed_cost ls h.standard_premium in
    let differences = differences_of cost (billed_premiums h rs) in
    record {
      rated = rated_of h rs;
      discount = discount ls h.standard_premium;
      guaranteed = cost;
      differences = differences;
      difference = sum_z (λ z. z) differences;
    }

unfoldable pub compare_call : List ℕ → List Layer → ℕ → ℕ → Call Comparison
compare_call s ls premiums_room differences_room = record {
  questions = compare_questions s ls premiums_room differences_room;
  result = comparison_of ls (header_of s) (losses_in s);
}

abbrev pub compare : List ℕ → List Layer → ℕ → ℕ → Answer Comparison
compare s ls premiums_room differences_room = answer_of (compare_call s ls premiums_room differences_room)

-- its two buffers: 'A list of numbers .. fills the first entries of a lent buffer of its own, risks in file order; later entries keep their
-- contents.'
abbrev pub compare_buffers : List ℕ → List ℤ → List ℕ → List ℤ → List (LentBuffer Comparison)
compare_buffers old_premiums old_differences premiums differences =
    buffer (λ c. premium_bytes c.rated) old_premiums premiums
    ∷ signed_buffer (λ c. c.differences) old_differences differences
    ∷ []

-- ---- what holds of a call that is not refused

-- the numbers that it gives: n, M, Q, the sum billed, the discount, guaranteed cost and the sum of the differences
pub record NumbersGiven : Type 0 where
  pub risks : ℕ
  pub basic : ℤ
  pub excess : ℕ
  pub billed : ℕ
  pub discount : ℕ
  pub guaranteed : ℕ
  pub difference : ℤ

abbrev pub numbers_of : Comparison → NumbersGiven
numbers_of c = record {
  risks = c.rated.risks;
  basic = c.rated.basic;
  excess = c.rated.excess;
  billed = c.rated.billed;
  discount = c.discount;
  guaranteed = c.guaranteed;
  difference = c.difference;
}

-- numbers of which each is from −4,194,303 to below 2 ^ 31
abbrev pub Sized : List ℤ → Type 0
Sized [] = Unit {0}
Sized (z ∷ zs) = (negsuc 4194302 ≤ℤ z) × (z <ℤ pos 2147483648) × Sized zs

-- of the file s, the numbers given, and the bytes t and the differences u in the two buffers after the call
pub record Beside (s : List ℕ) (f : NumbersGiven) (t : List ℕ) (u : List ℤ) : Type 0 where
  -- the discount is at most P, and guaranteed cost is P less it
  pub discount_most : f.discount ≤ (header_of s).standard_premium
  pub less_discount : f.guaranteed + f.discount ≡ (header_of s).standard_premium
  -- each risk's number in the one buffer less guaranteed cost is its number in the other
  pub differences_are : take (risk_count s) u ≡ differences_of f.guaranteed (numbers_in t (risk_count s))
  -- the sizes of the differences, and of their sum, which is at most of 255
  pub sized : Sized (take (risk_count s) u)
  pub sum_least : negsuc 1069547264 ≤ℤ f.difference
  pub sum_most : f.difference <ℤ pos 547608330240
  -- 'and their sum'
  pub summed : f.difference ≡ sum_z (λ z. z) (take (risk_count s) u)
  -- the sum of the differences is the sum billed − n × guaranteed cost
  pub billed_less_cost : f.difference ≡ pos f.billed -ℤ pos (f.risks * f.guaranteed)
  -- 'Beside Rate's results': Rate, with any buffer that is long enough, gives the same n, M, Q, sum and premiums on the file
  pub as_rated : (room : ℕ) → 4 * risk_count s ≤ room
      → rate s room
      ≡ given (record {
        risks = f.risks;
        basic = f.basic;
        excess = f.excess;
        billed = f.billed;
        premiums = numbers_in t (risk_count s);
      })
