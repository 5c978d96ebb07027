-- The loop over the counts alone. After k risks the claims counted are those of the first k, and the place is where these end. The
-- law takes one risk more. Assumes nothing.
use mathlib.Core.Path.{◌≡◌, sym, ap, ap₂, ◌∙◌}
use mathlib.Core.Bool.{Bool, ◌&&◌}
use mathlib.Core.List.{List, [], ◌∷◌}
use Prim.Native.Nat.{ℕ, ◌+◌, ◌*◌, ◌≤◌}
use native.Mathlib.Omega.{arith}
use Rattle.plan.specs.Arithmetic.{sum}
use Rattle.plan.specs.Sizes.{most_claims, most_risk_bits}
use Rattle.plan.specs.Header.{edition_of, header_bits}
use Rattle.plan.specs.Claim.{claim_width}
use Rattle.plan.specs.Risk.{count_at, first_claim, claims_at, past_risk, counts_from, risks_from, past_risks}
use Rattle.plan.specs.Accidents.{opens, all_open}
use Rattle.laws.proofs.Sums.{sum-append}
use Rattle.laws.proofs.Claims.{past-claims}
use Rattle.laws.proofs.Risks.{counts-le, counts-more, risks-more, past-risks-le, past-risks-more}
use Rattle.laws.proofs.Accidents.{all-open-more}
use Rattle.group.specs.Edition.{edition_number, LieAs}
use Rattle.group.specs.declared.edition.Edition.{Edition}
use Rattle.claims.proofs.Taking.{width-like}
use Rattle.claims.specs.Counts.{HeadIs}
use Rattle.claims.specs.declared.counts.RiskHead.{RiskHead}

-- the first k + 1 counts add to what the first k add to, and the next
pub counts-sum : (s : List ℕ) (k : ℕ)
    → sum (counts_from s header_bits (k + 1)) ≡ sum (counts_from s header_bits k) + count_at s (past_risks s header_bits k)
counts-sum s k =
    ap sum (counts-more s header_bits k)
    ∙ sum-append (λ x. x) (counts_from s header_bits k) (count_at s (past_risks s header_bits k) ∷ [])
    ∙ omega arith

-- the first k + 1 risks open an accident each where the first k do and the next
pub open-sum : (s : List ℕ) (k : ℕ)
    → all_open (risks_from s header_bits (k + 1)) ≡ (all_open (risks_from s header_bits k) && opens (claims_at s (past_risks s header_bits k)))
open-sum s k =
    ap all_open (risks-more s header_bits k) ∙ all-open-more (risks_from s header_bits k) (claims_at s (past_risks s header_bits k))

-- after k risks: the claims counted, whether each risk's first opens an accident, and the place of the next risk
pub record Counting (s : List ℕ) (k p claims : ℕ) (each_opens : Bool) : Type 0 where
  pub place : p ≡ past_risks s header_bits k
  pub claims_are : claims ≡ sum (counts_from s header_bits k)
  pub each_opens_are : each_opens ≡ all_open (risks_from s header_bits k)

module _ {s : List ℕ} {k p claims : ℕ} {each_opens : Bool} (w : Counting s k p claims each_opens) where
  pub counting-place : p ≤ header_bits + most_risk_bits * k
  counting-place = omega (arith, w.place, past-risks-le s header_bits k)

  pub counting-most : claims ≤ most_claims * k
  counting-most = omega (arith, w.claims_are, counts-le s header_bits k)

  -- one count more, as the code has it: taken at p, the first of as many claims looked at, and the place after them
  pub counting_more : (edition : Edition) {t : RiskHead} {q : ℕ} → HeadIs s p t → LieAs s edition
      → q ≡ t.claims.first.at + claim_width (edition_number edition) * t.claims.count → Counting s (k + 1) q (claims + t.claims.count) (each_opens && t.first_opens)
  counting_more edition {t} {q} x same e =
      let end : q ≡ past_risk s p =
      e
      ∙ ap (λ (w : ℕ). t.claims.first.at + w * t.claims.count) (width-like s edition same)
      ∙ ap₂ (λ (a n : ℕ). a + claim_width (edition_of s) * n) x.first x.count
      ∙ sym (past-claims s (first_claim p) (count_at s p)) in
      record {
        place = end ∙ ap (past_risk s) w.place ∙ sym (past-risks-more s header_bits k);
        claims_are = ap₂ ◌+◌ w.claims_are (x.count ∙ ap (count_at s) w.place) ∙ sym (counts-sum s k);
        each_opens_are = ap₂ ◌&&◌ w.each_opens_are (x.first_opens ∙ ap (λ (a : ℕ). opens (claims_at s a)) w.place) ∙ sym (open-sum s k);
      }
