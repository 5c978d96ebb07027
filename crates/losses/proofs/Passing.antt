-- A risk passed: with the risk after the first k the running sums are those over the first k + 1. Assumes nothing.
use mathlib.Core.Path.{◌≡◌, sym, ap, ap₂, ◌∙◌}
use mathlib.Core.Bool.{◌&&◌}
use mathlib.Core.List.{List}
use Prim.Native.Nat.{ℕ, ◌+◌, ◌*◌, ◌≤◌}
use native.Mathlib.Omega.{arith}
use Rattle.plan.specs.Sizes.{most_claims, most_risk_losses, most_risk_bits}
use Rattle.plan.specs.Header.{header_bits}
use Rattle.plan.specs.Risk.{count_at, claims_at, past_risk, risks_from, past_risks}
use Rattle.plan.specs.Accidents.{opens}
use Rattle.plan.specs.Losses.{total_of, limited_of}
use Rattle.laws.proofs.Risks.{count-le, past-risks-more}
use Rattle.laws.proofs.Losses.{limited-total, SA≤SL, risk-total-le, SL-so-far, SA-so-far, SL-le}
use Rattle.bits.specs.declared.BitPlace.{BitPlace}
use Rattle.claims.proofs.Laws.{Counting, counts-sum, open-sum, counting-place, counting-most}
use Rattle.losses.specs.Risk.{RiskIs}
use Rattle.losses.specs.RunningSums.{SumsAre, RiskPassed}
use Rattle.losses.specs.declared.risks.Risk.{Risk}
use Rattle.losses.specs.declared.risks.SumsSoFar.{SumsSoFar}

-- what a risk's numbers are at most
pub record RiskMost (r : Risk) : Type 0 where
  pub count : r.count ≤ most_claims
  pub total : r.losses.total ≤ most_risk_losses
  pub limited : r.losses.limited ≤ r.losses.total

pub risk-most : {s : List ℕ} {p limit : ℕ} {r : Risk} → RiskIs s p limit r → RiskMost r
risk-most {s} {p} {limit} {r} x = record {
  count = omega (arith, x.count, count-le s p);
  total = omega (arith, x.total, risk-total-le s p);
  limited = omega (arith, x.total, x.limited, limited-total limit (claims_at s p));
}

module _ {s : List ℕ} {limit k : ℕ} {r : SumsSoFar} (w : SumsAre s limit k r) where
  -- their place and number of claims are those that the counts tell
  counted : Counting s k r.next.at r.claims r.each_opens
  counted = record { place = w.next; claims_are = w.claims; each_opens_are = w.each_opens }

  pub place-most : r.next.at ≤ header_bits + most_risk_bits * k
  place-most = counting-place counted

  pub claims-most : r.claims ≤ most_claims * k
  claims-most = counting-most counted

  pub total_most : r.total ≤ most_risk_losses * k
  total_most = omega (arith, w.total, SL-le s limit header_bits k)

  pub limited_most : r.limited ≤ r.total
  limited_most = omega (arith, w.total, w.limited, SA≤SL limit (risks_from s header_bits k))

  -- one risk more, as the code has it: taken where the first k end, and added to the sums
  pub risk-passed : {x : Risk} {q : SumsSoFar} → RiskIs s r.next.at limit x → q.risks ≡ k + 1
      → q.claims ≡ r.claims + x.count → q.each_opens ≡ (r.each_opens && x.first_opens) → q.total ≡ r.total + x.losses.total
      → q.limited ≡ r.limited + x.losses.limited → q.next ≡ x.next
      → RiskPassed s limit k (record { losses = x.losses; sums = q })
  risk-passed {x} {q} i n c o l a p =
      let own-total : x.losses.total ≡ total_of (claims_at s (past_risks s header_bits k)) =
      i.total ∙ ap (λ (p : ℕ). total_of (claims_at s p)) w.next in
      let own-limited : x.losses.limited ≡ limited_of limit (claims_at s (past_risks s header_bits k)) =
      i.limited ∙ ap (λ (p : ℕ). limited_of limit (claims_at s p)) w.next in
      record {
        total = own-total;
        limited = own-limited;
        sums = record {
          risks = n;
          claims = c ∙ ap₂ ◌+◌ w.claims (i.count ∙ ap (count_at s) w.next) ∙ sym (counts-sum s k);
          each_opens =
              o
              ∙ ap₂ ◌&&◌ w.each_opens (i.first_opens ∙ ap (λ (p : ℕ). opens (claims_at s p)) w.next)
              ∙ sym (open-sum s k);
          total = l ∙ ap₂ ◌+◌ w.total own-total ∙ sym (SL-so-far s limit header_bits k);
          limited = a ∙ ap₂ ◌+◌ w.limited own-limited ∙ sym (SA-so-far s limit header_bits k);
          next = ap (λ (b : BitPlace). b.at) p ∙ i.next ∙ ap (past_risk s) w.next ∙ sym (past-risks-more s header_bits k);
        };
      }
