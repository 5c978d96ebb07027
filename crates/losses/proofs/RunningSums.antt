-- 'keep a running sum while the claims are read, and show that after each risk it is the sum of A so far.' Calls of `pass_risk`,
-- one after another from no risks on, each by its contract: after k of them the sums are those over the first k risks, for any k,
-- by induction on k. With a file's own loss limit and for any k up to its n these are SL and SA so far; after the last risk they
-- are SL and SA. The loop of `walk` makes such calls, and goes on by the same laws as the induction: its invariant is the sums
-- over the risks so far, and what it hands to `open`, and so to Rate, is the case k = n. Assumes nothing.
use mathlib.Core.Path.{◌≡◌, sym, ap, ◌∙◌, subst}
use mathlib.Core.List.{List}
use Prim.Native.Nat.{ℕ, zero, suc, ◌+◌, ◌≤◌, ◌<◌}
use native.Mathlib.Omega.{arith}
use Rattle.plan.specs.Sizes.{most_risks}
use Rattle.plan.specs.Header.{header_of, risk_count}
use Rattle.plan.specs.File.{end_of}
use Rattle.plan.specs.Losses.{SL, SA, losses_in, losses_so_far}
use Rattle.laws.proofs.FileSizes.{risks-le}
use Rattle.laws.proofs.Losses.{losses-are-so-far, all-so-far}
use Rattle.losses.specs.RunningSums.{SumsAre, NextRisk, RiskPassed}
use Rattle.losses.specs.declared.risks.SumsSoFar.{SumsSoFar}
use Rattle.losses.specs.declared.risks.PassedRisk.{PassedRisk}

-- ---- by the contract of `pass_risk`

module _ {s : List ℕ} {limit k : ℕ} {sums : SumsSoFar} (w : SumsAre s limit k sums) where
  -- the sums over the first k risks say k themselves
  pub own-sums : SumsAre s limit sums.risks sums
  own-sums = subst (λ (j : ℕ). SumsAre s limit j sums) (sym w.risks) w

  -- and are what passing the next risk asks for
  pub next-risk : k < most_risks → NextRisk s limit sums
  next-risk h = record { sums = own-sums; few = omega (arith, w.risks) }

  -- which gives risk k + 1 passed
  pub passed-next : {r : PassedRisk} → RiskPassed s limit sums.risks r → RiskPassed s limit k r
  passed-next {r} = subst (λ (j : ℕ). RiskPassed s limit j r) w.risks

-- the sums after k calls, of which call i gives passed i
abbrev pub sums_after : SumsSoFar → (ℕ → PassedRisk) → ℕ → SumsSoFar
sums_after start passed zero = start
sums_after start passed (suc k) = (passed k).sums

-- n calls, each made with the sums that the call before it gave, keep the contract
abbrev pub Calls : List ℕ → ℕ → SumsSoFar → (ℕ → PassedRisk) → ℕ → Type 0
Calls s limit start passed n =
    (i : ℕ) → i < n → let sums = sums_after start passed i in
    NextRisk s limit sums → RiskPassed s limit sums.risks (passed i)

module _ {s : List ℕ} {limit n : ℕ} {start : SumsSoFar} {passed : ℕ → PassedRisk} (none : SumsAre s limit 0 start)
    (calls : Calls s limit start passed n) (few : n ≤ most_risks) where
  pub sums-after : (k : ℕ) → k ≤ n → SumsAre s limit k (sums_after start passed k)
  sums-after zero h = none
  sums-after (suc k) h =
      let w = sums-after k (omega arith) in
      let more : k + 1 ≡ suc k = omega arith in
      subst (λ (j : ℕ). SumsAre s limit j (passed k).sums) more
      (passed-next w (calls k (omega arith) (next-risk w (omega (arith, few))))).sums

-- ---- as the sums so far of a file

-- the loss limit in a file's header
abbrev limit_of : List ℕ → ℕ
limit_of s = (header_of s).loss_limit

module _ {s : List ℕ} {k : ℕ} {r : SumsSoFar} (w : SumsAre s (limit_of s) k r) (h : k ≤ risk_count s) where
  -- the running sum is the sum of A so far
  pub limited-is-so-far : r.limited ≡ SA (losses_so_far s k)
  limited-is-so-far = w.limited ∙ ap SA (losses-are-so-far s k h)

  -- the same of L
  pub total-is-so-far : r.total ≡ SL (losses_so_far s k)
  total-is-so-far = w.total ∙ ap SL (losses-are-so-far s k h)

-- after the last risk they are SA and SL, and the next place is the file's end
module _ {s : List ℕ} {r : SumsSoFar} (w : SumsAre s (limit_of s) (risk_count s) r) where
  pub limited-is-all : r.limited ≡ SA (losses_in s)
  limited-is-all = limited-is-so-far w (omega arith) ∙ ap SA (all-so-far s)

  pub total-is-all : r.total ≡ SL (losses_in s)
  total-is-all = total-is-so-far w (omega arith) ∙ ap SL (all-so-far s)

  pub next-is-end : r.next.at ≡ end_of s
  next-is-end = w.next

-- ---- both: the calls on a file, from its first risk to its last

module _ (s : List ℕ) {start : SumsSoFar} {passed : ℕ → PassedRisk} (none : SumsAre s (limit_of s) 0 start)
    (calls : Calls s (limit_of s) start passed (risk_count s)) where
  pub after-each-risk : (k : ℕ) → k ≤ risk_count s
      → ((sums_after start passed k).limited ≡ SA (losses_so_far s k)) × ((sums_after start passed k).total ≡ SL (losses_so_far s k))
  after-each-risk k h =
      let w = sums-after none calls (risks-le s) k h in (limited-is-so-far w h, total-is-so-far w h)

  pub after-the-last-risk : ((sums_after start passed (risk_count s)).limited ≡ SA (losses_in s))
      × ((sums_after start passed (risk_count s)).total ≡ SL (losses_in s))
      × ((sums_after start passed (risk_count s)).next.at ≡ end_of s)
  after-the-last-risk =
      let w = sums-after none calls (risks-le s) (risk_count s) (omega arith) in (limited-is-all w, total-is-all w, next-is-end w)
