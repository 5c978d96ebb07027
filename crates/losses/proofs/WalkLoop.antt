-- The loop of the walk, over the risks. After k risks the running sums are those over the first k, and the losses kept are theirs. Each
-- law takes one risk more. Assumes nothing.
use Rattle.std.proofs.Common.{◌≡◌, sym, ap, ◌∙◌, arith, true, List, [], ◌∷◌, ◌++◌, ℕ, ◌+◌, ◌-◌, length, drop, replicate}
use Rattle.std.proofs.lemmas.List.{map-append, length-map, drop-drop, drop-replicate}
use Rattle.plan.specs.Sizes.{most_risks}
use Rattle.plan.specs.Header.{header_bits}
use Rattle.plan.specs.Losses.{losses_from}
use Rattle.laws.proofs.Losses.{losses-so-far, length-losses-from}
use Rattle.group.specs.Entries.{behind}
use Rattle.group.specs.Values.{losses_of}
use Rattle.group.specs.declared.Losses.{Losses}
use Rattle.losses.specs.RunningSums.{SumsAre, RiskPassed}
use Rattle.losses.specs.declared.risks.SumsSoFar.{SumsSoFar}
use Rattle.losses.specs.declared.risks.PassedRisk.{PassedRisk}

-- the sums over no risks
pub sums-start : (s : List ℕ) (limit : ℕ) {r : SumsSoFar} → r.risks ≡ 0 → r.claims ≡ 0 → r.each_opens ≡ true → r.total ≡ 0
    → r.limited ≡ 0 → r.next.at ≡ header_bits → SumsAre s limit 0 r
sums-start s limit n c o l a p = record { risks = n; claims = c; each_opens = o; total = l; limited = a; next = p }

-- as many losses are kept as risks are passed
pub kept-length : (s : List ℕ) (limit : ℕ) {k : ℕ} (xs : List Losses) → losses_of xs ≡ losses_from s limit header_bits k
    → length xs ≡ k
kept-length s limit {k} xs e = sym (length-map xs _) ∙ ap length e ∙ length-losses-from s limit header_bits k

-- with a risk passed its losses are kept too
pub kept_more : {s : List ℕ} {limit k : ℕ} (xs : List Losses) {ys : List Losses} {r : PassedRisk} → losses_of xs ≡ losses_from s limit header_bits k
    → RiskPassed s limit k r → ys ≡ xs ++ r.losses ∷ []
    → losses_of ys ≡ losses_from s limit header_bits (k + 1)
kept_more {s} {limit} {k} xs {ys} {r} e x is =
    ap losses_of is
    ∙ map-append _ xs _
    ∙ (λ i. e i ++ record { total = x.total i; limited = x.limited i } ∷ [])
    ∙ sym (losses-so-far s limit header_bits k)

-- and the entries behind it have 0, as before
pub behind_more : (k : ℕ) (xs : List Losses) → drop k xs ≡ behind k → drop (k + 1) xs ≡ behind (k + 1)
behind_more k xs e =
    sym (drop-drop 1 k xs)
    ∙ ap (drop 1) e
    ∙ drop-replicate 1 (most_risks - k) _
    ∙ ap (λ (n : ℕ). replicate n (record { total = 0; limited = 0 })) (omega arith)
