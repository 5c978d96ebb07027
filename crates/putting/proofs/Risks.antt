-- Risks put one after another: the risk at i is the first of those left, and its claims are the first of
-- the claims left.
use mathlib.Core.Path.{◌≡◌, sym, ap, ap₂, ◌∙◌}
use mathlib.Core.List.{List, ◌∷◌, ◌++◌}
use Prim.Native.Nat.{ℕ, ◌+◌, ◌≤◌, ◌<◌}
use native.Mathlib.Omega.{arith}
use lib.ListN.{length, get_or, take, drop, length-drop}
use lib.Seq.{length-take-le}
use Rattle.plan.specs.Arithmetic.{sum}
use Rattle.plan.specs.Field.{slot}
use Rattle.plan.specs.Claim.{Claim, slots_of_claims}
use Rattle.plan.specs.Risk.{count_width, slots_of_risks}
use Rattle.bits.specs.Runs.{Wrote}
use Rattle.group.specs.Edition.{edition_number}
use Rattle.putting.specs.Claims.{claims_are}
use Rattle.putting.specs.declared.given.GivenClaims.{GivenClaims}
use Rattle.putting.specs.Putting.{slots_of_risk}
use Rattle.laws.proofs.Rests.{rest_more}
use Rattle.bits.proofs.Laws.{Putting, putting-as, putting-run}
use Rattle.putting.proofs.Claims.{length-are}

-- at the loop's head: the risks from i on are left to be put, with the claims that are left, which are of the edition
pub record Risks (s : List ℕ) (at edition : ℕ) (counts : List ℕ) (claims : List Claim) (t : List ℕ) (q i : ℕ) (left : GivenClaims) : Type 0 where
  pub same_edition : edition_number left.edition ≡ edition
  pub enough : sum (drop i counts) ≤ length left.dollars.now
  pub putting :
      Putting s at (slots_of_risks edition counts claims) t q (slots_of_risks edition (drop i counts) (claims_are left))

module _ {s : List ℕ} {at edition : ℕ} {counts : List ℕ} {claims : List Claim} {t : List ℕ} {q i : ℕ} {left : GivenClaims}
    (g : Risks s at edition counts claims t q i left) (h : i < length counts)
    -- as many claims as the risk's count says are cut off those left
    {k : ℕ} (own later : GivenClaims) (is : k ≡ get_or counts i 0) (front : claims_are own ≡ take k (claims_are left))
    (back : claims_are later ≡ drop k (claims_are left))
    (same : (own.edition ≡ left.edition) × (later.edition ≡ left.edition)) where
  there : k + sum (drop (i + 1) counts) ≤ length (claims_are left)
  there = omega (arith, is, g.enough, ap sum (rest_more counts i h), length-are left)

  counted : k ≡ length own.dollars.now
  counted = sym (sym (length-are own) ∙ ap length front ∙ length-take-le k (claims_are left) (omega (arith, there)))

  -- the risk at i is the first of those left
  pub next : Putting s at (slots_of_risks edition counts claims) t q
      (slots_of_risk own ++ slots_of_risks edition (drop (i + 1) counts) (claims_are later))
  next =
      let ks : List ℕ = drop (i + 1) counts in
      let cs : List Claim = claims_are left in
      putting-as g.putting
      (ap (λ (l : List ℕ). slots_of_risks edition l cs) (rest_more counts i h ∙ ap (λ (n : ℕ). n ∷ ks) (sym is))
      ∙ ap₂ (λ (n : ℕ) (l : List Claim). slot count_width n ∷ (slots_of_claims edition l ++ slots_of_risks edition ks (drop k cs)))
      counted (sym front)
      ∙ ap₂ (λ (n : ℕ) (l : List Claim).
      slot count_width (length own.dollars.now) ∷ (slots_of_claims n (claims_are own) ++ slots_of_risks edition ks l))
      (sym (ap edition_number same.0 ∙ g.same_edition)) (sym back))

  pub goes_on : {u : List ℕ} {r : ℕ} → Wrote t q (slots_of_risk own) u r
      → Risks s at edition counts claims u r (i + 1) later
  goes_on x = record {
    same_edition = ap edition_number same.1 ∙ g.same_edition;
    enough = omega (arith, there, length-are later, ap length back, length-drop k (claims_are left));
    putting = putting-run _ _ next x;
  }
