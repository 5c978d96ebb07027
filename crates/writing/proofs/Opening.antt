-- Risks asked one after another whether they open, whatever the dollars: the risk at i is the first of
-- those left, and its bits are the first of the bits left.
use mathlib.Core.Path.{◌≡◌, sym, ap, ap₂, ◌∙◌}
use mathlib.Core.Bool.{Bool, ◌&&◌, and_assoc}
use mathlib.Core.List.{List, ◌∷◌}
use Prim.Native.Nat.{ℕ, ◌+◌, ◌≤◌, ◌<◌}
use native.Mathlib.Omega.{arith}
use lib.ListN.{length, get_or, take, drop, length-drop}
use lib.Seq.{length-take-le}
use Rattle.plan.specs.Arithmetic.{sum}
use Rattle.plan.specs.Claim.{Claim, claims_of}
use Rattle.plan.specs.Risk.{divided}
use Rattle.plan.specs.Accidents.{all_open}
use Rattle.laws.proofs.Rests.{rest_more}
use Rattle.laws.proofs.Claims.{take-claims-of, drop-claims-of}
use Rattle.writing.specs.Fitting.{OpensSays}

-- of the dollars of all claims, those of the claims left, whose bits are `rest`: the risks before i were found to open, and those left
-- do, where all do
pub record Left (counts joined : List ℕ) (all : Bool) (i : ℕ) (rest dollars : List ℕ) : Type 0 where
  pub left : List ℕ
  pub alike : length rest ≡ length left
  pub same :
      (all && all_open (divided (drop i counts) (claims_of rest left))) ≡ all_open (divided counts (claims_of joined dollars))

-- at the loop's head
pub record Opening (counts joined : List ℕ) (all : Bool) (i : ℕ) (rest : List ℕ) : Type 0 where
  pub enough : sum (drop i counts) ≤ length rest
  pub lefts : (dollars : List ℕ) → length joined ≡ length dollars → Left counts joined all i rest dollars

module _ {counts joined : List ℕ} {all : Bool} {i : ℕ} {rest : List ℕ} (g : Opening counts joined all i rest) where
  module _ (h : i < length counts) where
    -- there are as many bits
    there : get_or counts i 0 + sum (drop (i + 1) counts) ≤ length rest
    there = omega (arith, g.enough, ap sum (rest_more counts i h))

    asked : {r : Bool} → OpensSays (take (get_or counts i 0) rest) r
        → Opening counts joined (all && r) (i + 1) (drop (get_or counts i 0) rest)
    asked {r} x =
        let k : ℕ = get_or counts i 0 in
        record {
          enough = omega (arith, there, length-drop k rest);
          lefts = λ ds e.
              let w = g.lefts ds e in
              let later : Bool = all_open (divided (drop (i + 1) counts) (claims_of (drop k rest) (drop k w.left))) in
              record {
                left = drop k w.left;
                alike = omega (arith, w.alike, length-drop k rest, length-drop k w.left);
                same =
                    and_assoc all r later
                    ∙ ap (λ (b : Bool). all && (b && later))
                    (x (take k w.left) (length-take-le k rest (omega (arith, there))
                    ∙ sym (length-take-le k w.left (omega (arith, there, w.alike)))))
                    ∙ ap₂ (λ (a b : List Claim). all && all_open (a ∷ divided (drop (i + 1) counts) b))
                    (sym (take-claims-of k rest w.left)) (sym (drop-claims-of k rest w.left))
                    ∙ ap (λ (l : List ℕ). all && all_open (divided l (claims_of rest w.left))) (sym (rest_more counts i h))
                    ∙ w.same;
              };
        }

    -- its bits, of which there are k, are asked, and the bits after them are left
    pub goes_on : {k : ℕ} {own after : List ℕ} → k ≡ get_or counts i 0 → own ≡ take k rest → after ≡ drop k rest
        → {r : Bool} → OpensSays own r → Opening counts joined (all && r) (i + 1) after
    goes_on is front back x = rw (back, is) (asked (rw (front, is) at x))
