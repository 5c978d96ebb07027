-- Where neither has its bit set both open an accident; else each is added as it is.
use Rattle.std.proofs.Common.{◌≡◌, refl, ap, ◌∙◌, ℕ, ◌/◌, ◌%◌, ◌^◌, arith, bit_and, rules}
use native.Mathlib.Nat.{zero-div}
use lib.Bits.{and_shr, and_mod, and_mask}
use Rattle.losses.proofs.Joining.{behind, added-by}
use Rattle.losses.proofs.accidents.AccidentSums.join_pair.Goals as goal

-- a bit of a word that has none of a mask's bits is 0 where the mask's is 1
clear : (n mask k : ℕ) → bit_and n mask ≡ 0 → mask / 2 ^ k % 2 ^ 1 ≡ 1 → n / 2 ^ k % 2 ^ 1 ≡ 0
clear n mask k e m =
    let x : ℕ = n / 2 ^ k % 2 ^ 1 in
    let same : bit_and n mask / 2 ^ k % 2 ^ 1 ≡ bit_and x 1 =
    ap (λ (y : ℕ). y % 2 ^ 1) (and_shr n mask k) ∙ and_mod (n / 2 ^ k) (mask / 2 ^ k) 1 ∙ ap (bit_and x) m in
    let one : bit_and x 1 ≡ x % 2 ^ 1 = and_mask x 1 in
    let none : bit_and n mask / 2 ^ k % 2 ^ 1 ≡ 0 = ap (λ (y : ℕ). y / 2 ^ k % 2 ^ 1) e ∙ ap (λ (y : ℕ). y % 2 ^ 1) (zero-div (2 ^ k)) in
    omega (arith, same, one, none)

pub open_pair-requires : goal.open_pair-requires
open_pair-requires c =
    let n = c.args.pair.bits in
    let none : bit_and n 9223376434901286912 ≡ 0 = search rules in (
      c.requires.0,
      c.requires.1,
      record { first = clear n 9223376434901286912 63 none refl; second = clear n 9223376434901286912 42 none refl },
    )

pub returns : goal.returns
returns c = record {
  between = c.join_claim-one.result;
  first = added-by c.claim_on-first.ensures.first c.join_claim-one.ensures;
  second = added-by (behind c.claim_on-first.ensures c.claim_on-second.ensures) c.join_claim.ensures;
}
