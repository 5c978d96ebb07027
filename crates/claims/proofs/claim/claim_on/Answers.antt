-- Both fields are taken as one.
use Rattle.std.proofs.Common.{arith}
use native.Mathlib.Nat.{lt_of_lt_of_le}
use lib.Pow.{pow_mono}
use Rattle.claims.proofs.Taking.{claim-by}
use Rattle.claims.proofs.claim.claim_on.Goals as goal

pub overflow_cast-result : goal.overflow_cast-result
overflow_cast-result c = record { fits = lt_of_lt_of_le c.take-taken.ensures.fits (pow_mono {j = 32} (omega (arith, c.requires.0))) }

pub returns : goal.returns
returns c =
    let a = c.args in
    let x = c.take-taken.ensures in
    record {
      place = x.place;
      fits = x.fits;
      first = λ i. record { number = x.highest i };
      others = x.others;
      is = λ s left e h f. claim-by s e a.front.place.at (record { number = c.take-taken.result.value }) (x.is s left h f);
      rest = λ s left h f. x.rest s left h f;
    }
