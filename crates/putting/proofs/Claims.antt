-- Claims that are given are as many as their dollars.
use mathlib.Core.Path.{◌≡◌}
use lib.ListN.{length}
use Rattle.laws.proofs.Claims.{length-claims-of}
use Rattle.putting.specs.Claims.{claims_are}
use Rattle.putting.specs.declared.given.GivenClaims.{GivenClaims}

pub length-are : (g : GivenClaims) → length (claims_are g) ≡ length g.dollars.now
length-are g = length-claims-of g.joined.now g.dollars.now g.same
