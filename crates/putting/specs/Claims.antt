-- The claims that are given, each with its bit.
use Rattle.std.specs.Prelude.{List}
use Rattle.plan.specs.Claim.{Claim, claims_of}
use Rattle.putting.specs.declared.given.GivenClaims.{GivenClaims}

abbrev pub claims_are : GivenClaims → List Claim
claims_are given = claims_of given.joined.now given.dollars.now
