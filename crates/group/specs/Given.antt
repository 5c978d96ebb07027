-- The values that a caller gives to Write, as document 01's group.
use Rattle.std.specs.Prelude.{List, ℕ}
use Rattle.plan.specs.File.{Group}
use Rattle.group.specs.Values.{header_is}
use Rattle.group.specs.Edition.{edition_number}
use Rattle.group.specs.declared.Header as declared_header
use Rattle.group.specs.declared.given.GroupValues.{GroupValues}

-- the values that a caller hands to Write
abbrev pub given_group : ℕ → declared_header.Header → List ℕ → List ℕ → List ℕ → Group
given_group edition h counts claims joined = record {
  edition = edition;
  header = header_is h;
  counts = counts;
  claims = claims;
  joined = joined;
}

-- the same given as one value, whose edition is a known one
abbrev pub group_is : GroupValues → Group
group_is v = given_group (edition_number v.edition) v.header v.counts.now v.claims.now v.joined.now
