-- What taking the header gives: each field of the file s.
use Rattle.std.specs.Prelude.{◌≡◌, List, ℕ}
use Rattle.plan.specs.Header.{header_of, header_bits, edition_of, risk_count, value_of, spare_field}
use Rattle.group.specs.Values.{header_is}
use Rattle.groupfile.specs.declared.header.FileHeader.{FileHeader}

pub record FileHeaderIs (s : List ℕ) (r : FileHeader) : Type 0 where
  pub edition : r.edition ≡ edition_of s
  pub values : header_is r.values ≡ header_of s
  pub risks : r.risks ≡ risk_count s
  pub spare : r.spare ≡ value_of s spare_field
  pub next : r.next.at ≡ header_bits
