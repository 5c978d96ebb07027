-- The header's two runs, the risks and the fill are put one after another, and the bytes are then the file's.
use Prim.Native.Nat.{ℕ, ◌<◌}
use native.Mathlib.Omega.{arith}
use borrow.Author.Rules.{rules}
use lib.ListN.{get_or}
use Rattle.bits.specs.Runs.{Wrote}
use Rattle.plan.specs.File.{file_slots}
use Rattle.group.specs.Given.{group_is}
use Rattle.putting.proofs.FileFields.{sound, small, first-space, last-space, after_last, fields-wrote}
use Rattle.putting.proofs.FileFields.{fill-starts, fill-small, fill-room, file-put}
use Rattle.putting.proofs.put_file.Goals as goal
use Rattle.putting.proofs.put_file.Goals.{After-put_risks-end}

pub invariant_of-claims : goal.invariant_of-claims
invariant_of-claims c = record { same = (sound c.requires).writable.bits }

pub put_first-first-requires : goal.put_first-first-requires
put_first-first-requires c = first-space c.requires

pub put_last-last-requires : goal.put_last-last-requires
put_last-last-requires c = last-space c.requires c.put_first-first.ensures

pub put_risks-end-requires-clause-space : goal.put_risks-end-requires-clause-space
put_risks-end-requires-clause-space c =
    (after_last c.requires c.put_first-first.ensures c.put_last-last.ensures).space

pub put_risks-end-requires-clause-counts_in_bounds : goal.put_risks-end-requires-clause-counts_in_bounds
put_risks-end-requires-clause-counts_in_bounds c = omega (arith, (sound c.requires).writable.adds)

-- all fields are put
fields-of : (c : After-put_risks-end)
    → Wrote c.args.out.now 0 (file_slots (group_is c.args.values.now)) c.put_risks-end.new.out c.put_risks-end.result.at
fields-of c = fields-wrote c.requires c.put_first-first.ensures c.put_last-last.ensures c.put_risks-end.ensures

pub overflow_mul-fill : goal.overflow_mul-fill
overflow_mul-fill c = record {
  fits = omega (arith, small c.requires, (fields-of (goal.at.overflow_mul-fill c).After-put_risks-end).same);
}

pub overflow_sub-fill : goal.overflow_sub-fill
overflow_sub-fill c = fill-starts c.requires (fields-of (goal.at.overflow_sub-fill c).After-put_risks-end)

pub overflow_cast-fill : goal.overflow_cast-fill
overflow_cast-fill c = record {
  fits = omega (arith, fill-small c.requires (fields-of (goal.at.overflow_cast-fill c).After-put_risks-end));
}

pub put-requires : goal.put-requires
put-requires c = fill-room c.requires (fields-of (goal.at.put-requires c).After-put_risks-end)

pub returns : goal.returns
returns c =
    let was : (i : ℕ) → get_or c.args.out.now i 0 < 256 = search rules in
    file-put c.requires (fields-of (goal.at.returns c).After-put_risks-end) was (λ i. (c.type_inv.out i).fits) c.put.ensures.put
