-- Read and Write undo each other, for either edition: the two contracts joined, from buffers with room to spare too. What Read put into
-- the first n counts and the first so many claims and bits, Write makes the same bytes of in the edition that Read gave; what Write made,
-- Read gives back; and two accepted files with the same values and edition are the same bytes. Each joins what the calls say by plan's
-- round trips. Assumes nothing.
use mathlib.Core.Path.{◌≡◌, sym, ap, ◌∙◌, subst}
use mathlib.Core.List.{List, [], ◌∷◌}
use Prim.Native.Nat.{ℕ, ◌≤◌}
use lib.ListN.{length, take}
use Rattle.plan.specs.Arithmetic.{sum}
use Rattle.plan.specs.File.{Group}
use Rattle.plan.specs.Questions.{file_questions, question13, read_enough}
use Rattle.plan.specs.Call.{given, giving, filled}
use Rattle.plan.specs.Calls.{read, write, read_call}
use Rattle.laws.proofs.Calls.{given-by, buffer-filled, Gave, giving-given}
use Rattle.laws.proofs.Fields.{Bytes}
use Rattle.laws.proofs.Questions.{passed-both, file-sound}
use Rattle.laws.proofs.Decoded.{Matching, own-matching}
use Rattle.laws.proofs.Filled.{first-filled}
use Rattle.laws.proofs.RoundTrip as round_trip
use Rattle.std.proofs.Common.{Result, Ok, Err}
use Rattle.group.specs.Refusals.{answer_is}
use Rattle.group.specs.Values.{header_is}
use Rattle.group.specs.declared.Refusal.{Refusal}
use Rattle.group.specs.declared.Header.{Header}
use Rattle.reading.specs.Reading.{ValuesGiven, values_given, read_is, Buffers, read_with, ReadSays}
use Rattle.reading.specs.declared.ReadValues.{ReadValues}
use Rattle.writing.specs.Writer.{given_group, WriteSays}

-- the answer that a length is of
length-given : (r : Result ℕ Refusal) {n : ℕ} → answer_is (λ m. m) r ≡ given n → r ≡ Ok n
length-given (Ok m) e = ap Ok (cc)
length-given (Err refusal) e = cc

-- ---- Write of what Read gave

module _ (s : List ℕ) (old new : Buffers) (v : ReadValues) (bytes : Bytes s) (was_read : ReadSays s old (Ok v) new) where
  gave : Gave values_given (read_with s old) (record { edition = v.edition; risks = v.risks; header = header_is v.header })
  gave = giving-given values_given (read_with s old) was_read.answer

  -- the group that was read
  abbrev group : Group
  group = gave.value

  first-counts : take v.risks new.counts ≡ group.counts
  first-counts =
      ap (take v.risks) (was_read.buffers_after.0 ∙ buffer-filled (λ (g : Group). g.counts) old.counts gave.is)
      ∙ first-filled group.counts old.counts (ap (λ (x : ValuesGiven). x.risks) (sym gave.part))

  matching : Matching group
  unfolding read_call
  matching =
      let p = given-by (read_call s (length old.counts) (length old.claims) (length old.joined)) gave.is in
      subst Matching p.1 (own-matching s)

  -- how many claims the counts add to
  abbrev many : ℕ
  many = sum (take v.risks new.counts)

  all-claims : many ≡ length group.claims
  all-claims = ap sum first-counts ∙ matching.adds

  first-claims : take many new.claims ≡ group.claims
  first-claims =
      ap (take many) (was_read.buffers_after.1.0 ∙ buffer-filled (λ (g : Group). g.claims) old.claims gave.is)
      ∙ first-filled group.claims old.claims all-claims

  first-joined : take many new.joined ≡ group.joined
  first-joined =
      ap (take many) (was_read.buffers_after.1.1.0 ∙ buffer-filled (λ (g : Group). g.joined) old.joined gave.is)
      ∙ first-filled group.joined old.joined (all-claims ∙ sym matching.bits)

  -- what a caller hands on to Write
  abbrev handed : Group
  handed = given_group v.edition v.header (take v.risks new.counts) (take many new.claims) (take many new.joined)

  -- 'Write of what Read gives yields the same bytes'
  pub read-then-write : (old_file new_file : List ℕ) (r : Result ℕ Refusal) → length s ≤ length old_file → WriteSays handed old_file r new_file
      → (r ≡ Ok (length s)) × (new_file ≡ filled s old_file)
  read-then-write old_file new_file r enough says =
      let same : handed ≡ group =
      λ i. record {
        edition = (ap (λ (x : ValuesGiven). x.edition) (sym gave.part)) i;
        header = (ap (λ (x : ValuesGiven). x.header) (sym gave.part)) i;
        counts = first-counts i;
        claims = first-claims i;
        joined = first-joined i;
      } in
      let written : write handed (length old_file) ≡ given s =
      ap (λ (g : Group). write g (length old_file)) same
      ∙ round_trip.read-write s (length old.counts) (length old.claims) (length old.joined) (length old_file) group bytes gave.is
      enough in (
        length-given r (says.answer ∙ ap (giving length) written),
        says.buffers_after.0 ∙ buffer-filled (λ (b : List ℕ). b) old_file written,
      )

-- ---- Read of what Write made

module _ (edition : ℕ) (h : Header) (counts claims joined old new : List ℕ) (n : ℕ)
    (was-written : WriteSays (given_group edition h counts claims joined) old (Ok n) new) where
  -- the values that were given
  abbrev values : Group
  values = given_group edition h counts claims joined

  made : Gave length (write values (length old)) n
  made = giving-given length (write values (length old)) was-written.answer

  -- the file is the first n bytes of the buffer
  file-is : take n new ≡ made.value
  file-is =
      ap (take n) (was-written.buffers_after.0 ∙ buffer-filled (λ (b : List ℕ). b) old made.is)
      ∙ first-filled made.value old (sym made.part)

  -- 'Read of the result gives those values back'
  pub write-then-read : (before after : Buffers) (r : Result ReadValues Refusal)
      → length counts ≤ length before.counts → length claims ≤ length before.claims → length claims ≤ length before.joined
      → ReadSays (take n new) before r after
      → (answer_is read_is r ≡ given (record { edition = edition; risks = length counts; header = header_is h }))
      × (after.counts ≡ filled counts before.counts) × (after.claims ≡ filled claims before.claims)
      × (after.joined ≡ filled joined before.joined)
  write-then-read before after r enough-counts enough-claims enough-joined says =
      let back : read_with (take n new) before ≡ given values =
      ap (λ (b : List ℕ). read_with b before) file-is
      ∙ round_trip.write_read values (length old) (length before.counts) (length before.claims) (length before.joined) made.value
      made.is enough-counts enough-claims enough-joined in (
        says.answer ∙ ap (giving values_given) back,
        says.buffers_after.0 ∙ buffer-filled (λ (g : Group). g.counts) before.counts back,
        says.buffers_after.1.0 ∙ buffer-filled (λ (g : Group). g.claims) before.claims back,
        says.buffers_after.1.1.0 ∙ buffer-filled (λ (g : Group). g.joined) before.joined back,
      )

-- ---- one file for one group and edition

-- two files that Read accepts with the same values, the edition among them, are the same bytes
pub one-file : (s t : List ℕ) (a b c d e f : ℕ) (g : Group) → Bytes s → Bytes t → read s a b c ≡ given g → read t d e f ≡ given g → s ≡ t
unfolding read_call
one-file s t a b c d e f g hs ht x y =
    let p = given-by (read_call s a b c) x in
    let q = given-by (read_call t d e f) y in
    round_trip.one-file s t hs ht
    (file-sound s (passed-both (file_questions s) (question13 (read_enough s a b c) ∷ []) p.0).0)
    (file-sound t (passed-both (file_questions t) (question13 (read_enough t d e f) ∷ []) q.0).0)
    (p.1 ∙ sym q.1)
