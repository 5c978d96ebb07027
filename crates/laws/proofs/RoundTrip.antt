-- Reader and writer undo each other: 'Read of the result gives those values back, and Write of what Read gives yields the same
-- bytes', and document 02, job 4: 'reading back is equal for either' edition. Values that were written lie in the file and so are
-- taken; bytes are told by their fields and zero fill, so what was taken is written as it stood. Each value that a field holds fits
-- its width, so Write refuses nothing that Read gives; and what Write makes passes all that Read asks. Assumes nothing.
use mathlib.Core.Path.{◌≡◌, sym, ap, ap₂, ◌∙◌, subst}
use mathlib.Core.Bool.{true}
use mathlib.Core.List.{List, [], ◌∷◌}
use Prim.Native.Nat.{ℕ, ◌-◌, ◌*◌, ◌≤◌}
use native.Mathlib.Omega.{arith}
use borrow.Author.Tests.{lt-ltb, le-leb}
use lib.ListN.{length}
use Rattle.plan.specs.Arithmetic.{sum}
use Rattle.plan.specs.Field.{bit, field, fits, bytes_for}
use Rattle.plan.specs.Header.{Header, header_of, header_bits, risk_count, header_slots, loss_limit_field, standard_premium_field}
use Rattle.plan.specs.Header.{expense_field, conversion_field, tax_field, mark_kind_field, maximum_mark_field, minimum_mark_field}
use Rattle.plan.specs.Header.{risks_field}
use Rattle.plan.specs.Risk.{divided, slots_of_risks}
use Rattle.plan.specs.File.{Group, counts_of, risks_of, claims_in, end_of, group_of, claims_given, file_slots, file_of}
use Rattle.plan.specs.Accidents.{all_open}
use Rattle.plan.specs.Questions.{passed, first_no, known_edition, file_questions, header_fits, question13, read_enough, read_questions}
use Rattle.plan.specs.Bounds.{HeaderSound}
use Rattle.plan.specs.Call.{given}
use Rattle.plan.specs.Calls.{read, write, read_call, write_call}
use Rattle.laws.proofs.Fields.{Bytes, field_lt, number-zero, zero_bits}
use Rattle.laws.proofs.Written.{width-append, length-bytes_of, bytes_of-laid, bytes_of-fill, bytes_of-unique}
use Rattle.laws.proofs.Claims.{claims-of-parts}
use Rattle.laws.proofs.Risks.{length-counts, divided-again, counts_fit, all-dollars-fit, all-joined-fit}
use Rattle.laws.proofs.Decoded.{slots_of, file-laid, file-end, FileTaken, laid-file, taken-group, own-matching}
use Rattle.laws.proofs.Writable.{file-fitting, WriteSound, write-sound, write-passes, written-matching}
use Rattle.laws.proofs.Tests.{and_yes}
use Rattle.laws.proofs.Calls.{given-by, answered}
use Rattle.laws.proofs.Questions.{passed-both, after-gate, FileSound, file-sound, file-passes}

-- ---- what is read can be written

header-fits : (s : List ℕ) → header_fits (header_of s) ≡ true
header-fits s =
    simp (
      lt-ltb _ _ (field_lt s loss_limit_field.at loss_limit_field.width),
      lt-ltb _ _ (field_lt s standard_premium_field.at standard_premium_field.width),
      lt-ltb _ _ (field_lt s expense_field.at expense_field.width),
      lt-ltb _ _ (field_lt s conversion_field.at conversion_field.width),
      lt-ltb _ _ (field_lt s tax_field.at tax_field.width),
      lt-ltb _ _ (field_lt s mark_kind_field.at mark_kind_field.width),
      lt-ltb _ _ (field_lt s maximum_mark_field.at maximum_mark_field.width),
      lt-ltb _ _ (field_lt s minimum_mark_field.at minimum_mark_field.width),
    )

-- the risks of a file's counts, bits and dollars are its risks
own-risks : (s : List ℕ) → divided (counts_of s) (claims_given (group_of s)) ≡ risks_of s
own-risks s = ap (divided (counts_of s)) (claims-of-parts (claims_in s)) ∙ divided-again s header_bits (risk_count s)

taken-writable : (s : List ℕ) → FileSound s → WriteSound (group_of s)
taken-writable s f =
    let n = length-counts s header_bits (risk_count s) in
    record {
      edition = f.edition_known;
      header = subst (HeaderSound (header_of s)) (sym n) f.header;
      writable = record {
        risks = ap (fits risks_field.width) n ∙ lt-ltb _ _ (field_lt s risks_field.at risks_field.width);
        counts_fit = counts_fit s header_bits (risk_count s);
        claims_fit = all-dollars-fit s header_bits (risk_count s);
        joined_fit = all-joined-fit s header_bits (risk_count s);
        header = header-fits s;
        adds = (own-matching s).adds;
        bits = (own-matching s).bits;
      };
      each_opens = ap all_open (own-risks s) ∙ f.each_opens;
    }

-- a file that passes 1 to 9 is the file that its values make
pub file-is : (s : List ℕ) → Bytes s → FileSound s → s ≡ file_of (group_of s)
unfolding field
file-is s bytes f =
    let w = file-end s in
    let t = taken-writable s f in
    bytes_of-unique s (slots_of s) bytes (file-fitting (group_of s) t.edition t.writable)
    (f.ends ∙ ap bytes_for (sym w)) (file-laid s f)
    (λ k lo hi. zero_bits (bit s) (end_of s) (8 * length s - end_of s) f.fill k (omega arith) (omega arith))

-- Write of what Read gives yields the same bytes
pub read-write : (s : List ℕ) (counts_room claims_room joined_room room : ℕ) (g : Group) → Bytes s
    → read s counts_room claims_room joined_room ≡ given g → length s ≤ room → write g room ≡ given s
unfolding read_call write_call
read-write s counts_room claims_room joined_room room g bytes e enough =
    let p = given-by (read_call s counts_room claims_room joined_room) e in
    let f : FileSound s =
    file-sound s (passed-both (file_questions s) (question13 (read_enough s counts_room claims_room joined_room) ∷ []) p.0).0 in
    let is = file-is s bytes f in
    subst (λ (x : Group). write x room ≡ given s) p.1
    (answered (file_of (group_of s))
    (write-passes (group_of s) room (taken-writable s f) (subst (λ (x : List ℕ). length x ≤ room) is enough))
    ∙ ap given (sym is))

-- one file for one group and edition
pub one-file : (s t : List ℕ) → Bytes s → Bytes t → FileSound s → FileSound t → group_of s ≡ group_of t → s ≡ t
one-file s t hs ht fs ft e = file-is s hs fs ∙ ap file_of e ∙ sym (file-is t ht ft)

-- ---- what is written can be read

module _ (g : Group) (w : WriteSound g) where
  abbrev made : List ℕ
  made = file_of g

  pub made-taken : FileTaken made g
  made-taken =
      laid-file made g (written-matching w.writable) (bytes_of-laid (file_slots g) (file-fitting g w.edition w.writable))

  pub made-group : group_of made ≡ g
  made-group = taken-group made-taken

  -- the risks that are taken are those that were given
  made-risks : risks_of made ≡ divided g.counts (claims_given g)
  made-risks =
      sym (divided-again made header_bits (risk_count made)) ∙ ap₂ divided made-taken.counts_are made-taken.all_are

  pub made-sound : FileSound made
  unfolding field
  made-sound =
      let t = made-taken in
      let l = length-bytes_of (file_slots g) in
      let e = t.ends in
      record {
        long = omega (
          arith,
          l,
          width-append (header_slots g.edition g.header (length g.counts)) (slots_of_risks g.edition g.counts (claims_given g)),
        );
        edition_known = ap known_edition t.header.edition_is ∙ w.edition;
        spare_is = t.header.spare_is;
        header = subst (HeaderSound (header_of made)) (sym t.header.risks_are)
            (subst (λ (x : Header). HeaderSound x (length g.counts)) (sym t.header.header_is) w.header);
        ends = l ∙ ap bytes_for (sym e);
        fill = number-zero (bit made) (end_of made) (8 * length made - end_of made)
            (λ k lo hi. bytes_of-fill (file_slots g) k (omega arith));
        each_opens = ap all_open made-risks ∙ w.each_opens;
      }

-- Read of the result gives those values back
pub write_read : (g : Group) (room counts_room claims_room joined_room : ℕ) (b : List ℕ) → write g room ≡ given b
    → length g.counts ≤ counts_room → length g.claims ≤ claims_room → length g.claims ≤ joined_room
    → read b counts_room claims_room joined_room ≡ given g
unfolding read_call write_call
write_read g room counts_room claims_room joined_room b e enough-counts enough-claims enough-joined =
    let p = given-by (write_call g room) e in
    let w : WriteSound g = write-sound g room p.0 in
    let s : List ℕ = file_of g in
    let is : group_of s ≡ g = made-group g w in
    let n : risk_count s ≡ length g.counts = (made-taken g w).header.risks_are in
    let adds : sum (counts_of s) ≡ length g.claims = ap (λ (x : Group). sum x.counts) is ∙ w.writable.adds in
    let enough : read_enough s counts_room claims_room joined_room ≡ true =
    and_yes (and_yes (le-leb (risk_count s) counts_room (omega arith)) (le-leb (sum (counts_of s)) claims_room (omega arith)))
    (le-leb (sum (counts_of s)) joined_room (omega arith)) in
    let passes : first_no (read_questions s counts_room claims_room joined_room) ≡ passed =
    after-gate (file_questions s) (question13 (read_enough s counts_room claims_room joined_room) ∷ []) (file-passes s (made-sound g w))
    ∙ (simp enough) in
    subst (λ (x : List ℕ). read x counts_room claims_room joined_room ≡ given g) p.1
    (answered (group_of s) passes ∙ ap given is)
