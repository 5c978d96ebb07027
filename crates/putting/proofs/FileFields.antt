-- The header's two runs and the risks are the file's fields, one run after another, and the fill ends the
-- last byte.
use mathlib.Core.Path.{◌≡◌, ap, ◌∙◌, subst}
use mathlib.Core.List.{List, ◌++◌, append-nil}
use Prim.Native.Nat.{ℕ, ◌-◌, ◌*◌, ◌≤◌, ◌<◌}
use native.Mathlib.Omega.{arith}
use lib.ListN.{length, drop_of_length-le}
use lib.Pow.{pow_pos}
use Rattle.plan.specs.Sizes.{largest_file}
use Rattle.plan.specs.Field.{Slot, total_width, bytes_for}
use Rattle.plan.specs.Risk.{slots_of_risks}
use Rattle.plan.specs.File.{Group, claims_given, file_slots, file_of}
use Rattle.laws.proofs.Fields.{Bytes}
use Rattle.laws.proofs.Written.{length-bytes_of}
use Rattle.laws.proofs.FileSizes.{file-le}
use Rattle.laws.proofs.Writable.{WriteSound, write-sound, file-fitting}
use Rattle.laws.proofs.RoundTrip.{made-sound}
use Rattle.bits.specs.Put.{Room, Put}
use Rattle.bits.specs.Runs.{Space, Wrote}
use Rattle.bits.proofs.Laws.{fields-put, space-first, Putting, putting-starts, putting-run}
use Rattle.putting.specs.Putting.{first_slots, last_slots, Ready}

module _ {g : Group} {out : List ℕ} (r : Ready g out) where
  pub sound : WriteSound g
  sound = write-sound g (length out) r.passes

  -- ---- the file's length

  pub bytes : length out ≡ bytes_for (total_width (file_slots g))
  bytes = r.is ∙ length-bytes_of (file_slots g)

  pub small : length out ≤ largest_file
  small = omega (arith, r.is, file-le (file_of g) (made-sound g sound))

  -- ---- its fields, run after run

  pub space : Space out 0 (file_slots g)
  space = record {
    within = omega (arith, bytes);
    reach = omega (arith, bytes, small);
    fitting = file-fitting g sound.edition sound.writable;
  }

  -- the risks' fields, and the fields after the first run
  abbrev pub risks : List Slot
  risks = slots_of_risks g.edition g.counts (claims_given g)

  abbrev pub rest : List Slot
  rest = last_slots g.header (length g.counts) ++ risks

  pub first-space : Space out 0 (first_slots g.edition g.header)
  first-space = space-first (first_slots g.edition g.header) rest space

  module _ {t : List ℕ} {p : ℕ} (x : Wrote out 0 (first_slots g.edition g.header) t p) where
    after_first : Putting out 0 (file_slots g) t p rest
    after_first = putting-run (first_slots g.edition g.header) rest (putting-starts space) x

    pub last-space : Space t p (last_slots g.header (length g.counts))
    last-space = space-first (last_slots g.header (length g.counts)) risks after_first.space

    pub after_last : {u : List ℕ} {q : ℕ} → Wrote t p (last_slots g.header (length g.counts)) u q
        → Putting out 0 (file_slots g) u q risks
    after_last y = putting-run (last_slots g.header (length g.counts)) risks after_first y

    pub fields-wrote : {u v : List ℕ} {q r : ℕ} → Wrote t p (last_slots g.header (length g.counts)) u q → Wrote u q risks v r
        → Wrote out 0 (file_slots g) v r
    fields-wrote y z = (after_last y).left z

  -- ---- the fill: part of a byte

  module _ {t : List ℕ} {q : ℕ} (x : Wrote out 0 (file_slots g) t q) where
    pub fill-starts : q ≤ 8 * length t
    fill-starts = omega (arith, bytes, x.place, x.same)

    pub fill-small : 8 * length t - q < 8
    fill-small = omega (arith, bytes, x.place, x.same)

    pub fill-room : Room t q (8 * length t - q) 0
    fill-room = record {
      reach = record { narrow = omega (arith, fill-small); next = omega (arith, fill-starts, x.same, small) };
      within = omega (arith, fill-starts);
      fits = pow_pos (8 * length t - q);
    }

    -- it ends the file
    pub file-put : {new : List ℕ} → Bytes out → Bytes new → Put t q (8 * length t - q) 0 new → new ≡ file_of g
    file-put {new} was is put =
        fields-put (file_slots g) space.fitting was is x
        (subst (λ (n : ℕ). Put t q (8 * n - q) 0 new) x.same put) bytes (omega arith)
        ∙ ap (λ (l : List ℕ). file_of g ++ l) (drop_of_length-le out (omega (arith, r.is))) ∙ append-nil (file_of g)
