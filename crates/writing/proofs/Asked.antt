-- Write's questions as the code asks them, one after another: each answer makes the verdict, or leaves it
-- to the questions after it.
use mathlib.Core.Path.{◌≡◌, refl, sym, ap, ap₂, ◌∙◌}
use mathlib.Core.Bool.{Bool, true, false}
use mathlib.Core.List.{List, [], ◌∷◌, ◌++◌}
use Prim.Native.Nat.{ℕ, ◌+◌, ◌*◌, ◌≤◌, ◌<◌}
use native.Mathlib.Omega.{arith}
use borrow.Author.Tests.{le-leb, lt-leb}
use lib.Dec.{leb}
use lib.ListN.{length, drop}
use Rattle.plan.specs.Field.{bytes_for}
use Rattle.plan.specs.Header.{header_bits}
use Rattle.plan.specs.Claim.{claim_width}
use Rattle.plan.specs.Risk.{count_width, divided}
use Rattle.plan.specs.File.{Group, claims_given, file_of}
use Rattle.plan.specs.Questions.{Question, ask, Verdict, passed, failed, first_no, or_else}
use Rattle.plan.specs.Questions.{known_edition, header_questions, question13, question15, question19}
use Rattle.plan.specs.Questions.{write_enough, write_questions}
use Rattle.plan.specs.Call.{filled}
use Rattle.plan.specs.Calls.{write_call}
use Rattle.laws.proofs.Questions.{goes_on, stops, after-gate}
use Rattle.laws.proofs.Writable.{Writable, fifteen-sound, file-length}
use Rattle.writing.specs.Fitting.{OpenSays}
use Rattle.putting.specs.Putting.{Ready}
use Rattle.std.proofs.Common.{Ok, Err}
use Rattle.writing.specs.Writer.{WriteSays}
use Rattle.group.specs.Refusals.{number_of}
use Rattle.group.proofs.Laws.{keeps, sets}
use Rattle.group.specs.declared.Refusal.{Refusal}
use Rattle.group.specs.declared.Refusal.TheVariants as variants

-- what the values are that question 15 passes
pub fifteen : (g : Group) → ask 15 true ≡ question15 g → Writable g
fifteen g e = fifteen-sound g (ap (λ (q : Question). first_no (q ∷ [])) (sym e))

module _ (g : Group) (old : List ℕ) where
  abbrev file : List ℕ
  file = file_of g

  abbrev header3_7 : List Question
  header3_7 = header_questions g.header (length g.counts)

  abbrev open19 : Question
  open19 = question19 (divided g.counts (claims_given g))

  abbrev enough13 : Question
  enough13 = question13 (write_enough g (length old))

  abbrev verdict : Verdict
  verdict = first_no (write_questions g (length old))

  says-refused : (r : Refusal) → verdict ≡ failed (number_of r) → WriteSays g old (Err r) old
  unfolding write_call
  says-refused r e = keeps (write_call g (length old)) length (λ n. n) r e (refl, tt)

  says-length : {n : ℕ} {new : List ℕ} → verdict ≡ passed → n ≡ length file → new ≡ filled file old
      → WriteSays g old (Ok n) new
  unfolding write_call
  says-length {n} e l b = sets (write_call g (length old)) length (λ n. n) n e l (b, tt)

  -- ---- question 2

  pub refused-2 : false ≡ known_edition g.edition → WriteSays g old (Err variants.Edition) old
  refused-2 e = says-refused variants.Edition (stops 2 (header3_7 ++ question15 g ∷ open19 ∷ enough13 ∷ []) (sym e))

  module _ (yes2 : true ≡ known_edition g.edition) where
    -- ---- questions 3 to 7

    past-2 : {v : Verdict} → v ≡ first_no header3_7
        → verdict ≡ or_else v (first_no (question15 g ∷ open19 ∷ enough13 ∷ []))
    past-2 f =
        let last = question15 g ∷ open19 ∷ enough13 ∷ [] in
        goes_on 2 (header3_7 ++ last) (sym yes2) ∙ after-gate header3_7 last (sym f)

    pub refused-header : (r : Refusal) → failed (number_of r) ≡ first_no header3_7 → WriteSays g old (Err r) old
    refused-header r f = says-refused r (past-2 f)

    module _ (yes7 : passed ≡ first_no header3_7) where
      -- ---- question 15

      past-7 : {b : Bool} → ask 15 b ≡ question15 g → verdict ≡ first_no (ask 15 b ∷ open19 ∷ enough13 ∷ [])
      past-7 e = past-2 yes7 ∙ ap (λ (q : Question). first_no (q ∷ open19 ∷ enough13 ∷ [])) (sym e)

      pub refused-15 : ask 15 false ≡ question15 g → WriteSays g old (Err variants.Misfit) old
      refused-15 e = says-refused variants.Misfit (past-7 e)

      module _ (yes15 : ask 15 true ≡ question15 g) where
        -- ---- question 19, which is answered whatever the dollars

        past-15 : {b : Bool} → OpenSays g.counts g.joined b → verdict ≡ first_no (ask 19 b ∷ enough13 ∷ [])
        past-15 x =
            past-7 yes15
            ∙ ap (λ (b : Bool). first_no (ask 19 b ∷ enough13 ∷ [])) (sym (x g.claims (fifteen g yes15).bits))

        pub refused-19 : OpenSays g.counts g.joined false → WriteSays g old (Err variants.FirstJoined) old
        refused-19 x = says-refused variants.FirstJoined (past-15 x)

        -- ---- question 13, with the length computed

        module _ (yes19 : OpenSays g.counts g.joined true) {size : ℕ}
            (is : size
            ≡ bytes_for (header_bits + count_width * length g.counts + claim_width g.edition * length g.claims)) where
          -- the length computed is the file's
          right : size ≡ length file
          right = is ∙ sym (file-length (fifteen g yes15))

          past-19 : {b : Bool} → leb size (length old) ≡ b → verdict ≡ first_no (ask 13 b ∷ [])
          past-19 e =
              past-15 yes19
              ∙ ap (λ (b : Bool). first_no (ask 13 b ∷ [])) (ap (λ (n : ℕ). leb n (length old)) (sym right) ∙ e)

          pub refused-13 : length old < size → WriteSays g old (Err variants.Room) old
          refused-13 h = says-refused variants.Room (past-19 (lt-leb size (length old) h))

          -- ---- all passed

          -- with a buffer of that length, as which the first bytes are handed on
          pub ready : length old ≡ size → Ready g old
          ready e = record { passes = past-19 (le-leb size (length old) (omega (arith, e))); is = e ∙ right }

          pub written-all : size ≤ length old → {first : List ℕ} → first ≡ file → WriteSays g old (Ok size) (first ++ drop size old)
          written-all h f =
              says-length (past-19 (le-leb size (length old) h)) right (ap₂ (λ (b : List ℕ) (n : ℕ). b ++ drop n old) f right)
