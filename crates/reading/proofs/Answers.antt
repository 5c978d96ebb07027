-- What Read answers, from the verdict of its questions: a refusal leaves all as it was, a group fills the buffers. Assumes nothing.
use mathlib.Core.Path.{◌≡◌, refl, sym, ap, ap₂, ◌∙◌}
use mathlib.Core.Bool.{Bool, true, false, ◌&&◌}
use mathlib.Core.List.{List, [], ◌∷◌, ◌++◌, map}
use Prim.Native.Nat.{ℕ, ◌≤◌, ◌<◌}
use native.Mathlib.Omega.{arith}
use lib.Dec.{leb}
use lib.ListN.{length, take, drop}
use lib.Seq.{length-take-le}
use borrow.Author.Tests.{le-leb, lt-leb}
use Rattle.plan.specs.Arithmetic.{sum}
use Rattle.plan.specs.Header.{header_of, header_bits, edition_of, risk_count}
use Rattle.plan.specs.Claim.{dollars}
use Rattle.plan.specs.Risk.{counts_from, risks_from, all_claims}
use Rattle.plan.specs.File.{Group, counts_of, group_of}
use Rattle.plan.specs.Questions.{Verdict, passed, failed, first_no, or_else, file_questions, question13, read_enough, read_questions}
use Rattle.plan.specs.Call.{Call, filled}
use Rattle.plan.specs.Calls.{read_call}
use Rattle.laws.proofs.Questions.{after-gate}
use Rattle.laws.proofs.Risks.{length-counts}
use Rattle.laws.proofs.Tests.{and_yes, and-first-no, and-second-no}
use Rattle.laws.proofs.FileSizes.{risks-le}
use Rattle.std.proofs.Common.{Ok, Err}
use Rattle.group.specs.Refusals.{number_of, verdict_is}
use Rattle.group.specs.Values.{header_is}
use Rattle.group.specs.declared.Refusal.{Refusal}
use Rattle.group.specs.declared.Refusal.TheVariants.{Room}
use Rattle.groupfile.specs.Opening.{OutlineIs}
use Rattle.groupfile.specs.declared.opening.Outline.{Outline}
use Rattle.group.proofs.Laws.{keeps, sets}
use Rattle.reading.specs.Reading.{bit, values_given, read_is, Buffers, buffers, ReadSays, RisksRoom}
use Rattle.reading.specs.declared.ReadValues.{ReadValues}

module _ (s : List ℕ) (old : Buffers) where
  abbrev pub enough : Bool
  enough = read_enough s (length old.counts) (length old.claims) (length old.joined)

  abbrev called : Call Group
  called = read_call s (length old.counts) (length old.claims) (length old.joined)

  -- the first No of Read's questions
  abbrev pub asked : Verdict
  asked = first_no (read_questions s (length old.counts) (length old.claims) (length old.joined))

  -- the gate's No, else that of 13
  pub verdict : {v : Verdict} {b : Bool} → first_no (file_questions s) ≡ v → enough ≡ b
      → asked ≡ or_else v (first_no (question13 b ∷ []))
  verdict {v} e f =
      after-gate (file_questions s) (question13 enough ∷ []) e ∙ ap (λ (b : Bool). or_else v (first_no (question13 b ∷ []))) f

  -- a refusal leaves all as it was
  pub refused_says : (r : Refusal) → asked ≡ failed (number_of r) → ReadSays s old (Err r) old
  unfolding read_call
  refused_says r e = keeps called values_given read_is r e (refl, (refl, (refl, tt)))

  -- a group fills the buffers
  pub given-says : (v : ReadValues) {new : Buffers} → asked ≡ passed
      → v.edition ≡ edition_of s → v.risks ≡ risk_count s → header_is v.header ≡ header_of s
      → new.counts ≡ filled (counts_of s) old.counts → new.claims ≡ filled (group_of s).claims old.claims
      → new.joined ≡ filled (group_of s).joined old.joined
      → ReadSays s old (Ok v) new
  unfolding read_call
  given-says v e edition n header c d j =
      let values : read_is v ≡ values_given (group_of s) =
      λ i. record {
        edition = edition i;
        risks = (n ∙ sym (length-counts s header_bits (risk_count s))) i;
        header = header i;
      } in
      sets called values_given read_is v e values (c, (d, (j, tt)))

-- past question 9, with the file's outline at hand: each test of room in turn
module _ (s : List ℕ) (old : Buffers) {o : Outline} {u : Unit} (x : OutlineIs (file_questions s) s o) (passes : o.verdict ≡ Ok u) where
  gate : first_no (file_questions s) ≡ passed
  gate = sym x.verdict ∙ ap verdict_is passes

  no_room : enough s old ≡ false → ReadSays s old (Err Room) old
  no_room e = refused_says s old Room (verdict s old gate e)

  pub few-counts : length old.counts < o.risks → ReadSays s old (Err Room) old
  few-counts h =
      let few : length old.counts < risk_count s = omega (arith, h, x.risks) in no_room (and-first-no _ (and-first-no _ (lt-leb _ _ few)))

  module _ (counts : o.risks ≤ length old.counts) where
    counts-fit : leb (risk_count s) (length old.counts) ≡ true
    counts-fit = le-leb _ _ (omega (arith, counts, x.risks))

    pub few-claims : length old.claims < o.layout.claims → ReadSays s old (Err Room) old
    few-claims h =
        let few : length old.claims < sum (counts_of s) = omega (arith, h, x.layout.claims) in
        no_room (and-first-no _ (and-second-no counts-fit (lt-leb _ _ few)))

    module _ (claims : o.layout.claims ≤ length old.claims) where
      claims-fit : (leb (risk_count s) (length old.counts) && leb (sum (counts_of s)) (length old.claims)) ≡ true
      claims-fit = and_yes counts-fit (le-leb _ _ (omega (arith, claims, x.layout.claims)))

      pub few-bits : length old.joined < o.layout.claims → ReadSays s old (Err Room) old
      few-bits h =
          let few : length old.joined < sum (counts_of s) = omega (arith, h, x.layout.claims) in no_room (and-second-no claims-fit (lt-leb _ _ few))

      module _ (bits : o.layout.claims ≤ length old.joined) {t : List ℕ} (same : t ≡ s) where
        -- the entries for the counts
        abbrev n : ℕ
        n = length (take o.risks old.counts)

        all : n ≡ risk_count s
        all = length-take-le o.risks old.counts counts ∙ x.risks

        in-all : sum (counts_from t o.layout.first.at n) ≡ sum (counts_of s)
        in-all i = sum (counts_from (same i) (x.layout.first i) (all i))

        pub risks-room : RisksRoom t o.layout.first.at n (length old.claims) (length old.joined)
        risks-room = record {
          place = omega (arith, x.layout.first);
          few = omega (arith, all, risks-le s);
          claims = omega (arith, claims, x.layout.claims, in-all);
          joined = omega (arith, bits, x.layout.claims, in-all);
        }

        pub read-says : {cs ds js : List ℕ} → cs ≡ counts_from t o.layout.first.at n
            → ds ≡ filled (map dollars (all_claims (risks_from t o.layout.first.at n))) old.claims
            → js ≡ filled (map bit (all_claims (risks_from t o.layout.first.at n))) old.joined
            → ReadSays s old (Ok (record { edition = o.layout.edition; risks = o.risks; header = o.header })) (buffers (cs ++ drop o.risks old.counts) ds js)
        read-says c d j =
            let fits : sum (counts_of s) ≤ length old.joined = omega (arith, bits, x.layout.claims) in
            let count : o.risks ≡ length (counts_of s) = x.risks ∙ sym (length-counts s header_bits (risk_count s)) in
            given-says s old _ (verdict s old gate (and_yes claims-fit (le-leb _ _ fits)))
            x.layout.edition x.risks x.header
            (ap₂ (λ (l : List ℕ) (k : ℕ). l ++ drop k old.counts) (c ∙ (λ i. counts_from (same i) (x.layout.first i) (all i))) count)
            (d ∙ (λ i. filled (map dollars (all_claims (risks_from (same i) (x.layout.first i) (all i)))) old.claims))
            (j ∙ (λ i. filled (map bit (all_claims (risks_from (same i) (x.layout.first i) (all i)))) old.joined))
