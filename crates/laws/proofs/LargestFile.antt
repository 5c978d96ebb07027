-- The largest file is one that passes 1 to 9: 255 risks with 63 claims each in edition 2, whose values Write takes. Lists of one value are
-- as long as they are, fit where the value does, and divide into lists of it, so nothing is computed claim by claim. Assumes nothing.
use mathlib.Core.Path.{◌≡◌, refl, sym, ap, ap₂, ◌∙◌, subst}
use mathlib.Core.Bool.{true}
use mathlib.Core.List.{List, [], ◌∷◌}
use Prim.Native.Nat.{ℕ, zero, suc, ◌+◌, ◌-◌, ◌*◌}
use native.Mathlib.Omega.{arith}
use lib.Dec.{lit≤}
use lib.ListN.{length, replicate, length-replicate, take, drop}
use Rattle.plan.specs.Sizes.{most_risks, most_claims, largest_file, least_conversion, least_tax}
use Rattle.plan.specs.Field.{bytes_for, fits, all_fit}
use Rattle.plan.specs.Header.{Header, header_bits}
use Rattle.plan.specs.Claim.{Claim, claim, claim_width, claims_of, joined_width, dollars_width}
use Rattle.plan.specs.Risk.{count_width, divided}
use Rattle.plan.specs.File.{Group, file_of}
use Rattle.plan.specs.Accidents.{opens, all_open}
use Rattle.laws.proofs.Tests.{and_yes}
use Rattle.laws.proofs.Questions.{FileSound}
use Rattle.laws.proofs.Writable.{Writable, WriteSound, file-length}
use Rattle.laws.proofs.RoundTrip.{made-sound}

-- ---- lists of one value

all-alike-fit : (w v n : ℕ) → fits w v ≡ true → all_fit w (replicate n v) ≡ true
all-alike-fit w v zero e = refl
all-alike-fit w v (suc n) e = and_yes e (all-alike-fit w v n e)

-- the claim of d dollars that opens an accident
abbrev single : ℕ → Claim
single d = claim 0 d

claims-alike : (n d : ℕ) → claims_of (replicate n 0) (replicate n d) ≡ replicate n (single d)
claims-alike zero d = refl
claims-alike (suc n) d = ap (λ (cs : List Claim). single d ∷ cs) (claims-alike n d)

first-opens : (k n d : ℕ) → opens (take k (replicate n (single d))) ≡ true
first-opens zero n d = refl
first-opens (suc k) zero d = refl
first-opens (suc k) (suc n) d = refl

alike : (m n d : ℕ) → m ≡ n → replicate m (single d) ≡ replicate n (single d)
alike m n d e = ap (λ (k : ℕ). replicate k (single d)) e

later-alike : (k n d : ℕ) → drop k (replicate n (single d)) ≡ replicate (n - k) (single d)
later-alike zero n d = alike n (n - 0) d (omega arith)
later-alike (suc k) zero d = alike 0 (0 - suc k) d (omega arith)
later-alike (suc k) (suc n) d = later-alike k n d ∙ alike (n - k) (suc n - suc k) d (omega arith)

each-opens : (ks : List ℕ) (n d : ℕ) → all_open (divided ks (replicate n (single d))) ≡ true
each-opens [] n d = refl
each-opens (k ∷ ks) n d =
    and_yes (first-opens k n d)
    (subst (λ (cs : List Claim). all_open (divided ks cs) ≡ true) (sym (later-alike k n d)) (each-opens ks (n - k) d))

-- ---- the largest group, with a claim of a dollar each

abbrev all_claims : ℕ
all_claims = most_claims * most_risks

abbrev least_header : Header
least_header = record {
  loss_limit = 0;
  standard_premium = 1;
  expense = 0;
  conversion = least_conversion;
  tax = least_tax;
  mark_kind = 0;
  maximum_mark = 0;
  minimum_mark = 0;
}

abbrev pub largest_group : Group
largest_group = record {
  edition = 2;
  header = least_header;
  counts = replicate most_risks most_claims;
  claims = replicate all_claims 1;
  joined = replicate all_claims 0;
}

largest-writable : Writable largest_group
largest-writable = record {
  risks = refl;
  counts_fit = refl;
  claims_fit = all-alike-fit dollars_width 1 all_claims refl;
  joined_fit = all-alike-fit (joined_width 2) 0 all_claims refl;
  header = refl;
  adds = sym (length-replicate {A = ℕ} all_claims 1);
  bits = length-replicate {A = ℕ} all_claims 0 ∙ sym (length-replicate {A = ℕ} all_claims 1);
}

largest-sound : WriteSound largest_group
largest-sound = record {
  edition = refl;
  header = record {
    premium = lit≤ tt;
    conversion = lit≤ tt;
    conversion_most = lit≤ tt;
    tax = lit≤ tt;
    tax_most = lit≤ tt;
    maximum = lit≤ tt;
    minimum = lit≤ tt;
    marks_in_order = lit≤ tt;
    risks = lit≤ tt;
  };
  writable = largest-writable;
  each_opens =
      ap (λ (cs : List Claim). all_open (divided (replicate most_risks most_claims) cs)) (claims-alike all_claims 1)
      ∙ each-opens (replicate most_risks most_claims) all_claims 1;
}

-- job 4: 'The largest file becomes 42,378 bytes.'
pub record Attained (s : List ℕ) : Type 0 where
  pub passes : FileSound s
  pub is : length s ≡ largest_file

pub attained : Attained (file_of largest_group)
unfolding claim_width
attained = record {
  passes = made-sound largest_group largest-sound;
  is =
      file-length largest-writable
      ∙ ap₂ (λ (n m : ℕ). bytes_for (header_bits + count_width * n + claim_width 2 * m)) (length-replicate {A = ℕ} most_risks most_claims)
      (length-replicate {A = ℕ} all_claims 1);
}
