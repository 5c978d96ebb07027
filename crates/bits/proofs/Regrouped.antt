-- The fields that are left to be put, taken as other fields: two neighbours are one field of both widths, whose number is the
-- first's with the second's bits after it, and one field is two. Bits that lie before the place are a field that is left too.
-- So a field may be put in parts that are not its own. Assumes nothing.
use mathlib.Core.Path.{◌≡◌, refl, sym, ap, ap₂, ◌∙◌, subst}
use mathlib.Core.List.{List, ◌∷◌}
use Prim.Native.Nat.{ℕ, ◌+◌, ◌*◌, ◌/◌, ◌%◌, ◌^◌, ◌<◌}
use native.Mathlib.Nat.{mod-lt}
use native.Mathlib.Decide.{dec_lt}
use native.Mathlib.Omega.{arith}
use lib.Pow.{pow_pos, shr_lt, split, high, low}
use Rattle.plan.specs.Field.{field, Slot, slot, total_width, Laid, Fitting}
use Rattle.laws.proofs.Fields.{by_cases, field_lt, field-split, field-bits}
use Rattle.bits.proofs.Shifts.{join-lt}
use Rattle.bits.specs.Runs.{Space}
use Rattle.bits.proofs.Runs.{Putting}

-- ---- two fields as one

-- where the one lies, so do the two
laid-two : (s : List ℕ) (at v a w b : ℕ) (fs : List Slot) → b < 2 ^ w → Laid s at (slot (v + w) (a * 2 ^ w + b) ∷ fs)
    → Laid s at (slot v a ∷ slot w b ∷ fs)
laid-two s at v a w b fs h l =
    let x : ℕ = field s at v in
    let e : x * 2 ^ w + field s (at + v) w ≡ a * 2 ^ w + b = sym (field-split s at v w) ∙ l.0 in
    let below = field_lt s (at + v) w in
    let place : at + (v + w) ≡ at + v + w = omega arith in (
      sym (high x w below) ∙ ap (λ (y : ℕ). y / 2 ^ w) e ∙ high a w h,
      (sym (low x w below) ∙ ap (λ (y : ℕ). y % 2 ^ w) e ∙ low a w h, subst (λ (y : ℕ). Laid s y fs) place l.1),
    )

-- where the two lie, so does the one
laid_both : (s : List ℕ) (at v w x : ℕ) (fs : List Slot) → Laid s at (slot v (x / 2 ^ w) ∷ slot w (x % 2 ^ w) ∷ fs)
    → Laid s at (slot (v + w) x ∷ fs)
laid_both s at v w x fs l =
    let place : at + v + w ≡ at + (v + w) = omega arith in (
      field-split s at v w ∙ ap₂ (λ (y z : ℕ). y * 2 ^ w + z) l.0 l.1.0 ∙ split x w,
      subst (λ (y : ℕ). Laid s y fs) place l.1.1,
    )

-- ---- what is left to be put

module _ {s t : List ℕ} {at q : ℕ} {fs : List Slot} where
  -- in fields that take as many bits, where those that were left lie where these do
  regrouped : {rest : List Slot} (gs : List Slot) → Putting s at fs t q rest → total_width gs ≡ total_width rest → Fitting gs
      → ((u : List ℕ) → Laid u q gs → Laid u q rest) → Putting s at fs t q gs
  regrouped gs g same fit lies = record {
    same = g.same;
    space = record {
      within = omega (arith, g.space.within, same);
      reach = omega (arith, g.space.reach, same);
      fitting = fit;
    };
    left = λ {u} x. g.left (record {
      same = x.same;
      place = omega (arith, x.place, same);
      laid = lies u x.laid;
      before = x.before;
      after = x.after;
    });
  }

  -- the first two as one
  pub putting-both : {v a w b : ℕ} {rest : List Slot} → Putting s at fs t q (slot v a ∷ slot w b ∷ rest)
      → Putting s at fs t q (slot (v + w) (a * 2 ^ w + b) ∷ rest)
  putting-both {v} {a} {w} {b} {rest} g =
      let fit = g.space.fitting in
      regrouped (slot (v + w) (a * 2 ^ w + b) ∷ rest) g (omega arith)
      (join-lt v w (v + w) fit.0 fit.1.0 (omega arith), fit.1.1)
      (λ u l. laid-two u q v a w b rest fit.1.0 l)

  -- the first as two
  pub putting-two : {x : ℕ} {rest : List Slot} (v w : ℕ) → Putting s at fs t q (slot (v + w) x ∷ rest)
      → Putting s at fs t q (slot v (x / 2 ^ w) ∷ slot w (x % 2 ^ w) ∷ rest)
  putting-two {x} {rest} v w g =
      let fit = g.space.fitting in
      regrouped (slot v (x / 2 ^ w) ∷ slot w (x % 2 ^ w) ∷ rest) g (omega arith)
      (shr_lt v w fit.0, (mod-lt x (pow_pos w), fit.1))
      (λ u l. laid_both u q v w x rest l)

-- the w bits before the place are put as they are
pub putting-starts-before : {s : List ℕ} {at : ℕ} {fs : List Slot} (q w : ℕ) → q + w ≡ at → Space s at fs
    → Putting s at fs s q (slot w (field s q w) ∷ fs)
putting-starts-before {s} {at} {fs} q w e p = record {
  same = refl;
  space = record {
    within = omega (arith, p.within, e);
    reach = omega (arith, p.reach, e);
    fitting = (field_lt s q w, p.fitting);
  };
  left = λ {u} {r} x. record {
    same = x.same;
    place = omega (arith, x.place, e);
    laid = subst (λ (y : ℕ). Laid u y fs) e x.laid.1;
    before = λ k h. by_cases
        (λ lo. x.before k lo)
        (λ lo. field-bits u s q w x.laid.0 k (omega arith) (omega (arith, e)))
        (dec_lt k q);
    after = x.after;
  };
}
