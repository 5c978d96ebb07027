-- Fields put one after another. A put changes the bits of its own field alone: so where the later fields were
-- put too, each field lies where it was put, and every bit outside of them is kept. Assumes nothing.
use mathlib.Core.Path.{◌≡◌, refl, sym, ◌∙◌, subst}
use mathlib.Core.List.{List, [], ◌∷◌, ◌++◌}
use Prim.Native.Nat.{ℕ, ◌+◌, ◌≤◌}
use native.Mathlib.Nat.{add-zero}
use native.Mathlib.Omega.{arith}
use lib.ListN.{length}
use Rattle.plan.specs.Field.{Slot, slot, Laid}
use Rattle.laws.proofs.Fields.{field-same}
use Rattle.laws.proofs.Written.{width-append, laid-append, laid_same, fitting-first, fitting-second}
use Rattle.bits.specs.Put.{Room, Put}
use Rattle.bits.specs.Runs.{Space, Wrote}

-- ---- room for them

-- for the first, where it is no wider than a put can be
pub room : {s : List ℕ} {at w v : ℕ} {fs : List Slot} → Space s at (slot w v ∷ fs) → w ≤ 32 → Room s at w v
room {s} {at} {w} {v} {fs} p h = record {
  reach = record { narrow = h; next = omega (arith, p.reach) };
  within = omega (arith, p.within);
  fits = p.fitting.0;
}

-- for those after it
pub space-past : {s t : List ℕ} {at q w v : ℕ} {fs : List Slot} → Space s at (slot w v ∷ fs)
    → length t ≡ length s → q ≡ at + w → Space t q fs
space-past {s} {t} {at} {q} {w} {v} {fs} p same e = record {
  within = omega (arith, p.within);
  reach = omega (arith, p.reach);
  fitting = p.fitting.1;
}

-- for the first run of two
pub space-first : {s : List ℕ} {at : ℕ} (fs gs : List Slot) → Space s at (fs ++ gs) → Space s at fs
space-first fs gs p = record {
  within = omega (arith, p.within, width-append fs gs);
  reach = omega (arith, p.reach, width-append fs gs);
  fitting = fitting-first fs gs p.fitting;
}

-- and for the second, after the first was put
pub space-second : {s t : List ℕ} {at q : ℕ} (fs gs : List Slot) → Space s at (fs ++ gs) → Wrote s at fs t q
    → Space t q gs
space-second fs gs p x = record {
  within = omega (arith, p.within, x.same, x.place, width-append fs gs);
  reach = omega (arith, p.reach, x.place, width-append fs gs);
  fitting = fitting-second fs gs p.fitting;
}

-- ---- put

pub wrote_none : (s : List ℕ) (at : ℕ) → Wrote s at [] s at
wrote_none s at = record {
  same = refl;
  place = sym (add-zero at);
  laid = tt;
  before = λ k h. refl;
  after = λ k h. refl;
}

-- one, and then others
pub wrote-more : {s t u : List ℕ} {at w v q r : ℕ} {fs : List Slot} → (q ≡ at + w) × Put s at w v t
    → Wrote t q fs u r → Wrote s at (slot w v ∷ fs) u r
wrote-more {s} {t} {u} {at} {w} {v} {q} {r} {fs} p x = record {
  same = x.same ∙ p.1.same;
  place = omega (arith, x.place, p.0);
  laid = (
    field-same u t at w (λ k lo hi. x.before k (omega (arith, p.0))) ∙ p.1.here,
    subst (λ (y : ℕ). Laid u y fs) p.0 x.laid,
  );
  before = λ k h. x.before k (omega (arith, p.0)) ∙ p.1.before k h;
  after = λ k h. x.after k h ∙ p.1.after k (omega (arith, x.place, p.0));
}

-- a run, and then another
pub wrote-append : {s t u : List ℕ} {at q r : ℕ} (fs gs : List Slot) → Wrote s at fs t q → Wrote t q gs u r
    → Wrote s at (fs ++ gs) u r
wrote-append {s} {t} {u} {at} {q} {r} fs gs x y = record {
  same = y.same ∙ x.same;
  place = omega (arith, x.place, y.place, width-append fs gs);
  laid =
      laid-append u at fs gs
      (laid_same t u at fs (λ k lo hi. sym (y.before k (omega (arith, x.place)))) x.laid)
      (subst (λ (z : ℕ). Laid u z gs) x.place y.laid);
  before = λ k h. y.before k (omega (arith, x.place)) ∙ x.before k h;
  after = λ k h. y.after k h ∙ x.after k (omega (arith, y.place));
}

-- ---- put by a loop

-- the fields fs are to be put over s from `at` on, and t and the place q are what is reached: there is room for
-- the `rest`, and whoever puts it from there on has put all
pub record Putting (s : List ℕ) (at : ℕ) (fs : List Slot) (t : List ℕ) (q : ℕ) (rest : List Slot) : Type 0 where
  pub same : length t ≡ length s
  pub space : Space t q rest
  pub left : {u : List ℕ} {r : ℕ} → Wrote t q rest u r → Wrote s at fs u r

pub putting-starts : {s : List ℕ} {at : ℕ} {fs : List Slot} → Space s at fs → Putting s at fs s at fs
putting-starts p = record { same = refl; space = p; left = λ x. x }

-- the rest by another name
pub putting-as : {s t : List ℕ} {at q : ℕ} {fs rest rest' : List Slot} → Putting s at fs t q rest → rest ≡ rest'
    → Putting s at fs t q rest'
putting-as {s} {t} {at} {q} {fs} g e = subst (Putting s at fs t q) e g

-- one field
pub putting-more : {s t u : List ℕ} {at q r w v : ℕ} {fs rest : List Slot}
    → Putting s at fs t q (slot w v ∷ rest) → (r ≡ q + w) × Put t q w v u → Putting s at fs u r rest
putting-more g p = record {
  same = p.1.same ∙ g.same;
  space = space-past g.space p.1.same p.0;
  left = λ x. g.left (wrote-more p x);
}

-- a run of fields
pub putting-run : {s t u : List ℕ} {at q r : ℕ} {fs : List Slot} (gs rest : List Slot)
    → Putting s at fs t q (gs ++ rest) → Wrote t q gs u r → Putting s at fs u r rest
putting-run gs rest g p = record {
  same = p.same ∙ g.same;
  space = space-second gs rest g.space p;
  left = λ x. g.left (wrote-append gs rest p x);
}

pub putting-ends : {s t : List ℕ} {at q : ℕ} {fs : List Slot} → Putting s at fs t q [] → Wrote s at fs t q
putting-ends g = g.left (wrote_none _ _)
