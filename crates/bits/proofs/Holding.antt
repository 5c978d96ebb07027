-- Fields put and held before they are stored. What is left to be put, at a byte, is a field of the bits held, and then the fields that are
-- left. A field that is put is one with the bits held; whole bytes that are stored are the first of two fields that these are. Assumes nothing.
use mathlib.Core.Path.{◌≡◌, sym, ap, ap₂, subst}
use mathlib.Core.List.{List, ◌∷◌}
use Prim.Native.Nat.{ℕ, ◌+◌, ◌*◌, ◌≤◌, ◌<◌}
use native.Mathlib.Omega.{arith}
use Rattle.plan.specs.Field.{Slot, slot}
use Rattle.bits.specs.Put.{Room, Put}
use Rattle.bits.specs.Runs.{Space}
use Rattle.bits.specs.Begun.{BegunAt, RoomToHold, Held, RoomToStore, Stored}
use Rattle.bits.specs.declared.begun.Begun.{Begun}
use Rattle.bits.proofs.Runs.{room, Putting, putting-as, putting-more}
use Rattle.bits.proofs.Regrouped.{putting-both, putting-two, putting-starts-before}

-- the fields fs are to be put over s from `at` on; t and b are what is reached, and the fields `rest` are left
abbrev pub Holding : List ℕ → ℕ → List Slot → List ℕ → Begun → List Slot → Type 0
Holding s at fs t b rest = Putting s at fs t (8 * b.byte) (slot b.bits b.held ∷ rest)

pub holding-starts : {s : List ℕ} {at : ℕ} {fs : List Slot} {b : Begun} → Space s at fs → BegunAt s at b → Holding s at fs s b fs
holding-starts {s} {at} {fs} {b} p x =
    putting-as (putting-starts-before (8 * b.byte) b.bits x.place p) (ap (λ (v : ℕ). slot b.bits v ∷ fs) (sym x.held))

module _ {s : List ℕ} {at : ℕ} {fs : List Slot} {t : List ℕ} (b : Begun) where
  -- ---- a field put

  module _ {w v : ℕ} {rest : List Slot} (g : Holding s at fs t b (slot w v ∷ rest)) where
    pub room-to-hold : b.bits + w ≤ 63 → RoomToHold b w v
    room-to-hold h = record {
      room = omega (arith, h);
      narrow = omega (arith, h);
      held = g.space.fitting.0;
      fits = g.space.fitting.1.0;
    }

    pub holding-more : {r : Begun} → Held b w v r → Holding s at fs t r rest
    holding-more {r} x =
        subst (λ (q : ℕ). Putting s at fs t (8 * q) (slot r.bits r.held ∷ rest)) (sym x.byte)
        (putting-as (putting-both g) (ap₂ (λ (k n : ℕ). slot k n ∷ rest) (sym x.bits) (sym x.held)))

  module _ {rest : List Slot} (g : Holding s at fs t b rest) where
    -- ---- whole bytes stored

    pub room-to-store : (n : ℕ) → n ≤ 8 → 8 * n ≤ b.bits → b.bits < 64 → RoomToStore t b n
    room-to-store n few whole narrow = record {
      few = few;
      whole = whole;
      narrow = narrow;
      held = g.space.fitting.0;
      next = omega (arith, g.space.reach, whole);
      within = omega (arith, g.space.within, whole);
    }

    pub holding-stored : {n : ℕ} {u : List ℕ} {r : Begun} → Stored t b n u r → Holding s at fs u r rest
    holding-stored {n} {u} {r} x =
        let parts = putting-two (8 * n) r.bits (putting-as g (ap (λ (k : ℕ). slot k b.held ∷ rest) x.bits)) in
        putting-as (putting-more parts (omega (arith, x.byte), x.put)) (ap (λ (v : ℕ). slot r.bits v ∷ rest) (sym x.held))

    -- ---- the bits held stored

    pub room-to-end : b.bits ≤ 32 → Room t (8 * b.byte) b.bits b.held
    room-to-end h = room g.space h

    pub holding-ends : {u : List ℕ} {q : ℕ} → (q ≡ 8 * b.byte + b.bits) × Put t (8 * b.byte) b.bits b.held u → Putting s at fs u q rest
    holding-ends p = putting-more g p
