-- A field put part by part, a byte's bits at a time: two puts, one after the other, are one. Assumes nothing.
use mathlib.Core.Path.{◌≡◌, refl, sym, ap, ◌∙◌, subst, subst₂}
use mathlib.Core.List.{List}
use Prim.Native.Nat.{ℕ, ◌+◌, ◌-◌, ◌*◌, ◌/◌, ◌%◌, ◌^◌, ◌≤◌, ◌<◌}
use native.Mathlib.Nat.{div-eq_of_lt, div-one}
use native.Mathlib.Omega.{arith}
use Rattle.bits.specs.Put.{Put, InByte}
use Rattle.bits.proofs.Shifts.{next-bits}
use Rattle.bits.proofs.Puts.{put-none, put-put}

-- t has all bits of the value but the `left` lowest
pub record PutSoFar (s : List ℕ) (at₀ width value : ℕ) (t : List ℕ) (at left : ℕ) : Type 0 where
  pub fewer : left ≤ width
  pub place : at + left ≡ at₀ + width
  pub done : Put s at₀ (width - left) (value / 2 ^ left) t

-- none is put
pub starts : (s : List ℕ) (at width value : ℕ) → value < 2 ^ width → PutSoFar s at width value s at width
starts s at width value h =
    let none : 0 ≡ width - width = omega arith in record {
      fewer = omega arith;
      place = refl;
      done = subst₂ (λ (w v : ℕ). Put s at w v s) none (sym (div-eq_of_lt h)) (put-none s at);
    }

-- n more are put
pub goes_on : {s : List ℕ} {at₀ width value : ℕ} {t : List ℕ} {at left n part : ℕ} {u : List ℕ}
    → PutSoFar s at₀ width value t at left → InByte at left n → part ≡ value / 2 ^ (left - n) % 2 ^ n
    → Put t at n part u → PutSoFar s at₀ width value u (at + n) (left - n)
goes_on {s} {at₀} {width} {value} {t} {at} {left} {n} {part} {u} p r e q =
    let here : at ≡ at₀ + (width - left) = omega arith in
    let sum : width - left + n ≡ width - (left - n) = omega arith in
    let next = next-bits value left n r.most in
    let bits : value / 2 ^ left * 2 ^ n + part ≡ value / 2 ^ (left - n) = rw e next in record {
      fewer = omega arith;
      place = omega arith;
      done =
          subst₂ (λ (w v : ℕ). Put s at₀ w v u) sum bits
          (put-put p.done (subst (λ (x : ℕ). Put t x n part u) here q));
    }

-- all are put
pub ends : {s : List ℕ} {at₀ width value : ℕ} {t : List ℕ} {at left : ℕ} → PutSoFar s at₀ width value t at left
    → left ≡ 0 → Put s at₀ width value t
ends {s} {at₀} {width} {value} {t} {at} {left} p e =
    let all : width - left ≡ width = omega arith in
    subst₂ (λ (w v : ℕ). Put s at₀ w v t) all (ap (λ (k : ℕ). value / 2 ^ k) e ∙ div-one value) p.done
