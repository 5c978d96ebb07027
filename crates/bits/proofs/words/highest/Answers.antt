-- Two shifts are one.
use Rattle.std.proofs.Common.{◌≡◌, sym, ap, subst, ◌∙◌, ℕ, ◌+◌, ◌-◌, ◌/◌, ◌<◌, ◌^◌, arith}
use lib.Pow.{shr-shr, shr_lt}
use Rattle.bits.proofs.words.highest.Goals as goal

pub returns-clause-is : goal.returns-clause-is
returns-clause-is c =
    let a = c.args in
    let all : 1 + (63 - a.n) ≡ 64 - a.n = omega arith in
    shr-shr a.word 1 (63 - a.n) ∙ ap (λ (k : ℕ). a.word / 2 ^ k) all

pub returns-clause-fits : goal.returns-clause-fits
returns-clause-fits c =
    let a = c.args in
    let all : 1 + (63 - a.n) ≡ 64 - a.n = omega arith in
    let parts : 64 ≡ a.n + (64 - a.n) = omega arith in
    subst (λ (x : ℕ). x < 2 ^ a.n) (sym (shr-shr a.word 1 (63 - a.n) ∙ ap (λ (k : ℕ). a.word / 2 ^ k) all))
    (shr_lt a.n (64 - a.n) (subst (λ (k : ℕ). a.word < 2 ^ k) parts c.ranges.word.fits))
