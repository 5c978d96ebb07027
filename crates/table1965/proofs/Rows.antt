-- The code's rows joined end to end are the matrix, and each has seven coefficients. Assumes nothing.
use Rattle.std.proofs.Common.{◌≡◌, refl, sym, ap, ◌∙◌, Bool, true, eqb, List, [], ◌∷◌, length, get_or, ℕ, zero, suc, ◌+◌, ◌-◌, ◌*◌, ◌<◌, ◌≤◌, ℤ, pos, eqb-true, zero-add, arith}
use Rattle.std.specs.List.{flat_map, list_all}
use Rattle.std.proofs.lemmas.List.{get_or_append_left, get_or-append_right}
use Rattle.laws.proofs.Tests.{both}
use Rattle.plan.specs.Matrix.{first_column, last_column, coefficient}
use Rattle.table1965.specs.declared.matrix.TheConstants.{MATRIX}

-- whether each row has seven
abbrev sevens : List (List ℤ) → Bool
sevens rows = list_all (λ r. eqb (length r) 7) rows

abbrev end_to_end : List (List ℤ) → List ℤ
end_to_end rows = flat_map (λ r. r) rows

-- of rows of seven each, joined end to end, row i begins at i × 7
row-at : (rows : List (List ℤ)) → sevens rows ≡ true → (i k : ℕ) → i < length rows → k < 7
    → get_or (end_to_end rows) (i * 7 + k) (pos 0) ≡ get_or (get_or rows i []) k (pos 0)
row-at [] e i k h w = absurd (omega (arith, h))
row-at (r ∷ rows) e zero k h w =
    let seven = eqb-true (length r) 7 (both (eqb (length r) 7) (sevens rows) e).0 in
    ap (λ (n : ℕ). get_or (end_to_end (r ∷ rows)) n (pos 0)) (zero-add k) ∙ get_or_append_left r (end_to_end rows) (pos 0) k (omega (arith, seven))
row-at (r ∷ rows) e (suc i) k h w =
    let b = both (eqb (length r) 7) (sevens rows) e in
    get_or-append_right r (end_to_end rows) 7 (suc i * 7 + k) (pos 0) (eqb-true (length r) 7 b.0) (omega arith)
    ∙ ap (λ (n : ℕ). get_or (end_to_end rows) n (pos 0)) (omega arith)
    ∙ row-at rows b.1 i k (omega (arith, h)) w

-- the code's rows
pub row_is : (column k : ℕ) → first_column ≤ column → column ≤ last_column → k < 7
    → get_or (get_or MATRIX (column - first_column) []) k (pos 0) ≡ coefficient column k
row_is column k l u w = sym (row-at MATRIX refl (column - first_column) k (omega arith) w)
