-- Where the field of an ID stands among the station fields. Assumes nothing.
use mathlib.Core.Path.{◌≡◌, refl, sym, ap, ◌∙◌}
use mathlib.Core.Bool.{true}
use mathlib.Core.List.{List, [], ◌∷◌, ◌++◌, append_assoc, append-nil}
use Prim.Native.Nat.{ℕ, zero, suc, ◌+◌, ◌-◌, ◌≤◌, ◌<◌}
use native.Mathlib.Omega.{arith}
use lib.ListN.{length, get_or, take, drop, length-append, length-drop}
use lib.Seq.{drop_at, drop-drop}
use Rattle.common.proofs.Bools.{and_both}
use Rattle.ids.specs.Id.{valid_id}
use Rattle.stations.specs.IdList.{fields_of, field_of, all_valid}
use Rattle.stations.proofs.IdList.{not_empty}
use Rattle.stations.proofs.NextField.{fields_some}

-- the index of the field behind j IDs
abbrev pub index_after : ℕ → List (List ℕ) → ℕ
index_after j is = length (fields_of (take j is)) - 1

-- one ID passed
fields_pass : (i : List ℕ) (is : List (List ℕ)) (t : List ℕ) → drop (suc (length i)) (fields_of (i ∷ is) ++ t) ≡ fields_of is ++ t
unfolding fields_of
fields_pass i is t = ap (drop (length i)) (append_assoc i (fields_of is) t) ∙ drop_at i (fields_of is ++ t) (length i) refl

pub field_there : (j : ℕ) (is : List (List ℕ)) (t : List ℕ) → j < length is
    → drop (index_after j is) (fields_of is ++ t) ≡ field_of (get_or is j []) ++ (fields_of (drop (suc j) is) ++ t)
unfolding fields_of
field_there j [] t h = absurd (omega arith)
field_there zero (i ∷ is) t h = ap (λ (xs : List ℕ). length i ∷ xs) (append_assoc i (fields_of is) t)
field_there (suc j) (i ∷ is) t h =
    let a = length-append i (fields_of (take j is)) in
    let b = fields_some (take j is) in
    let z : index_after (suc j) (i ∷ is) ≡ suc (length i) + index_after j is = omega arith in
    ap (λ (k : ℕ). drop k (fields_of (i ∷ is) ++ t)) z
    ∙ sym (drop-drop (index_after j is) (suc (length i)) (fields_of (i ∷ is) ++ t))
    ∙ ap (drop (index_after j is)) (fields_pass i is t)
    ∙ field_there j is t (omega arith)

-- behind it stands at least the closing 0
pub field_ends : (j : ℕ) (is : List (List ℕ)) → j < length is → index_after j is + 1 + length (get_or is j []) < length (fields_of is)
field_ends j is h =
    let e : length (fields_of is) - index_after j is ≡ suc (length (get_or is j []) + length (fields_of (drop (suc j) is))) =
    ap (λ (xs : List ℕ). length xs - index_after j is) (sym (append-nil (fields_of is)))
    ∙ sym (length-drop (index_after j is) (fields_of is ++ []))
    ∙ ap length (field_there j is [] h)
    ∙ ap suc (length-append (get_or is j []) (fields_of (drop (suc j) is) ++ []) ∙ ap (λ (xs : List ℕ). length (get_or is j []) + length xs) (append-nil (fields_of (drop (suc j) is)))) in
    let b = fields_some (drop (suc j) is) in
    omega arith

-- an ID of a list that keeps the rule keeps it
pub valid_at : (j : ℕ) (is : List (List ℕ)) → all_valid is ≡ true → j < length is → valid_id (get_or is j []) ≡ true
unfolding all_valid
valid_at j [] g h = absurd (omega arith)
valid_at zero (i ∷ is) g h = (and_both (valid_id i) (all_valid is) g).0
valid_at (suc j) (i ∷ is) g h = valid_at j is (and_both (valid_id i) (all_valid is) g).1 (omega arith)

-- a field behind another begins at index 2 at the earliest
pub index_later : (j : ℕ) (is : List (List ℕ)) → all_valid is ≡ true → 0 < j → j < length is → 2 ≤ index_after j is
unfolding all_valid fields_of
index_later zero is g l h = absurd (omega arith)
index_later (suc j) [] g l h = absurd (omega arith)
index_later (suc j) (i ∷ is) g l h =
    let a = length-append i (fields_of (take j is)) in
    let b = fields_some (take j is) in
    let c = not_empty i (and_both (valid_id i) (all_valid is) g).0 in
    omega (arith, c)
