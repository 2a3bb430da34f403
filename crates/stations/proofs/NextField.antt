-- The next station of the fields of IDs that keep the rule: looked for by its number n it is the ID number n, where n is 2 or more and there is one;
-- octet 4's index finds the same. Assumes nothing.
use Prim.Native.Nat.{ℕ, zero, suc, ◌+◌, ◌-◌, ◌≤◌, ◌<◌}
use mathlib.Core.Bool.{Bool, true, cond}
use mathlib.Core.List.{List, [], ◌∷◌, ◌++◌, append_assoc}
use mathlib.Core.Path.{◌≡◌, refl, sym, ap, ap₂, ◌∙◌}
use native.Mathlib.Omega.{arith}
use borrow.Author.Tests.{eq-eqb, ne_eqb}
use lib.Dec.{eqb}
use lib.ListN.{length, get_or, take, length-append}
use Rattle.common.proofs.Bools.{or_right, or_none, and_both}
use Rattle.ids.specs.Id.{valid_id}
use Rattle.stations.proofs.IdList.{closing, pass_id}
use Rattle.stations.proofs.Offset.{Found}
use Rattle.stations.proofs.Search.{here, next_after_found, next_after_source, next_after_here, next_after_other, by_index}
use Rattle.stations.specs.Fields.{no_next, malformed, next_after, closed_at, stations_from, stations_of}
use Rattle.stations.specs.IdList.{fields_of, all_valid, field_of, index_of}
use Rattle.stations.specs.declared.Next.{Next}
use Rattle.stations.specs.declared.Stations.{Stations}
use Rattle.sums.specs.Sum.{next_station_sum}

-- the ID number n as the next station
abbrev pub next_of : ℕ → List (List ℕ) → Next
next_of n is = record { number = n; index = index_of n is; sum = next_station_sum (field_of (get_or is (n - 1) [])) }

closed_next : (p m : ℕ) (x : Next) → (m ≡ 0 → ⊥) → (closed_at p m x).next ≡ x
unfolding closed_at
closed_next p m x h = ap (λ (b : Bool). (cond b malformed (record { end = p + 1; count = m; next = x })).next) (ne_eqb m 0 h)

-- the fields are never empty
pub fields_some : (is : List (List ℕ)) → 0 < length (fields_of is)
unfolding fields_of
fields_some [] = omega arith
fields_some (i ∷ is) = omega arith

module _ (w n : ℕ) (t : List ℕ) where
  -- one ID passed
  pass : (p m : ℕ) (x : Next) (i : List ℕ) (is : List (List ℕ)) → valid_id i ≡ true
      → stations_from w n p m x 0 (fields_of (i ∷ is) ++ t) ≡ stations_from w n (p + 1 + length i) (m + 1) (next_after w n p (m + 1) (field_of i) x) 0 (fields_of is ++ t)
  unfolding fields_of
  pass p m x i is g =
      ap (λ (s : List ℕ). stations_from w n p m x 0 (length i ∷ s)) (append_assoc i (fields_of is) t) ∙ pass_id w n t p m x i (fields_of is ++ t) g

  -- what was found stays
  kept : (p m : ℕ) (x : Next) (is : List (List ℕ)) → (m + length is ≡ 0 → ⊥) → Found x → all_valid is ≡ true
      → (stations_from w n p m x 0 (fields_of is ++ t)).next ≡ x
  unfolding fields_of all_valid
  kept p m x [] h f g = ap (λ (r : Stations). r.next) (closing w n t p m x) ∙ closed_next p m x (λ e. h (omega arith))
  kept p m x (i ∷ is) h f g =
      let q = and_both (valid_id i) (all_valid is) g in
      ap (λ (r : Stations). r.next) (pass p m x i is q.0)
      ∙ ap (λ (x : Next). (stations_from w n (p + 1 + length i) (m + 1) x 0 (fields_of is ++ t)).next) (next_after_found w n p (m + 1) (field_of i) x f)
      ∙ kept (p + 1 + length i) (m + 1) x is (λ e. omega arith) f q.1

-- looked for by its number alone
module _ (n : ℕ) (t : List ℕ) where
  -- an ID that is not the one wanted: the source, or one with another number
  not_this : (p m : ℕ) (f : List ℕ) → m ≤ p → (m + 1 ≡ n → m ≡ 0) → next_after 0 n p (m + 1) f no_next ≡ no_next
  not_this p zero f l h = next_after_source 0 n p 1 f refl
  not_this p (suc m) f l h =
      next_after_other 0 n p (suc m + 1) f (λ e. omega arith)
      (or_none (eqb p 0) (eqb (suc m + 1) n) (ne_eqb p 0 (λ e. omega arith)) (ne_eqb (suc m + 1) n (λ e. let z : suc m ≡ 0 = h e in omega arith)))

  -- the ID number n, j IDs on
  found_on : (p m j : ℕ) (is : List (List ℕ)) → n ≡ m + j + 1 → 0 < m + j → m ≤ p → j < length is → all_valid is ≡ true
      → (stations_from 0 n p m no_next 0 (fields_of is ++ t)).next
      ≡ record { number = n; index = p + (length (fields_of (take j is)) - 1); sum = next_station_sum (field_of (get_or is j [])) }
  unfolding all_valid fields_of
  found_on p m j [] e s l h g = absurd (omega arith)
  found_on p m zero (i ∷ is) e s l h g =
      let q = and_both (valid_id i) (all_valid is) g in
      let k : n ≡ m + 1 = omega arith in
      let z : p + 0 ≡ p = omega arith in
      let f : Found (here p (m + 1) (field_of i)) = λ z. omega arith in
      ap (λ (r : Stations). r.next) (pass 0 n t p m no_next i is q.0)
      ∙ ap (λ (x : Next). (stations_from 0 n (p + 1 + length i) (m + 1) x 0 (fields_of is ++ t)).next)
      (next_after_here 0 n p (m + 1) (field_of i) (λ z. omega arith) (or_right (eqb p 0) (eqb (m + 1) n) (eq-eqb (m + 1) n (sym k))))
      ∙ kept 0 n t (p + 1 + length i) (m + 1) (here p (m + 1) (field_of i)) is (λ z. omega arith) f q.1
      ∙ ap₂ (λ (k p : ℕ). record { number = k; index = p; sum = next_station_sum (field_of i) }) (sym k) (sym z)
  found_on p m (suc j) (i ∷ is) e s l h g =
      let q = and_both (valid_id i) (all_valid is) g in
      let a = length-append i (fields_of (take j is)) in
      let b = fields_some (take j is) in
      let z : p + 1 + length i + (length (fields_of (take j is)) - 1) ≡ p + (suc (length (i ++ fields_of (take j is))) - 1) = omega arith in
      ap (λ (r : Stations). r.next) (pass 0 n t p m no_next i is q.0)
      ∙ ap (λ (x : Next). (stations_from 0 n (p + 1 + length i) (m + 1) x 0 (fields_of is ++ t)).next) (not_this p m (field_of i) l (λ c. omega arith))
      ∙ found_on (p + 1 + length i) (m + 1) j is (omega arith) (omega arith) (omega arith) (omega arith) q.1
      ∙ ap (λ (p : ℕ). record { number = n; index = p; sum = next_station_sum (field_of (get_or is j [])) }) z

  -- no ID has the number n
  none_on : (p m : ℕ) (is : List (List ℕ)) → (m + length is ≡ 0 → ⊥) → m ≤ p → ((k : ℕ) → m < k → k ≤ m + length is → k ≡ n → k ≡ 1) → all_valid is ≡ true
      → (stations_from 0 n p m no_next 0 (fields_of is ++ t)).next ≡ no_next
  unfolding all_valid fields_of
  none_on p m [] s l h g = ap (λ (r : Stations). r.next) (closing 0 n t p m no_next) ∙ closed_next p m no_next (λ e. s (omega arith))
  none_on p m (i ∷ is) s l h g =
      let q = and_both (valid_id i) (all_valid is) g in
      ap (λ (r : Stations). r.next) (pass 0 n t p m no_next i is q.0)
      ∙ ap (λ (x : Next). (stations_from 0 n (p + 1 + length i) (m + 1) x 0 (fields_of is ++ t)).next)
      (not_this p m (field_of i) l (λ c. let z : m + 1 ≡ 1 = h (m + 1) (omega arith) (omega arith) c in omega arith))
      ∙ none_on (p + 1 + length i) (m + 1) is (λ e. omega arith) (omega arith) (λ k a b c. h k (omega arith) (omega arith) c) q.1

-- ---- the next ID by its number
module _ (n : ℕ) (is : List (List ℕ)) (t : List ℕ) (g : all_valid is ≡ true) where
  -- "the second or a later ID"
  pub next_number_lem : 2 ≤ n → n ≤ length is → (stations_of 0 n (fields_of is ++ t)).next ≡ next_of n is
  unfolding stations_of
  next_number_lem a b =
      found_on n t 0 0 (n - 1) is (omega arith) (omega arith) (omega arith) (omega arith) g
      ∙ ap (λ (p : ℕ). record { number = n; index = p; sum = next_station_sum (field_of (get_or is (n - 1) [])) }) (omega arith)

  -- 0, the source, and numbers over the number of IDs name none
  pub next_none : (length is ≡ 0 → ⊥) → ((2 ≤ n → length is < n)) → (stations_of 0 n (fields_of is ++ t)).next ≡ no_next
  unfolding stations_of
  next_none s h = none_on n t 0 0 is (λ e. s (omega arith)) (omega arith) (λ k a b c. by k a b c (h)) g
    where
      by : (k : ℕ) → 0 < k → k ≤ 0 + length is → k ≡ n → (2 ≤ n → length is < n) → k ≡ 1
      by zero a b c h = absurd (omega arith)
      by (suc zero) a b c h = refl
      by (suc (suc k)) a b c h = let z : length is < n = h (omega arith) in absurd (omega arith)

  -- the same by its index, as octet 4 has it
  pub next_index : 2 ≤ n → n ≤ length is → stations_of (index_of n is) 0 (fields_of is ++ t) ≡ stations_of 0 n (fields_of is ++ t)
  next_index a b =
      let e = next_number_lem a b in
      let f : Found (stations_of 0 n (fields_of is ++ t)).next = λ z. by (ap (λ (x : Next). x.number) (sym e) ∙ z) in
      ap (λ (x : Next). stations_of x.index 0 (fields_of is ++ t)) (sym e) ∙ by_index 0 n (fields_of is ++ t) f
    where
      by : n ≡ 0 → ⊥
      by z = omega arith
