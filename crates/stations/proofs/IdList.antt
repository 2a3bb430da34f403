-- A list of IDs and its station fields determine each other. Assumes nothing.
use Prim.Native.Nat.{ℕ, zero, suc, ◌+◌}
use mathlib.Core.Bool.{Bool, true, false, cond, ◌&&◌}
use mathlib.Core.List.{List, [], ◌∷◌, ◌++◌, append_assoc}
use mathlib.Core.Path.{◌≡◌, refl, sym, ap, ap₂, ◌∙◌}
use native.Mathlib.Omega.{arith}
use borrow.Author.Tests.{eqb-true, ne_eqb}
use lib.Dec.{eqb}
use lib.ListN.{length, take, length-append}
use lib.Seq.{length-take-le, take_at, drop_at}
use Rattle.common.proofs.Bools.{and_both}
use Rattle.ids.specs.Id.{valid_id, callsign_length}
use Rattle.stations.proofs.Extent.{Accepted, on-length-ind, stations_from_ends}
use Rattle.stations.proofs.Fields.{stations_from_skip}
use Rattle.stations.specs.Fields.{no_next, malformed, next_after, closed_at, stations_from, stations_of}
use Rattle.stations.specs.IdList.{fields_of, ids_from, ids_of, all_valid}
use Rattle.stations.specs.declared.Next.{Next}
use Rattle.stations.specs.declared.Stations.{Stations}

-- ---- station fields and their IDs
abbrev Whole : (p m : ℕ) → List (List ℕ) → List ℕ → List ℕ → Stations → Type 0
Whole p m is t s r = Accepted r → r.end ≡ p + length s → (t ++ fields_of is ≡ s) × (r.count ≡ m + length is)

no_more : (n : ℕ) (s : List ℕ) → length s ≡ 0 → s ≡ []
no_more n [] h = refl
no_more n (x ∷ s) h = absurd (omega arith)

closed_whole : (p m : ℕ) (x : Next) (a : ℕ) (s : List ℕ) → a ≡ 0 → Whole p m [] [] (a ∷ s) (closed_at p m x)
unfolding closed_at fields_of
closed_whole p m x a s z = by (eqb m 0)
  where
    by : (b : Bool) → Whole p m [] [] (a ∷ s) (cond b malformed (record { end = p + 1; count = m; next = x }))
    by true h e = absurd (h refl)
    by false h e =
        let i : s ≡ [] = no_more m s (omega arith) in
        (ap₂ (λ (a : ℕ) (s : List ℕ). a ∷ s) (sym z) (sym i), omega arith)

ids_none : (a : ℕ) (s : List ℕ) → eqb a 0 ≡ true → ids_from 0 (a ∷ s) ≡ []
unfolding ids_from
ids_none a s e = ap (λ (b : Bool). cond b [] (take a s ∷ ids_from a s)) e

ids_some : (a : ℕ) (s : List ℕ) → eqb a 0 ≡ false → ids_from 0 (a ∷ s) ≡ take a s ∷ ids_from a s
unfolding ids_from
ids_some a s e = ap (λ (b : Bool). cond b [] (take a s ∷ ids_from a s)) e

ids_skip : (k a : ℕ) (s : List ℕ) → ids_from (suc k) (a ∷ s) ≡ ids_from k s
unfolding ids_from
ids_skip k a s = refl

fields_cons : (i : List ℕ) (is : List (List ℕ)) → fields_of (i ∷ is) ≡ length i ∷ (i ++ fields_of is)
unfolding fields_of
fields_cons i is = refl

stations_from_whole : (w n p m : ℕ) (x : Next) (k : ℕ) (s : List ℕ) → Whole p m (ids_from k s) (take k s) s (stations_from w n p m x k s)
unfolding stations_from
stations_from_whole w n p m x k [] h e = absurd (h refl)
stations_from_whole w n p m x (suc k) (a ∷ s) h e =
    let q = stations_from_whole w n (p + 1) m x k s h (omega arith) in
    rw (ids_skip k a s) (ap (λ (t : List ℕ). a ∷ t) q.0, q.1)
stations_from_whole w n p m x zero (a ∷ s) h₀ e₀ =
    on-length-ind (Whole p m (ids_from 0 (a ∷ s)) [] (a ∷ s)) (eqb a 0) (valid_id (take a s)) (closed_at p m x)
    (stations_from w n (p + 1) (m + 1) (next_after w n p (m + 1) (a ∷ take a s) x) a s)
    (λ z. rw (ids_none a s z) (closed_whole p m x a s (eqb-true a 0 z)))
    (λ z g h e.
    let b = stations_from_ends w n (p + 1) (m + 1) (next_after w n p (m + 1) (a ∷ take a s) x) a s h in
    let q = stations_from_whole w n (p + 1) (m + 1) (next_after w n p (m + 1) (a ∷ take a s) x) a s h (omega arith) in
    let l : length (take a s) ≡ a = length-take-le a s (omega arith) in
    rw (ids_some a s z) (fields_cons (take a s) (ids_from a s) ∙ ap₂ (λ (a : ℕ) (t : List ℕ). a ∷ t) l q.0, omega arith))
    (λ h. absurd (h refl))
    h₀ e₀

module _ (w n : ℕ) (s : List ℕ) (a : Accepted (stations_of w n s)) (e : (stations_of w n s).end ≡ length s) where
  pub fields_ids : fields_of (ids_of s) ≡ s
  unfolding stations_of
  fields_ids = (stations_from_whole w n 0 0 no_next 0 s a (omega arith)).0

  pub count_ids : (stations_of w n s).count ≡ length (ids_of s)
  unfolding stations_of
  count_ids = let q = stations_from_whole w n 0 0 no_next 0 s a (omega arith) in omega arith

-- ---- the IDs of accepted fields keep the rule, and IDs that keep it come back from their fields
abbrev Valid : List (List ℕ) → Stations → Type 0
Valid is r = Accepted r → all_valid is ≡ true

valid_cons : (i : List ℕ) (is : List (List ℕ)) → valid_id i ≡ true → all_valid is ≡ true → all_valid (i ∷ is) ≡ true
unfolding all_valid
valid_cons i is g h = ap₂ (λ (a b : Bool). a && b) g h

valid_none : all_valid [] ≡ true
unfolding all_valid
valid_none = refl

stations_from_valid : (w n p m : ℕ) (x : Next) (k : ℕ) (s : List ℕ) → Valid (ids_from k s) (stations_from w n p m x k s)
unfolding stations_from
stations_from_valid w n p m x k [] h = absurd (h refl)
stations_from_valid w n p m x (suc k) (a ∷ s) h = rw (ids_skip k a s) (stations_from_valid w n (p + 1) m x k s h)
stations_from_valid w n p m x zero (a ∷ s) h₀ =
    on-length-ind (Valid (ids_from 0 (a ∷ s))) (eqb a 0) (valid_id (take a s)) (closed_at p m x)
    (stations_from w n (p + 1) (m + 1) (next_after w n p (m + 1) (a ∷ take a s) x) a s)
    (λ z h. rw (ids_none a s z) valid_none)
    (λ z g h. rw (ids_some a s z) (valid_cons (take a s) (ids_from a s) g (stations_from_valid w n (p + 1) (m + 1) (next_after w n p (m + 1) (a ∷ take a s) x) a s h)))
    (λ h. absurd (h refl))
    h₀

pub ids_valid : (w n : ℕ) (s : List ℕ) → Accepted (stations_of w n s) → all_valid (ids_of s) ≡ true
unfolding stations_of
ids_valid w n s a = stations_from_valid w n 0 0 no_next 0 s a

ids_pass : (i t : List ℕ) → ids_from (length i) (i ++ t) ≡ ids_from 0 t
ids_pass [] t = refl
ids_pass (a ∷ i) t = ids_skip (length i) a (i ++ t) ∙ ids_pass i t

pub not_empty : (i : List ℕ) → valid_id i ≡ true → length i ≡ 0 → ⊥
unfolding valid_id callsign_length
not_empty [] g z = let y : ◌≡◌ {A = ℕ} 0 1 = cc in omega arith
not_empty (a ∷ i) g z = omega arith

pub ids_fields : (is : List (List ℕ)) → all_valid is ≡ true → ids_of (fields_of is) ≡ is
unfolding fields_of all_valid
ids_fields [] g = ids_none 0 [] refl
ids_fields (i ∷ is) g =
    let q = and_both (valid_id i) (all_valid is) g in
    ids_some (length i) (i ++ fields_of is) (ne_eqb (length i) 0 (not_empty i q.0))
    ∙ ap₂ (λ (i : List ℕ) (is : List (List ℕ)). i ∷ is) (take_at i (fields_of is) (length i) refl) (ids_pass i (fields_of is) ∙ ids_fields is q.1)

-- ---- the fields of IDs that keep the rule are accepted, whatever stands behind them
closed_end : (p m : ℕ) (x : Next) → (m ≡ 0 → ⊥) → (closed_at p m x).end ≡ p + 1
unfolding closed_at
closed_end p m x h = ap (λ (b : Bool). (cond b malformed (record { end = p + 1; count = m; next = x })).end) (ne_eqb m 0 h)

module _ (w n : ℕ) (t : List ℕ) where
  pub closing : (p m : ℕ) (x : Next) → stations_from w n p m x 0 (0 ∷ t) ≡ closed_at p m x
  unfolding stations_from
  closing p m x = refl

  pub pass_id : (p m : ℕ) (x : Next) (i rest : List ℕ) → valid_id i ≡ true
      → stations_from w n p m x 0 (length i ∷ (i ++ rest)) ≡ stations_from w n (p + 1 + length i) (m + 1) (next_after w n p (m + 1) (length i ∷ i) x) 0 rest
  unfolding stations_from
  pass_id p m x i rest g =
      let z : eqb (length i) 0 ≡ false = ne_eqb (length i) 0 (not_empty i g) in
      let e : take (length i) (i ++ rest) ≡ i = take_at i rest (length i) refl in
      let y = next_after w n p (m + 1) (length i ∷ i) x in
      let l = length-append i rest in
      rw (e, z, g) (stations_from_skip w n (p + 1) (m + 1) y (length i) (i ++ rest) (omega arith)
      ∙ ap (stations_from w n (p + 1 + length i) (m + 1) y 0) (drop_at i rest (length i) refl))

  from_end : (p m : ℕ) (x : Next) (is : List (List ℕ)) → (m + length is ≡ 0 → ⊥) → all_valid is ≡ true
      → (stations_from w n p m x 0 (fields_of is ++ t)).end ≡ p + length (fields_of is)
  unfolding fields_of all_valid
  from_end p m x [] h g = ap (λ (r : Stations). r.end) (closing p m x) ∙ closed_end p m x (λ e. h (omega arith))
  from_end p m x (i ∷ is) h g =
      let q = and_both (valid_id i) (all_valid is) g in
      let y = next_after w n p (m + 1) (length i ∷ i) x in
      let l = length-append i (fields_of is) in
      ap (λ (s : List ℕ). (stations_from w n p m x 0 (length i ∷ s)).end) (append_assoc i (fields_of is) t)
      ∙ ap (λ (r : Stations). r.end) (pass_id p m x i (fields_of is ++ t) q.0)
      ∙ from_end (p + 1 + length i) (m + 1) y is (λ e. omega arith) q.1
      ∙ omega arith

pub fields_end : (w n : ℕ) (is : List (List ℕ)) (t : List ℕ) → (length is ≡ 0 → ⊥) → all_valid is ≡ true → (stations_of w n (fields_of is ++ t)).end ≡ length (fields_of is)
unfolding stations_of
fields_end w n is t h g = from_end w n t 0 0 no_next is (λ e. h (omega arith)) g ∙ omega arith
