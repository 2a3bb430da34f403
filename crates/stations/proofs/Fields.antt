-- Laws of the station fields at an index of a list, for field_at and the loop of parse. Assumes nothing.
use mathlib.Core.Path.{◌≡◌, refl, sym, ap, ap₂, ◌∙◌, subst}
use mathlib.Core.Bool.{Bool, true, false, cond, ◌&&◌}
use mathlib.Core.List.{List, [], ◌∷◌}
use Prim.Native.Nat.{ℕ, zero, suc, ◌+◌, ◌-◌, ◌≤◌, ◌<◌}
use native.Mathlib.Numerals.{add-one}
use native.Mathlib.Omega.{arith}
use borrow.Author.Tests.{le-leb, lt-leb, lt-ltb, le-ltb, eq-eqb, ne_eqb, leb-false, ltb-false, eqb-false, leb-true, ltb-true}
use lib.Dec.{leb, ltb, eqb}
use lib.ListN.{length, get_or, take, drop, drop_of_length-le, length-drop}
use lib.Seq.{drop-cons, drop-drop}
use Rattle.ids.specs.Id.{valid_id}
use Rattle.stations.specs.Fields.{no_next, malformed, next_after, closed_at, on_length, stations_from, stations_of}
use Rattle.stations.specs.FieldAt.{length_at, behind_at, is_closing, is_id_at, field_at}
use Rattle.stations.specs.declared.Next.{Next}
use Rattle.stations.specs.declared.Stations.{Stations}
use Rattle.stations.specs.declared.Field.{Field}
use Rattle.stations.specs.declared.Field.TheVariants.{Closing, Id, Malformed}

-- ---- the answers of field_at, in the order of its tests
module _ (s : List ℕ) (p : ℕ) where
  abbrev tested : (late none over valid : Bool) → Field
  tested late none over valid = cond late Malformed (cond none Closing (cond over Malformed (cond valid (Id (behind_at s p)) Malformed)))

  abbrev id : List ℕ
  id = take (length_at s p) (drop (p + 1) s)

  field_tests : field_at s p ≡ tested (leb (length s) p) (eqb (length_at s p) 0) (ltb (length s - (p + 1)) (length_at s p)) (valid_id id)
  unfolding field_at is_closing is_id_at
  field_tests = by (leb (length s) p) (eqb (length_at s p) 0) (ltb (length s - (p + 1)) (length_at s p)) refl refl refl
    where
      by : (a b c : Bool) → leb (length s) p ≡ a → eqb (length_at s p) 0 ≡ b → ltb (length s - (p + 1)) (length_at s p) ≡ c
          → cond (ltb p (length s) && eqb (length_at s p) 0) Closing (cond (leb (behind_at s p) (length s) && valid_id id) (Id (behind_at s p)) Malformed) ≡ tested a b c (valid_id id)
      by true b c i j k =
          let h = leb-true (length s) p i in
          rw (le-ltb p (length s) h, lt-leb (behind_at s p) (length s) (omega arith))
      by false true c i j k = let h = leb-false (length s) p i in rw (lt-ltb p (length s) h, j)
      by false false true i j k =
          let h = leb-false (length s) p i in
          let o = ltb-true (length s - (p + 1)) (length_at s p) k in
          rw (lt-ltb p (length s) h, j, lt-leb (behind_at s p) (length s) (omega arith))
      by false false false i j k =
          let h = leb-false (length s) p i in
          let o = ltb-false (length s - (p + 1)) (length_at s p) k in
          rw (lt-ltb p (length s) h, j, le-leb (behind_at s p) (length s) (omega arith))

  pub field_late : length s ≤ p → Malformed ≡ field_at s p
  field_late h = sym (field_tests ∙ simp (le-leb (length s) p h))

  module _ (n : ℕ) (h : p < length s) (d : n ≡ get_or s p 0) where
    pub field_closing : n ≡ 0 → Closing ≡ field_at s p
    field_closing z = sym (field_tests ∙ simp (lt-leb (length s) p h, ← d, eq-eqb n 0 z))

    module _ (z : n ≡ 0 → ⊥) where
      pub field_over : length s - (p + 1) < n → Malformed ≡ field_at s p
      field_over o = sym (field_tests ∙ simp (lt-leb (length s) p h, ← d, ne_eqb n 0 z, lt-ltb (length s - (p + 1)) n o))

      module _ (o : n ≤ length s - (p + 1)) (r : Bool) (g : r ≡ valid_id (take (p + 1 + n - (p + 1)) (drop (p + 1) s))) where
        is-good : r ≡ valid_id (take n (drop (p + 1) s))
        is-good = let e : p + 1 + n - (p + 1) ≡ n = omega arith in g ∙ rw e

        opened : field_at s p ≡ cond r (Id (p + 1 + n)) Malformed
        opened = field_tests ∙ simp (lt-leb (length s) p h, ← d, ne_eqb n 0 z, le-ltb (length s - (p + 1)) n o, ← is-good)

        -- the ID decides
        pub field-last : (r ≡ true → Id (p + 1 + n) ≡ field_at s p) × (r ≡ false → Malformed ≡ field_at s p)
        field-last = (λ t. sym (opened ∙ rw t), λ t. sym (opened ∙ rw t))

-- ---- octets of an ID passed at once
pub stations_from_skip : (w n p m : ℕ) (x : Next) (k : ℕ) (s : List ℕ) → k ≤ length s → stations_from w n p m x k s ≡ stations_from w n (p + k) m x 0 (drop k s)
unfolding stations_from
stations_from_skip w n p m x zero s h = let z : p + 0 ≡ p = omega arith in rw z
stations_from_skip w n p m x (suc k) [] h = absurd (omega arith)
stations_from_skip w n p m x (suc k) (a ∷ s) h = let z : p + suc k ≡ p + 1 + k = omega arith in rw z (stations_from_skip w n (p + 1) m x k s (omega arith))

stations_from_short : (w n p m : ℕ) (x : Next) (k : ℕ) (s : List ℕ) → length s < k → stations_from w n p m x k s ≡ malformed
unfolding stations_from
stations_from_short w n p m x zero s h = absurd (omega arith)
stations_from_short w n p m x (suc k) [] h = refl
stations_from_short w n p m x (suc k) (a ∷ s) h = stations_from_short w n (p + 1) m x k s (omega arith)

-- ---- one field more, by what stands at its index
module _ (w n : ℕ) (s : List ℕ) (p m : ℕ) (x : Next) where
  abbrev a : ℕ
  a = get_or s p 0

  abbrev rest : List ℕ
  rest = drop (p + 1) s

  abbrev on : Stations
  on = stations_from w n (p + 1) (m + 1) (next_after w n p (m + 1) (a ∷ take a rest) x) a rest

  split : p < length s → drop p s ≡ a ∷ rest
  split h = rw (add-one p) (drop-cons s p 0 h)

  stations_from_none : length s ≤ p → stations_from w n p m x 0 (drop p s) ≡ malformed
  unfolding stations_from
  stations_from_none h = ap (stations_from w n p m x 0) (drop_of_length-le s h)

  stations_from-on_length : p < length s → stations_from w n p m x 0 (drop p s) ≡ on_length (eqb a 0) (valid_id (take a rest)) (closed_at p m x) on
  unfolding stations_from
  stations_from-on_length h = ap (stations_from w n p m x 0) (split h)

  -- what the cases of a field come to
  abbrev Steps : Field → Stations → Type 0
  Steps Malformed r = r ≡ malformed
  Steps Closing r = r ≡ closed_at p m x
  Steps (Id q) r = (q ≤ length s) × (p + 2 ≤ q) × (r ≡ stations_from w n q (m + 1) (next_after w n p (m + 1) (take (q - p) (drop p s)) x) 0 (drop q s))

  inner : p < length s → (b c g : Bool) → eqb a 0 ≡ b → ltb (length s - (p + 1)) a ≡ c → valid_id (take a rest) ≡ g
      → Steps (cond b Closing (cond c Malformed (cond g (Id (p + 1 + a)) Malformed))) (on_length b g (closed_at p m x) on)
  inner h true c g i j k = refl
  inner h false true true i j k = stations_from_short w n (p + 1) (m + 1) (next_after w n p (m + 1) (a ∷ take a rest) x) a rest (rw (length-drop (p + 1) s) (ltb-true (length s - (p + 1)) a j))
  inner h false true false i j k = refl
  inner h false false false i j k = refl
  inner h false false true i j k =
      let o : a ≤ length s - (p + 1) = ltb-false (length s - (p + 1)) a j in
      let z : a ≡ 0 → ⊥ = eqb-false a 0 i in
      let y : p + 1 + a - p ≡ suc a = omega arith in
      let t : take (p + 1 + a - p) (drop p s) ≡ a ∷ take a rest = ap₂ (λ (k : ℕ) (l : List ℕ). take k l) y (split h) in (
        omega arith,
        omega (arith, z),
        rw t (stations_from_skip w n (p + 1) (m + 1) (next_after w n p (m + 1) (a ∷ take a rest) x) a rest (rw (length-drop (p + 1) s) o)
            ∙ ap (stations_from w n (p + 1 + a) (m + 1) (next_after w n p (m + 1) (a ∷ take a rest) x) 0) (drop-drop a (p + 1) s)),
      )

  field_steps : Steps (field_at s p) (stations_from w n p m x 0 (drop p s))
  field_steps = subst (λ (v : Field). Steps v (stations_from w n p m x 0 (drop p s))) (sym (field_tests s p)) (by (leb (length s) p) refl)
    where
      by : (b : Bool) → leb (length s) p ≡ b
          → Steps (cond b Malformed (cond (eqb a 0) Closing (cond (ltb (length s - (p + 1)) a) Malformed (cond (valid_id (take a rest)) (Id (p + 1 + a)) Malformed)))) (stations_from w n p m x 0 (drop p s))
      by true i = stations_from_none (leb-true (length s) p i)
      by false i =
          let h : p < length s = leb-false (length s) p i in
          rw (stations_from-on_length h) (inner h (eqb a 0) (ltb (length s - (p + 1)) a) (valid_id (take a rest)) refl refl refl)

  -- the same from the answer of field_at, for the loop
  module _ (all : Stations) (inv : stations_from w n p m x 0 (drop p s) ≡ all) (v : Field) (e : v ≡ field_at s p) where
    field_stepped : Steps v all
    field_stepped = rw (e, ← inv) field_steps

pub on-length-bad : (w n : ℕ) (s : List ℕ) (p m : ℕ) (x : Next) (all : Stations) → stations_from w n p m x 0 (drop p s) ≡ all → Malformed ≡ field_at s p → malformed ≡ all
on-length-bad w n s p m x all inv e = sym (field_stepped w n s p m x all inv Malformed e)

pub on-length-closing : (w n : ℕ) (s : List ℕ) (p m : ℕ) (x : Next) (all : Stations) → stations_from w n p m x 0 (drop p s) ≡ all → Closing ≡ field_at s p → closed_at p m x ≡ all
on-length-closing w n s p m x all inv e = sym (field_stepped w n s p m x all inv Closing e)

pub on-length-id : (w n : ℕ) (s : List ℕ) (p m : ℕ) (x : Next) (all : Stations) → stations_from w n p m x 0 (drop p s) ≡ all → (q : ℕ) → Id q ≡ field_at s p
    → (q ≤ length s) × (p + 2 ≤ q) × (stations_from w n q (m + 1) (next_after w n p (m + 1) (take (q - p) (drop p s)) x) 0 (drop q s) ≡ all)
on-length-id w n s p m x all inv q e = let t = field_stepped w n s p m x all inv (Id q) e in (t.0, t.1, sym t.2)

pub id_within : (s : List ℕ) (p q : ℕ) → Id q ≡ field_at s p → (q ≤ length s) × (p + 2 ≤ q)
id_within s p q e = let t = on-length-id 0 0 s p 0 no_next (stations_from 0 0 p 0 no_next 0 (drop p s)) refl q e in (t.0, t.1)

pub closed_none : (p m : ℕ) (x : Next) → m ≡ 0 → closed_at p m x ≡ malformed
unfolding closed_at
closed_none p m x h = ap (λ (b : Bool). cond b malformed (record { end = p + 1; count = m; next = x })) (eq-eqb m 0 h)

pub closed_some : (p m : ℕ) (x : Next) → (m ≡ 0 → ⊥) → closed_at p m x ≡ record { end = p + 1; count = m; next = x }
unfolding closed_at
closed_some p m x h = ap (λ (b : Bool). cond b malformed (record { end = p + 1; count = m; next = x })) (ne_eqb m 0 h)

pub stations_from_starts : (w n : ℕ) (s : List ℕ) → stations_from w n 0 0 no_next 0 (drop 0 s) ≡ stations_of w n s
unfolding stations_of
stations_from_starts w n s = refl
