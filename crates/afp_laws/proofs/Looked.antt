-- Who a frame is for next depends on its length and on the octets that are looked at, and on nothing else. Assumes nothing.
use mathlib.Core.Path.{◌≡◌, refl, sym, ap, ap₂, ◌∙◌, subst}
use mathlib.Core.Bool.{Bool, true, false, cond, not, ◌&&◌, ◌||◌}
use mathlib.Core.List.{List, [], ◌∷◌, ◌++◌}
use Prim.Native.Nat.{ℕ, zero, suc, ◌+◌, ◌-◌, ◌≤◌, ◌<◌}
use native.Mathlib.Numerals.{add-one}
use native.Mathlib.Omega.{arith}
use borrow.Author.Tests.{le-leb, ltb-false, leb-true, not-false, eqb-true, eqb-false}
use lib.Dec.{leb, ltb, eqb}
use lib.ListN.{length, take, drop, set, length-set}
use lib.Seq.{drop-cons, get_or-set_other}
use Rattle.common.specs.Refusals.{Refusal, guarded}
use Rattle.common.proofs.Bools.{either, or_right, and_both}
use Rattle.common.proofs.Each.{Each, each_map, each-++, each_parts}
use Rattle.common.proofs.Refusals.{Passed, guarded_done, guarded_same}
use Rattle.common.proofs.FirstRefusal.{guarded-++, passed-append}
use Rattle.ids.specs.Id.{between, valid_id}
use Rattle.afp.specs.Answers.{bad_stations, bad_next}
use Rattle.afp.specs.Limits.{min_header, max_header}
use Rattle.afp.specs.Layout.{octet, offset}
use Rattle.afp.specs.Sizes.{length_refusals, offset_refusals}
use Rattle.afp.proofs.Sizes.{length-passed, offset_passed}
use Rattle.afp_receiver.specs.Receiver.{pointer, is_broadcast, id_length, id_pointed_at, field_pointed_at, last_place, first_next, pointer_refusals, end_refusals, id_refusals, sum_refusals, field_refusals, receiver_refusals, pointed_at, receiver_of}
use Rattle.afp_receiver.specs.declared.Receiver.{Receiver}
use Rattle.afp_receiver.specs.declared.Receiver.TheVariants.{Refused, Station}
use Rattle.afp_laws.specs.Receivers.{those, unless, run, field_places, looked_at}

-- ---- places that are looked at unless something is refused
module _ (P : ℕ → Type 0) where
  each_unless : (ts : List Refusal) (is : List ℕ) → (Passed ts → Each P is) → Each P (unless ts is)
  each_unless [] is h = h tt
  each_unless (t ∷ ts) is h = go t.0 (λ q. each_unless ts is (λ p. h (q, p)))
    where
      go : (b : Bool) → (b ≡ false → Each P (unless ts is)) → Each P (cond b [] (unless ts is))
      go true k = tt
      go false k = k refl

  each_passed : (ts : List Refusal) (is : List ℕ) → Passed ts → Each P (unless ts is) → Each P is
  each_passed ts is p = subst (Each P) (guarded_done (λ n. []) is ts p)

  each_run : (i n : ℕ) → ((j : ℕ) → i ≤ j → j < i + n → P j) → Each P (run i n)
  unfolding run
  each_run i zero h = tt
  each_run i (suc n) h = (h i (omega arith) (omega arith), each_run (i + 1) n (λ j a b. h j (omega arith) (omega arith)))

-- ---- what the tests passed say of the places
module _ (f : List ℕ) (a : Passed (length_refusals (length f))) (b : Passed (offset_refusals (offset f) (length f))) where
  sizes : (min_header ≤ offset f) × (offset f ≤ max_header) × (offset f + 2 ≤ length f)
  sizes = offset_passed (offset f) (length f) (length-passed (length f) a).0 b

  module _ (c : Passed (pointer_refusals f)) (z : is_broadcast f ≡ false) where
    pointer_in : (first_next ≤ pointer f) × (pointer f ≤ offset f - 2)
    unfolding pointer_refusals
    pointer_in =
        let e : not (between first_next (offset f - 2) (pointer f)) ≡ false = ap (λ (x : Bool). not (x || between first_next (offset f - 2) (pointer f))) (sym z) ∙ c.0 in
        let q = and_both (leb first_next (pointer f)) (leb (pointer f) (offset f - 2)) (not-false (between first_next (offset f - 2) (pointer f)) e) in
        (leb-true first_next (pointer f) q.0, leb-true (pointer f) (offset f - 2) q.1)

    end_in : Passed (end_refusals f) → last_place f ≤ offset f - 3
    unfolding end_refusals
    end_in e = ltb-false (offset f - 3) (last_place f) (ap (λ (x : Bool). not x && ltb (offset f - 3) (last_place f)) (sym z) ∙ e.0)

-- ---- octets that agree, place by place
module _ (f g : List ℕ) (l : length f ≡ length g) where
  abbrev Same : ℕ → Type 0
  Same i = octet f i ≡ octet g i

  from_place : (h : List ℕ) (i : ℕ) → i < length h → drop i h ≡ octet h i ∷ drop (i + 1) h
  from_place h i b = rw (add-one i) (drop-cons h i 0 b)

  run_same : (i n : ℕ) → i + n ≤ length f → Each Same (run i n) → take n (drop i f) ≡ take n (drop i g)
  unfolding run
  run_same i zero b h = refl
  run_same i (suc n) b h =
      ap (take (suc n)) (from_place f i (omega arith))
      ∙ ap₂ (λ (x : ℕ) (xs : List ℕ). x ∷ xs) h.0 (run_same (i + 1) n (omega arith) h.1)
      ∙ ap (take (suc n)) (sym (from_place g i (omega arith)))

  -- one list of refusals, the same for both frames, and then the next
  abbrev Answers : List Refusal → List Refusal → Type 0
  Answers ts us = guarded ts Refused (pointed_at f) ≡ guarded us Refused (pointed_at g)

  one_list : (ts us : List Refusal) (x y : Receiver) → ts ≡ us → (Passed ts → x ≡ y) → guarded ts Refused x ≡ guarded us Refused y
  one_list ts us x y e h = guarded_same Refused x y ts h ∙ ap (λ (ts : List Refusal). guarded ts Refused y) e

  then_list : (ts us ts' us' : List Refusal) → ts ≡ us → (Passed ts → Answers ts' us') → Answers (ts ++ ts') (us ++ us')
  then_list ts us ts' us' e h =
      guarded-++ Refused (pointed_at f) ts ts'
      ∙ one_list ts us (guarded ts' Refused (pointed_at f)) (guarded us' Refused (pointed_at g)) e h
      ∙ sym (guarded-++ Refused (pointed_at g) us us')

  -- ---- the field, where length, octet 3 and octet 4 agree
  module _ (three : Same 3) (four : Same 4) where
    module _ (z : is_broadcast f ≡ true) where
      broadcast_too : is_broadcast g ≡ true
      broadcast_too = ap (λ (p : ℕ). eqb p 0) (sym four) ∙ z

      nothing_refused : Passed (end_refusals f ++ id_refusals f)
      unfolding end_refusals id_refusals
      nothing_refused = (rw z, (rw z, tt))

      broadcast_same : Each Same (field_places f ++ unless (end_refusals f ++ id_refusals f) (0 ∷ []))
          → Answers (field_refusals f) (field_refusals g)
      unfolding field_refusals end_refusals id_refusals sum_refusals
      broadcast_same h =
          let zero_same = (each_passed Same (end_refusals f ++ id_refusals f) (0 ∷ []) nothing_refused (each_parts Same (field_places f) (unless (end_refusals f ++ id_refusals f) (0 ∷ [])) h).1).0 in
          rw (z, broadcast_too, zero_same)

    module _ (z : is_broadcast f ≡ false) (a : Passed (length_refusals (length f))) (b : Passed (offset_refusals (offset f) (length f))) (c : Passed (pointer_refusals f)) where
      points_too : is_broadcast g ≡ false
      points_too = ap (λ (p : ℕ). eqb p 0) (sym four) ∙ z

      module _ (n : Same (pointer f)) where
        same_length : id_length f ≡ id_length g
        same_length = n ∙ ap (octet g) four

        ends_same : end_refusals f ≡ end_refusals g
        unfolding end_refusals
        ends_same =
            ap₂ (λ (o m : ℕ). (not (is_broadcast f) && ltb (o - 3) m, bad_stations) ∷ []) three (ap₂ (λ (p k : ℕ). p + k) four same_length)
            ∙ ap (λ (x : Bool). (not x && ltb (offset g - 3) (last_place g), bad_stations) ∷ []) (z ∙ sym points_too)

        module _ (e : Passed (end_refusals f)) (ids : Each Same (run (pointer f + 1) (id_length f))) where
          id_same : id_pointed_at f ≡ id_pointed_at g
          id_same =
              let q = sizes f a b in
              let r = pointer_in f a b c z in
              let m = end_in f a b c z e in
              run_same (pointer f + 1) (id_length f) (omega arith) ids ∙ ap₂ (λ (k p : ℕ). take k (drop (p + 1) g)) same_length four

          field_is : (h : List ℕ) → pointer h < length h → field_pointed_at h ≡ id_length h ∷ id_pointed_at h
          field_is h i =
              let k : 1 + id_length h ≡ suc (id_length h) = omega arith in
              ap₂ (λ (n : ℕ) (xs : List ℕ). take n xs) k (from_place h (pointer h) i)

          field-same : field_pointed_at f ≡ field_pointed_at g
          field-same =
              let q = sizes f a b in
              let r = pointer_in f a b c z in
              field_is f (omega arith) ∙ ap₂ (λ (n : ℕ) (xs : List ℕ). n ∷ xs) same_length id_same ∙ sym (field_is g (omega arith))

          rules-same : id_refusals f ≡ id_refusals g
          unfolding id_refusals
          rules-same = ap₂ (λ (x : Bool) (xs : List ℕ). (not x && not (valid_id xs), bad_stations) ∷ []) (z ∙ sym points_too) id_same

          sums_same : Same 0 → sum_refusals f ≡ sum_refusals g
          unfolding sum_refusals
          sums_same o = rw (z, points_too, o, field-same)

          shown_same : pointed_at f ≡ pointed_at g
          shown_same = rw (z, points_too) (ap₂ (λ (p k : ℕ). Station (record { place = p; size = 1 + k })) four same_length)

      station_places : Each Same (field_places f) → Same (pointer f) × Each Same (unless (end_refusals f) (run (pointer f + 1) (id_length f)))
      unfolding field_places
      station_places h = subst (λ (x : Bool). Each Same (cond x [] (pointer f ∷ unless (end_refusals f) (run (pointer f + 1) (id_length f))))) z h

      -- where octet 4 points at a field, the lists on it one after another
      station_same : Each Same (field_places f ++ unless (end_refusals f ++ id_refusals f) (0 ∷ [])) → Answers (field_refusals f) (field_refusals g)
      unfolding field_refusals
      station_same h =
          let q = each_parts Same (field_places f) (unless (end_refusals f ++ id_refusals f) (0 ∷ [])) h in
          let places = station_places q.0 in
          let n = places.0 in
          then_list (end_refusals f) (end_refusals g) (id_refusals f ++ sum_refusals f) (id_refusals g ++ sum_refusals g) (ends_same n) (λ e.
          let ids = each_passed Same (end_refusals f) (run (pointer f + 1) (id_length f)) e places.1 in
          then_list (id_refusals f) (id_refusals g) (sum_refusals f) (sum_refusals g) (rules-same n e ids) (λ r.
          let o = (each_passed Same (end_refusals f ++ id_refusals f) (0 ∷ []) (passed-append (end_refusals f) (id_refusals f) e r) q.1).0 in
          one_list (sum_refusals f) (sum_refusals g) (pointed_at f) (pointed_at g) (sums_same n e ids o) (λ t. shown_same n e ids)))

    fields_same : Passed (length_refusals (length f)) → Passed (offset_refusals (offset f) (length f)) → Passed (pointer_refusals f)
        → Each Same (field_places f ++ unless (end_refusals f ++ id_refusals f) (0 ∷ []))
        → Answers (field_refusals f) (field_refusals g)
    fields_same a b c h = by (is_broadcast f) refl
      where
        by : (x : Bool) → is_broadcast f ≡ x → Answers (field_refusals f) (field_refusals g)
        by true z = broadcast_same z h
        by false z = station_same z a b c h

  -- ---- the whole frame
  pointers_same : Same 3 → Same 4 → pointer_refusals f ≡ pointer_refusals g
  unfolding pointer_refusals
  pointers_same three four =
      ap₂ (λ (o p : ℕ). (not (eqb p 0 || between first_next (o - 2) p), bad_next) ∷ []) three four

  pub looked_decides : Each Same (looked_at f) → receiver_of f ≡ receiver_of g
  unfolding receiver_of receiver_refusals looked_at
  looked_decides h =
      then_list (length_refusals (length f)) (length_refusals (length g))
      (offset_refusals (offset f) (length f) ++ (pointer_refusals f ++ field_refusals f)) (offset_refusals (offset g) (length g) ++ (pointer_refusals g ++ field_refusals g)) (ap length_refusals l) (λ a.
      let h₃ = each_passed Same (length_refusals (length f)) _ a h in
      then_list (offset_refusals (offset f) (length f)) (offset_refusals (offset g) (length g))
      (pointer_refusals f ++ field_refusals f) (pointer_refusals g ++ field_refusals g) (ap₂ offset_refusals h₃.0 l) (λ b.
      let h₄ = each_passed Same (offset_refusals (offset f) (length f)) _ b h₃.1 in
      then_list (pointer_refusals f) (pointer_refusals g) (field_refusals f) (field_refusals g) (pointers_same h₃.0 h₄.0) (λ c.
      fields_same h₃.0 h₄.0 a b c (each_passed Same (pointer_refusals f) _ c h₄.1))))

-- ---- which places are looked at
module _ (f : List ℕ) (P : ℕ → Type 0) where
  -- what holds of octets 0, 3 and 4 and of the places of a field that begins, or begins and ends, where it may
  looked_each : P 0 → P 3 → P 4
      → ((j : ℕ) → is_broadcast f ≡ false → pointer f ≤ j → j ≤ last_place f → j < max_header → P j)
      → Each P (looked_at f)
  unfolding looked_at field_places
  looked_each zeroth third fourth in_field =
      each_unless P (length_refusals (length f)) _ (λ a. (
        third,
        each_unless P (offset_refusals (offset f) (length f)) _ (λ b. (
          fourth,
          each_unless P (pointer_refusals f) _ (λ c.
              each-++ P (field_places f) (unless (end_refusals f ++ id_refusals f) (0 ∷ []))
              (either (Each P) (is_broadcast f) (λ z. tt) (λ z.
              let s = sizes f a b in
              let p = pointer_in f a b c z in (
                in_field (pointer f) z (omega arith) (omega arith) (omega arith),
                each_unless P (end_refusals f) (run (pointer f + 1) (id_length f)) (λ e.
                    let m = end_in f a b c z e in
                    each_run P (pointer f + 1) (id_length f) (λ j l h. in_field j z (omega arith) (omega arith) (omega arith))),
              )))
              (each_unless P (end_refusals f ++ id_refusals f) (0 ∷ []) (λ e. (zeroth, tt)))),
        )),
      ))

module _ (f : List ℕ) where
  those_field : (j : ℕ) → is_broadcast f ≡ false → pointer f ≤ j → j ≤ last_place f → those f j ≡ true
  unfolding those
  those_field j z l h =
      or_right (eqb j 0) _
      (or_right (eqb j 3) _ (or_right (eqb j 4) _ (rw (z, le-leb (pointer f) j l, le-leb j (last_place f) h))))

  -- only "octets 0, 3, 4 and the one station field pointed at" are looked at
  pub looked_those : Each (λ (i : ℕ). those f i ≡ true) (looked_at f)
  unfolding those
  looked_those = looked_each f (λ (i : ℕ). those f i ≡ true) refl refl refl (λ j z l h k. those_field j z l h)

  -- and none behind the longest header
  pub looked_early : Each (λ (i : ℕ). i < max_header) (looked_at f)
  looked_early = looked_each f (λ (i : ℕ). i < max_header) (omega arith) (omega arith) (omega arith) (λ j z l h k. k)

-- "Frames that agree in length and in those octets get one answer."
pub one_answer : (f g : List ℕ) → length f ≡ length g → ((i : ℕ) → those f i ≡ true → octet f i ≡ octet g i) → receiver_of f ≡ receiver_of g
one_answer f g l h = looked_decides f g l (each_map (λ (i : ℕ). those f i ≡ true) (λ (i : ℕ). octet f i ≡ octet g i) h (looked_at f) (looked_those f))

-- so any other octet may be changed
pub other_octet_changed : (f : List ℕ) (i y : ℕ) → those f i ≡ false → receiver_of (set f i y) ≡ receiver_of f
other_octet_changed f i y n = sym (one_answer f (set f i y) (sym (length-set f i y)) (λ j h. by j h (eqb j i) refl))
  where
    by : (j : ℕ) → those f j ≡ true → (b : Bool) → eqb j i ≡ b → octet f j ≡ octet (set f i y) j
    by j h true e = let z : true ≡ false = sym h ∙ ap (those f) (eqb-true j i e) ∙ n in cc
    by j h false e = sym (get_or-set_other f i j y 0 (eqb-false j i e))
