-- The answers of `station_at`: what the field at a place of the header comes to. Assumes nothing.
use mathlib.Core.Path.{◌≡◌, refl, sym, ap, ap₂, ◌∙◌}
use mathlib.Core.Bool.{Bool, true, false, cond, not}
use mathlib.Core.List.{List}
use Prim.Native.Nat.{ℕ, ◌+◌, ◌-◌, ◌≤◌, ◌<◌}
use native.Mathlib.Omega.{arith}
use borrow.Author.Tests.{le-ltb, ltb-false, eq-eqb, ne_eqb}
use lib.Dec.{ltb, eqb}
use lib.ListN.{length, get_or, take, drop}
use lib.Seq.{length-take-le, take-take, get_or-take}
use Rattle.common.specs.Refusals.{guarded}
use Rattle.common.proofs.Parts.{drop-take}
use Rattle.sums.specs.Sum.{next_station_sum}
use Rattle.ids.specs.Id.{valid_id}
use Rattle.stations.specs.declared.Field.TheVariants.{Id}
use Rattle.stations.proofs.FieldAt.{Told, no_id}
use Rattle.afp.specs.Answers.{bad_stations, bad_next_sum}
use Rattle.afp.specs.Limits.{min_header}
use Rattle.afp.specs.Layout.{octet, offset}
use Rattle.afp_receiver.specs.Receiver.{pointer, id_length, id_pointed_at, field_part, field_pointed_at, last_place, end_refusals, id_refusals, sum_refusals, field_refusals}
use Rattle.afp_receiver.specs.declared.Receiver.{Receiver}
use Rattle.afp_receiver.specs.declared.Receiver.TheVariants.{Refused, Station}

-- ---- a frame that points at a field: its three tests
module _ (f : List ℕ) (points : pointer f ≡ 0 → ⊥) where
  abbrev answer : Receiver
  answer = guarded (field_refusals f) Refused (Station (field_part f))

  opened : answer
      ≡ cond (ltb (offset f - 3) (last_place f)) (Refused bad_stations)
      (cond (not (valid_id (id_pointed_at f))) (Refused bad_stations)
      (cond (not (eqb (octet f 0) (next_station_sum (field_pointed_at f)))) (Refused bad_next_sum) (Station (field_part f))))
  unfolding field_refusals end_refusals id_refusals sum_refusals
  opened = rw (ne_eqb (pointer f) 0 points)

  -- a field with its length octet at three before the data offset, or later, either has no ID or ends too late
  pub late_field : offset f - 3 ≤ pointer f → answer ≡ Refused bad_stations
  late_field h = by (ltb (offset f - 3) (last_place f)) refl
    where
      by : (b : Bool) → ltb (offset f - 3) (last_place f) ≡ b → answer ≡ Refused bad_stations
      by true e = opened ∙ rw e
      by false e =
          let l = ltb-false (offset f - 3) (last_place f) e in
          let z : id_length f ≡ 0 = omega arith in
          opened ∙ rw (e, z, no_id)

  -- ---- the field among the first k octets, up to two before the data offset
  module _ (k p : ℕ) (ke : k ≡ offset f - 2) (low : min_header ≤ offset f) (fits : offset f + 2 ≤ length f) (pe : p ≡ pointer f) where
    length-k : length (take k f) ≡ k
    length-k = length-take-le k f (omega arith)

    same_length : p < k → get_or (take k f) p 0 ≡ id_length f
    same_length h = get_or-take k f p 0 h ∙ ap (octet f) pe

    same_id : last_place f < k → valid_id (take (get_or (take k f) p 0) (drop (p + 1) (take k f))) ≡ valid_id (id_pointed_at f)
    same_id h =
        ap₂ (λ (n : ℕ) (s : List ℕ). valid_id (take n s)) (same_length (omega arith)) (drop-take (p + 1) k f)
        ∙ ap valid_id (take-take (id_length f) (k - (p + 1)) (drop (p + 1) f) (omega arith))
        ∙ ap (λ (p : ℕ). valid_id (take (id_length f) (drop (p + 1) f))) pe

    -- no ID
    pub field_bad : (p + get_or (take k f) p 0 < length (take k f) → valid_id (take (get_or (take k f) p 0) (drop (p + 1) (take k f))) ≡ false)
        → Refused bad_stations ≡ answer
    field_bad t = by (ltb (offset f - 3) (last_place f)) refl
      where
        by : (b : Bool) → ltb (offset f - 3) (last_place f) ≡ b → Refused bad_stations ≡ answer
        by true e = sym (opened ∙ rw e)
        by false e =
            let l = length-k in
            let h = ltb-false (offset f - 3) (last_place f) e in
            let n = same_length (omega arith) in
            let g : valid_id (id_pointed_at f) ≡ false = sym (same_id (omega arith)) ∙ t (omega arith) in
            sym (opened ∙ rw (e, g))

    -- an ID up to q
    module _ (q : ℕ) (t : Told (take k f) p (Id q)) where
      ends : (q ≡ p + 1 + id_length f) × (last_place f < k)
      ends =
          let l = length-k in
          let e = t.0 in
          let m = t.1 in
          let n = same_length (omega arith) in
          (omega arith, omega arith)

      pub end_in : (p < q) × (q ≤ length f)
      end_in = let e = ends in (omega arith, omega arith)

      pub size_is : q - p ≡ 1 + id_length f
      size_is = let e = ends in omega arith

      summed : take (q - p) (drop p f) ≡ field_pointed_at f
      summed = ap₂ (λ (n p : ℕ). take n (drop p f)) size_is pe

      judged : answer ≡ cond (not (eqb (octet f 0) (next_station_sum (field_pointed_at f)))) (Refused bad_next_sum) (Station (field_part f))
      judged =
          let e = ends in
          let g : valid_id (id_pointed_at f) ≡ true = sym (same_id e.1) ∙ t.2 in
          opened ∙ rw (le-ltb (offset f - 3) (last_place f) (omega arith), g)

      module _ (sum : ℕ) (se : sum ≡ next_station_sum (take (q - p) (drop p f))) where
        right : sum ≡ next_station_sum (field_pointed_at f)
        right = se ∙ ap next_station_sum summed

        pub sum-wrong : (octet f 0 ≡ sum → ⊥) → Refused bad_next_sum ≡ answer
        sum-wrong h = sym (judged ∙ rw (ne_eqb (octet f 0) (next_station_sum (field_pointed_at f)) (λ e. h (e ∙ sym right))))

        pub sum_right : octet f 0 ≡ sum → Station (record { place = p; size = q - p }) ≡ answer
        sum_right h =
            ap₂ (λ (p n : ℕ). Station (record { place = p; size = n })) pe size_is
            ∙ sym (judged ∙ rw (eq-eqb (octet f 0) (next_station_sum (field_pointed_at f)) (h ∙ right)))
