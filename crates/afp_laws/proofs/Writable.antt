-- Whatever the paper calls a meaning can be written, given room. Assumes nothing.
use mathlib.Core.Path.{◌≡◌, refl, sym, ap, ap₂, ◌∙◌}
use mathlib.Core.Bool.{Bool, true, false, not, ◌&&◌}
use mathlib.Core.List.{List, [], append-nil}
use Prim.Native.Nat.{ℕ, ◌+◌, ◌≤◌, ◌<◌}
use native.Mathlib.Omega.{arith}
use borrow.Author.Tests.{le-ltb, lt-leb, eq-eqb, ne_eqb, eqb-true, eqb-false}
use lib.Dec.{eqb}
use lib.ListN.{length}
use Rattle.common.proofs.Refusals.{Passed}
use Rattle.common.proofs.FirstRefusal.{passed-append}
use Rattle.stations.specs.declared.Next.{Next}
use Rattle.stations.specs.declared.Stations.{Stations}
use Rattle.stations.specs.Fields.{no_next, stations_of, lacks_next}
use Rattle.stations.specs.IdList.{fields_of, all_valid}
use Rattle.stations.proofs.IdList.{fields_end, count_ids, ids_fields}
use Rattle.stations.proofs.NextField.{next_of, fields_some, next_number_lem, next_none}
use Rattle.supplementary.specs.Options.{supplementary_octets}
use Rattle.afp.specs.Limits.{min_header, max_header, max_data, first_reserved}
use Rattle.afp_read.specs.Meaning.{Meaning}
use Rattle.afp_write.specs.Frame.{header_length}
use Rattle.afp_write.specs.Write.{part_refusals, size_refusals, write_refusals}
use Rattle.afp_write.proofs.Buffers.{length-frame}
use Rattle.afp_laws.specs.Parts.{encode, encode_refusals, parts_of}
use Rattle.afp_laws.specs.Proper.{Proper}

module _ (is : List (List ℕ)) (n : ℕ) (some : 0 < length is) (g : all_valid is ≡ true) where
  abbrev s : List ℕ
  s = fields_of is

  abbrev r : Stations
  r = stations_of 0 n s

  end_is : r.end ≡ length s
  end_is = ap (λ (t : List ℕ). (stations_of 0 n t).end) (sym (append-nil s)) ∙ fields_end 0 n is [] (λ e. omega arith) g

  count_is : r.count ≡ length is
  count_is =
      let p = fields_some is in
      count_ids 0 n s (λ z. let e = end_is in omega arith) end_is ∙ ap length (ids_fields is g)

  module _ (alone : length is ≡ 1 → n ≡ 0) (later : 2 ≤ length is → (2 ≤ n) × (n ≤ length is)) where
    next_alone_is : length is ≡ 1 → r.next ≡ no_next
    next_alone_is o =
        ap (λ (t : List ℕ). (stations_of 0 n t).next) (sym (append-nil s))
        ∙ next_none n is [] g (λ e. omega arith) (λ l. let z : n ≡ 0 = alone o in absurd (omega arith))

    next_later_is : 2 ≤ length is → r.next ≡ next_of n is
    next_later_is l =
        let q = later l in
        ap (λ (t : List ℕ). (stations_of 0 n t).next) (sym (append-nil s)) ∙ next_number_lem n is [] g q.0 q.1

    number_is : r.next.number ≡ n
    number_is = by (eqb (length is) 1) refl
      where
        by : (b : Bool) → eqb (length is) 1 ≡ b → r.next.number ≡ n
        by true e = let o = eqb-true (length is) 1 e in ap (λ (x : Next). x.number) (next_alone_is o) ∙ sym (alone o)
        by false e = ap (λ (x : Next). x.number) (next_later_is (omega (arith, eqb-false (length is) 1 e)))

    not_lacking : lacks_next r ≡ false
    unfolding lacks_next
    not_lacking = ap₂ (λ (c k : ℕ). not (eqb c 1) && eqb k 0) count_is number_is ∙ by (eqb (length is) 1) refl
      where
        by : (b : Bool) → eqb (length is) 1 ≡ b → (not b && eqb n 0) ≡ false
        by true e = refl
        by false e = let q = later (omega (arith, eqb-false (length is) 1 e)) in ne_eqb n 0 (λ z. omega arith)

length-proper : (m : Meaning)
    → length (encode (parts_of m)) ≡ header_length (length (fields_of m.ids)) (length (supplementary_octets m.supplementary)) + length m.payload + 2
unfolding encode parts_of
length-proper m = length-frame m.protocol (fields_of m.ids) m.next (supplementary_octets m.supplementary) m.payload

pub proper_writable : (m : Meaning) (room : ℕ) → Proper m → length (encode (parts_of m)) ≤ room → Passed (encode_refusals (parts_of m) room)
unfolding encode_refusals write_refusals part_refusals size_refusals parts_of
proper_writable m room q long =
    let fits : header_length (length (fields_of m.ids)) (length (supplementary_octets m.supplementary)) + length m.payload + 2 ≤ room
    = rw (length-proper m) at long in
    let is = m.ids in
    let n = m.next in
    let s = fields_of m.ids in
    let h = supplementary_octets m.supplementary in
    let p = fields_some m.ids in
    let later : 2 ≤ length m.ids → (2 ≤ m.next) × (m.next ≤ length m.ids) = λ l. let z = q.next_later l in (omega arith, omega arith) in
    let e : (stations_of 0 m.next (fields_of m.ids)).end ≡ length (fields_of m.ids) = end_is m.ids m.next q.ids_some q.ids_valid in
    passed-append (part_refusals m.protocol s (stations_of 0 n s) n h) (size_refusals (length s) (length h) (length m.payload) room) (
      lt-leb first_reserved m.protocol q.protocol_free,
      (
        ne_eqb (stations_of 0 n s).end 0 (λ z. omega arith),
        (
          ap not (eq-eqb (stations_of 0 n s).end (length s) e),
          (
            ap not (eq-eqb (stations_of 0 n s).next.number n (number_is is n q.ids_some q.ids_valid q.next_alone later)),
            (not_lacking is n q.ids_some q.ids_valid q.next_alone later, (ap not q.supplementary_valid, tt)),
          ),
        ),
      ),
    ) (
      le-ltb (header_length (length s) (length h)) min_header q.header_long,
      (
        le-ltb max_header (header_length (length s) (length h)) q.header_short,
        (le-ltb max_data (length m.payload) q.data_short, (le-ltb room (header_length (length s) (length h) + length m.payload + 2) fits, tt)),
      ),
    )
