-- The writer's refusals, one law for each answer of its functions, on plain numbers and lists. Assumes nothing.
use mathlib.Core.Path.{◌≡◌, refl, sym, ap, ◌∙◌}
use mathlib.Core.Bool.{Bool, true, false, cond, not}
use mathlib.Core.List.{List, [], ◌∷◌}
use Prim.Native.Nat.{ℕ, ◌+◌, ◌≤◌, ◌<◌}
use native.Mathlib.Omega.{arith}
use borrow.Author.Tests.{le-leb, lt-leb, lt-ltb, le-ltb, eq-eqb, ne_eqb, ltb-false}
use lib.Dec.{ltb, eqb}
use lib.ListN.{length}
use Rattle.common.specs.Refusals.{Refusal}
use Rattle.common.specs.FirstRefusal.{first_refusal}
use Rattle.common.specs.Buffer.{with_front}
use Rattle.common.proofs.Refusals.{guarded_done}
use Rattle.common.proofs.FirstRefusal.{first_stop, first_skip, first_passed, guarded-++, guarded_first}
use Rattle.stations.specs.declared.Stations.{Stations}
use Rattle.stations.specs.Fields.{stations_of, lacks_next}
use Rattle.supplementary.specs.Options.{valid_supplementary}
use Rattle.afp.specs.Limits.{min_header, max_header, max_variable, max_data, first_reserved}
use Rattle.afp.specs.Answers.{bad_protocol, bad_offset, bad_stations, bad_next, bad_supplementary, bad_data, out_too_small}
use Rattle.afp_write.specs.Frame.{header_length, frame_of}
use Rattle.afp_write.specs.Write.{part_refusals, size_refusals, write_refusals, refused_writing, written, write_of, buffer_of}
use Rattle.afp_write.specs.declared.Written.{Written}

-- ---- protocol, station fields, next ID, supplementary header
module _ (p : ℕ) (s : List ℕ) (r : Stations) (n : ℕ) (h : List ℕ) where
  abbrev part : ℕ
  part = first_refusal (part_refusals p s r n h)

  pub part_protocol : first_reserved ≤ p → bad_protocol ≡ part
  unfolding part_refusals
  part_protocol i = first_stop _ bad_protocol _ (le-leb first_reserved p i)

  module _ (a : p < first_reserved) where
    pub part_stations : r.end ≡ 0 → bad_stations ≡ part
    unfolding part_refusals
    part_stations i = first_skip _ bad_protocol _ bad_stations (lt-leb first_reserved p a) (first_stop _ bad_stations _ (eq-eqb r.end 0 i))

    module _ (b : r.end ≡ 0 → ⊥) where
      pub part_end : (r.end ≡ length s → ⊥) → bad_stations ≡ part
      unfolding part_refusals
      part_end i =
          first_skip _ bad_protocol _ bad_stations (lt-leb first_reserved p a)
          (first_skip _ bad_stations _ bad_stations (ne_eqb r.end 0 b) (first_stop _ bad_stations _ (ap not (ne_eqb r.end (length s) i))))

      module _ (c : r.end ≡ length s) where
        to-next : (v : ℕ) → v ≡ first_refusal ((not (eqb r.next.number n), bad_next) ∷ (lacks_next r, bad_next) ∷ (not (valid_supplementary h), bad_supplementary) ∷ []) → v ≡ part
        unfolding part_refusals
        to-next v q =
            first_skip _ bad_protocol _ v (lt-leb first_reserved p a)
            (first_skip _ bad_stations _ v (ne_eqb r.end 0 b) (first_skip _ bad_stations _ v (ap not (eq-eqb r.end (length s) c)) q))

        pub part-next : (r.next.number ≡ n → ⊥) → bad_next ≡ part
        part-next i = to-next bad_next (first_stop _ bad_next _ (ap not (ne_eqb r.next.number n i)))

        module _ (d : r.next.number ≡ n) (l : Bool) (le : l ≡ lacks_next r) where
          pub part-lacks : l ≡ true → bad_next ≡ part
          part-lacks i = to-next bad_next (first_skip _ bad_next _ bad_next (ap not (eq-eqb r.next.number n d)) (first_stop _ bad_next _ (sym le ∙ i)))

          -- the supplementary header is judged last
          pub part-last : l ≡ false → (g : Bool) → g ≡ valid_supplementary h → (v : ℕ) → v ≡ cond (not g) bad_supplementary 0 → v ≡ part
          part-last e g ge v q =
              to-next v
              (first_skip _ bad_next _ v (ap not (eq-eqb r.next.number n d)) (first_skip _ bad_next _ v (sym le ∙ e) (q ∙ ap (λ (g : Bool). cond (not g) bad_supplementary 0) ge)))

-- ---- header, data, buffer
module _ (s h d room : ℕ) where
  abbrev sizes : ℕ
  sizes = first_refusal (size_refusals s h d room)

  pub size_short : header_length s h < min_header → bad_offset ≡ sizes
  unfolding size_refusals
  size_short i = first_stop _ bad_offset _ (lt-ltb (header_length s h) min_header i)

  pub size_long : max_header < header_length s h → bad_offset ≡ sizes
  unfolding size_refusals
  size_long i =
      first_skip _ bad_offset _ bad_offset (le-ltb (header_length s h) min_header (omega arith)) (first_stop _ bad_offset _ (lt-ltb max_header (header_length s h) i))

  module _ (a : min_header ≤ header_length s h) (b : header_length s h ≤ max_header) where
    to_data : (v : ℕ) → v ≡ first_refusal ((ltb max_data d, bad_data) ∷ (ltb room (header_length s h + d + 2), out_too_small) ∷ []) → v ≡ sizes
    unfolding size_refusals
    to_data v q =
        first_skip _ bad_offset _ v (le-ltb (header_length s h) min_header a) (first_skip _ bad_offset _ v (le-ltb max_header (header_length s h) b) q)

    pub size_data : max_data < d → bad_data ≡ sizes
    size_data i = to_data bad_data (first_stop _ bad_data _ (lt-ltb max_data d i))

    module _ (c : d ≤ max_data) where
      pub size_room : room < header_length s h + d + 2 → out_too_small ≡ sizes
      size_room i = to_data out_too_small (first_skip _ bad_data _ out_too_small (le-ltb max_data d c) (first_stop _ out_too_small _ (lt-ltb room (header_length s h + d + 2) i)))

      pub size_done : header_length s h + d + 2 ≤ room → 0 ≡ sizes
      size_done i = to_data 0 (first_skip _ bad_data _ 0 (le-ltb max_data d c) (first_skip _ out_too_small _ 0 (le-ltb room (header_length s h + d + 2) i) refl))

  -- what passed tests of sizes say
  pub sizes_fit : 0 ≡ sizes → (s + h ≤ max_variable) × (header_length s h + d + 2 ≤ room)
  unfolding size_refusals
  sizes_fit e =
      let q = first_passed (size_refusals s h d room) tt (sym e) in
      let a : header_length s h ≤ max_header = ltb-false max_header (header_length s h) q.1.0 in
      (omega arith, ltb-false room (header_length s h + d + 2) q.1.1.1.0)

-- ---- both lists: the first in which a refusal applies decides; r is what the station fields hold
module _ (p : ℕ) (s : List ℕ) (n : ℕ) (h d : List ℕ) (room : ℕ) (r : Stations) (re : r ≡ stations_of 0 n s) where
  abbrev parts : List Refusal
  parts = part_refusals p s (stations_of 0 n s) n h

  abbrev rest : List Refusal
  rest = size_refusals (length s) (length h) (length d) room

  abbrev all : ℕ
  all = first_refusal (write_refusals p s n h d room)

  parts_of : first_refusal (part_refusals p s r n h) ≡ first_refusal parts
  parts_of = ap (λ (r : Stations). first_refusal (part_refusals p s r n h)) re

  pub part_first : (a : ℕ) → a ≡ first_refusal (part_refusals p s r n h) → (a ≡ 0 → ⊥) → a ≡ all
  unfolding write_refusals
  part_first a e z = sym (guarded-++ (λ n. n) 0 parts rest ∙ guarded_first (λ n. n) (first_refusal rest) parts a (e ∙ parts_of) z)

  module _ (none : 0 ≡ first_refusal (part_refusals p s r n h)) where
    pub size_first : (b : ℕ) → b ≡ first_refusal rest → b ≡ all
    unfolding write_refusals part_refusals
    size_first b e = e ∙ sym (guarded-++ (λ n. n) 0 parts rest ∙ guarded_done (λ n. n) (first_refusal rest) parts (first_passed parts tt (sym (none ∙ parts_of))))

-- ---- the writer's answer v, and the buffer o after it
module _ (p : ℕ) (s : List ℕ) (n : ℕ) (h d out : List ℕ) where
  abbrev Promised : Written → List ℕ → Type 0
  Promised v o = (v ≡ write_of p s n h d out) × (o ≡ buffer_of p s n h d out)

  pub write_refused : (a : ℕ) → a ≡ first_refusal (write_refusals p s n h d (length out)) → (a ≡ 0 → ⊥) → Promised (refused_writing a) out
  unfolding write_of buffer_of
  write_refused a e z =
      let ts = write_refusals p s n h d (length out) in
      (sym (guarded_first refused_writing (written (length (frame_of p s n h d))) ts a e z), sym (guarded_first (λ k. out) (with_front (frame_of p s n h d) out) ts a e z))

  pub write_done : 0 ≡ first_refusal (write_refusals p s n h d (length out)) → (k : ℕ) (o : List ℕ) → k ≡ length (frame_of p s n h d) → o ≡ with_front (frame_of p s n h d) out
      → Promised (written k) o
  unfolding write_of buffer_of write_refusals part_refusals size_refusals
  write_done e k o ke oe =
      let ts = write_refusals p s n h d (length out) in
      let q = first_passed ts tt (sym e) in (
        ap written ke ∙ sym (guarded_done refused_writing (written (length (frame_of p s n h d))) ts q),
        oe ∙ sym (guarded_done (λ k. out) (with_front (frame_of p s n h d) out) ts q),
      )
