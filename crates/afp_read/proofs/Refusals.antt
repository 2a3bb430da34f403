-- The reader's refusals, one law for each answer of its private functions, on plain numbers and lists. Assumes nothing.
use mathlib.Core.Path.{◌≡◌, refl, sym, ap, ◌∙◌}
use mathlib.Core.Bool.{Bool, true, false, cond, not}
use mathlib.Core.List.{List, [], ◌∷◌}
use Prim.Native.Nat.{ℕ, ◌+◌, ◌-◌, ◌≤◌, ◌<◌}
use native.Mathlib.Omega.{arith}
use borrow.Author.Tests.{le-leb, lt-leb, lt-ltb, le-ltb, eq-eqb, ne_eqb}
use lib.Dec.{ltb, eqb}
use lib.ListN.{length, take, drop}
use lib.Seq.{drop-drop}
use Rattle.common.specs.FirstRefusal.{first_refusal}
use Rattle.common.proofs.FirstRefusal.{first_stop, first_skip, guarded-++, guarded_first}
use Rattle.common.proofs.Parts.{drop-take}
use Rattle.fcs.specs.Fcs.{check_sequence}
use Rattle.stations.specs.declared.Stations.{Stations}
use Rattle.stations.specs.Fields.{fields_at, next_offset, lacks_next}
use Rattle.supplementary.specs.Options.{valid_supplementary}
use Rattle.afp.specs.Limits.{min_frame, max_frame, fixed_size, max_data, version, first_reserved}
use Rattle.afp.specs.Answers.{bad_length, bad_check, bad_version, bad_protocol, bad_stations, bad_next, bad_next_sum, bad_supplementary, bad_header_sum, bad_data}
use Rattle.afp.specs.Layout.{octet, offset, checked_part, received_check, variable_part, received_sum, summed_part, right_header_sum, data_length}
use Rattle.afp.specs.Sizes.{length_refusals, offset_refusals}
use Rattle.afp_read.specs.Read.{check_refusals, envelope_refusals, fixed_refusals, station_refusals, rest_refusals}

-- ---- frame length and check sequence
module _ (f : List ℕ) where
  abbrev envelope : ℕ
  envelope = first_refusal (envelope_refusals f)

  -- the length is judged first
  pub envelope-length : (n : ℕ) → n ≡ first_refusal (length_refusals (length f)) → (n ≡ 0 → ⊥) → n ≡ envelope
  unfolding envelope_refusals
  envelope-length n e z =
      sym (guarded-++ (λ n. n) 0 (length_refusals (length f)) (check_refusals f) ∙ guarded_first (λ n. n) (first_refusal (check_refusals f)) (length_refusals (length f)) n e z)

  module _ (a : min_frame ≤ length f) where
    module _ (b : length f ≤ max_frame) (received check : ℕ) (re : received ≡ received_check f) (ce : check ≡ check_sequence (checked_part f)) where
      within : (v : ℕ) → v ≡ first_refusal (check_refusals f) → v ≡ envelope
      unfolding envelope_refusals
      within v p =
          first_skip _ bad_length _ v (le-ltb (length f) min_frame a) (first_skip _ bad_length _ v (le-ltb max_frame (length f) b) p)

      pub envelope_check : (received ≡ check → ⊥) → bad_check ≡ envelope
      envelope_check h =
          within bad_check
          (first_stop _ bad_check _ (ap not (ne_eqb (received_check f) (check_sequence (checked_part f)) (λ e. h (re ∙ e ∙ sym ce)))))

      pub envelope_done : received ≡ check → 0 ≡ envelope
      envelope_done h =
          within 0 (first_skip _ bad_check _ 0 (ap not (eq-eqb (received_check f) (check_sequence (checked_part f)) (sym re ∙ h ∙ ce))) refl)

-- ---- version, protocol, data offset
module _ (f : List ℕ) where
  abbrev fixed : ℕ
  fixed = first_refusal (fixed_refusals f)

  pub fixed_version : (octet f 1 ≡ version → ⊥) → bad_version ≡ fixed
  unfolding fixed_refusals
  fixed_version h = first_stop _ bad_version _ (ap not (ne_eqb (octet f 1) version h))

  module _ (a : octet f 1 ≡ version) where
    pub fixed_protocol : first_reserved ≤ octet f 2 → bad_protocol ≡ fixed
    unfolding fixed_refusals
    fixed_protocol h =
        first_skip _ bad_version _ bad_protocol (ap not (eq-eqb (octet f 1) version a)) (first_stop _ bad_protocol _ (le-leb first_reserved (octet f 2) h))

    module _ (b : octet f 2 < first_reserved) where
      -- the data offset is judged last
      pub fixed_offset : (v : ℕ) → v ≡ first_refusal (offset_refusals (offset f) (length f)) → v ≡ fixed
      unfolding fixed_refusals
      fixed_offset v p =
          first_skip _ bad_version _ v (ap not (eq-eqb (octet f 1) version a)) (first_skip _ bad_protocol _ v (lt-leb first_reserved (octet f 2) b) p)

-- ---- station fields, octet 4, octet 0
module _ (f : List ℕ) (r : Stations) where
  abbrev station : ℕ
  station = first_refusal (station_refusals f r)

  pub station_malformed : r.end ≡ 0 → bad_stations ≡ station
  unfolding station_refusals
  station_malformed h = first_stop _ bad_stations _ (eq-eqb r.end 0 h)

  module _ (a : r.end ≡ 0 → ⊥) (o : Bool) (oe : o ≡ eqb (octet f 4) (next_offset r.next)) where
    pub station_offset : o ≡ false → bad_next ≡ station
    unfolding station_refusals
    station_offset h = first_skip _ bad_stations _ bad_next (ne_eqb r.end 0 a) (first_stop _ bad_next _ (ap not (sym oe ∙ h)))

    module _ (b : o ≡ true) (l : Bool) (le : l ≡ lacks_next r) where
      to_lacks : (v : ℕ) → v ≡ first_refusal ((lacks_next r, bad_next) ∷ (not (eqb (octet f 0) r.next.sum), bad_next_sum) ∷ []) → v ≡ station
      unfolding station_refusals
      to_lacks v p = first_skip _ bad_stations _ v (ne_eqb r.end 0 a) (first_skip _ bad_next _ v (ap not (sym oe ∙ b)) p)

      pub station_lacks : l ≡ true → bad_next ≡ station
      station_lacks h = to_lacks bad_next (first_stop _ bad_next _ (sym le ∙ h))

      -- octet 0 is judged last
      pub station_last : l ≡ false → (v : ℕ) → v ≡ cond (not (eqb (octet f 0) r.next.sum)) bad_next_sum 0 → v ≡ station
      station_last c v p = to_lacks v (first_skip _ bad_next _ v (sym le ∙ c) p)

-- ---- supplementary header, header sum, data
-- the part between the station fields, of k octets, and the header sum
pub variable_rest : (f : List ℕ) (k : ℕ) → take (offset f - fixed_size - k) (drop (fields_at + k) f) ≡ drop k (variable_part f)
unfolding variable_part
variable_rest f k = ap (take (offset f - fixed_size - k)) (sym (drop-drop k fields_at f)) ∙ sym (drop-take k (offset f - fixed_size) (drop fields_at f))

module _ (f : List ℕ) (k o : ℕ) (oe : o ≡ offset f) (g : Bool) (ge : g ≡ valid_supplementary (take (o - 1 - (fields_at + k)) (drop (fields_at + k) f))) where
  abbrev rest : ℕ
  rest = first_refusal (rest_refusals f k)

  valid_is : valid_supplementary (drop k (variable_part f)) ≡ g
  valid_is =
      let z : offset f - fixed_size - k ≡ o - 1 - (fields_at + k) = omega arith in
      ap valid_supplementary (sym (variable_rest f k) ∙ ap (λ (n : ℕ). take n (drop (fields_at + k) f)) z) ∙ sym ge

  pub rest_supplementary : g ≡ false → bad_supplementary ≡ rest
  unfolding rest_refusals
  rest_supplementary h = first_stop _ bad_supplementary _ (ap not (valid_is ∙ h))

  module _ (a : g ≡ true) (s : Bool) (se : s ≡ right_header_sum (octet f (o - 1)) (take (o - 1) f)) where
    right_is : right_header_sum (received_sum f) (summed_part f) ≡ s
    right_is = ap (λ (o : ℕ). right_header_sum (octet f (o - 1)) (take (o - 1) f)) (sym oe) ∙ sym se

    pub rest_sum : s ≡ false → bad_header_sum ≡ rest
    unfolding rest_refusals
    rest_sum h = first_skip _ bad_supplementary _ bad_header_sum (ap not (valid_is ∙ a)) (first_stop _ bad_header_sum _ (ap not (right_is ∙ h)))

    -- the data are judged last
    pub rest_last : s ≡ true → (v : ℕ) → v ≡ cond (ltb max_data (data_length f)) bad_data 0 → v ≡ rest
    unfolding rest_refusals
    rest_last b v p = first_skip _ bad_supplementary _ v (ap not (valid_is ∙ a)) (first_skip _ bad_header_sum _ v (ap not (right_is ∙ b)) p)

module _ (f : List ℕ) (o : ℕ) (oe : o ≡ offset f) where
  pub data_long : max_data < length f - 2 - o → bad_data ≡ cond (ltb max_data (data_length f)) bad_data 0
  data_long h = first_stop _ bad_data _ (lt-ltb max_data (data_length f) (omega arith))

  pub data_fits : length f - 2 - o ≤ max_data → 0 ≡ cond (ltb max_data (data_length f)) bad_data 0
  data_fits h = first_skip _ bad_data _ 0 (le-ltb max_data (data_length f) (omega arith)) refl
