-- What a reader refuses, what stands where, and what stands at an index of the station fields, each written out test by test, in the scope paper's
-- order and with its numbers: the definitions of specs/ say the same in shorter words. Assumes nothing.
use Rattle.std.proofs.Common.{◌≡◌, ℕ, ◌+◌, ◌-◌, cond, not, eqb, ltb, leb, List, [], ◌∷◌, length, get_or, take, drop, refl, arith}
use Rattle.std.proofs.lemmas.Bool.Decides.{nat_tests}
use Rattle.fcs.specs.Fcs.{check_sequence}
use Rattle.ids.specs.Id.{valid_id}
use Rattle.stations.specs.FieldAt.{is_closing, is_id_at, field_at}
use Rattle.stations.specs.declared.Field.TheVariants.{Closing, Id, Malformed}
use Rattle.afp.specs.Limits.{min_frame, max_frame, min_header, max_header, version, first_reserved}
use Rattle.afp.specs.Answers.{bad_length, bad_check, bad_version, bad_protocol, bad_offset}
use Rattle.afp.specs.Layout.{octet, offset, checked_length, checked_part, received_check, variable_part}
use Rattle.afp_read.specs.Read.{envelope_refusals, fixed_refusals}
use Rattle.afp_write.specs.Frame.{header_length}

module _ (f : List ℕ) where
  pub envelope_in_order : envelope_refusals f
      ≡ (ltb (length f) min_frame, bad_length) ∷ (ltb max_frame (length f), bad_length) ∷ (not (eqb (received_check f) (check_sequence (checked_part f))), bad_check) ∷ []
  unfolding envelope_refusals
  envelope_in_order = refl

  pub fixed_in_order : fixed_refusals f
      ≡ (not (eqb (octet f 1) version), bad_version)
      ∷ (leb first_reserved (octet f 2), bad_protocol)
      ∷ (ltb (offset f) min_header, bad_offset)
      ∷ (ltb max_header (offset f), bad_offset)
      ∷ (ltb (checked_length f) (offset f), bad_offset)
      ∷ []
  unfolding fixed_refusals
  fixed_in_order = refl

  pub variable_in_octets : variable_part f ≡ take (offset f - 6) (drop 5 f)
  unfolding variable_part
  variable_in_octets = refl

pub header_in_octets : (s h : ℕ) → header_length s h ≡ 6 + (s + h)
header_in_octets s h = refl

-- at the index p: past the end nothing stands; then the closing 0; then an ID, of the length n, that lies within the fields and keeps the rule
pub field_in_order : (s : List ℕ) (p : ℕ) → let n = get_or s p 0 in
    field_at s p
    ≡ cond (leb (length s) p) Malformed (cond (eqb n 0) Closing (cond (ltb (length s - (p + 1)) n) Malformed (cond (valid_id (take n (drop (p + 1) s))) (Id (p + 1 + n)) Malformed)))
unfolding field_at is_closing is_id_at
field_in_order s p = grind (arith, nat_tests)
