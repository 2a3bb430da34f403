-- The rules that the paper gives for a meaning, in its own terms. Cited by the laws that each such meaning is written, and no other read. Assumes nothing.
use Rattle.std.specs.Prelude.{◌≡◌, true, ◌≤◌, ◌<◌, length}
use Rattle.stations.specs.IdList.{fields_of, all_valid}
use Rattle.supplementary.specs.Options.{valid_supplementary, supplementary_octets}
use Rattle.afp.specs.Limits.{min_header, max_header, max_data, first_reserved}
use Rattle.afp_read.specs.Meaning.{Meaning}
use Rattle.afp_write.specs.Frame.{header_length}

-- the rules of a meaning: an upper protocol that is not reserved; IDs that keep the rule, at least the source; no next ID where the source
-- is alone, else the second or a later one; a supplementary header made of options; header and data within their limits
pub record Proper (m : Meaning) : Type 0 where
  pub protocol_free : m.protocol < first_reserved
  pub ids_some : 0 < length m.ids
  pub ids_valid : all_valid m.ids ≡ true
  pub next_alone : length m.ids ≡ 1 → m.next ≡ 0
  pub next_later : 2 ≤ length m.ids → (2 ≤ m.next) × (m.next ≤ length m.ids)
  pub supplementary_valid : valid_supplementary (supplementary_octets m.supplementary) ≡ true
  pub header_long : min_header ≤ header_length (length (fields_of m.ids)) (length (supplementary_octets m.supplementary))
  pub header_short : header_length (length (fields_of m.ids)) (length (supplementary_octets m.supplementary)) ≤ max_header
  pub data_short : length m.payload ≤ max_data
