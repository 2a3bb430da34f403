-- What the writer is given and a frame holds, as octets; and the same as a meaning. Cited by the laws of reading and writing. Assumes nothing.
--
--   encode m          the frame that is written of the parts m
--   answer m out      the writer's answer, given the parts m and the buffer out; sent m out are the octets that it wrote
--   parts_in f         the parts of a frame
--   meaning_of m       what parts mean; parts_of is the reverse
use Rattle.std.specs.Prelude.{List, ℕ, take, drop}
use Rattle.common.specs.Refusals.{Refusal}
use Rattle.stations.specs.IdList.{fields_of, ids_of}
use Rattle.supplementary.specs.Options.{supplementary_octets, supplementary_in}
use Rattle.afp.specs.Layout.{octet, offset, checked_part, variable_part, stations_in}
use Rattle.afp_read.specs.Meaning.{Meaning}
use Rattle.afp_write.specs.Frame.{frame_of}
use Rattle.afp_write.specs.Write.{write_refusals, write_of, buffer_of}
use Rattle.afp_write.specs.declared.Written.{Written}

pub record Parts : Type 0 where
  pub protocol : ℕ
  pub stations : List ℕ  -- the station fields with their closing 0
  pub next : ℕ  -- the next ID's number, 0 in a broadcast
  pub supplementary : List ℕ  -- with its length octet; [] where it is absent
  pub payload : List ℕ

-- ---- writing
unfoldable pub encode : Parts → List ℕ
encode m = frame_of m.protocol m.stations m.next m.supplementary m.payload

unfoldable pub encode_refusals : Parts → ℕ → List Refusal
encode_refusals m room = write_refusals m.protocol m.stations m.next m.supplementary m.payload room

-- the equations that the writer promises
abbrev pub answer : Parts → List ℕ → Written
answer m out = write_of m.protocol m.stations m.next m.supplementary m.payload out

abbrev pub buffer : Parts → List ℕ → List ℕ
buffer m out = buffer_of m.protocol m.stations m.next m.supplementary m.payload out

abbrev pub sent : Parts → List ℕ → List ℕ
sent m out = take (answer m out).length (buffer m out)

-- ---- reading
unfoldable pub parts_in : List ℕ → Parts
parts_in f =
    record {
      protocol = octet f 2;
      stations = take (stations_in f).end (variable_part f);
      next = (stations_in f).next.number;
      supplementary = drop (stations_in f).end (variable_part f);
      payload = drop (offset f) (checked_part f);
    }

-- ---- parts and meaning
unfoldable pub meaning_of : Parts → Meaning
meaning_of m =
    record {
      protocol = m.protocol;
      ids = ids_of m.stations;
      next = m.next;
      supplementary = supplementary_in m.supplementary;
      payload = m.payload;
    }

unfoldable pub parts_of : Meaning → Parts
parts_of q =
    record {
      protocol = q.protocol;
      stations = fields_of q.ids;
      next = q.next;
      supplementary = supplementary_octets q.supplementary;
      payload = q.payload;
    }
