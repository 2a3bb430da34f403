-- What an AFP frame means: "protocol, IDs, next ID, supplementary header and data". Cited by the reader, and by the laws of reading and writing.
-- Assumes nothing.
--
--   meaning f     the meaning of a frame, with whether its header sum was left unchecked; or the first refusal
--   shown r f     what a reader's answer r shows of the frame f
use Rattle.std.specs.Prelude.{Bool, cond, List, ℕ, eqb, take, drop}
use Rattle.std.proofs.Math.Option.{Option}
use Rattle.common.specs.Refusals.{guarded}
use Rattle.sums.specs.Sum.{not_calculated}
use Rattle.stations.specs.IdList.{ids_of}
use Rattle.supplementary.specs.Options.{supplementary_in}
use Rattle.afp.specs.Layout.{octet, offset, checked_part, variable_part, stations_in, received_sum, part_of}
use Rattle.afp_read.specs.Read.{refusals}
use Rattle.afp_read.specs.declared.Reading.{Reading}

pub record Meaning : Type 0 where
  pub protocol : ℕ
  pub ids : List (List ℕ)  -- the first is the source
  pub next : ℕ  -- the next ID's number, the source being 1; 0 in a broadcast
  pub supplementary : Option (List ℕ)  -- absent, or its octets without the length octet
  pub payload : List ℕ  -- the data

pub data Verdict : Type 0 where
  refused : ℕ → Verdict
  means : Meaning → Bool → Verdict  -- with "unchecked", which is no part of the meaning

-- the meaning of a frame that is not refused: the IDs are those of the station fields, and what is left before the header sum
-- is the supplementary header; the data stands between header and check octets
unfoldable pub meant : List ℕ → Meaning
meant f =
    record {
      protocol = octet f 2;
      ids = ids_of (take (stations_in f).end (variable_part f));
      next = (stations_in f).next.number;
      supplementary = supplementary_in (drop (stations_in f).end (variable_part f));
      payload = drop (offset f) (checked_part f);
    }

unfoldable pub meaning : List ℕ → Verdict
meaning f = guarded (refusals f) refused (means (meant f) (eqb (received_sum f) not_calculated))

-- what an answer shows of its frame
unfoldable pub shown : Reading → List ℕ → Meaning
shown r f =
    record {
      protocol = r.protocol;
      ids = ids_of (part_of r.stations f);
      next = r.next;
      supplementary = supplementary_in (part_of r.supplementary f);
      payload = part_of r.payload f;
    }

unfoldable pub verdict : Reading → List ℕ → Verdict
verdict r f = cond (eqb r.number 0) (means (shown r f) r.unchecked) (refused r.number)
