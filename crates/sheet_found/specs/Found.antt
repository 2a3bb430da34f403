-- Reports and packets of a capture, counted report by report: each count stops where it is too large for every line. Cited by `Found::with`; that
-- these are the counts of the whole list of reports is a law (sheet_laws/proofs/Found). Assumes nothing.
use Rattle.std.specs.Prelude.{ℕ, Bool, cond}
use Rattle.counter.specs.Counted.{counted}
use Rattle.dlc_packet.specs.Packet.{kind_of}
use Rattle.framing.specs.Reports.{Reported}
use Rattle.qaft.specs.Answers.{frame, aborted, long, short, bad_check, bad_pair}
use Rattle.qaft_report.specs.declared.Report.{Report}
use Rattle.sheet.specs.Limits.{too_large}
use Rattle.sheet_found.specs.declared.Found.{Found}
use Rattle.sheet_rules.specs.Counts.{is_kind, is_data, is_dack, is_numbered, number_after, none}

-- nothing found yet
abbrev pub fresh_found : Found
fresh_found = record { frames = 0; aborted = 0; long = 0; short = 0; bad_checks = 0; bad_pairs = 0; data_packets = 0; dack_packets = 0; repeats = 0; last = none }

-- one more, if so
abbrev pub more : Bool → (n : ℕ) → ℕ
more b n = cond b (counted too_large n 1) n

-- with one report more
unfoldable pub found_with : Found → Reported Report → Found
found_with f r = let k = kind_of r.octets in record {
  frames = more (is_kind frame r) f.frames;
  aborted = more (is_kind aborted r) f.aborted;
  long = more (is_kind long r) f.long;
  short = more (is_kind short r) f.short;
  bad_checks = more (is_kind bad_check r) f.bad_checks;
  bad_pairs = more (is_kind bad_pair r) f.bad_pairs;
  data_packets = more (is_data k) f.data_packets;
  dack_packets = more (is_dack k) f.dack_packets;
  repeats = more (is_numbered f.last k) f.repeats;
  last = number_after f.last k;
}
