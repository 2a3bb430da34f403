-- Reports counted one by one are those of the whole list, up to where the counts stop. Assumes nothing.
use Prim.Native.Nat.{ℕ, suc, ◌+◌}
use mathlib.Core.Bool.{Bool, true, false, cond}
use mathlib.Core.List.{List, [], ◌∷◌}
use mathlib.Core.Path.{◌≡◌, refl, sym, ap, ◌∙◌}
use native.Mathlib.Omega.{arith}
use Rattle.counter.proofs.Counting.{counted_none, counted_more}
use Rattle.counter.specs.Counted.{counted}
use Rattle.dlc_packet.specs.Packet.{kind_of}
use Rattle.framing.specs.Reports.{Reported, shown_reports}
use Rattle.line.specs.Gather.{make_all}
use Rattle.line.specs.Trace.{Event}
use Rattle.qaft.specs.Answers.{frame, aborted, long, short, bad_check, bad_pair}
use Rattle.qaft.specs.Limits.{sum_kind}
use Rattle.qaft_report.specs.declared.Report.{Report}
use Rattle.qaft_rules.specs.Rules.{rules}
use Rattle.sheet.specs.Limits.{too_large}
use Rattle.sheet_counter.specs.Count.{with_report}
use Rattle.sheet_found.specs.Found.{more, found_with}
use Rattle.sheet_found.specs.declared.Found.{Found}
use Rattle.sheet_rules.proofs.Repeats.{repeats_from}
use Rattle.sheet_rules.specs.Counts.{count_of, is_kind, has_data, has_dack, is_numbered, last_from}

-- ---- one count
-- so many more, with one before them if so
one_before : (b : Bool) (n k : ℕ) → counted too_large (more b n) k ≡ counted too_large n (cond b (suc k) k)
one_before true n k = let z : 1 + k ≡ suc k = omega arith in counted_more too_large n 1 k ∙ ap (counted too_large n) z
one_before false n k = refl

-- ---- all of them
-- what was found, with the reports rs counted at once
abbrev pub found_whole : Found → List (Reported Report) → Found
found_whole f rs = record {
  frames = counted too_large f.frames (count_of (is_kind frame) rs);
  aborted = counted too_large f.aborted (count_of (is_kind aborted) rs);
  long = counted too_large f.long (count_of (is_kind long) rs);
  short = counted too_large f.short (count_of (is_kind short) rs);
  bad_checks = counted too_large f.bad_checks (count_of (is_kind bad_check) rs);
  bad_pairs = counted too_large f.bad_pairs (count_of (is_kind bad_pair) rs);
  data_packets = counted too_large f.data_packets (count_of has_data rs);
  dack_packets = counted too_large f.dack_packets (count_of has_dack rs);
  repeats = counted too_large f.repeats (repeats_from f.last rs);
  last = last_from f.last rs;
}

found_none : (f : Found) → f ≡ found_whole f []
unfolding count_of repeats_from last_from
found_none f = λ i. record {
  frames = sym (counted_none too_large f.frames) i;
  aborted = sym (counted_none too_large f.aborted) i;
  long = sym (counted_none too_large f.long) i;
  short = sym (counted_none too_large f.short) i;
  bad_checks = sym (counted_none too_large f.bad_checks) i;
  bad_pairs = sym (counted_none too_large f.bad_pairs) i;
  data_packets = sym (counted_none too_large f.data_packets) i;
  dack_packets = sym (counted_none too_large f.dack_packets) i;
  repeats = sym (counted_none too_large f.repeats) i;
  last = f.last;
}

found_next : (f : Found) (r : Reported Report) (rs : List (Reported Report)) → found_whole (found_with f r) rs ≡ found_whole f (r ∷ rs)
unfolding found_with count_of repeats_from last_from
found_next f r rs = λ i. record {
  frames = one_before (is_kind frame r) f.frames (count_of (is_kind frame) rs) i;
  aborted = one_before (is_kind aborted r) f.aborted (count_of (is_kind aborted) rs) i;
  long = one_before (is_kind long r) f.long (count_of (is_kind long) rs) i;
  short = one_before (is_kind short r) f.short (count_of (is_kind short) rs) i;
  bad_checks = one_before (is_kind bad_check r) f.bad_checks (count_of (is_kind bad_check) rs) i;
  bad_pairs = one_before (is_kind bad_pair r) f.bad_pairs (count_of (is_kind bad_pair) rs) i;
  data_packets = one_before (has_data r) f.data_packets (count_of has_data rs) i;
  dack_packets = one_before (has_dack r) f.dack_packets (count_of has_dack rs) i;
  repeats = one_before (is_numbered f.last (kind_of r.octets)) f.repeats (repeats_from (found_with f r).last rs) i;
  last = last_from (found_with f r).last rs;
}

-- the events of a reader, counted one by one
pub found_events : (level : ℕ) (es : List (Event Report)) (f : Found) → make_all with_report f es ≡ found_whole f (shown_reports (rules level sum_kind) es)
unfolding make_all shown_reports
found_events level [] f = found_none f
found_events level (e ∷ es) f =
    found_events level es (with_report f e.report e.buffer)
    ∙ found_next f (record { report = e.report; octets = _ }) (shown_reports (rules level sum_kind) es)
