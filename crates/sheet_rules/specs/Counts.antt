-- The line sheet: what a whole capture adds to its line, as the request counts it, over the capture with no state. Cited by the contracts and by
-- the theorems. Assumes nothing.
--
--   counts_of level l       the fourteen counts of the capture l, in the order in which they are printed
--   whole_counts level l    the same as they are gathered: each stops where it is too large for every line
--
-- "Octets before the first flag, flags, octets in reported stretches, octets after the last flag, reports of each kind, DATA, DACK and repeats"; after
-- the four octet counts "a fifth octet count, for skipped octets between two flags, in reported stretches and empty ones; the count for reported
-- stretches no longer has them, and the five add up"; before and after "still count every octet" (2026-02).
use Rattle.std.specs.Prelude.{ℕ, suc, ◌+◌, Bool, true, false, cond, List, [], ◌∷◌, ◌++◌, eqb, length}
use Rattle.capture.specs.Whole.{before, flags, after}
use Rattle.dlc_packet.specs.Numbers.{modulus}
use Rattle.dlc_packet.specs.Packet.{kind_of}
use Rattle.dlc_packet.specs.declared.Kind.{Kind}
use Rattle.dlc_packet.specs.declared.Kind.TheVariants.{Invalid, Reset, ResetAck, Data, Dack}
use Rattle.framing.specs.Reports.{Reported, after_flag, segments, unskipped, reports_of_segment, reports_of}
use Rattle.qaft.specs.Answers.{done, frame, aborted, long, short, bad_check, bad_pair}
use Rattle.qaft.specs.Escape.{flag, is_flow_control}
use Rattle.qaft.specs.Limits.{sum_kind}
use Rattle.qaft_report.specs.Answer.{report_number}
use Rattle.qaft_report.specs.declared.Report.{Report}
use Rattle.qaft_rules.specs.Rules.{rules}
use Rattle.sheet.specs.Tallies.{stopped}
use Rattle.sheet.specs.declared.Counts.{Counts}

-- ---- octets: raw octets of the segments that gave a report, without the skipped ones among them
abbrev pub octets_of : (level : ℕ) (s : List ℕ) → List (Reported Report) → ℕ
octets_of level s [] = 0
octets_of level s (r ∷ rs) = length (unskipped (rules level sum_kind) s)

unfoldable pub octets_reported : (level : ℕ) → List (List ℕ) → ℕ
octets_reported level [] = 0
octets_reported level (s ∷ ss) = octets_of level s (reports_of_segment (rules level sum_kind) s) + octets_reported level ss

-- skipped octets of a segment, and of all segments, reported and empty ones
unfoldable pub skipped_of : (level : ℕ) → List ℕ → ℕ
skipped_of level [] = 0
skipped_of level (x ∷ xs) = cond (is_flow_control level x) (suc (skipped_of level xs)) (skipped_of level xs)

unfoldable pub octets_skipped : (level : ℕ) → List (List ℕ) → ℕ
octets_skipped level [] = 0
octets_skipped level (s ∷ ss) = skipped_of level s + octets_skipped level ss

-- ---- reports: how many have a property
unfoldable pub count_of : (Reported Report → Bool) → List (Reported Report) → ℕ
count_of p [] = 0
count_of p (r ∷ rs) = cond (p r) (suc (count_of p rs)) (count_of p rs)

-- the kind by its number
abbrev pub is_kind : (k : ℕ) → Reported Report → Bool
is_kind k r = eqb (report_number r.report) k

-- ---- packets: "frames whose data is such a packet and wouldn't answer 23"; a report that is no frame shows no octets, and these are no packet
abbrev pub is_data : Kind → Bool
is_data Invalid = false
is_data Reset = false
is_data ResetAck = false
is_data (Data x) = true
is_data (Dack x) = false

abbrev pub is_dack : Kind → Bool
is_dack Invalid = false
is_dack Reset = false
is_dack ResetAck = false
is_dack (Data x) = false
is_dack (Dack x) = true

abbrev pub has_data : Reported Report → Bool
has_data r = is_data (kind_of r.octets)

abbrev pub has_dack : Reported Report → Bool
has_dack r = is_dack (kind_of r.octets)

-- ---- repeats: "a DATA packet whose number equals that of the DATA before it in the same capture"
-- the number of the last DATA of a list; before any it is 16, which no DATA has
abbrev pub none : ℕ
none = modulus

abbrev pub number_after : (x : ℕ) → Kind → ℕ
number_after x Invalid = x
number_after x Reset = x
number_after x ResetAck = x
number_after x (Data y) = y
number_after x (Dack y) = x

unfoldable pub last_from : (x : ℕ) → List (Reported Report) → ℕ
last_from x [] = x
last_from x (r ∷ rs) = last_from (number_after x (kind_of r.octets)) rs

abbrev pub is_numbered : (x : ℕ) → Kind → Bool
is_numbered x Invalid = false
is_numbered x Reset = false
is_numbered x ResetAck = false
is_numbered x (Data y) = eqb y x
is_numbered x (Dack y) = false

-- whether r is a repeat where the reports ps came before it
abbrev pub is_repeat : (ps : List (Reported Report)) → Reported Report → Bool
is_repeat ps r = is_numbered (last_from none ps) (kind_of r.octets)

-- the repeats among rs, which came behind ps
unfoldable pub repeats_after : (ps rs : List (Reported Report)) → ℕ
repeats_after ps [] = 0
repeats_after ps (r ∷ rs) = let n = repeats_after (ps ++ (r ∷ [])) rs in cond (is_repeat ps r) (suc n) n

-- ---- all counts
unfoldable pub counts_of : (level : ℕ) (l : List ℕ) → List ℕ
counts_of level l =
    let rs = reports_of (rules level sum_kind) l in
    let ss = segments (rules level sum_kind) (after_flag (rules level sum_kind) l) in
    before flag l
    ∷ flags flag l
    ∷ octets_reported level ss
    ∷ after flag l
    ∷ octets_skipped level ss
    ∷ count_of (is_kind frame) rs
    ∷ count_of (is_kind aborted) rs
    ∷ count_of (is_kind long) rs
    ∷ count_of (is_kind short) rs
    ∷ count_of (is_kind bad_check) rs
    ∷ count_of (is_kind bad_pair) rs
    ∷ count_of has_data rs
    ∷ count_of has_dack rs
    ∷ repeats_after [] rs
    ∷ []

-- what the capture adds to a line, as it is gathered
abbrev pub whole_counts : (level : ℕ) (l : List ℕ) → Counts
whole_counts level l = record { number = done; counts = stopped (counts_of level l) }
