-- DATA and DACK are frames: a report that is no frame shows no octets, and no octets are no packet. Assumes nothing.
use Prim.Native.Nat.{ℕ, suc, ◌+◌, ◌≤◌}
use mathlib.Core.Bool.{Bool, true, false, cond}
use mathlib.Core.List.{List, [], ◌∷◌, ◌++◌}
use mathlib.Core.Path.{◌≡◌, refl, ap}
use native.Mathlib.Omega.{arith}
use lib.Dec.{leb}
use lib.ListN.{length}
use Rattle.common.proofs.Bools.{either}
use Rattle.dlc_packet.specs.Packet.{kind_of}
use Rattle.dlc_packet.specs.declared.Kind.{Kind}
use Rattle.dlc_packet.specs.declared.Kind.TheVariants.{Invalid, Reset, ResetAck, Data, Dack}
use Rattle.framing.specs.Reports.{Reported, judged, reported, shown, unskipped, unescape, check_of, reports_of_octets, reports_of_segment, reports_of_segments}
use Rattle.framing.specs.Step.{capped}
use Rattle.qaft.specs.Answers.{frame}
use Rattle.qaft.specs.Limits.{sum_kind}
use Rattle.qaft_report.specs.declared.Report.{Report}
use Rattle.qaft_report.specs.declared.Report.TheVariants.{Frame, Aborted, Long, Short, BadCheck, BadPair}
use Rattle.qaft_rules.specs.Rules.{rules}
use Rattle.sheet_rules.specs.Counts.{is_kind, is_data, is_dack, has_data, has_dack, count_of}

-- what is counted of one report, if so
abbrev pub one : Bool → ℕ
one b = cond b 1 0

-- a report that is DATA or DACK, and never both, is a frame
abbrev Packet : Reported Report → Type 0
Packet r = one (has_data r) + one (has_dack r) ≤ one (is_kind frame r)

-- no packet is both
at_most_one : (k : Kind) → one (is_data k) + one (is_dack k) ≤ 1
at_most_one Invalid = omega arith
at_most_one Reset = omega arith
at_most_one ResetAck = omega arith
at_most_one (Data x) = omega arith
at_most_one (Dack x) = omega arith

-- no octets are shown of it
shown_none : (m : List ℕ) → shown m 0 0 ≡ []
shown_none m = either (λ (d : List ℕ). d ≡ []) (leb (0 + 0) (length m)) (λ _. refl) (λ _. refl)

bare : (m : List ℕ) → shown m 0 0 ≡ [] → one (is_data (kind_of (shown m 0 0))) + one (is_dack (kind_of (shown m 0 0))) ≤ 0
bare m e = let z : one (is_data (kind_of (shown m 0 0))) + one (is_dack (kind_of (shown m 0 0))) ≡ 0 = ap (λ (d : List ℕ). one (is_data (kind_of d)) + one (is_dack (kind_of d))) e in omega (arith, z)

packet : (level : ℕ) (p : Report) (m : List ℕ) → Packet (reported (rules level sum_kind) p m)
packet level (Frame n) m = at_most_one (kind_of (shown m 0 n))
packet level Aborted m = bare m (shown_none m)
packet level Long m = bare m (shown_none m)
packet level Short m = bare m (shown_none m)
packet level BadCheck m = bare m (shown_none m)
packet level BadPair m = bare m (shown_none m)

-- ---- lists of reports
abbrev Fine : List (Reported Report) → Type 0
Fine rs = count_of has_data rs + count_of has_dack rs ≤ count_of (is_kind frame) rs

pub count_cons : (p : Reported Report → Bool) (r : Reported Report) (rs : List (Reported Report)) → count_of p (r ∷ rs) ≡ one (p r) + count_of p rs
unfolding count_of
count_cons p r rs = go (p r)
  where
    go : (b : Bool) → cond b (suc (count_of p rs)) (count_of p rs) ≡ one b + count_of p rs
    go true = omega arith
    go false = omega arith

fine_cons : (r : Reported Report) (rs : List (Reported Report)) → Packet r → Fine rs → Fine (r ∷ rs)
fine_cons r rs p ih = omega (arith, p, ih, count_cons has_data r rs, count_cons has_dack r rs, count_cons (is_kind frame) r rs)

fine_octets : (level : ℕ) (s : List ℕ) (rs : List (Reported Report)) → Fine rs → Fine (reports_of_octets (rules level sum_kind) s ++ rs)
unfolding reports_of_octets judged
fine_octets level [] rs ih = ih
fine_octets level (x ∷ s) rs ih =
    let u = unescape (rules level sum_kind) (x ∷ s) in
    let p = (rules level sum_kind).verdict u.dangling u.bad (capped (rules level sum_kind) (length u.octets)) (check_of (rules level sum_kind) u.octets) in
    fine_cons (reported (rules level sum_kind) p u.octets) rs (packet level p u.octets) ih

-- the DATA and DACK of segments are among their frames
pub packets_among : (level : ℕ) (ss : List (List ℕ)) → let rs = reports_of_segments (rules level sum_kind) ss in count_of has_data rs + count_of has_dack rs ≤ count_of (is_kind frame) rs
unfolding reports_of_segments reports_of_segment count_of
packets_among level [] = omega arith
packets_among level (s ∷ ss) = fine_octets level (unskipped (rules level sum_kind) s) (reports_of_segments (rules level sum_kind) ss) (packets_among level ss)
