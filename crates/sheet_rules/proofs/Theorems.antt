-- Theorems on the counts of a whole capture; docs/THEOREMS.md says them in words. Assumes nothing.
use Prim.Native.Nat.{ℕ, ◌+◌, ◌≤◌}
use mathlib.Core.List.{List}
use mathlib.Core.Path.{◌≡◌}
use native.Mathlib.Omega.{arith}
use lib.ListN.{length, get_or, take, drop}
use Rattle.capture.proofs.Flags.{parts_add_up}
use Rattle.framing.specs.Reports.{after_flag, segments, reports_of}
use Rattle.octets.specs.Sum.{sum}
use Rattle.qaft.specs.Escape.{flag}
use Rattle.qaft.specs.Limits.{sum_kind}
use Rattle.qaft_rules.specs.Rules.{rules}
use Rattle.sheet.specs.Places.{before_at, flags_at, in_segments_at, after_at, skipped_at, frames_at, reports_end, data_at, dack_at, repeats_at}
use Rattle.sheet_rules.proofs.AllReports.{kinds_add_up}
use Rattle.sheet_rules.proofs.Octets.{skipped_between, skipped_none}
use Rattle.sheet_rules.proofs.Packets.{packets_among}
use Rattle.sheet_rules.proofs.Repeats.{repeats_are}
use Rattle.sheet_rules.specs.Counts.{counts_of}
use Rattle.sheet_rules.specs.Repeats.{data_numbers, equals_before}

-- 1. "What a capture adds to the five octet counts adds up to its length."
pub octet_counts_add_up : (level : ℕ) (l : List ℕ)
    → let cs = counts_of level l in get_or cs before_at 0 + (get_or cs flags_at 0 + (get_or cs in_segments_at 0 + (get_or cs after_at 0 + get_or cs skipped_at 0))) ≡ length l
unfolding counts_of
octet_counts_add_up level l = omega (arith, skipped_between level l, parts_add_up flag l)

-- At level 0 no octet is skipped.
pub nothing_skipped_at_level_0 : (l : List ℕ) → get_or (counts_of 0 l) skipped_at 0 ≡ 0
unfolding counts_of
nothing_skipped_at_level_0 l = skipped_none (segments (rules 0 sum_kind) (after_flag (rules 0 sum_kind) l))

-- "All reports" of the share are all of the capture: every report is of one of the kinds that are counted.
pub reports_add_up : (level : ℕ) (l : List ℕ) → sum (drop frames_at (take reports_end (counts_of level l))) ≡ length (reports_of (rules level sum_kind) l)
unfolding counts_of sum
reports_add_up level l = omega (arith, kinds_add_up (reports_of (rules level sum_kind) l))

-- 5. Repeats are equal neighbours among the numbers of the capture's DATA packets, whatever was reported between them.
pub repeats_are_equal_neighbours : (level : ℕ) (l : List ℕ) → get_or (counts_of level l) repeats_at 0 ≡ equals_before (data_numbers (reports_of (rules level sum_kind) l))
unfolding counts_of
repeats_are_equal_neighbours level l = repeats_are (reports_of (rules level sum_kind) l)

-- DATA and DACK are frames, and no frame is both: together they are no more than the frames.
pub packets_are_frames : (level : ℕ) (l : List ℕ) → let cs = counts_of level l in get_or cs data_at 0 + get_or cs dack_at 0 ≤ get_or cs frames_at 0
unfolding counts_of reports_of
packets_are_frames level l = packets_among level (segments (rules level sum_kind) (after_flag (rules level sum_kind) l))
