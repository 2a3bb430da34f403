-- Every report is of exactly one kind that is counted: the kinds add up to all reports. Assumes nothing.
use Prim.Native.Nat.{ℕ, ◌+◌}
use mathlib.Core.List.{List, [], ◌∷◌}
use mathlib.Core.Path.{◌≡◌, refl}
use native.Mathlib.Omega.{arith}
use lib.ListN.{length}
use Rattle.framing.specs.Reports.{Reported}
use Rattle.qaft.specs.Answers.{frame, aborted, long, short, bad_check, bad_pair}
use Rattle.qaft_report.specs.declared.Report.{Report}
use Rattle.qaft_report.specs.declared.Report.TheVariants.{Frame, Aborted, Long, Short, BadCheck, BadPair}
use Rattle.sheet_rules.proofs.Packets.{one, count_cons}
use Rattle.sheet_rules.specs.Counts.{is_kind, count_of}

one_kind : (p : Report) (d : List ℕ) → let r : Reported Report = record { report = p; octets = d } in
    one (is_kind frame r) + (one (is_kind aborted r) + (one (is_kind long r) + (one (is_kind short r) + (one (is_kind bad_check r) + one (is_kind bad_pair r))))) ≡ 1
one_kind (Frame n) d = refl
one_kind Aborted d = refl
one_kind Long d = refl
one_kind Short d = refl
one_kind BadCheck d = refl
one_kind BadPair d = refl

pub kinds_add_up : (rs : List (Reported Report))
    → count_of (is_kind frame) rs + (count_of (is_kind aborted) rs + (count_of (is_kind long) rs + (count_of (is_kind short) rs + (count_of (is_kind bad_check) rs + count_of (is_kind bad_pair) rs)))) ≡ length rs
unfolding count_of
kinds_add_up [] = refl
kinds_add_up (r ∷ rs) =
    omega (
      arith,
      one_kind r.report r.octets,
      kinds_add_up rs,
      count_cons (is_kind frame) r rs,
      count_cons (is_kind aborted) r rs,
      count_cons (is_kind long) r rs,
      count_cons (is_kind short) r rs,
      count_cons (is_kind bad_check) r rs,
      count_cons (is_kind bad_pair) r rs,
    )
