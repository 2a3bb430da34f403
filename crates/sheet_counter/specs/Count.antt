-- A capture counted chunk after chunk: what a call of `count` answers, and what the lent buffer then holds. Cited by its contract. Assumes nothing.
--
--   gathered c xs m   the reports of the chunk xs, each counted
--   count c xs m      a call
--   counts_in c        what was counted so far, as it is added to a line
use Rattle.std.specs.Prelude.{ℕ, Bool, true, false, List, [], ◌∷◌, ltb, length}
use Rattle.common.specs.Refusals.{Refusal, guarded}
use Rattle.counter.specs.Counted.{counted}
use Rattle.deframer.specs.Scan.{view, place}
use Rattle.deframer.specs.declared.State as declared
use Rattle.framing.specs.Reports.{reported}
use Rattle.framing.specs.Rules.{State}
use Rattle.framing.specs.Step.{step}
use Rattle.line.specs.Gather.{Gathered, gather_all}
use Rattle.qaft.specs.Answers.{done, buffer_too_small, bad_level}
use Rattle.qaft.specs.Limits.{sum_kind, max_level, max_segment}
use Rattle.qaft_report.specs.declared.Report.{Report}
use Rattle.qaft_rules.specs.Rules.{rules}
use Rattle.sheet.specs.Limits.{too_large}
use Rattle.sheet.specs.declared.Counts.{Counts}
use Rattle.sheet_counter.specs.Answer.{Counted}
use Rattle.sheet_counter.specs.declared.Counter.{Counter}
use Rattle.sheet_counter.specs.declared.Progress.{Progress}
use Rattle.sheet_found.specs.Found.{fresh_found, found_with}
use Rattle.sheet_found.specs.declared.Found.{Found}
use Rattle.sheet_octets.specs.Raw.{fresh_raw, raw_all}

-- the state of reading before any flag, and nothing counted yet
abbrev pub fresh : declared.State
fresh = record { synced = false; pending = false; bad = false; count = 0; check = 0 }

abbrev pub fresh_counter : (level : ℕ) → Counter
fresh_counter level = record { level = level; state = fresh; octets = fresh_raw; found = fresh_found }

-- with a report whose octets stand in the buffer m, the same at both levels
abbrev pub with_report : Found → Report → (m : List ℕ) → Found
with_report f p m = found_with f (reported (rules 0 sum_kind) p m)

-- every report is counted
abbrev pub always : Found → Bool
always f = true

-- report after report, to the end of the chunk
abbrev pub gathered_from : (level : ℕ) → declared.State → (xs m : List ℕ) → Found → Gathered (State ℕ) Found
gathered_from level s xs m f = gather_all with_report always (step (rules level sum_kind)) (view s) xs m f

abbrev pub gathered : Counter → (xs m : List ℕ) → Gathered (State ℕ) Found
gathered c xs m = gathered_from c.level c.state xs m c.found

abbrev pub progress_of : Gathered (State ℕ) Found → Progress
progress_of g = record { state = place g.state; found = g.made }

-- a call: its answer, and the reader's buffer after it
pub record Call : Type 0 where
  pub answer : Counted
  pub buffer : List ℕ

-- the counter behind the chunk xs
abbrev pub later : Counter → Progress → (xs : List ℕ) → Counter
later c p xs = record { level = c.level; state = p.state; octets = raw_all c.level c.octets xs; found = p.found }

unfoldable pub call_of : Counter → (xs : List ℕ) → Gathered (State ℕ) Found → Call
call_of c xs g = record { answer = record { number = done; counter = later c (progress_of g) xs }; buffer = g.buffer }

-- a refusal with the number n: nothing changes
unfoldable pub refusal : Counter → (m : List ℕ) (n : ℕ) → Call
refusal c m n = record { answer = record { number = n; counter = c }; buffer = m }

unfoldable pub refusals : Counter → (room : ℕ) → List Refusal
refusals c room = (ltb max_level c.level, bad_level) ∷ (ltb room max_segment, buffer_too_small) ∷ []

unfoldable pub count : Counter → (xs m : List ℕ) → Call
count c xs m = guarded (refusals c (length m)) (refusal c m) (call_of c xs (gathered c xs m))

-- in the order in which they are printed, with so many octets before the first flag and after the last
abbrev pub counts_with : Counter → (before after : ℕ) → Counts
counts_with c before after = let k = c.octets.kept in let f = c.found in record {
  number = done;
  counts =
      before ∷ k.flags ∷ k.between ∷ after ∷ c.octets.skipped.between
      ∷ f.frames ∷ f.aborted ∷ f.long ∷ f.short ∷ f.bad_checks ∷ f.bad_pairs
      ∷ f.data_packets ∷ f.dack_packets ∷ f.repeats ∷ [];
}

-- "before and after still count every octet"
abbrev pub counts_in : Counter → Counts
counts_in c = let k = c.octets.kept in let s = c.octets.skipped in counts_with c (counted too_large k.before s.before) (counted too_large k.after s.after)
