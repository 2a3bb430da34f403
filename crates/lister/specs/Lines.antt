-- A listing made chunk after chunk: what a call of `list` answers, and what the two lent buffers then hold. Cited by its contract. Assumes nothing.
--
--   gathered l xs m out   the lines of the chunk xs, as long as the out buffer has room for every line
--   list l xs m out       a call
use Rattle.std.specs.Prelude.{ℕ, ◌-◌, ◌^◌, Bool, false, List, [], ◌∷◌, length, take, nat_lt}
use Rattle.capture.specs.Octets.{fresh_octets, count_all}
use Rattle.common.specs.Refusals.{Refusal, guarded}
use Rattle.deframer.specs.Scan.{view, place}
use Rattle.deframer.specs.declared.State as declared
use Rattle.framing.specs.Rules.{State}
use Rattle.framing.specs.Step.{step}
use Rattle.line.specs.Gather.{Gathered}
use Rattle.line.specs.Texts.{Texts, text_call}
use Rattle.lister.specs.Answer.{Listed}
use Rattle.lister.specs.Entries.{flag_of, source_rules, line_of, counted}
use Rattle.lister.specs.declared.Lister.{Lister}
use Rattle.lister.specs.declared.Progress.{Progress}
use Rattle.listing.specs.Line.{max_line}
use Rattle.listing_ends.specs.Ends.{end_line}
use Rattle.qaft.specs.Answers.{done, out_too_small, buffer_too_small, bad_level}
use Rattle.qaft.specs.Limits.{max_level, max_segment}

-- the state of reading before any flag, and nothing listed yet
abbrev pub fresh : declared.State
fresh = record { synced = false; pending = false; bad = false; count = 0; check = 0 }

abbrev pub fresh_lister : (kiss : Bool) (level : ℕ) → Lister
fresh_lister kiss level = record { kiss = kiss; level = level; state = fresh; reports = 0; counts = fresh_octets }

-- while there is room for every line, the lines of the chunk's reports, numbered on
abbrev pub gathered : Lister → (xs m out : List ℕ) → Gathered (State ℕ) (Texts ℕ)
gathered l xs m out = text_call (line_of l.kiss) counted max_line (step (source_rules l.kiss l.level)) (view l.state) l.reports xs m out

-- what the loop over the reports comes to
abbrev pub progress_of : Gathered (State ℕ) (Texts ℕ) → Progress
progress_of g = record { taken = g.taken; state = place g.state; reports = g.made.tally; behind = g.made.behind }

-- octets are counted up to here
abbrev pub most_octets : ℕ
most_octets = 2 ^ 64 - 1

-- the octets that a chunk adds to what was counted, of a line with its flag
abbrev pub later : Lister → Progress → (xs : List ℕ) → Lister
later l p xs = record {
  kiss = l.kiss;
  level = l.level;
  state = p.state;
  reports = p.reports;
  counts = count_all most_octets (flag_of l.kiss) l.counts (take p.taken xs);
}

-- a call: its answer, the reader's buffer and the out buffer after it
pub record Call : Type 0 where
  pub answer : Listed
  pub buffer : List ℕ
  pub out : List ℕ

unfoldable pub call_of : Lister → (xs : List ℕ) → Gathered (State ℕ) (Texts ℕ) → Call
call_of l xs g = record {
  answer = record { number = done; taken = g.taken; length = g.made.behind; lister = later l (progress_of g) xs };
  buffer = g.buffer;
  out = g.made.out;
}

-- a refusal with the number n: nothing is taken, and nothing changes
unfoldable pub refusal : Lister → (m out : List ℕ) (n : ℕ) → Call
refusal l m out n = record { answer = record { number = n; taken = 0; length = 0; lister = l }; buffer = m; out = out }

-- rooms are the lengths of the buffer and of the out buffer
unfoldable pub refusals : Lister → (room out_room : ℕ) → List Refusal
refusals l room out_room = (nat_lt max_level l.level, bad_level) ∷ (nat_lt out_room max_line, out_too_small) ∷ (nat_lt room max_segment, buffer_too_small) ∷ []

-- the lines stand at the front of the out buffer
unfoldable pub list : Lister → (xs m out : List ℕ) → Call
list l xs m out = guarded (refusals l (length m) (length out)) (refusal l m out) (call_of l xs (gathered l xs m out))

-- the last line, when all chunks were listed
abbrev pub last_line : Lister → List ℕ
last_line l = end_line l.reports l.counts.before l.counts.after
