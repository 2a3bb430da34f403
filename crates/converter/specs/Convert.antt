-- A capture converted chunk after chunk: what a call of `convert` answers, and what the two lent buffers then hold. Cited by its contract. Assumes
-- nothing.
--
--   counted              the tally with one more report
--   gathered             the reports of a chunk, each with its text put behind the one before
--   convert c xs m out   a call
use Rattle.std.specs.Prelude.{ℕ, Bool, true, false, cond, List, [], ◌∷◌, length, nat_lt}
use Rattle.counter.specs.Counted.{next}
use Rattle.common.specs.Refusals.{Refusal, guarded}
use Rattle.converter.specs.Answer.{Converted}
use Rattle.converter.specs.Gist.{source_rules, text_of}
use Rattle.converter.specs.declared.Converter.{Converter}
use Rattle.converter.specs.declared.Gist.{Gist}
use Rattle.converter.specs.declared.Gist.TheVariants.{Frame, Skipped, Other}
use Rattle.converter.specs.declared.Tally.{Tally}
use Rattle.deframer.specs.Scan.{view, place}
use Rattle.deframer.specs.declared.State as declared
use Rattle.framing.specs.Rules.{State}
use Rattle.framing.specs.Step.{step}
use Rattle.kiss.specs.Answers as kiss
use Rattle.line.specs.Gather.{Gathered}
use Rattle.line.specs.Texts.{Texts, text_call}
use Rattle.qaft.specs.Answers.{done, out_too_small, buffer_too_small, bad_level}
use Rattle.qaft.specs.Limits.{max_level, max_segment, max_frame}

-- nothing made yet
abbrev pub fresh_tally : Tally
fresh_tally = record { at_flag = false; frames = 0; skipped = 0; others = 0 }

-- one more report; the counts wrap at 2^64
abbrev pub counted : Tally → Gist → Tally
counted t (Frame n) = record { at_flag = true; frames = next t.frames; skipped = t.skipped; others = t.others }
counted t Skipped = record { at_flag = t.at_flag; frames = t.frames; skipped = next t.skipped; others = t.others }
counted t Other = record { at_flag = t.at_flag; frames = t.frames; skipped = t.skipped; others = next t.others }

-- the state of reading before any flag
abbrev pub fresh : declared.State
fresh = record { synced = false; pending = false; bad = false; count = 0; check = 0 }

abbrev pub fresh_converter : (to_kiss : Bool) (level : ℕ) → Converter
fresh_converter to_kiss level = record { to_kiss = to_kiss; level = level; state = fresh; tally = fresh_tally }

-- what goes into the next call
abbrev pub later : Converter → declared.State → Tally → Converter
later c s t = record { to_kiss = c.to_kiss; level = c.level; state = s; tally = t }

-- the text of a report beside a tally, whose octets stand in the buffer m
abbrev pub report_text : (to_kiss : Bool) (level : ℕ) → Tally → Gist → (m : List ℕ) → List ℕ
report_text to_kiss level t g m = text_of to_kiss level t.at_flag g m

-- the reports of a chunk, as long as there is room for every frame: the longest of both framings is QAFT's
abbrev pub gathered : Converter → (xs m out : List ℕ) → Gathered (State ℕ) (Texts Tally)
gathered c xs m out =
    let k = c.to_kiss in
    text_call (report_text k c.level) counted max_frame (step (source_rules k c.level)) (view c.state) c.tally xs m out

-- a call: its answer, the reader's buffer and the out buffer after it
pub record Call : Type 0 where
  pub answer : Converted
  pub buffer : List ℕ
  pub out : List ℕ

unfoldable pub call_of : Converter → Gathered (State ℕ) (Texts Tally) → Call
call_of c g =
    let d = g.made in
    record { answer = record { number = done; taken = g.taken; length = d.behind; converter = later c (place g.state) d.tally }; buffer = g.buffer; out = d.out }

-- "64 (to KISS) or 3"
abbrev pub too_small : (to_kiss : Bool) → ℕ
too_small to_kiss = cond to_kiss kiss.out_too_small out_too_small

-- a refusal with the number n: nothing is taken, and nothing changes
unfoldable pub refusal : Converter → (m out : List ℕ) (n : ℕ) → Call
refusal c m out n = record { answer = record { number = n; taken = 0; length = 0; converter = c }; buffer = m; out = out }

-- rooms are the lengths of the buffer and of the out buffer
unfoldable pub refusals : Converter → (room out_room : ℕ) → List Refusal
refusals c room out_room =
    (nat_lt max_level c.level, bad_level)
    ∷ (nat_lt out_room max_frame, too_small c.to_kiss)
    ∷ (nat_lt room max_segment, buffer_too_small)
    ∷ []

unfoldable pub convert : Converter → (xs m out : List ℕ) → Call
convert c xs m out = guarded (refusals c (length m) (length out)) (refusal c m out) (call_of c (gathered c xs m out))
