-- The theorems on reading KISS, each under one name; docs/THEOREMS.md says them in words. Assumes nothing.
--
-- They speak of `read`, which the reader's contract cites, as a caller uses it: `read_chunks read_scan r xss m` are all reports that a caller
-- gets who hands over the chunks xss, from the state r on, with the buffer m, and hands on the rest of a chunk after each report.
use Prim.Native.Nat.{ℕ, ◌≤◌}
use mathlib.Core.Bool.{Bool, true, false}
use mathlib.Core.List.{List, [], ◌∷◌, map, flatten}
use mathlib.Core.Logic.{⊎_elim}
use mathlib.Core.Path.{◌≡◌, refl, sym, ap, ap₂, ◌∙◌}
use lib.Dec.{ltb}
use lib.ListN.{length}
use lib.Seq.{sets}
use Rattle.common.proofs.Refusals.{guarded-map}
use Rattle.common.specs.Refusals.{guarded}
use Rattle.framing.proofs.Bodies.{unskipped_none, segment_written, frames_written}
use Rattle.framing.proofs.Canonical.{NoFlag}
use Rattle.framing.proofs.Stored.{scan_stored}
use Rattle.framing.proofs.Theorems as framing
use Rattle.framing.proofs.Written.{reports_of-frames}
use Rattle.framing.specs.Bodies.{Octets, bodies_of}
use Rattle.framing.specs.Reports.{reports_of_segment, reports_of, shown_reports}
use Rattle.framing.specs.Step.{step}
use Rattle.framing.specs.Stored.{undone_in}
use Rattle.kiss.specs.Frame.{typed, body_of, body, line}
use Rattle.kiss.specs.Limits.{max_segment}
use Rattle.kiss.specs.Octets.{writing}
use Rattle.kiss_laws.proofs.Faithful.{canonical, faithful}
use Rattle.kiss_laws.proofs.Reader.{fit_view, action_keeps, read_scan-scan, calls, fit_or_refused}
use Rattle.kiss_laws.proofs.Rules.{lawful, undoes, all_accepted}
use Rattle.kiss_read.proofs.Formed.{malformed_view}
use Rattle.kiss_read.proofs.Refusals.{Fit, read_ind}
use Rattle.kiss_read.proofs.Scanning.{commutes}
use Rattle.kiss_read.specs.Read.{Call, call_of, scan_call, refusal, refusals, read, read_scan}
use Rattle.kiss_read.specs.State.{fresh, view, place, malformed}
use Rattle.kiss_read.specs.Step.{action}
use Rattle.kiss_read.specs.Answer.{Answer}
use Rattle.kiss_read.specs.declared.Reader.{Reader}
use Rattle.kiss_report.specs.Outcome.Outcome.{Refused}
use Rattle.kiss_report.specs.declared.Report.{Report}
use Rattle.kiss_rules.specs.Rules.{rules, framed}
use Rattle.kiss_write.proofs.Refusals.{done_wrote}
use Rattle.kiss_write.specs.Write.{write_frame}
use Rattle.line.proofs.Chunks.{scan_good, read_chunks-idle}
use Rattle.line.proofs.Scan.{apart, scan_apart}
use Rattle.line.proofs.Simulation.{scan_simulates}
use Rattle.line.proofs.Trace.{onwards, trace_scan}
use Rattle.line.specs.Scan.{Scan}
use Rattle.line.specs.Trace.{trace, read_chunks}
use Rattle.qaft.specs.Answers.{buffer_too_small, bad_state}
use Rattle.qaft_write.proofs.Sending.{done_writable, sent_line}
use Rattle.qaft_write.specs.Sending.{Lent, octets_of, sent, AllDone}

-- 1. Cutting: every two ways of cutting a line into chunks, empty ones too, give the same reports, each with the same buffer and so the same
-- payload, the same last state and the same last buffer; from every state and with every buffer, refused ones too.
pub every_cutting_reads_alike : (xss yss : List (List ℕ)) → flatten xss ≡ flatten yss → (r : Reader) (m : List ℕ)
    → read_chunks read_scan r xss m ≡ read_chunks read_scan r yss m
every_cutting_reads_alike xss yss e r m =
    ⊎_elim
    (λ h. framing.every_cutting_reads_alike rules lawful place action commutes read_scan calls xss yss e (view r) m (fit_view r m h))
    (λ f. read_chunks-idle read_scan r m f xss ∙ sym (read_chunks-idle read_scan r m f yss))
    (fit_or_refused r m)

-- 2. Meaning: what a caller gets of a line is what the line reports by the request's sentences, payloads included, with any buffer of 2,561 octets
-- or more, whatever it holds, and however the line is cut.
pub reads_what_the_line_reports : (m : List ℕ) → max_segment ≤ length m → (l : List ℕ) (xss : List (List ℕ)) → flatten xss ≡ l
    → shown_reports rules (read_chunks read_scan fresh xss m).events ≡ reports_of rules l
reads_what_the_line_reports m room l xss e = framing.reads_what_the_line_reports rules lawful place action commutes read_scan calls m room l xss e

-- 3. Buffer: after a call that is not refused the octets undone in the call stand from the index that the count gives, up to 2,561 octets,
-- and the others are as before; a refused call leaves the buffer alone.
pub buffer_after_a_call : (r : Reader) (xs m : List ℕ)
    → (read r xs m).buffer ≡ guarded (refusals r (length m)) (λ _. m) (sets m r.count (undone_in rules (view r) xs))
unfolding read refusals refusal scan_call call_of
buffer_after_a_call r xs m = by_tests (ltb (length m) max_segment) (malformed r) refl
  where
    by_tests : (b c : Bool) → malformed r ≡ c
        → (guarded ((b, buffer_too_small) ∷ (c, bad_state) ∷ []) (refusal r m) (scan_call r xs m)).buffer
        ≡ guarded ((b, buffer_too_small) ∷ (c, bad_state) ∷ []) (λ _. m) (sets m r.count (undone_in rules (view r) xs))
    by_tests true c e = refl
    by_tests false true e = refl
    by_tests false false e =
        ap (λ (u : Scan Reader Report). u.buffer) (scan_simulates place (λ p. p) (step rules) action commutes xs (view r) m)
        ∙ scan_stored rules lawful (view r) xs m (sym (malformed_view r) ∙ e)

-- 4. A well formed state stays well formed, whatever the chunk and the buffer; among them the fresh state, the highest count, and a DB pending
-- before any octet of a segment.
pub stays_well_formed : (r : Reader) (xs m : List ℕ) → malformed r ≡ false → malformed (read r xs m).answer.reader ≡ false
unfolding refusal scan_call call_of
stays_well_formed r xs m e =
    read_ind r xs m (λ (k : Call). malformed k.answer.reader ≡ false) (λ _. e) (λ h. (scan_good action Fit action_keeps xs r m h).formed)

pub corners_are_well_formed :
    (malformed fresh ≡ false)
    × ((t : ℕ) (b p : Bool) → malformed (record { synced = true; pending = p; count = 2562; type_octet = t; bad_escape = b }) ≡ false)
    × (malformed (record { synced = true; pending = true; count = 0; type_octet = 0; bad_escape = false }) ≡ false)
unfolding malformed
corners_are_well_formed = (refl, λ t b p. refl, refl)

-- 5. The reader judges by its state alone: a buffer of the same length with other contents changes no answer.
pub answers_by_state_alone : (r : Reader) (xs m n : List ℕ) → length m ≡ length n → (read r xs m).answer ≡ (read r xs n).answer
unfolding read refusal scan_call call_of apart
answers_by_state_alone r xs m n e =
    let given : Scan Reader Report → Answer = λ u. (call_of (apart u)).answer in
    guarded-map (λ (k : Call). k.answer) (refusals r (length m)) (refusal r m) (scan_call r xs m)
    ∙ ap₂ (λ (k : ℕ) (a : Answer). guarded (refusals r k) (λ n. record { outcome = Refused n; taken = 0; reader = r }) a) e (ap given (scan_apart action xs r m n))
    ∙ sym (guarded-map (λ (k : Call). k.answer) (refusals r (length n)) (refusal r n) (scan_call r xs n))

-- 6. Round trip: payloads that were written one after another, each call answered with 0 and with any out buffer of its own, come back when they are
-- read, exactly and in order, however what was written is cut, and whatever the reader's buffer holds. (A body holds no C0: `body_no_flag` of
-- kiss/proofs/Frame.)
pub written_then_read : (cs : List Lent) → AllDone write_frame false cs → (m : List ℕ) → max_segment ≤ length m → (xss : List (List ℕ)) → flatten xss ≡ sent write_frame false cs
    → shown_reports rules (read_chunks read_scan fresh xss m).events ≡ map framed (octets_of cs)
unfolding line
written_then_read cs ok m room xss e =
    reads_what_the_line_reports m room (line (octets_of cs)) xss (e ∙ sent_line write_frame writing typed done_wrote cs ok)
    ∙ reports_of-frames rules writing undoes typed framed (octets_of cs) (all_accepted (octets_of cs) (done_writable write_frame writing typed done_wrote false cs ok))

-- 7. What stands between two flags and reads as a frame is exactly the body that is written for it, so two that read as the same frame are the same octets.
pub frame_is_its_body : (s : List ℕ) → NoFlag rules s → Octets s → (d : List ℕ) → reports_of_segment rules s ≡ framed d ∷ [] → s ≡ body d
unfolding body body_of
frame_is_its_body s f h d e = sym (unskipped_none rules (λ x. refl) s) ∙ segment_written rules writing canonical typed framed faithful s f h d e

-- As a caller reads it, however it is cut: where frames alone are reported, the line has their bodies and no others
pub read_frames_are_written : (m : List ℕ) → max_segment ≤ length m → (l : List ℕ) → Octets l → (xss : List (List ℕ)) → flatten xss ≡ l → (ds : List (List ℕ))
    → shown_reports rules (read_chunks read_scan fresh xss m).events ≡ map framed ds → bodies_of rules l ≡ map body ds
unfolding body body_of
read_frames_are_written m room l h xss e ds q =
    frames_written rules writing canonical typed framed faithful l h ds (sym (reads_what_the_line_reports m room l xss e) ∙ q)

-- What a consumer of reports needs: a call and then the rest of the chunk are the trace of the chunk, for a state and a buffer that no call refuses.
pub read_then_rest : (r : Reader) (xs m : List ℕ) → Fit r m → trace action r xs m ≡ onwards xs (trace action) (read_scan r xs m)
read_then_rest r xs m h = trace_scan action xs r m ∙ ap (onwards xs (trace action)) (sym (read_scan-scan r xs m h))
