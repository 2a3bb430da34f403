-- The theorems on reading QAFT, each under one name; docs/THEOREMS.md says them in words. Assumes nothing.
--
-- They speak of `read`, which the reader's contract cites, as a caller uses it: `read_chunks read_scan r xss m` are all reports that a caller
-- gets who hands over the chunks xss, from the state r on, with the buffer m, and hands on the rest of a chunk after each report.
use Prim.Native.Nat.{ℕ, ◌≤◌}
use mathlib.Core.Bool.{Bool, true, false}
use mathlib.Core.List.{List, [], ◌∷◌, ◌++◌, map, flatten, append-nil}
use mathlib.Core.Logic.{⊎_elim}
use mathlib.Core.Path.{◌≡◌, refl, sym, ap, ap₂, subst, ◌∙◌}
use native.Mathlib.Omega.{arith}
use borrow.Author.Tests.{le-ltb, eq-eqb, ne_eqb}
use lib.Dec.{ltb}
use lib.ListN.{length}
use lib.Seq.{sets}
use Rattle.common.proofs.Each.{Each}
use Rattle.common.proofs.Refusals.{guarded-map}
use Rattle.common.specs.Refusals.{Refusal, guarded}
use Rattle.fcs.specs.Bursts.{Burst}
use Rattle.framing.proofs.Bodies.{unskipped_none, segment_written, bodies_written, reports_of_bodies, frames_written}
use Rattle.framing.proofs.Canonical.{NoFlag}
use Rattle.framing.proofs.Skipped.{reports_of-skipping}
use Rattle.framing.proofs.Stored.{scan_stored}
use Rattle.framing.proofs.Strewn.{strewn_between, strewn_unskipped, unskipped_strewn}
use Rattle.framing.proofs.Theorems as framing
use Rattle.framing.proofs.Written.{unskipped_escaped, reports_escaped, reports_of-frames}
use Rattle.framing.specs.Bodies.{Octets, bodies_of}
use Rattle.framing.specs.Reports.{Reported, unskipped, unescape, judged, reports_of_octets, reports_of_segment, reports_of, shown_reports}
use Rattle.framing.specs.Step.{step}
use Rattle.framing.specs.Step as steps
use Rattle.framing.specs.Stored.{undone_in}
use Rattle.framing.specs.Strewn.{Strewn}
use Rattle.line.proofs.Chunks.{scan_good, read_chunks-idle}
use Rattle.line.proofs.Scan.{apart, scan_apart}
use Rattle.line.proofs.Simulation.{scan_simulates}
use Rattle.line.proofs.Trace.{onwards, trace_scan}
use Rattle.line.specs.Scan.{Scan}
use Rattle.line.specs.Trace.{Trace, trace, no_event, read_chunks}
use Rattle.qaft.proofs.Check.{sound}
use Rattle.qaft.specs.Answers.{bad_level, bad_kind, buffer_too_small, bad_state}
use Rattle.qaft.specs.Check.{check_by}
use Rattle.qaft.specs.Escape.{is_flow_control, writing}
use Rattle.qaft.specs.Frame.{sealed, body, line}
use Rattle.qaft.specs.Limits.{fcs_kind, max_level, max_kind, max_data, max_segment_of, count_cap_of}
use Rattle.qaft_laws.proofs.Changed.{changed_is_a_bad_check, lost_flag_is_no_frame}
use Rattle.qaft_laws.proofs.Faithful.{canonical, faithful}
use Rattle.qaft_laws.proofs.Reader.{fit_view, action_keeps, read_scan-scan, calls, fit_or_refused}
use Rattle.qaft_laws.proofs.Rules.{lawful, undoes, sealed_accepted, all_accepted}
use Rattle.qaft_read.proofs.Refusals.{Fit, read_ind}
use Rattle.qaft_read.proofs.Scanning.{commutes}
use Rattle.qaft_read.specs.Read.{Call, call_of, scan_call, refusal, refusals, read, read_scan}
use Rattle.qaft_read.specs.State.{fresh, view, place, malformed}
use Rattle.qaft_read.specs.Step.{action}
use Rattle.qaft_read.specs.Answer.{Answer}
use Rattle.qaft_read.specs.declared.Reader.{Reader}
use Rattle.qaft_rules.specs.Rules.{rules, framed}
use Rattle.qaft_report.specs.Outcome.Outcome.{Refused}
use Rattle.qaft_report.specs.declared.Report.{Report}
use Rattle.qaft_report.specs.declared.Report.TheVariants.{BadCheck}
use Rattle.qaft_write.proofs.Refusals.{done_level, done_kind, done_wrote}
use Rattle.qaft_write.proofs.Sending.{done_writable, sent_line}
use Rattle.qaft_write.specs.Sending.{Lent, octets_of, sent, AllDone}
use Rattle.qaft_write.specs.Write.{write_frame}

-- 1. Cutting: every two ways of cutting a line into chunks, empty ones too, give the same reports, each with the same buffer and so the same
-- data, the same last state and the same last buffer; from every state and with every buffer, refused ones too.
pub every_cutting_reads_alike : (xss yss : List (List ℕ)) → flatten xss ≡ flatten yss → (r : Reader) (m : List ℕ)
    → read_chunks read_scan r xss m ≡ read_chunks read_scan r yss m
every_cutting_reads_alike xss yss e r m =
    let l = r.level in
    let k = r.check_kind in
    ⊎_elim
    (λ h. framing.every_cutting_reads_alike (rules l k) (lawful l k) (place l k) action (commutes l k) read_scan (calls l k h.level h.kind) xss yss e (view r) m (fit_view r m h))
    (λ f. read_chunks-idle read_scan r m f xss ∙ sym (read_chunks-idle read_scan r m f yss))
    (fit_or_refused r m)

-- 2. Meaning: what a caller gets of a line is what the line reports by the paper's sentences, data included, at both levels and with both checks, with any
-- buffer of 2,561 octets or more, for the check sequence 2,562, whatever it holds, and however the line is cut.
pub reads_what_the_line_reports : (level kind : ℕ) → level ≤ max_level → kind ≤ max_kind → (m : List ℕ) → max_segment_of kind ≤ length m → (l : List ℕ) (xss : List (List ℕ)) → flatten xss ≡ l
    → shown_reports (rules level kind) (read_chunks read_scan (fresh level kind) xss m).events ≡ reports_of (rules level kind) l
reads_what_the_line_reports level kind h k m room l xss e =
    framing.reads_what_the_line_reports (rules level kind) (lawful level kind) (place level kind) action (commutes level kind) read_scan (calls level kind h k) m room l xss e

-- 3. Buffer: after a call that is not refused the octets undone in the call stand from the index that the count gives, up to 2,561 octets, with the check
-- sequence 2,562, and the others are as before; a refused call leaves the buffer alone.
pub buffer_after_a_call : (r : Reader) (xs m : List ℕ)
    → (read r xs m).buffer ≡ guarded (refusals r (length m)) (λ _. m) (sets m r.count (undone_in (rules r.level r.check_kind) (view r) xs))
unfolding read refusals refusal scan_call call_of malformed steps.malformed
buffer_after_a_call r xs m = by_tests (ltb max_level r.level) (ltb max_kind r.check_kind) (ltb (length m) (max_segment_of r.check_kind)) (malformed r) refl
  where
    tests : (a d b c : Bool) → List Refusal
    tests a d b c = (a, bad_level) ∷ (d, bad_kind) ∷ (b, buffer_too_small) ∷ (c, bad_state) ∷ []

    by_tests : (a d b c : Bool) → malformed r ≡ c
        → (guarded (tests a d b c) (refusal r m) (scan_call r xs m)).buffer ≡ guarded (tests a d b c) (λ _. m) (sets m r.count (undone_in (rules r.level r.check_kind) (view r) xs))
    by_tests true d b c e = refl
    by_tests false true b c e = refl
    by_tests false false true c e = refl
    by_tests false false false true e = refl
    by_tests false false false false e =
        let l = r.level in
        let k = r.check_kind in
        ap (λ (u : Scan Reader Report). u.buffer) (scan_simulates (place l k) (λ p. p) (step (rules l k)) action (commutes l k) xs (view r) m)
        ∙ scan_stored (rules l k) (lawful l k) (view r) xs m e

-- 4. Demand 2: frames that were written one after another, each call answered with 0 and with any out buffer of its own, come back when they are
-- read "at the same level and with the same check" (2026-07), exactly and in order, however what was written is cut, and whatever the reader's buffer holds.
pub written_then_read : (level kind : ℕ) (cs : List Lent) → AllDone (write_frame level kind) false cs
    → (m : List ℕ) → max_segment_of kind ≤ length m → (xss : List (List ℕ)) → flatten xss ≡ sent (write_frame level kind) false cs
    → shown_reports (rules level kind) (read_chunks read_scan (fresh level kind) xss m).events ≡ map framed (octets_of cs)
unfolding sent read_chunks no_event shown_reports flatten line
written_then_read level kind [] ok m fits xss e =
    ap (λ (t : Trace Reader Report). shown_reports (rules level kind) t.events) (every_cutting_reads_alike xss [] e (fresh level kind) m)
written_then_read level kind (c ∷ cs) ok m fits xss e =
    let h = done_level level kind false c.octets c.out ok.0 in
    let k = done_kind level kind false c.octets c.out ok.0 in
    let ds = octets_of (c ∷ cs) in
    let w = done_wrote level kind in
    let writable = done_writable (write_frame level kind) (writing level) (sealed kind) w false (c ∷ cs) ok in
    reads_what_the_line_reports level kind h k m fits (line level kind ds) xss (e ∙ sent_line (write_frame level kind) (writing level) (sealed kind) w (c ∷ cs) ok)
    ∙ reports_of-frames (rules level kind) (writing level) (undoes level kind) (sealed kind) framed ds (all_accepted level kind ds writable)

-- What a consumer of reports needs: a call and then the rest of the chunk are the trace of the chunk, for a state and a buffer that no call refuses.
pub read_then_rest : (r : Reader) (xs m : List ℕ) → Fit r m → trace action r xs m ≡ onwards xs (trace action) (read_scan r xs m)
read_then_rest r xs m h = trace_scan action xs r m ∙ ap (onwards xs (trace action)) (sym (read_scan-scan r xs m h))

-- 5. A well formed state stays well formed, whatever the chunk and the buffer; among them a fresh state, the highest count, and a 7D pending
-- before any octet of a segment.
pub stays_well_formed : (r : Reader) (xs m : List ℕ) → malformed r ≡ false → malformed (read r xs m).answer.reader ≡ false
unfolding refusal scan_call call_of
stays_well_formed r xs m e =
    read_ind r xs m (λ (k : Call). malformed k.answer.reader ≡ false) (λ _. e) (λ h. (scan_good action Fit action_keeps xs r m h).formed)

pub corners_are_well_formed : (level kind : ℕ)
    → (malformed (fresh level kind) ≡ false)
    × ((a : ℕ) (p b : Bool) → (check_by kind).is_check a ≡ true
    → malformed (record { level = level; check_kind = kind; synced = true; pending = p; count = count_cap_of kind; check = a; bad_pair = b }) ≡ false)
    × (malformed (record { level = level; check_kind = kind; synced = true; pending = true; count = 0; check = (check_by kind).blank; bad_pair = false }) ≡ false)
unfolding malformed
corners_are_well_formed level kind =
    let same = eq-eqb (check_by kind).blank (check_by kind).blank refl in
    let none = le-ltb (count_cap_of kind) 0 (omega arith) in
    let full = le-ltb (count_cap_of kind) (count_cap_of kind) (omega arith) in (
      rw (none, (sound kind).blank-is_check, same),
      λ a p b e. rw (full, e, ne_eqb (count_cap_of kind) 0 (λ z. omega (arith, z))),
      rw (none, (sound kind).blank-is_check, same),
    )

-- 6. The reader judges by its state alone: a buffer of the same length with other contents changes no answer.
pub answers_by_state_alone : (r : Reader) (xs m n : List ℕ) → length m ≡ length n → (read r xs m).answer ≡ (read r xs n).answer
unfolding read refusal scan_call call_of apart
answers_by_state_alone r xs m n e =
    let given : Scan Reader Report → Answer = λ u. (call_of (apart u)).answer in
    guarded-map (λ (k : Call). k.answer) (refusals r (length m)) (refusal r m) (scan_call r xs m)
    ∙ ap₂ (λ (k : ℕ) (a : Answer). guarded (refusals r k) (λ n. record { outcome = Refused n; taken = 0; reader = r }) a) e (ap given (scan_apart action xs r m n))
    ∙ sym (guarded-map (λ (k : Call). k.answer) (refusals r (length n)) (refusal r n) (scan_call r xs n))

-- 7. Demand 2's sentence of 2026-02, "putting such octets anywhere into a level 1 line changes no report": l' is l with raw 11 and 13 put in, anywhere
-- and as often as one likes. However either is cut, a caller gets the same reports, each with the same buffer and so the same data, the same last
-- state and the same last buffer; from every state of level 1 and with every buffer, refused ones too.
pub flow_control_changes_nothing : (l l' : List ℕ) → Strewn (is_flow_control 1) l l' → (xss yss : List (List ℕ)) → flatten xss ≡ l → flatten yss ≡ l'
    → (r : Reader) → r.level ≡ 1 → (m : List ℕ) → read_chunks read_scan r xss m ≡ read_chunks read_scan r yss m
flow_control_changes_nothing l l' s xss yss e e' r level m =
    let n = r.level in
    let k = r.check_kind in
    let here : Strewn (is_flow_control n) l l' = subst (λ (n : ℕ). Strewn (is_flow_control n) l l') (sym level) s in
    let same : unskipped (rules n k) (flatten xss) ≡ unskipped (rules n k) (flatten yss) =
    ap (unskipped (rules n k)) e ∙ sym (strewn_unskipped (rules n k) here) ∙ ap (unskipped (rules n k)) (sym e') in
    ⊎_elim
    (λ h. framing.skipped_octets_change_nothing (rules n k) (lawful n k) (place n k) action (commutes n k) read_scan (calls n k h.level h.kind) xss yss same (view r) m (fit_view r m h))
    (λ f. read_chunks-idle read_scan r m f xss ∙ sym (read_chunks-idle read_scan r m f yss))
    (fit_or_refused r m)

-- what the two lines report is the same
pub flow_control_changes_no_report : (kind : ℕ) (l l' : List ℕ) → Strewn (is_flow_control 1) l l' → reports_of (rules 1 kind) l' ≡ reports_of (rules 1 kind) l
flow_control_changes_no_report kind l l' s = reports_of-skipping (rules 1 kind) (lawful 1 kind) l' l (strewn_unskipped (rules 1 kind) s)

-- frames written at level 1 come back, exactly and in order, from their line with such octets put in, however that is cut
pub written_then_read_with_flow_control : (kind : ℕ) (cs : List Lent) → AllDone (write_frame 1 kind) false cs → (l' : List ℕ) → Strewn (is_flow_control 1) (sent (write_frame 1 kind) false cs) l'
    → (m : List ℕ) → max_segment_of kind ≤ length m → (xss : List (List ℕ)) → flatten xss ≡ l'
    → shown_reports (rules 1 kind) (read_chunks read_scan (fresh 1 kind) xss m).events ≡ map framed (octets_of cs)
unfolding flatten
written_then_read_with_flow_control kind cs ok l' s m fits xss e =
    let whole = append-nil (sent (write_frame 1 kind) false cs) in
    ap (λ (t : Trace Reader Report). shown_reports (rules 1 kind) t.events) (sym (flow_control_changes_nothing _ l' s (sent (write_frame 1 kind) false cs ∷ []) xss whole e (fresh 1 kind) refl m))
    ∙ written_then_read 1 kind cs ok m fits (sent (write_frame 1 kind) false cs ∷ []) whole

-- such lines: octets of flow control between any two parts of a line, and every line, which is one without them in which they were put
pub flow_control_anywhere : (xs fs ys : List ℕ) → Each (λ (x : ℕ). is_flow_control 1 x ≡ true) fs → Strewn (is_flow_control 1) (xs ++ ys) (xs ++ (fs ++ ys))
flow_control_anywhere = strewn_between (is_flow_control 1)

pub flow_control_taken_out : (kind : ℕ) (l : List ℕ) → Strewn (is_flow_control 1) (unskipped (rules 1 kind) l) l
flow_control_taken_out kind = unskipped_strewn (rules 1 kind)

-- 8. The claim of 2026-04, "a body that reads as a frame is exactly the body our writer makes for it, raw flow control at level 1 set aside". s is what
-- stands between two flags: it reads as the frame of d exactly where, without flow control, it is the body of d.
module _ (level kind : ℕ) where
  pub frame_is_its_body : (s : List ℕ) → NoFlag (rules level kind) s → Octets s → (d : List ℕ) → reports_of_segment (rules level kind) s ≡ framed d ∷ [] → unskipped (rules level kind) s ≡ body level kind d
  unfolding body
  frame_is_its_body = segment_written (rules level kind) (writing level) (canonical level kind) (sealed kind) framed (faithful level kind)

  pub body_is_its_frame : (s d : List ℕ) → 1 ≤ length d → length d ≤ max_data → unskipped (rules level kind) s ≡ body level kind d → reports_of_segment (rules level kind) s ≡ framed d ∷ []
  unfolding body reports_of_segment
  body_is_its_frame s d some most e =
      let ok = sealed_accepted level kind d some most in
      ap (reports_of_octets (rules level kind)) (e ∙ sym (unskipped_escaped (rules level kind) (writing level) (undoes level kind) (sealed kind d)))
      ∙ reports_escaped (rules level kind) (writing level) (undoes level kind) (sealed kind d) ok.0
      ∙ ap (λ (r : Reported Report). r ∷ []) ok.1

  -- so s is the body with flow control put in
  pub frame_strewn : (s : List ℕ) → NoFlag (rules level kind) s → Octets s → (d : List ℕ) → reports_of_segment (rules level kind) s ≡ framed d ∷ [] → Strewn (is_flow_control level) (body level kind d) s
  frame_strewn s f h d e = subst (λ (b : List ℕ). Strewn (is_flow_control level) b s) (frame_is_its_body s f h d e) (unskipped_strewn (rules level kind) s)

  -- and two that read as the same frame differ in flow control alone
  pub same_frame_same_body : (s t : List ℕ) → NoFlag (rules level kind) s → NoFlag (rules level kind) t → Octets s → Octets t → (d : List ℕ)
      → reports_of_segment (rules level kind) s ≡ framed d ∷ [] → reports_of_segment (rules level kind) t ≡ framed d ∷ [] → unskipped (rules level kind) s ≡ unskipped (rules level kind) t
  same_frame_same_body s t f g h k d e q = frame_is_its_body s f h d e ∙ sym (frame_is_its_body t g k d q)

  -- Of a line: every report is that of a body, and each body that reads as a frame is the one that is written for it, whatever stands beside it
  pub frames_among_others : (l : List ℕ) → Octets l → Each (λ (b : List ℕ). (d : List ℕ) → judged (rules level kind) (unescape (rules level kind) b) ≡ framed d → b ≡ body level kind d) (bodies_of (rules level kind) l)
  unfolding body
  frames_among_others = bodies_written (rules level kind) (writing level) (canonical level kind) (sealed kind) framed (faithful level kind)

  pub reports_are_of_bodies : (l : List ℕ) → map (λ (b : List ℕ). judged (rules level kind) (unescape (rules level kind) b)) (bodies_of (rules level kind) l) ≡ reports_of (rules level kind) l
  reports_are_of_bodies = reports_of_bodies (rules level kind)

  -- As a caller reads it, however it is cut: where frames alone are reported, the line has their bodies and no others
  pub read_frames_are_written : level ≤ max_level → kind ≤ max_kind → (m : List ℕ) → max_segment_of kind ≤ length m → (l : List ℕ) → Octets l → (xss : List (List ℕ)) → flatten xss ≡ l → (ds : List (List ℕ))
      → shown_reports (rules level kind) (read_chunks read_scan (fresh level kind) xss m).events ≡ map framed ds → bodies_of (rules level kind) l ≡ map (body level kind) ds
  unfolding body
  read_frames_are_written k q m room l h xss e ds p =
      frames_written (rules level kind) (writing level) (canonical level kind) (sealed kind) framed (faithful level kind) l h ds (sym (reads_what_the_line_reports level kind k q m room l xss e) ∙ p)

-- at level 0 it is the body itself
pub frame_is_its_body_at_0 : (kind : ℕ) (s : List ℕ) → NoFlag (rules 0 kind) s → Octets s → (d : List ℕ) → reports_of_segment (rules 0 kind) s ≡ framed d ∷ [] → s ≡ body 0 kind d
unfolding is_flow_control
frame_is_its_body_at_0 kind s f h d e = sym (unskipped_none (rules 0 kind) (λ x. refl) s) ∙ frame_is_its_body 0 kind s f h d e

-- 9. What the check sequence tells: a change of a frame's data or check within sixteen bits in a row, in their order on the line, is a bad check. t is what
-- stands between two flags, and stands for the changed octets ys, which are as many, with no 7D left over and no bad pair.
pub burst_is_a_bad_check : (level : ℕ) (d ys : List ℕ) → 1 ≤ length d → length d ≤ max_data → Octets d → Octets ys → Burst (sealed fcs_kind d) ys
    → (t : List ℕ) → unescape (rules level fcs_kind) (unskipped (rules level fcs_kind) t) ≡ record { octets = ys; dangling = false; bad = false }
    → reports_of_segment (rules level fcs_kind) t ≡ record { report = BadCheck; octets = [] } ∷ []
burst_is_a_bad_check = changed_is_a_bad_check

-- 10. And a flag that was lost: what two frames have between their flags, with none between the two, reads as no frame.
pub two_frames_are_none : (level : ℕ) (d e : List ℕ) → Octets e → (f : List ℕ) → reports_of_segment (rules level fcs_kind) (body level fcs_kind d ++ body level fcs_kind e) ≡ framed f ∷ [] → ⊥
two_frames_are_none = lost_flag_is_no_frame
