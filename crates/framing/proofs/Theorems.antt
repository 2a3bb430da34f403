-- What every reader has that gives its rules, and a placing of the generic states among its own that commutes with the step. Assumes nothing.
--
-- `place` puts a state of this crate among the reader's own, with its level and the like; `action` is the reader's step as an action of the crate
-- line, and `call` its call as the caller of that crate sees it. `read_chunks call s xss m` are all reports that a caller gets who hands over the
-- chunks xss, from the state s on, with the buffer m, and hands on the rest of a chunk after each report.
use Prim.Native.Nat.{ℕ, ◌≤◌}
use mathlib.Core.List.{List, ◌∷◌, ◌++◌, map, flatten}
use mathlib.Core.Path.{◌≡◌, sym, ap, ◌∙◌}
use lib.ListN.{length}
use lib.Seq.{sets}
use Rattle.common.proofs.Each.{Each}
use Rattle.framing.proofs.Formed.{Fit, fresh_formed, step_keeps, scan_formed}
use Rattle.framing.proofs.Meaning.{trace_reports}
use Rattle.framing.proofs.Patch.{reports_of-patch}
use Rattle.framing.proofs.PlainReading.{plain_reports-reports_of}
use Rattle.line.proofs.Simulation.{scan_simulates, read_chunks-simulates}
use Rattle.framing.proofs.Skipped.{trace_skipping}
use Rattle.framing.proofs.Stored.{scan_stored}
use Rattle.framing.proofs.Written.{Accepted, reports_of-frames}
use Rattle.framing.specs.Lawful.{Lawful}
use Rattle.framing.specs.PlainReading.{plain_reports}
use Rattle.framing.specs.Reports.{Reported, unskipped, reports_of, shown_reports}
use Rattle.framing.specs.Rules.{Rules, State}
use Rattle.line.specs.Simulation.{place_action, place_trace}
use Rattle.framing.specs.Step.{fresh, step}
use Rattle.framing.specs.Stored.{undone_in}
use Rattle.framing.specs.Writing.{Writing, line, Undoes}
use Rattle.line.specs.Scan.{Action, Scan, scan}
use Rattle.line.specs.Trace.{Trace, trace, read_chunks}

module _ {A R T : Type 0} (rules : Rules A R) (law : Lawful rules) (place : State A → T) (action : T → ℕ → Action T R)
    (commutes : (s : State A) (x : ℕ) → action (place s) x ≡ place_action place (step rules s x))
    (call : T → List ℕ → List ℕ → Scan T R)
    (calls : (s : State A) (xs m : List ℕ) → Fit rules s m → call (place s) xs m ≡ scan action (place s) xs m) where
  -- all that a caller gets is what the step makes of the whole line
  pub reads_the_line : (xss : List (List ℕ)) (s : State A) (m : List ℕ) → Fit rules s m → read_chunks call (place s) xss m ≡ place_trace place (trace (step rules) s (flatten xss) m)
  reads_the_line xss s m h = read_chunks-simulates place (step rules) action commutes (Fit rules) (step_keeps rules law) call calls xss s m h

  -- 1. Cutting: every two ways of cutting a line into chunks give the same reports, each with the same buffer, last state and last buffer.
  pub every_cutting_reads_alike : (xss yss : List (List ℕ)) → flatten xss ≡ flatten yss → (s : State A) (m : List ℕ) → Fit rules s m
      → read_chunks call (place s) xss m ≡ read_chunks call (place s) yss m
  every_cutting_reads_alike xss yss e s m h =
      reads_the_line xss s m h ∙ ap (λ (l : List ℕ). place_trace place (trace (step rules) s l m)) e ∙ sym (reads_the_line yss s m h)

  -- 2. Meaning: a caller gets what the line reports, data included, with any buffer of the cap or more, however the line is cut.
  pub reads_what_the_line_reports : (m : List ℕ) → rules.cap ≤ length m → (l : List ℕ) (xss : List (List ℕ)) → flatten xss ≡ l
      → shown_reports rules (read_chunks call (place (fresh rules)) xss m).events ≡ reports_of rules l
  reads_what_the_line_reports m room l xss e =
      ap (λ (a : Trace T R). shown_reports rules a.events) (reads_the_line xss (fresh rules) m (record { room = room; formed = fresh_formed rules law }))
      ∙ ap (λ (l : List ℕ). shown_reports rules (trace (step rules) (fresh rules) l m).events) e
      ∙ trace_reports rules law l m room

  -- 3. Buffer: after a call the octets undone in it stand from the index that the count gives, up to the cap, and the others are as before.
  pub buffer_after_a_call : (s : State A) (xs m : List ℕ) → Fit rules s m → (call (place s) xs m).buffer ≡ sets m s.count (undone_in rules s xs)
  buffer_after_a_call s xs m h =
      ap (λ (u : Scan T R). u.buffer) (calls s xs m h ∙ scan_simulates place (λ r. r) (step rules) action commutes xs s m) ∙ scan_stored rules law s xs m h.formed

  -- 4. What no call refuses no later call refuses: the state and the buffer after a call are fit.
  pub stays_fit : (s : State A) (xs m : List ℕ) → Fit rules s m → (t : State A) × ((call (place s) xs m).state ≡ place t) × Fit rules t (call (place s) xs m).buffer
  stays_fit s xs m h =
      let e = calls s xs m h ∙ scan_simulates place (λ r. r) (step rules) action commutes xs s m in
      ((scan (step rules) s xs m).state, ap (λ (u : Scan T R). u.state) e, rw (ap (λ (u : Scan T R). u.buffer) e) (scan_formed rules law s xs m h))

  -- 5. Skipped octets: two lines that differ in them alone give the same reports with the same data, however each is cut.
  pub skipped_octets_change_nothing : (xss yss : List (List ℕ)) → unskipped rules (flatten xss) ≡ unskipped rules (flatten yss) → (s : State A) (m : List ℕ) → Fit rules s m
      → read_chunks call (place s) xss m ≡ read_chunks call (place s) yss m
  skipped_octets_change_nothing xss yss e s m h =
      reads_the_line xss s m h ∙ ap (place_trace place) (trace_skipping rules law (flatten xss) (flatten yss) e s m) ∙ sym (reads_the_line yss s m h)

  -- 6. Round trip: frames written one after another come back, exactly and in order, however what was written is cut.
  module _ (writing : Writing) (undoes : Undoes rules writing) {D : Type 0} (body : D → List ℕ) (frame : D → Reported R) where
    pub written_then_read : (ds : List D) → Each (Accepted rules body frame) ds → (m : List ℕ) → rules.cap ≤ length m
        → (xss : List (List ℕ)) → flatten xss ≡ line writing (map body ds)
        → shown_reports rules (read_chunks call (place (fresh rules)) xss m).events ≡ map frame ds
    written_then_read ds ok m room xss e =
        reads_what_the_line_reports m room (line writing (map body ds)) xss e ∙ reports_of-frames rules writing undoes body frame ds ok

  -- 7. Patch: octets y, which end just before a flag, replaced by any y': the reports made before them and the reports on segments opened by that
  -- flag or later are as they were; between them stand the reports on the segments that the patch touches.
  pub patch_ends_at_the_flag : (x y y' z m : List ℕ) → rules.cap ≤ length m → (xss yss : List (List ℕ))
      → flatten xss ≡ x ++ (y ++ (rules.flag ∷ z)) → flatten yss ≡ x ++ (y' ++ (rules.flag ∷ z))
      → (ds ds' : List (Reported R))
      × (shown_reports rules (read_chunks call (place (fresh rules)) xss m).events ≡ reports_of rules x ++ (ds ++ reports_of rules (rules.flag ∷ z)))
      × (shown_reports rules (read_chunks call (place (fresh rules)) yss m).events ≡ reports_of rules x ++ (ds' ++ reports_of rules (rules.flag ∷ z)))
  patch_ends_at_the_flag x y y' z m room xss yss e e' =
      let p = reports_of-patch rules x y z in
      let q = reports_of-patch rules x y' z in
      (p.0, q.0, reads_what_the_line_reports m room _ xss e ∙ p.1, reads_what_the_line_reports m room _ yss e' ∙ q.1)

  -- 8. Plain: the reports are those of a reader that takes the segment up to the first flag and goes on with what is left.
  pub reads_as_the_plain_reader : (m : List ℕ) → rules.cap ≤ length m → (l : List ℕ) (xss : List (List ℕ)) → flatten xss ≡ l
      → shown_reports rules (read_chunks call (place (fresh rules)) xss m).events ≡ plain_reports rules l
  reads_as_the_plain_reader m room l xss e = reads_what_the_line_reports m room l xss e ∙ sym (plain_reports-reports_of rules l)
