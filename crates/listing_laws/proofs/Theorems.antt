-- The theorem on listing; docs/THEOREMS.md says it in words. Assumes nothing.
use Prim.Native.Nat.{ℕ, ◌+◌, ◌^◌, ◌≤◌, ◌<◌}
use mathlib.Core.Bool.{Bool, true, false}
use mathlib.Core.List.{List, ◌++◌, flatten}
use mathlib.Core.Path.{◌≡◌, refl, sym, ap, ap₂, ◌∙◌}
use native.Mathlib.Nat.{zero-add}
use native.Mathlib.Omega.{arith}
use lib.ListN.{length, take}
use lib.Seq.{length-sets}
use Rattle.capture.proofs.Whole.{octets_exact}
use Rattle.capture.specs.Octets.{fresh_octets}
use Rattle.capture.specs.Whole.{before, flags, between, after}
use Rattle.capture.specs.declared.Octets.{Octets}
use Rattle.deframer.specs.Scan.{place}
use Rattle.framing.proofs.Formed.{Fit, fresh_formed, step_keeps}
use Rattle.framing.proofs.Meaning.{trace_reports}
use Rattle.framing.proofs.Told.{reports_told}
use Rattle.framing.specs.Flags.{has_flag}
use Rattle.framing.specs.Reports.{Reported, reports_of, shown_reports}
use Rattle.framing.specs.Rules.{State}
use Rattle.framing.specs.Step.{fresh, step}
use Rattle.kiss.specs.Limits.{type_size}
use Rattle.kiss_laws.proofs.Rules as kiss_laws
use Rattle.kiss_rules.specs.Rules as kiss_rules
use Rattle.line.proofs.Texts.{Makes, chunks_make, front_text}
use Rattle.line.proofs.Trace.{trace_events}
use Rattle.line.specs.Texts.{text_chunks}
use Rattle.line.specs.Texts as texting
use Rattle.line.specs.Trace.{Event, trace}
use Rattle.lister.proofs.Rules.{lawful, qaft-length, kiss-length}
use Rattle.lister.specs.Entries.{entry_of_qaft, entry_of_kiss, entry_length, flag_of, source_rules, line_of, counted}
use Rattle.lister.specs.Lines.{most_octets, fresh_lister, last_line}
use Rattle.lister.specs.declared.Lister.{Lister}
use Rattle.listing.specs.Line.{max_line}
use Rattle.listing.specs.declared.Entry.{Entry}
use Rattle.listing_ends.specs.Ends.{heading, end_line, short_line}
use Rattle.listing_ends.proofs.Ends.{length-heading, length-end_line}
use Rattle.listing_laws.proofs.Calls.{cap_is, lines_short, retold, chunks_is}
use Rattle.listing_laws.proofs.Events.{lines_shown, counted_all, length-shown, lines_told, length-told}
use Rattle.listing_laws.specs.Caller.{Written, list_chunks, short_text, listed}
use Rattle.listing_laws.specs.Listing.{lines_from, lines_of, qaft_listing, kiss_listing, listing_of}
use Rattle.qaft.specs.Limits.{sum_kind, max_level, max_segment}
use Rattle.qaft_laws.proofs.Rules as qaft_laws
use Rattle.qaft_rules.specs.Rules as qaft_rules
use Rattle.text.proofs.Room.{text_room}
use Rattle.text.specs.Room.{text_into}

-- a short line, written where there is room for it
module _ (t out : List ℕ) (few : length t ≤ short_line) (room : short_line ≤ length out) where
  fits : 0 + short_line ≤ length out
  fits = omega arith

  short_text_lem : short_text t out ≡ t
  short_text_lem =
      let e = text_room short_line t out 0 fits in
      ap₂ (λ (n : ℕ) (m : List ℕ). take n m) e.0 e.1 ∙ front_text t out (omega arith)

  short_long : length (text_into short_line t out 0) ≡ length out
  short_long = ap length (text_room short_line t out 0 fits).1 ∙ length-sets out 0 t

-- ---- the listing by the entries of the reports is the listing by the reports
module _ {R : Type 0} (entry : R → Entry) (flag : ℕ) (ps : List (Reported Entry)) (rs : List (Reported R)) (l : List ℕ) where
  lines_by : ((n : ℕ) → lines_from (λ p. p) n ps ≡ lines_from entry n rs) → length ps ≡ length rs → lines_of (λ p. p) flag ps l ≡ lines_of entry flag rs l
  lines_by e n = ap₂ (λ (t : List ℕ) (k : ℕ). t ++ end_line k (before flag l) (after flag l)) (e 0) n

by_reports : (kiss : Bool) (level : ℕ) (l : List ℕ) → heading kiss level ++ lines_of (λ p. p) (flag_of kiss) (reports_of (source_rules kiss level) l) l ≡ listing_of kiss level l
unfolding qaft_listing kiss_listing heading
by_reports true level l =
    let rs = reports_of kiss_rules.rules l in
    let e = reports_told kiss_rules.rules entry_of_kiss type_size entry_length kiss_laws.lawful (λ p. refl) kiss-length l in
    ap (λ (t : List ℕ). heading true level ++ t)
    (lines_by entry_of_kiss (flag_of true) (reports_of (source_rules true level) l) rs l (λ n. ap (lines_from (λ p. p) n) e ∙ lines_told entry_of_kiss rs n) (ap length e ∙ length-told entry_of_kiss rs))
by_reports false level l =
    let rs = reports_of (qaft_rules.rules level sum_kind) l in
    let e = reports_told (qaft_rules.rules level sum_kind) entry_of_qaft 0 entry_length (qaft_laws.lawful level sum_kind) (λ p. refl) qaft-length l in
    ap (λ (t : List ℕ). heading false level ++ t)
    (lines_by entry_of_qaft (flag_of false) (reports_of (source_rules false level) l) rs l (λ n. ap (lines_from (λ p. p) n) e ∙ lines_told entry_of_qaft rs n) (ap length e ∙ length-told entry_of_qaft rs))

fresh_is : (kiss : Bool) (level : ℕ) → fresh_lister kiss level ≡ record { kiss = kiss; level = level; state = place (fresh (source_rules kiss level)); reports = 0; counts = fresh_octets }
fresh_is true level = refl
fresh_is false level = refl

-- ---- the parts of a listing, for chunks that are the capture one after another
module _ (kiss : Bool) (level : ℕ) (h : level ≤ max_level) (m out : List ℕ) (segment : max_segment ≤ length m) (room : max_line ≤ length out)
    (xss : List (List ℕ)) (few : length (flatten xss) < 2 ^ 64) where
  abbrev capture : List ℕ
  capture = flatten xss

  abbrev reports : List (Reported Entry)
  reports = reports_of (source_rules kiss level) capture

  abbrev events : List (Event Entry)
  events = (trace (step (source_rules kiss level)) (fresh (source_rules kiss level)) capture m).events

  abbrev headed : List ℕ
  headed = text_into short_line (heading kiss level) out 0

  abbrev texts : texting.Written (State ℕ) ℕ
  texts = text_chunks (line_of kiss) counted max_line (step (source_rules kiss level)) (fresh (source_rules kiss level)) 0 xss m headed

  abbrev written : Written
  written = list_chunks (fresh_lister kiss level) xss m headed

  long : length headed ≡ length out
  long = short_long (heading kiss level) out (length-heading kiss level) (omega arith)

  capped : (source_rules kiss level).cap ≤ length m
  capped = omega (arith, cap_is kiss level)

  fit : Fit (source_rules kiss level) (fresh (source_rules kiss level)) m
  fit = record { room = capped; formed = fresh_formed (source_rules kiss level) (lawful kiss level) }

  makes : Makes (line_of kiss) counted max_line (step (source_rules kiss level)) (Fit (source_rules kiss level)) (step_keeps (source_rules kiss level) (lawful kiss level)) (lines_short kiss level)
      (fresh (source_rules kiss level)) 0 capture m headed texts
  makes =
      chunks_make (line_of kiss) counted max_line (step (source_rules kiss level)) (Fit (source_rules kiss level)) (step_keeps (source_rules kiss level) (lawful kiss level)) (lines_short kiss level)
      xss (fresh (source_rules kiss level)) 0 m headed fit (omega (arith, long))

  -- the counts of the whole capture
  abbrev counts : Octets
  counts = record {
    synced = has_flag (flag_of kiss) capture;
    before = before (flag_of kiss) capture;
    flags = flags (flag_of kiss) capture;
    between = between (flag_of kiss) capture;
    after = after (flag_of kiss) capture;
  }

  written_is : written ≡ retold kiss level h counts texts
  written_is =
      ap (λ (l : Lister). list_chunks l xss m headed) (fresh_is kiss level)
      ∙ chunks_is kiss level h xss (fresh (source_rules kiss level)) 0 fresh_octets m headed fit (omega (arith, long))
      ∙ ap (λ (c : Octets). retold kiss level h c texts) (octets_exact most_octets (flag_of kiss) capture (omega arith))

  shown : shown_reports (source_rules kiss level) events ≡ reports
  shown = trace_reports (source_rules kiss level) (lawful kiss level) capture m capped

  few_events : 0 + length events < 2 ^ 64
  few_events = omega (arith, trace_events (step (source_rules kiss level)) capture (fresh (source_rules kiss level)) m)

  text_is : written.text ≡ lines_from (λ p. p) 0 reports
  text_is = ap (λ (w : Written). w.text) written_is ∙ makes.text_is ∙ lines_shown kiss level events 0 few_events ∙ ap (lines_from (λ p. p) 0) shown

  number_is : texts.tally ≡ length reports
  number_is =
      makes.tally_is
      ∙ counted_all kiss level events 0 few_events
      ∙ zero-add (length events)
      ∙ sym (length-shown kiss level events)
      ∙ ap length shown

  last_is : last_line written.lister ≡ end_line (length reports) (before (flag_of kiss) capture) (after (flag_of kiss) capture)
  last_is =
      ap (λ (w : Written). last_line w.lister) written_is
      ∙ ap (λ (n : ℕ). end_line n (before (flag_of kiss) capture) (after (flag_of kiss) capture)) number_is

  out_long : length written.out ≡ length out
  out_long = ap (λ (w : Written). length w.out) written_is ∙ makes.long_is ∙ long

  whole : listed kiss level xss m out ≡ listing_of kiss level capture
  unfolding listed
  whole =
      let e = length-end_line written.lister.reports written.lister.counts.before written.lister.counts.after in
      ap₂ (λ (a b : List ℕ). a ++ b) (short_text_lem (heading kiss level) out (length-heading kiss level) (omega arith))
      (ap₂ (λ (a b : List ℕ). a ++ b) text_is (short_text_lem (last_line written.lister) written.out e (omega (arith, out_long)) ∙ last_is))
      ∙ by_reports kiss level capture

-- However a capture of fewer than 2^64 octets is cut into chunks, what a caller of the lister writes out, chunk after chunk, between the heading
-- and the last line, is the listing of the whole capture: of KISS, or of QAFT with a level of 0 or 1, with a reader's buffer of 2,561 octets or more
-- and an out buffer with room for every line, whatever they hold.
pub lists_the_capture : (kiss : Bool) (level : ℕ) → level ≤ max_level → (m out : List ℕ) → max_segment ≤ length m → max_line ≤ length out
    → (l : List ℕ) → length l < 2 ^ 64 → (xss : List (List ℕ)) → flatten xss ≡ l
    → listed kiss level xss m out ≡ listing_of kiss level l
lists_the_capture kiss level h m out segment room l few xss cut =
    whole kiss level h m out segment room xss (omega (arith, ap length cut)) ∙ ap (listing_of kiss level) cut
