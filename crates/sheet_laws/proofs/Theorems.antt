-- The theorems on counting a capture for the line sheet; docs/THEOREMS.md says them in words. Assumes nothing.
use Prim.Native.Nat.{ℕ, ◌≤◌}
use mathlib.Core.List.{List, [], ◌∷◌, flatten}
use mathlib.Core.Path.{◌≡◌, sym, ap, ap₂, ◌∙◌}
use lib.ListN.{length}
use Rattle.counter.specs.Counted.{counted}
use Rattle.framing.proofs.Formed.{Fit, fresh_formed}
use Rattle.framing.proofs.Meaning.{trace_reports}
use Rattle.framing.specs.Reports.{reports_of}
use Rattle.framing.specs.Rules.{State}
use Rattle.framing.specs.Step.{fresh, step}
use Rattle.line.specs.Gather.{make_all}
use Rattle.line.specs.Trace.{trace}
use Rattle.qaft.specs.Answers.{done, frame, aborted, long, short, bad_check, bad_pair}
use Rattle.qaft.specs.Limits.{sum_kind, max_level, max_segment}
use Rattle.qaft_laws.proofs.Rules.{lawful}
use Rattle.qaft_rules.specs.Rules.{rules}
use Rattle.sheet.specs.Limits.{too_large}
use Rattle.sheet.specs.declared.Tally.{Tally}
use Rattle.sheet_counter.specs.Count.{with_report, counts_in}
use Rattle.sheet_found.specs.Found.{fresh_found}
use Rattle.sheet_found.specs.declared.Found.{Found}
use Rattle.sheet_laws.proofs.Chunks.{counter_at, chunks_are}
use Rattle.sheet_laws.proofs.Found.{found_whole, found_events}
use Rattle.sheet_laws.proofs.Raw.{whole_raw, raw_whole, before_whole, after_whole, skipped_whole}
use Rattle.sheet_laws.specs.Caller.{Counting, counted_in}
use Rattle.sheet_octets.proofs.Apart.{apart}
use Rattle.sheet_octets.specs.Raw.{fresh_raw}
use Rattle.sheet_octets.specs.declared.RawOctets.{RawOctets}
use Rattle.sheet_rules.proofs.Octets.{reported_between}
use Rattle.sheet_rules.proofs.Repeats.{repeats_from_none}
use Rattle.sheet_rules.specs.Counts.{count_of, is_kind, has_data, has_dack, counts_of, whole_counts}
use Rattle.sheet_table.proofs.Lines.{tally_stopped}
use Rattle.sheet_table.specs.Table.{tally_call}

module _ (level : ℕ) (h : level ≤ max_level) (m : List ℕ) (room : max_segment ≤ length m) where
  fit : Fit (rules level sum_kind) (fresh (rules level sum_kind)) m
  fit = record { room = room; formed = fresh_formed (rules level sum_kind) (lawful level sum_kind) }

  -- octets and reports of the whole capture, as they are gathered
  parts_are : (s : State ℕ) (l : List ℕ) (o : RawOctets) (f : Found) → o ≡ whole_raw level l → f ≡ found_whole fresh_found (reports_of (rules level sum_kind) l)
      → counts_in (counter_at level h s o f) ≡ whole_counts level l
  unfolding counts_of
  parts_are s l o f oe fe =
      let rs = reports_of (rules level sum_kind) l in
      let c = counted too_large 0 in
      ap₂ (λ (o : RawOctets) (f : Found). counts_in (counter_at level h s o f)) oe fe
      ∙ (λ i. record {
        number = done;
        counts =
            before_whole level l i
            ∷ c ((apart level l).flags_read i)
            ∷ c (sym (reported_between level l) i)
            ∷ after_whole level l i
            ∷ c (skipped_whole level l i)
            ∷ c (count_of (is_kind frame) rs)
            ∷ c (count_of (is_kind aborted) rs)
            ∷ c (count_of (is_kind long) rs)
            ∷ c (count_of (is_kind short) rs)
            ∷ c (count_of (is_kind bad_check) rs)
            ∷ c (count_of (is_kind bad_pair) rs)
            ∷ c (count_of has_data rs)
            ∷ c (count_of has_dack rs)
            ∷ c (sym (repeats_from_none rs) i)
            ∷ [];
      })

  whole : (xss : List (List ℕ)) → counted_in level xss m ≡ whole_counts level (flatten xss)
  whole xss =
      let l = flatten xss in
      let a = trace (step (rules level sum_kind)) (fresh (rules level sum_kind)) l m in
      ap (λ (k : Counting). counts_in k.counter) (chunks_are level h xss (fresh (rules level sum_kind)) fresh_raw fresh_found m fit)
      ∙ parts_are a.state l _ (make_all with_report fresh_found a.events) (raw_whole level l)
      (found_events level a.events fresh_found ∙ ap (found_whole fresh_found) (trace_reports (rules level sum_kind) (lawful level sum_kind) l m room))

  -- 2. However a capture is cut into chunks, what is counted is what the definition says of the whole capture: with a level of 0 or 1 and a reader's
  -- buffer of 2,561 octets or more, whatever it holds, for a capture of any length.
  pub counts_the_capture : (l : List ℕ) (xss : List (List ℕ)) → flatten xss ≡ l → counted_in level xss m ≡ whole_counts level l
  counts_the_capture l xss cut = whole xss ∙ ap (whole_counts level) cut

  -- so a line's record, and the answer, are by the true counts of the capture, however large they are
  pub tallies_the_capture : (l : List ℕ) (xss : List (List ℕ)) → flatten xss ≡ l → (ys : List Tally) (line : ℕ)
      → tally_call ys line (counted_in level xss m) ≡ tally_call ys line (record { number = done; counts = counts_of level l })
  tallies_the_capture l xss cut ys line = ap (tally_call ys line) (counts_the_capture l xss cut) ∙ tally_stopped ys line done (counts_of level l)
