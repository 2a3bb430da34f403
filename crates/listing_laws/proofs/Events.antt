-- The lines of a reader's reports, numbered on, are those of what the reports show. Assumes nothing.
use Prim.Native.Nat.{ℕ, suc, ◌+◌, ◌^◌, ◌<◌}
use mathlib.Core.Bool.{Bool, true, false}
use mathlib.Core.List.{List, [], ◌∷◌, ◌++◌, map}
use mathlib.Core.Path.{◌≡◌, refl, sym, ap, ap₂, ◌∙◌}
use native.Mathlib.Nat.{add-zero}
use native.Mathlib.Numerals.{add-one}
use native.Mathlib.Omega.{arith}
use lib.ListN.{length}
use Rattle.counter.proofs.Counting.{next_small}
use Rattle.counter.specs.Counted.{next}
use Rattle.framing.specs.Reports.{Reported, reported, shown_reports}
use Rattle.framing.specs.Told.{told_report}
use Rattle.line.specs.Texts.{texts_of, tally_of}
use Rattle.line.specs.Trace.{Event}
use Rattle.lister.specs.Entries.{source_rules, line_of, counted}
use Rattle.listing.specs.declared.Entry.{Entry}
use Rattle.listing_laws.specs.Listing.{text_of, lines_from}

next_suc : (n k : ℕ) → n + suc k < 2 ^ 64 → next n ≡ suc n
next_suc n k h = next_small n k h ∙ add-one n

module _ (kiss : Bool) (level : ℕ) where
  -- the line of a report is that of what it shows
  line_shown : (b : Bool) (k : ℕ) (p : Entry) (m : List ℕ) → line_of b k p m ≡ text_of (λ p. p) (next k) (reported (source_rules b level) p m)
  unfolding text_of
  line_shown true k p m = refl
  line_shown false k p m = refl

  -- as long as the numbers do not wrap
  pub lines_shown : (es : List (Event Entry)) (n : ℕ) → n + length es < 2 ^ 64 → texts_of (line_of kiss) counted n es ≡ lines_from (λ p. p) n (shown_reports (source_rules kiss level) es)
  unfolding texts_of lines_from shown_reports
  lines_shown [] n h = refl
  lines_shown (e ∷ es) n h =
      let k = next_suc n (length es) h in
      ap₂ (λ (t u : List ℕ). t ++ u)
      (line_shown kiss n e.report e.buffer ∙ ap (λ (k : ℕ). text_of (λ p. p) k (reported (source_rules kiss level) e.report e.buffer)) k)
      (ap (λ (k : ℕ). texts_of (line_of kiss) counted k es) k ∙ lines_shown es (suc n) (omega arith))

  pub counted_all : (es : List (Event Entry)) (n : ℕ) → n + length es < 2 ^ 64 → tally_of (line_of kiss) counted n es ≡ n + length es
  unfolding tally_of
  counted_all [] n h = sym (add-zero n)
  counted_all (e ∷ es) n h =
      let k = next_suc n (length es) h in
      let z : suc n + length es ≡ n + suc (length es) = omega arith in
      ap (λ (k : ℕ). tally_of (line_of kiss) counted k es) k ∙ counted_all es (suc n) (omega arith) ∙ z

  pub length-shown : (es : List (Event Entry)) → length (shown_reports (source_rules kiss level) es) ≡ length es
  unfolding shown_reports
  length-shown [] = refl
  length-shown (e ∷ es) = ap suc (length-shown es)

-- lines by the entries of reports are those by the reports, and as many
module _ {R : Type 0} (entry : R → Entry) where
  pub lines_told : (rs : List (Reported R)) (n : ℕ) → lines_from (λ p. p) n (map (told_report entry) rs) ≡ lines_from entry n rs
  unfolding lines_from text_of
  lines_told [] n = refl
  lines_told (r ∷ rs) n = ap (λ (t : List ℕ). text_of entry (suc n) r ++ t) (lines_told rs (suc n))

  pub length-told : (rs : List (Reported R)) → length (map (told_report entry) rs) ≡ length rs
  length-told [] = refl
  length-told (r ∷ rs) = ap suc (length-told rs)
