-- From the answer by value to what the table's definition says. Assumes nothing.
use Prim.Native.Nat.{ℕ, ◌≤◌}
use mathlib.Core.List.{List}
use mathlib.Core.Path.{◌≡◌, refl, sym, ap, subst, ◌∙◌}
use lib.ListN.{length, set}
use lib.Seq.{set-get_or}
use Rattle.common.proofs.Refusals.{guarded_both}
use Rattle.sheet.specs.Answers.{no_line}
use Rattle.sheet.specs.Tallies.{fresh_tally}
use Rattle.sheet.specs.declared.Counts.{Counts}
use Rattle.sheet.specs.declared.Tally.{Tally}
use Rattle.sheet_tally.proofs.Judging.{judged_refused, judged_past}
use Rattle.sheet_tally.specs.Adding.{refusals, sum_of, judged_of}
use Rattle.sheet_tally.specs.Adding.{Added}
use Rattle.sheet_table.specs.Table.{Outcome, record_of, tally_call}

module _ (ys : List Tally) (i : ℕ) (c : Counts) where
  -- the number given back and the table after it
  abbrev pub Ends : ℕ → List Tally → Type 0
  Ends n zs = (n ≡ (tally_call ys i c).number) × (zs ≡ (tally_call ys i c).table)

  abbrev Puts : Added → Outcome → Type 0
  Puts r o = (r.number ≡ o.number) × (set ys i r.tally ≡ o.table)

  -- the record of the answer by value, put in its place
  ends_judged : (r : Added) → r ≡ judged_of (record_of ys i) i (length ys) c → Ends r.number (set ys i r.tally)
  unfolding tally_call judged_of
  ends_judged r e =
      let puts =
      guarded_both Puts (refusals (record_of ys i) i (length ys) c) (λ n. record { number = n; tally = record_of ys i }) (λ n. record { number = n; table = ys })
      (record { number = 0; tally = sum_of (record_of ys i) c }) (record { number = 0; table = set ys i (sum_of (record_of ys i) c) }) (λ n. (refl, set-get_or ys i fresh_tally)) (refl, refl) in
      (ap (λ (a : Added). a.number) e ∙ puts.0, ap (λ (a : Added). set ys i a.tally) e ∙ puts.1)

  -- a refusal: the record put back leaves the table
  ends_refused : (n : ℕ) → record { number = n; tally = record_of ys i } ≡ judged_of (record_of ys i) i (length ys) c → Ends n ys
  ends_refused n e =
      let ends = ends_judged (record { number = n; tally = record_of ys i }) e in
      (ends.0, sym (set-get_or ys i fresh_tally) ∙ ends.1)

  -- t is the record as the code reads it
  module _ (t : Tally) (same : t ≡ record_of ys i) where
    pub ends_ok : (s : Tally) → record { number = 0; tally = s } ≡ judged_of t i (length ys) c → Ends 0 (set ys i s)
    ends_ok s e = ends_judged (record { number = 0; tally = s }) (e ∙ ap (λ (t : Tally). judged_of t i (length ys) c) same)

    pub ends_err : (n : ℕ) → record { number = n; tally = t } ≡ judged_of t i (length ys) c → Ends n ys
    ends_err n e = ends_refused n (subst (λ (t : Tally). record { number = n; tally = t } ≡ judged_of t i (length ys) c) same e)

  -- past the table nothing is put; the code's test of the number came out so
  pub ends_given : (c.number ≡ 0 → ⊥) → Ends c.number ys
  ends_given t = ends_refused c.number (judged_refused (record_of ys i) c i (length ys) t)

  pub ends_past : c.number ≡ 0 → length ys ≤ i → Ends no_line ys
  ends_past t h = ends_refused no_line (judged_past (record_of ys i) c i (length ys) t h)
