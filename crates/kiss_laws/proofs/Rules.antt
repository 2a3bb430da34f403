-- KISS's rules obey what framing asks of rules, and reading undoes what the writer writes. Assumes nothing.
use Prim.Native.Nat.{ℕ, suc, ◌+◌, ◌-◌, ◌≤◌, ◌<◌}
use mathlib.Core.Bool.{Bool, true, false, ◌||◌}
use mathlib.Core.List.{List, [], ◌∷◌}
use mathlib.Core.Path.{◌≡◌, refl}
use native.Mathlib.Omega.{arith}
use borrow.Author.Tests.{ltb-false, le-ltb, le-leb, ne_eqb}
use lib.Dec.{ltb}
use lib.ListN.{length}
use lib.Seq.{take_all}
use Rattle.common.proofs.Bools.{either}
use Rattle.common.proofs.Each.{Each}
use Rattle.framing.proofs.Within.{capped_low, capped_some}
use Rattle.framing.proofs.Written.{Accepted}
use Rattle.framing.specs.Lawful.{Lawful}
use Rattle.framing.specs.Reports.{check_from, check_of, judged}
use Rattle.framing.specs.Step.{capped}
use Rattle.framing.specs.Writing.{Undoes}
use Rattle.kiss.proofs.Octets.{plain_octet, escaped_octet}
use Rattle.kiss.specs.Frame.{typed}
use Rattle.kiss.specs.Limits.{type_size, min_segment, max_segment}
use Rattle.kiss.specs.Octets.{writing, port_of, command_of, is_data}
use Rattle.kiss_report.specs.Answer.{report_length}
use Rattle.kiss_report.specs.declared.Report.{Report}
use Rattle.kiss_report.specs.declared.Report.TheVariants.{Frame, BadEscape, Short, Long, Skipped}
use Rattle.kiss_rules.specs.Rules.{verdict, rules, framed}
use Rattle.qaft.specs.Frame.{Writable}
use Rattle.qaft.specs.Limits.{max_data}

-- a report that is no frame shows no payload
abbrev pub NoFrame : Report → Type 0
NoFrame (Frame n) = ⊥
NoFrame BadEscape = Unit
NoFrame Short = Unit
NoFrame Long = Unit
NoFrame Skipped = Unit

no_frame : (p : Report) → NoFrame p → report_length p ≡ 0
no_frame (Frame n) h = absurd h
no_frame BadEscape h = refl
no_frame Short h = refl
no_frame Long h = refl
no_frame Skipped h = refl

-- what holds of a frame, by what its verdict tells, and of every report that is none, holds of a verdict
pub verdict_cases : (P : Report → Type 0) (d b : Bool) (n kind : ℕ) → ((p : Report) → NoFrame p → P p)
    → ((d || b) ≡ false → is_data kind ≡ true → min_segment ≤ n → n ≤ max_segment → P (Frame (n - 1))) → P (verdict d b n kind)
unfolding verdict
verdict_cases P d b n kind bare frame =
    either P (d || b) (λ _. bare BadEscape tt)
    (λ q. either P (ltb n min_segment) (λ _. bare Short tt)
    (λ s. either P (ltb max_segment n) (λ _. bare Long tt)
    (λ e. either P (is_data kind) (λ t. frame q t (ltb-false n min_segment s) (ltb-false max_segment n e)) (λ _. bare Skipped tt))))

-- the same by its length alone
pub verdict_ind : (P : Report → Type 0) (d b : Bool) (n kind : ℕ) → ((p : Report) → NoFrame p → P p) → (min_segment ≤ n → n ≤ max_segment → P (Frame (n - 1))) → P (verdict d b n kind)
verdict_ind P d b n kind bare frame = verdict_cases P d b n kind bare (λ _ _. frame)

-- a report shows only octets that are stored
verdict_shows : (d b : Bool) (n kind : ℕ) → let p = verdict d b n kind in 0 < report_length p → (type_size + report_length p ≤ n) × (n ≤ max_segment)
verdict_shows d b n kind =
    verdict_ind (λ (p : Report). 0 < report_length p → (type_size + report_length p ≤ n) × (n ≤ max_segment)) d b n kind
    (λ p e h. absurd (omega (arith, no_frame p e, h))) (λ s k h. (omega arith, k))

pub lawful : Lawful rules
lawful = record { shows_stored = verdict_shows; skips_no_flag = λ x e. cc; blank-is_blank = refl; blank-is_check = refl; added-is_check = λ n a x. refl }

pub undoes : Undoes rules writing
undoes = record {
  flag_is = refl;
  escape_is = refl;
  escape_kept = (refl, refl);
  plain = λ x e. ((plain_octet x e).0, (plain_octet x e).1, refl);
  partner_kept = λ x e. ((escaped_octet x e).0, refl);
  pair = λ x e. ((escaped_octet x e).1, (escaped_octet x e).2);
}

-- ---- a payload behind its type octet is a frame
-- the type octet is kept
pub kept : (xs : List ℕ) (n kind : ℕ) → 0 < n → check_from rules n kind xs ≡ kind
unfolding check_from
kept [] n kind h = refl
kept (x ∷ xs) n kind h = rw (ne_eqb (capped rules n) 0 (λ e. omega (arith, e, capped_some rules n h))) (kept xs (suc n) kind (omega arith))

module _ (d : List ℕ) (some : 1 ≤ length d) (most : length d ≤ max_data) where
  type_kept : check_of rules (typed d) ≡ 0
  unfolding check_of check_from
  type_kept = kept d 1 0 (omega arith)

  verdict_typed : verdict false false (capped rules (length (typed d))) (check_of rules (typed d)) ≡ Frame (length d)
  unfolding verdict is_data port_of command_of
  verdict_typed =
      let a : length (typed d) - 1 ≡ length d = omega arith in
      rw (
        capped_low rules (length (typed d)) (omega arith),
        le-ltb (length (typed d)) min_segment (omega arith),
        le-ltb max_segment (length (typed d)) (omega arith),
        type_kept,
        a,
      )

  typed_accepted : Accepted rules typed framed d
  unfolding judged
  typed_accepted = (
    omega arith,
    rw (verdict_typed, le-leb (1 + length d) (length (typed d)) (omega arith), take_all (length d) d (omega arith)),
  )

pub all_accepted : (ds : List (List ℕ)) → Writable ds → Each (Accepted rules typed framed) ds
all_accepted [] ok = tt
all_accepted (d ∷ ds) ok = (typed_accepted d ok.0 ok.1, all_accepted ds ok.2)
