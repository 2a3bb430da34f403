-- QAFT's rules obey what framing asks of rules, and reading undoes what the writer writes. Assumes nothing.
use Prim.Native.Nat.{ℕ, suc, ◌+◌, ◌-◌, ◌≤◌, ◌<◌}
use mathlib.Core.Bool.{Bool, true, false}
use mathlib.Core.List.{List, [], ◌∷◌}
use mathlib.Core.Path.{◌≡◌, refl, ◌∙◌}
use native.Mathlib.Omega.{arith}
use borrow.Author.Tests.{ltb-false, le-ltb, le-leb, eqb-true, eq-eqb}
use lib.Dec.{ltb, eqb}
use lib.ListN.{length}
use lib.Seq.{take_at}
use Rattle.common.proofs.Bools.{either}
use Rattle.common.proofs.Each.{Each}
use Rattle.framing.proofs.Within.{capped_low}
use Rattle.framing.proofs.Written.{Accepted}
use Rattle.framing.specs.Lawful.{Lawful}
use Rattle.framing.specs.Reports.{check_from, check_of, judged}
use Rattle.framing.specs.Step.{capped}
use Rattle.framing.specs.Writing.{Undoes}
use Rattle.qaft.proofs.Check.{running, sound}
use Rattle.qaft.proofs.Escape.{plain_octet, flow_control_no_flag, escape_no_flow_control, escaped_octet, masked_twice}
use Rattle.qaft.proofs.Frame.{length-sealed}
use Rattle.qaft.specs.Check.{check_by}
use Rattle.qaft.specs.Escape.{masked, is_escaped, writing}
use Rattle.qaft.specs.Frame.{sealed, Writable}
use Rattle.qaft.specs.Limits.{max_data, check_size, min_segment_of, max_segment_of}
use Rattle.qaft_report.specs.Answer.{report_length}
use Rattle.qaft_rules.specs.Rules.{verdict, is_bad_pair, rules, framed}
use Rattle.qaft_report.specs.declared.Report.{Report}
use Rattle.qaft_report.specs.declared.Report.TheVariants.{Frame, Aborted, Long, Short, BadCheck, BadPair}

-- a report that is no frame shows no data
abbrev pub NoFrame : Report → Type 0
NoFrame (Frame n) = ⊥
NoFrame Aborted = Unit
NoFrame Long = Unit
NoFrame Short = Unit
NoFrame BadCheck = Unit
NoFrame BadPair = Unit

no_frame : (p : Report) → NoFrame p → report_length p ≡ 0
no_frame (Frame n) h = absurd h
no_frame Aborted h = refl
no_frame Long h = refl
no_frame Short h = refl
no_frame BadCheck h = refl
no_frame BadPair h = refl

module _ (kind : ℕ) where
  -- what holds of a frame, by what its verdict tells, and of every report that is none, holds of a verdict
  pub verdict_cases : (P : Report → Type 0) (d b : Bool) (n a : ℕ) → ((p : Report) → NoFrame p → P p)
      → (d ≡ false → b ≡ false → a ≡ (check_by kind).good → min_segment_of kind ≤ n → n ≤ max_segment_of kind → P (Frame (n - check_size kind))) → P (verdict kind d b n a)
  unfolding verdict
  verdict_cases P d b n a bare frame =
      either P d (λ _. bare Aborted tt)
      (λ d. either P b (λ _. bare BadPair tt)
      (λ b. either P (ltb (max_segment_of kind) n) (λ _. bare Long tt)
      (λ e. either P (ltb n (min_segment_of kind)) (λ _. bare Short tt)
      (λ k. either P (eqb a (check_by kind).good) (λ z. frame d b (eqb-true a (check_by kind).good z) (ltb-false n (min_segment_of kind) k) (ltb-false (max_segment_of kind) n e)) (λ _. bare BadCheck tt)))))

  -- the same by its length alone
  pub verdict_ind : (P : Report → Type 0) (d b : Bool) (n a : ℕ) → ((p : Report) → NoFrame p → P p) → (min_segment_of kind ≤ n → n ≤ max_segment_of kind → P (Frame (n - check_size kind)))
      → P (verdict kind d b n a)
  verdict_ind P d b n a bare frame = verdict_cases P d b n a bare (λ _ _ _. frame)

  -- a report shows only octets that are stored
  pub verdict_shows : (d b : Bool) (n a : ℕ) → let p = verdict kind d b n a in 0 < report_length p → (0 + report_length p ≤ n) × (n ≤ max_segment_of kind)
  verdict_shows d b n a =
      verdict_ind (λ (p : Report). 0 < report_length p → (0 + report_length p ≤ n) × (n ≤ max_segment_of kind)) d b n a
      (λ p e h. absurd (omega (arith, no_frame p e, h))) (λ _ k h. (omega arith, k))

module _ (level kind : ℕ) where
  pub lawful : Lawful (rules level kind)
  lawful = record {
    shows_stored = verdict_shows kind;
    skips_no_flag = flow_control_no_flag level;
    blank-is_blank = eq-eqb (check_by kind).blank (check_by kind).blank refl;
    blank-is_check = (sound kind).blank-is_check;
    added-is_check = λ n a x. (sound kind).added-is_check a x;
  }

  -- the pair that is written for an octet is good
  pair_good : (x : ℕ) → is_escaped level x ≡ true → is_bad_pair level (masked x) ≡ false
  unfolding is_bad_pair
  pair_good x e = rw (masked_twice x, e)

  pub undoes : Undoes (rules level kind) (writing level)
  undoes = record {
    flag_is = refl;
    escape_is = refl;
    escape_kept = (refl, escape_no_flow_control level);
    plain = plain_octet level;
    partner_kept = escaped_octet level;
    pair = λ x e. (masked_twice x, pair_good x e);
  }

  -- ---- data with their check are a frame
  check_running : (n a : ℕ) (xs : List ℕ) → check_from (rules level kind) n a xs ≡ running (check_by kind) a xs
  unfolding check_from running
  check_running n a [] = refl
  check_running n a (x ∷ xs) = check_running (suc n) ((check_by kind).add a x) xs

  pub check_of-running : (xs : List ℕ) → check_of (rules level kind) xs ≡ running (check_by kind) (check_by kind).blank xs
  unfolding check_of
  check_of-running xs = check_running 0 (check_by kind).blank xs

  module _ (d : List ℕ) (some : 1 ≤ length d) (most : length d ≤ max_data) where
    verdict_sealed : verdict kind false false (capped (rules level kind) (length (sealed kind d))) (check_of (rules level kind) (sealed kind d)) ≡ Frame (length d)
    unfolding verdict
    verdict_sealed =
        let n = length d + check_size kind in
        let less : n - check_size kind ≡ length d = omega arith in
        let good = eq-eqb (check_of (rules level kind) (sealed kind d)) (check_by kind).good (check_of-running (sealed kind d) ∙ (sound kind).good_is d) in
        rw (length-sealed kind d, capped_low (rules level kind) n (omega arith), le-ltb (max_segment_of kind) n (omega arith), le-ltb n (min_segment_of kind) (omega arith), good, less)

    pub sealed_accepted : Accepted (rules level kind) (sealed kind) framed d
    unfolding judged
    sealed_accepted = (
      omega (arith, length-sealed kind d),
      rw (verdict_sealed, le-leb (0 + length d) (length (sealed kind d)) (omega (arith, length-sealed kind d)), take_at d ((check_by kind).octets d) (length d) refl),
    )

  pub all_accepted : (ds : List (List ℕ)) → Writable ds → Each (Accepted (rules level kind) (sealed kind) framed) ds
  all_accepted [] ok = tt
  all_accepted (d ∷ ds) ok = (sealed_accepted d ok.0 ok.1, all_accepted ds ok.2)
