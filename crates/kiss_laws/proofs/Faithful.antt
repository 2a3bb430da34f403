-- KISS's rules are canonical, and nothing but a payload behind its type octet is judged a frame. Assumes nothing.
use Prim.Native.Nat.{ℕ, ◌+◌, ◌-◌, ◌≤◌, ◌<◌}
use mathlib.Core.Bool.{Bool, false, ◌||◌}
use mathlib.Core.List.{List, [], ◌∷◌}
use mathlib.Core.Path.{◌≡◌, refl, sym, ap, ap₂, ◌∙◌, subst}
use native.Mathlib.Omega.{arith}
use borrow.Author.Tests.{le-leb, eqb-true}
use lib.ListN.{length, take}
use lib.Seq.{take_all}
use Rattle.common.proofs.Bools.{or_false_left, or_false_right}
use Rattle.framing.proofs.Within.{capped_within}
use Rattle.framing.specs.Bodies.{Octets, Faithful}
use Rattle.framing.specs.Reports.{Reported, Unescaped, shown, check_from, check_of, judged}
use Rattle.framing.specs.Step.{capped}
use Rattle.framing.specs.Writing.{Canonical}
use Rattle.kiss.proofs.Octets.{is_escaped-ind, good_escape, data_zero}
use Rattle.kiss.specs.Frame.{typed}
use Rattle.kiss.specs.Limits.{max_segment}
use Rattle.kiss.specs.Octets.{is_escaped, writing}
use Rattle.kiss_laws.proofs.Rules.{NoFrame, verdict_cases, kept}
use Rattle.kiss_report.specs.Answer.{report_length}
use Rattle.kiss_report.specs.declared.Report.{Report}
use Rattle.kiss_report.specs.declared.Report.TheVariants.{Frame}
use Rattle.kiss_rules.specs.Rules.{verdict, rules, framed}

pub canonical : Canonical rules writing
unfolding is_escaped
canonical = record {
  escape_is = refl;
  good_pair = good_escape;
  raw = λ x f e _. rw (f, e);
  octet = λ x e. is_escaped-ind (λ (x : ℕ). x < 256) x e (omega arith) (omega arith);
}

-- what the verdict of a frame with k payload octets tells
record IsFrame (d b : Bool) (n kind k : ℕ) : Type 0 where
  pub whole : (d || b) ≡ false
  pub typed : kind ≡ 0
  pub most : n ≤ max_segment
  pub size : n ≡ k + 1

frame_verdict : (d b : Bool) (n kind k : ℕ) → verdict d b n kind ≡ Frame k → IsFrame d b n kind k
frame_verdict d b n kind k =
    verdict_cases (λ (p : Report). p ≡ Frame k → IsFrame d b n kind k) d b n kind (λ p h e. absurd (subst NoFrame e h))
    (λ q t least most e. let z : n - 1 ≡ k = ap report_length e in record { whole = q; typed = eqb-true kind 0 (sym (data_zero kind) ∙ t); most = most; size = omega arith })

module _ (d : List ℕ) (u : Unescaped) (e : judged rules u ≡ framed d) where
  is_frame : IsFrame u.dangling u.bad (capped rules (length u.octets)) (check_of rules u.octets) (length d)
  unfolding judged
  is_frame = frame_verdict _ _ _ _ _ (ap (λ (r : Reported Report). r.report) e)

  -- the type octet and the payload
  parts : (xs : List ℕ) → length xs ≡ length d + 1 → check_of rules xs ≡ 0 → shown xs 1 (length d) ≡ d → xs ≡ typed d
  unfolding check_of check_from
  parts [] n k s = absurd (omega (arith, n))
  parts (x ∷ xs) n k s =
      let f : shown (x ∷ xs) 1 (length d) ≡ take (length d) xs = rw (le-leb (1 + length d) (length (x ∷ xs)) (omega (arith, n))) in
      let t : take (length d) xs ≡ xs = take_all (length d) xs (omega (arith, n)) in
      ap₂ (λ (x : ℕ) (xs : List ℕ). x ∷ xs) (sym (kept xs 1 x (omega arith)) ∙ k) (sym t ∙ sym f ∙ s)

  shows : shown u.octets 1 (length d) ≡ d
  unfolding judged
  shows = sym (ap (λ (r : Reported Report). shown u.octets 1 (report_length r.report)) e) ∙ ap (λ (r : Reported Report). r.octets) e

  typed_only : Octets u.octets → u.octets ≡ typed d
  typed_only _ = parts u.octets (omega (arith, capped_within rules (length u.octets) is_frame.most, is_frame.size)) is_frame.typed shows

pub faithful : Faithful rules typed framed
faithful = record {
  clean = λ d u e. (or_false_left u.dangling u.bad (is_frame d u e).whole, or_false_right u.dangling u.bad (is_frame d u e).whole);
  same = typed_only;
}
