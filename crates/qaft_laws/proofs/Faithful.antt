-- QAFT's rules are canonical, and nothing but data with their check is judged a frame. Assumes nothing.
use Prim.Native.Nat.{ℕ, ◌+◌, ◌-◌, ◌≤◌, ◌<◌}
use mathlib.Core.Bool.{Bool, true, false}
use mathlib.Core.List.{List, ◌++◌}
use mathlib.Core.Path.{◌≡◌, refl, sym, ap, ◌∙◌, subst}
use native.Mathlib.Omega.{arith}
use borrow.Author.Tests.{le-leb, not-false}
use lib.ListN.{length, take, drop, take-append-drop, length-drop}
use Rattle.framing.proofs.Bodies.{octets-drop}
use Rattle.framing.proofs.Within.{capped_within}
use Rattle.framing.specs.Bodies.{Octets, Faithful}
use Rattle.framing.specs.Reports.{Reported, Unescaped, shown, check_of, judged}
use Rattle.framing.specs.Step.{capped}
use Rattle.framing.specs.Writing.{Canonical}
use Rattle.qaft.proofs.Check.{running, sound}
use Rattle.qaft.proofs.Escape.{is_escaped-ind, masked_twice}
use Rattle.qaft.specs.Check.{check_by}
use Rattle.qaft.specs.Escape.{masked, is_escaped, writing}
use Rattle.qaft.specs.Frame.{sealed}
use Rattle.qaft.specs.Limits.{check_size, max_segment_of}
use Rattle.qaft_laws.proofs.Rules.{NoFrame, verdict_cases, check_of-running}
use Rattle.qaft_report.specs.Answer.{report_length}
use Rattle.qaft_report.specs.declared.Report.{Report}
use Rattle.qaft_report.specs.declared.Report.TheVariants.{Frame}
use Rattle.qaft_rules.specs.Rules.{verdict, is_bad_pair, rules, framed}

-- what the verdict of a frame with k data octets tells
pub record IsFrame (kind : ℕ) (d b : Bool) (n a k : ℕ) : Type 0 where
  pub dangling : d ≡ false
  pub bad : b ≡ false
  pub checked : a ≡ (check_by kind).good
  pub most : n ≤ max_segment_of kind
  pub size : n ≡ k + check_size kind

frame_verdict : (kind : ℕ) (d b : Bool) (n a k : ℕ) → verdict kind d b n a ≡ Frame k → IsFrame kind d b n a k
frame_verdict kind d b n a k =
    verdict_cases kind (λ (p : Report). p ≡ Frame k → IsFrame kind d b n a k) d b n a (λ p h e. absurd (subst NoFrame e h))
    (λ d b a least most e. let z : n - check_size kind ≡ k = ap report_length e in record { dangling = d; bad = b; checked = a; most = most; size = omega arith })

module _ (level kind : ℕ) where
  -- "a pair is good only if it stands for an octet that the level escapes"
  good_escaped : (y : ℕ) → is_bad_pair level y ≡ false → is_escaped level (masked y) ≡ true
  unfolding is_bad_pair
  good_escaped y e = not-false _ e

  pub canonical : Canonical (rules level kind) (writing level)
  unfolding is_escaped
  canonical = record {
    escape_is = refl;
    good_pair = λ y e. (good_escaped y e, masked_twice y);
    raw = λ x f e s. rw (f, e, s);
    octet = λ x e. is_escaped-ind (λ (x : ℕ). x < 256) level x e (omega arith) (omega arith) (omega arith) (omega arith);
  }

  module _ (d : List ℕ) (u : Unescaped) (e : judged (rules level kind) u ≡ framed d) where
    pub is_frame : IsFrame kind u.dangling u.bad (capped (rules level kind) (length u.octets)) (check_of (rules level kind) u.octets) (length d)
    unfolding judged
    is_frame = frame_verdict kind _ _ _ _ _ (ap (λ (r : Reported Report). r.report) e)

    -- the check behind the data, which stand before it
    more : length u.octets ≡ length d + check_size kind
    more = omega (arith, capped_within (rules level kind) (length u.octets) is_frame.most, is_frame.size)

    data_first : take (length d) u.octets ≡ d
    unfolding judged
    data_first =
        let r = ap (λ (r : Reported Report). shown u.octets 0 (report_length r.report)) e in
        let s : shown u.octets 0 (length d) ≡ take (length d) u.octets = rw (le-leb (0 + length d) (length u.octets) (omega (arith, more))) in
        sym s ∙ sym r ∙ ap (λ (r : Reported Report). r.octets) e

    split : u.octets ≡ d ++ drop (length d) u.octets
    split = sym (take-append-drop (length d) u.octets) ∙ ap (λ (xs : List ℕ). xs ++ drop (length d) u.octets) data_first

    -- it is their check
    checked : Octets u.octets → u.octets ≡ sealed kind d
    checked h =
        let t = drop (length d) u.octets in
        let n : length t ≡ check_size kind = omega (arith, length-drop (length d) u.octets, more) in
        let good = ap (running (check_by kind) (check_by kind).blank) (sym split) ∙ sym (check_of-running level kind u.octets) ∙ is_frame.checked in
        split ∙ ap (λ (c : List ℕ). d ++ c) ((sound kind).good_only d t (octets-drop (length d) u.octets h) n good)

  pub faithful : Faithful (rules level kind) (sealed kind) framed
  faithful = record { clean = λ d u e. ((is_frame d u e).dangling, (is_frame d u e).bad); same = checked }
