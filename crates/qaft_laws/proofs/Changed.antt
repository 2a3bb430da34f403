-- With the check sequence a frame that was changed within sixteen bits in a row is a bad check, and two frames without the flag between them are no frame.
-- Assumes nothing.
use Prim.Native.Nat.{ℕ, ◌+◌, ◌≤◌, ◌<◌}
use mathlib.Core.Bool.{false}
use mathlib.Core.List.{List, [], ◌∷◌, ◌++◌}
use mathlib.Core.Path.{◌≡◌, sym, ap, ◌∙◌}
use native.Mathlib.Omega.{arith}
use borrow.Author.Tests.{le-ltb, le-leb, ne_eqb}
use lib.Dec.{lit<}
use lib.ListN.{length, length-append}
use Rattle.fcs.proofs.Bursts.{burst_told}
use Rattle.fcs.proofs.Register.{feed-++}
use Rattle.fcs.proofs.Residue.{check_residue, feeds_injective}
use Rattle.fcs.specs.Bursts.{Burst}
use Rattle.fcs.specs.Fcs.{preset, residue, feed_all, check_sequence}
use Rattle.framing.proofs.Bodies.{octets_get_d, octets-++}
use Rattle.framing.proofs.Escaping.{escaped-++}
use Rattle.framing.proofs.Within.{capped_low}
use Rattle.framing.proofs.Written.{reports_escaped}
use Rattle.framing.specs.Bodies.{Octets}
use Rattle.framing.specs.Reports.{Reported, Unescaped, unskipped, unescape, check_of, reported, judged, reports_of_octets, reports_of_segment}
use Rattle.framing.specs.Step.{capped}
use Rattle.qaft.proofs.Check.{running_feed}
use Rattle.qaft.proofs.Frame.{length-sealed}
use Rattle.qaft.specs.Escape.{writing}
use Rattle.qaft.specs.Frame.{sealed, body}
use Rattle.qaft.specs.Limits.{fcs_kind, max_data, min_segment_of, max_segment_of}
use Rattle.qaft_laws.proofs.Faithful.{is_frame}
use Rattle.qaft_laws.proofs.Rules.{undoes, check_of-running}
use Rattle.qaft_report.specs.declared.Report.{Report}
use Rattle.qaft_report.specs.declared.Report.TheVariants.{BadCheck}
use Rattle.qaft_rules.specs.Rules.{verdict, rules, framed}

-- data and check sequence are octets, where the data are
sealed_octets : (d : List ℕ) → Octets d → Octets (sealed fcs_kind d)
unfolding check_sequence
sealed_octets d h = octets-++ d _ h (omega arith, (omega arith, tt))

-- ys: what a frame's data and check became. They are as many, so neither long nor short
module _ (level : ℕ) (d ys : List ℕ) (some : 1 ≤ length d) (most : length d ≤ max_data) (od : Octets d) (oy : Octets ys) (b : Burst (sealed fcs_kind d) ys) where
  bad_register : check_of (rules level fcs_kind) ys ≡ residue → ⊥
  bad_register e =
      burst_told preset (sealed fcs_kind d) ys (λ i. octets_get_d (sealed fcs_kind d) i (sealed_octets d od)) (λ i. octets_get_d ys i oy) b
      (check_residue d ∙ sym (sym (check_of-running level fcs_kind ys ∙ running_feed preset ys) ∙ e))

  bad_verdict : verdict fcs_kind false false (capped (rules level fcs_kind) (length ys)) (check_of (rules level fcs_kind) ys) ≡ BadCheck
  unfolding verdict
  bad_verdict =
      let n : length ys ≤ max_segment_of fcs_kind = omega (arith, b.as_many, length-sealed fcs_kind d) in
      rw (capped_low (rules level fcs_kind) (length ys) (omega (arith, n)), le-ltb (max_segment_of fcs_kind) (length ys) n, le-ltb (length ys) (min_segment_of fcs_kind) (omega (arith, b.as_many, length-sealed fcs_kind d)), ne_eqb (check_of (rules level fcs_kind) ys) residue bad_register)

  judged_bad : judged (rules level fcs_kind) (record { octets = ys; dangling = false; bad = false }) ≡ record { report = BadCheck; octets = [] }
  unfolding judged
  judged_bad = ap (λ (p : Report). reported (rules level fcs_kind) p ys) bad_verdict ∙ rw (le-leb (0 + 0) (length ys) (omega arith))

  -- t: what stands between two flags. Whatever it is, if it stands for these octets, with no escape left over and no bad pair, it is a bad check
  pub changed_is_a_bad_check : (t : List ℕ) → unescape (rules level fcs_kind) (unskipped (rules level fcs_kind) t) ≡ record { octets = ys; dangling = false; bad = false }
      → reports_of_segment (rules level fcs_kind) t ≡ record { report = BadCheck; octets = [] } ∷ []
  unfolding reports_of_segment reports_of_octets unescape
  changed_is_a_bad_check t e = go (unskipped (rules level fcs_kind) t) e
    where
      go : (s : List ℕ) → unescape (rules level fcs_kind) s ≡ record { octets = ys; dangling = false; bad = false } → reports_of_octets (rules level fcs_kind) s ≡ record { report = BadCheck; octets = [] } ∷ []
      go [] e = let none : 0 ≡ length ys = ap (λ (u : Unescaped). length u.octets) e in absurd (omega (arith, none, b.as_many, length-sealed fcs_kind d))
      go (x ∷ s) e = ap (λ (u : Unescaped). judged (rules level fcs_kind) u ∷ []) e ∙ ap (λ (r : Reported Report). r ∷ []) judged_bad

-- ---- a flag that was lost: two frames as one segment
module _ (level : ℕ) (d e : List ℕ) (oe : Octets e) where
  -- the second's octets are fed to the residue that the first left, and not to ones
  joined_register : check_of (rules level fcs_kind) (sealed fcs_kind d ++ sealed fcs_kind e) ≡ residue → ⊥
  joined_register q =
      let whole = sym (check_of-running level fcs_kind (sealed fcs_kind d ++ sealed fcs_kind e) ∙ running_feed preset (sealed fcs_kind d ++ sealed fcs_kind e)) ∙ q in
      let parts = feed-++ preset (sealed fcs_kind d) (sealed fcs_kind e) ∙ ap (λ (r : ℕ). feed_all r (sealed fcs_kind e)) (check_residue d) in
      let same : residue ≡ preset =
      feeds_injective residue preset (sealed fcs_kind e) (lit< tt) (lit< tt) (λ i. octets_get_d (sealed fcs_kind e) i (sealed_octets e oe)) (sym parts ∙ whole ∙ sym (check_residue e)) in
      omega (arith, same)

  -- so the two bodies, with no flag between them, are no frame, whatever its data would be
  pub lost_flag_is_no_frame : (f : List ℕ) → reports_of_segment (rules level fcs_kind) (body level fcs_kind d ++ body level fcs_kind e) ≡ framed f ∷ [] → ⊥
  unfolding body
  lost_flag_is_no_frame f q =
      let both = sealed fcs_kind d ++ sealed fcs_kind e in
      let some : 0 < length both = omega (arith, length-append (sealed fcs_kind d) (sealed fcs_kind e), length-sealed fcs_kind d) in
      let one = ap (reports_of_segment (rules level fcs_kind)) (escaped-++ (writing level) (sealed fcs_kind d) (sealed fcs_kind e)) in
      let told = sym (reports_escaped (rules level fcs_kind) (writing level) (undoes level fcs_kind) both some) ∙ one ∙ q in
      joined_register (is_frame level fcs_kind f (record { octets = both; dangling = false; bad = false }) (first_is _ _ told)).checked
    where
      first_is : (r t : Reported Report) → r ∷ [] ≡ t ∷ [] → r ≡ t
      first_is r t e = cc
