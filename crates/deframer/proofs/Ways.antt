-- Each way through the step of the shared loop, by the tests on it: framing's ways, on the states of the code. Assumes nothing.
use Prim.Native.Nat.{ℕ, ◌≤◌, ◌<◌}
use mathlib.Core.Bool.{Bool, true, false, ◌||◌}
use mathlib.Core.Path.{◌≡◌, sym, ap, ◌∙◌}
use lib.Dec.{eqb}
use Rattle.deframer.specs.Rule.{is_skipped, partner_of, is_bad_pair, rules_of}
use Rattle.deframer.specs.Scan.{view, opened, awaiting, joined, advances, stores, closes, stored, in_segment, closed, step}
use Rattle.deframer.specs.declared.Action.TheVariants.{Advance, Store, Close}
use Rattle.deframer.specs.declared.Rule.{Rule}
use Rattle.deframer.specs.declared.State.{State}
use Rattle.framing.proofs.Ways as ways
use Rattle.framing.specs.Step as framing

module _ (r : Rule) (s : State) where
  -- any octet: a flag; one of a segment; one before any flag
  module _ (x : ℕ) where
    pub step_flag : eqb x r.escapes.flag ≡ true → closed r s ≡ step r s x
    unfolding step closed
    step_flag f = sym (ways.step_into-flag (rules_of r) advances stores closes (view s) x f)

    module _ (f : eqb x r.escapes.flag ≡ false) where
      pub step_segment : s.synced ≡ true → in_segment r s x ≡ step r s x
      unfolding step in_segment
      step_segment y = sym (ways.step_into-segment (rules_of r) advances stores closes (view s) x f y)

      pub step_hunting : s.synced ≡ false → Advance s ≡ step r s x
      unfolding step
      step_hunting y = sym (ways.step_into-hunting (rules_of r) advances stores closes (view s) x f y)

    -- an octet of a segment: skipped; the partner of an escape; an escape; itself
    pub in_segment-skipped : is_skipped r x ≡ true → Advance s ≡ in_segment r s x
    unfolding in_segment
    in_segment-skipped k = sym (ways.in_segment_into-skipped (rules_of r) advances stores closes (view s) x k)

    module _ (k : is_skipped r x ≡ false) where
      pub in_segment-partner : s.pending ≡ true → (b : Bool) → b ≡ (s.bad || is_bad_pair r x) → stored r s b (partner_of r x) ≡ in_segment r s x
      unfolding in_segment stored
      in_segment-partner p b e =
          ap (λ (b : Bool). stored r s b (partner_of r x)) e ∙ sym (ways.in_segment_into-partner (rules_of r) advances stores closes (view s) x k p)

      module _ (p : s.pending ≡ false) where
        pub in_segment-escape : eqb x r.escapes.escape ≡ true → Advance (awaiting s) ≡ in_segment r s x
        unfolding in_segment awaiting framing.awaiting
        in_segment-escape e = sym (ways.in_segment_into-escape (rules_of r) advances stores closes (view s) x k p e)

        pub in_segment-plain : eqb x r.escapes.escape ≡ false → stored r s s.bad x ≡ in_segment r s x
        unfolding in_segment stored
        in_segment-plain e = sym (ways.in_segment_into-plain (rules_of r) advances stores closes (view s) x k p e)

  -- an octet that joins: stored, or past the cap
  pub stored_store : (b : Bool) (x : ℕ) → s.count < r.cap → Store (joined r s b x) s.count x ≡ stored r s b x
  unfolding stored joined
  stored_store b x h = sym (ways.stored_into-store (rules_of r) advances stores closes (view s) b x h)

  pub stored_full : (b : Bool) (x : ℕ) → r.cap ≤ s.count → Advance (joined r s b x) ≡ stored r s b x
  unfolding stored joined
  stored_full b x h = sym (ways.stored_into-full (rules_of r) advances stores closes (view s) b x h)

  -- a flag: an escape left over; nothing; a segment
  pub closed_dangling : s.pending ≡ true → Close ≡ closed r s
  unfolding closed
  closed_dangling p = sym (ways.closed_into-dangling (rules_of r) advances stores closes (view s) p)

  module _ (p : s.pending ≡ false) where
    pub closed_empty : eqb s.count 0 ≡ true → Advance (opened r) ≡ closed r s
    unfolding closed
    closed_empty n = sym (ways.closed_into-empty (rules_of r) advances stores closes (view s) p n)

    pub closed_report : eqb s.count 0 ≡ false → Close ≡ closed r s
    unfolding closed
    closed_report n = sym (ways.closed_into-report (rules_of r) advances stores closes (view s) p n)
