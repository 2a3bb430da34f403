-- Each return by the tests on its way.
use Rattle.std.proofs.Common.{ℕ, ◌≡◌, ◌+◌, Bool, true, false, not, ◌&&◌, ◌||◌, ltb, eqb, refl, ap, ◌∙◌, arith}
use borrow.Author.Tests.{le-ltb, eq-eqb, ne_eqb, eqb-true}
use Rattle.common.proofs.Bools.{either}
use Rattle.deframer.specs.Rule.{sum_check, blank_of, is_check_of, rules_of}
use Rattle.deframer.specs.Scan.{view}
use Rattle.deframer.specs.declared.Rule.{Rule}
use Rattle.deframer.specs.declared.State.{State}
use Rattle.framing.specs.Step.{malformed}
use Rattle.deframer.proofs.Rule.well_formed_empty.Goals as goal
use Rattle.deframer.proofs.Rule.well_formed_empty.Goals.{then-not-s, else-not-s}

-- the check before any octet can be one
blank-is_check : (kind : ℕ) → is_check_of kind (blank_of kind) ≡ true
blank-is_check kind =
    either (λ (b : Bool). b ≡ true) (eqb kind sum_check) (λ e. ap (λ (k : ℕ). ltb (blank_of k) 256) (eqb-true kind sum_check e)) (λ _. refl)

-- the tests over their answers: k whether the check is none, b a bad pair, q another check than that before any octet
bad_told : (k q z : Bool) → false ≡ not (k || ((true || q) || z))
bad_told true q z = refl
bad_told false q z = refl

check_told : (k b z : Bool) → false ≡ not (k || ((b || true) || z))
check_told true b z = refl
check_told false true z = refl
check_told false false z = refl

-- of no octets
module _ (r : Rule) (s : State) (none : s.count ≡ 0) where
  within : ltb (r.cap + 1) s.count ≡ false
  within = le-ltb (r.cap + 1) s.count (omega (arith, none))

  with_bad_pair : s.bad ≡ true → false ≡ not (malformed (rules_of r) (view s))
  unfolding malformed
  with_bad_pair e = rw (within, eq-eqb s.count 0 none, e) (bad_told (not (is_check_of r.check s.check)) (not (eqb s.check (blank_of r.check))) (not s.synced && (s.pending || false)))

  with_check : (s.check ≡ blank_of r.check → ⊥) → false ≡ not (malformed (rules_of r) (view s))
  unfolding malformed
  with_check e = rw (within, eq-eqb s.count 0 none, ne_eqb s.check (blank_of r.check) e) (check_told (not (is_check_of r.check s.check)) s.bad (not s.synced && (s.pending || false)))

  module _ (b : s.bad ≡ false) (e : s.check ≡ blank_of r.check) where
    in_segment : s.synced ≡ true → true ≡ not (malformed (rules_of r) (view s))
    unfolding malformed
    in_segment y = rw (within, eq-eqb s.count 0 none, b, e, blank-is_check r.check, eq-eqb (blank_of r.check) (blank_of r.check) refl, y)

    before_flag : s.synced ≡ false → not s.pending ≡ not (malformed (rules_of r) (view s))
    unfolding malformed
    before_flag y = rw (within, eq-eqb s.count 0 none, b, e, blank-is_check r.check, eq-eqb (blank_of r.check) (blank_of r.check) refl, y) (alone s.pending)
      where
        alone : (p : Bool) → not p ≡ not (p || false)
        alone true = refl
        alone false = refl

pub returns-then-s : goal.returns-then-s
returns-then-s c =
    let r = c.args.self in
    let s = c.args.s in
    c.if-s.true
    ∙ elim c.if-not-s.branch [
      | then-not-s w ↦ in_segment r s c.requires (grind arith) (grind (arith, w.value-is, w.blank.ensures, c.if-s-blank.true)) c.if-s.true
      | else-not-s w ↦ absurd (grind (arith, w.value-is, c.if-s-blank.true))
    ]

pub returns-else-s-blank : goal.returns-else-s-blank
returns-else-s-blank c =
    let r = c.args.self in
    let s = c.args.s in
    c.if-s-blank.false
    ∙ elim c.if-not-s.branch
    [ then-not-s w ↦ with_check r s c.requires (λ e. grind (arith, e, w.value-is, w.blank.ensures, c.if-s-blank.false)) | else-not-s w ↦ with_bad_pair r s c.requires (grind arith) ]

pub returns-else-s : goal.returns-else-s
returns-else-s c =
    let r = c.args.self in
    let s = c.args.s in
    elim c.if-not-s.branch [
      | then-not-s w ↦ before_flag r s c.requires (grind arith) (grind (arith, w.value-is, w.blank.ensures, c.if-s-blank.true)) c.if-s.false
      | else-not-s w ↦ absurd (grind (arith, w.value-is, c.if-s-blank.true))
    ]
