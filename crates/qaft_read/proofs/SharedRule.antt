-- QAFT's rules are those of the rule that the reader hands to the shared loop. Assumes nothing.
use Prim.Native.Nat.{ℕ}
use mathlib.Core.Bool.{Bool, true, cond, not}
use mathlib.Core.Path.{◌≡◌, refl, sym, ap, ◌∙◌}
use borrow.Author.Tests.{eqb-true}
use lib.Dec.{eqb}
use Rattle.common.proofs.Bools.{either}
use Rattle.deframer.specs.Rule.{sum_check, register_check, is_skipped, partner_of, is_bad_pair, blank_of, added, is_check_of, rules_of}
use Rattle.escapes.specs.Escapes.{is_escaped}
use Rattle.framing.specs.Closing.{closing}
use Rattle.qaft.proofs.Check.{by_kind}
use Rattle.qaft.proofs.Escape.{flag_no_flow_control, escape_no_flow_control, partner_escaped}
use Rattle.qaft.specs.Check as qaft
use Rattle.qaft.specs.Check.{fcs_check, check_by}
use Rattle.qaft.specs.Escape.{flag, escape_octet, masked, is_flow_control, escapes_of}
use Rattle.qaft.specs.Limits.{max_segment_of}
use Rattle.qaft_read.specs.Scanned.{running_check, rule}
use Rattle.qaft_rules.specs.Rules as rules

-- ---- the running check by its kind: before any octet, after one more, and which numbers can be one
pub blank_is : (kind : ℕ) → blank_of (running_check kind) ≡ (check_by kind).blank
blank_is = by_kind (λ (b : Bool). blank_of (cond b register_check sum_check) ≡ (cond b fcs_check qaft.sum_check).blank) refl refl

added_is : (kind n a x : ℕ) → added (running_check kind) n a x ≡ (check_by kind).add a x
unfolding added
added_is kind n a x = by_kind (λ (b : Bool). added (cond b register_check sum_check) n a x ≡ (cond b fcs_check qaft.sum_check).add a x) refl refl kind

is_check-is : (kind a : ℕ) → is_check_of (running_check kind) a ≡ (check_by kind).is_check a
is_check-is kind a = by_kind (λ (b : Bool). is_check_of (cond b register_check sum_check) a ≡ (cond b fcs_check qaft.sum_check).is_check a) refl refl kind

-- ---- the rest
-- skipped is flow control, which is neither flag nor escape
skips_flow_control : (level kind x : ℕ) → is_skipped (rule level kind) x ≡ is_flow_control level x
unfolding is_skipped is_escaped escapes_of is_flow_control
skips_flow_control level kind x =
    let is : Bool → Type 0 = λ c. c ≡ is_flow_control level x in
    either is (eqb x flag) (λ e. sym (ap (is_flow_control level) (eqb-true x flag e) ∙ flag_no_flow_control level))
    (λ f. either is (eqb x escape_octet) (λ e. sym (ap (is_flow_control level) (eqb-true x escape_octet e) ∙ escape_no_flow_control level)) (λ g. rw (f, g)))

-- bad are pairs for octets that the level does not escape
pair_bad : (level kind y : ℕ) → is_bad_pair (rule level kind) y ≡ rules.is_bad_pair level y
unfolding is_bad_pair rules.is_bad_pair
pair_bad level kind y = ap not (partner_escaped level y)

pub rule_rules : (level kind : ℕ) → rules_of (rule level kind) ≡ closing (rules.rules level kind)
unfolding escapes_of partner_of
rule_rules level kind i = record {
  flag = flag;
  escape = escape_octet;
  skips = λ x. skips_flow_control level kind x i;
  partner = masked;
  bad_pair = λ y. pair_bad level kind y i;
  cap = max_segment_of kind;
  blank = blank_is kind i;
  add = λ n a x. added_is kind n a x i;
  is_blank = λ a. eqb a (blank_is kind i);
  is_check = λ a. is_check-is kind a i;
  verdict = λ d b n a. record { synced = true; pending = d; bad = b; count = n; check = a };
  from = λ s. 0;
  size = λ s. 0;
}
