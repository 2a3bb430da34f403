-- KISS's rules are those of the rule that the reader hands to the shared loop. Assumes nothing.
use Prim.Native.Nat.{ℕ, ◌<◌}
use mathlib.Core.Bool.{Bool, true, false, cond, not, ◌||◌}
use mathlib.Core.Path.{◌≡◌, refl}
use native.Mathlib.Omega.{arith}
use lib.Dec.{eqb}
use Rattle.common.proofs.Bools.{either}
use Rattle.deframer.specs.Rule.{is_skipped, partner_of, is_bad_pair, added, rules_of}
use Rattle.escapes.specs.Escapes.{is_escaped, is_partner, stands_for}
use Rattle.framing.specs.Closing.{closing}
use Rattle.kiss.specs.Limits.{max_segment}
use Rattle.kiss.specs.Octets.{flag, escape_octet, escaped_flag, escaped_escape, escapes, is_bad_escape}
use Rattle.kiss.specs.Octets as kiss
use Rattle.kiss_read.specs.Scanned.{rule}
use Rattle.kiss_rules.specs.Rules.{rules}

-- nothing is skipped: flag and escape alone are escaped
skips_none : (x : ℕ) → is_skipped rule x ≡ false
unfolding is_skipped is_escaped escapes
skips_none x = go (eqb x flag) (eqb x escape_octet)
  where
    go : (f e : Bool) → cond f false (cond e false (f || (e || (f || e)))) ≡ false
    go true e = refl
    go false true = refl
    go false false = refl

-- DC and DD stand for C0 and DB, another octet for itself
partner_stands : (y : ℕ) → partner_of rule y ≡ kiss.stands_for y
unfolding partner_of is_partner stands_for escapes kiss.stands_for
partner_stands y = go (eqb y escaped_flag) (eqb y escaped_escape)
  where
    go : (a b : Bool)
        → cond (a || (b || (a || b))) (cond a flag (cond b escape_octet (cond a flag escape_octet))) y
        ≡ cond a flag (cond b escape_octet y)
    go true b = refl
    go false true = refl
    go false false = refl

pair_bad : (y : ℕ) → is_bad_pair rule y ≡ is_bad_escape y
unfolding is_bad_pair is_partner escapes is_bad_escape
pair_bad y = go (eqb y escaped_flag) (eqb y escaped_escape)
  where
    go : (a b : Bool) → not (a || (b || (a || b))) ≡ not (a || b)
    go true b = refl
    go false true = refl
    go false false = refl

first_added : (n a x : ℕ) → added rule.check n a x ≡ cond (eqb n 0) x a
unfolding added
first_added n a x = refl

pub rule_rules : rules_of rule ≡ closing rules
unfolding escapes
rule_rules i = record {
  flag = flag;
  escape = escape_octet;
  skips = λ x. skips_none x i;
  partner = λ y. partner_stands y i;
  bad_pair = λ y. pair_bad y i;
  cap = max_segment;
  blank = 0;
  add = λ n a x. first_added n a x i;
  is_blank = λ a. eqb a 0;
  is_check = λ a. true;
  verdict = λ d b n a. record { synced = true; pending = d; bad = b; count = n; check = a };
  from = λ s. 0;
  size = λ s. 0;
}

-- ---- octets stay octets
abbrev Octet : ℕ → Type 0
Octet x = x < 256

pub partner_octet : (y : ℕ) → y < 256 → partner_of rule y < 256
unfolding kiss.stands_for
partner_octet y h =
    rw (partner_stands y)
    (either Octet (eqb y escaped_flag) (λ _. omega arith) (λ _. either Octet (eqb y escaped_escape) (λ _. omega arith) (λ _. h)))

pub first_octet_lem : (n a x : ℕ) → x < 256 → a < 256 → added rule.check n a x < 256
first_octet_lem n a x h k = rw (first_added n a x) (either Octet (eqb n 0) (λ _. h) (λ _. k))
