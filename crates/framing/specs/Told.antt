-- Framing: the same rules with something else told of each report, whose octets stand in the buffer from one index on. Cited by callers that read
-- lines of several kinds and tell their reports in one way. Assumes nothing.
use Rattle.std.specs.Prelude.{ℕ}
use Rattle.framing.specs.Reports.{Reported}
use Rattle.framing.specs.Rules.{Rules}

module _ {A R T : Type 0} (rules : Rules A R) (tell : R → T) (i : ℕ) (size : T → ℕ) where
  abbrev pub told : Rules A T
  told = record {
    flag = rules.flag;
    escape = rules.escape;
    skips = rules.skips;
    partner = rules.partner;
    bad_pair = rules.bad_pair;
    cap = rules.cap;
    blank = rules.blank;
    add = rules.add;
    is_blank = rules.is_blank;
    is_check = rules.is_check;
    verdict = λ d b n a. tell (rules.verdict d b n a);
    from = λ p. i;
    size = size;
  }

-- a report of a line, so told
abbrev pub told_report : {R T : Type 0} → (R → T) → Reported R → Reported T
told_report tell r = record { report = tell r.report; octets = r.octets }
