-- Framing: the same rules with the state at the closing flag for a report. Cited by the loop that the readers share, which leaves the verdict to
-- each of them. Assumes nothing.
use Rattle.std.specs.Prelude.{true}
use Rattle.framing.specs.Rules.{Rules, State}

module _ {A R : Type 0} (rules : Rules A R) where
  -- a segment that is not empty is reported as the state in which the flag found it
  abbrev pub closing : Rules A (State A)
  closing = record {
    flag = rules.flag;
    escape = rules.escape;
    skips = rules.skips;
    partner = rules.partner;
    bad_pair = rules.bad_pair;
    cap = rules.cap;
    blank = rules.blank;
    add = rules.add;
    is_blank = rules.is_blank;
    is_check = rules.is_check;
    verdict = λ d b n a. record { synced = true; pending = d; bad = b; count = n; check = a };
    from = λ s. 0;
    size = λ s. 0;
  }

  -- the verdict on it
  abbrev pub verdict_on : State A → R
  verdict_on s = rules.verdict s.pending s.bad s.count s.check
