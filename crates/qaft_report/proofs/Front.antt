-- What a report shows, of the framing's word for it and of QAFT's own. Assumes nothing.
use Prim.Native.Nat.{ℕ}
use mathlib.Core.Bool.{cond}
use mathlib.Core.List.{List, []}
use mathlib.Core.Path.{◌≡◌, sym, ap}
use native.Mathlib.Nat.{zero-add}
use lib.Dec.{leb}
use lib.ListN.{length, take}
use Rattle.framing.specs.Reports.{shown}
use Rattle.qaft_report.specs.Answer.{shown as front_shown}

-- a frame's octets stand at the front of the buffer
pub shown_front : (m : List ℕ) (n : ℕ) → front_shown m n ≡ shown m 0 n
shown_front m n = ap (λ (k : ℕ). cond (leb k (length m)) (take n m) []) (sym (zero-add n))
