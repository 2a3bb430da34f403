-- A refusal has a number of its own. Assumes nothing.
use Rattle.std.proofs.Common.{◌≡◌, ap, arith, Result, Ok, Err}
use Rattle.std.specs.Result.{IsErrAnd}
use Rattle.afp.specs.Refused.{number_of, refused}
use Rattle.afp.specs.declared.Refusal.{Refusal}
use Rattle.afp.specs.declared.Refusal.TheVariants.{BadLength, BadCheck, BadVersion, BadProtocol, BadOffset, BadStations, BadNext, BadNextSum, BadSupplementary, BadHeaderSum, BadData, OutTooSmall}

-- and that is not the number of none
pub refusal_numbered : (r : Refusal) → number_of r ≡ 0 → ⊥
refusal_numbered BadLength e = omega arith
refusal_numbered BadCheck e = omega arith
refusal_numbered BadVersion e = omega arith
refusal_numbered BadProtocol e = omega arith
refusal_numbered BadOffset e = omega arith
refusal_numbered BadStations e = omega arith
refusal_numbered BadNext e = omega arith
refusal_numbered BadNextSum e = omega arith
refusal_numbered BadSupplementary e = omega arith
refusal_numbered BadHeaderSum e = omega arith
refusal_numbered BadData e = omega arith
refusal_numbered OutTooSmall e = omega arith

-- what is handed on by `?` is refused with the same number
pub handed_on : {A : Type 0} (r : Result A Refusal) (e : Refusal) → IsErrAnd r (λ x. x ≡ e) → refused r ≡ number_of e
handed_on (Ok x) e h = absurd h
handed_on (Err x) e h = ap number_of h
