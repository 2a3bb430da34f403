-- Refusal 5 of KISS is framing's. Assumes nothing.
use mathlib.Core.Bool.{Bool, true, false, not, ◌&&◌, ◌||◌}
use mathlib.Core.Path.{◌≡◌, refl}
use lib.Dec.{ltb, eqb}
use Rattle.framing.specs.Step as steps
use Rattle.kiss.specs.Limits.{count_cap}
use Rattle.kiss_read.specs.State.{view, malformed}
use Rattle.kiss_read.specs.declared.Reader.{Reader}
use Rattle.kiss_rules.specs.Rules.{rules}

-- a type or a bad escape before a flag is one of no octet, or has an octet before a flag
pub malformed_view : (r : Reader) → malformed r ≡ steps.malformed rules (view r)
unfolding malformed steps.malformed
malformed_view r = go (ltb count_cap r.count) (eqb r.count 0) (r.bad_escape || not (eqb r.type_octet 0)) r.pending
  where
    go : (o z t p : Bool) → (o || ((z && t) || (not r.synced && (p || (not z || t))))) ≡ (o || ((z && t) || (not r.synced && (p || not z))))
    go true z t p = refl
    go false true true p = refl
    go false true false p = refl
    go false false t true = refl
    go false false t false = refl
