use Rattle.std.proofs.Common.{◌≡◌, ◌+◌, Bool, cond, [], ◌∷◌, true, false, length, refl}
use Rattle.escapes.specs.Escapes.{writing_of, behind}
use mir.Val.{bool_byte}
use Rattle.framing.specs.Writing.{escaped_one}
use Rattle.framer.proofs.room.one_if_escaped.Goals as goal

pub returns : goal.returns
unfolding escaped_one
returns c = rw (c.from.ensures, c.escapes.ensures) (by ((writing_of c.args.e).escapes c.args.x))
  where
    by : (b : Bool) → 1 + bool_byte b ≡ length (cond b (c.args.e.escape ∷ behind c.args.e c.args.x ∷ []) (c.args.x ∷ []))
    by true = refl
    by false = refl
