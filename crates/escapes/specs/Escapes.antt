-- Which octets of a flagged line are escaped, and what stands for each behind the escape. Cited by the contracts of writers and readers. Assumes
-- nothing.
--
--   is_escaped e x   whether the octet x is escaped: the flag, the escape, and two others where `others` says so
--   behind e x      what stands behind the escape for it
--   is_partner e y   whether y, behind the escape, stands for one of them
--   stands_for e y   for which
--   writing_of e     the same, as what is written goes by it
use Rattle.std.specs.Prelude.{ℕ, Bool, cond, ◌&&◌, ◌||◌, eqb}
use Rattle.framing.specs.Writing.{Writing}
use Rattle.escapes.specs.declared.Escapes.{Escapes}

unfoldable pub is_escaped : Escapes → (x : ℕ) → Bool
is_escaped e x = eqb x e.flag || (eqb x e.escape || (e.others && (eqb x e.third || eqb x e.fourth)))

unfoldable pub behind : Escapes → (x : ℕ) → ℕ
behind e x =
    cond (eqb x e.flag) e.behind_flag
    (cond (eqb x e.escape) e.behind_escape
    (cond (eqb x e.third) e.behind_third
    e.behind_fourth))

unfoldable pub is_partner : Escapes → (y : ℕ) → Bool
is_partner e y = eqb y e.behind_flag || (eqb y e.behind_escape || (e.others && (eqb y e.behind_third || eqb y e.behind_fourth)))

unfoldable pub stands_for : Escapes → (y : ℕ) → ℕ
stands_for e y =
    cond (eqb y e.behind_flag) e.flag
    (cond (eqb y e.behind_escape) e.escape
    (cond (eqb y e.behind_third) e.third
    e.fourth))

abbrev pub writing_of : Escapes → Writing
writing_of e = record { flag = e.flag; escape = e.escape; escapes = is_escaped e; behind = behind e }
