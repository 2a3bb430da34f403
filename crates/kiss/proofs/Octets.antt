-- Laws of the octets that are escaped, and of the four that writer and reader go by. Assumes nothing.
use Prim.Native.Nat.{ℕ, ◌/◌, ◌%◌}
use mathlib.Core.Bool.{Bool, true, false, cond, ◌&&◌, ◌||◌}
use mathlib.Core.List.{List}
use mathlib.Core.Logic.{⊎_elim}
use mathlib.Core.Path.{◌≡◌, refl, sym, subst}
use native.Mathlib.Omega.{arith}
use borrow.Author.Tests.{eqb-true, eqb-false, not-false}
use lib.Dec.{eqb}
use Rattle.common.proofs.Bools.{or_true, or_false_left, or_false_right}
use Rattle.escapes.specs.Escapes as escapes
use Rattle.escapes.specs.Escapes.{writing_of}
use Rattle.framing.proofs.Frames.{Alike, frame_alike}
use Rattle.framing.specs.Writing.{frame}
use Rattle.kiss.specs.Octets.{flag, escape_octet, escaped_flag, escaped_escape, is_escaped, behind, stands_for, is_bad_escape, writing, port_of, command_of, is_data}
use Rattle.kiss.specs.Octets as kiss

-- what holds of the flag and of the escape holds of every escaped octet
pub is_escaped-ind : (P : ℕ → Type 0) (x : ℕ) → is_escaped x ≡ true → P flag → P escape_octet → P x
unfolding is_escaped
is_escaped-ind P x e a b =
    ⊎_elim (λ q. subst P (sym (eqb-true x flag q)) a) (λ q. subst P (sym (eqb-true x escape_octet q)) b) (or_true (eqb x flag) (eqb x escape_octet) e)

-- an octet that is not escaped is no flag and no escape
pub plain_octet : (x : ℕ) → is_escaped x ≡ false → (eqb x flag ≡ false) × (eqb x escape_octet ≡ false)
unfolding is_escaped
plain_octet x e = (or_false_left (eqb x flag) (eqb x escape_octet) e, or_false_right (eqb x flag) (eqb x escape_octet) e)

-- behind its escape an escaped octet is no flag, stands for itself, and is no bad escape
pub escaped_octet : (x : ℕ) → is_escaped x ≡ true → (eqb (behind x) flag ≡ false) × (stands_for (behind x) ≡ x) × (is_bad_escape (behind x) ≡ false)
unfolding behind stands_for is_bad_escape
escaped_octet x e =
    is_escaped-ind (λ (y : ℕ). (eqb (behind y) flag ≡ false) × (stands_for (behind y) ≡ y) × (is_bad_escape (behind y) ≡ false)) x e
    (refl, refl, refl) (refl, refl, refl)

-- what stands behind an escape that is not bad stands for an escaped octet, behind which it stands
pub good_escape : (y : ℕ) → is_bad_escape y ≡ false → (is_escaped (stands_for y) ≡ true) × (behind (stands_for y) ≡ y)
unfolding is_bad_escape is_escaped stands_for behind
good_escape y e =
    ⊎_elim (λ q. rw (eqb-true y escaped_flag q) (refl, refl)) (λ q. rw (eqb-true y escaped_escape q) (refl, refl))
    (or_true (eqb y escaped_flag) (eqb y escaped_escape) (not-false _ e))

-- the two octets twice are the two
twice : (a b : Bool) → (a || (b || (a || b))) ≡ (a || b)
twice true b = refl
twice false true = refl
twice false false = refl

escapes_alike : Alike (writing_of kiss.escapes) writing
unfolding kiss.escapes escapes.is_escaped is_escaped escapes.behind behind
escapes_alike = record {
  flag_is = refl;
  escape_is = refl;
  escapes_is = λ x. twice (eqb x flag) (eqb x escape_octet);
  behind_is = λ x e. by (eqb x flag) (eqb x escape_octet);
}
  where
    by : (a b : Bool) → cond a escaped_flag (cond b escaped_escape (cond a escaped_flag escaped_escape)) ≡ cond a escaped_flag escaped_escape
    by true b = refl
    by false true = refl
    by false false = refl

pub frame_escapes : (at_flag : Bool) (b : List ℕ) → frame (writing_of kiss.escapes) at_flag b ≡ frame writing at_flag b
frame_escapes at_flag b = frame_alike _ _ escapes_alike at_flag b

-- ---- the type octet
-- port 0 and command 0 are the octet 0
pub data_zero : (t : ℕ) → is_data t ≡ eqb t 0
unfolding is_data port_of command_of
data_zero t = by (eqb (t / 16) 0) refl (eqb (t % 16) 0) refl (eqb t 0) refl
  where
    by : (a : Bool) → eqb (t / 16) 0 ≡ a → (b : Bool) → eqb (t % 16) 0 ≡ b → (c : Bool) → eqb t 0 ≡ c → (a && b) ≡ c
    by true p true q true r = refl
    by true p true q false r = absurd (eqb-false t 0 r (omega (arith, eqb-true (t / 16) 0 p, eqb-true (t % 16) 0 q)))
    by true p false q true r = absurd (eqb-false (t % 16) 0 q (omega (arith, eqb-true t 0 r)))
    by true p false q false r = refl
    by false p b q true r = absurd (eqb-false (t / 16) 0 p (omega (arith, eqb-true t 0 r)))
    by false p b q false r = refl
