-- Laws of the octets that a level escapes, and of the four that its writer and reader go by. Assumes nothing.
use Rattle.std.proofs.Common.{◌≡◌, ℕ, Bool, true, false, ◌&&◌, ◌||◌, eqb, List, sym, refl, ap, ◌∙◌, subst, ⊎_elim, eqb-true}
use borrow.Author.Tests.{eqb-false}
use Rattle.common.proofs.Bools.{or_true, or_false_left, or_false_right, and_true_right}
use Rattle.common.proofs.Xor.{xor_cancel}
use Rattle.escapes.specs.Escapes as escapes
use Rattle.escapes.specs.Escapes.{writing_of}
use Rattle.framing.proofs.Frames.{Alike, frame_alike}
use Rattle.framing.specs.Writing.{frame}
use Rattle.qaft.specs.Escape.{flag, escape_octet, xon, xoff, mask, masked, is_flow_control, is_escaped, writing, escapes_of}

-- what holds of the four octets that some level escapes holds of every escaped octet
pub is_escaped-ind : (P : ℕ → Type 0) (level x : ℕ) → is_escaped level x ≡ true → P flag → P escape_octet → P xon → P xoff → P x
unfolding is_escaped is_flow_control
is_escaped-ind P level x e a b c d =
    ⊎_elim (λ q. subst P (sym (eqb-true x flag q)) a)
    (λ q. ⊎_elim (λ q. subst P (sym (eqb-true x escape_octet q)) b)
    (λ q. ⊎_elim (λ q. subst P (sym (eqb-true x xon q)) c) (λ q. subst P (sym (eqb-true x xoff q)) d)
    (or_true (eqb x xon) (eqb x xoff) (and_true_right (eqb level 1) (eqb x xon || eqb x xoff) q)))
    (or_true (eqb x escape_octet) (is_flow_control level x) q))
    (or_true (eqb x flag) (eqb x escape_octet || is_flow_control level x) e)

-- an octet that is not escaped is no flag, no escape and no flow control
pub plain_octet : (level x : ℕ) → is_escaped level x ≡ false → (eqb x flag ≡ false) × (eqb x escape_octet ≡ false) × (is_flow_control level x ≡ false)
unfolding is_escaped
plain_octet level x e =
    let rest = or_false_right (eqb x flag) (eqb x escape_octet || is_flow_control level x) e in (
      or_false_left (eqb x flag) (eqb x escape_octet || is_flow_control level x) e,
      or_false_left (eqb x escape_octet) (is_flow_control level x) rest,
      or_false_right (eqb x escape_octet) (is_flow_control level x) rest,
    )

-- what is neither 11 nor 13 is flow control at no level
neither : (at : Bool) → (at && false) ≡ false
neither true = refl
neither false = refl

-- flow control is no flag
pub flow_control_no_flag : (level x : ℕ) → is_flow_control level x ≡ true → eqb x flag ≡ false
unfolding is_flow_control
flow_control_no_flag level x e =
    ⊎_elim (λ q. rw (eqb-true x xon q)) (λ q. rw (eqb-true x xoff q))
    (or_true (eqb x xon) (eqb x xoff) (and_true_right (eqb level 1) (eqb x xon || eqb x xoff) e))

-- neither the flag nor the escape is flow control
pub flag_no_flow_control : (level : ℕ) → is_flow_control level flag ≡ false
unfolding is_flow_control
flag_no_flow_control level = neither (eqb level 1)

pub escape_no_flow_control : (level : ℕ) → is_flow_control level escape_octet ≡ false
unfolding is_flow_control
escape_no_flow_control level = neither (eqb level 1)

-- behind its escape an escaped octet is no flag and no flow control
pub escaped_octet : (level x : ℕ) → is_escaped level x ≡ true → (eqb (masked x) flag ≡ false) × (is_flow_control level (masked x) ≡ false)
unfolding is_flow_control
escaped_octet level x e =
    let none = neither (eqb level 1) in
    is_escaped-ind (λ (y : ℕ). (eqb (masked y) flag ≡ false) × (is_flow_control level (masked y) ≡ false)) level x e
    (refl, none) (refl, none) (refl, none) (refl, none)

-- masked twice an octet is itself
pub masked_twice : (x : ℕ) → masked (masked x) ≡ x
masked_twice x = xor_cancel x mask

-- y is x masked, exactly where y masked is x
eqb_masked : (x y : ℕ) → eqb y (masked x) ≡ eqb (masked y) x
eqb_masked x y = by (eqb y (masked x)) refl (eqb (masked y) x) refl
  where
    by : (a : Bool) → eqb y (masked x) ≡ a → (b : Bool) → eqb (masked y) x ≡ b → a ≡ b
    by true p true q = refl
    by true p false q = absurd (eqb-false (masked y) x q (ap masked (eqb-true y (masked x) p) ∙ masked_twice x))
    by false p true q = absurd (eqb-false y (masked x) p (sym (masked_twice y) ∙ ap masked (eqb-true (masked y) x q)))
    by false p false q = refl

-- ---- the four octets by which a level's writer and reader go
module _ (level : ℕ) where
  -- behind the escape stands each of them masked
  behind_masked : (x : ℕ) → is_escaped level x ≡ true → escapes.behind (escapes_of level) x ≡ masked x
  unfolding escapes.behind escapes_of
  behind_masked x e = is_escaped-ind (λ (y : ℕ). escapes.behind (escapes_of level) y ≡ masked y) level x e refl refl refl refl

  escapes_of-alike : Alike (writing_of (escapes_of level)) (writing level)
  unfolding escapes_of escapes.is_escaped is_escaped is_flow_control
  escapes_of-alike = record { flag_is = refl; escape_is = refl; escapes_is = λ x. refl; behind_is = behind_masked }

  -- y behind the escape stands for one of them, exactly where the level escapes y masked
  pub partner_escaped : (y : ℕ) → escapes.is_partner (escapes_of level) y ≡ is_escaped level (masked y)
  unfolding escapes.is_partner escapes_of is_escaped is_flow_control
  partner_escaped y = rw (eqb_masked flag y, eqb_masked escape_octet y, eqb_masked xon y, eqb_masked xoff y)

  pub frame-escapes_of : (at_flag : Bool) (b : List ℕ) → frame (writing_of (escapes_of level)) at_flag b ≡ frame (writing level) at_flag b
  frame-escapes_of at_flag b = frame_alike _ _ escapes_of-alike at_flag b
