-- Laws of a frame and of a line of frames, as written. Assumes nothing.
use Prim.Native.Nat.{ℕ, ◌+◌, ◌*◌, ◌≤◌}
use mathlib.Core.Bool.{Bool, true, false, cond}
use mathlib.Core.List.{List, [], ◌∷◌, ◌++◌, append_assoc}
use mathlib.Core.Path.{◌≡◌, refl, ap, ap₂, ◌∙◌}
use native.Mathlib.Omega.{arith}
use lib.ListN.{length, length-append}
use Rattle.framing.proofs.Escaping.{length-escaped}
use Rattle.framing.specs.Writing.{Writing, escaped_one, escaped, opening, frame, bodies, line, frames}

module _ (writing : Writing) where
  pub length-opening : (at_flag : Bool) → length (opening writing at_flag) ≤ 1
  length-opening true = omega arith
  length-opening false = omega arith

  -- opening flag, body, closing flag
  pub length-frame : (at_flag : Bool) (b : List ℕ) → length (frame writing at_flag b) ≡ length (opening writing at_flag) + length (escaped writing b) + 1
  unfolding frame
  length-frame at_flag b =
      let rest = escaped writing b ++ (writing.flag ∷ []) in
      omega (arith, length-append (opening writing at_flag) rest, length-append (escaped writing b) (writing.flag ∷ []))

  -- how long a frame is at most
  pub frame_bound : (at_flag : Bool) (b : List ℕ) → length (frame writing at_flag b) ≤ 2 * length b + 2
  frame_bound at_flag b =
      let most = length-escaped writing b in
      omega (arith, length-frame at_flag b, length-opening at_flag)

  -- frames at a flag are their bodies
  frames_bodies : (bs : List (List ℕ)) → frames writing true bs ≡ bodies writing bs
  unfolding frames bodies frame
  frames_bodies [] = refl
  frames_bodies (b ∷ bs) =
      append_assoc (escaped writing b) (writing.flag ∷ []) (frames writing true bs)
      ∙ ap (λ (l : List ℕ). escaped writing b ++ (writing.flag ∷ l)) (frames_bodies bs)

  -- the first not at a flag and the rest at one: the line of the list
  pub frames_line : (bs : List (List ℕ)) → frames writing false bs ≡ line writing bs
  unfolding frames line bodies frame
  frames_line [] = refl
  frames_line (b ∷ bs) =
      ap (λ (l : List ℕ). writing.flag ∷ l)
      (append_assoc (escaped writing b) (writing.flag ∷ []) (frames writing true bs)
      ∙ ap (λ (l : List ℕ). escaped writing b ++ (writing.flag ∷ l)) (frames_bodies bs))

-- two ways of writing with the same flag and escape that escape the same octets, and put the same behind the escape for each of these
pub record Alike (v w : Writing) : Type 0 where
  pub flag_is : v.flag ≡ w.flag
  pub escape_is : v.escape ≡ w.escape
  pub escapes_is : (x : ℕ) → v.escapes x ≡ w.escapes x
  pub behind_is : (x : ℕ) → w.escapes x ≡ true → v.behind x ≡ w.behind x

-- write the same
module _ (v w : Writing) (alike : Alike v w) where
  one_alike : (x : ℕ) → escaped_one v x ≡ escaped_one w x
  unfolding escaped_one
  one_alike x = rw (alike.escapes_is x) (by (w.escapes x) refl)
    where
      by : (b : Bool) → w.escapes x ≡ b → cond b (v.escape ∷ v.behind x ∷ []) (x ∷ []) ≡ cond b (w.escape ∷ w.behind x ∷ []) (x ∷ [])
      by true e = ap₂ (λ (y z : ℕ). y ∷ z ∷ []) alike.escape_is (alike.behind_is x e)
      by false e = refl

  pub escaped_alike : (xs : List ℕ) → escaped v xs ≡ escaped w xs
  unfolding escaped
  escaped_alike [] = refl
  escaped_alike (x ∷ xs) = ap₂ (λ (ys zs : List ℕ). ys ++ zs) (one_alike x) (escaped_alike xs)

  opening_alike : (at_flag : Bool) → opening v at_flag ≡ opening w at_flag
  opening_alike true = refl
  opening_alike false = ap (λ (f : ℕ). f ∷ []) alike.flag_is

  pub frame_alike : (at_flag : Bool) (b : List ℕ) → frame v at_flag b ≡ frame w at_flag b
  unfolding frame
  frame_alike at_flag b =
      ap₂ (λ (ys zs : List ℕ). ys ++ zs) (opening_alike at_flag)
      (ap₂ (λ (ys : List ℕ) (f : ℕ). ys ++ (f ∷ [])) (escaped_alike b) alike.flag_is)
