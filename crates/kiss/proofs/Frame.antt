-- Laws of a frame and of a line of frames. Assumes nothing.
use Prim.Native.Nat.{ℕ, ◌≤◌}
use mathlib.Core.Bool.{Bool, false}
use mathlib.Core.List.{List, ◌∷◌, map, Memᴰ}
use mathlib.Core.Path.{◌≡◌, refl, ap}
use native.Mathlib.Omega.{arith}
use lib.ListN.{length, replicate}
use Rattle.framing.proofs.Escaping.{escaped_no_flag, length-escaped}
use Rattle.framing.proofs.Frames.{length-opening, length-frame}
use Rattle.framing.proofs.Frames as framing
use Rattle.framing.specs.Writing.{escaped_one, escaped}
use Rattle.framing.specs.Writing as written
use Rattle.kiss.proofs.Octets.{plain_octet, escaped_octet}
use Rattle.kiss.specs.Frame.{typed, body_of, body, frame, line, frames}
use Rattle.kiss.specs.Limits.{max_frame}
use Rattle.kiss.specs.Octets.{flag, is_escaped, writing, data_type}
use Rattle.qaft.specs.Limits.{max_data}

-- a body holds no C0
pub body_no_flag : (d : List ℕ) → Memᴰ flag (body d) → ⊥
unfolding body body_of
body_no_flag d = escaped_no_flag writing refl (λ x e. (plain_octet x e).0) (λ x e. (escaped_octet x e).0) (typed d)

-- the type octet of a data frame of port 0 stands for itself
escaped_typed : (d : List ℕ) → escaped writing (typed d) ≡ data_type ∷ escaped writing d
unfolding escaped escaped_one is_escaped
escaped_typed d = refl

-- one frame takes at most 5,123 octets
pub frame_fits : (at_flag : Bool) (d : List ℕ) → length d ≤ max_data → length (frame at_flag d) ≤ max_frame
unfolding frame
frame_fits at_flag d h =
    let most = length-escaped writing d in
    omega (arith, length-frame writing at_flag (typed d), ap length (escaped_typed d), length-opening writing at_flag)

-- a payload of which every octet is escaped needs so many
pub frame_fits_tight : length (frame false (replicate max_data flag)) ≡ max_frame
unfolding frame written.frame escaped escaped_one is_escaped
frame_fits_tight = refl

-- the first not at a flag and the rest at one: the line of the list
pub frames_line : (ds : List (List ℕ)) → frames false ds ≡ line ds
unfolding frames line
frames_line ds = framing.frames_line writing (map typed ds)
