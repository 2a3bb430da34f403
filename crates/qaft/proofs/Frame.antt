-- Laws of a frame and of a line of frames. Assumes nothing.
use Rattle.std.proofs.Common.{◌≡◌, ℕ, ◌+◌, ◌≤◌, Bool, false, List, map, length, refl, ap, ◌∙◌, arith, length-append}
use mathlib.Core.List.{Memᴰ}
use Rattle.framing.proofs.Escaping.{escaped_no_flag}
use Rattle.framing.proofs.Frames as framing
use Rattle.qaft.proofs.Check.{sound}
use Rattle.qaft.proofs.Escape.{plain_octet, escaped_octet}
use Rattle.qaft.specs.Check.{check_by}
use Rattle.qaft.specs.Escape.{flag, writing}
use Rattle.qaft.specs.Frame.{sealed, body, frame, line, frames}
use Rattle.qaft.specs.Limits.{max_data, check_size, max_frame_of}

-- "written bodies hold no 7E"
pub body_no_flag : (level kind : ℕ) (d : List ℕ) → Memᴰ flag (body level kind d) → ⊥
unfolding body
body_no_flag level kind d = escaped_no_flag (writing level) refl (λ x e. (plain_octet level x e).0) (λ x e. (escaped_octet level x e).0) (sealed kind d)

-- data and check
pub length-sealed : (kind : ℕ) (d : List ℕ) → length (sealed kind d) ≡ length d + check_size kind
length-sealed kind d = length-append d ((check_by kind).octets d) ∙ ap (λ (n : ℕ). length d + n) ((sound kind).as_many d)

-- "one frame takes at most 5,124 octets", with the longer check "at most 5,126"
pub frame_fits : (level kind : ℕ) (at_flag : Bool) (d : List ℕ) → length d ≤ max_data → length (frame level kind at_flag d) ≤ max_frame_of kind
unfolding frame
frame_fits level kind at_flag d h = omega (arith, framing.frame_bound (writing level) at_flag (sealed kind d), length-sealed kind d)

-- the first not at a flag and the rest at one: the line of the list
pub frames_line : (level kind : ℕ) (ds : List (List ℕ)) → frames level kind false ds ≡ line level kind ds
unfolding frames line
frames_line level kind ds = framing.frames_line (writing level) (map (sealed kind) ds)
