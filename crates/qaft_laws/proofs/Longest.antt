-- "At most 5,124 octets", with the longer check "at most 5,126" (`frame_fits` of qaft), are needed: frames of which every octet of data and check is escaped,
-- by computation. Assumes nothing.
use mathlib.Core.Bool.{false}
use mathlib.Core.List.{List, [], ◌∷◌, ◌++◌}
use mathlib.Core.Path.{◌≡◌, refl}
use Prim.Native.Nat.{ℕ}
use lib.ListN.{length, replicate}
use Rattle.fcs.specs.Fcs.{feed_bit, feed_bits, feed, feed_all, check_sequence}
use Rattle.framing.specs.Writing.{escaped_one, escaped}
use Rattle.framing.specs.Writing as written
use Rattle.octets.specs.Sum.{sum}
use Rattle.qaft.specs.Check.{check_octet}
use Rattle.qaft.specs.Escape.{flag, escape_octet, is_escaped}
use Rattle.qaft.specs.Frame.{frame}
use Rattle.qaft.specs.Limits.{sum_kind, fcs_kind, max_data, max_frame_of}

-- the check octet is 7E
abbrev widest : List ℕ
widest = replicate 130 flag ++ replicate 2430 escape_octet

pub frame_fits_tight : (length widest ≡ max_data) × (length (frame 0 sum_kind false widest) ≡ max_frame_of sum_kind)
unfolding frame written.frame escaped escaped_one is_escaped check_octet sum
frame_fits_tight = (refl, refl)

-- the check sequence is 7D 7D
abbrev widest_fcs : List ℕ
widest_fcs = replicate 2547 flag ++ (0x7D ∷ 0x7D ∷ 0x7D ∷ 0x7E ∷ 0x7D ∷ 0x7E ∷ 0x7D ∷ 0x7E ∷ 0x7D ∷ 0x7E ∷ 0x7E ∷ 0x7E ∷ 0x7D ∷ [])

pub frame_fits_tight_fcs : (length widest_fcs ≡ max_data) × (length (frame 0 fcs_kind false widest_fcs) ≡ max_frame_of fcs_kind)
unfolding frame written.frame escaped escaped_one is_escaped check_sequence feed_all feed feed_bits feed_bit
frame_fits_tight_fcs = (refl, refl)
