-- This link as an instance of the sliding window, over its edition and the limit of places. Cited by the proofs; demand 3 itself does not speak of it. Assumes nothing.
use Rattle.std.specs.Prelude.{ℕ, true}
use Rattle.dlc.specs.Limits.{Edition, dack_number, distance}
use Rattle.window.specs.Ends.{Rules}

-- the places, the numbers of its DACKs by the edition, and that "an accepted payload is now sent at once" (2026-03)
abbrev pub rules : Edition → ℕ → Rules
rules edition limit = record { window = limit; at_once = true; dack_number = dack_number edition; distance = distance edition }
