-- What an arrival delivers of its packet. Cited by the answer's function and by whoever follows a link. Assumes nothing.
use Rattle.std.specs.Prelude.{ℕ, Bool, cond, List, [], drop}

-- the payload that an arrival delivers, as a part of the lent packet: all behind the control octet, or nothing
abbrev pub delivered_part : Bool → List ℕ → List ℕ
delivered_part delivered packet = cond delivered (drop 1 packet) []
