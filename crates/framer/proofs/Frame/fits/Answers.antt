-- The early answer by the bound on a frame's length, the other by its pieces.
use Rattle.std.proofs.Common.{◌≡◌, Bool, true, false, not, cond, refl, ℕ, ◌+◌, ◌-◌, ◌*◌, ◌≤◌, length, sym, ap, ◌∙◌, arith, le-leb, leb-true}
use mir.Val.{bool_byte}
use Rattle.escapes.specs.Escapes.{writing_of}
use Rattle.framer.proofs.Pieces.{length-opening, length_pieces, pieces_bound}
use Rattle.framer.proofs.Counting.{pieces_room}
use Rattle.framer.specs.Write.{framed_by}
use Rattle.framer.proofs.Frame.fits.Goals as goal

one_unless : (b : Bool) → bool_byte (not b) ≡ cond b 0 1
one_unless true = refl
one_unless false = refl

pub returns-then-longest_fits : goal.returns-then-longest_fits
returns-then-longest_fits c =
    let f = c.args.self in
    let most = pieces_bound (writing_of c.args.e) f.at_flag f.head.now f.octets.now f.tail.now in
    let room : 2 * (length f.head.now + (length f.octets.now + length f.tail.now)) + 2 ≤ c.args.room = leb-true _ _ (sym c.longest_fits.ensures ∙ c.if-longest_fits.true) in
    let h : length (framed_by c.args.e f) ≤ c.args.room = omega arith in
    sym (le-leb _ _ h)

pub returns : goal.returns
returns c =
    let f = c.args.self in
    let w = writing_of c.args.e in
    let one = c.from.ensures ∙ one_unless f.at_flag ∙ sym (length-opening w f.at_flag) in
    let inside = c.saturating_sub-inside.ensures ∙ ap (λ (n : ℕ). c.args.room - n) one in
    pieces_room _ _ _ _ _ _ _ _ _ _ (length_pieces w f.at_flag f.head.now f.octets.now f.tail.now)
    inside c.left-behind_head.ensures c.left-behind_octets.ensures c.left-behind_tail.ensures
