-- `listing_ends::put_heading` meets its contract: no room, and the line. Assumes nothing.
use Rattle.std.proofs.Common.{sym, ◌∙◌, leb-true, leb-false}
use Rattle.text.proofs.Room.{text_none, text_placed}
use Rattle.listing_ends.proofs.put_heading.Goals as goal

pub heading_pieces-requires : goal.heading_pieces-requires
heading_pieces-requires c = leb-true _ _ (sym c.has_room.ensures ∙ c.if-has_room.true)

pub returns-then-has_room : goal.returns-then-has_room
returns-then-has_room c =
    let both = text_placed _ _ _ _ (leb-true _ _ (sym c.has_room.ensures ∙ c.if-has_room.true)) _ _ c.heading_pieces.ensures in
    record { value = both.0; out_after = both.1 }

pub returns : goal.returns
returns c =
    let e = text_none _ _ _ _ (leb-false _ _ (sym c.has_room.ensures ∙ c.if-has_room.false)) in
    record {
      value = sym e.0;
      out_after = sym e.1;
    }
