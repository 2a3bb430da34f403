-- `sheet_line::put_line`: no room, and the line.
use Rattle.std.proofs.Common.{sym, ◌∙◌}
use borrow.Author.Tests.{leb-true, leb-false}
use Rattle.text.proofs.Room.{text_none, text_placed}
use Rattle.sheet_line.proofs.put_line.Goals as goal

pub returns-then-has_room-clause-value : goal.returns-then-has_room-clause-value
returns-then-has_room-clause-value c = (text_placed _ _ _ _ (leb-true _ _ (sym c.has_room.ensures ∙ c.if-has_room.true)) _ _ c.line_pieces.ensures).0

pub returns-then-has_room-clause-out_after : goal.returns-then-has_room-clause-out_after
returns-then-has_room-clause-out_after c = (text_placed _ _ _ _ (leb-true _ _ (sym c.has_room.ensures ∙ c.if-has_room.true)) _ _ c.line_pieces.ensures).1

pub returns-clause-value : goal.returns-clause-value
returns-clause-value c = sym (text_none _ _ _ _ (leb-false _ _ (sym c.has_room.ensures ∙ c.if-has_room.false))).0

pub returns-clause-out_after : goal.returns-clause-out_after
returns-clause-out_after c = sym (text_none _ _ _ _ (leb-false _ _ (sym c.has_room.ensures ∙ c.if-has_room.false))).1
