-- `listing::put_report` meets its contract: no room, and the line. Assumes nothing.
use Rattle.std.proofs.Common.{sym, arith, length}
use Rattle.listing.specs.Line.{line_room, report_line}
use Rattle.text.proofs.Room.{text_none, text_placed}
use Rattle.listing.proofs.put_report.Goals as goal

pub returns-then-out-at : goal.returns-then-out-at
returns-then-out-at c =
    let s = c.args in
    let e = text_none (line_room (length s.octets.now)) (report_line s.number s.entry s.octets.now) s.out.now s.at (omega (arith, c.if-out-at.true)) in
    record {
      value = sym e.0;
      out_after = sym e.1;
    }

pub returns-then-room-lt-LINE_ROOM : goal.returns-then-room-lt-LINE_ROOM
returns-then-room-lt-LINE_ROOM c =
    let s = c.args in
    let e = text_none (line_room (length s.octets.now)) (report_line s.number s.entry s.octets.now) s.out.now s.at (omega (arith, c.if-room-lt-LINE_ROOM.true, c.if-out-at.false)) in
    record {
      value = sym e.0;
      out_after = sym e.1;
    }

pub returns-then-room-octets : goal.returns-then-room-octets
returns-then-room-octets c =
    let s = c.args in
    let e = text_none (line_room (length s.octets.now)) (report_line s.number s.entry s.octets.now) s.out.now s.at (omega (arith, c.if-room-octets.true, c.if-room-lt-LINE_ROOM.false, c.if-out-at.false)) in
    record {
      value = sym e.0;
      out_after = sym e.1;
    }

pub report_pieces-requires : goal.report_pieces-requires
report_pieces-requires c = omega (arith, c.if-room-octets.false, c.if-room-lt-LINE_ROOM.false, c.if-out-at.false)

pub returns : goal.returns
returns c =
    let k = c in
    let both = text_placed _ _ _ _ (omega (arith, k.if-room-octets.false, k.if-room-lt-LINE_ROOM.false, k.if-out-at.false)) _ _ c.report_pieces.ensures in
    record { value = both.0; out_after = both.1 }
