-- `put`: a test for room, and the loop. Assumes nothing.
use Rattle.std.proofs.Common.{sym, ap, ◌∙◌, leb-false, leb-true}
use Rattle.octets.proofs.Putting.{end_fits, part_fits, into_none, end_none}
use borrow.Rule.Slice.PartMut.{put_mid}
use Rattle.octets.proofs.put.Goals as goal

pub returns-then-not-has_room : goal.returns-then-not-has_room
returns-then-not-has_room c =
    let h = leb-false _ _ (sym c.has_room.ensures ∙ c.if-not-has_room.true) in
    record {
      value = sym (end_none _ _ _ h);
      out_after = sym (into_none _ _ _ h);
    }

pub returns : goal.returns
returns c =
    let h = leb-true _ _ (sym c.has_room.ensures ∙ c.if-not-has_room.false) in
    record {
      value = sym (end_fits _ _ _ h);
      out_after = ap (put_mid _ _ _) c.copy_summed.ensures.out_after ∙ part_fits _ _ _ h;
    }
