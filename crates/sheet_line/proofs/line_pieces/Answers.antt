-- `sheet_line::line_pieces`: the number, the counts and the share one after another, with room for each.
use Rattle.std.proofs.Common.{◌≡◌, length, rules}
use Rattle.sheet.specs.Limits.{counts_long}
use Rattle.sheet_line.proofs.Line.{counts_room_lem, share_room_lem, line_placed}
use Rattle.sheet_line.proofs.line_pieces.Goals as goal

pub put_counts-b-requires : goal.put_counts-b-requires
put_counts-b-requires c =
    let long : length c.args.tally.counts ≡ counts_long = search rules in
    counts_room_lem _ c.args.tally.counts _ _ _ _ long c.requires c.put_decimal-a.ensures.value c.put_decimal-a.ensures.out_after

pub put_share-requires : goal.put_share-requires
put_share-requires c =
    let long : length c.args.tally.counts ≡ counts_long = search rules in
    share_room_lem _ c.args.tally.counts _ _ _ _ long c.requires c.put_decimal-a.ensures.value c.put_decimal-a.ensures.out_after _ _ c.put_counts-b.ensures

pub returns : goal.returns
returns c =
    let long : length c.args.tally.counts ≡ counts_long = search rules in
    line_placed _ c.args.tally.counts _ _ _ _ long c.requires c.put_decimal-a.ensures.value c.put_decimal-a.ensures.out_after _ _ c.put_counts-b.ensures _ _ _
    c.share.ensures c.put_share.ensures
