-- `lister::Lister::put` meets its contract: the octets that are shown, and their line. Assumes nothing.
use Rattle.std.proofs.Common.{refl, arith}
use Rattle.lister.proofs.Lines.{from_small, put_line}
use Rattle.lister.proofs.Lister.put.Goals as goal

pub overflow_add-end : goal.overflow_add-end
overflow_add-end c =
    let s = c in
    omega (arith, s.requires.0, c.length.ensures, c.data_from-from.ensures, from_small s.args.self.kiss)

pub slice_bounds-put_report-end : goal.slice_bounds-put_report-end
slice_bounds-put_report-end c =
    let s = c in
    omega (arith, s.requires.0, s.requires.1, c.length.ensures, c.data_from-from.ensures, from_small s.args.self.kiss)

pub returns : goal.returns
returns c =
    let s = c in
    let a = s.args in
    let p = c.put_report.ensures in
    let both = put_line a.self.kiss a.reports a.entry a.buffer.now a.out.now a.at s.requires.0 s.requires.1 s.requires.2 _ _ c.data_from-from.ensures c.length.ensures _ refl _ _ p.value p.out_after in
    record { value = both.0; out_after = both.1 }
