-- `lister::Lister::list` meets its contract: a call that is not refused. Assumes nothing.
use Rattle.lister.proofs.Lines.{list-made, taken_part}
use Rattle.lister.proofs.Lister.list.Goals as goal

pub slice_bounds-read-end : goal.slice_bounds-read-end
slice_bounds-read-end c =
    let a = c.args in
    taken_part a.self a.chunk.now a.buffer.now a.out.now _ c.put_lines-progress.ensures.value

pub returns : goal.returns
returns c =
    let a = c.args in
    let p = c.put_lines-progress.ensures in
    let e = list-made a.self a.chunk.now a.buffer.now a.out.now c.if-self-gt-MAX_LEVEL.false c.if-out-lt-MAX_LINE.false c.if-buffer-lt-MAX_SEGMENT.false _ _ _ p.value p.buffer_after p.out_after _ c.source_flag.ensures _ c.add.ensures in
    record {
      value = e.0;
      buffer_after = e.1;
      out_after = e.2;
    }
