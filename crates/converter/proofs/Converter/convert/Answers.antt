-- `converter::Converter::convert` meets its contract: an out buffer that is too small, and a call that is not refused. Assumes nothing.
use Rattle.std.proofs.Common.{ℕ, sym, ap, ◌∙◌}
use Rattle.converter.proofs.Refusals.{convert-too_small, convert_gathered}
use Rattle.converter.specs.Convert.{Call, refusal}
use Rattle.converter.proofs.Converter.convert.Goals as goal

pub returns-then-out-lt-MAX_FRAME : goal.returns-then-out-lt-MAX_FRAME
unfolding refusal
returns-then-out-lt-MAX_FRAME c =
    let a = c.args in
    let e = convert-too_small a.self a.chunk.now a.buffer.now a.out.now c.if-self-gt-MAX_LEVEL.false c.if-out-lt-MAX_FRAME.true in
    record {
      value = ap (λ (n : ℕ). record { number = n; taken = 0; length = 0; converter = a.self }) c.too_small.ensures ∙ sym (ap (λ (k : Call). k.answer) e);
      buffer_after = sym (ap (λ (k : Call). k.buffer) e);
      out_after = sym (ap (λ (k : Call). k.out) e);
    }

pub returns : goal.returns
returns c =
    let a = c.args in
    let e = convert_gathered a.self a.chunk.now a.buffer.now a.out.now c.if-self-gt-MAX_LEVEL.false c.if-out-lt-MAX_FRAME.false c.if-buffer-lt-MAX_SEGMENT.false in
    let p = c.put_frames.ensures in
    record {
      value = p.value ∙ sym (ap (λ (k : Call). k.answer) e);
      buffer_after = p.buffer_after ∙ sym (ap (λ (k : Call). k.buffer) e);
      out_after = p.out_after ∙ sym (ap (λ (k : Call). k.out) e);
    }
