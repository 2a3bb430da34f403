-- `afp_write::Parts::put_frame`: data and check octets behind the header.
use Rattle.std.proofs.Common.{sym, ◌∙◌, arith}
use Rattle.afp_write.specs.Frame.{header_of}
use Rattle.afp_write.proofs.Buffers.{frame_put, length-header}
use Rattle.afp_write.proofs.Parts.put_frame.Goals as goal

pub returns : goal.returns
returns c =
    let a = c.args in
    let s = a.self.fields.now in
    let h = a.self.supplementary.now in
    let l = length-header a.self.protocol a.next s h in
    let q₁ = c.put_header-header in
    let q₂ = c.put-checked in
    let q₃ = c.put_check in (
      omega arith,
      frame_put (header_of a.self.protocol a.next s h) a.self.payload.now a.out.now q₁.new.out q₂.new.out q₃.new.out q₁.result q₂.result
          (q₁.ensures.0 ∙ sym l) q₁.ensures.1 q₂.ensures.1 q₂.ensures.0 q₃.ensures.1 (omega arith),
    )
