-- `afp_write::Parts::put_header`: the header sum behind the octets before it.
use Rattle.std.proofs.Common.{[], ◌∷◌, refl, arith}
use Rattle.afp_write.proofs.Buffers.{header_put}
use Rattle.afp_write.proofs.Parts.put_header.Goals as goal

pub returns : goal.returns
returns c =
    let a = c.args in
    let y = c.header_sum-sum in
    let q₁ = c.put_before-summed in
    let q₂ = c.put in (
      omega arith,
      header_put a.self.protocol a.next a.self.fields.now a.self.supplementary.now a.out.now (y.result ∷ []) q₁.new.out q₂.new.out q₁.result y.result
          q₁.ensures.0 q₁.ensures.1 y.ensures refl (cc) (omega arith),
    )
