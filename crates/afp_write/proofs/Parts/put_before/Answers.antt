-- `afp_write::Parts::put_before`: the header before its sum, in three pieces.
use Rattle.std.proofs.Common.{ℕ, [], ◌∷◌, length, ap, arith}
use Rattle.afp.specs.Limits.{version}
use Rattle.afp_write.specs.Frame.{header_length}
use Rattle.afp_write.proofs.Buffers.{before_put}
use Rattle.afp_write.proofs.Parts.put_before.Goals as goal

pub returns : goal.returns
returns c =
    let a = c.args in
    let s = a.self.fields.now in
    let h = a.self.supplementary.now in
    let o = c.next_offset-place in
    let q₁ = c.put-behind_first in
    let q₂ = c.put-behind_fields in
    let q₃ = c.put in (
      omega arith,
      before_put a.self.protocol a.next s h a.out.now (a.next.sum ∷ version ∷ a.self.protocol ∷ (header_length (length s) (length h)) ∷ o.result ∷ []) q₁.new.out q₂.new.out q₃.new.out q₁.result q₂.result
          (ap (λ (o : ℕ). a.next.sum ∷ version ∷ a.self.protocol ∷ (header_length (length s) (length h)) ∷ o ∷ []) o.ensures)
          q₁.ensures.1 q₁.ensures.0 q₂.ensures.1 q₂.ensures.0 q₃.ensures.1 (omega arith),
    )
