-- `sheet_line::put_share`: five pieces one after another.
use Rattle.sheet_line.proofs.Line.{share_placed}
use Rattle.sheet_line.proofs.put_share.Goals as goal

pub returns : goal.returns
returns c =
    let e₁ = c.put-a.ensures in
    let e₂ = c.put_decimal-b.ensures in
    let e₃ = c.put-c.ensures in
    let e₄ = c.put_decimal-d.ensures in
    let e₅ = c.put.ensures in
    share_placed c.args.share _ _ _ _ _ _ _ _ _ _ _ _ c.requires e₁.value e₁.out_after e₂.value e₂.out_after e₃.value e₃.out_after e₄.value e₄.out_after e₅.value e₅.out_after
