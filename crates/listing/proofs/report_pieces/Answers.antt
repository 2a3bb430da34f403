-- `listing::report_pieces` meets its contract: four pieces one after another, with room for what stands behind the name. Assumes nothing.
use Rattle.std.proofs.Common.{arith}
use Rattle.listing.proofs.Line.{details_room, line_placed}
use Rattle.listing.proofs.report_pieces.Goals as goal

pub put_details-c-requires : goal.put_details-c-requires
put_details-c-requires c =
    let s = c in
    let e₁ = c.put_decimal-a.ensures in
    let e₂ = c.put_name-b.ensures in
    omega (arith, details_room s.args.number s.args.entry s.args.octets.now _ _ _ _ _ _ s.requires e₁.value e₁.out_after e₂.value e₂.out_after)

-- NO GOAL TODAY for slice-aggregate-put:
-- slice-aggregate-put c = search rules
--

pub returns : goal.returns
returns c =
    let s = c in
    let e₁ = c.put_decimal-a.ensures in
    let e₂ = c.put_name-b.ensures in
    let e₄ = c.put.ensures in
    line_placed s.args.number s.args.entry s.args.octets.now _ _ _ _ _ _ s.requires e₁.value e₁.out_after e₂.value e₂.out_after _ _ _ _ c.put_details-c.ensures e₄.value e₄.out_after
