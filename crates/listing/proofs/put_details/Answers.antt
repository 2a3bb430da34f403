-- `listing::put_details` meets its contract: nothing, or four pieces one after another. Assumes nothing.
use Rattle.listing.proofs.Line.{details_placed, no_details, placed_none}
use Rattle.listing.proofs.put_details.Goals as goal

pub returns-in_default : goal.returns-in_default
returns-in_default c = placed_none _ _ _ (no_details c.args.entry c.args.octets.now c.in_default.not-Frame)

pub returns : goal.returns
returns c =
    let s = c in
    let f = c.in-Frame in
    let e₁ = c.put-a.ensures in
    let e₂ = c.put_decimal-b.ensures in
    let e₃ = c.put-c.ensures in
    let e₄ = c.put_hex.ensures in
    details_placed s.args.entry _ f.is s.args.octets.now _ _ _ _ _ _ _ _ _ _ s.requires e₁.value e₁.out_after e₂.value e₂.out_after e₃.value e₃.out_after e₄.value e₄.out_after
