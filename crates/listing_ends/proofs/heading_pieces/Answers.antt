-- `listing_ends::heading_pieces` meets its contract: one text for KISS, three pieces one after another for QAFT. Assumes nothing.
use Rattle.listing_ends.proofs.Ends.{kiss_placed, qaft_placed}
use Rattle.listing_ends.proofs.heading_pieces.Goals as goal

-- NO GOAL TODAY for slice-aggregate-put:
-- slice-aggregate-put c = search rules
--

pub returns-then-kiss : goal.returns-then-kiss
returns-then-kiss c =
    let s = c in
    let e = c.put.ensures in
    kiss_placed _ c.if-kiss.true s.args.level _ _ _ _ s.requires e.value e.out_after

-- NO GOAL TODAY for slice-aggregate-put-2:
-- slice-aggregate-put-2 c = search rules
--

-- NO GOAL TODAY for slice-aggregate-put-3:
-- slice-aggregate-put-3 c = search rules
--

pub returns : goal.returns
returns c =
    let s = c in
    let e₁ = c.put-a.ensures in
    let e₂ = c.put_decimal-b.ensures in
    let e₃ = c.put-2.ensures in
    qaft_placed _ c.if-kiss.false s.args.level _ _ _ _ _ _ _ _ s.requires e₁.value e₁.out_after e₂.value e₂.out_after e₃.value e₃.out_after
