-- `listing_ends::end_pieces` meets its contract: seven pieces one after another. Assumes nothing.
use Rattle.listing_ends.proofs.Ends.{end_placed}
use Rattle.listing_ends.proofs.end_pieces.Goals as goal

-- NO GOAL TODAY for slice-aggregate-put:
-- slice-aggregate-put c = search rules
--

-- NO GOAL TODAY for slice-aggregate-put-2:
-- slice-aggregate-put-2 c = search rules
--

-- NO GOAL TODAY for slice-aggregate-put-3:
-- slice-aggregate-put-3 c = search rules
--

-- NO GOAL TODAY for slice-aggregate-put-4:
-- slice-aggregate-put-4 c = search rules
--

pub returns : goal.returns
returns c =
    let s = c in
    let e₁ = c.put-a.ensures in
    let e₂ = c.put_decimal-b.ensures in
    let e₃ = c.put-c.ensures in
    let e₄ = c.put_decimal-d.ensures in
    let e₅ = c.put-e.ensures in
    let e₆ = c.put_decimal-f.ensures in
    let e₇ = c.put.ensures in
    end_placed s.args.reports s.args.«before» s.args.after _ _ _ _ _ _ _ _ _ _ _ _ _ _ _ _ s.requires
    e₁.value e₁.out_after e₂.value e₂.out_after e₃.value e₃.out_after e₄.value e₄.out_after e₅.value e₅.out_after e₆.value e₆.out_after e₇.value e₇.out_after
