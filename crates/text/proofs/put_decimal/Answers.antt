-- `text::put_decimal` meets its contract: the digits that are spelled are put as they are. Assumes nothing.
use Rattle.std.proofs.Common.{refl}
use Rattle.text.proofs.Putting.{put_digits}
use Rattle.text.proofs.put_decimal.Goals as goal

pub returns : goal.returns
returns c =
    let s = c.spell-from in
    let e = c.put.ensures in
    let both = put_digits _ _ s.result _ _ _ _ _ s.auto.digits s.ensures.1 refl e.value e.out_after in
    record { value = both.0; out_after = both.1 }
