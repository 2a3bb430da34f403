-- `text::put_hex` meets its contract: no room, and the digits. Assumes nothing.
use Rattle.std.proofs.Common.{sym, ◌∙◌, arith}
use Rattle.octets.proofs.Putting.{into_fits, end_fits, into_none, end_none}
use Rattle.text.proofs.Text.{length-hex}
use Rattle.text.proofs.put_hex.Goals as goal

pub returns-then-out-at : goal.returns-then-out-at
returns-then-out-at c =
    let few = length-hex c.args.octets.now in
    record {
      value = sym (end_none _ _ _ (omega (arith, few, c.if-out-at.true)));
      out_after = sym (into_none _ _ _ (omega (arith, few, c.if-out-at.true)));
    }

pub returns-then-out-at-2 : goal.returns-then-out-at-2
returns-then-out-at-2 c =
    let few = length-hex c.args.octets.now in
    record {
      value = sym (end_none _ _ _ (omega (arith, few, c.if-out-at-2.true, c.if-out-at.false)));
      out_after = sym (into_none _ _ _ (omega (arith, few, c.if-out-at-2.true, c.if-out-at.false)));
    }

pub returns : goal.returns
returns c =
    let few = length-hex c.args.octets.now in
    let e = c.spell_hex.ensures in
    let room = c.if-out-at-2.false in
    let within = c.if-out-at.false in
    record {
      value = e.value ∙ sym (end_fits _ _ _ (omega (arith, few, room, within)));
      out_after = e.out_after ∙ sym (into_fits _ _ _ (omega (arith, few, room, within)));
    }
