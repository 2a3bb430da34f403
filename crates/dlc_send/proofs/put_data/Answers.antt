-- `put_data`: a control octet, and the payload behind it. Assumes nothing.
use Rattle.std.proofs.Common.{◌+◌, arith, refl, ◌∙◌, add-one, set, length-set}
use Rattle.octets.proofs.Putting.{into_fits}
use Rattle.dlc_packet.specs.Packet.{data_octet}
use Rattle.dlc_send.proofs.put_data.Goals as goal

pub returns : goal.returns
returns c =
    let m = set c.args.out.now c.args.at (data_octet + c.args.x) in
    let put = c.put.ensures.out_after ∙ into_fits c.args.payload.now m (c.args.at + 1) (omega (arith, length-set c.args.out.now c.args.at (data_octet + c.args.x))) in
    (refl, rw add-one at put)
