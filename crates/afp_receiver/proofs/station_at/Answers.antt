-- `afp_receiver::station_at`: what stands at the place is an ID, or the field breaks the rule.
use Rattle.std.proofs.Common.{◌-◌, take, arith, rules}
use Rattle.stations.proofs.FieldAt.{told_other, told_id}
use Rattle.afp_receiver.proofs.Field.{field_bad, end_in, sum-wrong, sum_right}
use Rattle.afp_receiver.proofs.station_at.Goals as goal

pub returns-in_default : goal.returns-in_default
returns-in_default c =
    let k = c.from-closing.result - 2 in
    field_bad c.args.frame.now (λ z. omega arith) k c.args.place (omega arith) (omega arith) (omega arith) (omega arith)
    (told_other (take k c.args.frame.now) c.args.place c.field_at.result c.field_at.ensures c.in_default.not-Id)

pub slice_bounds-next_station_sum-end : goal.slice_bounds-next_station_sum-end
slice_bounds-next_station_sum-end c =
    let k = c.from-closing.result - 2 in
    let id = told_id (take k c.args.frame.now) c.args.place c.field_at.result c.field_at.ensures c.in-Id.end c.in-Id.is in
    let w = end_in c.args.frame.now (λ z. omega arith) k c.args.place (omega arith) (omega arith) (omega arith) (omega arith) c.in-Id.end id in
    search rules

pub returns-then-frame-next_station_sum : goal.returns-then-frame-next_station_sum
returns-then-frame-next_station_sum c =
    let k = c.from-closing.result - 2 in
    let id = told_id (take k c.args.frame.now) c.args.place c.field_at.result c.field_at.ensures c.in-Id.end c.in-Id.is in
    sum-wrong c.args.frame.now (λ z. omega arith) k c.args.place (omega arith) (omega arith) (omega arith) (omega arith) c.in-Id.end id
    c.next_station_sum.result c.next_station_sum.ensures c.if-frame-next_station_sum.true

pub returns : goal.returns
returns c =
    let k = c.from-closing.result - 2 in
    let id = told_id (take k c.args.frame.now) c.args.place c.field_at.result c.field_at.ensures c.in-Id.end c.in-Id.is in
    sum_right c.args.frame.now (λ z. omega arith) k c.args.place (omega arith) (omega arith) (omega arith) (omega arith) c.in-Id.end id
    c.next_station_sum.result c.next_station_sum.ensures c.if-frame-next_station_sum.false
