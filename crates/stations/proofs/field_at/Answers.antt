-- `stations::field_at`: one law for each answer; where there is room for the ID, the ID decides.
use Rattle.std.proofs.Common.{arith}
use Rattle.stations.proofs.Fields.{field_late, field_closing, field_over, field-last}
use Rattle.stations.proofs.field_at.Goals as goal

pub returns-then-fields-index : goal.returns-then-fields-index
returns-then-fields-index c = field_late c.args.fields.now c.args.index c.if-fields-index.true

pub returns-then-length-eq0 : goal.returns-then-length-eq0
returns-then-length-eq0 c =
    field_closing c.args.fields.now c.args.index c.from-length.result c.if-fields-index.false c.from-length.ensures (omega arith)

pub returns-then-left-length : goal.returns-then-left-length
returns-then-left-length c =
    field_over c.args.fields.now c.args.index c.from-length.result c.if-fields-index.false c.from-length.ensures c.if-length-eq0.false (omega arith)

pub returns-then-valid_id : goal.returns-then-valid_id
returns-then-valid_id c =
    (field-last c.args.fields.now c.args.index c.from-length.result c.if-fields-index.false c.from-length.ensures c.if-length-eq0.false
    c.if-left-length.false c.valid_id.result c.valid_id.ensures).0 c.if-valid_id.true

pub returns-else-valid_id : goal.returns-else-valid_id
returns-else-valid_id c =
    (field-last c.args.fields.now c.args.index c.from-length.result c.if-fields-index.false c.from-length.ensures c.if-length-eq0.false
    c.if-left-length.false c.valid_id.result c.valid_id.ensures).1 c.if-valid_id.false
