-- `afp_read::rest_refusal`: one law for each answer; once the header sum is right, the data decide.
use Rattle.std.proofs.Common.{arith}
use Rattle.afp.specs.Answers.{bad_data}
use Rattle.afp_read.proofs.Refusals.{rest_supplementary, rest_sum, rest_last, data_long, data_fits}
use Rattle.afp_read.proofs.rest_refusal.Goals as goal

pub returns-then-not-valid_supplementary : goal.returns-then-not-valid_supplementary
returns-then-not-valid_supplementary c =
    rest_supplementary c.args.frame.now c.args.end c.from-data_at.result c.from-data_at.ensures c.valid_supplementary.result c.valid_supplementary.ensures
    c.if-not-valid_supplementary.true

pub returns-then-not-right_header_sum : goal.returns-then-not-right_header_sum
returns-then-not-right_header_sum c =
    rest_sum c.args.frame.now c.args.end c.from-data_at.result c.from-data_at.ensures c.valid_supplementary.result c.valid_supplementary.ensures
    c.if-not-valid_supplementary.false c.right_header_sum.result (cc) c.if-not-right_header_sum.true

pub returns-then-frame-data_at-gt-MAX_DATA : goal.returns-then-frame-data_at-gt-MAX_DATA
returns-then-frame-data_at-gt-MAX_DATA c =
    rest_last c.args.frame.now c.args.end c.from-data_at.result c.from-data_at.ensures c.valid_supplementary.result c.valid_supplementary.ensures
    c.if-not-valid_supplementary.false c.right_header_sum.result (cc) c.if-not-right_header_sum.false bad_data
    (data_long c.args.frame.now c.from-data_at.result c.from-data_at.ensures (omega arith))

pub returns : goal.returns
returns c =
    rest_last c.args.frame.now c.args.end c.from-data_at.result c.from-data_at.ensures c.valid_supplementary.result c.valid_supplementary.ensures
    c.if-not-valid_supplementary.false c.right_header_sum.result (cc) c.if-not-right_header_sum.false 0
    (data_fits c.args.frame.now c.from-data_at.result c.from-data_at.ensures (omega arith))
