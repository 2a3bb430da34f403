-- `afp_write::Parts::part_refusal`: one law for each answer; past the next station the supplementary header decides.
use Rattle.std.proofs.Common.{refl, ap, not, arith}
use Rattle.common.proofs.FirstRefusal.{first_stop, first_skip}
use Rattle.afp.specs.Answers.{bad_supplementary}
use Rattle.afp_write.proofs.Refusals.{part_protocol, part_stations, part_end, part-next, part-lacks, part-last}
use Rattle.afp_write.proofs.Parts.part_refusal.Goals as goal

pub returns-then-self-ge-FIRST_RESERVED : goal.returns-then-self-ge-FIRST_RESERVED
returns-then-self-ge-FIRST_RESERVED c = part_protocol c.args.self.protocol c.args.self.fields.now c.args.parsed c.args.next c.args.self.supplementary.now (omega arith)

pub returns-then-end-eq0 : goal.returns-then-end-eq0
returns-then-end-eq0 c = part_stations c.args.self.protocol c.args.self.fields.now c.args.parsed c.args.next c.args.self.supplementary.now (omega arith) (omega arith)

pub returns-then-end-self : goal.returns-then-end-self
returns-then-end-self c =
    part_end c.args.self.protocol c.args.self.fields.now c.args.parsed c.args.next c.args.self.supplementary.now (omega arith) c.if-end-eq0.false c.if-end-self.true

pub returns-then-number-next : goal.returns-then-number-next
returns-then-number-next c =
    part-next c.args.self.protocol c.args.self.fields.now c.args.parsed c.args.next c.args.self.supplementary.now (omega arith) c.if-end-eq0.false c.if-end-self.false
    (λ e. c.if-number-next.true (omega arith))

pub returns-then-lacks_next : goal.returns-then-lacks_next
returns-then-lacks_next c =
    part-lacks c.args.self.protocol c.args.self.fields.now c.args.parsed c.args.next c.args.self.supplementary.now (omega arith) c.if-end-eq0.false c.if-end-self.false
    (omega arith) c.lacks_next.result c.lacks_next.ensures c.if-lacks_next.true

pub returns-then-not-valid_supplementary : goal.returns-then-not-valid_supplementary
returns-then-not-valid_supplementary c =
    part-last c.args.self.protocol c.args.self.fields.now c.args.parsed c.args.next c.args.self.supplementary.now (omega arith) c.if-end-eq0.false c.if-end-self.false
    (omega arith) c.lacks_next.result c.lacks_next.ensures c.if-lacks_next.false c.valid_supplementary.result c.valid_supplementary.ensures
    bad_supplementary (first_stop _ bad_supplementary 0 (ap not c.if-not-valid_supplementary.true))

pub returns : goal.returns
returns c =
    part-last c.args.self.protocol c.args.self.fields.now c.args.parsed c.args.next c.args.self.supplementary.now (omega arith) c.if-end-eq0.false c.if-end-self.false
    (omega arith) c.lacks_next.result c.lacks_next.ensures c.if-lacks_next.false c.valid_supplementary.result c.valid_supplementary.ensures
    0 (first_skip _ bad_supplementary 0 0 (ap not c.if-not-valid_supplementary.false) refl)
