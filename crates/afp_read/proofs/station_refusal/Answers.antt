-- `afp_read::station_refusal`: one law for each answer; octet 0 is judged last.
use Rattle.std.proofs.Common.{refl, ap, arith, not, eq-eqb, ne_eqb}
use Rattle.common.proofs.FirstRefusal.{first_stop, first_skip}
use Rattle.afp.specs.Answers.{bad_next_sum}
use Rattle.afp_read.proofs.Refusals.{station_malformed, station_offset, station_lacks, station_last}
use Rattle.afp_read.proofs.station_refusal.Goals as goal

pub returns-then-parsed-eq0 : goal.returns-then-parsed-eq0
returns-then-parsed-eq0 c = station_malformed c.args.frame.now c.args.parsed (omega arith)

pub returns-then-not-offset_is : goal.returns-then-not-offset_is
returns-then-not-offset_is c =
    station_offset c.args.frame.now c.args.parsed c.if-parsed-eq0.false c.offset_is.result c.offset_is.ensures c.if-not-offset_is.true

pub returns-then-lacks_next : goal.returns-then-lacks_next
returns-then-lacks_next c =
    station_lacks c.args.frame.now c.args.parsed c.if-parsed-eq0.false c.offset_is.result c.offset_is.ensures c.if-not-offset_is.false
    c.lacks_next.result c.lacks_next.ensures c.if-lacks_next.true

pub returns-then-frame-parsed : goal.returns-then-frame-parsed
returns-then-frame-parsed c =
    station_last c.args.frame.now c.args.parsed c.if-parsed-eq0.false c.offset_is.result c.offset_is.ensures c.if-not-offset_is.false
    c.lacks_next.result c.lacks_next.ensures c.if-lacks_next.false bad_next_sum (first_stop _ bad_next_sum 0 (ap not (ne_eqb _ _ c.if-frame-parsed.true)))

pub returns : goal.returns
returns c =
    station_last c.args.frame.now c.args.parsed c.if-parsed-eq0.false c.offset_is.result c.offset_is.ensures c.if-not-offset_is.false
    c.lacks_next.result c.lacks_next.ensures c.if-lacks_next.false 0 (first_skip _ bad_next_sum 0 0 (ap not (eq-eqb _ _ c.if-frame-parsed.false)) refl)
