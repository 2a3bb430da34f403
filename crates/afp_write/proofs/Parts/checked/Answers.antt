-- `afp_write::Parts::checked`: the first list in which a refusal applies decides.
use Rattle.std.proofs.Common.{◌≤◌, length, ap, ◌∙◌, arith}
use Rattle.stations.specs.declared.Stations.{Stations}
use Rattle.stations.proofs.Extent.{stations_within}
use Rattle.afp.specs.Refused.{number_of}
use Rattle.afp.proofs.Refused.{refusal_numbered, handed_on}
use Rattle.afp_write.proofs.Refusals.{part_first, size_first, sizes_fit}
use Rattle.afp_write.proofs.Parts.checked.Goals as goal

pub returns-in_err-part_refusal-clause-first : goal.returns-in_err-part_refusal-clause-first
returns-in_err-part_refusal-clause-first c =
    let a = c.args.self in
    let e = c.in_err-part_refusal.field-0.0 in
    handed_on c.from_residual.result e c.from_residual.ensures.1
    ∙ part_first a.protocol a.fields.now c.args.next a.supplementary.now a.payload.now c.args.room c.parse-parsed.result c.parse-parsed.ensures
    (number_of e) c.in_err-part_refusal.ensures (refusal_numbered e)

pub returns-in_err-size_refusal-clause-first : goal.returns-in_err-size_refusal-clause-first
returns-in_err-size_refusal-clause-first c =
    let a = c.args.self in
    let e = c.in_err-size_refusal.field-0.0 in
    handed_on c.from_residual-in_err-size_refusal.result e c.from_residual-in_err-size_refusal.ensures.1
    ∙ size_first a.protocol a.fields.now c.args.next a.supplementary.now a.payload.now c.args.room c.parse-parsed.result c.parse-parsed.ensures
    c.in_ok-part_refusal.ensures (number_of e) c.in_err-size_refusal.ensures

pub returns-clause-first : goal.returns-clause-first
returns-clause-first c =
    let a = c.args.self in
    size_first a.protocol a.fields.now c.args.next a.supplementary.now a.payload.now c.args.room c.parse-parsed.result c.parse-parsed.ensures
    c.in_ok-part_refusal.ensures 0 c.in_ok-size_refusal.ensures

pub returns-clause-fits : goal.returns-clause-fits
returns-clause-fits c =
    let a = c.args.self in
    let t = sizes_fit (length a.fields.now) (length a.supplementary.now) (length a.payload.now) c.args.room c.in_ok-size_refusal.ensures in
    let b = stations_within 0 c.args.next a.fields.now in
    let e : c.parse-parsed.result.next.index ≤ 250 = rw c.parse-parsed.ensures (omega arith) in
    (ap (λ (r : Stations). r.next) c.parse-parsed.ensures, e, t.0, t.1)
