-- `stations::parse`: what stands at the loop's index is malformed, the closing 0 or an ID.
use Rattle.std.proofs.Common.{◌+◌, drop, sym, ap, ◌∙◌, arith}
use Rattle.stations.specs.Fields.{stations_from, stations_of}
use Rattle.stations.specs.declared.Next.{Next}
use Rattle.stations.proofs.Fields.{on-length-bad, on-length-closing, on-length-id, closed_none, closed_some, stations_from_starts}
use Rattle.stations.proofs.parse.Goals as goal

pub loop-end-init : goal.loop-end-init
loop-end-init c =
    let a = c.args in
    (omega arith, omega arith, stations_from_starts a.pointed a.numbered a.fields.now)

pub returns-in-Malformed : goal.returns-in-Malformed
returns-in-Malformed c =
    let l = c.loop-end in
    let a = c.args in
    let s = a.fields.now in
    on-length-bad a.pointed a.numbered s l.index l.count l.next (stations_of a.pointed a.numbered s) l.invariant.2 c.in-Malformed.ensures

pub returns-then-count-eq0 : goal.returns-then-count-eq0
returns-then-count-eq0 c =
    let l = c.loop-end in
    let a = c.args in
    let s = a.fields.now in
    sym (closed_none l.index l.count l.next (omega arith))
    ∙ on-length-closing a.pointed a.numbered s l.index l.count l.next (stations_of a.pointed a.numbered s) l.invariant.2 c.in-Closing.ensures

pub returns-in-Closing : goal.returns-in-Closing
returns-in-Closing c =
    let l = c.loop-end in
    let a = c.args in
    let s = a.fields.now in
    sym (closed_some l.index l.count l.next c.if-count-eq0.false)
    ∙ on-length-closing a.pointed a.numbered s l.index l.count l.next (stations_of a.pointed a.numbered s) l.invariant.2 c.in-Closing.ensures

pub loop-end-preserved : goal.loop-end-preserved
loop-end-preserved c =
    let l = c.loop-end in
    let a = c.args in
    let s = a.fields.now in
    let t = on-length-id a.pointed a.numbered s l.index l.count l.next (stations_of a.pointed a.numbered s) l.invariant.2 c.in-Id.end c.in-Id.ensures in
    (t.0, omega arith, ap (λ (x : Next). stations_from a.pointed a.numbered c.in-Id.end (l.count + 1) x 0 (drop c.in-Id.end s)) c.next_after-next.ensures ∙ t.2)
