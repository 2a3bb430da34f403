-- `RawOctets::add` meets its contract: what is left of the chunk's parts, and what is skipped. Assumes nothing.
use Rattle.std.proofs.Common.{◌≤◌}
use Rattle.sheet_octets.proofs.Skipping.{fewer, raw_added}
use Rattle.sheet_octets.proofs.RawOctets.add.Goals as goal

pub flow_parts-flow-requires : goal.flow_parts-flow-requires
flow_parts-flow-requires c = c.parts_of-all.ensures

pub overflow_sub-read : goal.overflow_sub-read
overflow_sub-read c =
    let within : let p = c.parts_of-all.result in let q = c.flow_parts-flow.result in (q.before ≤ p.before) × (q.between ≤ p.between) × (q.after ≤ p.after) = (let a = c.args in fewer a.level a.chunk.now c.parts_of-all.result c.parts_of-all.ensures c.flow_parts-flow.result c.flow_parts-flow.ensures) in
    (within).0

pub overflow_sub-read-2 : goal.overflow_sub-read-2
overflow_sub-read-2 c =
    let within : let p = c.parts_of-all.result in let q = c.flow_parts-flow.result in (q.before ≤ p.before) × (q.between ≤ p.between) × (q.after ≤ p.after) = (let a = c.args in fewer a.level a.chunk.now c.parts_of-all.result c.parts_of-all.ensures c.flow_parts-flow.result c.flow_parts-flow.ensures) in
    (within).1

pub overflow_sub-read-3 : goal.overflow_sub-read-3
overflow_sub-read-3 c =
    let within : let p = c.parts_of-all.result in let q = c.flow_parts-flow.result in (q.before ≤ p.before) × (q.between ≤ p.between) × (q.after ≤ p.after) = (let a = c.args in fewer a.level a.chunk.now c.parts_of-all.result c.parts_of-all.ensures c.flow_parts-flow.result c.flow_parts-flow.ensures) in
    (within).2

pub returns : goal.returns
returns c =
    let k = c in
    let a = k.args in
    raw_added a.level a.chunk.now _ k.parts_of-all.ensures _ k.flow_parts-flow.ensures a.self _ _ c.with.ensures c.with-2.ensures
