-- The octets before n are plain, and those behind them are left.
use Rattle.std.proofs.Common.{◌≡◌, ◌+◌, length, drop}
use Rattle.common.specs.Plain.{plain_length}
use Rattle.escapes.specs.Escapes.{is_escaped}
use Rattle.escapes.proofs.Escapes.plain_blocks.Given as goal

abbrev pub invariant-loop-block : goal.invariant-loop-block
invariant-loop-block l =
    let it = l.block-iterator in
    (it.size ≡ 16) × (l.n + length it.rest.now ≡ length l.octets) × (it.rest.now ≡ drop l.n l.octets)
    × (plain_length (is_escaped l.self) l.octets ≡ l.n + plain_length (is_escaped l.self) it.rest.now)
