-- `sums::sum_chunks` meets its contract. The invariant: the sum so far, with the octets that are left, is the whole sum. Assumes nothing.
use Rattle.std.proofs.Common.{◌≡◌, ◌<◌}
use Rattle.std.specs.Slice.Iter.{chunks_rest, chunks_size}
use Rattle.sums.specs.Sum.{sum_from}
use Rattle.sums.specs.Total.{chunk}
use Rattle.sums.proofs.sum_chunks.Given as goal

abbrev pub invariant-loop-chunk : goal.invariant-loop-chunk
invariant-loop-chunk l = record {
  in_range : l.sum < 256;
  size : chunks_size l.chunk-iterator ≡ chunk;
  so_far : sum_from l.sum (chunks_rest l.chunk-iterator) ≡ sum_from 0 l.octets;
}
