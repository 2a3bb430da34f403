-- `sums::total_words` meets its contract. The invariant: the total so far, with the octets that are left, gives every sum. Assumes nothing.
use Rattle.std.proofs.Common.{◌≡◌, ℕ, ◌+◌, ◌*◌, ◌%◌, ◌<◌, ◌≤◌, length}
use Rattle.std.specs.Slice.Iter.{chunks_exact_rest, chunks_exact_size}
use Rattle.sums.specs.Sum.{sum_from}
use Rattle.sums.specs.Total.{reduced}
use Rattle.sums.proofs.total_words.Given as goal

abbrev pub invariant-loop-word : goal.invariant-loop-word
invariant-loop-word l = record {
  size : chunks_exact_size l.word-iterator ≡ 4;
  whole : length (chunks_exact_rest l.word-iterator) % 4 ≡ 0;
  fits : l.total + 1073741824 * length (chunks_exact_rest l.word-iterator) ≤ 1073741824 * length l.octets;
  so_far : (s : ℕ) → s < 256 → sum_from s l.octets ≡ sum_from (reduced (s + l.total)) (chunks_exact_rest l.word-iterator);
}
