-- `sums::total_words`: a word more, and nothing left.
use Rattle.std.proofs.Common.{rules, ℕ, ◌+◌, ◌≡◌, ◌∙◌, ap, length, length-append, arith}
use Rattle.std.specs.Slice.Iter.{chunks_exact_rest}
use Rattle.sums.specs.Sum.{sum_from}
use Rattle.sums.specs.Total.{reduced}
use Rattle.sums.proofs.Sum.{sum_none}
use Rattle.sums.proofs.Totals.{word_added}
use Rattle.sums.proofs.total_words.Goals as goal

pub loop-word-preserved : goal.loop-word-preserved
loop-word-preserved c =
    let l = c.loop-word in
    let w = c.from-total in
    let word = c.in-Some.word.now in
    let left = chunks_exact_rest c.next.new.self in
    let steps = c.in-Some.ensures.steps in
    let n : length (chunks_exact_rest l.word-iterator) ≡ 4 + length left = omega (arith, ap (length {A = ℕ}) steps.1.0, length-append word left, steps.1.1, l.invariant.size) in
    record {
      size = steps.0 ∙ l.invariant.size;
      whole = omega arith;
      fits = omega arith;
      so_far = λ s h.
          let e : s + l.total + w.result ≡ s + (l.total + w.result) = omega arith in
          l.invariant.so_far s h
          ∙ ap (sum_from (reduced (s + l.total))) steps.1.0
          ∙ word_added (s + l.total) w.result word left (search rules) (search rules) (search rules) (search rules) (steps.1.1 ∙ l.invariant.size) (w.ensures ∙ c.from_le_bytes.ensures)
          ∙ ap (λ (v : ℕ). sum_from (reduced v) left) e;
    }

pub returns-clause-totals : goal.returns-clause-totals
returns-clause-totals c = λ s h.
    let l = c.loop-word in
    let left = chunks_exact_rest l.word-iterator in
    let n : length left ≡ 0 = omega (arith, c.in-None.ensures.steps.1.0, l.invariant.size) in
    l.invariant.so_far s h ∙ sum_none (reduced (s + l.total)) left n
