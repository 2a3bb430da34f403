-- A writer's answer by what the shared frame writer gave back, whatever the writer. Assumes nothing.
use Prim.Native.Nat.{ℕ, ◌≤◌, ◌<◌}
use mathlib.Core.List.{List}
use mathlib.Core.Path.{◌≡◌, sym, ap, ◌∙◌}
use lib.ListN.{length}
use Rattle.framer.proofs.Written.{written_fits, written_none, written_zero, written_some}
use Rattle.framer.specs.Write.{written_length, written_into}
use Rattle.qaft.specs.Answers.{done}
use Rattle.qaft_write.specs.Answer.{Outcome, refusal, wrote}
use Rattle.qaft_write.specs.declared.Written.{Written}

-- ys: the frame, of an octet or more; n and m: the frame writer's answer, and the buffer after it; o: what the call is to come to
module _ (ys out : List ℕ) (some : 0 < length ys) (n : ℕ) (m : List ℕ) (ne : n ≡ written_length ys out) (me : m ≡ written_into ys out) (o : Outcome) where
  abbrev Answered : Written → Type 0
  Answered w = (w ≡ o.answer) × (m ≡ o.buffer)

  pub answered_unfit : (k : ℕ) → (length out < length ys → o ≡ refusal out k) → n ≡ 0 → Answered (record { number = k; length = 0 })
  unfolding refusal
  answered_unfit k w z =
      let small = written_zero ys out some n ne z in
      (sym (ap (λ (o : Outcome). o.answer) (w small)), me ∙ (written_none ys out small).1 ∙ sym (ap (λ (o : Outcome). o.buffer) (w small)))

  pub answered_fit : (length ys ≤ length out → o ≡ wrote out ys) → (n ≡ 0 → ⊥) → Answered (record { number = done; length = n })
  unfolding wrote
  answered_fit w z =
      let room = written_some ys out some n ne z in
      let f = written_fits ys out room in
      (ap (λ (n : ℕ). record { number = done; length = n }) (ne ∙ f.0) ∙ sym (ap (λ (o : Outcome). o.answer) (w room)), me ∙ f.1 ∙ sym (ap (λ (o : Outcome). o.buffer) (w room)))
