-- The frame writer's cases: each refusal, and the frame written; what is known of a call that is answered with 0. Assumes nothing.
use Prim.Native.Nat.{ℕ, ◌≤◌, ◌<◌}
use mathlib.Core.Bool.{Bool}
use mathlib.Core.List.{List, [], ◌∷◌, ◌++◌, append-nil}
use mathlib.Core.Path.{◌≡◌, refl, ap, ◌∙◌}
use native.Mathlib.Omega.{arith}
use borrow.Author.Tests.{lt-ltb, le-ltb, eq-eqb, ne_eqb, ltb-false, eqb-false}
use lib.ListN.{length}
use Rattle.common.proofs.Refusals.{Passed, guarded_passed}
use Rattle.escapes.specs.declared.Escapes.{Escapes}
use Rattle.framer.proofs.Written.{frame_some}
use Rattle.framer.specs.Write.{framed, written_length, written_into}
use Rattle.kiss.proofs.Frame.{frame_fits}
use Rattle.kiss.proofs.Octets.{frame_escapes}
use Rattle.kiss.specs.Answers.{out_too_small}
use Rattle.kiss.specs.Frame.{typed, frame}
use Rattle.kiss.specs.Limits.{max_frame}
use Rattle.kiss.specs.Octets.{writing, data_type}
use Rattle.kiss.specs.Octets as kiss
use Rattle.kiss_write.specs.Write.{refusals, write_frame}
use Rattle.qaft.specs.Answers.{done, no_data, data_too_long}
use Rattle.qaft.specs.Limits.{max_data}
use Rattle.qaft_write.proofs.Answer.{answered_unfit, answered_fit}
use Rattle.qaft_write.proofs.Sending.{Wrote}
use Rattle.qaft_write.specs.Answer.{Outcome, refusal, wrote}
use Rattle.qaft_write.specs.declared.Written.{Written}

module _ (at_flag : Bool) (d out : List ℕ) where
  pub write-no_data : length d ≡ 0 → write_frame at_flag d out ≡ refusal out no_data
  unfolding write_frame refusals
  write-no_data e = simp (eq-eqb _ _ e)

  module _ (some : length d ≡ 0 → ⊥) where
    pub write-data_too_long : max_data < length d → write_frame at_flag d out ≡ refusal out data_too_long
    unfolding write_frame refusals
    write-data_too_long k = simp (ne_eqb _ _ some, lt-ltb _ _ k)

    module _ (k : length d ≤ max_data) where
      pub write-out_too_small : length out < length (frame at_flag d) → write_frame at_flag d out ≡ refusal out out_too_small
      unfolding write_frame refusals
      write-out_too_small r = simp (ne_eqb _ _ some, le-ltb _ _ k, lt-ltb _ _ r)

      pub write_done : length (frame at_flag d) ≤ length out → write_frame at_flag d out ≡ wrote out (frame at_flag d)
      unfolding write_frame refusals
      write_done r = simp (ne_eqb _ _ some, le-ltb _ _ k, le-ltb _ _ r)

      -- as the code goes: by the escapes e, which it asked for; n and m: the frame writer's answer, and the buffer after it
      module _ (e : Escapes) (ee : e ≡ kiss.escapes) (n : ℕ) (m : List ℕ)
          (ne : n ≡ written_length (framed e at_flag (data_type ∷ []) d []) out) (me : m ≡ written_into (framed e at_flag (data_type ∷ []) d []) out) where
        same : framed e at_flag (data_type ∷ []) d [] ≡ frame at_flag d
        unfolding frame
        same = ap (λ (e : Escapes). framed e at_flag (data_type ∷ []) d []) ee ∙ frame_escapes at_flag (data_type ∷ (d ++ [])) ∙ ap (λ (d : List ℕ). frame at_flag d) (append-nil d)

        nonempty : 0 < length (frame at_flag d)
        unfolding frame
        nonempty = frame_some writing at_flag (typed d)

        answer : n ≡ written_length (frame at_flag d) out
        answer = ne ∙ ap (λ (ys : List ℕ). written_length ys out) same

        buffer : m ≡ written_into (frame at_flag d) out
        buffer = me ∙ ap (λ (ys : List ℕ). written_into ys out) same

        pub write-unfit : n ≡ 0 → (◌≡◌ {A = Written} (record { number = out_too_small; length = 0 }) (write_frame at_flag d out).answer) × (m ≡ (write_frame at_flag d out).buffer)
        write-unfit = answered_unfit (frame at_flag d) out nonempty n m answer buffer (write_frame at_flag d out) out_too_small write-out_too_small

        pub write-fit : (n ≡ 0 → ⊥) → (◌≡◌ {A = Written} (record { number = done; length = n }) (write_frame at_flag d out).answer) × (m ≡ (write_frame at_flag d out).buffer)
        write-fit = answered_fit (frame at_flag d) out nonempty n m answer buffer (write_frame at_flag d out) write_done

-- a frame of 1 to 2,560 octets is written into any buffer of 5,123
pub write_written : (at_flag : Bool) (d m : List ℕ) → 1 ≤ length d → length d ≤ max_data → max_frame ≤ length m → write_frame at_flag d m ≡ wrote m (frame at_flag d)
write_written at_flag d m some most room =
    let fits = frame_fits at_flag d most in
    write_done at_flag d m (λ e. omega (arith, e)) most (omega arith)

-- a call that is answered with 0 passed every test, and wrote its frame, which has 1 to 2,560 octets
pub done_wrote : (at_flag : Bool) (d m : List ℕ) → (write_frame at_flag d m).answer.number ≡ done → Wrote write_frame writing typed at_flag d m
unfolding write_frame refusals refusal frame
done_wrote at_flag d m z =
    let p : Passed (refusals at_flag d (length m)) =
    guarded_passed (refusal m) (wrote m (frame at_flag d)) (λ (o : Outcome). o.answer.number) done (λ n. refl) (refusals at_flag d (length m))
    (λ e. omega (arith, e), (λ e. omega (arith, e), (λ e. omega (arith, e), tt))) z in
    let some = eqb-false (length d) 0 p.0 in
    let most : length d ≤ max_data = ltb-false _ _ p.1.0 in
    record { some = omega (arith, some); most = most; written = write_done at_flag d m some most (ltb-false _ _ p.1.1.0) }
