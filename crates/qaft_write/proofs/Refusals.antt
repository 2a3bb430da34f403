-- The frame writer's cases: each refusal, and the frame written; what is known of a call that is answered with 0. Assumes nothing.
use Prim.Native.Nat.{ℕ, ◌≤◌, ◌<◌}
use mathlib.Core.Bool.{Bool}
use mathlib.Core.List.{List, []}
use mathlib.Core.Path.{◌≡◌, refl, ap, ap₂, ◌∙◌}
use native.Mathlib.Omega.{arith}
use borrow.Author.Tests.{lt-ltb, le-ltb, eq-eqb, ne_eqb, ltb-false, eqb-false}
use lib.ListN.{length}
use Rattle.common.proofs.Refusals.{Passed, guarded_passed}
use Rattle.escapes.specs.declared.Escapes.{Escapes}
use Rattle.framer.proofs.Written.{frame_some}
use Rattle.framer.specs.Write.{framed, written_length, written_into}
use Rattle.qaft.proofs.Escape.{frame-escapes_of}
use Rattle.qaft.proofs.Frame.{frame_fits}
use Rattle.qaft.specs.Answers.{done, no_data, data_too_long, out_too_small, bad_level, bad_kind}
use Rattle.qaft.specs.Check.{check_by}
use Rattle.qaft.specs.Escape.{writing, escapes_of}
use Rattle.qaft.specs.Frame.{sealed, frame}
use Rattle.qaft.specs.Limits.{max_level, max_kind, max_data, max_frame_of}
use Rattle.qaft_write.proofs.Answer.{answered_unfit, answered_fit}
use Rattle.qaft_write.proofs.Sending.{Wrote}
use Rattle.qaft_write.specs.Answer.{Outcome, refusal, wrote}
use Rattle.qaft_write.specs.Write.{refusals, write_frame}
use Rattle.qaft_write.specs.declared.Written.{Written}

module _ (level kind : ℕ) (at_flag : Bool) (d out : List ℕ) where
  pub write-bad_level : max_level < level → write_frame level kind at_flag d out ≡ refusal out bad_level
  unfolding write_frame refusals
  write-bad_level h = simp (lt-ltb _ _ h)

  module _ (h : level ≤ max_level) where
    pub write-bad_kind : max_kind < kind → write_frame level kind at_flag d out ≡ refusal out bad_kind
    unfolding write_frame refusals
    write-bad_kind k = simp (le-ltb _ _ h, lt-ltb _ _ k)

    module _ (q : kind ≤ max_kind) where
      pub write-no_data : length d ≡ 0 → write_frame level kind at_flag d out ≡ refusal out no_data
      unfolding write_frame refusals
      write-no_data e = simp (le-ltb _ _ h, le-ltb _ _ q, eq-eqb _ _ e)

      module _ (some : length d ≡ 0 → ⊥) where
        pub write-data_too_long : max_data < length d → write_frame level kind at_flag d out ≡ refusal out data_too_long
        unfolding write_frame refusals
        write-data_too_long k = simp (le-ltb _ _ h, le-ltb _ _ q, ne_eqb _ _ some, lt-ltb _ _ k)

        module _ (k : length d ≤ max_data) where
          pub write-out_too_small : length out < length (frame level kind at_flag d) → write_frame level kind at_flag d out ≡ refusal out out_too_small
          unfolding write_frame refusals
          write-out_too_small r = simp (le-ltb _ _ h, le-ltb _ _ q, ne_eqb _ _ some, le-ltb _ _ k, lt-ltb _ _ r)

          pub write_done : length (frame level kind at_flag d) ≤ length out → write_frame level kind at_flag d out ≡ wrote out (frame level kind at_flag d)
          unfolding write_frame refusals
          write_done r = simp (le-ltb _ _ h, le-ltb _ _ q, ne_eqb _ _ some, le-ltb _ _ k, le-ltb _ _ r)

          -- as the code goes: by the escapes e and the check octets c, which it calculated; n and m: the frame writer's answer, and the buffer after it
          module _ (e : Escapes) (ee : e ≡ escapes_of level) (c : List ℕ) (ce : c ≡ (check_by kind).octets d) (n : ℕ) (m : List ℕ)
              (ne : n ≡ written_length (framed e at_flag [] d c) out) (me : m ≡ written_into (framed e at_flag [] d c) out) where
            same : framed e at_flag [] d c ≡ frame level kind at_flag d
            unfolding frame
            same = ap₂ (λ (e : Escapes) (c : List ℕ). framed e at_flag [] d c) ee ce ∙ frame-escapes_of level at_flag (sealed kind d)

            nonempty : 0 < length (frame level kind at_flag d)
            unfolding frame
            nonempty = frame_some (writing level) at_flag (sealed kind d)

            answer : n ≡ written_length (frame level kind at_flag d) out
            answer = ne ∙ ap (λ (ys : List ℕ). written_length ys out) same

            buffer : m ≡ written_into (frame level kind at_flag d) out
            buffer = me ∙ ap (λ (ys : List ℕ). written_into ys out) same

            pub write-unfit : n ≡ 0 → (◌≡◌ {A = Written} (record { number = out_too_small; length = 0 }) (write_frame level kind at_flag d out).answer) × (m ≡ (write_frame level kind at_flag d out).buffer)
            write-unfit = answered_unfit (frame level kind at_flag d) out nonempty n m answer buffer (write_frame level kind at_flag d out) out_too_small write-out_too_small

            pub write-fit : (n ≡ 0 → ⊥) → (◌≡◌ {A = Written} (record { number = done; length = n }) (write_frame level kind at_flag d out).answer) × (m ≡ (write_frame level kind at_flag d out).buffer)
            write-fit = answered_fit (frame level kind at_flag d) out nonempty n m answer buffer (write_frame level kind at_flag d out) write_done

-- a frame of 1 to 2,560 octets is written into any buffer of 5,124, with the longer check 5,126
pub write_written : (level kind : ℕ) → level ≤ max_level → kind ≤ max_kind → (at_flag : Bool) (d m : List ℕ) → 1 ≤ length d → length d ≤ max_data → max_frame_of kind ≤ length m
    → write_frame level kind at_flag d m ≡ wrote m (frame level kind at_flag d)
write_written level kind h q at_flag d m some most room =
    let fits = frame_fits level kind at_flag d most in
    write_done level kind at_flag d m h q (λ e. omega (arith, e)) most (omega arith)

-- a call that is answered with 0 passed every test: its level and check kind are 0 or 1, and it wrote its frame, which has 1 to 2,560 octets
done_passed : (level kind : ℕ) (at_flag : Bool) (d m : List ℕ) → (write_frame level kind at_flag d m).answer.number ≡ done → Passed (refusals level kind at_flag d (length m))
unfolding write_frame refusals refusal
done_passed level kind at_flag d m z =
    guarded_passed (refusal m) (wrote m (frame level kind at_flag d)) (λ (o : Outcome). o.answer.number) done (λ n. refl) (refusals level kind at_flag d (length m))
    (λ e. omega (arith, e), (λ e. omega (arith, e), (λ e. omega (arith, e), (λ e. omega (arith, e), (λ e. omega (arith, e), tt))))) z

pub done_level : (level kind : ℕ) (at_flag : Bool) (d m : List ℕ) → (write_frame level kind at_flag d m).answer.number ≡ done → level ≤ max_level
unfolding refusals
done_level level kind at_flag d m z = ltb-false _ _ (done_passed level kind at_flag d m z).0

pub done_kind : (level kind : ℕ) (at_flag : Bool) (d m : List ℕ) → (write_frame level kind at_flag d m).answer.number ≡ done → kind ≤ max_kind
unfolding refusals
done_kind level kind at_flag d m z = ltb-false _ _ (done_passed level kind at_flag d m z).1.0

pub done_wrote : (level kind : ℕ) (at_flag : Bool) (d m : List ℕ) → (write_frame level kind at_flag d m).answer.number ≡ done → Wrote (write_frame level kind) (writing level) (sealed kind) at_flag d m
unfolding refusals frame
done_wrote level kind at_flag d m z =
    let p = done_passed level kind at_flag d m z in
    let some = eqb-false (length d) 0 p.1.1.0 in
    let most : length d ≤ max_data = ltb-false _ _ p.1.1.1.0 in
    record { some = omega (arith, some); most = most; written = write_done level kind at_flag d m (ltb-false _ _ p.0) (ltb-false _ _ p.1.0) some most (ltb-false _ _ p.1.1.1.1.0) }
