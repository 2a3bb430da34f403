-- Writing frames one after another makes the line of the list: for any frame writer that is known by what it does when it answers 0. Assumes nothing.
use Prim.Native.Nat.{ℕ, ◌≤◌}
use mathlib.Core.Bool.{Bool, true, false}
use mathlib.Core.List.{List, [], ◌∷◌, ◌++◌, map}
use mathlib.Core.Path.{◌≡◌, refl, ap, ap₂, ◌∙◌}
use lib.ListN.{length, take}
use Rattle.common.proofs.Buffer.{take-with_front}
use Rattle.framing.proofs.Frames.{frames_line}
use Rattle.framing.specs.Writing.{Writing, frame, frames, line}
use Rattle.qaft.specs.Answers.{done}
use Rattle.qaft.specs.Frame.{Writable}
use Rattle.qaft.specs.Limits.{max_data}
use Rattle.qaft_write.specs.Answer.{Outcome, wrote}
use Rattle.qaft_write.specs.Sending.{Writer, Lent, octets_of, sent, AllDone}

-- the frame of the data d is `body d` between its flags
module _ (write : Writer) (writing : Writing) (body : List ℕ → List ℕ) where
  -- what a call answered with 0 did
  pub record Wrote (at_flag : Bool) (d m : List ℕ) : Type 0 where
    pub some : 1 ≤ length d
    pub most : length d ≤ max_data
    pub written : write at_flag d m ≡ wrote m (frame writing at_flag (body d))

  module _ (done_wrote : (at_flag : Bool) (d m : List ℕ) → (write at_flag d m).answer.number ≡ done → Wrote at_flag d m) where
    pub done_writable : (at_flag : Bool) (cs : List Lent) → AllDone write at_flag cs → Writable (octets_of cs)
    done_writable at_flag [] ok = tt
    done_writable at_flag (c ∷ cs) ok =
        let w = done_wrote at_flag c.octets c.out ok.0 in
        (w.some, w.most, done_writable true cs ok.1)

    sent_frames : (at_flag : Bool) (cs : List Lent) → AllDone write at_flag cs → sent write at_flag cs ≡ frames writing at_flag (map body (octets_of cs))
    unfolding sent frames wrote
    sent_frames at_flag [] ok = refl
    sent_frames at_flag (c ∷ cs) ok =
        let f = frame writing at_flag (body c.octets) in
        ap (λ (o : Outcome). take o.answer.length o.buffer ++ sent write true cs) (done_wrote at_flag c.octets c.out ok.0).written
        ∙ ap₂ (λ (xs ys : List ℕ). xs ++ ys) (take-with_front f c.out (length f) refl) (sent_frames true cs ok.1)

    -- the first not at a flag and the rest at one, each in any buffer in which it was written
    pub sent_line : (cs : List Lent) → AllDone write false cs → sent write false cs ≡ line writing (map body (octets_of cs))
    sent_line cs ok = sent_frames false cs ok ∙ frames_line writing (map body (octets_of cs))
