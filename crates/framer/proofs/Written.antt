-- What is written where the buffer has room, and where it has not; what the answer says of it. Assumes nothing.
use Rattle.std.proofs.Common.{◌≡◌, ℕ, ◌<◌, ◌≤◌, Bool, true, false, leb, List, length, sym, refl, ◌∙◌, arith, le-leb, leb-false, leb-true}
use borrow.Author.Tests.{lt-leb}
use lib.Seq.{sets}
use Rattle.common.proofs.Buffer.{sets-front}
use Rattle.common.specs.Buffer.{with_front}
use Rattle.framer.specs.Write.{written_length, written_into}
use Rattle.framing.proofs.Frames.{length-frame}
use Rattle.framing.specs.Writing.{Writing, frame}

module _ (ys m : List ℕ) where
  pub written_fits : length ys ≤ length m → (written_length ys m ≡ length ys) × (written_into ys m ≡ with_front ys m)
  unfolding written_length written_into
  written_fits h = (rw (le-leb _ _ h), rw (le-leb _ _ h))

  pub written_none : length m < length ys → (written_length ys m ≡ 0) × (written_into ys m ≡ m)
  unfolding written_length written_into
  written_none h = (rw (lt-leb _ _ h), rw (lt-leb _ _ h))

  -- as the writer goes: by whether they fit, and by what was put down then
  module _ (fits : Bool) (fe : fits ≡ leb (length ys) (length m)) where
    pub written_put : fits ≡ true → (n : ℕ) (l : List ℕ) → n ≡ length ys → l ≡ sets m 0 ys → (n ≡ written_length ys m) × (l ≡ written_into ys m)
    written_put t n l ne le =
        let room = leb-true (length ys) (length m) (sym fe ∙ t) in
        let w = written_fits room in
        (ne ∙ sym w.0, le ∙ sets-front ys m room ∙ sym w.1)

    pub written_not : fits ≡ false → (0 ≡ written_length ys m) × (m ≡ written_into ys m)
    written_not t =
        let w = written_none (leb-false (length ys) (length m) (sym fe ∙ t)) in
        (sym w.0, sym w.1)

  -- an answer n says which, since no frame is empty
  module _ (some : 0 < length ys) (n : ℕ) (e : n ≡ written_length ys m) where
    pub written_zero : n ≡ 0 → length m < length ys
    written_zero z = by (leb (length ys) (length m)) refl
      where
        by : (b : Bool) → leb (length ys) (length m) ≡ b → length m < length ys
        by true q = let f = written_fits (leb-true _ _ q) in absurd (omega (arith, sym z ∙ e ∙ f.0))
        by false q = leb-false _ _ q

    pub written_some : (n ≡ 0 → ⊥) → length ys ≤ length m
    written_some z = by (leb (length ys) (length m)) refl
      where
        by : (b : Bool) → leb (length ys) (length m) ≡ b → length ys ≤ length m
        by true q = leb-true _ _ q
        by false q = absurd (z (e ∙ (written_none (leb-false _ _ q)).0))

-- a frame has a closing flag
pub frame_some : (writing : Writing) (at_flag : Bool) (b : List ℕ) → 0 < length (frame writing at_flag b)
frame_some writing at_flag b = omega (arith, length-frame writing at_flag b)

-- so an answer that is given where it fits is no 0
pub frame_written : (writing : Writing) (at_flag : Bool) (b m : List ℕ) (n : ℕ) → n ≡ written_length (frame writing at_flag b) m → true ≡ leb (length (frame writing at_flag b)) (length m) → n ≡ 0 → ⊥
frame_written writing at_flag b m n e v z = omega (arith, sym z ∙ e ∙ (written_fits (frame writing at_flag b) m (leb-true _ _ (sym v))).0, frame_some writing at_flag b)
