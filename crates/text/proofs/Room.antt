-- A text put where there is room for n octets. Assumes nothing.
use Prim.Native.Nat.{ℕ, ◌+◌, ◌≤◌, ◌<◌}
use mathlib.Core.List.{List}
use mathlib.Core.Path.{◌≡◌, sym, ◌∙◌}
use borrow.Author.Tests.{le-leb, lt-leb}
use lib.ListN.{length}
use lib.Seq.{sets}
use Rattle.text.specs.Placed.{Placed}
use Rattle.text.specs.Room.{text_into, text_end}

-- a text is put where there is room, and else nothing
module _ (n : ℕ) (t out : List ℕ) (i : ℕ) where
  pub text_none : length out < i + n → (text_end n t (length out) i ≡ i) × (text_into n t out i ≡ out)
  unfolding text_end text_into
  text_none h = let e = lt-leb _ _ h in (rw e, rw e)

  module _ (h : i + n ≤ length out) where
    pub text_room : (text_end n t (length out) i ≡ i + length t) × (text_into n t out i ≡ sets out i t)
    unfolding text_end text_into
    text_room = let e = le-leb _ _ h in (rw e, rw e)

    pub text_placed : (r : ℕ) (out' : List ℕ) → Placed out i t out' r → (r ≡ text_end n t (length out) i) × (out' ≡ text_into n t out i)
    text_placed r out' p = (p.behind ∙ sym text_room.0, p.octets ∙ sym text_room.1)
