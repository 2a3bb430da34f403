-- A caller who writes frame after frame, with any frame writer. Cited by the law that this makes the line of the list. Assumes nothing.
use Rattle.std.specs.Prelude.{ℕ, Bool, true, List, [], ◌∷◌, ◌++◌, map, ◌≡◌, take}
use Rattle.qaft.specs.Answers.{done}
use Rattle.qaft_write.specs.Answer.{Outcome}

-- what a call of the writer does: whether the line stands at a flag, the frame's data, the out buffer
abbrev pub Writer : Type 0
Writer = (at_flag : Bool) (d out : List ℕ) → Outcome

-- a frame's data, and the out buffer that is lent for it
pub record Lent : Type 0 where
  pub octets : List ℕ
  pub out : List ℕ

-- the data of calls, one after another
abbrev pub octets_of : List Lent → List (List ℕ)
octets_of cs = map (λ (c : Lent). c.octets) cs

module _ (write : Writer) where
  -- what goes out on the line: after each call the answer's number of octets from the front of its buffer
  unfoldable pub sent : (at_flag : Bool) → List Lent → List ℕ
  sent at_flag [] = []
  sent at_flag (c ∷ cs) =
      let o = write at_flag c.octets c.out in
      take o.answer.length o.buffer ++ sent true cs

  -- each call is answered with 0
  abbrev pub AllDone : (at_flag : Bool) → List Lent → Type 0
  AllDone at_flag [] = Unit {0}
  AllDone at_flag (c ∷ cs) = ((write at_flag c.octets c.out).answer.number ≡ done) × AllDone true cs
