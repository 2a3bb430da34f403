-- Framing: a line with octets of some kind put in. Cited by the theorem that skipped octets change nothing. Assumes nothing.
use Rattle.std.specs.Prelude.{ℕ, Bool, true, List, [], ◌∷◌, ◌≡◌}

-- l' is l with octets put in that `among` holds of, anywhere and as often as one likes: octet by octet of l', the next octet of l, or one put in
pub data Strewn (among : ℕ → Bool) : (l l' : List ℕ) → Type 0 where
  ends : Strewn among [] []
  keeps : {l l' : List ℕ} (x : ℕ) → Strewn among l l' → Strewn among (x ∷ l) (x ∷ l')
  puts : {l l' : List ℕ} (x : ℕ) → among x ≡ true → Strewn among l l' → Strewn among l (x ∷ l')
