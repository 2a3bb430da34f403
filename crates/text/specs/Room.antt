-- A text put into a lent buffer only where there is room for the longest of its kind. Cited by the lines of listings and sheets. Assumes nothing.
use Rattle.std.specs.Prelude.{ℕ, ◌+◌, cond, List, leb, length}
use Rattle.std.proofs.lemmas.List.Edits.{sets}

-- a text at index i of an output buffer, and the index behind it; where the buffer has no room for n octets there, nothing
unfoldable pub text_into : (n : ℕ) (t out : List ℕ) (i : ℕ) → List ℕ
text_into n t out i = cond (leb (i + n) (length out)) (sets out i t) out

unfoldable pub text_end : (n : ℕ) (t : List ℕ) (room i : ℕ) → ℕ
text_end n t room i = cond (leb (i + n) room) (i + length t) i
