-- Octets put down part by part: what is left, put down behind a part, gives the whole. Assumes nothing.
use Rattle.std.proofs.Common.{◌≡◌, ℕ, ◌+◌, ◌≤◌, true, List, ◌++◌, length, take, drop, sym, ap, ap₂, ◌∙◌, arith, length-append, append_assoc, take-append-drop, [], ◌∷◌, refl}
use borrow.Rule.Slice.PartMut.{put_mid}
use lib.Seq.{sets, sets-eq, drop-drop}
use Rattle.common.proofs.Buffer.{sets-++}
use Rattle.common.specs.Plain.{plain}
use Rattle.framing.proofs.Escaping.{escaped-++, escaped_plain}
use Rattle.framing.specs.Writing.{Writing, escaped}

-- zs: octets of the line, of which ys are put down first
pub sets_more : (zs ys xs m n : List ℕ) (at to : ℕ) → zs ≡ ys ++ xs → n ≡ sets m at ys → to ≡ at + length ys → sets n to xs ≡ sets m at zs
sets_more zs ys xs m n at to j e t = ap₂ (λ (l : List ℕ) (i : ℕ). sets l i xs) e t ∙ sym (sets-++ ys xs m at) ∙ ap (sets m at) (sym j)

-- the same of octets that are escaped
module _ (writing : Writing) (zs ys xs : List ℕ) (j : zs ≡ ys ++ xs) where
  parts : escaped writing zs ≡ escaped writing ys ++ escaped writing xs
  parts = ap (escaped writing) j ∙ escaped-++ writing ys xs

  pub length_escaped_parts : length (escaped writing zs) ≡ length (escaped writing ys) + length (escaped writing xs)
  length_escaped_parts = ap length parts ∙ length-append (escaped writing ys) (escaped writing xs)

  pub escaped_more : (m n : List ℕ) (at to : ℕ) → n ≡ sets m at (escaped writing ys) → to ≡ at + length (escaped writing ys)
      → sets n to (escaped writing xs) ≡ sets m at (escaped writing zs)
  escaped_more m n at to e t = sets_more _ _ _ m n at to parts e t

-- a front and a rest of octets that are escaped
module _ (writing : Writing) (k : ℕ) (zs ys xs : List ℕ) (y : ys ≡ take k zs) (x : xs ≡ drop k zs) where
  joined : zs ≡ ys ++ xs
  joined = sym (take-append-drop k zs) ∙ ap₂ (λ (f r : List ℕ). f ++ r) (sym y) (sym x)

  pub split_length : length (escaped writing zs) ≡ length (escaped writing ys) + length (escaped writing xs)
  split_length = length_escaped_parts writing zs ys xs joined

  pub split_into : (m n o : List ℕ) (at to : ℕ) → n ≡ sets m at (escaped writing ys) → to ≡ at + length (escaped writing ys) → o ≡ sets n to (escaped writing xs)
      → o ≡ sets m at (escaped writing zs)
  split_into m n o at to e t f = f ∙ escaped_more writing zs ys xs joined m n at to e t

pub escaped_none : (writing : Writing) (xs : List ℕ) → length xs ≡ 0 → escaped writing xs ≡ []
unfolding escaped
escaped_none writing [] h = refl
escaped_none writing (x ∷ xs) h = absurd (omega arith)

-- octets of which none is escaped go out as they are
pub length_as_is : (writing : Writing) (xs : List ℕ) → plain writing.escapes xs ≡ true → length (escaped writing xs) ≡ length xs
length_as_is writing xs p = ap length (escaped_plain writing xs p)

pub into_as_is : (writing : Writing) (xs m : List ℕ) (at : ℕ) → plain writing.escapes xs ≡ true → sets m at xs ≡ sets m at (escaped writing xs)
into_as_is writing xs m at p = ap (sets m at) (sym (escaped_plain writing xs p))

-- a part of a buffer that octets were copied into
pub put_mid_sets : (xs ys m : List ℕ) (at k : ℕ) → at + length xs ≤ length m → ys ≡ xs → k ≡ length xs → put_mid at k m ys ≡ sets m at xs
put_mid_sets xs ys m at k h e ke = rw (e, ke) (ap (λ (l : List ℕ). take at m ++ (xs ++ l)) (drop-drop (length xs) at m) ∙ sym (append_assoc (take at m) xs (drop (at + length xs) m)) ∙ sym (sets-eq xs m at h))
