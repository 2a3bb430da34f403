-- Laws of a frame as it is put down, piece by piece: opening flag, head, octets, tail, closing flag. Assumes nothing.
use Rattle.std.proofs.Common.{◌≡◌, ℕ, ◌+◌, ◌*◌, ◌≤◌, Bool, true, false, cond, List, [], ◌∷◌, ◌++◌, length, set, sym, refl, ap, ◌∙◌, ap₂, append_assoc, arith, length-append}
use lib.Seq.{sets}
use Rattle.common.proofs.Buffer.{sets-++}
use Rattle.framing.proofs.Escaping.{escaped-++}
use Rattle.framing.proofs.Frames.{frame_bound}
use Rattle.framing.specs.Writing.{Writing, escaped, opening, frame}

pub length-opening : (writing : Writing) (at_flag : Bool) → length (opening writing at_flag) ≡ cond at_flag 0 1
length-opening writing true = refl
length-opening writing false = refl

module _ (writing : Writing) (at_flag : Bool) (head xs tail : List ℕ) where
  abbrev framed_tail : List ℕ
  framed_tail = escaped writing tail ++ (writing.flag ∷ [])

  abbrev framed_octets : List ℕ
  framed_octets = escaped writing xs ++ framed_tail

  abbrev framed_head : List ℕ
  framed_head = escaped writing head ++ framed_octets

  pub pieces : frame writing at_flag (head ++ (xs ++ tail)) ≡ opening writing at_flag ++ framed_head
  unfolding frame
  pieces =
      rw (
        escaped-++ writing head (xs ++ tail),
        escaped-++ writing xs tail,
        append_assoc (escaped writing head) (escaped writing xs ++ escaped writing tail) (writing.flag ∷ []),
        append_assoc (escaped writing xs) (escaped writing tail) (writing.flag ∷ []),
      )

  pub length_pieces : length (frame writing at_flag (head ++ (xs ++ tail)))
      ≡ length (opening writing at_flag) + length (escaped writing head) + length (escaped writing xs) + length (escaped writing tail) + 1
  length_pieces =
      let o = length-append (opening writing at_flag) framed_head in
      let h = length-append (escaped writing head) framed_octets in
      let x = length-append (escaped writing xs) framed_tail in
      let t = length-append (escaped writing tail) (writing.flag ∷ []) in
      ap length pieces ∙ omega arith

  -- the longest frame of so many octets
  pub pieces_bound : length (frame writing at_flag (head ++ (xs ++ tail))) ≤ 2 * (length head + (length xs + length tail)) + 2
  pieces_bound = omega (arith, frame_bound writing at_flag (head ++ (xs ++ tail)), length-append head (xs ++ tail), length-append xs tail)

  -- the pieces put down one after another
  pub sets_pieces : (m m₁ m₂ m₃ m₄ : List ℕ) (i j k n : ℕ)
      → m₁ ≡ sets m 0 (opening writing at_flag) → i ≡ length (opening writing at_flag)
      → m₂ ≡ sets m₁ i (escaped writing head) → j ≡ i + length (escaped writing head)
      → m₃ ≡ sets m₂ j (escaped writing xs) → k ≡ j + length (escaped writing xs)
      → m₄ ≡ sets m₃ k (escaped writing tail) → n ≡ k + length (escaped writing tail)
      → set m₄ n writing.flag ≡ sets m 0 (frame writing at_flag (head ++ (xs ++ tail)))
  sets_pieces m m₁ m₂ m₃ m₄ i j k n e₁ i₁ e₂ j₁ e₃ k₁ e₄ n₁ =
      let i₀ : i ≡ 0 + length (opening writing at_flag) = omega arith in
      ap₂ (λ (l : List ℕ) (a : ℕ). set l a writing.flag) e₄ n₁
      ∙ sym (sets-++ (escaped writing tail) (writing.flag ∷ []) m₃ k)
      ∙ ap₂ (λ (l : List ℕ) (a : ℕ). sets l a framed_tail) e₃ k₁
      ∙ sym (sets-++ (escaped writing xs) framed_tail m₂ j)
      ∙ ap₂ (λ (l : List ℕ) (a : ℕ). sets l a framed_octets) e₂ j₁
      ∙ sym (sets-++ (escaped writing head) framed_octets m₁ i)
      ∙ ap₂ (λ (l : List ℕ) (a : ℕ). sets l a framed_head) e₁ i₀
      ∙ sym (sets-++ (opening writing at_flag) framed_head m 0)
      ∙ ap (sets m 0) (sym pieces)
