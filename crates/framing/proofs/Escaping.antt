-- Laws of octets on the line: their number, octets written one by one and part by part, octets that go out as they are. Assumes nothing.
use Prim.Native.Nat.{ℕ, ◌+◌, ◌-◌, ◌*◌, ◌≤◌, ◌<◌}
use mathlib.Core.Bool.{true, false}
use mathlib.Core.List.Memᴰ
use mathlib.Core.List.{List, [], ◌∷◌, ◌++◌, append_assoc, Memᴰ}
use mathlib.Core.Logic.{⊎_elim}
use mathlib.Core.Path.{◌≡◌, refl, sym, ap, ap₂, ◌∙◌}
use native.Mathlib.Numerals.{add-one}
use native.Mathlib.Omega.{arith}
use borrow.Author.Tests.{eqb-false}
use lib.Dec.{eqb}
use lib.ListN.{length, get_or, take, drop, drop_of_length-le, take-append-drop, length-append, length-drop}
use lib.Seq.{sets, drop-cons, drop-drop, take_all}
use Rattle.common.proofs.Bools.{either}
use Rattle.common.proofs.Buffer.{sets-++}
use Rattle.common.proofs.Plain.{plain_parts}
use Rattle.common.specs.Plain.{plain}
use Rattle.framing.specs.Writing.{Writing, escaped_one, escaped}

module _ (writing : Writing) where
  -- ---- one octet
  module _ (x : ℕ) where
    pub escaped_one-pair : writing.escapes x ≡ true → escaped_one writing x ≡ writing.escape ∷ writing.behind x ∷ []
    unfolding escaped_one
    escaped_one-pair e = rw e

    pub escaped_one-plain : writing.escapes x ≡ false → escaped_one writing x ≡ x ∷ []
    unfolding escaped_one
    escaped_one-plain e = rw e

    -- it takes one place on the line, or two
    pub length-escaped_one : (1 ≤ length (escaped_one writing x)) × (length (escaped_one writing x) ≤ 2)
    unfolding escaped_one
    length-escaped_one = either (λ (ys : List ℕ). (1 ≤ length ys) × (length ys ≤ 2)) (writing.escapes x) (λ _. omega arith) (λ _. omega arith)

  -- ---- octets
  pub escaped-++ : (xs ys : List ℕ) → escaped writing (xs ++ ys) ≡ escaped writing xs ++ escaped writing ys
  unfolding escaped
  escaped-++ [] ys = refl
  escaped-++ (x ∷ xs) ys = rw (append_assoc (escaped_one writing x) (escaped writing xs) (escaped writing ys), escaped-++ xs ys)

  -- they take as many places as they are at least, and twice as many at most
  pub length-escaped : (xs : List ℕ) → (length xs ≤ length (escaped writing xs)) × (length (escaped writing xs) ≤ 2 * length xs)
  unfolding escaped
  length-escaped [] = omega arith
  length-escaped (x ∷ xs) =
      let n = length-append (escaped_one writing x) (escaped writing xs) in
      let one = length-escaped_one x in
      let more = length-escaped xs in
      omega arith

  -- octets of which none is escaped go out as they are
  pub escaped_plain : (xs : List ℕ) → plain writing.escapes xs ≡ true → escaped writing xs ≡ xs
  unfolding plain escaped
  escaped_plain [] p = refl
  escaped_plain (x ∷ xs) p =
      let h = plain_parts writing.escapes x xs p in
      rw (escaped_one-plain x h.0, escaped_plain xs h.1)

  -- ---- a loop over the octets xs that stands at octet i: what is left to write
  module _ (xs : List ℕ) (i : ℕ) where
    pub escaped_end : length xs ≤ i → escaped writing (drop i xs) ≡ []
    unfolding escaped
    escaped_end h = rw (drop_of_length-le xs h)

    pub escaped_next : i < length xs → escaped writing (drop i xs) ≡ escaped_one writing (get_or xs i 0) ++ escaped writing (drop (i + 1) xs)
    unfolding escaped
    escaped_next h = rw (add-one, drop-cons xs i 0 h)

    -- the next k octets, and what is left behind them
    pub escaped_part : (k : ℕ) → escaped writing (drop i xs) ≡ escaped writing (take k (drop i xs)) ++ escaped writing (drop (i + k) xs)
    escaped_part k =
        ap (escaped writing) (sym (take-append-drop k (drop i xs)))
        ∙ escaped-++ (take k (drop i xs)) (drop k (drop i xs))
        ∙ ap (λ (l : List ℕ). escaped writing (take k (drop i xs)) ++ escaped writing l) (drop-drop k i xs)

    -- the same where the part is given by its two ends
    pub escaped_block : (k : ℕ) → escaped writing (drop i xs) ≡ escaped writing (take (i + k - i) (drop i xs)) ++ escaped writing (drop (i + k) xs)
    escaped_block k =
        let e : k ≡ i + k - i = omega arith in
        escaped_part k ∙ ap (λ (n : ℕ). escaped writing (take n (drop i xs)) ++ escaped writing (drop (i + k) xs)) e

  -- ---- the first k octets, and what is left
  module _ (xs : List ℕ) (k : ℕ) where
    pub escaped_parts : escaped writing xs ≡ escaped writing (take k xs) ++ escaped writing (take (length xs - k) (drop k xs))
    escaped_parts =
        ap (escaped writing) (sym (take-append-drop k xs))
        ∙ escaped-++ (take k xs) (drop k xs)
        ∙ ap (λ (l : List ℕ). escaped writing (take k xs) ++ escaped writing l) (sym (take_all (length xs - k) (drop k xs) (rw (length-drop k xs) (omega arith))))

    pub length-parts : length (escaped writing xs) ≡ length (escaped writing (take k xs)) + length (escaped writing (take (length xs - k) (drop k xs)))
    length-parts = ap length escaped_parts ∙ length-append (escaped writing (take k xs)) (escaped writing (take (length xs - k) (drop k xs)))

    -- put down one after the other
    pub sets-parts : (m m₁ m₂ : List ℕ) (at to : ℕ) → m₁ ≡ sets m at (escaped writing (take k xs)) → to ≡ at + length (escaped writing (take k xs))
        → m₂ ≡ sets m₁ to (escaped writing (take (length xs - k) (drop k xs))) → m₂ ≡ sets m at (escaped writing xs)
    sets-parts m m₁ m₂ at to e f g =
        let back = escaped writing (take (length xs - k) (drop k xs)) in
        g
        ∙ ap₂ (λ (n : List ℕ) (j : ℕ). sets n j back) e f
        ∙ sym (sets-++ (escaped writing (take k xs)) back m at)
        ∙ ap (sets m at) (sym escaped_parts)

  -- ---- no flag among octets on the line, where none stands as it is, no escape is one, and no partner of an escaped octet
  module _ (escape_kept : eqb writing.escape writing.flag ≡ false)
      (plain-kept : (x : ℕ) → writing.escapes x ≡ false → eqb x writing.flag ≡ false)
      (partner_kept : (x : ℕ) → writing.escapes x ≡ true → eqb (writing.behind x) writing.flag ≡ false) where
    one_no_flag : (x : ℕ) → Memᴰ writing.flag (escaped_one writing x) → ⊥
    unfolding escaped_one
    one_no_flag x =
        either (λ (ys : List ℕ). Memᴰ writing.flag ys → ⊥) (writing.escapes x)
        (λ e h. ⊎_elim (λ q. eqb-false writing.escape writing.flag escape_kept (sym q))
        (λ k. eqb-false (writing.behind x) writing.flag (partner_kept x e) (sym (Memᴰ.eq_of_singleton k))) (Memᴰ.cases_cons h))
        (λ e h. eqb-false x writing.flag (plain-kept x e) (sym (Memᴰ.eq_of_singleton h)))

    pub escaped_no_flag : (xs : List ℕ) → Memᴰ writing.flag (escaped writing xs) → ⊥
    unfolding escaped
    escaped_no_flag [] h = Memᴰ.not-nil h
    escaped_no_flag (x ∷ xs) h = ⊎_elim (one_no_flag x) (escaped_no_flag xs) (Memᴰ.append_cases (escaped_one writing x) h)
