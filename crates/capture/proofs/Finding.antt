-- The octets before the first flag, and behind the last, by the place at which std finds a flag. Assumes nothing.
use Rattle.std.proofs.Common.{ℕ, suc, ◌+◌, ◌≤◌, ◌<◌, Bool, true, false, cond, List, [], ◌∷◌, ◌≡◌, refl, sym, ap, ◌∙◌, arith, length, Some, None, reverse}
use Rattle.std.proofs.lemmas.Grind.{reverse_onto}
use Rattle.std.proofs.lemmas.List.{length-reverse}
use Rattle.std.proofs.lemmas.List.Folds.{position_or_len_push}
use Rattle.std.proofs.lemmas.List.Recursion.{is_position_or_len}
use Rattle.std.specs.List.{position, position_or_len}
use Rattle.std.specs.Option.{unwrap_or}
use borrow.Author.Tests.{eq-eqb, ne_eqb, ltb-true, ltb-false}
use lib.Dec.{eqb, ltb}
use Rattle.capture.proofs.Flags.{after_none, after_less, parts_add_up}
use Rattle.capture.specs.Whole.{before, after}
use Rattle.framing.specs.Flags.{has_flag}

-- what std finds among n octets, or d where it finds nothing
found_or : (m n d r : ℕ) → (m < n → m ≡ r) → (n ≤ m → d ≡ r) → unwrap_or (cond (ltb m n) (Some m) None) d ≡ r
found_or m n d r h k = go (ltb m n) refl
  where
    go : (b : Bool) → ltb m n ≡ b → unwrap_or (cond b (Some m) None) d ≡ r
    go true e = h (ltb-true m n e)
    go false e = k (ltb-false m n e)

-- one octet more before the others, of which the first n have no flag: b, whether it is one; h, whether one of the others is
another : (p n a : ℕ) (b h : Bool) → p ≡ cond h a n → (h ≡ true → a < n) → cond (eqb p n) (n + cond b 0 1) p ≡ cond (cond b true h) (cond h a (cond b n 0)) (suc n)
another p n a true true e k = let z = k refl in rw (e, ne_eqb a n (λ d. omega (arith, z, d)))
another p n a false true e k = let z = k refl in rw (e, ne_eqb a n (λ d. omega (arith, z, d)))
another p n a true false e k = rw (eq-eqb p n e) (omega arith)
another p n a false false e k = rw (eq-eqb p n e) (omega arith)

module _ (flag : ℕ) where
  abbrev is_flag : ℕ → Bool
  is_flag x = eqb x flag

  before_first : (l : List ℕ) → position_or_len is_flag l ≡ before flag l
  unfolding before
  before_first l = sym (is_position_or_len (before flag) is_flag refl (λ x xs. ap (λ (n : ℕ). cond (eqb x flag) 0 n) (omega arith)) l)

  before_at_most : (l : List ℕ) → before flag l ≤ length l
  before_at_most l = omega (arith, parts_add_up flag l)

  pub before_found : (l : List ℕ) → unwrap_or (position is_flag l) (length l) ≡ before flag l
  before_found l =
      let e = before_first l in
      let h = before_at_most l in
      found_or (position_or_len is_flag l) (length l) (length l) (before flag l) (λ k. e) (λ k. omega (arith, e, h))

  after_first : (l : List ℕ) → position_or_len is_flag (reverse l) ≡ cond (has_flag flag l) (after flag l) (length l)
  unfolding after has_flag
  after_first [] = refl
  after_first (x ∷ l) =
      ap (position_or_len is_flag) (reverse_onto l x []) ∙ position_or_len_push is_flag (reverse l) x
      ∙ rw (length-reverse l) (another (position_or_len is_flag (reverse l)) (length l) (after flag l) (eqb x flag) (has_flag flag l) (after_first l) (after_less flag l))

  pub after_found : (l : List ℕ) → unwrap_or (position is_flag (reverse l)) 0 ≡ after flag l
  after_found l = go (has_flag flag l) refl
    where
      first : (h : Bool) → has_flag flag l ≡ h → position_or_len is_flag (reverse l) ≡ cond h (after flag l) (length l)
      first h e = rw e at (after_first l)

      go : (h : Bool) → has_flag flag l ≡ h → unwrap_or (position is_flag (reverse l)) 0 ≡ after flag l
      go true e =
          let m = first true e in
          let few = after_less flag l e in
          found_or (position_or_len is_flag (reverse l)) (length (reverse l)) 0 (after flag l) (λ k. m) (λ k. omega (arith, m, few, length-reverse l))
      go false e =
          let m = first false e in
          found_or (position_or_len is_flag (reverse l)) (length (reverse l)) 0 (after flag l) (λ k. omega (arith, m, length-reverse l)) (λ k. sym (after_none flag l e))
