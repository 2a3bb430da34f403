-- Laws of the parts of a whole capture, over lists alone. Assumes nothing.
use Prim.Native.Nat.{ℕ, zero, suc, ◌+◌, ◌-◌, ◌≤◌, ◌<◌}
use mathlib.Core.Bool.{Bool, true, false, cond}
use mathlib.Core.List.{List, [], ◌∷◌, ◌++◌}
use mathlib.Core.Path.{◌≡◌, refl, sym, ap, ◌∙◌}
use native.Mathlib.Nat.{zero-add, le_of_suc-le-suc}
use native.Mathlib.Numerals.{add-one}
use native.Mathlib.Omega.{arith}
use lib.Dec.{eqb}
use lib.ListN.{length, get_or, drop, drop_of_length-le}
use mir.Val.{bool_byte}
use lib.Seq.{drop-cons}
use Rattle.capture.specs.Whole.{before, flags, closed, between, after}
use Rattle.framing.specs.Flags.{has_flag}

module _ (flag : ℕ) where
  -- ---- a capture without a flag
  -- what holds of a flag at the front, and of another octet before octets without a flag
  no_flag : (x : ℕ) (xs : List ℕ) → has_flag flag (x ∷ xs) ≡ false → (eqb x flag ≡ false) × (has_flag flag xs ≡ false)
  unfolding has_flag
  no_flag x xs k = go (eqb x flag) k
    where
      go : (b : Bool) → cond b true (has_flag flag xs) ≡ false → (b ≡ false) × (has_flag flag xs ≡ false)
      go true h = let z : ◌≡◌ {A = ℕ} 0 1 = cc in absurd (omega arith)
      go false h = (refl, h)

  pub flags_none : (l : List ℕ) → has_flag flag l ≡ false → flags flag l ≡ 0
  unfolding flags
  flags_none [] k = refl
  flags_none (x ∷ l) k = let h = no_flag x l k in rw h.0 (flags_none l h.1)

  pub before_all : (l : List ℕ) → has_flag flag l ≡ false → before flag l ≡ length l
  unfolding before
  before_all [] k = refl
  before_all (x ∷ l) k = let h = no_flag x l k in rw h.0 (ap suc (before_all l h.1))

  pub closed_none : (l : List ℕ) → has_flag flag l ≡ false → closed flag l ≡ 0
  unfolding closed
  closed_none [] k = refl
  closed_none (x ∷ l) k = let h = no_flag x l k in rw (h.0, h.1)

  pub between_none : (l : List ℕ) → has_flag flag l ≡ false → between flag l ≡ 0
  unfolding between
  between_none [] k = refl
  between_none (x ∷ l) k = let h = no_flag x l k in rw h.0 (between_none l h.1)

  pub after_none : (l : List ℕ) → has_flag flag l ≡ false → after flag l ≡ 0
  unfolding after
  after_none [] k = refl
  after_none (x ∷ l) k = let h = no_flag x l k in rw (h.1, h.0)

  -- told by their number
  pub flags_zero : (l : List ℕ) → flags flag l ≡ 0 → has_flag flag l ≡ false
  unfolding has_flag flags
  flags_zero [] k = refl
  flags_zero (x ∷ l) k = go (eqb x flag) k (λ h. flags_zero l h)
    where
      go : (b : Bool) → cond b (suc (flags flag l)) (flags flag l) ≡ 0 → (flags flag l ≡ 0 → has_flag flag l ≡ false) → cond b true (has_flag flag l) ≡ false
      go true h ih = let z : ⊥ = omega (arith, h) in absurd z
      go false h ih = ih h

  pub flags_some : (l : List ℕ) → 0 < flags flag l → has_flag flag l ≡ true
  flags_some l h = go (has_flag flag l) refl
    where
      go : (b : Bool) → has_flag flag l ≡ b → has_flag flag l ≡ true
      go true e = e
      go false e = let z : ⊥ = omega (arith, h, flags_none l e) in absurd z

  -- ---- the parts are the whole
  -- behind a flag
  closed_adds : (l : List ℕ) → closed flag l + (flags flag l + cond (has_flag flag l) (after flag l) (length l)) ≡ length l
  unfolding closed flags has_flag after
  closed_adds [] = refl
  closed_adds (x ∷ l) = go (eqb x flag) (has_flag flag l) refl (closed_adds l)
    where
      go : (b h : Bool) → has_flag flag l ≡ h → closed flag l + (flags flag l + cond h (after flag l) (length l)) ≡ length l
          → cond b (closed flag l) (cond h (suc (closed flag l)) 0)
          + (cond b (suc (flags flag l)) (flags flag l) + cond (cond b true h) (cond h (after flag l) (cond b (length l) 0)) (suc (length l)))
          ≡ suc (length l)
      go true true e ih = omega (arith, ih)
      go true false e ih = omega (arith, ih)
      go false true e ih = omega (arith, ih)
      go false false e ih = let n = flags_none l e in omega (arith, n)

  -- "what a capture adds to the four octet counts adds up to its length"
  pub parts_add_up : (l : List ℕ) → before flag l + (flags flag l + (between flag l + after flag l)) ≡ length l
  unfolding before flags between after
  parts_add_up [] = refl
  parts_add_up (x ∷ l) = go (eqb x flag) (has_flag flag l) refl (parts_add_up l)
    where
      go : (b h : Bool) → has_flag flag l ≡ h → before flag l + (flags flag l + (between flag l + after flag l)) ≡ length l
          → cond b 0 (suc (before flag l)) + (cond b (suc (flags flag l)) (flags flag l) + (cond b (closed flag l) (between flag l) + cond h (after flag l) (cond b (length l) 0)))
          ≡ suc (length l)
      go true h e ih =
          let n = closed_adds l in
          let k : cond (has_flag flag l) (after flag l) (length l) ≡ cond h (after flag l) (length l) = ap (λ (h : Bool). cond h (after flag l) (length l)) e in
          omega (arith, n, k)
      go false true e ih = omega (arith, ih)
      go false false e ih = let n = after_none l e in omega (arith, ih, n)

  -- octets with a flag behind them are those before the first flag, and those between two
  pub closed_is : (l : List ℕ) → has_flag flag l ≡ true → closed flag l ≡ before flag l + between flag l
  unfolding has_flag before closed between
  closed_is [] k = let z : ◌≡◌ {A = ℕ} 0 1 = cc in absurd (omega arith)
  closed_is (x ∷ l) k = go (eqb x flag) k (has_flag flag l) refl (λ h. closed_is l h)
    where
      go : (b : Bool) → cond b true (has_flag flag l) ≡ true → (h : Bool) → has_flag flag l ≡ h → (has_flag flag l ≡ true → closed flag l ≡ before flag l + between flag l)
          → cond b (closed flag l) (cond h (suc (closed flag l)) 0) ≡ cond b 0 (suc (before flag l)) + cond b (closed flag l) (between flag l)
      go true k h e ih = omega arith
      go false k true e ih = let n = ih e in omega (arith, n)
      go false k false e ih = let z : ◌≡◌ {A = ℕ} 0 1 = cc in absurd (omega arith)

  -- the last flag is none of the octets behind it
  pub after_less : (l : List ℕ) → has_flag flag l ≡ true → after flag l < length l
  unfolding has_flag after
  after_less [] k = let z : ◌≡◌ {A = ℕ} 0 1 = cc in absurd (omega arith)
  after_less (x ∷ l) k = go (eqb x flag) (has_flag flag l) k (λ h. after_less l h) refl
    where
      go : (b h : Bool) → cond b true h ≡ true → (h ≡ true → after flag l < length l) → has_flag flag l ≡ h → cond h (after flag l) (cond b (length l) 0) < suc (length l)
      go b true k ih e = let n = ih refl in omega (arith, n)
      go true false k ih e = omega arith
      go false false k ih e = omega arith

  -- flags of octets, and of others
  flags-++ : (xs ys : List ℕ) → flags flag (xs ++ ys) ≡ flags flag xs + flags flag ys
  unfolding flags
  flags-++ [] ys = sym (zero-add (flags flag ys))
  flags-++ (x ∷ xs) ys = go (eqb x flag) (flags-++ xs ys)
    where
      go : (b : Bool) → flags flag (xs ++ ys) ≡ flags flag xs + flags flag ys
          → cond b (suc (flags flag (xs ++ ys))) (flags flag (xs ++ ys)) ≡ cond b (suc (flags flag xs)) (flags flag xs) + flags flag ys
      go true ih = omega (arith, ih)
      go false ih = ih

  -- ---- a loop that goes part by part: a part with r flags stands before those that are left
  pub flags_part : (l part left : List ℕ) (n r : ℕ) → r ≡ flags flag part → n + flags flag (part ++ left) ≡ flags flag l
      → (n + r + flags flag left ≡ flags flag l) × (n + r ≤ length l)
  flags_part l part left n r e inv =
      let w : n + r + flags flag left ≡ flags flag l = omega (arith, e, inv, flags-++ part left) in
      (w, omega (arith, w, parts_add_up l))

  -- ---- a loop that stands at octet i
  module _ (l : List ℕ) (i : ℕ) where
    pub flags_end : length l ≤ i → flags flag (drop i l) ≡ 0
    unfolding flags
    flags_end h = rw (drop_of_length-le l h)

    module _ (h : i < length l) where
      at : drop i l ≡ get_or l i 0 ∷ drop (i + 1) l
      at = drop-cons l i 0 h ∙ ap (λ (k : ℕ). get_or l i 0 ∷ drop k l) (sym (add-one i))

      -- r: one for a flag
      pub flags_turn : (n r : ℕ) → r ≡ bool_byte (eqb (get_or l i 0) flag) → n + flags flag (drop i l) ≡ flags flag l → (r ≤ 1) × (n + r + flags flag (drop (i + 1) l) ≡ flags flag l)
      unfolding flags
      flags_turn n r e inv =
          let k : flags flag (drop i l) ≡ cond (eqb (get_or l i 0) flag) (suc (flags flag (drop (i + 1) l))) (flags flag (drop (i + 1) l)) = ap (flags flag) at in
          go (eqb (get_or l i 0) flag) e k
        where
          go : (b : Bool) → r ≡ bool_byte b → flags flag (drop i l) ≡ cond b (suc (flags flag (drop (i + 1) l))) (flags flag (drop (i + 1) l))
              → (r ≤ 1) × (n + r + flags flag (drop (i + 1) l) ≡ flags flag l)
          go true e k = (omega (arith, e), omega (arith, e, k, inv))
          go false e k = (omega (arith, e), omega (arith, e, k, inv))

  -- ---- the last flag by its index
  has_flag-at : (l : List ℕ) (i : ℕ) → i < length l → eqb (get_or l i 0) flag ≡ true → has_flag flag l ≡ true
  unfolding has_flag
  has_flag-at [] i h e = let z : ⊥ = omega (arith, h) in absurd z
  has_flag-at (x ∷ l) zero h e = rw e
  has_flag-at (x ∷ l) (suc i) h e = go (eqb x flag) (has_flag-at l i (le_of_suc-le-suc h) e)
    where
      go : (b : Bool) → has_flag flag l ≡ true → cond b true (has_flag flag l) ≡ true
      go true ih = refl
      go false ih = ih

  pub after_at_lem : (l : List ℕ) (i : ℕ) → i < length l → eqb (get_or l i 0) flag ≡ true → has_flag flag (drop (suc i) l) ≡ false → after flag l ≡ length l - suc i
  unfolding after
  after_at_lem [] i h e k = let z : ⊥ = omega (arith, h) in absurd z
  after_at_lem (x ∷ l) zero h e k = rw (k, e) (omega arith)
  after_at_lem (x ∷ l) (suc i) h e k =
      let r = le_of_suc-le-suc h in
      let n = after_at_lem l i r e k in
      rw (has_flag-at l i r e) (omega (arith, n))

  -- the last n octets have no flag
  abbrev pub Bare : List ℕ → ℕ → Type 0
  Bare l n = has_flag flag (drop (length l - n) l) ≡ false

  pub bare_flag : (l : List ℕ) (n : ℕ) → n < length l → Bare l n → eqb (get_or l (length l - 1 - n) 0) flag ≡ true → n ≡ after flag l
  bare_flag l n h bare e =
      let i = length l - 1 - n in
      let z : length l - n ≡ suc i = omega arith in
      let k = after_at_lem l i (omega arith) e (ap (λ (j : ℕ). has_flag flag (drop j l)) (sym z) ∙ bare) in
      omega (arith, k)
