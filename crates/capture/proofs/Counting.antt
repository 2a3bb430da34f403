-- Octets counted one by one, and a chunk at once: the same. Assumes nothing.
use Prim.Native.Nat.{ℕ, suc, ◌+◌, ◌-◌, ◌≤◌}
use mathlib.Core.Bool.{Bool, true, false, cond}
use mathlib.Core.List.{List, [], ◌∷◌, ◌++◌}
use mathlib.Core.Path.{◌≡◌, refl, sym, ap, ◌∙◌}
use native.Mathlib.Nat.{pos_of_ne-zero}
use native.Mathlib.Omega.{arith}
use borrow.Author.Tests.{eq-eqb, ne_eqb, eqb-true, eqb-false}
use lib.Dec.{eqb}
use lib.ListN.{length}
use Rattle.capture.proofs.Flags.{flags_none, before_all, closed_none, between_none, after_none, flags_zero, flags_some, parts_add_up, closed_is}
use Rattle.capture.specs.Octets.{plain_added, flag_added, count, count_all, flags_added, parts_of, parts_added}
use Rattle.capture.specs.Whole.{before, flags, closed, between, after}
use Rattle.capture.specs.declared.Octets.{Octets}
use Rattle.capture.specs.declared.Parts.{Parts}
use Rattle.common.proofs.Bools.{either}
use Rattle.counter.proofs.Counting.{counted_none, counted_more, counted_stopped}
use Rattle.counter.specs.Counted.{counted}
use Rattle.framing.specs.Flags.{has_flag}

module _ (most : ℕ) where
  -- the counts with n octets behind the last flag, and with n before any
  abbrev behind : Octets → (n : ℕ) → Octets
  behind c n = record { synced = true; before = c.before; flags = c.flags; between = c.between; after = n }

  abbrev ahead : Octets → (n : ℕ) → Octets
  ahead c n = record { synced = false; before = n; flags = c.flags; between = c.between; after = c.after }

  -- as the code goes: m is the count that changes
  module _ (c : Octets) (n : ℕ) where
    pub plain_behind : c.synced ≡ true → (m : ℕ) → m ≡ counted most c.after n
        → record { synced = c.synced; before = c.before; flags = c.flags; between = c.between; after = m } ≡ plain_added most c n
    unfolding plain_added
    plain_behind e m k = rw e (ap (behind c) k)

    pub plain_ahead : c.synced ≡ false → (m : ℕ) → m ≡ counted most c.before n
        → record { synced = c.synced; before = m; flags = c.flags; between = c.between; after = c.after } ≡ plain_added most c n
    unfolding plain_added
    plain_ahead e m k = rw e (ap (ahead c) k)

  -- no octets, and octets after octets
  plain_none : (c : Octets) → plain_added most c 0 ≡ c
  unfolding plain_added
  plain_none c = go c.synced refl
    where
      go : (b : Bool) → c.synced ≡ b → cond b (behind c (counted most c.after 0)) (ahead c (counted most c.before 0)) ≡ c
      go true e = ap (behind c) (counted_none most c.after) ∙ (λ i. record { synced = sym e i; before = c.before; flags = c.flags; between = c.between; after = c.after })
      go false e = ap (ahead c) (counted_none most c.before) ∙ (λ i. record { synced = sym e i; before = c.before; flags = c.flags; between = c.between; after = c.after })

  plain_more : (c : Octets) (j k : ℕ) → plain_added most (plain_added most c j) k ≡ plain_added most c (j + k)
  unfolding plain_added
  plain_more c j k = either (λ (d : Octets). plain_added most d k ≡ plain_added most c (j + k)) c.synced
      (λ e. rw e (ap (behind c) (counted_more most c.after j k)))
      (λ e. rw e (ap (ahead c) (counted_more most c.before j k)))

  -- as the code goes: m is what stood between two flags, with what the first flag closed
  pub flags_are : (c : Octets) (n inner last f m b a : ℕ) → f ≡ counted most c.flags n → m ≡ counted most c.between c.after → b ≡ counted most m inner → a ≡ counted most 0 last
      → ◌≡◌ {A = Octets} (record { synced = true; before = c.before; flags = f; between = b; after = a }) (flags_added most c n inner last)
  unfolding flags_added
  flags_are c n inner last f m b a fe me be ae =
      λ i. record { synced = true; before = c.before; flags = fe i; between = (be ∙ ap (λ (m : ℕ). counted most m inner) me) i; after = ae i }

  -- octets with parts, as the code goes: o is with those before the first flag
  module _ (c : Octets) (p : Parts) (o : Octets) (oe : o ≡ plain_added most c p.before) where
    pub with_none : p.flags ≡ 0 → o ≡ parts_added most c p
    unfolding parts_added
    with_none h = rw (eq-eqb _ _ h) oe

    pub with_some : (p.flags ≡ 0 → ⊥) → (r : Octets) → r ≡ flags_added most o p.flags p.between p.after → r ≡ parts_added most c p
    unfolding parts_added
    with_some h r re = rw (ne_eqb _ _ h) (re ∙ ap (λ (o : Octets). flags_added most o p.flags p.between p.after) oe)

module _ (most flag : ℕ) where
  -- chunk after chunk is the whole line
  pub count_all-++ : (c : Octets) (xs ys : List ℕ) → count_all most flag c (xs ++ ys) ≡ count_all most flag (count_all most flag c xs) ys
  unfolding count_all
  count_all-++ c [] ys = refl
  count_all-++ c (x ∷ xs) ys = count_all-++ (count most flag c x) xs ys

  -- octets without a flag
  pub count_all-plain : (l : List ℕ) (c : Octets) → has_flag flag l ≡ false → count_all most flag c l ≡ plain_added most c (length l)
  unfolding count_all count has_flag
  count_all-plain [] c k = sym (plain_none most c)
  count_all-plain (x ∷ l) c k = go (eqb x flag) k (λ h. count_all-plain l (plain_added most c 1) h)
    where
      go : (b : Bool) → cond b true (has_flag flag l) ≡ false
          → (has_flag flag l ≡ false → count_all most flag (plain_added most c 1) l ≡ plain_added most (plain_added most c 1) (length l))
          → count_all most flag (cond b (flag_added most c) (plain_added most c 1)) l ≡ plain_added most c (suc (length l))
      go true h ih = let z : ◌≡◌ {A = ℕ} 0 1 = cc in absurd (omega arith)
      go false h ih = let z : 1 + length l ≡ suc (length l) = omega arith in ih h ∙ plain_more most c 1 (length l) ∙ ap (plain_added most c) z

  -- octets with one, at once
  abbrev at_once : Octets → List ℕ → Octets
  at_once c l = flags_added most (plain_added most c (before flag l)) (flags flag l) (between flag l) (after flag l)

  -- a flag, and no other behind it
  flag_last : (c : Octets) (l : List ℕ) → has_flag flag l ≡ false
      → plain_added most (flag_added most c) (length l) ≡ flags_added most c (suc (flags flag l)) (closed flag l) (length l)
  unfolding plain_added flag_added flags_added
  flag_last c l k =
      let b = counted most c.between c.after in
      λ i. record {
        synced = true;
        before = c.before;
        flags = counted most c.flags (suc (sym (flags_none flag l k) i));
        between = (sym (counted_none most b) ∙ ap (counted most b) (sym (closed_none flag l k))) i;
        after = counted most 0 (length l);
      }

  -- a flag, and others behind it
  flag_more : (c : Octets) (l : List ℕ) → has_flag flag l ≡ true → at_once (flag_added most c) l ≡ flags_added most c (suc (flags flag l)) (closed flag l) (after flag l)
  unfolding plain_added flag_added flags_added
  flag_more c l k =
      let b = counted most c.between c.after in
      let z : 1 + flags flag l ≡ suc (flags flag l) = omega arith in
      λ i. record {
        synced = true;
        before = c.before;
        flags = (counted_more most c.flags 1 (flags flag l) ∙ ap (counted most c.flags) z) i;
        between =
            (ap (λ (n : ℕ). counted most n (between flag l)) (counted_stopped most b (before flag l))
            ∙ counted_more most b (before flag l) (between flag l)
            ∙ ap (counted most b) (sym (closed_is flag l k))) i;
        after = counted most 0 (after flag l);
      }

  abbrev Flagged : List ℕ → Type 0
  Flagged l = (c : Octets) → has_flag flag l ≡ true → count_all most flag c l ≡ at_once c l

  -- the first octet is a flag
  flagged_flag : (x : ℕ) (l : List ℕ) → Flagged l → eqb x flag ≡ true → (h : Bool) → has_flag flag l ≡ h → (c : Octets) → count_all most flag c (x ∷ l) ≡ at_once c (x ∷ l)
  unfolding count_all count before flags between after
  flagged_flag x l ih e true k c =
      rw (e, k) (ih (flag_added most c) k ∙ flag_more c l k ∙ ap (λ (c : Octets). flags_added most c (suc (flags flag l)) (closed flag l) (after flag l)) (sym (plain_none most c)))
  flagged_flag x l ih e false k c =
      rw (e, k) (count_all-plain l (flag_added most c) k ∙ flag_last c l k ∙ ap (λ (c : Octets). flags_added most c (suc (flags flag l)) (closed flag l) (length l)) (sym (plain_none most c)))

  -- another
  flagged_other : (x : ℕ) (l : List ℕ) → Flagged l → eqb x flag ≡ false → has_flag flag l ≡ true → (c : Octets) → count_all most flag c (x ∷ l) ≡ at_once c (x ∷ l)
  unfolding count_all count before flags between after
  flagged_other x l ih e k c =
      let z : 1 + before flag l ≡ suc (before flag l) = omega arith in
      rw (e, k) (ih (plain_added most c 1) k
      ∙ ap (λ (c : Octets). flags_added most c (flags flag l) (between flag l) (after flag l)) (plain_more most c 1 (before flag l) ∙ ap (plain_added most c) z))

  pub count_all-flagged : (l : List ℕ) → Flagged l
  unfolding has_flag
  count_all-flagged [] c k = let z : ◌≡◌ {A = ℕ} 0 1 = cc in absurd (omega arith)
  count_all-flagged (x ∷ l) c k = go (eqb x flag) refl k (count_all-flagged l)
    where
      go : (b : Bool) → eqb x flag ≡ b → cond b true (has_flag flag l) ≡ true → Flagged l → count_all most flag c (x ∷ l) ≡ at_once c (x ∷ l)
      go true e h ih = flagged_flag x l ih e (has_flag flag l) refl c
      go false e h ih = flagged_other x l ih e h c

  -- so a chunk's octets one by one are its parts at once
  count_all-parts : (l : List ℕ) (c : Octets) → count_all most flag c l ≡ parts_added most c (parts_of flag l)
  unfolding parts_added
  count_all-parts l c = go (eqb (flags flag l) 0) refl
    where
      go : (b : Bool) → eqb (flags flag l) 0 ≡ b → count_all most flag c l ≡ cond b (plain_added most c (before flag l)) (at_once c l)
      go true e = let k = flags_zero flag l (eqb-true _ _ e) in count_all-plain l c k ∙ ap (plain_added most c) (sym (before_all flag l k))
      go false e = count_all-flagged l c (flags_some flag l (pos_of_ne-zero (eqb-false _ _ e)))

  -- as the code goes: p are the chunk's parts
  pub parts_added_lem : (l : List ℕ) (c : Octets) (p : Parts) (r : Octets) → p ≡ parts_of flag l → r ≡ parts_added most c p → r ≡ count_all most flag c l
  parts_added_lem l c p r pe re = re ∙ ap (parts_added most c) pe ∙ sym (count_all-parts l c)

-- ---- as the code goes, on the chunk l: n is how many flags it has, and f and a how many octets stand before the first and after the last
module _ (flag : ℕ) (l : List ℕ) (n : ℕ) (ne : n ≡ flags flag l) where
  pub parts_none : n ≡ 0 → ◌≡◌ {A = Parts} (record { before = length l; flags = n; between = 0; after = 0 }) (parts_of flag l)
  parts_none h =
      let k = flags_zero flag l (sym ne ∙ h) in
      λ i. record { before = sym (before_all flag l k) i; flags = ne i; between = sym (between_none flag l k) i; after = sym (after_none flag l k) i }

  module _ (f a : ℕ) (fe : f ≡ before flag l) (ae : a ≡ after flag l) where
    pub parts_within : n + f + a ≤ length l
    parts_within = omega (arith, ne, fe, ae, parts_add_up flag l)

    pub parts_some : ◌≡◌ {A = Parts} (record { before = f; flags = n; between = length l - n - f - a; after = a }) (parts_of flag l)
    parts_some =
        let inner : length l - n - f - a ≡ between flag l = omega (arith, ne, fe, ae, parts_add_up flag l) in
        λ i. record { before = fe i; flags = ne i; between = inner i; after = ae i }
