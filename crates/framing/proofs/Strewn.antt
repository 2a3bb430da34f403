-- Lines that differ in skipped octets alone. Assumes nothing.
use Prim.Native.Nat.{ℕ}
use mathlib.Core.Bool.{Bool, true, false, cond}
use mathlib.Core.List.{List, [], ◌∷◌, ◌++◌}
use mathlib.Core.Path.{◌≡◌, refl, ap}
use Rattle.common.proofs.Each.{Each}
use Rattle.framing.specs.Reports.{unskipped}
use Rattle.framing.specs.Rules.{Rules}
use Rattle.framing.specs.Strewn.{Strewn}
use Rattle.framing.specs.Strewn.Strewn.{ends, keeps, puts}

-- octets put in between any two parts of a line
module _ (among : ℕ → Bool) where
  pub strewn_same : (l : List ℕ) → Strewn among l l
  strewn_same [] = ends
  strewn_same (x ∷ l) = keeps x (strewn_same l)

  strewn_front : (fs l : List ℕ) → Each (λ (x : ℕ). among x ≡ true) fs → Strewn among l (fs ++ l)
  strewn_front [] l h = strewn_same l
  strewn_front (x ∷ fs) l h = puts x h.0 (strewn_front fs l h.1)

  pub strewn_between : (xs fs ys : List ℕ) → Each (λ (x : ℕ). among x ≡ true) fs → Strewn among (xs ++ ys) (xs ++ (fs ++ ys))
  strewn_between [] fs ys h = strewn_front fs ys h
  strewn_between (x ∷ xs) fs ys h = keeps x (strewn_between xs fs ys h)

module _ {A R : Type 0} (rules : Rules A R) where
  -- without skipped octets the two lines are one
  pub strewn_unskipped : {l l' : List ℕ} → Strewn rules.skips l l' → unskipped rules l' ≡ unskipped rules l
  unfolding unskipped
  strewn_unskipped ends = refl
  strewn_unskipped (keeps x s) = ap (λ (l : List ℕ). cond (rules.skips x) l (x ∷ l)) (strewn_unskipped s)
  strewn_unskipped (puts x e s) = rw e (strewn_unskipped s)

  -- every line is one without them, in which they were put
  pub unskipped_strewn : (l : List ℕ) → Strewn rules.skips (unskipped rules l) l
  unfolding unskipped
  unskipped_strewn [] = ends
  unskipped_strewn (x ∷ l) = go (rules.skips x) refl (unskipped_strewn l)
    where
      go : (b : Bool) → rules.skips x ≡ b → Strewn rules.skips (unskipped rules l) l → Strewn rules.skips (cond b (unskipped rules l) (x ∷ unskipped rules l)) (x ∷ l)
      go true e s = puts x e s
      go false e s = keeps x s
