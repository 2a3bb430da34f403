-- Two shapes of a list of whole numbers that the invariant is built from. Assumes nothing.
--
--   Rising lo xs hi   lo, x1, x2, .., hi never falls
--   Chain u xs e      each number is at most one past the one before it (u stands for that at the front), and e is at most one past the last
use Prim.Native.Nat.{ℕ, zero, suc, ◌≤◌}
use mathlib.Core.Path.{◌≡◌, refl}
use mathlib.Core.List.{List, [], ◌∷◌, ◌++◌}
use native.Mathlib.Omega.{arith}
use Rattle.window.specs.Sides.{erase_at}

abbrev pub Rising : ℕ → List ℕ → ℕ → Type 0
Rising lo [] hi = lo ≤ hi
Rising lo (x ∷ xs) hi = (lo ≤ x) × Rising x xs hi

pub rising_lower : (a b : ℕ) (xs : List ℕ) (hi : ℕ) → a ≤ b → Rising b xs hi → Rising a xs hi
rising_lower a b [] hi h r = omega arith
rising_lower a b (x ∷ xs) hi h r = (omega arith, r.1)

pub rising_upper : (lo : ℕ) (xs : List ℕ) (c d : ℕ) → c ≤ d → Rising lo xs c → Rising lo xs d
rising_upper lo [] c d h r = omega arith
rising_upper lo (x ∷ xs) c d h r = (r.0, rising_upper x xs c d h r.1)

pub rising_le : (lo : ℕ) (xs : List ℕ) (hi : ℕ) → Rising lo xs hi → lo ≤ hi
rising_le lo [] hi r = r
rising_le lo (x ∷ xs) hi r = omega (arith, r.0, rising_le x xs hi r.1)

pub rising-++ : (lo : ℕ) (xs : List ℕ) (m : ℕ) (ys : List ℕ) (hi : ℕ) → Rising lo xs m → Rising m ys hi → Rising lo (xs ++ ys) hi
rising-++ lo [] m ys hi r s = rising_lower lo m ys hi r s
rising-++ lo (x ∷ xs) m ys hi r s = (r.0, rising-++ x xs m ys hi r.1 s)

pub rising-erase_at : (n lo : ℕ) (xs : List ℕ) (hi : ℕ) → Rising lo xs hi → Rising lo (erase_at n xs) hi
rising-erase_at n lo [] hi r = r
rising-erase_at zero lo (x ∷ xs) hi r = rising_lower lo x xs hi r.0 r.1
rising-erase_at (suc n) lo (x ∷ xs) hi r = (r.0, rising-erase_at n x xs hi r.1)

-- one number more, at the end
pub rising_snoc : (lo : ℕ) (xs : List ℕ) (m n : ℕ) → m ≤ n → Rising lo xs m → Rising lo (xs ++ (n ∷ [])) n
rising_snoc lo xs m n h r = rising-++ lo xs m (n ∷ []) n r (h, omega arith)

abbrev pub Chain : ℕ → List ℕ → ℕ → Type 0
Chain u [] e = e ≤ u
Chain u (x ∷ xs) e = (x ≤ u) × Chain (suc x) xs e

pub chain_raise : (u v : ℕ) (xs : List ℕ) (e : ℕ) → u ≤ v → Chain u xs e → Chain v xs e
chain_raise u v [] e h c = omega arith
chain_raise u v (x ∷ xs) e h c = (omega arith, c.1)

pub chain-++ : (u : ℕ) (xs : List ℕ) (m : ℕ) (ys : List ℕ) (e : ℕ) → Chain u xs m → Chain m ys e → Chain u (xs ++ ys) e
chain-++ u [] m ys e c d = chain_raise m u ys e c d
chain-++ u (x ∷ xs) m ys e c d = (c.0, chain-++ (suc x) xs m ys e c.1 d)

pub chain_snoc : (u : ℕ) (xs : List ℕ) (e : ℕ) → Chain u xs e → Chain u (xs ++ (e ∷ [])) (suc e)
chain_snoc u xs e c = chain-++ u xs e (e ∷ []) (suc e) c (omega arith, omega arith)

-- the last number of a list, z where it is empty
abbrev pub last_or : ℕ → List ℕ → ℕ
last_or z [] = z
last_or z (x ∷ xs) = last_or x xs

pub last_or_snoc : (z : ℕ) (xs : List ℕ) (k : ℕ) → last_or z (xs ++ (k ∷ [])) ≡ k
last_or_snoc z [] k = refl
last_or_snoc z (x ∷ xs) k = last_or_snoc x xs k
