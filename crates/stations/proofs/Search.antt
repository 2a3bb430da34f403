-- The next station looked for by its index and by its number: either finds what the other found. Assumes nothing.
use Prim.Native.Nat.{ℕ, zero, suc, ◌+◌, ◌≤◌, ◌<◌}
use mathlib.Core.Bool.{Bool, true, false, cond}
use mathlib.Core.List.{List, [], ◌∷◌}
use mathlib.Core.Path.{◌≡◌, refl, ap}
use native.Mathlib.Omega.{arith}
use borrow.Author.Tests.{eqb-true, eqb-false, eq-eqb, ne_eqb}
use lib.Dec.{eqb}
use lib.ListN.{take}
use Rattle.common.proofs.Bools.{or_left, or_right, or_none}
use Rattle.ids.specs.Id.{valid_id}
use Rattle.stations.proofs.Extent.{on-length-ind, on-length-ind₂}
use Rattle.stations.proofs.Offset.{Found}
use Rattle.stations.specs.Fields.{no_next, malformed, matches, next_after, closed_at, on_length, stations_from, stations_of}
use Rattle.stations.specs.declared.Next.{Next}
use Rattle.stations.specs.declared.Stations.{Stations}
use Rattle.sums.specs.Sum.{next_station_sum}

-- the next station where the fields are closed
closed_ind : (P : Next → Type 0) (p m : ℕ) (x : Next) → P x → P no_next → P (closed_at p m x).next
unfolding closed_at
closed_ind P p m x h z = by (eqb m 0)
  where
    by : (b : Bool) → P (cond b malformed (record { end = p + 1; count = m; next = x })).next
    by true = z
    by false = h

-- ---- once found it is kept, and nothing more is looked for
pub next_after_found : (w n p m : ℕ) (f : List ℕ) (x : Next) → Found x → next_after w n p m f x ≡ x
unfolding next_after
next_after_found w n p m f x h = rw (ne_eqb x.number 0 h) (by (eqb m 1))
  where
    by : (b : Bool) → cond b x x ≡ x
    by true = refl
    by false = refl

abbrev Keeps : Next → Stations → Type 0
Keeps x r = Found r.next → r.next ≡ x

stations_from_keeps : (w n p m : ℕ) (x : Next) (k : ℕ) (s : List ℕ) → Found x → Keeps x (stations_from w n p m x k s)
unfolding stations_from
stations_from_keeps w n p m x k [] h f = absurd (f refl)
stations_from_keeps w n p m x (suc k) (a ∷ s) h f = stations_from_keeps w n (p + 1) m x k s h f
stations_from_keeps w n p m x zero (a ∷ s) h f₀ =
    on-length-ind (Keeps x) (eqb a 0) (valid_id (take a s)) (closed_at p m x) (stations_from w n (p + 1) (m + 1) (next_after w n p (m + 1) (a ∷ take a s) x) a s)
    (λ z. closed_ind (λ y. Found y → y ≡ x) p m x (λ f. refl) (λ f. absurd (f refl)))
    (λ z g. rw (next_after_found w n p (m + 1) (a ∷ take a s) x h) (stations_from_keeps w n (p + 1) (m + 1) x a s h))
    (λ f. absurd (f refl))
    f₀

stations_from_same : (w n w' n' p m : ℕ) (x : Next) (k : ℕ) (s : List ℕ) → Found x → stations_from w' n' p m x k s ≡ stations_from w n p m x k s
unfolding stations_from
stations_from_same w n w' n' p m x k [] h = refl
stations_from_same w n w' n' p m x (suc k) (a ∷ s) h = stations_from_same w n w' n' (p + 1) m x k s h
stations_from_same w n w' n' p m x zero (a ∷ s) h =
    ap (on_length (eqb a 0) (valid_id (take a s)) (closed_at p m x))
    (rw (next_after_found w n p (m + 1) (a ∷ take a s) x h, next_after_found w' n' p (m + 1) (a ∷ take a s) x h) (stations_from_same w n w' n' (p + 1) (m + 1) x a s h))

-- ---- the three ways that an ID is passed while nothing is found
abbrev pub here : (p m : ℕ) → List ℕ → Next
here p m f = record { number = m; index = p; sum = next_station_sum f }

pub next_after_source : (w n p m : ℕ) (f : List ℕ) → m ≡ 1 → next_after w n p m f no_next ≡ no_next
unfolding next_after
next_after_source w n p m f i = rw (eq-eqb m 1 i)

module _ (w n p m : ℕ) (f : List ℕ) (later : m ≡ 1 → ⊥) where
  pub next_after_here : matches w n p m ≡ true → next_after w n p m f no_next ≡ here p m f
  unfolding next_after
  next_after_here h = rw (ne_eqb m 1 later, h)

  pub next_after_other : matches w n p m ≡ false → next_after w n p m f no_next ≡ no_next
  unfolding next_after
  next_after_other h = rw (ne_eqb m 1 later, h)

next_after_ind : (P : Next → Type 0) (w n p m : ℕ) (f : List ℕ)
    → (m ≡ 1 → P no_next)
    → ((m ≡ 1 → ⊥) → matches w n p m ≡ true → P (here p m f))
    → ((m ≡ 1 → ⊥) → matches w n p m ≡ false → P no_next)
    → P (next_after w n p m f no_next)
next_after_ind P w n p m f source found other = by (eqb m 1) (matches w n p m) refl refl
  where
    by : (b c : Bool) → eqb m 1 ≡ b → matches w n p m ≡ c → P (next_after w n p m f no_next)
    by true c d e = let i : m ≡ 1 = eqb-true m 1 d in rw (next_after_source w n p m f i) (source i)
    by false true d e = rw (next_after_here w n p m f (eqb-false m 1 d) e) (found (eqb-false m 1 d) e)
    by false false d e = rw (next_after_other w n p m f (eqb-false m 1 d) e) (other (eqb-false m 1 d) e)

some : (m : ℕ) → m + 1 ≡ 0 → ⊥
some m h = omega arith

-- ---- what is found later has a higher index and a higher number
abbrev Later : (p m : ℕ) → Stations → Type 0
Later p m r = Found r.next → (p ≤ r.next.index) × (m < r.next.number)

stations_from_later : (w n p m k : ℕ) (s : List ℕ) → Later p m (stations_from w n p m no_next k s)
unfolding stations_from
stations_from_later w n p m k [] f = absurd (f refl)
stations_from_later w n p m (suc k) (a ∷ s) f = let e = stations_from_later w n (p + 1) m k s f in (omega arith, omega arith)
stations_from_later w n p m zero (a ∷ s) f₀ =
    on-length-ind (Later p m) (eqb a 0) (valid_id (take a s)) (closed_at p m no_next) (stations_from w n (p + 1) (m + 1) (next_after w n p (m + 1) (a ∷ take a s) no_next) a s)
    (λ z. closed_ind (λ y. Found y → (p ≤ y.index) × (m < y.number)) p m no_next (λ f. absurd (f refl)) (λ f. absurd (f refl)))
    (λ z g. next_after_ind (λ x. Later p m (stations_from w n (p + 1) (m + 1) x a s)) w n p (m + 1) (a ∷ take a s)
    (λ e f. let l = stations_from_later w n (p + 1) (m + 1) a s f in (omega arith, omega arith))
    (λ e h f. rw (stations_from_keeps w n (p + 1) (m + 1) (here p (m + 1) (a ∷ take a s)) a s (some m) f) (omega arith, omega arith))
    (λ e h f. let l = stations_from_later w n (p + 1) (m + 1) a s f in (omega arith, omega arith)))
    (λ f. absurd (f refl))
    f₀

-- ---- another search that meets the found ID and none between the source and it
abbrev Agree : (w n : ℕ) → Next → Type 0
Agree w n y =
    (matches w n y.index y.number ≡ true)
    × ((p m : ℕ) → 0 < p → 0 < m → p < y.index → m < y.number → matches w n p m ≡ false)

abbrev Follows : (w n : ℕ) → Stations → Stations → Type 0
Follows w n r r' = Found r.next → Agree w n r.next → r' ≡ r

module _ (w n w' n' : ℕ) where
  stations_from_exchange : (p m k : ℕ) (s : List ℕ) → m ≤ p → Follows w' n' (stations_from w n p m no_next k s) (stations_from w' n' p m no_next k s)
  unfolding stations_from
  stations_from_exchange p m k [] l f g = refl
  stations_from_exchange p m (suc k) (a ∷ s) l f g = stations_from_exchange (p + 1) m k s (omega arith) f g
  stations_from_exchange p m zero (a ∷ s) l f₀ g₀ =
      let field = a ∷ take a s in
      on-length-ind₂ (Follows w' n') (eqb a 0) (valid_id (take a s)) (closed_at p m no_next) (closed_at p m no_next)
      (stations_from w n (p + 1) (m + 1) (next_after w n p (m + 1) field no_next) a s)
      (stations_from w' n' (p + 1) (m + 1) (next_after w' n' p (m + 1) field no_next) a s)
      (λ f g. refl)
      (λ z y. next_after_ind
      (λ x. Follows w' n' (stations_from w n (p + 1) (m + 1) x a s) (stations_from w' n' (p + 1) (m + 1) (next_after w' n' p (m + 1) field no_next) a s))
      w n p (m + 1) field
      (λ e f g. rw (next_after_source w' n' p (m + 1) field e) (stations_from_exchange (p + 1) (m + 1) a s (omega arith) f g))
      (λ e h f g.
      let i : (stations_from w n (p + 1) (m + 1) (here p (m + 1) field) a s).next ≡ here p (m + 1) field
      = stations_from_keeps w n (p + 1) (m + 1) (here p (m + 1) field) a s (some m) f in
      let j : matches w' n' p (m + 1) ≡ true = rw i at g.0 in
      rw (next_after_here w' n' p (m + 1) field e j) (stations_from_same w n w' n' (p + 1) (m + 1) (here p (m + 1) field) a s (some m)))
      (λ e h f g.
      let i = stations_from_later w n (p + 1) (m + 1) a s f in
      let o : 0 < m = omega (arith, e) in
      let j : matches w' n' p (m + 1) ≡ false = g.1 p (m + 1) (omega arith) (omega arith) (omega arith) (omega arith) in
      rw (next_after_other w' n' p (m + 1) field e j) (stations_from_exchange (p + 1) (m + 1) a s (omega arith) f g)))
      (λ f g. refl)
      f₀ g₀

module _ (w n : ℕ) (s : List ℕ) (f : Found (stations_of w n s).next) where
  -- looked for by the number that was found
  pub by_number : stations_of 0 (stations_of w n s).next.number s ≡ stations_of w n s
  unfolding stations_of
  by_number =
      let y = (stations_from w n 0 0 no_next 0 s).next in
      stations_from_exchange w n 0 y.number 0 0 0 s (omega arith) f (
        or_right (eqb y.index 0) (eqb y.number y.number) (eq-eqb y.number y.number refl),
        λ p m hp hm lp lm. or_none (eqb p 0) (eqb m y.number) (ne_eqb p 0 (λ e. omega arith)) (ne_eqb m y.number (λ e. omega arith)),
      )

  -- looked for by the index that was found
  pub by_index : stations_of (stations_of w n s).next.index 0 s ≡ stations_of w n s
  unfolding stations_of
  by_index =
      let y = (stations_from w n 0 0 no_next 0 s).next in
      stations_from_exchange w n y.index 0 0 0 0 s (omega arith) f (
        or_left (eqb y.index y.index) (eqb y.number 0) (eq-eqb y.index y.index refl),
        λ p m hp hm lp lm. or_none (eqb p y.index) (eqb m 0) (ne_eqb p y.index (λ e. omega arith)) (ne_eqb m 0 (λ e. omega arith)),
      )
