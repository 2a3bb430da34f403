-- Where station fields end, and that nothing behind their end is read. Assumes nothing.
use mathlib.Core.Path.{◌≡◌, refl, sym, ap, ◌∙◌}
use mathlib.Core.Bool.{Bool, true, false, cond}
use mathlib.Core.List.{List, [], ◌∷◌}
use Prim.Native.Nat.{ℕ, zero, suc, ◌+◌, ◌-◌, ◌≤◌, ◌<◌}
use native.Mathlib.Omega.{arith}
use lib.Dec.{eqb}
use lib.ListN.{length, take}
use lib.Seq.{take-take}
use Rattle.sums.specs.Sum.{next_station_sum}
use Rattle.ids.specs.Id.{valid_id}
use Rattle.stations.specs.Fields.{no_next, malformed, matches, next_after, closed_at, on_length, stations_from, stations_of}
use Rattle.stations.specs.declared.Next.{Next}
use Rattle.stations.specs.declared.Stations.{Stations}

-- ---- by cases of a length octet
pub on-length-ind : (P : Stations → Type 0) (b g : Bool) (stop go : Stations) → (b ≡ true → P stop) → (b ≡ false → g ≡ true → P go) → P malformed → P (on_length b g stop go)
on-length-ind P true g stop go f h z = f refl
on-length-ind P false true stop go f h z = h refl refl
on-length-ind P false false stop go f h z = z

pub on-length-ind₂ : (P : Stations → Stations → Type 0) (b g : Bool) (stop stop' go go' : Stations) → P stop stop' → (b ≡ false → g ≡ true → P go go') → P malformed malformed
    → P (on_length b g stop go) (on_length b g stop' go')
on-length-ind₂ P true g stop stop' go go' f h z = f
on-length-ind₂ P false true stop stop' go go' f h z = h refl refl
on-length-ind₂ P false false stop stop' go go' f h z = z

-- the fields are within the rule
abbrev pub Accepted : Stations → Type 0
Accepted r = r.end ≡ 0 → ⊥

-- ---- where accepted fields end
abbrev Ends : (p k n : ℕ) → Stations → Type 0
Ends p k n r = Accepted r → (p + k < r.end) × (r.end ≤ p + n)

closed_ends : (p m n : ℕ) (x : Next) → 0 < n → Ends p 0 n (closed_at p m x)
unfolding closed_at
closed_ends p m n x h = by (eqb m 0)
  where
    by : (b : Bool) → Ends p 0 n (cond b malformed (record { end = p + 1; count = m; next = x }))
    by true a = absurd (a refl)
    by false a = (omega arith, omega arith)

pub stations_from_ends : (w n p m : ℕ) (x : Next) (k : ℕ) (s : List ℕ) → Ends p k (length s) (stations_from w n p m x k s)
unfolding stations_from
stations_from_ends w n p m x k [] a = absurd (a refl)
stations_from_ends w n p m x (suc k) (a ∷ s) h =
    let e = stations_from_ends w n (p + 1) m x k s h in
    (omega arith, omega arith)
stations_from_ends w n p m x zero (a ∷ s) h₀ =
    on-length-ind (Ends p 0 (suc (length s))) (eqb a 0) (valid_id (take a s)) (closed_at p m x) (stations_from w n (p + 1) (m + 1) (next_after w n p (m + 1) (a ∷ take a s) x) a s)
    (λ z. closed_ends p m (suc (length s)) x (omega arith))
    (λ z g h. let e = stations_from_ends w n (p + 1) (m + 1) (next_after w n p (m + 1) (a ∷ take a s) x) a s h in (omega arith, omega arith))
    (λ h. absurd (h refl))
    h₀

-- ---- nothing behind the end of the fields is read
abbrev Read : (p : ℕ) → List ℕ → List ℕ → Stations → Type 0
Read p s t r = take (r.end - p) t ≡ take (r.end - p) s

same_head : (a b : ℕ) (s t : List ℕ) → b ∷ t ≡ a ∷ s → b ≡ a
same_head a b s t e = cc

same_tail : (a b : ℕ) (s t : List ℕ) → b ∷ t ≡ a ∷ s → t ≡ s
same_tail a b s t e = cc

-- two lists that agree on one octet and more
agree_head : (e a b : ℕ) (s t : List ℕ) → 0 < e → take e (b ∷ t) ≡ take e (a ∷ s) → (b ≡ a) × (take (e - 1) t ≡ take (e - 1) s)
agree_head zero a b s t h q = absurd (omega arith)
agree_head (suc e) a b s t h q =
    let z : suc e - 1 ≡ e = omega arith in
    (same_head a b (take e s) (take e t) q, rw z (same_tail a b (take e s) (take e t) q))

agree_none : (e a : ℕ) (s : List ℕ) → 0 < e → take e [] ≡ take e (a ∷ s) → ⊥
agree_none zero a s h q = omega arith
agree_none (suc e) a s h q = let z : ◌≡◌ {A = ℕ} 0 1 = cc in omega arith

agree_less : (a e : ℕ) (s t : List ℕ) → a ≤ e → take e t ≡ take e s → take a t ≡ take a s
agree_less a e s t h q = sym (take-take a e t h) ∙ ap (take a) q ∙ take-take a e s h

on-length-same : (R : Stations → Type 0) (b g g' : Bool) (stop go go' : Stations) → Accepted (on_length b g stop go) → R (on_length b g stop go)
    → (Accepted go → R go → (g' ≡ g) × (go' ≡ go)) → on_length b g' stop go' ≡ on_length b g stop go
on-length-same R true g g' stop go go' a r f = refl
on-length-same R false true g' stop go go' a r f = let e = f a r in rw e.0 e.1
on-length-same R false false g' stop go go' a r f = absurd (a refl)

module _ (w n : ℕ) where
  pub stations_from_local : (p m : ℕ) (x : Next) (k : ℕ) (s t : List ℕ) → Accepted (stations_from w n p m x k s) → Read p s t (stations_from w n p m x k s)
      → stations_from w n p m x k t ≡ stations_from w n p m x k s
  unfolding stations_from
  stations_from_local p m x k [] t a q = absurd (a refl)
  stations_from_local p m x (suc k) (a ∷ s) [] h q =
      let e = stations_from_ends w n (p + 1) m x k s h in
      absurd (agree_none ((stations_from w n (p + 1) m x k s).end - p) a s (omega arith) q)
  stations_from_local p m x (suc k) (a ∷ s) (b ∷ t) h q =
      let r = stations_from w n (p + 1) m x k s in
      let e = stations_from_ends w n (p + 1) m x k s h in
      let j : r.end - (p + 1) ≡ r.end - p - 1 = omega arith in
      stations_from_local (p + 1) m x k s t h (rw j (agree_head (r.end - p) a b s t (omega arith) q).1)
  stations_from_local p m x zero (a ∷ s) [] h q =
      let e = stations_from_ends w n p m x zero (a ∷ s) h in
      absurd (agree_none ((stations_from w n p m x zero (a ∷ s)).end - p) a s (omega arith) q)
  stations_from_local p m x zero (a ∷ s) (b ∷ t) h q =
      let e = stations_from_ends w n p m x zero (a ∷ s) h in
      let go = stations_from w n (p + 1) (m + 1) (next_after w n p (m + 1) (a ∷ take a s) x) a s in
      let i : b ≡ a = (agree_head ((stations_from w n p m x zero (a ∷ s)).end - p) a b s t (omega arith) q).0 in
      rw i (on-length-same (Read p (a ∷ s) (b ∷ t)) (eqb a 0) (valid_id (take a s)) (valid_id (take a t)) (closed_at p m x) go
      (stations_from w n (p + 1) (m + 1) (next_after w n p (m + 1) (a ∷ take a t) x) a t) h q
      (λ g r.
      let f = stations_from_ends w n (p + 1) (m + 1) (next_after w n p (m + 1) (a ∷ take a s) x) a s g in
      let j : go.end - (p + 1) ≡ go.end - p - 1 = omega arith in
      let v : take (go.end - (p + 1)) t ≡ take (go.end - (p + 1)) s = rw j (agree_head (go.end - p) a b s t (omega arith) r).1 in
      let u : take a t ≡ take a s = agree_less a (go.end - (p + 1)) s t (omega arith) v in
      (rw u, rw u (stations_from_local (p + 1) (m + 1) (next_after w n p (m + 1) (a ∷ take a s) x) a s t g v))))

-- ---- the next station's index is within the fields
next_after_place : (w n p m : ℕ) (f : List ℕ) (x : Next) → x.index ≤ p → (next_after w n p m f x).index ≤ p
unfolding next_after
next_after_place w n p m f x h = by (eqb m 1) (eqb x.number 0) (matches w n p m)
  where
    by : (a b c : Bool) → (cond a x (cond b (cond c (record { number = m; index = p; sum = next_station_sum f }) x) x)).index ≤ p
    by true b c = h
    by false true true = omega arith
    by false true false = h
    by false false c = h

abbrev Within : ℕ → Stations → Type 0
Within n r = (r.end ≤ n) × (r.next.index ≤ n)

closed_within : (p m n : ℕ) (x : Next) → x.index ≤ p → p < n → Within n (closed_at p m x)
unfolding closed_at
closed_within p m n x h l = by (eqb m 0)
  where
    by : (b : Bool) → Within n (cond b malformed (record { end = p + 1; count = m; next = x }))
    by true = (omega arith, omega arith)
    by false = (omega arith, omega arith)

stations_from_within : (w n p m : ℕ) (x : Next) (k : ℕ) (s : List ℕ) → x.index ≤ p → Within (p + length s) (stations_from w n p m x k s)
unfolding stations_from
stations_from_within w n p m x k [] h = (omega arith, omega arith)
stations_from_within w n p m x (suc k) (a ∷ s) h = let e = stations_from_within w n (p + 1) m x k s (omega arith) in (omega arith, omega arith)
stations_from_within w n p m x zero (a ∷ s) h =
    on-length-ind (Within (p + suc (length s))) (eqb a 0) (valid_id (take a s)) (closed_at p m x) (stations_from w n (p + 1) (m + 1) (next_after w n p (m + 1) (a ∷ take a s) x) a s)
    (λ z. closed_within p m (p + suc (length s)) x h (omega arith))
    (λ z g.
    let b = next_after_place w n p (m + 1) (a ∷ take a s) x h in
    let e = stations_from_within w n (p + 1) (m + 1) (next_after w n p (m + 1) (a ∷ take a s) x) a s (omega arith) in
    (omega arith, omega arith))
    (omega arith, omega arith)

-- ---- the same of a whole list
module _ (w n : ℕ) (s : List ℕ) (a : Accepted (stations_of w n s)) where
  pub stations_end : (0 < (stations_of w n s).end) × ((stations_of w n s).end ≤ length s)
  unfolding stations_of
  stations_end = let e = stations_from_ends w n 0 0 no_next 0 s a in (omega arith, omega arith)

  pub stations_local : (t : List ℕ) → take (stations_of w n s).end t ≡ take (stations_of w n s).end s → stations_of w n t ≡ stations_of w n s
  unfolding stations_of
  stations_local t q =
      let j : (stations_from w n 0 0 no_next 0 s).end - 0 ≡ (stations_from w n 0 0 no_next 0 s).end = omega arith in
      stations_from_local w n 0 0 no_next 0 s t a (rw j q)

pub stations_within : (w n : ℕ) (s : List ℕ) → ((stations_of w n s).end ≤ length s) × ((stations_of w n s).next.index ≤ length s)
unfolding stations_of
stations_within w n s = let e = stations_from_within w n 0 0 no_next 0 s (omega arith) in (omega arith, omega arith)
