-- DATA in flight, with what the invariant knows of it beside the four bits that are on the line. Assumes nothing.
use Prim.Native.Nat.{ℕ, zero, suc, ◌+◌}
use mathlib.Core.Path.{◌≡◌, refl, ap}
use mathlib.Core.Option.{some, none-ne-some, some-injective}
use mathlib.Core.List.{List, [], ◌∷◌, ◌++◌, map, map-append, IsPrefix}
use native.Mathlib.Omega.{arith}
use native.Mathlib.Nat.{add-suc, suc-add}
use lib.ListN.{length, get_elem?}
use Rattle.window.specs.Sides.{erase_at}
use Rattle.window.specs.Packets.{Payload, Payloads}
use Rattle.window.proofs.Rising.{Rising, Chain}

-- its index among the payloads accepted; how many were accepted when it was sent; its payload
pub record InFlight : Type 0 where
  pub index : ℕ
  pub limit : ℕ
  pub payload : Payload

-- the payload that is accepted behind n others and sent at once
abbrev pub sent_next : ℕ → Payload → InFlight
sent_next n p = record { index = n; limit = suc n; payload = p }

abbrev pub indices : List InFlight → List ℕ
indices fs = map (λ (f : InFlight). f.index) fs

abbrev pub limits : List InFlight → List ℕ
limits fs = map (λ (f : InFlight). f.limit) fs

pub indices-++ : (fs gs : List InFlight) → indices (fs ++ gs) ≡ indices fs ++ indices gs
indices-++ fs gs = map-append (λ (f : InFlight). f.index) fs gs

pub limits-++ : (fs gs : List InFlight) → limits (fs ++ gs) ≡ limits fs ++ limits gs
limits-++ fs gs = map-append (λ (f : InFlight). f.limit) fs gs

-- taking an element away before or after a map
pub map-erase_at : {A B : Type 0} (f : A → B) (n : ℕ) (l : List A) → map f (erase_at n l) ≡ erase_at n (map f l)
map-erase_at f n [] = refl
map-erase_at f zero (x ∷ l) = refl
map-erase_at f (suc n) (x ∷ l) = ap (λ t. f x ∷ t) (map-erase_at f n l)

-- ---- what holds of every element
abbrev pub All : {A : Type 0} → (A → Type 0) → List A → Type 0
All P [] = Unit {0}
All P (x ∷ xs) = P x × All P xs

pub all-++ : {A : Type 0} (P : A → Type 0) (xs ys : List A) → All P xs → All P ys → All P (xs ++ ys)
all-++ P [] ys h k = k
all-++ P (x ∷ xs) ys h k = (h.0, all-++ P xs ys h.1 k)

pub all-erase_at : {A : Type 0} (P : A → Type 0) (n : ℕ) (xs : List A) → All P xs → All P (erase_at n xs)
all-erase_at P n [] h = h
all-erase_at P zero (x ∷ xs) h = h.1
all-erase_at P (suc n) (x ∷ xs) h = (h.0, all-erase_at P n xs h.1)

pub all_map : {A : Type 0} (P Q : A → Type 0) (xs : List A) → ((x : A) → P x → Q x) → All P xs → All Q xs
all_map P Q [] f h = h
all_map P Q (x ∷ xs) f h = (f x h.0, all_map P Q xs f h.1)

-- ---- where a payload stands in a list
pub get-++ : (xs ys : Payloads) (i : ℕ) (p : Payload) → get_elem? xs i ≡ some p → get_elem? (xs ++ ys) i ≡ some p
get-++ [] ys i p h = absurd (none-ne-some p h)
get-++ (x ∷ xs) ys zero p h = h
get-++ (x ∷ xs) ys (suc i) p h = get-++ xs ys i p h

pub get_seam : (xs : Payloads) (p : Payload) (ys : Payloads) → get_elem? (xs ++ (p ∷ ys)) (length xs) ≡ some p
get_seam [] p ys = refl
get_seam (x ∷ xs) p ys = get_seam xs p ys

-- the payload just behind an initial part makes it longer by one
pub prefix_snoc : (xs ys : Payloads) (p : Payload) → get_elem? (xs ++ ys) (length xs) ≡ some p → IsPrefix (xs ++ (p ∷ [])) (xs ++ ys)
prefix_snoc [] [] p h = absurd (none-ne-some p h)
prefix_snoc [] (y ∷ ys) p h = (ys, rw (some-injective y p h))
prefix_snoc (x ∷ xs) ys p h =
    let t = prefix_snoc xs ys p h in
    (t.0, ap (λ (l : Payloads). x ∷ l) t.1)

-- ---- "send all": the queue q goes out at the indices m, m + 1, .., when c payloads are accepted
abbrev pub batch : ℕ → ℕ → Payloads → List InFlight
batch c m [] = []
batch c m (p ∷ q) = record { index = m; limit = c; payload = p } ∷ batch c (suc m) q

pub batch_rising : (c m : ℕ) (q : Payloads) → Rising c (limits (batch c m q)) c
batch_rising c m [] = omega arith
batch_rising c m (p ∷ q) = (omega arith, batch_rising c (suc m) q)

pub batch_chain : (c m : ℕ) (q : Payloads) → Chain m (indices (batch c m q)) (m + length q)
batch_chain c m [] = omega arith
batch_chain c m (p ∷ q) = (omega arith, rw (add-suc m (length q), ← (suc-add m (length q))) (batch_chain c (suc m) q))
