-- A line with the whole numbers written beside its packets. Assumes nothing.
--
-- The ends and the lines know residues alone. The proof keeps, beside each line, a list of marks with `line ≡ map packet_of marks`: the
-- packets are what is left when the whole numbers are taken away.
use Prim.Native.Nat.{ℕ, zero, suc, ◌+◌, ◌%◌}
use mathlib.Core.Path.{◌≡◌, refl, ap, ◌∙◌}
use mathlib.Core.Option
use mathlib.Core.Option.{Option, none, some}
use mathlib.Core.List.{List, [], ◌∷◌, ◌++◌, map, append-nil}
use native.Mathlib.Omega.{arith}
use lib.ListN.{length, get_elem?}
use Rattle.window.specs.Sides.{erase_at}
use Rattle.window.specs.Packets.{modulus, Payloads, Packet, data_pdu, dack_pdu, count_data, count_dack, numbered}
use Rattle.window.proofs.InFlight.{InFlight, batch}

-- DATA in flight; or a DACK sent when so many payloads had been delivered
pub data Mark : Type 0 where
  data_mark : InFlight → Mark
  dack_mark : ℕ → Mark

-- the DATA of a line, and the DACKs of a line
abbrev pub data_of : List Mark → List InFlight
data_of [] = []
data_of (data_mark f ∷ g) = f ∷ data_of g
data_of (dack_mark k ∷ g) = data_of g

abbrev pub dacks_of : List Mark → List ℕ
dacks_of [] = []
dacks_of (data_mark f ∷ g) = dacks_of g
dacks_of (dack_mark k ∷ g) = k ∷ dacks_of g

data_of-++ : (g h : List Mark) → data_of (g ++ h) ≡ data_of g ++ data_of h
data_of-++ [] h = refl
data_of-++ (data_mark f ∷ g) h = ap (λ (t : List InFlight). f ∷ t) (data_of-++ g h)
data_of-++ (dack_mark k ∷ g) h = data_of-++ g h

dacks_of-++ : (g h : List Mark) → dacks_of (g ++ h) ≡ dacks_of g ++ dacks_of h
dacks_of-++ [] h = refl
dacks_of-++ (data_mark f ∷ g) h = dacks_of-++ g h
dacks_of-++ (dack_mark k ∷ g) h = ap (λ (t : List ℕ). k ∷ t) (dacks_of-++ g h)

-- marks of DATA alone
abbrev pub data_marks : List InFlight → List Mark
data_marks fs = map data_mark fs

data_of-data_marks : (fs : List InFlight) → data_of (data_marks fs) ≡ fs
data_of-data_marks [] = refl
data_of-data_marks (f ∷ fs) = ap (λ (t : List InFlight). f ∷ t) (data_of-data_marks fs)

dacks_of-data_marks : (fs : List InFlight) → dacks_of (data_marks fs) ≡ []
dacks_of-data_marks [] = refl
dacks_of-data_marks (f ∷ fs) = dacks_of-data_marks fs

-- a line to which DATA is added, and one to which a DACK is added
pub data_of_sent : (g : List Mark) (fs : List InFlight) → data_of (g ++ data_marks fs) ≡ data_of g ++ fs
data_of_sent g fs = data_of-++ g (data_marks fs) ∙ ap (λ (l : List InFlight). data_of g ++ l) (data_of-data_marks fs)

pub dacks_of-sent : (g : List Mark) (fs : List InFlight) → dacks_of (g ++ data_marks fs) ≡ dacks_of g
dacks_of-sent g fs = dacks_of-++ g (data_marks fs) ∙ ap (λ (l : List ℕ). dacks_of g ++ l) (dacks_of-data_marks fs) ∙ append-nil (dacks_of g)

pub data_of_answered : (g : List Mark) (k : ℕ) → data_of (g ++ (dack_mark k ∷ [])) ≡ data_of g
data_of_answered g k = data_of-++ g (dack_mark k ∷ []) ∙ append-nil (data_of g)

pub dacks_of-answered : (g : List Mark) (k : ℕ) → dacks_of (g ++ (dack_mark k ∷ [])) ≡ dacks_of g ++ (k ∷ [])
dacks_of-answered g k = dacks_of-++ g (dack_mark k ∷ [])

module _ (dack_number : ℕ → ℕ) where
  abbrev pub packet_of : Mark → Packet
  packet_of (data_mark f) = data_pdu (f.index % modulus) f.payload
  packet_of (dack_mark k) = dack_pdu (dack_number (k % modulus))

  -- "send all" puts the batch on the line
  pub numbered_batch : (c m x : ℕ) (q : Payloads) → x ≡ m % modulus → numbered x q ≡ map packet_of (data_marks (batch c m q))
  numbered_batch c m x [] h = refl
  numbered_batch c m x (p ∷ q) h = λ i. data_pdu (h i) p ∷ numbered_batch c (suc m) ((x + 1) % modulus) q (omega arith) i

  -- a line without DATA, and one without DACKs
  pub no_data_lem : (g : List Mark) → count_data (map packet_of g) ≡ 0 → data_of g ≡ []
  no_data_lem [] h = refl
  no_data_lem (data_mark f ∷ g) h = absurd (omega (arith, h))
  no_data_lem (dack_mark k ∷ g) h = no_data_lem g h

  pub no_dack_lem : (g : List Mark) → count_dack (map packet_of g) ≡ 0 → dacks_of g ≡ []
  no_dack_lem [] h = refl
  no_dack_lem (data_mark f ∷ g) h = no_dack_lem g h
  no_dack_lem (dack_mark k ∷ g) h = absurd (omega (arith, h))

pub count_numbered : (x : ℕ) (q : Payloads) → count_data (numbered x q) ≡ length q
count_numbered x [] = refl
count_numbered x (p ∷ q) = ap suc (count_numbered ((x + 1) % modulus) q)

pub get-map : {A B : Type 0} (f : A → B) (l : List A) (n : ℕ) → get_elem? (map f l) n ≡ Option.map f (get_elem? l n)
get-map f [] n = refl
get-map f (x ∷ l) zero = refl
get-map f (x ∷ l) (suc n) = get-map f l n

-- what the loss of the n-th packet takes away, by that packet: one DATA, or one DACK, or nothing
abbrev pub Taken : ℕ → List Mark → Option Mark → Type 0
Taken n g none = Unit {0}
Taken n g (some (data_mark f)) = (m : ℕ) × (data_of (erase_at n g) ≡ erase_at m (data_of g)) × (dacks_of (erase_at n g) ≡ dacks_of g)
Taken n g (some (dack_mark k)) = (m : ℕ) × (data_of (erase_at n g) ≡ data_of g) × (dacks_of (erase_at n g) ≡ erase_at m (dacks_of g))

taken_later : (k : Mark) (n : ℕ) (g : List Mark) (o : Option Mark) → Taken n g o → Taken (suc n) (k ∷ g) o
taken_later k n g none t = tt
taken_later (data_mark e) n g (some (data_mark f)) t = (suc t.0, ap (λ (l : List InFlight). e ∷ l) t.1, t.2)
taken_later (dack_mark j) n g (some (data_mark f)) t = (t.0, t.1, ap (λ (l : List ℕ). j ∷ l) t.2)
taken_later (data_mark e) n g (some (dack_mark k)) t = (t.0, ap (λ (l : List InFlight). e ∷ l) t.1, t.2)
taken_later (dack_mark j) n g (some (dack_mark k)) t = (suc t.0, t.1, ap (λ (l : List ℕ). j ∷ l) t.2)

pub taken_at : (n : ℕ) (g : List Mark) → Taken n g (get_elem? g n)
taken_at n [] = tt
taken_at zero (data_mark f ∷ g) = (0, refl, refl)
taken_at zero (dack_mark k ∷ g) = (0, refl, refl)
taken_at (suc n) (k ∷ g) = taken_later k n g (get_elem? g n) (taken_at n g)
