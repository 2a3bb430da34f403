-- The station fields of an AFP header: each a length octet and that many octets of an ID, closed by a length octet 0.
-- Cited by stations' code, and by reader and writer. Assumes nothing.
--
--   stations_of w n s   what the station fields at the front of s hold: where they end, how many IDs, which one is next
--
-- The next station is the one whose length octet is at index w (so a reader looks for it) or whose number is n (so a writer does).
-- Neither finds anything at 0: numbers count from 1, and the source, at index 0, is never next.
use Rattle.std.specs.Prelude.{Bool, true, false, cond, not, ◌||◌, ◌&&◌, List, [], ◌∷◌, ℕ, zero, suc, ◌+◌, eqb, take}
use Rattle.sums.specs.Sum.{broadcast_sum, next_station_sum}
use Rattle.ids.specs.Id.{valid_id}
use Rattle.stations.specs.declared.Next.{Next}
use Rattle.stations.specs.declared.Stations.{Stations}

-- a broadcast: no next station, and octet 0 is FF
abbrev pub no_next : Next
no_next = record { number = 0; index = 0; sum = broadcast_sum }

-- no ID, one against the rule, or no closing 0
abbrev pub malformed : Stations
malformed = record { end = 0; count = 0; next = no_next }

-- the ID number m, with its length octet at index p, is the one wanted
abbrev pub matches : (w n p m : ℕ) → Bool
matches w n p m = eqb p w || eqb m n

-- the next station once the ID number m, with its field at index p, is passed: the first that is wanted, and never the source
unfoldable pub next_after : (w n p m : ℕ) → List ℕ → Next → Next
next_after w n p m field x =
    cond (eqb m 1) x
    (cond (eqb x.number 0) (cond (matches w n p m) (record { number = m; index = p; sum = next_station_sum field }) x) x)

-- the closing 0 at index p, after m IDs
unfoldable pub closed_at : (p m : ℕ) → Next → Stations
closed_at p m x = cond (eqb m 0) malformed (record { end = p + 1; count = m; next = x })

-- a length octet: the closing 0, or that of an ID within the rule, or of one against it
abbrev pub on_length : Bool → Bool → Stations → Stations → Stations
on_length true valid stop go = stop
on_length false true stop go = go
on_length false false stop go = malformed

-- the fields from index p on: m IDs passed, x the next station so far, k octets of the last ID still to pass
unfoldable pub stations_from : (w n p m : ℕ) → Next → ℕ → List ℕ → Stations
stations_from w n p m x k [] = malformed
stations_from w n p m x (suc k) (a ∷ s) = stations_from w n (p + 1) m x k s
stations_from w n p m x zero (a ∷ s) =
    on_length (eqb a 0) (valid_id (take a s)) (closed_at p m x)
    (stations_from w n (p + 1) (m + 1) (next_after w n p (m + 1) (a ∷ take a s) x) a s)

-- the station fields at the front of a list
unfoldable pub stations_of : (w n : ℕ) → List ℕ → Stations
stations_of w n s = stations_from w n 0 0 no_next 0 s

-- where the station fields begin in a frame
abbrev pub fields_at : ℕ
fields_at = 5

-- octet 4: 0 in a broadcast, else the place in the frame of the next station's length octet
unfoldable pub next_offset : Next → ℕ
next_offset x = cond (eqb x.number 0) 0 (fields_at + x.index)

-- several IDs, and none of them is next
unfoldable pub lacks_next : Stations → Bool
lacks_next r = not (eqb r.count 1) && eqb r.next.number 0
