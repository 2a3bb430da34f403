-- The octets of a capture counted one by one, chunk after chunk. Cited by `Octets::add` and `Octets::with`; what the counts are of a whole capture is
-- a law (proofs/Whole), and so is that a chunk's octets one by one are its parts at once (proofs/Counting). Assumes nothing.
use Rattle.std.specs.Prelude.{ℕ, true, false, cond, List, [], ◌∷◌, eqb}
use Rattle.capture.specs.Whole.{before, flags, between, after}
use Rattle.capture.specs.declared.Octets.{Octets}
use Rattle.capture.specs.declared.Parts.{Parts}
use Rattle.counter.specs.Counted.{counted}

-- nothing read yet
abbrev pub fresh_octets : Octets
fresh_octets = record { synced = false; before = 0; flags = 0; between = 0; after = 0 }

-- the parts of a chunk
abbrev pub parts_of : (flag : ℕ) → List ℕ → Parts
parts_of flag l = record { before = before flag l; flags = flags flag l; between = between flag l; after = after flag l }

module _ (most : ℕ) where
  -- n octets that are no flags: after the flag that came last, or before any
  unfoldable pub plain_added : Octets → (n : ℕ) → Octets
  plain_added c n =
      cond c.synced
      (record { synced = true; before = c.before; flags = c.flags; between = c.between; after = counted most c.after n })
      (record { synced = false; before = counted most c.before n; flags = c.flags; between = c.between; after = c.after })

  -- a flag: the octets since the last one are between two
  unfoldable pub flag_added : Octets → Octets
  flag_added c = record { synced = true; before = c.before; flags = counted most c.flags 1; between = counted most c.between c.after; after = 0 }

  -- one octet more
  unfoldable pub count : (flag : ℕ) → Octets → (x : ℕ) → Octets
  count flag c x = cond (eqb x flag) (flag_added c) (plain_added c 1)

  -- the octets of a chunk
  unfoldable pub count_all : (flag : ℕ) → Octets → List ℕ → Octets
  count_all flag c [] = c
  count_all flag c (x ∷ xs) = count_all flag (count flag c x) xs

  -- n flags at once: so many octets between the first of them and the last, and so many behind the last
  unfoldable pub flags_added : Octets → (n inner last : ℕ) → Octets
  flags_added c n inner last = record {
    synced = true;
    before = c.before;
    flags = counted most c.flags n;
    between = counted most (counted most c.between c.after) inner;
    after = counted most 0 last;
  }

  -- octets with these parts at once
  unfoldable pub parts_added : Octets → Parts → Octets
  parts_added c p = let o = plain_added c p.before in cond (eqb p.flags 0) o (flags_added o p.flags p.between p.after)
