-- What stands where in a written frame. Assumes nothing.
use mathlib.Core.Path.{◌≡◌, refl}
use mathlib.Core.List.{List, [], ◌∷◌, ◌++◌, append_assoc}
use Prim.Native.Nat.{ℕ, ◌+◌, ◌-◌, ◌/◌, ◌%◌}
use native.Mathlib.Omega.{arith}
use lib.ListN.{length, get_or, length-append}
use lib.Seq.{take_at, get_or_at, get_or-append-add}
use Rattle.sums.specs.Sum.{header_sum}
use Rattle.fcs.specs.Fcs.{check_sequence, check_octets}
use Rattle.stations.specs.declared.Next.{Next}
use Rattle.stations.specs.Fields.{stations_of, next_offset}
use Rattle.afp.specs.Limits.{fixed_size, version}
use Rattle.afp.specs.Layout.{octet, checked_part, received_check, variable_part, received_sum, summed_part}
use Rattle.afp_write.specs.Frame.{header_length, with_check, header_before, header_of, frame_of}
use Rattle.afp_write.proofs.Buffers.{length_before}

-- ---- octets and their check octets
module _ (xs : List ℕ) where
  pub length-with_check : length (with_check xs) ≡ length xs + 2
  unfolding with_check
  length-with_check = length-append xs (check_octets xs)

  low : get_or (with_check xs) (length xs) 0 ≡ check_sequence xs % 256
  unfolding with_check
  low = get_or_at xs (check_sequence xs % 256) (check_sequence xs / 256 ∷ []) 0 (length xs) refl

  high : get_or (with_check xs) (length xs + 1) 0 ≡ check_sequence xs / 256
  unfolding with_check
  high = get_or-append-add xs (check_octets xs) 1 0

  pub checked-with_check : checked_part (with_check xs) ≡ xs
  unfolding with_check
  checked-with_check = let e = length-append xs (check_octets xs) in take_at xs (check_octets xs) (length (xs ++ check_octets xs) - 2) (omega arith)

  pub check-with_check : received_check (with_check xs) ≡ check_sequence xs
  check-with_check =
      let e = length-with_check in
      let z : length (with_check xs) - 2 ≡ length xs = omega arith in
      let y : length (with_check xs) - 1 ≡ length xs + 1 = omega arith in
      rw (z, y, low, high) (omega arith)

-- ---- a header before its sum, the sum y, and what follows
module _ (p : ℕ) (x : Next) (s h : List ℕ) (y : ℕ) (t : List ℕ) where
  abbrev pub whole : List ℕ
  whole = header_before p x s h ++ (y ∷ t)

  pub octet_0 : octet whole 0 ≡ x.sum
  unfolding header_before
  octet_0 = refl

  pub octet_1 : octet whole 1 ≡ version
  unfolding header_before
  octet_1 = refl

  pub octet_2 : octet whole 2 ≡ p
  unfolding header_before
  octet_2 = refl

  pub octet_3 : octet whole 3 ≡ header_length (length s) (length h)
  unfolding header_before
  octet_3 = refl

  pub octet_4 : octet whole 4 ≡ next_offset x
  unfolding header_before
  octet_4 = refl

  pub variable_is : variable_part whole ≡ s ++ h
  unfolding variable_part header_before
  variable_is =
      let z : length (s ++ h) ≡ header_length (length s) (length h) - fixed_size = rw (length-append s h) (omega arith) in
      take_at (s ++ h) (y ∷ t) (header_length (length s) (length h) - fixed_size) z

  pub sum_is : received_sum whole ≡ y
  sum_is = let l = length_before p x s h in rw octet_3 (get_or_at (header_before p x s h) y t 0 (header_length (length s) (length h) - 1) (omega arith))

  pub summed_is : summed_part whole ≡ header_before p x s h
  summed_is = let l = length_before p x s h in rw octet_3 (take_at (header_before p x s h) (y ∷ t) (header_length (length s) (length h) - 1) (omega arith))

-- a written frame is such a list
pub frame_is : (p : ℕ) (s : List ℕ) (n : ℕ) (h d : List ℕ)
    → frame_of p s n h d ≡ whole p (stations_of 0 n s).next s h (header_sum (header_before p (stations_of 0 n s).next s h)) (d ++ check_octets (header_of p (stations_of 0 n s).next s h ++ d))
unfolding frame_of with_check header_of
frame_is p s n h d = simp append_assoc
