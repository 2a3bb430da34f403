-- Texts put into a lent buffer one after another: where there is room for the whole, the pieces are the whole. Assumes nothing.
use Prim.Native.Nat.{ℕ, ◌+◌, ◌-◌, ◌≤◌}
use mathlib.Core.List.{List, ◌++◌}
use mathlib.Core.Path.{◌≡◌, sym, ap, ap₂, ◌∙◌}
use native.Mathlib.Omega.{arith}
use lib.ListN.{length, take, drop, length-append, length-drop}
use lib.Seq.{sets, take_all, length-sets}
use Rattle.common.proofs.Buffer.{sets-++}
use Rattle.octets.proofs.Putting.{into_fits, end_fits}
use Rattle.octets.specs.Put.{put_into, put_end}
use Rattle.text.specs.Placed.{Placed}
use Rattle.text.specs.Text.{max_digits, decimal}

-- what a call has put that had room
pub placed : (xs m : List ℕ) (i : ℕ) (m' : List ℕ) (j : ℕ) → i + length xs ≤ length m → j ≡ put_end xs m i → m' ≡ put_into xs m i → Placed m i xs m' j
placed xs m i m' j h e d = record { behind = e ∙ end_fits xs m i h; octets = d ∙ into_fits xs m i h }

-- one piece and then another
pub placed-++ : (m : List ℕ) (i : ℕ) (xs ys m₁ m₂ : List ℕ) (j k : ℕ) → Placed m i xs m₁ j → Placed m₁ j ys m₂ k → Placed m i (xs ++ ys) m₂ k
placed-++ m i xs ys m₁ m₂ j k p q = record {
  behind = omega (arith, length-append xs ys, p.behind, q.behind);
  octets = q.octets ∙ ap₂ (λ (n : List ℕ) (j : ℕ). sets n j ys) p.octets p.behind ∙ sym (sets-++ xs ys m i);
}

-- the buffer's length
pub length-placed : (m : List ℕ) (i : ℕ) (xs m' : List ℕ) (j : ℕ) → Placed m i xs m' j → length m' ≡ length m
length-placed m i xs m' j p = ap length p.octets ∙ length-sets m i xs

-- where there was room for l octets and k more, at most l were put, and so there is room for the k
pub room_behind : (l k : ℕ) (m : List ℕ) (i : ℕ) (xs m' : List ℕ) (j : ℕ) → length xs ≤ l → i + (l + k) ≤ length m → Placed m i xs m' j → j + k ≤ length m'
room_behind l k m i xs m' j few room p = omega (arith, p.behind, length-placed m i xs m' j p)

-- a piece of at most l octets, and room for what comes behind it
pub placed_then : (l k : ℕ) (xs m : List ℕ) (i : ℕ) (m' : List ℕ) (j : ℕ) → length xs ≤ l → i + (l + k) ≤ length m → j ≡ put_end xs m i → m' ≡ put_into xs m i
    → Placed m i xs m' j × (j + k ≤ length m')
placed_then l k xs m i m' j few room e d = let p = placed xs m i m' j (omega arith) e d in (p, room_behind l k m i xs m' j few room p)

-- the digits of a number, taken from the end of 20 octets
pub put_digits : (n r from i : ℕ) (digits m m' part : List ℕ) → length digits ≡ max_digits → drop from digits ≡ decimal n → part ≡ take (max_digits - from) (drop from digits)
    → r ≡ put_end part m i → m' ≡ put_into part m i → (r ≡ put_end (decimal n) m i) × (m' ≡ put_into (decimal n) m i)
put_digits n r from i digits m m' part long d e a b =
    let whole : part ≡ decimal n = e ∙ take_all (max_digits - from) (drop from digits) (rw length-drop (omega arith)) ∙ d in
    (a ∙ ap (λ (t : List ℕ). put_end t m i) whole, b ∙ ap (λ (t : List ℕ). put_into t m i) whole)
