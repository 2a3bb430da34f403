-- Laws of options at a place of a list, for the loop of valid_options, and of the supplementary header around them. Assumes nothing.
use Prim.Native.Nat.{ℕ, zero, suc, ◌+◌, ◌≤◌, ◌<◌}
use mathlib.Core.Bool.{Bool, true, false, cond, ◌&&◌}
use mathlib.Core.List.{List, [], ◌∷◌}
use mathlib.Core.Option.{Option, none, some}
use mathlib.Core.Path.{◌≡◌, refl, sym, ap, ◌∙◌}
use native.Mathlib.Omega.{arith}
use borrow.Author.Tests.{le-leb, lt-leb, eqb-true}
use lib.Dec.{leb, eqb}
use mir.Val.{bool_byte}
use lib.ListN.{length, get_or, take, drop, length-drop}
use lib.Seq.{take_all}
use Rattle.common.proofs.Bools.{and_both}
use Rattle.supplementary.specs.Options.{callsigns_after, valid_options, valid_supplementary, supplementary_octets, supplementary_in}

-- octets of a value passed at once
options_skip : (z k : ℕ) (s : List ℕ) → k ≤ length s → valid_options z k s ≡ valid_options z 0 (drop k s)
unfolding valid_options
options_skip z zero s h = refl
options_skip z (suc k) [] h = absurd (omega arith)
options_skip z (suc k) (x ∷ s) h = options_skip z k s (omega arith)

options_short : (z k : ℕ) (s : List ℕ) → length s < k → valid_options z k s ≡ false
unfolding valid_options
options_short z zero s h = absurd (omega arith)
options_short z (suc k) [] h = refl
options_short z (suc k) (x ∷ s) h = options_short z k s (omega arith)

-- nothing is left, or a type alone
pub options_end : (z : ℕ) (s : List ℕ) → length s < 2 → valid_options z 0 s ≡ eqb (length s) 0
unfolding valid_options
options_end z [] h = refl
options_end z (t ∷ []) h = refl
options_end z (t ∷ l ∷ s) h = absurd (omega arith)

-- an option at the front, in a loop that stands before s: the callsigns with it, and what is behind its type and its length
counted : (t z k : ℕ) → k ≡ bool_byte (eqb t 0) → z + k ≡ callsigns_after t z
unfolding callsigns_after
counted t z k = by (eqb t 0)
  where
    by : (b : Bool) → k ≡ bool_byte b → z + k ≡ cond b (z + 1) z
    by true e = omega arith
    by false e = omega arith

module _ (z k n : ℕ) (s : List ℕ) (all : Bool) (inv : valid_options z 0 s ≡ all) (e : k ≡ bool_byte (eqb (get_or s 0 0) 0)) (h : 2 ≤ length s) (m : length s ≤ 2 + n) where
  opened : (leb (z + k) 2 && valid_options (z + k) (get_or s 1 0) (take n (drop 2 s))) ≡ all
  unfolding valid_options
  opened = by s inv h m (counted (get_or s 0 0) z k e)
    where
      by : (s : List ℕ) → valid_options z 0 s ≡ all → 2 ≤ length s → length s ≤ 2 + n → z + k ≡ callsigns_after (get_or s 0 0) z
          → (leb (z + k) 2 && valid_options (z + k) (get_or s 1 0) (take n (drop 2 s))) ≡ all
      by [] inv h m e = absurd (omega arith)
      by (t ∷ []) inv h m e = absurd (omega arith)
      by (t ∷ l ∷ s) inv h m e = rw (e, take_all n s (omega arith)) inv

  pub option_third : 2 < z + k → false ≡ all
  option_third t = sym (ap (λ (b : Bool). b && valid_options (z + k) (get_or s 1 0) (take n (drop 2 s))) (lt-leb (z + k) 2 t)) ∙ opened

  module _ (few : z + k ≤ 2) (l : ℕ) (le : l ≡ get_or s 1 0) where
    went : valid_options (z + k) l (take n (drop 2 s)) ≡ all
    went = rw le (sym (ap (λ (b : Bool). b && valid_options (z + k) (get_or s 1 0) (take n (drop 2 s))) (le-leb (z + k) 2 few)) ∙ opened)

    -- the value decides: there are too few octets for it, or it is passed
    pub value_short : length (take n (drop 2 s)) < l → false ≡ all
    value_short o = sym (options_short (z + k) l (take n (drop 2 s)) o) ∙ went

    pub value_passed : (j : ℕ) → l ≤ length (take n (drop 2 s)) → length (take n (drop 2 s)) ≤ l + j → valid_options (z + k) 0 (take j (drop l (take n (drop 2 s)))) ≡ all
    value_passed j o p =
        ap (valid_options (z + k) 0) (take_all j (drop l (take n (drop 2 s))) (omega (arith, length-drop l (take n (drop 2 s)))))
        ∙ sym (options_skip (z + k) l (take n (drop 2 s)) o)
        ∙ went

-- a supplementary header and its octets determine each other
pub octets_in_lem : (s : List ℕ) → valid_supplementary s ≡ true → supplementary_octets (supplementary_in s) ≡ s
unfolding valid_supplementary supplementary_octets supplementary_in
octets_in_lem [] g = refl
octets_in_lem (l ∷ s) g = ap (λ (l : ℕ). l ∷ s) (sym (eqb-true l (length s) (and_both (eqb l (length s)) (valid_options 0 0 s) g).0))

pub in_octets : (o : Option (List ℕ)) → supplementary_in (supplementary_octets o) ≡ o
unfolding supplementary_octets supplementary_in
in_octets none = refl
in_octets (some s) = refl
