-- A change of two neighbouring octets, or of one of them, is refused by 31. Assumes nothing.
use mathlib.Core.Path.{◌≡◌, refl, sym, ap, ◌∙◌}
use mathlib.Core.Bool.{Bool}
use mathlib.Core.List.{List, [], ◌∷◌, ◌++◌}
use Prim.Native.Nat.{ℕ, zero, suc, ◌+◌, ◌*◌, ◌^◌, ◌<◌}
use native.Mathlib.Omega.{arith}
use lib.Bits.{bit_xor, xor_lt}
use lib.Dec.{eqb, lit<}
use lib.ListN.{length-append}
use Rattle.sums.specs.Sum.{not_calculated}
use Rattle.fcs.specs.Fcs.{preset, feed_all, check_sequence}
use Rattle.fcs.specs.Words.{shift_bits, little_endian}
use Rattle.common.proofs.Xor.{xor_left}
use Rattle.fcs.proofs.Register.{Octets, shifts_injective, feeds_lt, feeds_word, feed-++}
use Rattle.fcs.proofs.Residue.{feeds_injective}
use Rattle.afp.specs.Answers.{bad_check}
use Rattle.afp.specs.Layout.{checked_part, received_check, received_sum}
use Rattle.afp_read.specs.Meaning.{Meaning, refused, means, meant, meaning}
use Rattle.afp_read.proofs.Refusals.{envelope_check}
use Rattle.afp_read.proofs.Answers.{refused_envelope}
use Rattle.afp_laws.proofs.Accepted.{long_enough, short_enough, check_right}
use Rattle.afp_laws.proofs.Meanings.{meaning_passed}
use Rattle.afp_laws.proofs.Changed.{right_residue}

octets-++ : (xs ys : List ℕ) → Octets xs → Octets ys → Octets (xs ++ ys)
octets-++ [] ys ox oy i = oy i
octets-++ (x ∷ xs) ys ox oy zero = ox 0
octets-++ (x ∷ xs) ys ox oy (suc i) = octets-++ xs ys (λ i. ox (suc i)) oy i

octets_pair : (a b : ℕ) (ys : List ℕ) → a < 256 → b < 256 → Octets ys → Octets (a ∷ b ∷ ys)
octets_pair a b ys ha hb oy zero = ha
octets_pair a b ys ha hb oy (suc zero) = hb
octets_pair a b ys ha hb oy (suc (suc i)) = oy i

none : Octets []
none i = omega arith

pair_word : (a b : ℕ) → little_endian (a ∷ b ∷ []) ≡ a + b * 256
unfolding little_endian
pair_word a b = omega arith

-- the register after two octets tells them
module _ (r a b : ℕ) (ha : a < 256) (hb : b < 256) where
  pair_shift_lem : feed_all r (a ∷ b ∷ []) ≡ shift_bits 16 (bit_xor r (a + b * 256))
  pair_shift_lem = feeds_word r (a ∷ b ∷ []) (octets_pair a b [] ha hb none) ∙ ap (λ (w : ℕ). shift_bits 16 (bit_xor r w)) (pair_word a b)

pair_told : (r a b c d : ℕ) → r < 2 ^ 16 → a < 256 → b < 256 → c < 256 → d < 256 → feed_all r (a ∷ b ∷ []) ≡ feed_all r (c ∷ d ∷ []) → (a ≡ c) × (b ≡ d)
pair_told r a b c d hr ha hb hc hd e =
    let w : a + b * 256 ≡ c + d * 256
    = xor_left r (a + b * 256) (c + d * 256)
    (shifts_injective 16 (bit_xor r (a + b * 256)) (bit_xor r (c + d * 256)) (xor_lt 16 r (a + b * 256) hr (omega arith)) (xor_lt 16 r (c + d * 256) hr (omega arith))
    (sym (pair_shift_lem r a b ha hb) ∙ e ∙ pair_shift_lem r c d hc hd)) in
    (omega arith, omega arith)

module _ (xs ys : List ℕ) (a b c d : ℕ) (ox : Octets xs) (oy : Octets ys) (ha : a < 256) (hb : b < 256) (hc : c < 256) (hd : d < 256)
    (differs : a ≡ c → b ≡ d → ⊥) where
  abbrev f : List ℕ
  f = xs ++ a ∷ b ∷ ys

  abbrev g : List ℕ
  g = xs ++ c ∷ d ∷ ys

  after_pair : (a b : ℕ) → feed_all preset (xs ++ a ∷ b ∷ ys) ≡ feed_all (feed_all (feed_all preset xs) (a ∷ b ∷ [])) ys
  after_pair a b = feed-++ preset xs (a ∷ b ∷ ys) ∙ feed-++ (feed_all preset xs) (a ∷ b ∷ []) ys

  register_lt : feed_all preset xs < 2 ^ 16
  register_lt = feeds_lt preset xs (lit< tt)

  pair_lt : (a b : ℕ) → feed_all (feed_all preset xs) (a ∷ b ∷ []) < 2 ^ 16
  pair_lt a b = feeds_lt (feed_all preset xs) (a ∷ b ∷ []) register_lt

  register_differs : feed_all preset f ≡ feed_all preset g → ⊥
  register_differs e =
      let i = feeds_injective (feed_all (feed_all preset xs) (a ∷ b ∷ [])) (feed_all (feed_all preset xs) (c ∷ d ∷ [])) ys (pair_lt a b) (pair_lt c d) oy
      (sym (after_pair a b) ∙ e ∙ after_pair c d) in
      let t = pair_told (feed_all preset xs) a b c d register_lt ha hb hc hd i in
      differs t.0 t.1

  pub changed_neighbours_31 : (m : Meaning) (u : Bool) → meaning f ≡ means m u → meaning g ≡ refused bad_check
  unfolding meaning
  changed_neighbours_31 m u e =
      let ok = meaning_passed f m u e in
      let l = long_enough f ok in
      let s = short_enough f ok in
      let n = length-append xs (a ∷ b ∷ ys) in
      let k = length-append xs (c ∷ d ∷ ys) in
      refused_envelope refused (means (meant g) (eqb (received_sum g) not_calculated)) g bad_check
      (envelope_check g (omega arith) (omega arith) (received_check g) (check_sequence (checked_part g)) refl refl
      (λ w.
      register_differs
      (right_residue f (octets-++ xs (a ∷ b ∷ ys) ox (octets_pair a b ys ha hb oy)) (omega arith) (check_right f ok)
      ∙ sym (right_residue g (octets-++ xs (c ∷ d ∷ ys) ox (octets_pair c d ys hc hd oy)) (omega arith) w))))
      (λ z. omega arith)
