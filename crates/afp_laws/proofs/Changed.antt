-- A single changed octet of a frame is refused by 31. Assumes nothing.
use mathlib.Core.Path.{◌≡◌, refl, sym, ap, ap₂, ◌∙◌}
use mathlib.Core.Bool.{Bool, true, false}
use mathlib.Core.List.{List, [], ◌∷◌, ◌++◌}
use Prim.Native.Nat.{ℕ, suc, ◌-◌, ◌/◌, ◌%◌, ◌≤◌, ◌<◌}
use native.Mathlib.Omega.{arith}
use borrow.Author.Tests.{eqb-true, eqb-false}
use lib.Dec.{eqb, lit<}
use lib.ListN.{length, get_or, take, drop, set, length-set, take-append-drop}
use lib.Seq.{get_or-set_same, get_or-set_other, set_split, split_at}
use Rattle.common.specs.Refusals.{guarded}
use Rattle.fcs.specs.Fcs.{preset, residue, feed_all, check_sequence}
use Rattle.fcs.proofs.Register.{Octets, octets-drop}
use Rattle.fcs.proofs.Residue.{check_residue, changed_octet}
use Rattle.afp.specs.Limits.{min_frame, max_frame}
use Rattle.afp.specs.Answers.{bad_check}
use Rattle.afp.specs.Layout.{octet, checked_length, checked_part, received_check}
use Rattle.afp_read.specs.Read.{refusals}
use Rattle.afp_read.proofs.Refusals.{envelope_check}
use Rattle.afp_read.proofs.Answers.{refused_envelope}
use Rattle.afp_laws.proofs.Accepted.{last_two}

-- ---- a frame whose check sequence is right leaves the residue
module _ (f : List ℕ) (o : Octets f) (l : 2 ≤ length f) where
  pub right_residue : received_check f ≡ check_sequence (checked_part f) → feed_all preset f ≡ residue
  right_residue c =
      let a = o (checked_length f) in
      let b = o (length f - 1) in
      let lo : check_sequence (checked_part f) % 256 ≡ octet f (checked_length f) = omega arith in
      let hi : check_sequence (checked_part f) / 256 ≡ octet f (length f - 1) = omega arith in
      ap (feed_all preset)
      (sym (take-append-drop (checked_length f) f)
      ∙ ap (λ (t : List ℕ). checked_part f ++ t) (last_two f l ∙ ap₂ (λ (x y : ℕ). x ∷ y ∷ []) (sym lo) (sym hi)))
      ∙ check_residue (checked_part f)

-- ---- one octet y in place of another
module _ (f : List ℕ) (i y : ℕ) (o : Octets f) (hy : y < 256) (hi : i < length f) (differs : octet f i ≡ y → ⊥) where
  octets-set : Octets (set f i y)
  octets-set j = by (eqb j i) refl
    where
      by : (b : Bool) → eqb j i ≡ b → get_or (set f i y) j 0 < 256
      by true e = rw (eqb-true j i e, get_or-set_same f i y 0) hy
      by false e = rw (get_or-set_other f i j y 0 (eqb-false j i e)) (o j)

  register_differs : feed_all preset f ≡ feed_all preset (set f i y) → ⊥
  register_differs e =
      differs
      (changed_octet preset (take i f) (drop (suc i) f) (octet f i) y (lit< tt) (octets-drop (suc i) f o) (o i) hy
      (ap (feed_all preset) (sym (split_at f i 0 hi)) ∙ e ∙ ap (feed_all preset) (set_split f i y hi)))

  module _ (long : min_frame ≤ length f) (short : length f ≤ max_frame) (right : received_check f ≡ check_sequence (checked_part f)) where
    abbrev g : List ℕ
    g = set f i y

    wrong : received_check g ≡ check_sequence (checked_part g) → ⊥
    wrong c =
        let n = length-set f i y in
        register_differs (right_residue f o (omega arith) right ∙ sym (right_residue g octets-set (omega arith) c))

    -- refused by 31, whatever a refusal makes of its number
    pub changed_refused : {A : Type 0} (refuse : ℕ → A) (done : A) → guarded (refusals g) refuse done ≡ refuse bad_check
    changed_refused refuse done =
        let n = length-set f i y in
        refused_envelope refuse done g bad_check
        (envelope_check g (omega arith) (omega arith) (received_check g) (check_sequence (checked_part g)) refl refl wrong)
        (λ z. omega arith)
