-- What an answer of `field_at` says of the octets there. Assumes nothing.
use mathlib.Core.Path.{◌≡◌, refl, sym, ap, ◌∙◌, subst}
use mathlib.Core.Bool.{Bool, true, false, cond, ◌&&◌}
use mathlib.Core.List.{List, []}
use Prim.Native.Nat.{ℕ, ◌+◌, ◌≤◌, ◌<◌}
use native.Mathlib.Omega.{arith}
use borrow.Author.Tests.{le-leb, leb-true, eqb-true}
use lib.Dec.{leb, ltb, eqb}
use lib.ListN.{length, get_or, take, drop}
use Rattle.common.proofs.Bools.{and_both}
use Rattle.ids.specs.Id.{valid_id, callsign_length}
use Rattle.stations.specs.FieldAt.{is_closing, is_id_at, field_at}
use Rattle.stations.specs.declared.Field.{Field}
use Rattle.stations.specs.declared.Field.TheVariants.{Closing, Id, Malformed}

pub no_id : valid_id [] ≡ false
unfolding valid_id callsign_length
no_id = refl

module _ (s : List ℕ) (p : ℕ) where
  -- the length octet, and the ID behind it
  abbrev n : ℕ
  n = get_or s p 0

  abbrev id : List ℕ
  id = take n (drop (p + 1) s)

  -- an ID lies within the fields and keeps the rule; where there is none, one that lies within them breaks it
  abbrev pub Told : Field → Type 0
  Told (Id q) = (q ≡ p + 1 + n) × (q ≤ length s) × (valid_id id ≡ true)
  Told Closing = p + n < length s → valid_id id ≡ false
  Told Malformed = p + n < length s → valid_id id ≡ false

  field_told : Told (field_at s p)
  unfolding field_at is_closing is_id_at
  field_told = by (ltb p (length s) && eqb n 0) (leb (p + 1 + n) (length s) && valid_id id) refl refl
    where
      by : (x y : Bool) → (ltb p (length s) && eqb n 0) ≡ x → (leb (p + 1 + n) (length s) && valid_id id) ≡ y → Told (cond x Closing (cond y (Id (p + 1 + n)) Malformed))
      by true y i j = λ h. ap (λ (n : ℕ). valid_id (take n (drop (p + 1) s))) (eqb-true n 0 (and_both (ltb p (length s)) (eqb n 0) i).1) ∙ no_id
      by false true i j =
          let q = and_both (leb (p + 1 + n) (length s)) (valid_id id) j in
          (refl, leb-true (p + 1 + n) (length s) q.0, q.1)
      by false false i j = λ h. ap (λ (x : Bool). x && valid_id id) (sym (le-leb (p + 1 + n) (length s) (omega arith))) ∙ j

  told : (v : Field) → v ≡ field_at s p → Told v
  told v e = subst Told (sym e) field_told

  -- an answer that is no ID
  pub told_other : (v : Field) → v ≡ field_at s p → ((q : ℕ) → v ≡ Id q → ⊥) → p + n < length s → valid_id id ≡ false
  told_other (Id q) e k = absurd (k q refl)
  told_other Closing e k = told Closing e
  told_other Malformed e k = told Malformed e

  -- one that is
  pub told_id : (v : Field) → v ≡ field_at s p → (q : ℕ) → v ≡ Id q → Told (Id q)
  told_id v e q i = told (Id q) (sym i ∙ e)
