-- The answers of `next_receiver`, one law for each; each section adds a test that refuses nothing. Assumes nothing.
use mathlib.Core.Path.{◌≡◌, sym, ap, ◌∙◌}
use Rattle.std.proofs.Common.{Result, Ok, Err}
use Rattle.std.specs.Result.{IsErrAnd}
use Rattle.afp.specs.Refused.{number_of}
use Rattle.afp.specs.declared.Refusal.{Refusal}
use Rattle.afp_receiver.specs.Told.{told}
use Rattle.afp_receiver.specs.declared.Receiver.{Receiver}
use mathlib.Core.Bool.{false, cond, not}
use mathlib.Core.List.{List, ◌++◌}
use Prim.Native.Nat.{ℕ, ◌+◌, ◌-◌, ◌≤◌, ◌<◌}
use native.Mathlib.Omega.{arith}
use borrow.Author.Tests.{le-leb, lt-leb, eq-eqb, ne_eqb}
use lib.Dec.{leb, eqb}
use lib.ListN.{length}
use Rattle.common.specs.Refusals.{guarded}
use Rattle.common.specs.FirstRefusal.{first_refusal}
use Rattle.common.proofs.Bools.{and_false}
use Rattle.common.proofs.Refusals.{guarded_done}
use Rattle.common.proofs.FirstRefusal.{first_passed, guarded-++, guarded_first}
use Rattle.sums.specs.Sum.{broadcast_sum}
use Rattle.ids.specs.Id.{between}
use Rattle.afp.specs.Answers.{bad_stations, bad_next, bad_next_sum}
use Rattle.afp.specs.Limits.{min_frame, min_header}
use Rattle.afp.specs.Layout.{octet, offset}
use Rattle.afp.specs.Sizes.{length_refusals, offset_refusals}
use Rattle.afp.proofs.Sizes.{length-passed, offset_passed}
use Rattle.afp_receiver.proofs.Field.{late_field}
use Rattle.afp_receiver.specs.Receiver.{pointer, field_part, first_next, pointer_refusals, end_refusals, id_refusals, sum_refusals, field_refusals, receiver_refusals, pointed_at, receiver_of}
use Rattle.afp_receiver.specs.declared.Receiver.TheVariants.{Refused, Broadcast, Station}

module _ (f : List ℕ) where
  -- ---- the length is judged first
  split-length : receiver_of f ≡ guarded (length_refusals (length f)) Refused (guarded (offset_refusals (offset f) (length f) ++ (pointer_refusals f ++ field_refusals f)) Refused (pointed_at f))
  unfolding receiver_of receiver_refusals
  split-length = guarded-++ Refused (pointed_at f) (length_refusals (length f)) (offset_refusals (offset f) (length f) ++ (pointer_refusals f ++ field_refusals f))

  pub length-refused : (n : ℕ) → n ≡ first_refusal (length_refusals (length f)) → (n ≡ 0 → ⊥) → Refused n ≡ receiver_of f
  length-refused n e z = sym (split-length ∙ guarded_first Refused _ (length_refusals (length f)) n e z)

  -- ---- then the data offset
  module _ (a : 0 ≡ first_refusal (length_refusals (length f))) where
    pub length-in : min_frame ≤ length f
    length-in = (length-passed (length f) (first_passed (length_refusals (length f)) tt (sym a))).0

    split_offset : receiver_of f ≡ guarded (offset_refusals (offset f) (length f)) Refused (guarded (pointer_refusals f ++ field_refusals f) Refused (pointed_at f))
    split_offset =
        split-length
        ∙ guarded_done Refused _ (length_refusals (length f)) (first_passed (length_refusals (length f)) tt (sym a))
        ∙ guarded-++ Refused (pointed_at f) (offset_refusals (offset f) (length f)) (pointer_refusals f ++ field_refusals f)

    pub offset_refused : (n : ℕ) → n ≡ first_refusal (offset_refusals (offset f) (length f)) → (n ≡ 0 → ⊥) → Refused n ≡ receiver_of f
    offset_refused n e z = sym (split_offset ∙ guarded_first Refused _ (offset_refusals (offset f) (length f)) n e z)

    -- ---- then octet 4
    module _ (b : 0 ≡ first_refusal (offset_refusals (offset f) (length f))) where
      pub offset_in : (min_header ≤ offset f) × (offset f + 2 ≤ length f)
      offset_in =
          let p = offset_passed (offset f) (length f) length-in (first_passed (offset_refusals (offset f) (length f)) tt (sym b)) in
          (p.0, p.2)

      split_pointer : receiver_of f ≡ guarded (pointer_refusals f ++ field_refusals f) Refused (pointed_at f)
      split_pointer =
          split_offset ∙ guarded_done Refused _ (offset_refusals (offset f) (length f)) (first_passed (offset_refusals (offset f) (length f)) tt (sym b))

      -- a broadcast: octet 0 decides
      module _ (z : pointer f ≡ 0) where
        all-stations : receiver_of f ≡ cond (not (eqb (octet f 0) broadcast_sum)) (Refused bad_next_sum) Broadcast
        unfolding pointer_refusals field_refusals end_refusals id_refusals sum_refusals
        all-stations = split_pointer ∙ rw (eq-eqb (pointer f) 0 z)

        pub broadcast-wrong : (octet f 0 ≡ broadcast_sum → ⊥) → Refused bad_next_sum ≡ receiver_of f
        broadcast-wrong h = sym (all-stations ∙ rw (ne_eqb (octet f 0) broadcast_sum h))

        pub broadcast-right : octet f 0 ≡ broadcast_sum → Broadcast ≡ receiver_of f
        broadcast-right h = sym (all-stations ∙ rw (eq-eqb (octet f 0) broadcast_sum h))

      -- a place
      module _ (z : pointer f ≡ 0 → ⊥) where
        a-place : receiver_of f ≡ cond (not (between first_next (offset f - 2) (pointer f))) (Refused bad_next) (guarded (field_refusals f) Refused (Station (field_part f)))
        unfolding pointer_refusals
        a-place = split_pointer ∙ rw (ne_eqb (pointer f) 0 z)

        outside : between first_next (offset f - 2) (pointer f) ≡ false → Refused bad_next ≡ receiver_of f
        outside h = sym (a-place ∙ rw h)

        pub place-low : pointer f < first_next → Refused bad_next ≡ receiver_of f
        place-low h = outside (rw (lt-leb first_next (pointer f) h))

        pub place-high : offset f - 2 < pointer f → Refused bad_next ≡ receiver_of f
        place-high h = outside (rw (lt-leb (pointer f) (offset f - 2) h) (and_false (leb first_next (pointer f))))

        pub place-within : first_next ≤ pointer f → pointer f ≤ offset f - 2 → guarded (field_refusals f) Refused (Station (field_part f)) ≡ receiver_of f
        place-within l h = sym (a-place ∙ rw (le-leb first_next (pointer f) l, le-leb (pointer f) (offset f - 2) h))

        -- "A place two or three before the data offset always ends in 35"
        pub late-place : offset f - 3 ≤ pointer f → pointer f ≤ offset f - 2 → receiver_of f ≡ Refused bad_stations
        late-place l h =
            let o = offset_in in
            sym (place-within (omega arith) h) ∙ late_field f z l

-- what is handed on by `?` is told as refused
pub told_on : (r : Result Receiver Refusal) (e : Refusal) → IsErrAnd r (λ x. x ≡ e) → told r ≡ Refused (number_of e)
told_on (Ok x) e h = absurd h
told_on (Err x) e h = ap (λ (e : Refusal). Refused (number_of e)) h
