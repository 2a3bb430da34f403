-- The reader's answers from those of its private functions, and the meaning that they show. Assumes nothing.
use Prim.Native.Nat.{ℕ, ◌+◌, ◌-◌, ◌≤◌}
use mathlib.Core.Bool.{Bool, false, cond}
use mathlib.Core.List.{List, ◌++◌}
use mathlib.Core.Path.{◌≡◌, sym, ap, ap₂, ◌∙◌}
use native.Mathlib.Omega.{arith}
use borrow.Author.Tests.{ltb-false, ne_eqb}
use lib.Dec.{eqb}
use lib.ListN.{length, take, drop, length-take, length-drop}
use lib.Seq.{length-take-le, take-take}
use Rattle.afp_read.proofs.Refusals.{variable_rest}
use Rattle.afp.specs.Layout.{octet, offset, checked_length, checked_part, variable_part, stations_in, received_sum, data_length}
use Rattle.afp_read.specs.Meaning.{Meaning, refused, means, meant, meaning, shown, verdict}
use Rattle.afp.specs.Limits.{min_frame, min_header, fixed_size}
use Rattle.afp.proofs.Sizes.{offset_passed}
use Rattle.afp_read.specs.Read.{envelope_refusals, fixed_refusals, station_refusals, rest_refusals, refusals, refused_reading, accepted_reading, read_of}
use Rattle.afp_read.specs.declared.Reading.{Reading}
use Rattle.common.proofs.FirstRefusal.{first_passed, guarded-++, guarded_first, guarded-map-numbered}
use Rattle.common.proofs.Parts.{drop-take}
use Rattle.common.proofs.Refusals.{guarded_done}
use Rattle.common.specs.FirstRefusal.{first_refusal}
use Rattle.common.specs.Refusals.{guarded}
use Rattle.stations.proofs.Extent.{stations_within}
use Rattle.stations.specs.Fields.{fields_at, stations_of}
use Rattle.stations.specs.IdList.{ids_of}
use Rattle.stations.specs.declared.Stations.{Stations}
use Rattle.sums.specs.Sum.{not_calculated}
use Rattle.supplementary.specs.Options.{supplementary_in}

-- ---- what passed tests say of the frame's length and offset
pub envelope_fits : (f : List ℕ) → 0 ≡ first_refusal (envelope_refusals f) → min_frame ≤ length f
unfolding envelope_refusals
envelope_fits f e = let p = first_passed (envelope_refusals f) tt (sym e) in ltb-false (length f) min_frame p.0

pub fixed_fits : (f : List ℕ) → min_frame ≤ length f → 0 ≡ first_refusal (fixed_refusals f) → (min_header ≤ offset f) × (offset f + 2 ≤ length f)
unfolding fixed_refusals
fixed_fits f n e =
    let q = offset_passed (offset f) (length f) n (first_passed (fixed_refusals f) tt (sym e)).1.1 in
    (q.0, q.2)

-- ---- the station fields of a frame
pub length-variable : (f : List ℕ) → min_header ≤ offset f → offset f + 2 ≤ length f → length (variable_part f) ≡ offset f - fixed_size
unfolding variable_part
length-variable f a b = length-take-le (offset f - fixed_size) (drop fields_at f) (rw (length-drop fields_at f) (omega arith))

pub stations_bound : (f : List ℕ) → min_header ≤ offset f → offset f + 2 ≤ length f → (stations_in f).end + fixed_size ≤ offset f
unfolding stations_in
stations_bound f a b =
    let w = stations_within (octet f 4 - fields_at) 0 (variable_part f) in
    let l : length (variable_part f) ≡ offset f - fixed_size = length-variable f a b in
    omega arith

pub stations_read : (f : List ℕ) (o w : ℕ) → o ≡ offset f → w ≡ octet f 4 - fields_at → stations_of w 0 (take (o - 1 - fields_at) (drop fields_at f)) ≡ stations_in f
unfolding stations_in variable_part
stations_read f o w oe we =
    let z : o - 1 - fields_at ≡ offset f - fixed_size = omega arith in
    ap₂ (λ (w k : ℕ). stations_of w 0 (take k (drop fields_at f))) we z

-- ---- the answer is refused by the first list in which a refusal applies
module _ {A : Type 0} (refuse : ℕ → A) (done : A) (f : List ℕ) where
  abbrev third : A
  third = guarded (station_refusals f (stations_in f) ++ rest_refusals f (stations_in f).end) refuse done

  abbrev second : A
  second = guarded (fixed_refusals f ++ (station_refusals f (stations_in f) ++ rest_refusals f (stations_in f).end)) refuse done

  split₁ : guarded (refusals f) refuse done ≡ guarded (envelope_refusals f) refuse second
  unfolding refusals
  split₁ =
      cc (guarded-++ refuse done (envelope_refusals f) (fixed_refusals f ++ (station_refusals f (stations_in f) ++ rest_refusals f (stations_in f).end)))

  split₂ : second ≡ guarded (fixed_refusals f) refuse third
  split₂ = guarded-++ refuse done (fixed_refusals f) (station_refusals f (stations_in f) ++ rest_refusals f (stations_in f).end)

  split₃ : third ≡ guarded (station_refusals f (stations_in f)) refuse (guarded (rest_refusals f (stations_in f).end) refuse done)
  split₃ = guarded-++ refuse done (station_refusals f (stations_in f)) (rest_refusals f (stations_in f).end)

  pub refused_envelope : (n : ℕ) → n ≡ first_refusal (envelope_refusals f) → (n ≡ 0 → ⊥) → guarded (refusals f) refuse done ≡ refuse n
  refused_envelope n e z = split₁ ∙ guarded_first refuse second (envelope_refusals f) n e z

  module _ (a : 0 ≡ first_refusal (envelope_refusals f)) where
    past₁ : guarded (refusals f) refuse done ≡ second
    unfolding envelope_refusals
    past₁ = split₁ ∙ guarded_done refuse second (envelope_refusals f) (first_passed (envelope_refusals f) tt (sym a))

    pub refused_fixed : (n : ℕ) → n ≡ first_refusal (fixed_refusals f) → (n ≡ 0 → ⊥) → guarded (refusals f) refuse done ≡ refuse n
    refused_fixed n e z = past₁ ∙ split₂ ∙ guarded_first refuse third (fixed_refusals f) n e z

    module _ (b : 0 ≡ first_refusal (fixed_refusals f)) where
      past₂ : guarded (refusals f) refuse done ≡ third
      unfolding fixed_refusals
      past₂ = past₁ ∙ split₂ ∙ guarded_done refuse third (fixed_refusals f) (first_passed (fixed_refusals f) tt (sym b))

      pub refused_station : (n : ℕ) → n ≡ first_refusal (station_refusals f (stations_in f)) → (n ≡ 0 → ⊥) → guarded (refusals f) refuse done ≡ refuse n
      refused_station n e z =
          past₂ ∙ split₃ ∙ guarded_first refuse (guarded (rest_refusals f (stations_in f).end) refuse done) (station_refusals f (stations_in f)) n e z

      module _ (c : 0 ≡ first_refusal (station_refusals f (stations_in f))) where
        past₃ : guarded (refusals f) refuse done ≡ guarded (rest_refusals f (stations_in f).end) refuse done
        unfolding station_refusals
        past₃ =
            past₂ ∙ split₃
            ∙ guarded_done refuse (guarded (rest_refusals f (stations_in f).end) refuse done) (station_refusals f (stations_in f)) (first_passed (station_refusals f (stations_in f)) tt (sym c))

        pub refused-rest : (n : ℕ) → n ≡ first_refusal (rest_refusals f (stations_in f).end) → (n ≡ 0 → ⊥) → guarded (refusals f) refuse done ≡ refuse n
        refused-rest n e z = past₃ ∙ guarded_first refuse done (rest_refusals f (stations_in f).end) n e z

        pub not_refused : 0 ≡ first_refusal (rest_refusals f (stations_in f).end) → guarded (refusals f) refuse done ≡ done
        unfolding rest_refusals
        not_refused d = past₃ ∙ guarded_done refuse done (rest_refusals f (stations_in f).end) (first_passed (rest_refusals f (stations_in f).end) tt (sym d))

-- ---- the answer shows the meaning
module _ (f : List ℕ) where
  end_bound : (stations_in f).end ≤ offset f - fixed_size
  unfolding stations_in variable_part
  end_bound =
      let w = stations_within (octet f 4 - fields_at) 0 (take (offset f - fixed_size) (drop fields_at f)) in
      omega (arith, length-take (offset f - fixed_size) (drop fields_at f))

  pub fields_shown : take (stations_in f).end (drop fields_at f) ≡ take (stations_in f).end (variable_part f)
  unfolding variable_part
  fields_shown = sym (take-take (stations_in f).end (offset f - fixed_size) (drop fields_at f) end_bound)

  payload_shown : take (data_length f) (drop (offset f) f) ≡ drop (offset f) (checked_part f)
  payload_shown = sym (drop-take (offset f) (checked_length f) f)

  accepted_shown : shown (accepted_reading f (stations_in f)) f ≡ meant f
  unfolding shown accepted_reading meant
  accepted_shown =
      let a = ap ids_of fields_shown in
      let b = ap supplementary_in (variable_rest f (stations_in f).end) in
      let c = payload_shown in
      λ i. record { protocol = octet f 2; ids = a i; next = (stations_in f).next.number; supplementary = b i; payload = c i }

  refused_shown : (n : ℕ) → (n ≡ 0 → ⊥) → verdict (refused_reading n) f ≡ refused n
  unfolding verdict
  refused_shown n h = ap (λ (b : Bool). cond b (means (shown (refused_reading n) f) false) (refused n)) (ne_eqb n 0 h)

  accepted_verdict : verdict (accepted_reading f (stations_in f)) f ≡ means (meant f) (eqb (received_sum f) not_calculated)
  unfolding verdict accepted_reading
  accepted_verdict = ap (λ (m : Meaning). means m (eqb (received_sum f) not_calculated)) accepted_shown

  pub read_meaning : verdict (read_of f) f ≡ meaning f
  unfolding read_of meaning refusals envelope_refusals fixed_refusals station_refusals rest_refusals
  read_meaning =
      guarded-map-numbered (λ r. verdict r f) refused_reading refused (accepted_reading f (stations_in f)) refused_shown (refusals f) tt
      ∙ ap (guarded (refusals f) refused) accepted_verdict

  -- both promises of the reader from the first
  pub read_both : (r : Reading) → r ≡ read_of f → (r ≡ read_of f) × (verdict r f ≡ meaning f)
  read_both r e = (e, ap (λ (r : Reading). verdict r f) e ∙ read_meaning)

-- ---- the refusals of `checked`, past a list that refuses nothing
module _ (f : List ℕ) (a : 0 ≡ first_refusal (envelope_refusals f)) (b : 0 ≡ first_refusal (fixed_refusals f)) (r : Stations) (re : r ≡ stations_in f) where
  pub end_fits : (offset f + 2 ≤ length f) × (r.end + fixed_size ≤ offset f)
  end_fits =
      let p = fixed_fits f (envelope_fits f a) b in
      (p.1, rw re (stations_bound f p.0 p.1))

  pub station_first : (n : ℕ) → n ≡ first_refusal (station_refusals f r) → (n ≡ 0 → ⊥) → n ≡ first_refusal (refusals f)
  station_first n e z = sym (refused_station (λ n. n) 0 f a b n (e ∙ ap (λ (r : Stations). first_refusal (station_refusals f r)) re) z)

  module _ (c : 0 ≡ first_refusal (station_refusals f r)) where
    none : 0 ≡ first_refusal (station_refusals f (stations_in f))
    none = c ∙ ap (λ (r : Stations). first_refusal (station_refusals f r)) re

    at_end : first_refusal (rest_refusals f r.end) ≡ first_refusal (rest_refusals f (stations_in f).end)
    at_end = ap (λ (r : Stations). first_refusal (rest_refusals f r.end)) re

    pub rest_first : (n : ℕ) → n ≡ first_refusal (rest_refusals f r.end) → (n ≡ 0 → ⊥) → n ≡ first_refusal (refusals f)
    rest_first n e z = sym (refused-rest (λ n. n) 0 f a b none n (e ∙ at_end) z)

    pub none_first : 0 ≡ first_refusal (rest_refusals f r.end) → 0 ≡ first_refusal (refusals f)
    none_first d = sym (not_refused (λ n. n) 0 f a b none (d ∙ at_end))

-- ---- the answers of `read`
module _ (f : List ℕ) where
  pub read_refused : (n : ℕ) → n ≡ first_refusal (refusals f) → (n ≡ 0 → ⊥) → (v : Reading) → v ≡ refused_reading n → (v ≡ read_of f) × (verdict v f ≡ meaning f)
  unfolding read_of
  read_refused n e z v w = read_both f v (w ∙ sym (guarded_first refused_reading (accepted_reading f (stations_in f)) (refusals f) n e z))

  pub read_accepted : 0 ≡ first_refusal (refusals f) → (r : Stations) → r ≡ stations_in f → (v : Reading) → v ≡ accepted_reading f r → (v ≡ read_of f) × (verdict v f ≡ meaning f)
  unfolding read_of refusals envelope_refusals fixed_refusals station_refusals rest_refusals
  read_accepted e r re v w =
      read_both f v
      (w ∙ ap (accepted_reading f) re ∙ sym (guarded_done refused_reading (accepted_reading f (stations_in f)) (refusals f) (first_passed (refusals f) tt (sym e))))
