-- Whatever a frame means keeps the paper's rules. Assumes nothing.
use Prim.Native.Nat.{ℕ, ◌≤◌, ◌<◌}
use mathlib.Core.Bool.{Bool, true, false}
use mathlib.Core.List.{List, [], ◌∷◌, append-nil}
use mathlib.Core.Path.{◌≡◌, refl, sym, ap, ap₂, ◌∙◌}
use native.Mathlib.Omega.{arith}
use borrow.Author.Tests.{leb-true, leb-false, eq-eqb, ne_eqb}
use lib.Dec.{leb, eqb}
use lib.ListN.{length, take, drop}
use Rattle.afp.specs.Layout.{offset, variable_part, stations_in}
use Rattle.afp_read.specs.Read.{refusals}
use Rattle.afp_laws.proofs.Accepted.{protocol_below, stations_accepted, supplementary_valid, payload_short, offset_low, offset_high, length-s, length-d, header-length, found_alone, next_there}
use Rattle.afp_laws.specs.Parts.{parts_in, meaning_of}
use Rattle.afp_laws.specs.Proper.{Proper}
use Rattle.afp_write.specs.Frame.{header_length}
use Rattle.common.proofs.Bools.{not_and}
use Rattle.common.proofs.Refusals.{Passed}
use Rattle.stations.proofs.Extent.{Accepted}
use Rattle.stations.proofs.IdList.{fields_ids, count_ids, ids_valid}
use Rattle.stations.proofs.NextField.{next_none}
use Rattle.stations.specs.Fields.{closed_at, stations_from, stations_of, lacks_next}
use Rattle.stations.specs.IdList.{fields_of, ids_of, all_valid}
use Rattle.stations.specs.declared.Next.{Next}
use Rattle.stations.specs.declared.Stations.{Stations}
use Rattle.supplementary.proofs.Options.{octets_in_lem}
use Rattle.supplementary.specs.Options.{valid_supplementary, supplementary_octets, supplementary_in}

-- fields with no ID are not accepted
none_malformed : (w n : ℕ) → (stations_of w n (0 ∷ [])).end ≡ 0
unfolding stations_of stations_from closed_at
none_malformed w n = refl

ids_none : (w n : ℕ) (is : List (List ℕ)) → Accepted (stations_of w n (fields_of is)) → length is ≡ 0 → ⊥
unfolding fields_of
ids_none w n [] a z = a (none_malformed w n)
ids_none w n (i ∷ is) a z = omega arith

-- the next number by the number of IDs, from a search by number that found it
module _ (n : ℕ) (is : List (List ℕ)) (g : all_valid is ≡ true) (some : length is ≡ 0 → ⊥) (found : (stations_of 0 n (fields_of is)).next.number ≡ n) where
  not_found : (2 ≤ n → length is < n) → n ≡ 0
  not_found h =
      sym found
      ∙ ap (λ (t : List ℕ). (stations_of 0 n t).next.number) (sym (append-nil (fields_of is)))
      ∙ ap (λ (x : Next). x.number) (next_none n is [] g some h)

  number_alone : length is ≡ 1 → n ≡ 0
  number_alone o = not_found (λ l. omega arith)

  pub number_later : (n ≡ 0 → ⊥) → (2 ≤ n) × (n ≤ length is)
  number_later z = by (leb 2 n) (leb n (length is)) refl refl
    where
      by : (a b : Bool) → leb 2 n ≡ a → leb n (length is) ≡ b → (2 ≤ n) × (n ≤ length is)
      by true true i j = (leb-true 2 n i, leb-true n (length is) j)
      by true false i j = absurd (z (not_found (λ l. leb-false n (length is) j)))
      by false b i j = absurd (z (not_found (λ l. absurd (let k : n < 2 = leb-false 2 n i in omega arith))))

lacking : (r : Stations) → (r.count ≡ 1 → ⊥) → r.next.number ≡ 0 → lacks_next r ≡ false → ⊥
unfolding lacks_next
lacking r a b c = not_and (eqb r.count 1) (eqb r.next.number 0) (ne_eqb r.count 1 a) (eq-eqb r.next.number 0 b) c

module _ (f : List ℕ) (ok : Passed (refusals f)) where
  abbrev k : ℕ
  k = (stations_in f).end

  abbrev s : List ℕ
  s = take k (variable_part f)

  abbrev h : List ℕ
  h = drop k (variable_part f)

  abbrev n : ℕ
  n = (stations_in f).next.number

  abbrev is : List (List ℕ)
  is = ids_of s

  pub alone : stations_of 0 n s ≡ stations_in f
  alone = found_alone f ok

  accepted : Accepted (stations_of 0 n s)
  accepted z = stations_accepted f ok (ap (λ (r : Stations). r.end) (sym alone) ∙ z)

  ended : (stations_of 0 n s).end ≡ length s
  ended = ap (λ (r : Stations). r.end) alone ∙ sym (length-s f ok)

  pub fields_are : fields_of is ≡ s
  fields_are = fields_ids 0 n s accepted ended

  pub valid : all_valid is ≡ true
  valid = ids_valid 0 n s accepted

  pub some : length is ≡ 0 → ⊥
  some = ids_none 0 n is (λ z. accepted (ap (λ (t : List ℕ). (stations_of 0 n t).end) (sym fields_are) ∙ z))

  pub found : (stations_of 0 n (fields_of is)).next.number ≡ n
  found = ap (λ (t : List ℕ). (stations_of 0 n t).next.number) fields_are ∙ ap (λ (r : Stations). r.next.number) alone

  count : (stations_in f).count ≡ length is
  count = ap (λ (r : Stations). r.count) (sym alone) ∙ count_ids 0 n s accepted ended

  not_zero : 2 ≤ length is → n ≡ 0 → ⊥
  not_zero l z = let e = count in lacking (stations_in f) (λ o. omega arith) z (next_there f ok)

  octets_are : supplementary_octets (supplementary_in h) ≡ h
  octets_are = octets_in_lem h (supplementary_valid f ok)

  header_is : header_length (length (fields_of is)) (length (supplementary_octets (supplementary_in h))) ≡ offset f
  header_is = ap₂ (λ (a b : List ℕ). header_length (length a) (length b)) fields_are octets_are ∙ header-length f ok

  pub parts_proper : Proper (meaning_of (parts_in f))
  unfolding meaning_of parts_in
  parts_proper =
      let e = header_is in
      let a = offset_low f ok in
      let b = offset_high f ok in
      let d = length-d f ok in
      let c = payload_short f ok in
      record {
        protocol_free = protocol_below f ok;
        ids_some = omega (arith, some);
        ids_valid = valid;
        next_alone = number_alone n is valid some found;
        next_later = λ l. let q = number_later n is valid some found (not_zero l) in (omega arith, omega arith);
        supplementary_valid = ap valid_supplementary octets_are ∙ supplementary_valid f ok;
        header_long = omega arith;
        header_short = omega arith;
        data_short = omega arith;
      }
