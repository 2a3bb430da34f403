-- Parts and meanings: a frame that means something passed every test, and its parts and its meaning determine each other. Assumes nothing.
use mathlib.Core.Path.{◌≡◌, refl, sym, ap, ap₂, ◌∙◌}
use mathlib.Core.Bool.{Bool, true}
use mathlib.Core.List.{List}
use Prim.Native.Nat.{ℕ}
use lib.Dec.{eqb}
use lib.ListN.{length, take}
use Rattle.common.specs.Buffer.{with_front}
use Rattle.common.proofs.Buffer.{take-with_front}
use Rattle.common.proofs.Refusals.{Passed, guarded_done}
use Rattle.common.proofs.FirstRefusal.{number_passed}
use Rattle.sums.specs.Sum.{not_calculated}
use Rattle.stations.specs.IdList.{all_valid}
use Rattle.stations.proofs.IdList.{fields_ids, ids_fields}
use Rattle.supplementary.proofs.Options.{octets_in_lem, in_octets}
use Rattle.afp.specs.Layout.{received_sum}
use Rattle.afp_read.specs.Read.{envelope_refusals, fixed_refusals, station_refusals, rest_refusals, refusals}
use Rattle.afp_read.specs.Meaning.{Meaning, Verdict, refused, means, meant, meaning}
use Rattle.afp_write.specs.declared.Written.{Written}
use Rattle.afp_write.specs.Frame.{frame_of}
use Rattle.afp_write.specs.Write.{part_refusals, size_refusals, write_refusals, refused_writing, written, write_of, buffer_of}
use Rattle.afp_laws.specs.Parts.{Parts, encode, encode_refusals, answer, buffer, sent, parts_in, meaning_of, parts_of}
use Rattle.afp_laws.proofs.Written.{accepted, ended, valid}

-- ---- a frame
number_of : Verdict → ℕ
number_of (refused n) = n
number_of (means m u) = 0

module _ (f : List ℕ) where
  pub meant_parts : meant f ≡ meaning_of (parts_in f)
  unfolding meant meaning_of parts_in
  meant_parts = refl

  pub passed_meaning : Passed (refusals f) → meaning f ≡ means (meaning_of (parts_in f)) (eqb (received_sum f) not_calculated)
  unfolding meaning
  passed_meaning p =
      guarded_done refused (means (meant f) (eqb (received_sum f) not_calculated)) (refusals f) p
      ∙ ap (λ (m : Meaning). means m (eqb (received_sum f) not_calculated)) meant_parts

  module _ (m : Meaning) (u : Bool) (e : meaning f ≡ means m u) where
    pub meaning_passed : Passed (refusals f)
    unfolding meaning number_of refusals envelope_refusals fixed_refusals station_refusals rest_refusals
    meaning_passed =
        number_passed number_of refused (λ n. refl) (means (meant f) (eqb (received_sum f) not_calculated)) (refusals f) tt (ap number_of e)

    same : means (meaning_of (parts_in f)) (eqb (received_sum f) not_calculated) ≡ means m u
    same = sym (passed_meaning meaning_passed) ∙ e

    pub meaning_is : meaning_of (parts_in f) ≡ m
    meaning_is = let i = same in cc

    pub unchecked_is : eqb (received_sum f) not_calculated ≡ u
    unchecked_is = let i = same in cc

-- ---- parts
-- a meaning whose IDs keep the rule comes back from its parts
pub meaning_parts : (m : Meaning) → all_valid m.ids ≡ true → meaning_of (parts_of m) ≡ m
unfolding meaning_of parts_of
meaning_parts m g =
    let a = ids_fields m.ids g in
    let b = in_octets m.supplementary in
    λ i. record { protocol = m.protocol; ids = a i; next = m.next; supplementary = b i; payload = m.payload }

module _ (m : Parts) where
  pub parts_meaning : (room : ℕ) → Passed (encode_refusals m room) → parts_of (meaning_of m) ≡ m
  unfolding encode_refusals meaning_of parts_of
  parts_meaning room ok =
      let a = fields_ids 0 m.next m.stations
      (accepted m.protocol m.stations m.next m.supplementary m.payload room ok)
      (ended m.protocol m.stations m.next m.supplementary m.payload room ok) in
      let b = octets_in_lem m.supplementary (valid m.protocol m.stations m.next m.supplementary m.payload room ok) in
      λ i. record { protocol = m.protocol; stations = a i; next = m.next; supplementary = b i; payload = m.payload }

  module _ (out : List ℕ) where
    pub answer_passed : (answer m out).number ≡ 0 → Passed (encode_refusals m (length out))
    unfolding write_of encode_refusals write_refusals part_refusals size_refusals
    answer_passed e =
        number_passed (λ w. w.number) refused_writing (λ n. refl)
        (written (length (frame_of m.protocol m.stations m.next m.supplementary m.payload))) (encode_refusals m (length out)) tt e

    module _ (p : Passed (encode_refusals m (length out))) where
      pub answer_is : answer m out ≡ written (length (encode m))
      unfolding write_of encode encode_refusals
      answer_is = guarded_done refused_writing (written (length (encode m))) (encode_refusals m (length out)) p

      buffer_is : buffer m out ≡ with_front (encode m) out
      unfolding buffer_of encode encode_refusals
      buffer_is = guarded_done (λ k. out) (with_front (encode m) out) (encode_refusals m (length out)) p

      pub sent_is : sent m out ≡ encode m
      sent_is =
          ap₂ (λ (k : ℕ) (o : List ℕ). take k o) (ap (λ (w : Written). w.length) answer_is) buffer_is
          ∙ take-with_front (encode m) out (length (encode m)) refl
