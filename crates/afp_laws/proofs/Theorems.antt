-- Reading and writing AFP frames: what the paper demands of the two together. Assumes nothing.
--
-- `read` promises `read_of` and that its answer shows `meaning`; `write` promises `write_of` and `buffer_of`. Everything here is about these.
--
--   one_meaning         an answer of the reader shows the frame's meaning, or the first refusal
--   proper_written      every meaning that keeps the paper's rules is written, given room
--   read_proper         whatever a frame means keeps the paper's rules
--   written_read        what is written reads as what was given, checked
--   read_written        what a frame means can be written, and reads as the same meaning
--   read_written_again  a frame that was checked comes back octet for octet
--   frame_covered       a frame's length, and header, data and two check octets with nothing between
--   changed_octet_31    one changed octet is refused by 31; written_changed says it of what was written,
--                       and changed_neighbours_31 (Neighbours) of two octets side by side
--
-- Who a frame is for next has files of its own: same_receiver (Receivers), by the meaning; one-answer (Looked), by the octets that are looked at.
use mathlib.Core.Path.{◌≡◌, sym, ap, ap₂, ◌∙◌}
use mathlib.Core.Bool.{Bool, false}
use mathlib.Core.List.{List, ◌++◌, append_assoc}
use Prim.Native.Nat.{ℕ, ◌≤◌, ◌<◌}
use native.Mathlib.Omega.{arith}
use lib.Dec.{eqb}
use lib.ListN.{length, take, drop, set, length-drop, take-append-drop}
use lib.Seq.{length-take-le, take-take}
use Rattle.common.proofs.Refusals.{Passed}
use Rattle.sums.specs.Sum.{not_calculated}
use Rattle.fcs.proofs.Register.{Octets}
use Rattle.afp.specs.Limits.{min_frame, max_frame, min_header, max_header, max_data}
use Rattle.afp.specs.Answers.{bad_check}
use Rattle.afp.specs.Layout.{octet, offset, checked_length, checked_part, received_sum}
use Rattle.afp_read.specs.Read.{refusals, read_of}
use Rattle.afp_read.specs.Meaning.{Meaning, refused, means, meant, meaning, verdict}
use Rattle.afp_read.proofs.Answers.{read_meaning}
use Rattle.afp_write.specs.declared.Written.{Written}
use Rattle.afp_laws.specs.Parts.{Parts, encode, encode_refusals, answer, sent, parts_in, meaning_of, parts_of}
use Rattle.afp_laws.proofs.Written.{encode_passes, encode_checked, encode_parts}
use Rattle.afp_laws.proofs.Accepted.{long_enough, short_enough, check_right, offset_low, offset_high, offset_in, length-d, payload_short, parts_pass, frame_again}
use Rattle.afp_laws.proofs.Meanings.{passed_meaning, meaning_passed, meaning_is, unchecked_is, meaning_parts, parts_meaning, answer_passed, answer_is, sent_is}
use Rattle.afp_laws.proofs.Writable.{proper_writable}
use Rattle.afp_laws.proofs.ReadProper.{parts_proper}
use Rattle.afp_laws.proofs.Changed.{changed_refused}
use Rattle.afp_laws.specs.Proper.{Proper}

pub one_meaning : (f : List ℕ) → verdict (read_of f) f ≡ meaning f
one_meaning f = read_meaning f

-- ---- written, then read
encode_meaning : (m : Parts) (room : ℕ) → Passed (encode_refusals m room) → meaning (encode m) ≡ means (meaning_of m) false
encode_meaning m room p =
    passed_meaning (encode m) (encode_passes m room p)
    ∙ ap₂ (λ (m : Parts) (u : Bool). means (meaning_of m) u) (encode_parts m room p) (encode_checked m room p)

pub written_read : (m : Parts) (out : List ℕ) → (answer m out).number ≡ 0 → meaning (sent m out) ≡ means (meaning_of m) false
written_read m out e =
    let p = answer_passed m out e in
    ap meaning (sent_is m out p) ∙ encode_meaning m (length out) p

-- every meaning that keeps the paper's rules is written, and read back
pub proper_written : (m : Meaning) (out : List ℕ) → Proper m → length (encode (parts_of m)) ≤ length out
    → ((answer (parts_of m) out).number ≡ 0) × (meaning (sent (parts_of m) out) ≡ means m false)
proper_written m out q fits =
    let p = proper_writable m (length out) q fits in
    let e = ap (λ (w : Written). w.number) (answer_is (parts_of m) out p) in
    (e, written_read (parts_of m) out e ∙ ap (λ (m : Meaning). means m false) (meaning_parts m q.ids_valid))

-- ---- read, then written
module _ (f : List ℕ) (m : Meaning) (u : Bool) (e : meaning f ≡ means m u) (out : List ℕ) (fits : length f ≤ length out) where
  passes : Passed (encode_refusals (parts_in f) (length out))
  passes = parts_pass f (meaning_passed f m u e) (length out) fits

  parts_are : parts_of m ≡ parts_in f
  parts_are = ap parts_of (sym (meaning_is f m u e)) ∙ parts_meaning (parts_in f) (length out) passes

  done : (answer (parts_in f) out).number ≡ 0
  done = ap (λ (w : Written). w.number) (answer_is (parts_in f) out passes)

  pub read_written : ((answer (parts_of m) out).number ≡ 0) × (meaning (sent (parts_of m) out) ≡ means m false)
  read_written = (
    ap (λ (q : Parts). (answer q out).number) parts_are ∙ done,
    ap (λ (q : Parts). meaning (sent q out)) parts_are ∙ written_read (parts_in f) out done ∙ ap (λ (m : Meaning). means m false) (meaning_is f m u e),
  )

  pub read_written_again : u ≡ false → octet f (checked_length f) < 256 → sent (parts_of m) out ≡ f
  read_written_again c o =
      ap (λ (q : Parts). sent q out) parts_are
      ∙ sent_is (parts_in f) out passes
      ∙ frame_again f (meaning_passed f m u e) o (unchecked_is f m u e ∙ c)

-- ---- a frame's length, and its parts
module _ (f : List ℕ) (m : Meaning) (u : Bool) (e : meaning f ≡ means m u) where
  ok : Passed (refusals f)
  ok = meaning_passed f m u e

  pub read_proper : Proper m
  read_proper = rw (sym (meaning_is f m u e)) (parts_proper f ok)

  payload_is : m.payload ≡ drop (offset f) (checked_part f)
  unfolding meaning_of parts_in
  payload_is = ap (λ (m : Meaning). m.payload) (sym (meaning_is f m u e))

  pub frame-length : (min_frame ≤ length f) × (length f ≤ max_frame)
      × (min_header ≤ offset f) × (offset f ≤ max_header)
      × (length m.payload ≤ max_data)
  frame-length =
      let d = payload_is in
      let l = length-d f ok in
      let s = payload_short f ok in
      (long_enough f ok, short_enough f ok, offset_low f ok, offset_high f ok, rw d (omega arith))

  pub frame_covered : (take (offset f) f ++ (m.payload ++ drop (checked_length f) f) ≡ f)
      × (length (take (offset f) f) ≡ offset f)
      × (length (drop (checked_length f) f) ≡ 2)
  frame_covered =
      let a = long_enough f ok in
      let b = offset_in f ok in (
        ap (λ (d : List ℕ). take (offset f) f ++ (d ++ drop (checked_length f) f)) payload_is
            ∙ sym (append_assoc (take (offset f) f) (drop (offset f) (checked_part f)) (drop (checked_length f) f))
            ∙ ap (λ (h : List ℕ). (h ++ drop (offset f) (checked_part f)) ++ drop (checked_length f) f) (sym (take-take (offset f) (checked_length f) f b))
            ∙ ap (λ (c : List ℕ). c ++ drop (checked_length f) f) (take-append-drop (offset f) (checked_part f))
            ∙ take-append-drop (checked_length f) f,
        length-take-le (offset f) f (omega arith),
        length-drop (checked_length f) f ∙ omega arith,
      )

  -- ---- one octet changed, in header, data or check octets
  pub changed_octet_31 : Octets f → (i y : ℕ) → i < length f → y < 256 → (octet f i ≡ y → ⊥) → meaning (set f i y) ≡ refused bad_check
  unfolding meaning
  changed_octet_31 o i y hi hy differs =
      changed_refused f i y o hy hi differs (long_enough f ok) (short_enough f ok) (check_right f ok) refused
      (means (meant (set f i y)) (eqb (received_sum (set f i y)) not_calculated))

-- the same of what was written
pub written_changed : (m : Parts) (out : List ℕ) → (answer m out).number ≡ 0 → Octets (sent m out)
    → (i y : ℕ) → i < length (sent m out) → y < 256 → (octet (sent m out) i ≡ y → ⊥) → meaning (set (sent m out) i y) ≡ refused bad_check
written_changed m out e = changed_octet_31 (sent m out) (meaning_of m) false (written_read m out e)
