-- Writing an AFP frame: the first refusal in its order, or the frame. Cited by the writer, and by the laws of reading and writing. Assumes nothing.
--
--   write_refusals p s n h d room  33, 35, 36, 38, 34, 40, 41 in that order, each with the test that it is given for
--   write_of, buffer_of             the writer's answer, and the lent buffer after it
use Rattle.std.specs.Prelude.{not, List, [], ◌∷◌, ◌++◌, ℕ, ◌+◌, leb, ltb, eqb, length}
use Rattle.common.specs.Refusals.{Refusal, guarded}
use Rattle.common.specs.Buffer.{with_front}
use Rattle.stations.specs.declared.Stations.{Stations}
use Rattle.stations.specs.Fields.{stations_of, lacks_next}
use Rattle.supplementary.specs.Options.{valid_supplementary}
use Rattle.afp.specs.Limits.{min_header, max_header, max_data, first_reserved}
use Rattle.afp.specs.Answers.{done, bad_protocol, bad_offset, bad_stations, bad_next, bad_supplementary, bad_data, out_too_small}
use Rattle.afp_write.specs.Frame.{header_length, frame_of}
use Rattle.afp_write.specs.declared.Written.{Written}

-- ---- the refusals
-- protocol, stations, next ID and supplementary header; r is what the station fields hold
unfoldable pub part_refusals : (p : ℕ) (s : List ℕ) → Stations → (n : ℕ) (h : List ℕ) → List Refusal
part_refusals p s r n h =
    (leb first_reserved p, bad_protocol)
    ∷ (eqb r.end 0, bad_stations)
    ∷ (not (eqb r.end (length s)), bad_stations)
    ∷ (not (eqb r.next.number n), bad_next)
    ∷ (lacks_next r, bad_next)
    ∷ (not (valid_supplementary h), bad_supplementary)
    ∷ []

-- header, data and buffer; s, h, d are the lengths of the parts, room that of the buffer
unfoldable pub size_refusals : (s h d room : ℕ) → List Refusal
size_refusals s h d room =
    (ltb (header_length s h) min_header, bad_offset)
    ∷ (ltb max_header (header_length s h), bad_offset)
    ∷ (ltb max_data d, bad_data)
    ∷ (ltb room (header_length s h + d + 2), out_too_small)
    ∷ []

-- "AFP writer 33, 35, 36, 38, 34, 40, 41"
unfoldable pub write_refusals : (p : ℕ) (s : List ℕ) (n : ℕ) (h d : List ℕ) (room : ℕ) → List Refusal
write_refusals p s n h d room = part_refusals p s (stations_of 0 n s) n h ++ size_refusals (length s) (length h) (length d) room

-- ---- what the writer does
-- a refusal, and a written frame with its length
abbrev pub refused_writing : ℕ → Written
refused_writing k = record { number = k; length = 0 }

abbrev pub written : ℕ → Written
written k = record { number = done; length = k }

unfoldable pub write_of : (p : ℕ) (s : List ℕ) (n : ℕ) (h d out : List ℕ) → Written
write_of p s n h d out = guarded (write_refusals p s n h d (length out)) refused_writing (written (length (frame_of p s n h d)))

-- "a refusal changes nothing lent"; a frame stands at the front, and "the rest is as before"
unfoldable pub buffer_of : (p : ℕ) (s : List ℕ) (n : ℕ) (h d out : List ℕ) → List ℕ
buffer_of p s n h d out = guarded (write_refusals p s n h d (length out)) (λ k. out) (with_front (frame_of p s n h d) out)
