-- What is written of a report fits where there is room for every frame, and is what the writers write. Assumes nothing.
use Rattle.std.proofs.Common.{◌≡◌, ℕ, ◌+◌, ◌-◌, ◌≤◌, Bool, true, false, List, [], length, take, drop, sym, refl, ap, ◌∙◌, arith, length-drop, length-take-le, eq-eqb, ne_eqb}
use Rattle.common.specs.Buffer.{with_front}
use Rattle.converter.proofs.Rules.{Within}
use Rattle.converter.specs.Gist.{gist_length, data_from, frame_of, text_of, text_by}
use Rattle.converter.specs.declared.Gist.{Gist}
use Rattle.converter.specs.declared.Gist.TheVariants.{Frame, Skipped, Other}
use Rattle.framing.proofs.Shown.{shown_part, shown_short}
use Rattle.framing.specs.Reports.{shown}
use Rattle.kiss.proofs.Frame as kiss
use Rattle.kiss.specs.Frame as kiss_frame
use Rattle.kiss_write.proofs.Refusals as kiss_writer
use Rattle.kiss_write.specs.Write as kiss_write
use Rattle.qaft.proofs.Frame as qaft
use Rattle.qaft.specs.Frame as qaft_frame
use Rattle.qaft.specs.Limits.{sum_kind, max_level, max_data, max_segment, max_frame}
use Rattle.qaft_write.proofs.Refusals as qaft_writer
use Rattle.qaft_write.specs.Answer.{Outcome, wrote}
use Rattle.qaft_write.specs.Write as qaft_write

frame_fits : (to_kiss : Bool) (level : ℕ) (at_flag : Bool) (d : List ℕ) → length d ≤ max_data → length (frame_of to_kiss level at_flag d) ≤ max_frame
frame_fits true level at_flag d h = omega (arith, kiss.frame_fits at_flag d h)
frame_fits false level at_flag d h = qaft.frame_fits level sum_kind at_flag d h

-- no text is longer than the longest frame
pub text_fits : (to_kiss : Bool) (level : ℕ) (at_flag : Bool) (g : Gist) (m : List ℕ) → Within g → length (text_of to_kiss level at_flag g m) ≤ max_frame
text_fits to_kiss level at_flag (Frame n) m h = frame_fits to_kiss level at_flag (shown m (data_from to_kiss) n) (omega (arith, shown_short m (data_from to_kiss) n, h.1))
text_fits to_kiss level at_flag Skipped m h = omega arith
text_fits to_kiss level at_flag Other m h = omega arith

-- a report's text by the number of its octets
pub text_by_lem : (to_kiss : Bool) (level : ℕ) (at_flag : Bool) (g : Gist) (m : List ℕ) → Within g → text_by to_kiss level at_flag (gist_length g) m ≡ text_of to_kiss level at_flag g m
unfolding text_by
text_by_lem to_kiss level at_flag (Frame n) m h = rw (ne_eqb n 0 (λ e. omega (arith, e, h.0)))
text_by_lem to_kiss level at_flag Skipped m h = refl
text_by_lem to_kiss level at_flag Other m h = refl

pub text_none : (to_kiss : Bool) (level : ℕ) (at_flag : Bool) (n : ℕ) (m : List ℕ) → n ≡ 0 → text_by to_kiss level at_flag n m ≡ []
unfolding text_by
text_none to_kiss level at_flag n m e = rw (eq-eqb n 0 e)

-- ---- as the code goes: by the part of the buffer that is handed to a writer
shown_front : (m : List ℕ) (n : ℕ) → n ≤ length m → shown m 0 n ≡ take n m
shown_front m n h = shown_part m 0 n (omega arith)

shown_behind : (m : List ℕ) (n : ℕ) → 1 + n ≤ length m → shown m 1 n ≡ take n (drop 1 m)
shown_behind m n h = shown_part m 1 n h

module _ (level : ℕ) (at_flag : Bool) (n : ℕ) (m out : List ℕ) (lev : level ≤ max_level) (some : n ≡ 0 → ⊥) (most : n ≤ max_data) (segment : max_segment ≤ length m) (room : max_frame ≤ length out) where
  -- to KISS
  kiss_text : text_by true level at_flag n m ≡ kiss_frame.frame at_flag (take n m)
  unfolding text_by
  kiss_text = rw (ne_eqb n 0 some) (ap (kiss_frame.frame at_flag) (shown_front m n (omega arith)))

  kiss_done : kiss_write.write_frame at_flag (take n m) out ≡ wrote out (kiss_frame.frame at_flag (take n m))
  kiss_done =
      let k = length-take-le n m (omega arith) in
      kiss_writer.write_written at_flag (take n m) out (omega (arith, k, some)) (omega (arith, k)) (omega arith)

  pub put_kiss : ((kiss_write.write_frame at_flag (take n m) out).answer.length ≡ length (text_by true level at_flag n m)) × ((kiss_write.write_frame at_flag (take n m) out).buffer ≡ with_front (text_by true level at_flag n m) out)
  unfolding wrote
  put_kiss = (
    ap (λ (o : Outcome). o.answer.length) kiss_done ∙ ap length (sym kiss_text),
    ap (λ (o : Outcome). o.buffer) kiss_done ∙ ap (λ (t : List ℕ). with_front t out) (sym kiss_text),
  )

  -- to QAFT: the payload stands behind the type octet, up to the index e
  module _ (e : ℕ) (ee : e ≡ n + 1) where
    abbrev part : List ℕ
    part = take (e - 1) (drop 1 m)

    part_is : part ≡ take n (drop 1 m)
    part_is = let k : e - 1 ≡ n = omega (arith, ee) in ap (λ (n : ℕ). take n (drop 1 m)) k

    qaft_text : text_by false level at_flag n m ≡ qaft_frame.frame level sum_kind at_flag part
    unfolding text_by
    qaft_text = rw (ne_eqb n 0 some) (ap (qaft_frame.frame level sum_kind at_flag) (shown_behind m n (omega arith) ∙ sym part_is))

    qaft_done : qaft_write.write_frame level sum_kind at_flag part out ≡ wrote out (qaft_frame.frame level sum_kind at_flag part)
    qaft_done =
        let k = length-take-le n (drop 1 m) (omega (arith, length-drop 1 m)) in
        let l : length part ≡ n = ap length part_is ∙ k in
        qaft_writer.write_written level sum_kind lev (omega arith) at_flag part out (omega (arith, l, some)) (omega (arith, l)) room

    pub put_qaft : ((qaft_write.write_frame level sum_kind at_flag part out).answer.length ≡ length (text_by false level at_flag n m)) × ((qaft_write.write_frame level sum_kind at_flag part out).buffer ≡ with_front (text_by false level at_flag n m) out)
    unfolding wrote
    put_qaft = (
      ap (λ (o : Outcome). o.answer.length) qaft_done ∙ ap length (sym qaft_text),
      ap (λ (o : Outcome). o.buffer) qaft_done ∙ ap (λ (t : List ℕ). with_front t out) (sym qaft_text),
    )
