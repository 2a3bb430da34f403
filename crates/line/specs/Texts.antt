-- A caller that makes a text of each report, with a tally beside it, and puts each text behind the one before into a lent buffer, as long as there is
-- room for every text; and the caller of that, who writes out what stands at the buffer's front after each call. For any reader that goes octet by
-- octet. Assumes nothing.
--
--   with_text           one more report: its text, and the tally with it
--   text_call           a call on a chunk
--   text_chunks         all that is written out, chunk after chunk; the rest of a chunk goes into the next call
--   texts_of, tally_of   the texts of a list of reports one after another, and the tally after them
use Rattle.std.specs.Prelude.{ℕ, zero, suc, ◌+◌, Bool, List, [], ◌∷◌, ◌++◌, leb, length, take, drop}
use Rattle.std.proofs.lemmas.List.Edits.{sets}
use Rattle.line.specs.Gather.{Gathered, gather_all}
use Rattle.line.specs.Scan.{Action}
use Rattle.line.specs.Trace.{Event}

-- what was made so far: the tally, the out buffer, the index behind the last text
pub record Texts (X : Type 0) : Type 0 where
  pub tally : X
  pub out : List ℕ
  pub behind : ℕ

-- whether there is room for every text
unfoldable pub has_room : {X : Type 0} (longest : ℕ) → Texts X → Bool
has_room longest c = leb (c.behind + longest) (length c.out)

-- what was written out; the state, the tally and the two buffers after it
pub record Written (S X : Type 0) : Type 0 where
  pub text : List ℕ
  pub state : S
  pub tally : X
  pub buffer : List ℕ
  pub out : List ℕ

module _ {S X : Type 0} where
  -- nothing was written
  abbrev pub nothing : S → X → (m out : List ℕ) → Written S X
  nothing s k m out = record { text = []; state = s; tally = k; buffer = m; out = out }

  -- one text and then others
  abbrev pub following : List ℕ → Written S X → Written S X
  following t w = record { text = t ++ w.text; state = w.state; tally = w.tally; buffer = w.buffer; out = w.out }

module _ {R X : Type 0} (text : X → R → List ℕ → List ℕ) (tallied : X → R → X) where
  -- one more report, whose octets stand in the buffer m
  unfoldable pub with_text : Texts X → R → (m : List ℕ) → Texts X
  with_text c r m =
      let t = text c.tally r m in
      record { tally = tallied c.tally r; out = sets c.out c.behind t; behind = c.behind + length t }

  unfoldable pub texts_of : X → List (Event R) → List ℕ
  texts_of k [] = []
  texts_of k (e ∷ es) = text k e.report e.buffer ++ texts_of (tallied k e.report) es

  unfoldable pub tally_of : X → List (Event R) → X
  tally_of k [] = k
  tally_of k (e ∷ es) = tally_of (tallied k e.report) es

  module _ {S : Type 0} (longest : ℕ) (f : S → ℕ → Action S R) where
    abbrev pub text_call : S → X → (xs m out : List ℕ) → Gathered S (Texts X)
    text_call s k xs m out = gather_all with_text (has_room longest) f s xs m (record { tally = k; out = out; behind = 0 })

    -- a chunk, in at most n calls
    unfoldable pub text_chunk : (n : ℕ) → S → X → (xs m out : List ℕ) → Written S X
    text_chunk zero s k xs m out = nothing s k m out
    text_chunk (suc n) s k [] m out = nothing s k m out
    text_chunk (suc n) s k (x ∷ xs) m out =
        let g = text_call s k (x ∷ xs) m out in
        following (take g.made.behind g.made.out) (text_chunk n g.state g.made.tally (drop g.taken (x ∷ xs)) g.buffer g.made.out)

    -- chunk after chunk; a chunk of n octets takes at most n calls
    unfoldable pub text_chunks : S → X → List (List ℕ) → (m out : List ℕ) → Written S X
    text_chunks s k [] m out = nothing s k m out
    text_chunks s k (xs ∷ xss) m out =
        let w = text_chunk (length xs) s k xs m out in
        following w.text (text_chunks w.state w.tally xss w.buffer w.out)
