-- A caller of the lister, who writes out what stands at the front of the out buffer after each call. Cited by the theorem. Assumes nothing.
--
--   list_chunks l xss m out       chunk after chunk; the rest of a chunk goes into the next call
--   listed kiss level xss m out  all that is written, from the heading to the last line
use Rattle.std.specs.Prelude.{ℕ, zero, suc, Bool, List, [], ◌∷◌, ◌++◌, length, take, drop}
use Rattle.lister.specs.Lines.{fresh_lister, list, last_line}
use Rattle.lister.specs.declared.Lister.{Lister}
use Rattle.listing_ends.specs.Ends.{heading, short_line}
use Rattle.text.specs.Room.{text_into, text_end}

-- what was written; the lister and the two buffers after it
pub record Written : Type 0 where
  pub text : List ℕ
  pub lister : Lister
  pub buffer : List ℕ
  pub out : List ℕ

-- nothing written
abbrev pub nothing : Lister → (m out : List ℕ) → Written
nothing l m out = record { text = []; lister = l; buffer = m; out = out }

-- one text and then another
abbrev pub following : List ℕ → Written → Written
following t w = record { text = t ++ w.text; lister = w.lister; buffer = w.buffer; out = w.out }

-- a chunk, in at most n calls
unfoldable pub list_chunk : (n : ℕ) → Lister → (xs m out : List ℕ) → Written
list_chunk zero l xs m out = nothing l m out
list_chunk (suc n) l [] m out = nothing l m out
list_chunk (suc n) l (x ∷ xs) m out =
    let k = list l (x ∷ xs) m out in
    following (take k.answer.length k.out) (list_chunk n k.answer.lister (drop k.answer.taken (x ∷ xs)) k.buffer k.out)

-- chunk after chunk; a chunk of n octets takes at most n calls
unfoldable pub list_chunks : Lister → List (List ℕ) → (m out : List ℕ) → Written
list_chunks l [] m out = nothing l m out
list_chunks l (xs ∷ xss) m out =
    let w = list_chunk (length xs) l xs m out in
    following w.text (list_chunks w.lister xss w.buffer w.out)

-- a short line put at the front of the out buffer, and written from there
abbrev pub short_text : (t out : List ℕ) → List ℕ
short_text t out = take (text_end short_line t (length out) 0) (text_into short_line t out 0)

unfoldable pub listed : (kiss : Bool) (level : ℕ) → List (List ℕ) → (m out : List ℕ) → List ℕ
listed kiss level xss m out =
    let w = list_chunks (fresh_lister kiss level) xss m (text_into short_line (heading kiss level) out 0) in
    short_text (heading kiss level) out ++ (w.text ++ short_text (last_line w.lister) w.out)
