-- A caller of the converter, who writes out what stands at the front of the out buffer after each call. Cited by the theorems. Assumes nothing.
--
--   convert_chunks c xss m out   chunk after chunk; the rest of a chunk goes into the next call
use Rattle.std.specs.Prelude.{ℕ, zero, suc, List, [], ◌∷◌, ◌++◌, length, take, drop}
use Rattle.converter.specs.Convert.{convert}
use Rattle.converter.specs.declared.Converter.{Converter}

-- what was written; the converter and the two buffers after it
pub record Written : Type 0 where
  pub text : List ℕ
  pub converter : Converter
  pub buffer : List ℕ
  pub out : List ℕ

-- nothing written
abbrev pub nothing : Converter → (m out : List ℕ) → Written
nothing c m out = record { text = []; converter = c; buffer = m; out = out }

-- octets and then others
abbrev pub following : List ℕ → Written → Written
following t w = record { text = t ++ w.text; converter = w.converter; buffer = w.buffer; out = w.out }

-- a chunk, in at most n calls
unfoldable pub convert_chunk : (n : ℕ) → Converter → (xs m out : List ℕ) → Written
convert_chunk zero c xs m out = nothing c m out
convert_chunk (suc n) c [] m out = nothing c m out
convert_chunk (suc n) c (x ∷ xs) m out =
    let k = convert c (x ∷ xs) m out in
    following (take k.answer.length k.out) (convert_chunk n k.answer.converter (drop k.answer.taken (x ∷ xs)) k.buffer k.out)

-- chunk after chunk; a chunk of n octets takes at most n calls
unfoldable pub convert_chunks : Converter → List (List ℕ) → (m out : List ℕ) → Written
convert_chunks c [] m out = nothing c m out
convert_chunks c (xs ∷ xss) m out =
    let w = convert_chunk (length xs) c xs m out in
    following w.text (convert_chunks w.converter xss w.buffer w.out)
