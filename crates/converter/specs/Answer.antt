-- The answer to a call of `convert`, and what the code's result says of it. Cited by its contract. Assumes nothing.
use Rattle.std.specs.Prelude.{ℕ, Result, Ok, Err}
use Rattle.converter.specs.declared.Converted as declared
use Rattle.converter.specs.declared.Converter.{Converter}
use Rattle.converter.specs.declared.Refusal.{Refusal}
use Rattle.converter.specs.declared.Refusal.TheVariants.{BadLevel, KissOutTooSmall, QaftOutTooSmall, BufferTooSmall}
use Rattle.kiss.specs.Answers as kiss
use Rattle.qaft.specs.Answers.{done, out_too_small, buffer_too_small, bad_level}

-- the number given back for a refusal
abbrev pub refusal_number : Refusal → ℕ
refusal_number BadLevel = bad_level
refusal_number KissOutTooSmall = kiss.out_too_small
refusal_number QaftOutTooSmall = out_too_small
refusal_number BufferTooSmall = buffer_too_small

-- a refusal's number or 0, the octets of the chunk taken, the octets put at the front of the out buffer, and what goes into the next call
pub record Converted : Type 0 where
  pub number : ℕ
  pub taken : ℕ
  pub length : ℕ
  pub converter : Converter

-- the result of a call with the converter c; a refusal takes and puts nothing, and the caller still has the converter
abbrev pub answered : Converter → Result declared.Converted Refusal → Converted
answered c (Ok a) = record { number = done; taken = a.taken; length = a.length; converter = a.converter }
answered c (Err e) = record { number = refusal_number e; taken = 0; length = 0; converter = c }
