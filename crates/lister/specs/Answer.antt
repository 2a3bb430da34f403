-- The answer to a call of `list`, and what the code's result says of it. Cited by its contract. Assumes nothing.
use Rattle.std.specs.Prelude.{ℕ, Result, Ok, Err}
use Rattle.lister.specs.declared.Listed as declared
use Rattle.lister.specs.declared.Lister.{Lister}
use Rattle.qaft.specs.Answers.{done}
use Rattle.qaft.specs.Refusal.{refusal_number}
use Rattle.qaft.specs.declared.Refusal.{Refusal}

-- a refusal's number or 0, the octets of the chunk taken, the octets put at the front of the out buffer, and what goes into the next call
pub record Listed : Type 0 where
  pub number : ℕ
  pub taken : ℕ
  pub length : ℕ
  pub lister : Lister

-- the result of a call with the lister l; a refusal takes and puts nothing, and the caller still has the lister
abbrev pub answered : Lister → Result declared.Listed Refusal → Listed
answered l (Ok a) = record { number = done; taken = a.taken; length = a.length; lister = a.lister }
answered l (Err e) = record { number = refusal_number e; taken = 0; length = 0; lister = l }
