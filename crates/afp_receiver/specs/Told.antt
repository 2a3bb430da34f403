-- The answer of which the refusal stands by itself. Cited by the private functions of `next_receiver`. Assumes nothing.
use Rattle.std.specs.Prelude.{Result, Ok, Err}
use Rattle.afp.specs.Refused.{number_of}
use Rattle.afp.specs.declared.Refusal.{Refusal}
use Rattle.afp_receiver.specs.declared.Receiver.{Receiver}
use Rattle.afp_receiver.specs.declared.Receiver.TheVariants.{Refused}

abbrev pub told : Result Receiver Refusal → Receiver
told (Ok r) = r
told (Err e) = Refused (number_of e)
