-- The answer in plain numbers, for C. Cited by `plain_receiver`. Assumes nothing.
use Rattle.afp_receiver.specs.Receiver.{number, field}
use Rattle.afp_receiver.specs.declared.PlainReceiver.{PlainReceiver}
use Rattle.afp_receiver.specs.declared.Receiver.{Receiver}

abbrev pub plain_receiver_of : Receiver → PlainReceiver
plain_receiver_of r = record { number = number r; field = field r }
