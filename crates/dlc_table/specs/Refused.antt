-- Refusals as values, and their numbers. Cited by the functions that refuse. Assumes nothing.
--
--   number_of r     the number of a refusal, as Answers has it
--   code_of t       the number of a test that refuses or lets pass
use Rattle.std.specs.Prelude.{ℕ, Result, Ok, Err}
use Rattle.dlc_table.specs.declared.Refusal.{Refusal}
use Rattle.dlc_table.specs.declared.Refusal.TheVariants.{NotOpen, PayloadTooLong, QueueFull, BadPacket, NoEntry, ReplyTooSmall, BadLink, BadEdition}
use Rattle.dlc_table.specs.Answers.{done, not_open, payload_too_long, queue_full, bad_packet, no_entry, reply_too_small, bad_link, bad_edition}

abbrev pub number_of : Refusal → ℕ
number_of NotOpen = not_open
number_of PayloadTooLong = payload_too_long
number_of QueueFull = queue_full
number_of BadPacket = bad_packet
number_of NoEntry = no_entry
number_of ReplyTooSmall = reply_too_small
number_of BadLink = bad_link
number_of BadEdition = bad_edition

abbrev pub code_of : Result (Unit {0}) Refusal → ℕ
code_of (Ok x) = done
code_of (Err r) = number_of r
