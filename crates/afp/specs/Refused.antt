-- AFP: refusals and their numbers. Cited by every function that refuses. Assumes nothing.
--
--   number_of r   the number of the refusal r
--   refused r     the number of what r is refused with, or 0
use Rattle.std.specs.Prelude.{ℕ, Result, Ok, Err}
use Rattle.afp.specs.Answers.{done, bad_length, bad_check, bad_version, bad_protocol, bad_offset, bad_stations, bad_next, bad_next_sum, bad_supplementary, bad_header_sum, bad_data, out_too_small}
use Rattle.afp.specs.declared.Refusal.{Refusal}
use Rattle.afp.specs.declared.Refusal.TheVariants.{BadLength, BadCheck, BadVersion, BadProtocol, BadOffset, BadStations, BadNext, BadNextSum, BadSupplementary, BadHeaderSum, BadData, OutTooSmall}

abbrev pub number_of : Refusal → ℕ
number_of BadLength = bad_length
number_of BadCheck = bad_check
number_of BadVersion = bad_version
number_of BadProtocol = bad_protocol
number_of BadOffset = bad_offset
number_of BadStations = bad_stations
number_of BadNext = bad_next
number_of BadNextSum = bad_next_sum
number_of BadSupplementary = bad_supplementary
number_of BadHeaderSum = bad_header_sum
number_of BadData = bad_data
number_of OutTooSmall = out_too_small

abbrev pub refused : {A : Type 0} → Result A Refusal → ℕ
refused (Ok x) = done
refused (Err r) = number_of r
