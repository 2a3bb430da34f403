-- KISS: the number given back for a refusal. Cited by the contracts of writer and reader. Assumes nothing.
use Rattle.std.specs.Prelude.{ℕ}
use Rattle.kiss.specs.Answers.{out_too_small}
use Rattle.kiss.specs.declared.Refusal.{Refusal}
use Rattle.kiss.specs.declared.Refusal.TheVariants.{NoData, DataTooLong, OutTooSmall, BufferTooSmall, BadState}
use Rattle.qaft.specs.Answers.{no_data, data_too_long, buffer_too_small, bad_state}

abbrev pub refusal_number : Refusal → ℕ
refusal_number NoData = no_data
refusal_number DataTooLong = data_too_long
refusal_number OutTooSmall = out_too_small
refusal_number BufferTooSmall = buffer_too_small
refusal_number BadState = bad_state
