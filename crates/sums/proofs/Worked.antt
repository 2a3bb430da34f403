-- The paper's worked sum: 04 41 42 31 43 is FB. Assumes nothing.
use Rattle.std.proofs.Common.{◌≡◌, [], ◌∷◌, refl}
use Rattle.sums.specs.Sum.{sum_from}

pub worked_sum : sum_from 0 (0x04 ∷ 0x41 ∷ 0x42 ∷ 0x31 ∷ 0x43 ∷ []) ≡ 0xFB
unfolding sum_from
worked_sum = refl
