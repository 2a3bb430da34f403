-- Lines of a sheet, worked. Assumes nothing.
use mathlib.Core.List.{[], ◌∷◌}
use mathlib.Core.Path.{◌≡◌, refl}
use lib.ListN.{replicate}
use Rattle.fraction.specs.Fraction.{gcd_within, gcd, lowest_of}
use Rattle.octets.specs.Sum.{sum}
use Rattle.sheet.specs.Limits.{counts_long, max_count}
use Rattle.sheet_line.specs.Line.{share, counts_text, share_text, line_text}
use Rattle.text.specs.Text.{ascii, decimal_onto, decimal}

no_bad_check : line_text 0 (1 ∷ 5 ∷ 6 ∷ 1 ∷ 0 ∷ 1 ∷ 1 ∷ 0 ∷ 1 ∷ 0 ∷ 0 ∷ 1 ∷ 0 ∷ 0 ∷ []) ≡ ascii "0 1 5 6 1 0 1 1 0 1 0 0 1 0 0 0/1\n"
unfolding line_text counts_text share_text share lowest_of gcd gcd_within sum decimal decimal_onto
no_bad_check = refl

-- six bad checks in nine reports, of which one is a bad pair; five skipped octets
two_thirds : line_text 63 (0 ∷ 10 ∷ 27 ∷ 4 ∷ 5 ∷ 1 ∷ 0 ∷ 0 ∷ 1 ∷ 6 ∷ 1 ∷ 1 ∷ 0 ∷ 0 ∷ []) ≡ ascii "63 0 10 27 4 5 1 0 0 1 6 1 1 0 0 2/3\n"
unfolding line_text counts_text share_text share lowest_of gcd gcd_within sum decimal decimal_onto
two_thirds = refl

nothing_reported : line_text 7 (replicate counts_long 0) ≡ ascii "7 0 0 0 0 0 0 0 0 0 0 0 0 0 0 0/1\n"
unfolding line_text counts_text share_text share lowest_of gcd gcd_within sum decimal decimal_onto
nothing_reported = refl

-- every count as large as it gets: the sum of the reports has more than 32 bits
full : line_text 1 (replicate counts_long max_count)
    ≡ ascii "1 4294967295 4294967295 4294967295 4294967295 4294967295 4294967295 4294967295 4294967295 4294967295 4294967295 4294967295 4294967295 4294967295 4294967295 1/6\n"
unfolding line_text counts_text share_text share lowest_of gcd gcd_within sum decimal decimal_onto
full = refl
