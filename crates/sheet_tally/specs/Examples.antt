-- Worked records, by computation on the definition; of one count where one is enough. Assumes nothing.
use Rattle.std.specs.Prelude.{ℕ, List, [], ◌∷◌, ◌≡◌, refl}
use Rattle.sheet.specs.declared.Counts.{Counts}
use Rattle.sheet.specs.declared.Tally.{Tally}
use Rattle.sheet_tally.specs.Adding.{sums, all_fit, refusals, judged_of}
use Rattle.sheet_tally.specs.Adding.{Added}

abbrev holds : List ℕ → Tally
holds ns = record { counts = ns }

abbrev adds : List ℕ → Counts
adds ns = record { number = 0; counts = ns }

abbrev answers : ℕ → List ℕ → Added
answers n ns = record { number = n; tally = holds ns }

-- the last line, and the largest count: equal is allowed
pub largest : judged_of (holds (7 ∷ 4294967294 ∷ [])) 63 64 (adds (2 ∷ 1 ∷ [])) ≡ answers 0 (9 ∷ 4294967295 ∷ [])
unfolding judged_of refusals all_fit sums
largest = refl

-- one more, and none of the counts is added
pub too_large : judged_of (holds (7 ∷ 4294967294 ∷ [])) 63 64 (adds (2 ∷ 2 ∷ [])) ≡ answers 51 (7 ∷ 4294967294 ∷ [])
unfolding judged_of refusals all_fit sums
too_large = refl

-- line 64, though the table is longer; and a line past a shorter one
pub line_64 : judged_of (holds (7 ∷ [])) 64 65 (adds (2 ∷ [])) ≡ answers 50 (7 ∷ [])
unfolding judged_of refusals all_fit sums
line_64 = refl

pub past : judged_of (holds (7 ∷ [])) 3 3 (adds (2 ∷ [])) ≡ answers 50 (7 ∷ [])
unfolding judged_of refusals all_fit sums
past = refl

-- 50 before 51, and 6 before both
pub line_first : judged_of (holds (4294967295 ∷ [])) 64 64 (adds (1 ∷ [])) ≡ answers 50 (4294967295 ∷ [])
unfolding judged_of refusals all_fit sums
line_first = refl

pub level_first : judged_of (holds (4294967295 ∷ [])) 64 64 (record { number = 6; counts = 1 ∷ [] }) ≡ answers 6 (4294967295 ∷ [])
unfolding judged_of refusals all_fit sums
level_first = refl
