-- The line sheet: the numbers given back, "after 6". Cited by the contracts. Assumes nothing.
use Rattle.std.specs.Prelude.{ℕ, ◌≡◌, ◌≢◌, Result, Ok, Err}
use Rattle.sheet.specs.declared.Refusal.{Refusal}

-- "50 line number over 63 or past the table"
abbrev pub no_line : ℕ
no_line = 50

-- "51 count too large"
abbrev pub count_too_large : ℕ
count_too_large = 51

-- a refusal by its number
abbrev pub number_of : Refusal → ℕ
number_of (Refusal.Uncounted n) = n
number_of Refusal.NoLine = no_line
number_of Refusal.CountTooLarge = count_too_large

-- the case of a refusal, where nothing was counted by the refusal of number `given`, 0 for none: that one, and no other
abbrev pub IsFor : (given : ℕ) → Refusal → Type 0
IsFor given (Refusal.Uncounted n) = (n ≡ given) × (given ≢ 0)
IsFor given Refusal.NoLine = given ≡ 0
IsFor given Refusal.CountTooLarge = given ≡ 0

-- a call's answer by the number that C programs get: 0 where it is no refusal
abbrev pub answer_number : {A : Type 0} → Result A Refusal → ℕ
answer_number (Ok x) = 0
answer_number (Err e) = number_of e
