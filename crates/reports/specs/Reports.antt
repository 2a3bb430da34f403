-- What a call of a reader comes to, in numbers: by the number and the length of its report, if it has one. Cited by contracts. Assumes nothing.
use Rattle.std.specs.Prelude.{ℕ, Option, Some, None}
use Rattle.qaft.specs.Answers.{used_up}

module _ {R : Type 0} where
  abbrev pub number_of : (number : R → ℕ) → Option R → ℕ
  number_of number (Some p) = number p
  number_of number None = used_up

  abbrev pub length_of : (length : R → ℕ) → Option R → ℕ
  length_of length (Some p) = length p
  length_of length None = 0
