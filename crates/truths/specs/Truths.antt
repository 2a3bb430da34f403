-- True and false as numbers. Cited by what C programs call. Assumes nothing.
use Rattle.std.specs.Prelude.{ℕ, Bool, true, false, not, eqb}

-- any number but 0 stands for true, and true is given back as 1
abbrev pub truth : ℕ → Bool
truth n = not (eqb n 0)

abbrev pub bit : Bool → ℕ
bit true = 1
bit false = 0
