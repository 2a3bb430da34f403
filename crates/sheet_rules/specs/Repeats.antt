-- The line sheet: repeats by a plain recursion over the numbers of the DATA packets alone. Cited by the theorem that these are the repeats of
-- the counts. Assumes nothing.
use Rattle.std.specs.Prelude.{ℕ, suc, cond, List, [], ◌∷◌, eqb}
use Rattle.dlc_packet.specs.Packet.{kind_of}
use Rattle.dlc_packet.specs.declared.Kind.{Kind}
use Rattle.dlc_packet.specs.declared.Kind.TheVariants.{Invalid, Reset, ResetAck, Data, Dack}
use Rattle.framing.specs.Reports.{Reported}
use Rattle.qaft_report.specs.declared.Report.{Report}

abbrev pub number_before : Kind → List ℕ → List ℕ
number_before Invalid xs = xs
number_before Reset xs = xs
number_before ResetAck xs = xs
number_before (Data x) xs = x ∷ xs
number_before (Dack x) xs = xs

-- the numbers of the DATA packets among the reports, in order
unfoldable pub data_numbers : List (Reported Report) → List ℕ
data_numbers [] = []
data_numbers (r ∷ rs) = number_before (kind_of r.octets) (data_numbers rs)

-- numbers that equal the one before them
unfoldable pub equals_before : List ℕ → ℕ
equals_before [] = 0
equals_before (x ∷ []) = 0
equals_before (x ∷ y ∷ ys) = let n = equals_before (y ∷ ys) in cond (eqb y x) (suc n) n
