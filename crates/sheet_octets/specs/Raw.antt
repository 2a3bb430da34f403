-- Raw octets of a capture counted chunk after chunk: those that are read, and those that are skipped, each with the flags, so that both are told
-- where a segment begins and ends. Cited by `RawOctets::add`; what the counts are of a whole capture is a law (sheet_laws/proofs/Raw). Assumes nothing.
use Rattle.std.specs.Prelude.{ℕ, cond, ◌||◌, List, [], ◌∷◌, ◌≡◌, refl, eqb}
use Rattle.capture.specs.Octets.{fresh_octets, count_all}
use Rattle.framing.specs.Reports.{unskipped}
use Rattle.qaft.specs.Escape.{flag, is_flow_control}
use Rattle.qaft.specs.Limits.{sum_kind}
use Rattle.qaft_rules.specs.Rules.{rules}
use Rattle.sheet.specs.Limits.{too_large}
use Rattle.sheet_octets.specs.declared.RawOctets.{RawOctets}

-- the flags and the skipped octets, in order; `unskipped` of framing has the flags and the others
unfoldable pub flow_of : (level : ℕ) → List ℕ → List ℕ
flow_of level [] = []
flow_of level (x ∷ xs) = cond (eqb x flag || is_flow_control level x) (x ∷ flow_of level xs) (flow_of level xs)

pub flow_alone : flow_of 1 (0x11 ∷ 0x41 ∷ 0x7E ∷ 0x12 ∷ 0x13 ∷ 0x7D ∷ 0x33 ∷ 0x7E ∷ []) ≡ (0x11 ∷ 0x7E ∷ 0x13 ∷ 0x7E ∷ [])
unfolding flow_of is_flow_control
flow_alone = refl

pub none_at_level_0 : flow_of 0 (0x11 ∷ 0x41 ∷ 0x7E ∷ 0x13 ∷ 0x7E ∷ []) ≡ (0x7E ∷ 0x7E ∷ [])
unfolding flow_of is_flow_control
none_at_level_0 = refl

-- nothing read yet
abbrev pub fresh_raw : RawOctets
fresh_raw = record { kept = fresh_octets; skipped = fresh_octets }

-- the octets of a chunk
abbrev pub raw_all : (level : ℕ) → RawOctets → List ℕ → RawOctets
raw_all level r xs = record { kept = count_all too_large flag r.kept (unskipped (rules level sum_kind) xs); skipped = count_all too_large flag r.skipped (flow_of level xs) }
