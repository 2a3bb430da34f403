-- A loop that puts the lines of a sheet, and stands at record i: what is left, put behind what stands there, gives the whole. Assumes nothing.
use Prim.Native.Nat.{ℕ, zero, suc, ◌+◌, ◌*◌, ◌≤◌, ◌<◌}
use mathlib.Core.List.{List, [], ◌∷◌, ◌++◌}
use mathlib.Core.Path.{◌≡◌, refl, sym, ap, ap₂, ◌∙◌}
use native.Mathlib.Nat.{not-suc-le-zero, le_of_suc-le-suc}
use native.Mathlib.Numerals.{add-one}
use native.Mathlib.Omega.{arith}
use mir.Val.{Val}
use denote.Array.{Array, each}
use denote.Laws.{Is}
use denote.Shadow.{shadow}
use lib.ListN.{length, get_or, drop, drop_of_length-le, length-append}
use lib.Seq.{sets, length-sets, drop-cons}
use Rattle.common.proofs.Buffer.{sets-++}
use Rattle.line_sheet.specs.Sheet.{lines_text, sheet_room}
use Rattle.sheet.specs.contracts.Tally as T
use Rattle.sheet.specs.Limits.{lines, counts_long}
use Rattle.sheet.specs.declared.Tally.{Tally}
use Rattle.sheet_line.proofs.Line.{length-line_text}
use Rattle.sheet_line.specs.Line.{line_text, line_room}
use Rattle.text.proofs.Room.{text_room}
use Rattle.text.specs.Placed.{Placed}
use Rattle.text.specs.Room.{text_into, text_end}

-- what owning a record tells of its counts: how many there are
counts_long_lem : (t : Tally) (vs : List Val) → Is T.the_row t vs → length t.counts ≡ counts_long
counts_long_lem t vs g = g.1.1.0.1.0.1

-- every record has all its counts
abbrev pub Long : List Tally → Type 0
Long [] = Unit {0}
Long (t ∷ ts) = (length t.counts ≡ counts_long) × Long ts

long_at_lem : (ts : List Tally) (i : ℕ) (d : Tally) → i < length ts → Long ts → length (get_or ts i d).counts ≡ counts_long
long_at_lem [] i d h g = absurd (not-suc-le-zero h)
long_at_lem (t ∷ ts) zero d h g = g.0
long_at_lem (t ∷ ts) (suc i) d h g = long_at_lem ts i d (le_of_suc-le-suc h) g.1

each_long : (ts : List Tally) (us : List Val) → shadow (each Tally (T.the_row).own_val ts us) → Long ts
each_long [] us g = tt
each_long (t ∷ ts) [] g = absurd g
each_long (t ∷ ts) (u ∷ us) g = (counts_long_lem t (u ∷ []) g.0, each_long ts us g.1)

-- owning an array of records tells both
pub array_long : (n : ℕ) (ts : List Tally) (vs : List Val) → Is (Array T.the_row n) ts vs → (length ts ≡ n) × Long ts
array_long n ts vs g = (g.1.0.1, each_long ts g.0 g.1.1)

-- the lines before record i stand in the buffer m, which was m₀, and at is the index behind them
pub record Onwards (ts : List Tally) (m₀ m : List ℕ) (at i : ℕ) : Type 0 where
  pub few : at ≤ i * line_room
  pub kept : length m ≡ length m₀
  pub behind : at + length (lines_text i (drop i ts)) ≡ length (lines_text 0 ts)
  pub octets : sets m at (lines_text i (drop i ts)) ≡ sets m₀ 0 (lines_text 0 ts)

module _ (ts : List Tally) (m₀ : List ℕ) where
  pub starts : Onwards ts m₀ m₀ 0 0
  starts = record { few = omega arith; kept = refl; behind = omega arith; octets = refl }

  module _ (m : List ℕ) (at i : ℕ) (o : Onwards ts m₀ m at i) where
    pub ends : length ts ≤ i → Placed m₀ 0 (lines_text 0 ts) m at
    unfolding lines_text
    ends h =
        let e : lines_text i (drop i ts) ≡ [] = ap (lines_text i) (drop_of_length-le ts h) in
        record {
          behind = omega (arith, o.behind, ap length e);
          octets = sym (ap (sets m at) e) ∙ o.octets;
        }

    module _ (d : Tally) (m' : List ℕ) (r : ℕ) (long : length ts ≡ lines) (g : Long ts) (room : sheet_room ≤ length m₀) (h : i < lines)
        (e : r ≡ text_end line_room (line_text i (get_or ts i d).counts) (length m) at) (f : m' ≡ text_into line_room (line_text i (get_or ts i d).counts) m at) where
      abbrev t : List ℕ
      t = line_text i (get_or ts i d).counts

      split : lines_text i (drop i ts) ≡ t ++ lines_text (i + 1) (drop (i + 1) ts)
      unfolding lines_text
      split = ap (lines_text i) (drop-cons ts i d (omega arith)) ∙ sym (ap (λ (k : ℕ). t ++ lines_text k (drop k ts)) (add-one i))

      fits : at + line_room ≤ length m
      fits = omega (arith, o.few, o.kept)

      pub goes : Onwards ts m₀ m' r (i + 1)
      goes =
          let a : r ≡ at + length t = e ∙ (text_room line_room t m at fits).0 in
          let b : m' ≡ sets m at t = f ∙ (text_room line_room t m at fits).1 in
          let rest = lines_text (i + 1) (drop (i + 1) ts) in
          record {
            few = omega (arith, a, o.few, length-line_text i (get_or ts i d).counts (long_at_lem ts i d (omega arith) g));
            kept = ap length b ∙ length-sets m at t ∙ o.kept;
            behind = omega (arith, a, o.behind, ap length split, length-append t rest);
            octets = ap₂ (λ (n : List ℕ) (k : ℕ). sets n k rest) b a ∙ sym (sets-++ t rest m at) ∙ sym (ap (sets m at) split) ∙ o.octets;
          }
