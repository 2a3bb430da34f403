-- An answer with the number 0: no refusal applied. Assumes nothing.
use Prim.Native.Nat.{ℕ}
use mathlib.Core.Bool.{Bool, true, false, cond, not}
use mathlib.Core.Path.{◌≡◌, refl, sym, ap, ◌∙◌}
use borrow.Author.Tests.{eqb-false}
use lib.Dec.{eqb}
use Rattle.common.proofs.FirstRefusal.{number_passed}
use Rattle.common.proofs.Refusals.{Passed}
use Rattle.common.specs.Refusals.{guarded}
use Rattle.sheet.specs.declared.Counts.{Counts}
use Rattle.sheet.specs.declared.Tally.{Tally}
use Rattle.sheet_tally.specs.Adding.{counted_refusals, refusals}

-- the number of the refusal by which nothing was counted is 0 where there is none
pub refusals_passed : {A : Type 0} (number : A → ℕ) (refuse : ℕ → A) → ((n : ℕ) → number (refuse n) ≡ n) → (done : A) (t : Tally) (line lines : ℕ) (c : Counts)
    → number (guarded (refusals t line lines c) refuse done) ≡ 0 → Passed (refusals t line lines c)
unfolding refusals
refusals_passed number refuse shows done t line lines c z = go (eqb c.number 0) refl z (number_passed number refuse shows done (counted_refusals t line lines c) tt)
  where
    go : {P : Type 0} {rest : _} (b : Bool) → eqb c.number 0 ≡ b → number (cond (not b) (refuse c.number) rest) ≡ 0 → (number rest ≡ 0 → P) → (not (eqb c.number 0) ≡ false) × P
    go true e z f = (ap not e, f z)
    go false e z f = absurd (eqb-false c.number 0 e (sym (shows c.number) ∙ z))
