-- Laws of an octet that is put down without a branch: two places are written, the second as it was where the octet takes one. Assumes nothing.
use Rattle.std.proofs.Common.{◌≡◌, ℕ, ◌+◌, Bool, true, false, cond, List, get_or, set, sym, refl, ap, ◌∙◌, add-one, arith, get_or-set_other}
use lib.Seq.{sets, set-get_or}
use Rattle.framing.proofs.Escaping.{escaped_one-pair, escaped_one-plain}
use Rattle.framing.specs.Writing.{Writing, escaped_one}

-- a place is set to what stands there
module _ (m : List ℕ) (at x : ℕ) where
  pub set-kept : set (set m at x) (at + 1) (get_or m (at + 1) 0) ≡ set m at x
  set-kept =
      ap (set (set m at x) (at + 1)) (sym (get_or-set_other m at (at + 1) x 0 (λ e. omega (arith, e))))
      ∙ set-get_or (set m at x) (at + 1) 0

module _ (writing : Writing) (x : ℕ) (m : List ℕ) (at : ℕ) where
  either_into : (b : Bool) → writing.escapes x ≡ b
      → set (set m at (cond b writing.escape x)) (at + 1) (cond b (writing.behind x) (get_or m (at + 1) 0)) ≡ sets m at (escaped_one writing x)
  either_into true e = rw (escaped_one-pair writing x e, add-one)
  either_into false e = set-kept m at x ∙ rw (escaped_one-plain writing x e)

  pub into_either : set (set m at (cond (writing.escapes x) writing.escape x)) (at + 1) (cond (writing.escapes x) (writing.behind x) (get_or m (at + 1) 0))
      ≡ sets m at (escaped_one writing x)
  into_either = either_into (writing.escapes x) refl
