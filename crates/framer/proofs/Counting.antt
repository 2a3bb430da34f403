-- Laws of room that is counted down, so that no sum can be more than a number holds. Assumes nothing.
use Rattle.std.proofs.Common.{◌≡◌, ℕ, ◌+◌, ◌-◌, ◌<◌, ◌≤◌, Bool, true, false, ltb, leb, sym, refl, ◌∙◌, arith, ltb-false, ltb-true, le-leb}
use borrow.Author.Tests.{lt-leb}

-- two tests that hold together
tests_same : (a b c d : ℕ) → (a < b → c ≤ d) → (b ≤ a → d < c) → ltb a b ≡ leb c d
tests_same a b c d p q = by (ltb a b) refl
  where
    by : (t : Bool) → ltb a b ≡ t → ltb a b ≡ leb c d
    by true e = e ∙ sym (le-leb c d (p (ltb-true a b e)))
    by false e = e ∙ sym (lt-leb c d (q (ltb-false a b e)))

-- a closing flag fits behind pieces of f, h, o and t octets where something is left of the room
pub pieces_room : (f h o t n room a b c d : ℕ) → n ≡ f + h + o + t + 1 → a ≡ room - f → b ≡ a - h → c ≡ b - o → d ≡ c - t → ltb 0 d ≡ leb n room
pieces_room f h o t n room a b c d e p q r s = tests_same 0 d n room (λ k. omega arith) (λ k. omega arith)
