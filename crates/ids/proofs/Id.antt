-- Laws of the ID rule: the list's words say the same. Assumes nothing.
use Rattle.std.proofs.Common.{◌≡◌, ℕ, ◌+◌, ◌-◌, ◌<◌, Bool, cond, ◌&&◌, List, [], ◌∷◌, length, get_or, take, drop, take_all, refl, ap, ◌∙◌, arith}
use borrow.Author.Tests.{lt-ltb}
use Rattle.std.specs.List.{prefix_len, list_all}
use Rattle.ids.specs.Id.{is_callsign, is_graphic, callsign_length, all_graphic, valid_suffix}

pub prefix_callsign : (s : List ℕ) → prefix_len is_callsign s ≡ callsign_length s
unfolding callsign_length
prefix_callsign [] = refl
prefix_callsign (x ∷ s) =
    let e : 1 + prefix_len is_callsign s ≡ callsign_length s + 1 = omega (arith, prefix_callsign s) in
    ap (λ (n : ℕ). cond (is_callsign x) n 0) e

pub all_pass : (s : List ℕ) → list_all is_graphic s ≡ all_graphic s
unfolding all_graphic
all_pass [] = refl
all_pass (x ∷ s) = ap (λ (b : Bool). is_graphic x && b) (all_pass s)

-- what is appended decides
pub suffix_appended : (s : List ℕ) (r : Bool) → get_or s 0 0 ≡ 0x2D → 0 < length s → (length (take (length s - 1) (drop 1 s)) ≡ 0 → ⊥)
    → r ≡ list_all is_graphic (take (length s - 1) (drop 1 s)) → r ≡ valid_suffix s
unfolding valid_suffix
suffix_appended [] r d l n e = absurd (omega arith)
suffix_appended (x ∷ s) r d l n e =
    let w : take (length (x ∷ s) - 1) s ≡ s = take_all (length (x ∷ s) - 1) s (omega arith) in
    let p : 0 < length s = omega (arith, n, ap (length {A = ℕ}) w) in
    e ∙ ap (list_all is_graphic) w ∙ rw (d, lt-ltb 0 (length s)) (all_pass s)
