-- What each function of the writer leaves in the buffer, by what the functions that it calls left there. Assumes nothing.
use mathlib.Core.Path.{◌≡◌, sym, ap, ap₂, ◌∙◌}
use mathlib.Core.List.{List, [], ◌∷◌, ◌++◌, append_assoc}
use Prim.Native.Nat.{ℕ, ◌+◌, ◌/◌, ◌%◌, ◌≤◌}
use native.Mathlib.Omega.{arith}
use lib.ListN.{length, take, length-append}
use lib.Seq.{sets}
use Rattle.fcs.specs.Fcs.{check_sequence, check_octets}
use Rattle.stations.specs.declared.Next.{Next}
use Rattle.sums.specs.Sum.{header_sum}
use Rattle.stations.specs.Fields.{fields_at, stations_of, next_offset}
use Rattle.common.specs.Buffer.{with_front}
use Rattle.common.proofs.Buffer.{take-with_front, sets-with_front, sets-front}
use Rattle.afp.specs.Limits.{version}
use Rattle.afp_write.specs.Frame.{header_length, with_check, header_before, header_of, frame_of}

pub length_before : (p : ℕ) (x : Next) (s h : List ℕ) → length (header_before p x s h) ≡ fields_at + (length s + length h)
unfolding header_before
length_before p x s h = rw (length-append s h) (omega arith)

pub length-header : (p : ℕ) (x : Next) (s h : List ℕ) → length (header_of p x s h) ≡ header_length (length s) (length h)
unfolding header_of
length-header p x s h = rw (length-append (header_before p x s h) (header_sum (header_before p x s h) ∷ []), length_before p x s h) (omega arith)

-- the header before its sum, in three pieces
module _ (p : ℕ) (x : Next) (s h out head o₁ o₂ o₃ : List ℕ) (b a : ℕ)
    (he : head ≡ x.sum ∷ version ∷ p ∷ header_length (length s) (length h) ∷ next_offset x ∷ [])
    (e₁ : o₁ ≡ sets out 0 head) (be : b ≡ 0 + length head) (e₂ : o₂ ≡ sets o₁ b s) (ae : a ≡ b + length s) (e₃ : o₃ ≡ sets o₂ a h)
    (fits : fields_at + (length s + length h) ≤ length out) where
  five : length head ≡ fields_at
  five = ap length he

  pub before_put : o₃ ≡ with_front (header_before p x s h) out
  unfolding header_before
  before_put =
      let l = five in
      let l₂ : length (head ++ s) ≡ fields_at + length s = rw (length-append head s) (omega arith) in
      let f₁ : o₁ ≡ with_front head out = e₁ ∙ sets-front head out (omega arith) in
      let f₂ : o₂ ≡ with_front (head ++ s) out = e₂ ∙ ap (λ (o : List ℕ). sets o b s) f₁ ∙ sets-with_front head s out b (omega arith) (omega arith) in
      let f₃ : o₃ ≡ with_front ((head ++ s) ++ h) out = e₃ ∙ ap (λ (o : List ℕ). sets o a h) f₂ ∙ sets-with_front (head ++ s) h out a (omega arith) (omega arith) in
      f₃ ∙ ap (λ (ys : List ℕ). with_front ys out) (append_assoc head s h ∙ ap (λ (ys : List ℕ). ys ++ (s ++ h)) he)

-- the header sum after it
pub header_put : (p : ℕ) (x : Next) (s h out last o₁ o₂ : List ℕ) (e y : ℕ) → e ≡ fields_at + (length s + length h) → o₁ ≡ with_front (header_before p x s h) out
    → y ≡ header_sum (take e o₁) → last ≡ y ∷ [] → o₂ ≡ sets o₁ e last → header_length (length s) (length h) ≤ length out
    → o₂ ≡ with_front (header_of p x s h) out
unfolding header_of
header_put p x s h out last o₁ o₂ e y ee f ye le g fits =
    let b = header_before p x s h in
    let l : length b ≡ fields_at + (length s + length h) = length_before p x s h in
    let t : take e o₁ ≡ b = ap (take e) f ∙ take-with_front b out e (omega arith) in
    let z : last ≡ header_sum b ∷ [] = le ∙ ap (λ (y : ℕ). y ∷ []) (ye ∙ ap header_sum t) in
    g ∙ ap₂ (λ (o zs : List ℕ). sets o e zs) f z ∙ sets-with_front b (header_sum b ∷ []) out e (omega arith) (omega arith)

-- the check octets, low octet first
pub check_put : (out zs all : List ℕ) (k c : ℕ) → c ≡ check_sequence (take k out) → zs ≡ c % 256 ∷ c / 256 ∷ [] → all ≡ sets out k zs
    → all ≡ sets out k (check_octets (take k out))
check_put out zs all k c e z q = q ∙ ap (sets out k) (z ∙ ap (λ (c : ℕ). c % 256 ∷ c / 256 ∷ []) e)

-- data and check octets after the header
pub frame_put : (header d out o₁ o₂ o₃ : List ℕ) (e k : ℕ) → e ≡ length header → o₁ ≡ with_front header out → o₂ ≡ sets o₁ e d → k ≡ e + length d
    → o₃ ≡ sets o₂ k (check_octets (take k o₂)) → length header + length d + 2 ≤ length out → o₃ ≡ with_front (with_check (header ++ d)) out
unfolding with_check
frame_put header d out o₁ o₂ o₃ e k ee f₁ g₂ ke g₃ fits =
    let l = length-append header d in
    let f₂ : o₂ ≡ with_front (header ++ d) out = g₂ ∙ ap (λ (o : List ℕ). sets o e d) f₁ ∙ sets-with_front header d out e (sym ee) (omega arith) in
    let t : take k o₂ ≡ header ++ d = ap (take k) f₂ ∙ take-with_front (header ++ d) out k (omega arith) in
    g₃ ∙ ap₂ (λ (o xs : List ℕ). sets o k (check_octets xs)) f₂ t ∙ sets-with_front (header ++ d) (check_octets (header ++ d)) out k (omega arith) (omega arith)

pub length-frame : (p : ℕ) (s : List ℕ) (n : ℕ) (h d : List ℕ) → length (frame_of p s n h d) ≡ header_length (length s) (length h) + length d + 2
unfolding frame_of with_check
length-frame p s n h d =
    let x = (stations_of 0 n s).next in
    rw (length-append (header_of p x s h ++ d) (check_octets (header_of p x s h ++ d)), length-append (header_of p x s h) d, length-header p x s h) (omega arith)

-- the frame of the next station that was found
pub frame_of_lem : (p : ℕ) (s : List ℕ) (n : ℕ) (h d out : List ℕ) (x : Next) → x ≡ (stations_of 0 n s).next
    → with_front (with_check (header_of p x s h ++ d)) out ≡ with_front (frame_of p s n h d) out
unfolding frame_of
frame_of_lem p s n h d out x e = ap (λ (x : Next). with_front (with_check (header_of p x s h ++ d)) out) e
