-- Octets among which none of several is. Assumes nothing.
use Prim.Native.Nat.{ℕ, ◌+◌}
use mathlib.Core.Bool.{Bool, true, false, cond, not, ◌&&◌, ◌||◌}
use mathlib.Core.List.{List, [], ◌∷◌, ◌++◌}
use mathlib.Core.Path.{◌≡◌, refl, sym, ap, ap₂, ◌∙◌}
use lib.Dec.{eqb}
use lib.ListN.{length, drop}
use native.Mathlib.Omega.{arith}
use Rattle.std.proofs.Common.{Some, None, nat_lt, length-append}
use Rattle.common.proofs.Plain.{plain_length-within, plain_length-++}
use borrow.Author.Tests.{ltb-false}
use lib.Seq.{drop-drop}
use Rattle.std.proofs.Math.Seq.{drop-append_seam}
use Rattle.std.specs.List.{position, position_or_len}
use Rattle.std.proofs.lemmas.List.Quantifiers.{position-Some}
use Rattle.std.proofs.lemmas.List.Recursion.{is_position_or_len}
use Rattle.std.proofs.lemmas.List.Sums.{position_or_len_is}
use Rattle.common.specs.Plain.{plain, plain_length}
use Rattle.escapes.specs.Escapes.{is_escaped}
use Rattle.escapes.specs.declared.Escapes.{Escapes}

-- one octet more that is not the one looked for
pub and_not : (b e : Bool) → (b && not e) ≡ cond e false b
and_not true true = refl
and_not true false = refl
and_not false true = refl
and_not false false = refl

-- octets are plain by two tests at once where they are plain by each
pub plain_or : (p q : ℕ → Bool) (xs : List ℕ) → plain (λ x. p x || q x) xs ≡ (plain p xs && plain q xs)
unfolding plain
plain_or p q [] = refl
plain_or p q (x ∷ xs) = by (p x) (q x) (plain p xs) (plain q xs) (plain_or p q xs)
  where
    by : (a b c d : Bool) → plain (λ x. p x || q x) xs ≡ (c && d) → cond (a || b) false (plain (λ x. p x || q x) xs) ≡ (cond a false c && cond b false d)
    by true b c d e = refl
    by false true true d e = refl
    by false true false d e = refl
    by false false c d e = e

and_twice : (b : Bool) → (b && b) ≡ b
and_twice true = refl
and_twice false = refl

-- ---- by whether others are escaped beside the flag and the escape
module _ (e : Escapes) where
  pub four_escaped : e.others ≡ true → (x : ℕ) → ((eqb x e.flag || eqb x e.escape) || (eqb x e.third || eqb x e.fourth)) ≡ is_escaped e x
  unfolding is_escaped
  four_escaped o x = rw o (by (eqb x e.flag))
    where
      by : (a : Bool) → ((a || eqb x e.escape) || (eqb x e.third || eqb x e.fourth)) ≡ (a || (eqb x e.escape || (eqb x e.third || eqb x e.fourth)))
      by true = refl
      by false = refl

  pub two_escaped : e.others ≡ false → (x : ℕ) → (eqb x e.flag || eqb x e.escape) ≡ is_escaped e x
  unfolding is_escaped
  two_escaped o x = rw o (by (eqb x e.flag) (eqb x e.escape))
    where
      by : (a b : Bool) → (a || b) ≡ (a || (b || false))
      by true b = refl
      by false true = refl
      by false false = refl

  -- each looked for by itself
  module _ (xs : List ℕ) where
    abbrev without : ℕ → Bool
    without y = plain (λ x. eqb x y) xs

    neither : (y z : ℕ) → (without y && without z) ≡ plain (λ x. eqb x y || eqb x z) xs
    neither y z = sym (plain_or (λ x. eqb x y) (λ x. eqb x z) xs)

    pub plain_two : e.others ≡ false → (a b : Bool) → a ≡ without e.flag → b ≡ without e.escape → (a && b) ≡ plain (is_escaped e) xs
    plain_two o a b p q = rw (p, q) (neither e.flag e.escape ∙ ap (λ (f : ℕ → Bool). plain f xs) (λ i x. two_escaped o x i))

    pub plain_four : e.others ≡ true → (a b c d : Bool) → a ≡ without e.flag → b ≡ without e.escape → c ≡ without e.third → d ≡ without e.fourth
        → ((a && b) && (c && d)) ≡ plain (is_escaped e) xs
    plain_four o a b c d p q r s =
        rw (p, q, r, s) (ap₂ (λ (f g : Bool). f && g) (neither e.flag e.escape) (neither e.third e.fourth)
        ∙ sym (plain_or (λ x. eqb x e.flag || eqb x e.escape) (λ x. eqb x e.third || eqb x e.fourth) xs)
        ∙ ap (λ (f : ℕ → Bool). plain f xs) (λ i x. four_escaped o x i))

    -- the flag and the escape once more change nothing
    pub plain_all : (a b c d : Bool) → a ≡ without e.flag → b ≡ without e.escape
        → c ≡ without (cond e.others e.third e.flag) → d ≡ without (cond e.others e.fourth e.escape)
        → ((a && b) && (c && d)) ≡ plain (is_escaped e) xs
    plain_all a b c d p q r s = by e.others refl r s
      where
        by : (o : Bool) → e.others ≡ o → c ≡ without (cond o e.third e.flag) → d ≡ without (cond o e.fourth e.escape)
            → ((a && b) && (c && d)) ≡ plain (is_escaped e) xs
        by true o r s = plain_four o a b c d p q r s
        by false o r s = ap₂ (λ (f g : Bool). (a && b) && (f && g)) (r ∙ sym p) (s ∙ sym q) ∙ and_twice (a && b) ∙ plain_two o a b p q

-- ---- the first octet that is escaped
plain_first : (special : ℕ → Bool) (xs : List ℕ) → plain_length special xs ≡ position_or_len special xs
unfolding plain_length
plain_first special xs = is_position_or_len (plain_length special) special refl (λ x xs. grind arith) xs

pub plain_some : (special : ℕ → Bool) (xs : List ℕ) (i : ℕ) → position special xs ≡ Some i → plain_length special xs ≡ i
plain_some special xs i e =
    let at = position-Some special xs i 0 e in
    plain_first special xs ∙ position_or_len_is special xs i 0 (omega (arith, at.0)) at.2 (λ _. at.1)

pub plain_none : (special : ℕ → Bool) (xs : List ℕ) → position special xs ≡ None → plain_length special xs ≡ length xs
plain_none special xs e = by (nat_lt (position_or_len special xs) (length xs)) refl e
  where
    by : (b : Bool) → nat_lt (position_or_len special xs) (length xs) ≡ b → cond b (Some (position_or_len special xs)) None ≡ None → plain_length special xs ≡ length xs
    by true l h = absurd (grind (arith, h))
    by false l h = omega (arith, plain_length-within special xs, plain_first special xs, ltb-false (position_or_len special xs) (length xs) l)

-- ---- a block more, of which none is escaped
pub block_more : (special : ℕ → Bool) (n m : ℕ) (xs rest ys zs : List ℕ) → n + length rest ≡ length xs → rest ≡ drop n xs → plain_length special xs ≡ n + plain_length special rest
    → rest ≡ ys ++ zs → length ys ≡ m → true ≡ plain special ys
    → (n + m + length zs ≡ length xs) × (zs ≡ drop (n + m) xs) × (plain_length special xs ≡ n + m + plain_length special zs)
block_more special n m xs rest ys zs h r p j l e =
    let q : plain_length special rest ≡ length ys + plain_length special zs = ap (plain_length special) j ∙ plain_length-++ special ys zs (sym e) in
    let k : length rest ≡ length ys + length zs = ap length j ∙ length-append ys zs in (
      omega arith,
      sym (drop-append_seam ys zs) ∙ ap (λ (k : ℕ). drop k (ys ++ zs)) l ∙ ap (drop m) (sym j ∙ r) ∙ drop-drop m n xs,
      omega arith,
    )
