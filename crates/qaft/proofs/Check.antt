-- Laws of the check, of either kind: how many octets it has, and that data with their check, and no others, leave a good running check. Assumes nothing.
use Rattle.std.proofs.Common.{◌≡◌, ℕ, ◌+◌, ◌%◌, ◌≤◌, Bool, true, false, cond, eqb, List, [], ◌∷◌, ◌++◌, length, take, sym, refl, ap, ◌∙◌, zero-add, arith, lt-ltb}
use Rattle.fcs.proofs.Residue as fcs
use Rattle.fcs.specs.Fcs.{preset, feed_all}
use Rattle.framing.specs.Bodies.{Octets}
use Rattle.octets.proofs.Summing.{sum-++, running_from}
use Rattle.octets.specs.Sum.{sum}
use Rattle.qaft.specs.Check.{check_octet, Check, sum_check, fcs_check, check_by, check_pair}
use Rattle.qaft.specs.Limits.{fcs_kind, sum_size, fcs_size, check_size}

-- the running check after octets
unfoldable pub running : Check → (a : ℕ) → List ℕ → ℕ
running c a [] = a
running c a (x ∷ xs) = running c (c.add a x) xs

-- what a check of n octets has to obey
pub record Sound (n : ℕ) (c : Check) : Type 0 where
  pub as_many : (d : List ℕ) → length (c.octets d) ≡ n
  -- its octets, and no others, make it good
  pub good_is : (d : List ℕ) → running c c.blank (d ++ c.octets d) ≡ c.good
  pub good_only : (d t : List ℕ) → Octets t → length t ≡ n → running c c.blank (d ++ t) ≡ c.good → t ≡ c.octets d
  -- and what runs along is a check
  pub blank-is_check : c.is_check c.blank ≡ true
  pub added-is_check : (a x : ℕ) → c.is_check (c.add a x) ≡ true

-- ---- by the sum: "data and check sum to 0 modulo 256"
running_sum : (xs : List ℕ) → running sum_check 0 xs ≡ sum xs % 256
unfolding running
running_sum xs = running_from (λ n a xs. running sum_check a xs) (λ n a. refl) (λ n a x xs. refl) xs 0 0 ∙ ap (λ (n : ℕ). n % 256) (zero-add (sum xs))

sum_checked : (d : List ℕ) → sum (d ++ (check_octet d ∷ [])) % 256 ≡ 0
unfolding check_octet sum
sum_checked d = omega (arith, sum-++ d (check_octet d ∷ []))

sum_only : (d t : List ℕ) → Octets t → length t ≡ sum_size → running sum_check 0 (d ++ t) ≡ 0 → t ≡ check_octet d ∷ []
unfolding check_octet sum
sum_only d [] o l e = absurd (omega (arith, l))
sum_only d (c ∷ []) o l e =
    let same : c ≡ check_octet d = omega (arith, o.0, sum-++ d (c ∷ []), sym (running_sum (d ++ (c ∷ []))) ∙ e) in
    ap (λ (c : ℕ). c ∷ []) same
sum_only d (c ∷ b ∷ t) o l e = absurd (omega (arith, l))

sum_sound : Sound sum_size sum_check
sum_sound = record {
  as_many = λ d. refl;
  good_is = λ d. running_sum (d ++ (check_octet d ∷ [])) ∙ sum_checked d;
  good_only = sum_only;
  blank-is_check = refl;
  added-is_check = λ a x. lt-ltb ((a + x) % 256) 256 (omega arith);
}

-- ---- by the check sequence: the register's residue
pub running_feed : (a : ℕ) (xs : List ℕ) → running fcs_check a xs ≡ feed_all a xs
unfolding running feed_all
running_feed a [] = refl
running_feed a (x ∷ xs) = running_feed (fcs_check.add a x) xs

fcs_only : (d t : List ℕ) → Octets t → length t ≡ fcs_size → running fcs_check preset (d ++ t) ≡ fcs_check.good → t ≡ fcs_check.octets d
fcs_only d [] o l e = absurd (omega (arith, l))
fcs_only d (a ∷ []) o l e = absurd (omega (arith, l))
fcs_only d (a ∷ b ∷ []) o l e = fcs.check_only d a b o.0 o.1.0 (sym (running_feed preset (d ++ (a ∷ b ∷ []))) ∙ e)
fcs_only d (a ∷ b ∷ c ∷ t) o l e = absurd (omega (arith, l))

fcs_sound : Sound fcs_size fcs_check
fcs_sound = record {
  as_many = λ d. refl;
  good_is = λ d. running_feed preset (d ++ fcs_check.octets d) ∙ fcs.check_residue d;
  good_only = fcs_only;
  blank-is_check = refl;
  added-is_check = λ a x. refl;
}

-- ---- of each kind
-- what holds by the sum and by the check sequence holds by the kind
pub by_kind : (P : Bool → Type 0) → P true → P false → (kind : ℕ) → P (eqb kind fcs_kind)
by_kind P of_fcs of_sum kind = of (eqb kind fcs_kind)
  where
    of : (b : Bool) → P b
    of true = of_fcs
    of false = of_sum

pub sound : (kind : ℕ) → Sound (check_size kind) (check_by kind)
sound = by_kind (λ (b : Bool). Sound (cond b fcs_size sum_size) (cond b fcs_check sum_check)) fcs_sound sum_sound

-- one or two
pub check_size_bounds : (kind : ℕ) → (1 ≤ check_size kind) × (check_size kind ≤ fcs_size)
check_size_bounds = by_kind (λ (b : Bool). (1 ≤ cond b fcs_size sum_size) × (cond b fcs_size sum_size ≤ fcs_size)) (omega arith) (omega arith)

-- the two places hold the check's octets at the front
pub pair_front : (kind : ℕ) (d : List ℕ) → take (check_size kind) (check_pair kind d) ≡ (check_by kind).octets d
unfolding check_pair
pair_front kind d =
    by_kind (λ (b : Bool). take (cond b fcs_size sum_size) (take fcs_size ((cond b fcs_check sum_check).octets d ++ (0 ∷ []))) ≡ (cond b fcs_check sum_check).octets d) refl refl kind

pub pair-length : (kind : ℕ) (d : List ℕ) → length (check_pair kind d) ≡ fcs_size
unfolding check_pair
pair-length kind d = by_kind (λ (b : Bool). length (take fcs_size ((cond b fcs_check sum_check).octets d ++ (0 ∷ []))) ≡ fcs_size) refl refl kind
