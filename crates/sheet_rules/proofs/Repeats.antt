-- Repeats, with the number of the last DATA carried along; and over the numbers of the DATA packets alone. Assumes nothing.
use Prim.Native.Nat.{ℕ, suc, ◌+◌, ◌/◌, ◌%◌, ◌<◌}
use mathlib.Core.Bool.{Bool, true, false, cond}
use mathlib.Core.List.{List, [], ◌∷◌, ◌++◌}
use mathlib.Core.Path.{◌≡◌, refl, ap, ◌∙◌}
use native.Mathlib.Omega.{arith}
use borrow.Author.Tests.{ne_eqb}
use lib.Dec.{ltb, eqb}
use lib.ListN.{length, get_or}
use Rattle.dlc_packet.specs.Numbers.{modulus}
use Rattle.dlc_packet.specs.Packet.{max_payload, reset_octet, reset_ack_octet, data_octet, dack_octet, control_kind, kind_of}
use Rattle.dlc_packet.specs.declared.Kind.{Kind}
use Rattle.dlc_packet.specs.declared.Kind.TheVariants.{Invalid, Reset, ResetAck, Data, Dack}
use Rattle.framing.specs.Reports.{Reported}
use Rattle.qaft_report.specs.declared.Report.{Report}
use Rattle.sheet_rules.specs.Counts.{none, number_after, last_from, is_numbered, repeats_after}
use Rattle.sheet_rules.specs.Repeats.{number_before, data_numbers, equals_before}

-- the repeats among rs where the last DATA before them had the number x
unfoldable pub repeats_from : (x : ℕ) → List (Reported Report) → ℕ
repeats_from x [] = 0
repeats_from x (r ∷ rs) = let n = repeats_from (number_after x (kind_of r.octets)) rs in cond (is_numbered x (kind_of r.octets)) (suc n) n

last_snoc : (x : ℕ) (ps : List (Reported Report)) (r : Reported Report) → last_from x (ps ++ (r ∷ [])) ≡ number_after (last_from x ps) (kind_of r.octets)
unfolding last_from
last_snoc x [] r = refl
last_snoc x (p ∷ ps) r = last_snoc (number_after x (kind_of p.octets)) ps r

repeats_carried : (rs ps : List (Reported Report)) → repeats_after ps rs ≡ repeats_from (last_from none ps) rs
unfolding repeats_after repeats_from
repeats_carried [] ps = refl
repeats_carried (r ∷ rs) ps =
    let x = last_from none ps in
    ap (λ (n : ℕ). cond (is_numbered x (kind_of r.octets)) (suc n) n) (repeats_carried rs (ps ++ (r ∷ [])) ∙ ap (λ (x : ℕ). repeats_from x rs) (last_snoc none ps r))

pub repeats_from_none : (rs : List (Reported Report)) → repeats_after [] rs ≡ repeats_from none rs
unfolding last_from
repeats_from_none rs = repeats_carried rs []

-- ---- over numbers
-- those that equal the one before them, the first of them behind x
abbrev equals_from : (x : ℕ) → List ℕ → ℕ
equals_from x [] = 0
equals_from x (y ∷ ys) = let n = equals_from y ys in cond (eqb y x) (suc n) n

repeats_numbers : (rs : List (Reported Report)) (x : ℕ) → repeats_from x rs ≡ equals_from x (data_numbers rs)
unfolding repeats_from data_numbers
repeats_numbers [] x = refl
repeats_numbers (r ∷ rs) x = go (kind_of r.octets) (λ x. repeats_numbers rs x)
  where
    go : (k : Kind) → ((x : ℕ) → repeats_from x rs ≡ equals_from x (data_numbers rs))
        → (let n = repeats_from (number_after x k) rs in cond (is_numbered x k) (suc n) n) ≡ equals_from x (number_before k (data_numbers rs))
    go Invalid ih = ih x
    go Reset ih = ih x
    go ResetAck ih = ih x
    go (Data y) ih = ap (λ (n : ℕ). cond (eqb y x) (suc n) n) (ih y)
    go (Dack y) ih = ih x

equals_from_lem : (x : ℕ) (ys : List ℕ) → equals_from x ys ≡ equals_before (x ∷ ys)
unfolding equals_before
equals_from_lem x [] = refl
equals_from_lem x (y ∷ ys) = ap (λ (n : ℕ). cond (eqb y x) (suc n) n) (equals_from_lem y ys)

-- ---- a DATA packet's number is below 16, so that none has the number of none
abbrev Below : Kind → Type 0
Below Invalid = Unit
Below Reset = Unit
Below ResetAck = Unit
Below (Data y) = y < none
Below (Dack y) = Unit

one_of : (b : Bool) (j k : Kind) → Below j → Below k → Below (cond b j k)
one_of true j k p q = p
one_of false j k p q = q

control_below : (c : ℕ) → Below (control_kind c)
control_below c =
    let acks = cond (eqb (c / modulus) (dack_octet / modulus)) (Dack (c % modulus)) Invalid in
    one_of (eqb c reset_octet) Reset (cond (eqb c reset_ack_octet) ResetAck acks) tt
    (one_of (eqb c reset_ack_octet) ResetAck acks tt (one_of (eqb (c / modulus) (dack_octet / modulus)) (Dack (c % modulus)) Invalid tt tt))

kind_below : (d : List ℕ) → Below (kind_of d)
kind_below d =
    let c = get_or d 0 0 in
    let other = cond (ltb 1 (length d)) Invalid (control_kind c) in
    let numbered = cond (eqb (c / modulus) (data_octet / modulus)) (Data (c % modulus)) other in
    one_of (eqb (length d) 0) Invalid (cond (ltb (max_payload + 1) (length d)) Invalid numbered) tt
    (one_of (ltb (max_payload + 1) (length d)) Invalid numbered tt
    (one_of (eqb (c / modulus) (data_octet / modulus)) (Data (c % modulus)) other (omega arith)
    (one_of (ltb 1 (length d)) Invalid (control_kind c) tt (control_below c))))

repeats_first : (rs : List (Reported Report)) → repeats_from none rs ≡ equals_before (data_numbers rs)
unfolding repeats_from data_numbers equals_before
repeats_first [] = refl
repeats_first (r ∷ rs) = go (kind_of r.octets) (kind_below r.octets) (repeats_first rs)
  where
    go : (k : Kind) → Below k → repeats_from none rs ≡ equals_before (data_numbers rs)
        → (let n = repeats_from (number_after none k) rs in cond (is_numbered none k) (suc n) n) ≡ equals_before (number_before k (data_numbers rs))
    go Invalid below ih = ih
    go Reset below ih = ih
    go ResetAck below ih = ih
    go (Data y) below ih = rw (ne_eqb y none (λ e. let z : ⊥ = omega (arith, e, below) in absurd z)) (repeats_numbers rs y ∙ equals_from_lem y (data_numbers rs))
    go (Dack y) below ih = ih

-- the repeats of a list of reports are the equal neighbours among the numbers of its DATA
pub repeats_are : (rs : List (Reported Report)) → repeats_after [] rs ≡ equals_before (data_numbers rs)
repeats_are rs = repeats_from_none rs ∙ repeats_first rs
