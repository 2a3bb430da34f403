-- After a call the buffer is as before, but for the octets undone in the call, which stand from the place that the count gives. Assumes nothing.
use Prim.Native.Nat.{ℕ, zero, suc, ◌+◌}
use mathlib.Core.Bool.{Bool, true, false, not, ◌||◌}
use mathlib.Core.List.{List, [], ◌∷◌}
use mathlib.Core.Path.{◌≡◌, refl, sym, ap, ◌∙◌}
use native.Mathlib.Omega.{arith}
use borrow.Author.Tests.{ltb-true, ltb-false, ne_eqb}
use lib.Dec.{ltb, eqb}
use lib.ListN.{set}
use lib.Seq.{sets}
use Rattle.common.proofs.Bools.{either}
use Rattle.common.proofs.Each.{Each}
use Rattle.framing.proofs.Formed.{formed_ways}
use Rattle.framing.proofs.Placed.{at, buffer_after, buffer_on, placed, placed_nil, placed_cons, placed_full, undone, undone_nil, undone_partner, undone_plain, undone_escape, stored, first_octet_lem}
use Rattle.framing.proofs.Placed.{step_partner, step_escape, step_plain, step_closes, step_opens, step_hunting, up_to_flag-flag, up_to_flag-octet, skip_flags-flag, skip_flags-octet, after_flag-flag, after_flag-octet}
use Rattle.framing.proofs.Skipped.{scan_unskipped}
use Rattle.framing.specs.Lawful.{Lawful}
use Rattle.framing.specs.Reports.{after_flag, unskipped}
use Rattle.framing.specs.Rules.{Rules, State}
use Rattle.framing.specs.Step.{opened, joined, stored_into, step, segment_before_flag, malformed}
use Rattle.framing.specs.Stored.{up_to_flag, skip_flags, of_segment, undone_in}
use Rattle.line.specs.Scan.{Action, advance, emit, after, scan_on, scan}

module _ {A R : Type 0} (rules : Rules A R) where
  -- no octet of a list is skipped
  abbrev Kept : List ℕ → Type 0
  Kept ys = Each (λ (x : ℕ). rules.skips x ≡ false) ys

  -- ---- a segment has begun: octets up to its flag join it
  abbrev Begun : List ℕ → Type 0
  Begun ys = (p b : Bool) (n : ℕ) (a : A) (m : List ℕ) → (p || not (eqb n 0)) ≡ true → buffer_after rules (at true p b n a) ys m ≡ placed rules m n (undone rules p (up_to_flag rules ys))

  -- an unescaped octet y joins
  stored_placed : (ys : List ℕ) → Begun ys → (p b : Bool) (n : ℕ) (a : A) (m : List ℕ) (c : Bool) (y : ℕ)
      → buffer_on rules (stored rules (at true p b n a) c y) ys m ≡ placed rules m n (y ∷ undone rules false (up_to_flag rules ys))
  unfolding stored_into joined scan_on after
  stored_placed ys ih p b n a m c y =
      let rest = undone rules false (up_to_flag rules ys) in
      either (λ (z : Action (State A) R). buffer_on rules z ys m ≡ placed rules m n (y ∷ rest)) (ltb n rules.cap)
      (λ e. rw e
      (ih false c (n + 1) (rules.add n a y) (set m n y) (rw (ne_eqb (n + 1) 0 (λ q. omega (arith, q))))
      ∙ placed_cons rules m n y rest (ltb-true n rules.cap e)))
      (λ e. rw e
      (ih false c (rules.cap + 1) (rules.add n a y) m (rw (ne_eqb (rules.cap + 1) 0 (λ q. omega (arith, q))))
      ∙ placed_full rules m (rules.cap + 1) rest (omega arith) ∙ sym (placed_full rules m n (y ∷ rest) (ltb-false n rules.cap e))))

  module _ (x : ℕ) (f : eqb x rules.flag ≡ false) (s : rules.skips x ≡ false) (b : Bool) (n : ℕ) (a : A) where
    -- an octet of a segment, begun or not, that is no flag and not skipped
    octet_placed : (ys : List ℕ) → Begun ys → (p d : Bool) → eqb x rules.escape ≡ d → (m : List ℕ)
        → buffer_after rules (at true p b n a) (x ∷ ys) m ≡ placed rules m n (undone rules p (x ∷ up_to_flag rules ys))
    unfolding scan_on after
    octet_placed ys ih true d e m =
        first_octet_lem rules (at true true b n a) x ys m _ (step_partner rules x f s b n a)
        ∙ stored_placed ys ih true b n a m (b || rules.bad_pair x) (rules.partner x)
        ∙ ap (placed rules m n) (sym (undone_partner rules x (up_to_flag rules ys)))
    octet_placed ys ih false true e m =
        first_octet_lem rules (at true false b n a) x ys m _ (step_escape rules x f s b n a e)
        ∙ ih true b n a m refl
        ∙ ap (placed rules m n) (sym (undone_escape rules x (up_to_flag rules ys) e))
    octet_placed ys ih false false e m =
        first_octet_lem rules (at true false b n a) x ys m _ (step_plain rules x f s b n a e)
        ∙ stored_placed ys ih false b n a m b x
        ∙ ap (placed rules m n) (sym (undone_plain rules x (up_to_flag rules ys) e))

  -- a flag: it closes a segment that has begun, and the call ends; else it opens one
  module _ (x : ℕ) (f : eqb x rules.flag ≡ true) (b : Bool) (n : ℕ) (a : A) where
    flag_ends : (ys : List ℕ) (p : Bool) (m : List ℕ) → (p || not (eqb n 0)) ≡ true → buffer_after rules (at true p b n a) (x ∷ ys) m ≡ m
    unfolding scan_on
    flag_ends ys p m e = let c = step_closes rules x f b n a p e in first_octet_lem rules (at true p b n a) x ys m (emit c.0 (opened rules)) c.1

    flag_opens : (ys : List ℕ) (y : Bool) (m : List ℕ) → buffer_after rules (at y false b 0 a) (x ∷ ys) m ≡ buffer_after rules (opened rules) ys m
    unfolding scan_on after
    flag_opens ys y m = first_octet_lem rules (at y false b 0 a) x ys m (advance (opened rules)) (step_opens rules x f b n a y)

  begun_turn : (x : ℕ) (ys : List ℕ) → rules.skips x ≡ false → Begun ys → (f : Bool) → eqb x rules.flag ≡ f → Begun (x ∷ ys)
  begun_turn x ys s ih true f p b n a m e =
      flag_ends x f b n a ys p m e
      ∙ sym (ap (λ (l : List ℕ). placed rules m n (undone rules p l)) (up_to_flag-flag rules x ys f) ∙ ap (placed rules m n) (undone_nil rules p) ∙ placed_nil rules m n)
  begun_turn x ys s ih false f p b n a m e =
      octet_placed x f s b n a ys ih p (eqb x rules.escape) refl m
      ∙ ap (λ (l : List ℕ). placed rules m n (undone rules p l)) (sym (up_to_flag-octet rules x ys f))

  begun_end : Begun []
  unfolding scan up_to_flag
  begun_end p b n a m e = sym (ap (placed rules m n) (undone_nil rules p) ∙ placed_nil rules m n)

  begun : (ys : List ℕ) → Kept ys → Begun ys
  begun [] k = begun_end
  begun (x ∷ ys) k = begun_turn x ys k.0 (begun ys k.1) (eqb x rules.flag) refl

  -- ---- a segment opened and empty: flags close nothing, and the next octet opens it
  abbrev from_opened : List ℕ → List ℕ → List ℕ
  from_opened m ys = placed rules m 0 (undone rules false (up_to_flag rules (skip_flags rules ys)))

  abbrev Opened : List ℕ → Type 0
  Opened ys = (b : Bool) (a : A) (m : List ℕ) → buffer_after rules (at true false b 0 a) ys m ≡ from_opened m ys

  opened_turn : (x : ℕ) (ys : List ℕ) → Kept (x ∷ ys) → Opened ys → (f : Bool) → eqb x rules.flag ≡ f → Opened (x ∷ ys)
  opened_turn x ys k ih true f b a m =
      flag_opens x f b 0 a ys true m ∙ ih false rules.blank m
      ∙ ap (λ (l : List ℕ). placed rules m 0 (undone rules false (up_to_flag rules l))) (sym (skip_flags-flag rules x ys f))
  opened_turn x ys k ih false f b a m =
      octet_placed x f k.0 b 0 a ys (begun ys k.1) false (eqb x rules.escape) refl m
      ∙ ap (λ (l : List ℕ). placed rules m 0 (undone rules false l)) (sym (ap (up_to_flag rules) (skip_flags-octet rules x ys f) ∙ up_to_flag-octet rules x ys f))

  opened_end : Opened []
  unfolding scan skip_flags up_to_flag
  opened_end b a m = sym (ap (placed rules m 0) (undone_nil rules false) ∙ placed_nil rules m 0)

  opened_placed : (ys : List ℕ) → Kept ys → Opened ys
  opened_placed [] k = opened_end
  opened_placed (x ∷ ys) k = opened_turn x ys k (opened_placed ys k.1) (eqb x rules.flag) refl

  -- ---- before the first flag
  abbrev Hunting : List ℕ → Type 0
  Hunting ys = (b : Bool) (a : A) (m : List ℕ) → buffer_after rules (at false false b 0 a) ys m ≡ from_opened m (after_flag rules ys)

  hunting_turn : (x : ℕ) (ys : List ℕ) → Kept ys → Hunting ys → (f : Bool) → eqb x rules.flag ≡ f → Hunting (x ∷ ys)
  unfolding scan_on after
  hunting_turn x ys k ih true f b a m =
      flag_opens x f b 0 a ys false m ∙ opened_placed ys k false rules.blank m ∙ ap (from_opened m) (sym (after_flag-flag rules x ys f))
  hunting_turn x ys k ih false f b a m =
      first_octet_lem rules (at false false b 0 a) x ys m _ (step_hunting rules x b a f) ∙ ih b a m ∙ ap (from_opened m) (sym (after_flag-octet rules x ys f))

  hunting_end : Hunting []
  unfolding scan after_flag skip_flags up_to_flag
  hunting_end b a m = sym (ap (placed rules m 0) (undone_nil rules false) ∙ placed_nil rules m 0)

  hunting_placed : (ys : List ℕ) → Kept ys → Hunting ys
  hunting_placed [] k = hunting_end
  hunting_placed (x ∷ ys) k = hunting_turn x ys k.1 (hunting_placed ys k.1) (eqb x rules.flag) refl

  -- ---- every state that is well formed
  fields_placed : (y p b : Bool) (n : ℕ) (a : A) (ys m : List ℕ) → Kept ys → segment_before_flag rules (at y p b n a) ≡ false
      → buffer_after rules (at y p b n a) ys m ≡ placed rules m n (undone rules p (of_segment rules (at y p b n a) ys))
  unfolding of_segment
  fields_placed true true b n a ys m k e = begun ys k true b n a m refl
  fields_placed true false b zero a ys m k e = opened_placed ys k b a m
  fields_placed true false b (suc n) a ys m k e = let z = ne_eqb (suc n) 0 (λ q. omega (arith, q)) in rw z (begun ys k false b (suc n) a m (rw z))
  fields_placed false true b n a ys m k e = let z : ◌≡◌ {A = ℕ} 0 1 = cc in absurd (omega arith)
  fields_placed false false b zero a ys m k e = hunting_placed ys k b a m
  fields_placed false false b (suc n) a ys m k e =
      let q = rw (ne_eqb (suc n) 0 (λ q. omega (arith, q))) at e in
      let z : ◌≡◌ {A = ℕ} 0 1 = cc in absurd (omega arith)

  unskipped_kept : (xs : List ℕ) → Kept (unskipped rules xs)
  unfolding unskipped
  unskipped_kept [] = tt
  unskipped_kept (x ∷ xs) = let ih = unskipped_kept xs in either Kept (rules.skips x) (λ _. ih) (λ e. (e, ih))

  -- "those undone in this call each at the place its count gives, the others as before"
  pub scan_stored : Lawful rules → (s : State A) (xs m : List ℕ) → malformed rules s ≡ false → (scan (step rules) s xs m).buffer ≡ sets m s.count (undone_in rules s xs)
  unfolding undone_in
  scan_stored law s xs m e =
      scan_unskipped rules law xs s m
      ∙ fields_placed s.synced s.pending s.bad s.count s.check (unskipped rules xs) m (unskipped_kept xs) (formed_ways rules s e).in_sync
