-- Laws of octets where many are escaped: what is done at once is what their steps do one by one. Assumes nothing.
use Prim.Native.Nat.{ℕ, zero, suc, ◌+◌, ◌-◌, ◌≤◌, ◌<◌}
use mathlib.Core.Bool.{Bool, true, false, cond, not, ◌&&◌, ◌||◌}
use mathlib.Core.List.{List, [], ◌∷◌}
use mathlib.Core.Path.{◌≡◌, refl, sym, ap, ◌∙◌}
use native.Mathlib.Nat.{add-zero}
use native.Mathlib.Omega.{arith}
use lib.Dec.{eqb}
use lib.ListN.{length, get_or, take, drop, set, length-drop}
use lib.Seq.{take_all, drop-drop}
use Rattle.deframer.proofs.Steps.{step_line}
use Rattle.deframer.proofs.Ways.{step_segment, in_segment-partner, in_segment-escape, in_segment-plain, stored_store}
use Rattle.deframer.specs.Pairs.{Ahead, Goes, escape_first, waiting}
use Rattle.deframer.specs.Rule.{is_skipped, partner_of, is_bad_pair, rules_of}
use Rattle.deframer.specs.Scan.{view, awaiting, joined, step}
use Rattle.deframer.specs.declared.Action.TheVariants.{Advance, Store}
use Rattle.deframer.specs.declared.Rule.{Rule}
use Rattle.deframer.specs.declared.State.{State}
use Rattle.framing.specs.Step as framing
use Rattle.line.proofs.Scan.{after_after, scan_advance, scan_store}
use Rattle.line.specs.Scan as line

pub unlike : false ≡ true → ⊥
unlike h = let z : ◌≡◌ {A = ℕ} 0 1 = cc in omega (arith, z)

or_false : (b : Bool) → (b || false) ≡ b
or_false true = refl
or_false false = refl

-- what is left of a chunk, as it is lent
pub left : (xs : List ℕ) (i : ℕ) → take (length xs - i) (drop i xs) ≡ drop i xs
left xs i = take_all (length xs - i) (drop i xs) (rw (length-drop i xs) (omega arith))

-- ---- an octet that joins the segment
module _ (r : Rule) (s : State) (y : ℕ) where
  -- by whether it is the partner of an escape
  abbrev pub octet_of : (p : Bool) → ℕ
  octet_of p = cond p (partner_of r y) y

  abbrev pub behind_of : (p : Bool) → State
  behind_of p = joined r s (s.bad || (p && is_bad_pair r y)) (octet_of p)

  module _ (g : Goes r s y) where
    took_action : (p : Bool) → s.pending ≡ p → Store (behind_of p) s.count (octet_of p) ≡ step r s y
    took_action true e = stored_store r s _ _ g.3 ∙ in_segment-partner r s y g.1 e _ refl ∙ step_segment r s y g.0 g.2
    took_action false e =
        ap (λ (b : Bool). Store (joined r s b y) s.count y) (or_false s.bad)
        ∙ stored_store r s _ _ g.3
        ∙ in_segment-plain r s y g.1 e (g.4 e)
        ∙ step_segment r s y g.0 g.2

    pub took_step : framing.step (rules_of r) (view s) y ≡ line.store (view (behind_of s.pending)) s.count (octet_of s.pending)
    took_step = step_line r s y (Store (behind_of s.pending) s.count (octet_of s.pending)) (sym (took_action s.pending refl))

-- ---- an escape
module _ (r : Rule) where
  both : (f e : Bool) → true ≡ (not f && e) → (f ≡ false) × (e ≡ true)
  both true e h = absurd (unlike (sym h))
  both false true h = (refl, refl)
  both false false h = absurd (unlike (sym h))

  escape_next : (xs : List ℕ) (j : ℕ) → true ≡ escape_first r (drop j xs)
      → (j < length xs) × (eqb (get_or xs j 0) r.escapes.flag ≡ false) × (eqb (get_or xs j 0) r.escapes.escape ≡ true)
  escape_next [] zero h = absurd (unlike (sym h))
  escape_next [] (suc j) h = absurd (unlike (sym h))
  escape_next (z ∷ zs) zero h = let u = both _ _ h in (omega arith, u.0, u.1)
  escape_next (z ∷ zs) (suc j) h = let u = escape_next zs j h in (omega (arith, u.0), u.1, u.2)

  -- the front of a chunk, by whether there is one
  pub none_first : (xs : List ℕ) → length xs ≡ 0 → false ≡ escape_first r xs
  none_first [] e = refl
  none_first (x ∷ xs) e = absurd (omega (arith, e))

  pub some_first : (xs : List ℕ) → (length xs ≡ 0 → ⊥) → (not (eqb (get_or xs 0 0) r.escapes.flag) && eqb (get_or xs 0 0) r.escapes.escape) ≡ escape_first r xs
  some_first [] h = absurd (h refl)
  some_first (x ∷ xs) h = refl

  escape_kept : (z : ℕ) → eqb z r.escapes.flag ≡ false → eqb z r.escapes.escape ≡ true → is_skipped r z ≡ false
  unfolding is_skipped
  escape_kept z f e = rw (f, e)

  escape_step : (t : State) (z : ℕ) → t.synced ≡ true → t.pending ≡ false → eqb z r.escapes.flag ≡ false → eqb z r.escapes.escape ≡ true
      → framing.step (rules_of r) (view t) z ≡ line.advance (view (awaiting t))
  escape_step t z y p f e =
      step_line r t z (Advance (awaiting t)) (sym (in_segment-escape r t z (escape_kept z f e) p e ∙ step_segment r t z f y))

-- ---- a loop over the chunk xs that stands at octet i
module _ (r : Rule) (xs : List ℕ) where
  -- an escape that stands there, or none
  wait_turn : (t : State) (i : ℕ) (m : List ℕ) (w : Bool) → t.synced ≡ true → t.pending ≡ false → w ≡ escape_first r (drop i xs)
      → line.after i (line.scan (framing.step (rules_of r)) (view t) (drop i xs) m)
      ≡ line.after (i + cond w 1 0) (line.scan (framing.step (rules_of r)) (view (waiting t w)) (drop (i + cond w 1 0) xs) m)
  unfolding awaiting
  wait_turn t i m true y p e =
      let u = escape_next r xs i e in
      scan_advance (framing.step (rules_of r)) (view t) xs i m u.0 (view (awaiting t)) (escape_step r t _ y p u.1 u.2)
  wait_turn t i m false y p e =
      ap (λ (b : Bool). line.after i (line.scan (framing.step (rules_of r)) (view (waiting t b)) (drop i xs) m)) p
      ∙ ap (λ (k : ℕ). line.after k (line.scan (framing.step (rules_of r)) (view (waiting t false)) (drop k xs) m)) (sym (add-zero i))

  wait_within : (i : ℕ) (w : Bool) → i ≤ length xs → w ≡ escape_first r (drop i xs) → i + cond w 1 0 ≤ length xs
  wait_within i true h e = omega (arith, (escape_next r xs i e).0)
  wait_within i false h e = omega arith

  -- an octet, and the escape behind it
  module _ (s : State) (i : ℕ) (h : i < length xs) (w : Bool) (e : w ≡ escape_first r (take (length xs - (i + 1)) (drop (i + 1) xs))) where
    first : w ≡ escape_first r (drop (i + 1) xs)
    first = e ∙ ap (escape_first r) (left xs (i + 1))

    pub pair_within : (d : ℕ) → d ≡ cond w 1 0 → i + 1 + d ≤ length xs
    pair_within d k = omega (arith, wait_within (i + 1) w (omega arith) first, k)

    pub pair_turn : (m m' : List ℕ) (t u : State) (d : ℕ) (g : Goes r s (get_or xs i 0)) → t ≡ behind_of r s (get_or xs i 0) s.pending → m' ≡ set m s.count (octet_of r s (get_or xs i 0) s.pending)
        → u ≡ waiting t w → d ≡ cond w 1 0
        → line.after i (line.scan (framing.step (rules_of r)) (view s) (drop i xs) m)
        ≡ line.after (i + 1 + d) (line.scan (framing.step (rules_of r)) (view u) (drop (i + 1 + d) xs) m')
    unfolding joined framing.joined
    pair_turn m m' t u d g a b c k =
        let y = get_or xs i 0 in
        let t₀ = behind_of r s y s.pending in
        let f = framing.step (rules_of r) in
        scan_store f (view s) xs i m h (view t₀) s.count (octet_of r s y s.pending) (took_step r s y g)
        ∙ ap (λ (l : List ℕ). line.after (i + 1) (line.scan f (view t₀) (drop (i + 1) xs) l)) (sym b)
        ∙ wait_turn t₀ (i + 1) m' w g.2 refl first
        ∙ ap (λ (v : State). line.after (i + 1 + cond w 1 0) (line.scan f (view (waiting v w)) (drop (i + 1 + cond w 1 0) xs) m')) (sym a)
        ∙ ap (λ (v : State). line.after (i + 1 + cond w 1 0) (line.scan f (view v) (drop (i + 1 + cond w 1 0) xs) m')) (sym c)
        ∙ ap (λ (n : ℕ). line.after (i + 1 + n) (line.scan f (view u) (drop (i + 1 + n) xs) m')) (sym k)

  -- what a call on the rest is, n octets on
  pub ahead_turn : (s t : State) (j n : ℕ) (m m' : List ℕ) → Ahead r s (take (length xs - j) (drop j xs)) m n t m'
      → line.after j (line.scan (framing.step (rules_of r)) (view s) (drop j xs) m)
      ≡ line.after (j + n) (line.scan (framing.step (rules_of r)) (view t) (drop (j + n) xs) m')
  ahead_turn s t j n m m' e =
      let f = framing.step (rules_of r) in
      ap (λ (l : List ℕ). line.after j (line.scan f (view s) l m)) (sym (left xs j))
      ∙ ap (line.after j) e
      ∙ after_after j n _
      ∙ ap (λ (l : List ℕ). line.after (j + n) (line.scan f (view t) (drop n l) m')) (left xs j)
      ∙ ap (λ (l : List ℕ). line.after (j + n) (line.scan f (view t) l m')) (drop-drop n j xs)

  pub ahead_within : (j n : ℕ) → j ≤ length xs → n ≤ length (take (length xs - j) (drop j xs)) → j + n ≤ length xs
  ahead_within j n h k = omega (arith, k, ap length (left xs j), length-drop j xs)
