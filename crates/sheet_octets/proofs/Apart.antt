-- A capture's octets taken apart, those that are read and those that are skipped, each with the flags: what stands before the first flag, between two and
-- after the last is that of the two together. Assumes nothing.
use Prim.Native.Nat.{ℕ, suc, ◌+◌, ◌-◌, ◌≤◌}
use mathlib.Core.Bool.{Bool, true, false, cond, ◌||◌}
use mathlib.Core.List.{List, [], ◌∷◌}
use mathlib.Core.Path.{◌≡◌, refl, sym, ap, ◌∙◌}
use native.Mathlib.Omega.{arith}
use lib.Dec.{eqb}
use lib.ListN.{length, take, drop}
use Rattle.capture.proofs.Flags.{flags_none, after_none, parts_add_up}
use Rattle.capture.specs.Whole.{before, flags, between, after}
use Rattle.framing.specs.Flags.{has_flag}
use Rattle.framing.specs.Reports.{unskipped}
use Rattle.qaft.proofs.Escape.{flow_control_no_flag}
use Rattle.qaft.specs.Escape.{flag, is_flow_control}
use Rattle.qaft.specs.Limits.{sum_kind}
use Rattle.qaft_rules.specs.Rules.{rules}
use Rattle.sheet_octets.specs.Raw.{flow_of}
use Rattle.sheet_rules.specs.Counts.{skipped_of}

-- ---- an octet at the front, and what stands after the last flag
after_flag_lem : (x : ℕ) (l : List ℕ) → eqb x flag ≡ true → after flag (x ∷ l) ≡ cond (has_flag flag l) (after flag l) (length l)
unfolding after
after_flag_lem x l e = rw e

after_other : (x : ℕ) (l : List ℕ) → eqb x flag ≡ false → after flag (x ∷ l) ≡ after flag l
unfolding after
after_other x l e = rw e (go (has_flag flag l) refl)
  where
    go : (h : Bool) → has_flag flag l ≡ h → cond h (after flag l) 0 ≡ after flag l
    go true k = refl
    go false k = sym (after_none flag l k)

-- the last n octets, where one more stands at the front
drop-front : (x : ℕ) (l : List ℕ) (n : ℕ) → n ≤ length l → drop (suc (length l) - n) (x ∷ l) ≡ drop (length l - n) l
drop-front x l n h = let z : suc (length l) - n ≡ suc (length l - n) = omega arith in ap (λ (k : ℕ). drop k (x ∷ l)) z

after_within : (l : List ℕ) → after flag l ≤ length l
after_within l = omega (arith, parts_add_up flag l)

module _ (level : ℕ) where
  -- u are the octets of l that are read, w those that are skipped, both with the flags
  pub record Apart (l u w : List ℕ) : Type 0 where
    pub flags_read : flags flag u ≡ flags flag l
    pub flags_skipped : flags flag w ≡ flags flag l
    pub has_read : has_flag flag u ≡ has_flag flag l
    pub has_skipped : has_flag flag w ≡ has_flag flag l
    pub lengths : length u + length w ≡ length l + flags flag l
    pub length-skipped : length w ≡ flags flag l + skipped_of level l
    pub befores : before flag u + before flag w ≡ before flag l
    pub before_skipped : before flag w ≡ skipped_of level (take (before flag l) l)
    pub afters : after flag u + after flag w ≡ after flag l
    pub after_skipped : after flag w ≡ skipped_of level (drop (length l - after flag l) l)

  -- one octet more at the front: a flag
  module _ (x : ℕ) (l u w : List ℕ) (a : Apart l u w) where
    with_flag : eqb x flag ≡ true → is_flow_control level x ≡ false → Apart (x ∷ l) (x ∷ u) (x ∷ w)
    unfolding flags has_flag before skipped_of
    with_flag e f = record {
      flags_read = rw e (ap suc a.flags_read);
      flags_skipped = rw e (ap suc a.flags_skipped);
      has_read = rw e;
      has_skipped = rw e;
      lengths = rw e (omega (arith, a.lengths));
      length-skipped = rw (e, f) (omega (arith, a.length-skipped));
      befores = rw e;
      before_skipped = rw e;
      afters = rw (after_flag_lem x l e, after_flag_lem x u e, after_flag_lem x w e, a.has_read, a.has_skipped) (go (has_flag flag l) refl);
      after_skipped = rw (after_flag_lem x l e, after_flag_lem x w e, a.has_skipped) (go-skipped (has_flag flag l) refl);
    }
      where
        go : (h : Bool) → has_flag flag l ≡ h → cond h (after flag u) (length u) + cond h (after flag w) (length w) ≡ cond h (after flag l) (length l)
        go true k = a.afters
        go false k = omega (arith, a.lengths, flags_none flag l k)

        go-skipped : (h : Bool) → has_flag flag l ≡ h → cond h (after flag w) (length w) ≡ skipped_of level (drop (suc (length l) - cond h (after flag l) (length l)) (x ∷ l))
        go-skipped true k = a.after_skipped ∙ ap (skipped_of level) (sym (drop-front x l (after flag l) (after_within l)))
        go-skipped false k =
            let z : length l - length l ≡ 0 = omega arith in
            let n : length w ≡ skipped_of level l = omega (arith, a.length-skipped, flags_none flag l k) in
            n ∙ ap (skipped_of level) (sym (drop-front x l (length l) (omega arith) ∙ ap (λ (k : ℕ). drop k l) z))

    -- an octet that is read, and one that is skipped
    module _ (e : eqb x flag ≡ false) where
      last_skipped : after flag w ≡ skipped_of level (drop (length (x ∷ l) - after flag (x ∷ l)) (x ∷ l))
      last_skipped = rw (after_other x l e) (a.after_skipped ∙ ap (skipped_of level) (sym (drop-front x l (after flag l) (after_within l))))

      with_read : is_flow_control level x ≡ false → Apart (x ∷ l) (x ∷ u) w
      unfolding flags has_flag before skipped_of
      with_read f = record {
        flags_read = rw e a.flags_read;
        flags_skipped = rw e a.flags_skipped;
        has_read = rw e a.has_read;
        has_skipped = rw e a.has_skipped;
        lengths = rw e (omega (arith, a.lengths));
        length-skipped = rw (e, f) a.length-skipped;
        befores = rw e (omega (arith, a.befores));
        before_skipped = rw (e, f) a.before_skipped;
        afters = rw (after_other x l e, after_other x u e) a.afters;
        after_skipped = last_skipped;
      }

      with_skipped : is_flow_control level x ≡ true → Apart (x ∷ l) u (x ∷ w)
      unfolding flags has_flag before skipped_of
      with_skipped f = record {
        flags_read = rw e a.flags_read;
        flags_skipped = rw e a.flags_skipped;
        has_read = rw e a.has_read;
        has_skipped = rw e a.has_skipped;
        lengths = rw e (omega (arith, a.lengths));
        length-skipped = rw (e, f) (omega (arith, a.length-skipped));
        befores = rw e (omega (arith, a.befores));
        before_skipped = rw (e, f) (ap suc a.before_skipped);
        afters = rw (after_other x l e, after_other x w e) a.afters;
        after_skipped = after_other x w e ∙ last_skipped;
      }

  pub apart : (l : List ℕ) → Apart l (unskipped (rules level sum_kind) l) (flow_of level l)
  unfolding unskipped flow_of flags has_flag before after skipped_of
  apart [] = record {
    flags_read = refl;
    flags_skipped = refl;
    has_read = refl;
    has_skipped = refl;
    lengths = refl;
    length-skipped = refl;
    befores = refl;
    before_skipped = refl;
    afters = refl;
    after_skipped = refl;
  }
  apart (x ∷ l) = go (is_flow_control level x) refl (eqb x flag) refl (apart l)
    where
      go : (f : Bool) → is_flow_control level x ≡ f → (e : Bool) → eqb x flag ≡ e → Apart l (unskipped (rules level sum_kind) l) (flow_of level l)
          → Apart (x ∷ l) (cond f (unskipped (rules level sum_kind) l) (x ∷ unskipped (rules level sum_kind) l)) (cond (e || f) (x ∷ flow_of level l) (flow_of level l))
      go true f true e a = let z : true ≡ false = sym e ∙ flow_control_no_flag level x f in let y : ◌≡◌ {A = ℕ} 0 1 = cc in absurd (omega arith)
      go true f false e a = with_skipped x l _ _ a e f
      go false f true e a = with_flag x l _ _ a e f
      go false f false e a = with_read x l _ _ a e f

  -- between two flags, by what is left of all octets
  module _ (l : List ℕ) where
    pub betweens : between flag (unskipped (rules level sum_kind) l) + between flag (flow_of level l) ≡ between flag l
    betweens =
        let a = apart l in
        omega (arith, a.flags_read, a.flags_skipped, a.lengths, a.befores, a.afters, parts_add_up flag l, parts_add_up flag (unskipped (rules level sum_kind) l), parts_add_up flag (flow_of level l))

    pub skipped_parts : before flag (flow_of level l) + (between flag (flow_of level l) + after flag (flow_of level l)) ≡ skipped_of level l
    skipped_parts = let a = apart l in omega (arith, a.flags_skipped, a.length-skipped, parts_add_up flag (flow_of level l))
