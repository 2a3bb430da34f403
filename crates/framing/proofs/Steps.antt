-- Laws of one octet's step. Assumes nothing.
use Prim.Native.Nat.{ℕ}
use mathlib.Core.Bool.{Bool, true, false, cond}
use mathlib.Core.Logic.{◌⊎◌, inl, inr}
use mathlib.Core.Path.{◌≡◌, refl}
use lib.Dec.{eqb}
use Rattle.common.proofs.Bools.{either}
use Rattle.framing.specs.Lawful.{Lawful}
use Rattle.framing.specs.Rules.{Rules, State}
use Rattle.framing.specs.Step.{opened, awaiting, stored_into, in_segment_into, closed_into, step_into, step}
use Rattle.line.specs.Scan as line

cond_map : {X Y : Type 0} (h : X → Y) (b : Bool) (x y : X) → h (cond b x y) ≡ cond b (h x) (h y)
cond_map h true x y = refl
cond_map h false x y = refl

module _ {A R : Type 0} (rules : Rules A R) where
  module _ {X : Type 0} (advance : State A → X) (store : State A → ℕ → ℕ → X) (emit : R → State A → X) where
    -- what holds of every action that an octet can have holds of its action: a flag, which reports or not; an octet that joins; an escape; one
    -- that changes nothing
    pub closed_into-cases : (P : X → Type 0) (s : State A) → ((d b : Bool) (n : ℕ) (a : A) → P (emit (rules.verdict d b n a) (opened rules))) → P (advance (opened rules))
        → P (closed_into rules advance store emit s)
    unfolding closed_into
    closed_into-cases P s f q =
        either P s.pending (λ _. f true s.bad s.count s.check) (λ _. either P (eqb s.count 0) (λ _. q) (λ _. f false s.bad s.count s.check))

    pub step_into-ind : (P : X → Type 0) (s : State A) (x : ℕ)
        → P (closed_into rules advance store emit s)
        → (s.synced ≡ true → (b : Bool) (y : ℕ) → (y ≡ x) ⊎ (y ≡ rules.partner x) → P (stored_into rules advance store emit s b y))
        → (s.synced ≡ true → P (advance (awaiting rules s)))
        → P (advance s)
        → P (step_into rules advance store emit s x)
    unfolding step_into in_segment_into
    step_into-ind P s x f j w q =
        either P (eqb x rules.flag) (λ _. f)
        (λ _. either P s.synced
        (λ e. either P (rules.skips x) (λ _. q)
        (λ _. either P s.pending (λ _. j e _ _ (inr refl)) (λ _. either P (eqb x rules.escape) (λ _. w e) (λ _. j e _ _ (inl refl)))))
        (λ _. q))

    -- the actions of one type taken to another
    module _ {Y : Type 0} (h : X → Y) where
      abbrev advance' : State A → Y
      advance' t = h (advance t)

      abbrev store' : State A → ℕ → ℕ → Y
      store' t i y = h (store t i y)

      abbrev emit' : R → State A → Y
      emit' r t = h (emit r t)

      stored_into-map : (s : State A) (b : Bool) (x : ℕ) → h (stored_into rules advance store emit s b x) ≡ stored_into rules advance' store' emit' s b x
      unfolding stored_into
      stored_into-map s b x = simp (cond_map h)

      closed_into-map : (s : State A) → h (closed_into rules advance store emit s) ≡ closed_into rules advance' store' emit' s
      unfolding closed_into
      closed_into-map s = simp (cond_map h)

      in_segment_into-map : (s : State A) (x : ℕ) → h (in_segment_into rules advance store emit s x) ≡ in_segment_into rules advance' store' emit' s x
      unfolding in_segment_into
      in_segment_into-map s x = simp (cond_map h, stored_into-map)

      pub step_into-map : (s : State A) (x : ℕ) → h (step_into rules advance store emit s x) ≡ step_into rules advance' store' emit' s x
      unfolding step_into
      step_into-map s x = simp (cond_map h, closed_into-map, in_segment_into-map)

  -- a skipped octet changes nothing
  pub step_skipped : Lawful rules → (s : State A) (x : ℕ) → rules.skips x ≡ true → step rules s x ≡ line.advance s
  unfolding step step_into in_segment_into
  step_skipped law s x e = rw (law.skips_no_flag x e, e) (either (λ (a : line.Action (State A) R). a ≡ line.advance s) s.synced (λ _. refl) (λ _. refl))
