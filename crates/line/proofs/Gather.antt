-- Laws of `gather`: a call and then the rest of the chunk; what is made, and what is left, give the trace of the chunk. Assumes nothing.
use Prim.Native.Nat.{ℕ, ◌+◌, ◌≤◌, ◌<◌}
use mathlib.Core.Bool.{Bool, true}
use mathlib.Core.List.{List, [], ◌∷◌, ◌++◌}
use mathlib.Core.Option.{Option, none, some}
use mathlib.Core.Path.{◌≡◌, refl, sym, ap, ◌∙◌}
use native.Mathlib.Nat.{add_assoc, zero-add, add-zero}
use native.Mathlib.Numerals.{one-add}
use native.Mathlib.Omega.{arith}
use lib.ListN.{length, drop, set}
use Rattle.common.proofs.Bools.{either}
use Rattle.line.specs.Gather.{Gathered, stop, later, gather_on, gather_all, gather, make_all}
use Rattle.line.specs.Scan.{Action, advance, store, emit, Scan, after, scan_on, scan}
use Rattle.line.specs.Trace.{Event, Trace, no_event, one_event, trace_on, trace}

module _ {S C : Type 0} where
  pub later_zero : (g : Gathered S C) → g ≡ later 0 g
  unfolding later
  later_zero g = λ i. record { taken = sym (zero-add g.taken) i; state = g.state; buffer = g.buffer; made = g.made }

  pub later_later : (m n : ℕ) (g : Gathered S C) → later m (later n g) ≡ later (m + n) g
  unfolding later
  later_later m n g = λ i. record { taken = sym (add_assoc m n g.taken) i; state = g.state; buffer = g.buffer; made = g.made }

module _ {S R C : Type 0} (make : C → R → List ℕ → C) (more : C → Bool) (f : S → ℕ → Action S R) where
  -- what comes of a first call u on the chunk xs, and of the rest of the chunk
  abbrev after_report : Option R → Scan S R → List ℕ → C → Gathered S C
  after_report none u xs c = stop u.state u.buffer c
  after_report (some r) u xs c = gather make more f u.state (drop u.taken xs) u.buffer (make c r u.buffer)

  abbrev onwards : Scan S R → List ℕ → C → Gathered S C
  onwards u xs c = later u.taken (after_report u.report u xs c)

  onwards_after : (x : ℕ) (xs : List ℕ) (u : Scan S R) (c : C) → later 1 (onwards u xs c) ≡ onwards (after 1 u) (x ∷ xs) c
  unfolding after
  onwards_after x xs u c = later_later 1 u.taken (after_report u.report u xs c) ∙ go u.report
    where
      go : (o : Option R) → later (1 + u.taken) (after_report o u xs c) ≡ later (1 + u.taken) (after_report o (after 1 u) (x ∷ xs) c)
      go none = refl
      go (some r) = rw one-add

  on_scan : (a : Action S R) (x : ℕ) (xs m : List ℕ) (c : C)
      → ((t : S) (n : List ℕ) (d : C) → gather_all make more f t xs n d ≡ onwards (scan f t xs n) xs d)
      → gather_on make more a (λ t n d. gather_all make more f t xs n d) m c ≡ onwards (scan_on a (λ t n. scan f t xs n) m) (x ∷ xs) c
  unfolding gather_on scan_on gather
  on_scan (advance t) x xs m c e = ap (later 1) (e t m c) ∙ onwards_after x xs (scan f t xs m) c
  on_scan (store t i y) x xs m c e = ap (later 1) (e t (set m i y) c) ∙ onwards_after x xs (scan f t xs (set m i y)) c
  on_scan (emit r t) x xs m c e = refl

  -- a call and then the rest of the chunk are the chunk
  gather_scan : (xs : List ℕ) (s : S) (m : List ℕ) (c : C) → gather_all make more f s xs m c ≡ onwards (scan f s xs m) xs c
  unfolding gather_all scan
  gather_scan [] s m c = later_zero _
  gather_scan (x ∷ xs) s m c = on_scan (f s x) x xs m c (λ t n d. gather_scan xs t n d)

  -- a call that uses the chunk up, and one that reports
  pub gather_none : (xs : List ℕ) (s : S) (m : List ℕ) (c : C) → (scan f s xs m).report ≡ none
      → gather_all make more f s xs m c ≡ record { taken = (scan f s xs m).taken; state = (scan f s xs m).state; buffer = (scan f s xs m).buffer; made = c }
  unfolding later stop
  gather_none xs s m c e =
      let u = scan f s xs m in
      gather_scan xs s m c
      ∙ ap (λ (o : Option R). later u.taken (after_report o u xs c)) e
      ∙ (λ i. record { taken = add-zero u.taken i; state = u.state; buffer = u.buffer; made = c })

  pub gather_some : (xs : List ℕ) (s : S) (m : List ℕ) (c : C) (r : R) → (scan f s xs m).report ≡ some r
      → gather_all make more f s xs m c
      ≡ later (scan f s xs m).taken (gather make more f (scan f s xs m).state (drop (scan f s xs m).taken xs) (scan f s xs m).buffer (make c r (scan f s xs m).buffer))
  gather_some xs s m c r e =
      let u = scan f s xs m in
      gather_scan xs s m c ∙ ap (λ (o : Option R). later u.taken (after_report o u xs c)) e

  -- where there is an octet, one is taken
  pub gather_takes : (x : ℕ) (xs : List ℕ) (s : S) (m : List ℕ) (c : C) → 0 < (gather_all make more f s (x ∷ xs) m c).taken
  unfolding gather_all gather_on later
  gather_takes x xs s m c = go (f s x)
    where
      go : (a : Action S R) → 0 < (gather_on make more a (λ t n d. gather_all make more f t xs n d) m c).taken
      go (advance t) = omega arith
      go (store t i y) = omega arith
      go (emit r t) = omega arith

  -- reports es before those of a trace
  abbrev pub preceded : List (Event R) → Trace S R → Trace S R
  preceded es a = record { events = es ++ a.events; state = a.state; buffer = a.buffer }

  -- g was made of the first reports es of the chunk xs, and what g leaves of the chunk gives the others
  pub record Partly (s : S) (xs m : List ℕ) (c : C) (g : Gathered S C) : Type 0 where
    pub first : List (Event R)
    pub made : g.made ≡ make_all make c first
    pub whole : trace f s xs m ≡ preceded first (trace f g.state (drop g.taken xs) g.buffer)
    pub within : g.taken ≤ length xs

  partly_stop : (s : S) (xs m : List ℕ) (c : C) → Partly s xs m c (stop s m c)
  unfolding stop make_all
  partly_stop s xs m c = record { first = []; made = refl; whole = refl; within = omega arith }

  -- an octet that reports nothing
  partly_silent : (x : ℕ) (s t : S) (xs m n : List ℕ) (c : C) (g : Gathered S C) → trace f s (x ∷ xs) m ≡ trace f t xs n → Partly t xs n c g → Partly s (x ∷ xs) m c (later 1 g)
  unfolding later
  partly_silent x s t xs m n c g e p = record { first = p.first; made = p.made; whole = rw one-add (e ∙ p.whole); within = omega (arith, p.within) }

  -- an octet that makes a report
  partly_report : (x : ℕ) (s t : S) (xs m : List ℕ) (r : R) (c : C) (g : Gathered S C) → trace f s (x ∷ xs) m ≡ one_event r m (trace f t xs m)
      → Partly t xs m (make c r m) g → Partly s (x ∷ xs) m c (later 1 g)
  unfolding later make_all one_event
  partly_report x s t xs m r c g e p = record {
    first = record { report = r; buffer = m } ∷ p.first;
    made = p.made;
    whole = rw one-add (e ∙ ap (one_event r m) p.whole);
    within = omega (arith, p.within);
  }

  turn : (a : Action S R) (x : ℕ) (s : S) (xs m : List ℕ) → f s x ≡ a → trace f s (x ∷ xs) m ≡ trace_on a (λ t n. trace f t xs n) m
  unfolding trace
  turn a x s xs m e = ap (λ (a : Action S R). trace_on a (λ t n. trace f t xs n) m) e

  partly_on : (a : Action S R) (x : ℕ) (s : S) (xs m : List ℕ) (c : C) → f s x ≡ a
      → ((t : S) (n : List ℕ) (d : C) → Partly t xs n d (gather_all make more f t xs n d))
      → Partly s (x ∷ xs) m c (gather_on make more a (λ t n d. gather_all make more f t xs n d) m c)
  unfolding gather_on trace_on
  partly_on (advance t) x s xs m c e ih = partly_silent x s t xs m m c _ (turn (advance t) x s xs m e) (ih t m c)
  partly_on (store t i y) x s xs m c e ih = partly_silent x s t xs m (set m i y) c _ (turn (store t i y) x s xs m e) (ih t (set m i y) c)
  partly_on (emit r t) x s xs m c e ih =
      partly_report x s t xs m r c _ (turn (emit r t) x s xs m e)
      (either (Partly t xs m (make c r m)) (more (make c r m)) (λ _. ih t m (make c r m)) (λ _. partly_stop t xs m (make c r m)))

  pub gather_partly : (xs : List ℕ) (s : S) (m : List ℕ) (c : C) → Partly s xs m c (gather_all make more f s xs m c)
  unfolding gather_all
  gather_partly [] s m c = partly_stop s [] m c
  gather_partly (x ∷ xs) s m c = partly_on (f s x) x s xs m c refl (λ t n d. gather_partly xs t n d)

  -- what holds of state, buffer and what was made, and is kept by every octet, holds in the end; a report is used only where more is wanted
  module _ (Good : S → List ℕ → C → Type 0) where
    abbrev pub Keeps : Action S R → List ℕ → C → Type 0
    Keeps (advance t) m c = Good t m c
    Keeps (store t i x) m c = Good t (set m i x) c
    Keeps (emit r t) m c = Good t m (make c r m)

    module _ (keeps : (s : S) (x : ℕ) (m : List ℕ) (c : C) → more c ≡ true → Good s m c → Keeps (f s x) m c) where
      abbrev GoodAll : Gathered S C → Type 0
      GoodAll g = Good g.state g.buffer g.made

      good_on : (a : Action S R) (xs m : List ℕ) (c : C) → more c ≡ true → Keeps a m c
          → ((t : S) (n : List ℕ) (d : C) → more d ≡ true → Good t n d → GoodAll (gather_all make more f t xs n d))
          → GoodAll (gather_on make more a (λ t n d. gather_all make more f t xs n d) m c)
      unfolding gather_on later stop
      good_on (advance t) xs m c h ok ih = ih t m c h ok
      good_on (store t i x) xs m c h ok ih = ih t (set m i x) c h ok
      good_on (emit r t) xs m c h ok ih = either GoodAll (more (make c r m)) (λ e. ih t m (make c r m) e ok) (λ _. ok)

      pub gather_good : (xs : List ℕ) (s : S) (m : List ℕ) (c : C) → more c ≡ true → Good s m c → GoodAll (gather_all make more f s xs m c)
      unfolding gather_all stop
      gather_good [] s m c h ok = ok
      gather_good (x ∷ xs) s m c h ok = good_on (f s x) xs m c h (keeps s x m c h ok) (λ t n d e k. gather_good xs t n d e k)

-- ---- where more is always wanted, all octets are taken, and something is made of every report
module _ {S R C : Type 0} (make : C → R → List ℕ → C) (f : S → ℕ → Action S R) where
  abbrev pub always : C → Bool
  always c = true

  -- what is made of a trace
  abbrev pub made_of : (xs : List ℕ) → C → Trace S R → Gathered S C
  made_of xs c a = record { taken = length xs; state = a.state; buffer = a.buffer; made = make_all make c a.events }

  everything_on : (a : Action S R) (x : ℕ) (xs m : List ℕ) (c : C)
      → ((t : S) (n : List ℕ) (d : C) → gather_all make always f t xs n d ≡ made_of xs d (trace f t xs n))
      → gather_on make always a (λ t n d. gather_all make always f t xs n d) m c ≡ made_of (x ∷ xs) c (trace_on a (λ t n. trace f t xs n) m)
  unfolding gather_on trace_on later one_event make_all
  everything_on (advance t) x xs m c ih = ap (later 1) (ih t m c) ∙ (λ i. record { taken = one-add (length xs) i; state = (trace f t xs m).state; buffer = (trace f t xs m).buffer; made = make_all make c (trace f t xs m).events })
  everything_on (store t j y) x xs m c ih =
      let a = trace f t xs (set m j y) in
      ap (later 1) (ih t (set m j y) c) ∙ (λ i. record { taken = one-add (length xs) i; state = a.state; buffer = a.buffer; made = make_all make c a.events })
  everything_on (emit r t) x xs m c ih =
      let a = trace f t xs m in
      ap (later 1) (ih t m (make c r m)) ∙ (λ i. record { taken = one-add (length xs) i; state = a.state; buffer = a.buffer; made = make_all make (make c r m) a.events })

  pub gather_everything : (xs : List ℕ) (s : S) (m : List ℕ) (c : C) → gather_all make always f s xs m c ≡ made_of xs c (trace f s xs m)
  unfolding gather_all trace stop no_event make_all
  gather_everything [] s m c = refl
  gather_everything (x ∷ xs) s m c = everything_on (f s x) x xs m c (λ t n d. gather_everything xs t n d)

-- reports, and then others
pub make_all-++ : {R C : Type 0} (make : C → R → List ℕ → C) (c : C) (es fs : List (Event R)) → make_all make c (es ++ fs) ≡ make_all make (make_all make c es) fs
unfolding make_all
make_all-++ make c [] fs = refl
make_all-++ make c (e ∷ es) fs = make_all-++ make (make c e.report e.buffer) es fs
