-- Laws of runs: a run does at once what its octets do one by one. Assumes nothing.
use Prim.Native.Nat.{ℕ, suc, ◌+◌, ◌≤◌, ◌<◌}
use mathlib.Core.Bool.{true, false, ◌||◌}
use mathlib.Core.List.{List, [], ◌∷◌, ◌++◌}
use mathlib.Core.Path.{◌≡◌, refl, sym, ap, ap₂, ◌∙◌}
use native.Mathlib.Omega.{arith}
use borrow.Author.Tests.{lt-ltb}
use lib.Dec.{eqb}
use lib.ListN.{length, take, drop, set, take-append-drop, length-drop}
use lib.Seq.{sets, drop-drop, length-take-le}
use Rattle.common.proofs.Bools.{or_false_left, or_false_right}
use Rattle.common.proofs.Plain.{plain_parts}
use Rattle.framing.proofs.Ways.{step_into-segment, in_segment_into-plain, stored_into-store}
use Rattle.framing.proofs.Within.{capped_low}
use Rattle.framing.specs.Reports.{check_from}
use Rattle.framing.specs.Rules.{Rules, State}
use Rattle.framing.specs.Run.{is_special, Run, with_run}
use Rattle.framing.specs.Step.{next, joined, step}
use Rattle.line.proofs.Scan.{after_zero, after_after}
use Rattle.line.specs.Scan.{Action, advance, store, emit, after, scan_on, scan}

module _ {A R : Type 0} (rules : Rules A R) where
  -- an octet of a run is stored
  step_plain : (s : State A) (x : ℕ) → s.synced ≡ true → s.pending ≡ false → is_special rules x ≡ false → s.count < rules.cap
      → step rules s x ≡ store (joined rules s s.bad x) s.count x
  unfolding step
  step_plain s x y p e h =
      let f = or_false_left (eqb x rules.flag) (eqb x rules.escape || rules.skips x) e in
      let r = or_false_right (eqb x rules.flag) (eqb x rules.escape || rules.skips x) e in
      let d = or_false_left (eqb x rules.escape) (rules.skips x) r in
      let k = or_false_right (eqb x rules.escape) (rules.skips x) r in
      step_into-segment rules (λ t. advance t) (λ t i y. store t i y) (λ r t. emit r t) s x f y
      ∙ in_segment_into-plain rules (λ t. advance t) (λ t i y. store t i y) (λ r t. emit r t) s x k p d
      ∙ stored_into-store rules (λ t. advance t) (λ t i y. store t i y) (λ r t. emit r t) s s.bad x h

  next_low : (n : ℕ) → n < rules.cap → next rules n ≡ suc n
  next_low n h = rw (lt-ltb n rules.cap h) (omega arith)

  -- the state after a run of one octet more
  with_run_cons : (s : State A) (x : ℕ) (xs : List ℕ) → s.pending ≡ false → s.count < rules.cap → with_run rules (joined rules s s.bad x) xs ≡ with_run rules s (x ∷ xs)
  unfolding with_run joined check_from
  with_run_cons s x [] p h =
      let c : next rules s.count ≡ s.count + 1 = next_low s.count h ∙ omega arith in
      λ i. record {
        synced = s.synced;
        pending = sym p i;
        bad = s.bad;
        count = c i;
        check = rules.add (sym (capped_low rules s.count (omega arith)) i) s.check x;
      }
  with_run_cons s x (y ∷ xs) p h =
      let e = next_low s.count h in
      let c : next rules s.count + suc (length xs) ≡ s.count + suc (suc (length xs)) = omega arith in
      λ i. record {
        synced = s.synced;
        pending = sym p i;
        bad = s.bad;
        count = c i;
        check = check_from rules (e i) (rules.add (sym (capped_low rules s.count (omega arith)) i) s.check x) (y ∷ xs);
      }

  -- a run before the octets ys
  pub scan_run : (xs ys : List ℕ) (s : State A) (m : List ℕ) → (0 < length xs → Run rules s xs)
      → scan (step rules) s (xs ++ ys) m ≡ after (length xs) (scan (step rules) (with_run rules s xs) ys (sets m s.count xs))
  unfolding scan scan_on joined with_run
  scan_run [] ys s m run = after_zero _
  scan_run (x ∷ xs) ys s m run =
      let ok = run (omega arith) in
      let e = plain_parts (is_special rules) x xs ok.3 in
      let room : s.count < rules.cap = omega (arith, ok.2) in
      let k : next rules s.count ≡ suc s.count = next_low s.count room in
      let rest : next rules s.count + length xs ≤ rules.cap = omega (arith, k, ok.2) in
      let n : 1 + length xs ≡ suc (length xs) = omega arith in
      ap (λ (a : Action (State A) R). scan_on a (λ t n. scan (step rules) t (xs ++ ys) n) m) (step_plain s x ok.0 ok.1 e.0 room)
      ∙ ap (after 1) (scan_run xs ys (joined rules s s.bad x) (set m s.count x) (λ _. (ok.0, refl, rest, e.1)))
      ∙ after_after 1 (length xs) _
      ∙ ap₂ (λ (j c : ℕ). after j (scan (step rules) (with_run rules (joined rules s s.bad x) xs) ys (sets (set m s.count x) c xs))) n k
      ∙ ap (λ (t : State A). after (suc (length xs)) (scan (step rules) t ys (sets m s.count (x ∷ xs)))) (with_run_cons s x xs ok.1 room)

  -- a loop over the chunk xs that stands at octet i, and a run of n octets at the front of what is left
  pub scan_run_turn : (s : State A) (xs : List ℕ) (i n : ℕ) (m : List ℕ) → i + n ≤ length xs → (0 < n → Run rules s (take n (drop i xs)))
      → after i (scan (step rules) s (drop i xs) m) ≡ after (i + n) (scan (step rules) (with_run rules s (take n (drop i xs))) (drop (i + n) xs) (sets m s.count (take n (drop i xs))))
  scan_run_turn s xs i n m h found =
      let run = take n (drop i xs) in
      let l : length run ≡ n = length-take-le n (drop i xs) (rw (length-drop i xs) (omega arith)) in
      ap (λ (k : List ℕ). after i (scan (step rules) s k m)) (sym (take-append-drop n (drop i xs)))
      ∙ ap (after i) (scan_run run (drop n (drop i xs)) s m (λ q. found (omega (arith, q, l))))
      ∙ after_after i (length run) _
      ∙ ap₂ (λ (k : ℕ) (d : List ℕ). after (i + k) (scan (step rules) (with_run rules s run) d (sets m s.count run))) l (drop-drop n i xs)
