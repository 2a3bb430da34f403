-- The turns of a loop over a chunk's reports that makes something of each, over plain variables: a segment that is not closed ends it, a report goes
-- on as long as more is wanted. For every caller of the shared loop whose rules are those of the rule that it hands over. Assumes nothing.
use Prim.Native.Nat.{ℕ, ◌+◌, ◌-◌, ◌≤◌, ◌<◌}
use mathlib.Core.Bool.{Bool, true, false, cond}
use mathlib.Core.List.{List}
use mathlib.Core.Option.{none, some}
use mathlib.Core.Path.{◌≡◌, refl, sym, ap, ap₂, ◌∙◌}
use native.Mathlib.Nat.{add-zero}
use native.Mathlib.Omega.{arith}
use lib.ListN.{length, take, drop, length-drop, drop_of_length-le}
use lib.Seq.{take_all, drop-drop}
use Rattle.common.proofs.Bools.{either}
use Rattle.deframer.proofs.Judged.{scan_judged}
use Rattle.deframer.specs.Rule.{rules_of}
use Rattle.deframer.specs.Scan.{view, opened, scanned}
use Rattle.deframer.specs.declared.Rule.{Rule}
use Rattle.deframer.specs.declared.Scanned.{Scanned}
use Rattle.deframer.specs.declared.State as declared
use Rattle.framing.specs.Closing.{closing, verdict_on}
use Rattle.framing.specs.Rules.{Rules, State}
use Rattle.framing.specs.Step.{step}
use Rattle.framing.specs.Step as steps
use Rattle.line.proofs.Gather.{gather_none, gather_some, later_zero, later_later}
use Rattle.line.proofs.Scan.{scan_taken, scan_report_takes}
use Rattle.line.specs.Gather.{Gathered, later, stop, gather, gather_all}
use Rattle.line.specs.Scan.{Action, advance, store, emit, Scan, scan}
use Rattle.line.specs.Simulation.{place_action}

-- the states of the shared loop are framing's own
same_action : {R : Type 0} (a : Action (State ℕ) R) → a ≡ place_action (λ s. s) a
same_action (advance s) = refl
same_action (store s i x) = refl
same_action (emit r s) = refl

module _ {R C : Type 0} (make : C → R → List ℕ → C) (more : C → Bool) (rule : Rule) (rules : Rules ℕ R) (same : rules_of rule ≡ closing rules) where
  -- what comes of octets xs from the state s on, where d was made so far and more is wanted
  abbrev pub onwards : declared.State → (xs m : List ℕ) → C → Gathered (State ℕ) C
  onwards s xs m d = gather make more (step rules) (view s) xs m d

  opened_is : steps.opened rules ≡ view (opened rule)
  opened_is = sym (ap (λ (l : Rules ℕ (State ℕ)). steps.opened l) same)

  onwards_all : (s : declared.State) (xs m : List ℕ) (d : C) → more d ≡ true → onwards s xs m d ≡ gather_all make more (step rules) (view s) xs m d
  unfolding gather
  onwards_all s xs m d wanted = rw wanted

  -- the loop stands at octet i of the chunk: what is left gives the whole, at its start
  pub start_inv : (s : declared.State) (xs m : List ℕ) (d : C) → more d ≡ true → gather_all make more (step rules) (view s) xs m d ≡ later 0 (onwards s xs m d)
  start_inv s xs m d wanted = later_zero _ ∙ ap (later 0) (sym (onwards_all s xs m d wanted))

  -- no more is wanted, or nothing is left
  pub turn_full : (whole : Gathered (State ℕ) C) (s : declared.State) (xs m : List ℕ) (d : C) (i : ℕ) → more d ≡ false
      → whole ≡ later i (onwards s xs m d)
      → whole ≡ record { taken = i; state = view s; buffer = m; made = d }
  unfolding gather later stop
  turn_full whole s xs m d i full inv = inv ∙ ap (later i) (rw full) ∙ (λ j. record { taken = add-zero i j; state = view s; buffer = m; made = d })

  pub turn_none : (whole : Gathered (State ℕ) C) (s : declared.State) (xs m : List ℕ) (d : C) (i : ℕ) → length xs ≤ i
      → whole ≡ later i (onwards s (drop i xs) m d)
      → whole ≡ record { taken = i; state = view s; buffer = m; made = d }
  unfolding gather gather_all later stop
  turn_none whole s xs m d i past inv =
      inv
      ∙ ap (λ (ys : List ℕ). later i (onwards s ys m d)) (drop_of_length-le xs past)
      ∙ ap (later i) (either (λ (g : Gathered (State ℕ) C). g ≡ stop (view s) m d) (more d) (λ _. refl) (λ _. refl))
      ∙ (λ j. record { taken = add-zero i j; state = view s; buffer = m; made = d })

  -- a turn, at octet i of the chunk: u and m' are what the shared loop gave back of the rest of the chunk, and the buffer after it
  pub record Turn (whole : Gathered (State ℕ) C) (s : declared.State) (chunk m : List ℕ) (d : C) (i : ℕ) (u : Scanned) (m' : List ℕ) : Type 0 where
    pub within : i ≤ length chunk
    pub segment : rule.cap ≤ length m
    pub wanted : more d ≡ true
    pub inv : whole ≡ later i (onwards s (drop i chunk) m d)
    pub answer : u ≡ (scanned rule s (take (length chunk - i) (drop i chunk)) m).answer
    pub buffer : m' ≡ (scanned rule s (take (length chunk - i) (drop i chunk)) m).buffer

  module _ {whole : Gathered (State ℕ) C} {s : declared.State} {chunk m : List ℕ} {d : C} {i : ℕ} {u : Scanned} {m' : List ℕ} (turn : Turn whole s chunk m d i u m') where
    abbrev rest : List ℕ
    rest = take (length chunk - i) (drop i chunk)

    abbrev call : Scan (State ℕ) R
    call = scan (step rules) (view s) rest m

    abbrev report : R
    report = verdict_on rules (view u.state)

    rest-drop : rest ≡ drop i chunk
    rest-drop = take_all (length chunk - i) (drop i chunk) (rw length-drop (omega arith))

    left : whole ≡ later i (gather_all make more (step rules) (view s) rest m d)
    left = turn.inv ∙ ap (λ (xs : List ℕ). later i (onwards s xs m d)) (sym rest-drop) ∙ ap (later i) (onwards_all s rest m d turn.wanted)

    found : (b : Bool) → u.closed ≡ b → call ≡ record { report = cond b (some report) none; taken = u.taken; state = cond b (steps.opened rules) (view u.state); buffer = m' }
    found b q =
        scan_judged rule s rest m turn.segment u m' turn.answer turn.buffer rules same (λ s. s) (step rules) (λ s x. same_action (step rules s x))
        ∙ ap (λ (b : Bool). record { report = cond b (some report) none; taken = u.taken; state = cond b (steps.opened rules) (view u.state); buffer = m' }) q

    taken_is : call.taken ≡ u.taken
    taken_is = ap (λ (v : Scan (State ℕ) R). v.taken) (found u.closed refl)

    pub turn_within : i + u.taken ≤ length chunk
    turn_within = omega (arith, turn.within, taken_is, scan_taken (step rules) rest (view s) m, ap length rest-drop, length-drop i chunk)

    -- the segment is open
    pub turn_ends : u.closed ≡ false → whole ≡ record { taken = i + u.taken; state = view u.state; buffer = m'; made = d }
    unfolding later
    turn_ends unclosed =
        let q = found false unclosed in
        left
        ∙ ap (later i)
        (gather_none make more (step rules) rest (view s) m d (ap (λ (v : Scan (State ℕ) R). v.report) q)
        ∙ ap (λ (v : Scan (State ℕ) R). record { taken = v.taken; state = v.state; buffer = v.buffer; made = d }) q)

    -- a flag closed it
    module _ (shut : u.closed ≡ true) where
      reported : call.report ≡ some report
      reported = ap (λ (v : Scan (State ℕ) R). v.report) (found true shut)

      pub turn_takes : 0 < u.taken
      turn_takes = omega (arith, taken_is, scan_report_takes (step rules) rest (view s) m report reported)

      -- the next state, and what is made with the report
      module _ (s' : declared.State) (d' : C) (se : s' ≡ opened rule) (de : d' ≡ make d report m') where
        pub turn-goes : whole ≡ later (i + u.taken) (onwards s' (drop (i + u.taken) chunk) m' d')
        turn-goes =
            let rest_of : Scan (State ℕ) R → Gathered (State ℕ) C = λ v. gather make more (step rules) v.state (drop v.taken rest) v.buffer (make d report v.buffer) in
            left
            ∙ ap (later i) (gather_some make more (step rules) rest (view s) m d report reported)
            ∙ ap (λ (v : Scan (State ℕ) R). later i (later v.taken (rest_of v))) (found true shut)
            ∙ later_later i u.taken _
            ∙ ap₂ (λ (z : State ℕ) (xs : List ℕ). later (i + u.taken) (gather make more (step rules) z xs m' (make d report m')))
            opened_is (ap (drop u.taken) rest-drop ∙ drop-drop u.taken i chunk)
            ∙ ap₂ (λ (z : declared.State) (d : C). later (i + u.taken) (onwards z (drop (i + u.taken) chunk) m' d)) (sym se) (sym de)
