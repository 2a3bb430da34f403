-- What the callers of a link observe, for every list of events: what the step table says, whatever meets the contracts. So two links that are seen
-- alike, of one type or of two, can't be told apart by their calls. For every type of links L and its view v. Assumes nothing.
--
--   run_by_the_table, final_by_the_table   all that is observed, and the link at the end as it is seen, are the table's
--   runs_alike                             two links of the same view, two histories of the same events
--   run_formed                             a well-formed link stays so, and 27 is never answered
--   ill_formed_call                        an ill-formed one is answered 27 and comes back as it is
--   run_edition                            a link's edition is never changed, by RESET neither
use Prim.Native.Nat.{ℕ}
use mathlib.Core.Path.{◌≡◌, refl, sym, ap, ◌∙◌}
use mathlib.Core.Bool.{Bool, true, false, cond}
use mathlib.Core.List.{List, [], ◌∷◌}
use lib.ListN.{drop}
use Rattle.dlc_table.specs.Answers.{bad_link, refuses}
use Rattle.dlc_table.specs.Model.{Model}
use Rattle.dlc_table.specs.Events.{Effect}
use Rattle.dlc_table.specs.Runs.{Event, start, timer, payload, arrival, effect_of, model_after}
use Rattle.dlc_table.proofs.StaysFormed.{effect_keeps, ill_formed_refused, never-bad_link, run_keeps}
use Rattle.dlc_table.proofs.StaysFormed as table
use Rattle.dlc_queue.specs.Queue.{slots}
use Rattle.dlc_answer.specs.declared.Answer.{Answer}
use Rattle.dlc_answer.specs.Delivered.{delivered_part}
use Rattle.dlc.specs.Calls.{Meets, answer_of}
use Rattle.dlc_run.specs.Replies.{Octets, Reply, Never}
use Rattle.dlc_run.specs.Runs.{Contract, next_link, History, final, packet_of, buffer_of, observed_by, trace, observed_of, table_trace, codes}
use Rattle.dlc_run.proofs.Copied.{copied_by-packets}

-- the payload delivered by the answer is that of the table
shown : (b : Bool) (q : Octets) → cond b (delivered_part b q ∷ []) [] ≡ cond b (drop 1 q ∷ []) []
shown true q = refl
shown false q = refl

-- of a well-formed link the table never says 27
pub table_trace-never : (limit : ℕ) (es : List Event) (m : Model) → m.ok ≡ true → Never bad_link (codes (table_trace limit es m))
table_trace-never limit [] m ok = tt
table_trace-never limit (e ∷ es) m ok = (never-bad_link limit e m ok, table_trace-never limit es (effect_of limit e m).after (effect_keeps limit e m ∙ ok))

module _ {L : Type 0} (v : L → Model) where
  -- ---- one call
  -- the four contracts as one
  meets_effect : (e : Event) (l : L) (later : Octets) (r : L) (a : Answer) → Contract v e l later r a → Meets v (effect_of slots e (v l)) l (buffer_of e) later r a
  meets_effect (start before) l later r a c = c
  meets_effect (timer before) l later r a c = c
  meets_effect (payload p before) l later r a c = c
  meets_effect (arrival packet before) l later r a c = c

  module _ (e : Event) (l : L) (g : Reply (Contract v e l)) where
    call_meets : Meets v (effect_of slots e (v l)) l (buffer_of e) g.later g.link g.answer
    call_meets = meets_effect e l g.later g.link g.answer g.meets

    pub link_by_the_table : v g.link ≡ (effect_of slots e (v l)).after
    link_by_the_table = call_meets.returns.link

    pub call_by_the_table : observed_by v e l g ≡ observed_of e (effect_of slots e (v l))
    call_by_the_table =
        let a : g.answer ≡ answer_of (effect_of slots e (v l)) = call_meets.returns.answer in
        let up : cond g.answer.delivered (delivered_part g.answer.delivered (packet_of e) ∷ []) []
        ≡ cond (effect_of slots e (v l)).delivered (drop 1 (packet_of e) ∷ []) []
        = ap (λ (t : Answer). cond t.delivered (delivered_part t.delivered (packet_of e) ∷ []) []) a ∙ shown (effect_of slots e (v l)).delivered (packet_of e) in
        λ i. record {
          code = (a i).code;
          upper_reset = (a i).upper_reset;
          packets = copied_by-packets call_meets i;
          reply = call_meets.reply i;
          delivered = up i;
          after = link_by_the_table i;
        }

  -- ---- an ill-formed link
  pub ill_formed_call : (e : Event) (l : L) (g : Reply (Contract v e l)) → (v l).ok ≡ false → (g.answer.code ≡ bad_link) × (g.link ≡ l)
  ill_formed_call e l g z =
      let m = (call_meets e l g).returns in
      let d = ill_formed_refused slots e (v l) z in
      (ap (λ (a : Answer). a.code) m.answer ∙ ap (λ (d : Effect). d.code) d, m.kept (ap (λ (d : Effect). refuses d.code) d))

  -- ---- a list of them
  pub run_by_the_table : (es : List Event) (l : L) (h : History v es l) → trace v es l h ≡ table_trace slots es (v l)
  run_by_the_table [] l h = refl
  run_by_the_table (e ∷ es) l h =
      λ i. call_by_the_table e l h.0 i ∷ (run_by_the_table es (next_link v e l h.0) h.1 ∙ ap (table_trace slots es) (link_by_the_table e l h.0)) i

  pub final_by_the_table : (es : List Event) (l : L) (h : History v es l) → v (final v es l h) ≡ model_after slots es (v l)
  final_by_the_table [] l h = refl
  final_by_the_table (e ∷ es) l h = final_by_the_table es (next_link v e l h.0) h.1 ∙ ap (model_after slots es) (link_by_the_table e l h.0)

  -- ---- a well-formed link
  pub run_formed : (es : List Event) (l : L) (h : History v es l) → (v l).ok ≡ true → ((v (final v es l h)).ok ≡ true) × Never bad_link (codes (trace v es l h))
  run_formed es l h ok = (
    ap (λ (m : Model). m.ok) (final_by_the_table es l h) ∙ run_keeps slots es (v l) ∙ ok,
    rw (run_by_the_table es l h) (table_trace-never slots es (v l) ok),
  )

  -- ---- the edition is set when the link is made, and stays
  pub run_edition : (es : List Event) (l : L) (h : History v es l) → (v (final v es l h)).edition ≡ (v l).edition
  run_edition es l h = ap (λ (m : Model). m.edition) (final_by_the_table es l h) ∙ table.run_edition slots es (v l)

-- ---- two types of links
pub runs_alike : {L L' : Type 0} (v : L → Model) (v' : L' → Model) (es : List Event) (l : L) (l' : L') → v l ≡ v' l' → (h : History v es l) (h' : History v' es l')
    → trace v es l h ≡ trace v' es l' h'
runs_alike v v' es l l' e h h' = run_by_the_table v es l h ∙ ap (table_trace slots es) e ∙ sym (run_by_the_table v' es l' h')
