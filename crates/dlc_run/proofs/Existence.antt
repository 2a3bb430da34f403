-- Every list of events at one end has a history: there is always something that a call may give back, whatever the calls before it gave back. The links
-- given back here are values that the code can hold. For every type of links in which each `Link` has a value (`Covers`), from every link whose model
-- fits, a fresh one among them. Assumes nothing.
use native.Mathlib.Omega.{arith}
use mathlib.Core.Path.{◌≡◌, refl, sym, ap, subst, ◌∙◌}
use mathlib.Core.Bool.{Bool, true, false, false≢true}
use mathlib.Core.List.{List, [], ◌∷◌, flatten}
use Rattle.common.specs.Buffer.{with_front}
use Rattle.dlc_table.specs.Answers.{refuses}
use Rattle.dlc_table.specs.Model.{Model}
use Rattle.dlc_table.specs.Events.{Effect}
use Rattle.dlc_table.specs.Runs.{Event, start, timer, payload, arrival, effect_of}
use Rattle.dlc_table.proofs.StaysFormed.{effect_refused}
use Rattle.dlc_queue.specs.Queue.{slots}
use Rattle.dlc.specs.declared.Link.{Link}
use Rattle.dlc.specs.View.{view}
use Rattle.dlc.specs.Calls.{answer_of, Meets}
use Rattle.dlc.proofs.Values.{link_of, Fits, view_link_of}
use Rattle.dlc_run.specs.Replies.{Octets, Reply}
use Rattle.dlc_run.specs.Runs.{Contract, next_link, History, final, buffer_of}
use Rattle.dlc_run.proofs.Fitting.{effect_fits}
use Rattle.dlc_run.proofs.Runs.{link_by_the_table}

-- a type of links in which every `Link` has a value that is seen as it is
abbrev pub Covers : {L : Type 0} → (L → Model) → Type 0
Covers {L} v = (l : Link) → (r : L) × (v r ≡ view l)

-- what a call may give back: a link of the model after it, on a refusal the very link that came
pub reply : {L : Type 0} {v : L → Model} (d : Effect) (l : L) (before : Octets) (r : L) → v r ≡ d.after → (refuses d.code ≡ true → r ≡ l)
    → Reply (Meets v d l before)
reply d l before r e kept = record {
  later = with_front (flatten d.packets) before;
  link = r;
  answer = answer_of d;
  meets = record { returns = record { answer = refl; link = e; kept = kept }; reply = refl };
}

-- ---- whatever the calls gave back, the links fit
module _ {L : Type 0} (v : L → Model) where
  pub link_fits : (e : Event) (l : L) (g : Reply (Contract v e l)) → Fits (v l) → Fits (v g.link)
  link_fits e l g f = subst Fits (sym (link_by_the_table v e l g)) (effect_fits slots (omega arith) e (v l) f)

  pub run_fits : (es : List Event) (l : L) (h : History v es l) → Fits (v l) → Fits (v (final v es l h))
  run_fits [] l h f = f
  run_fits (e ∷ es) l h f = run_fits es (next_link v e l h.0) h.1 (link_fits e l h.0 f)

-- ---- there is something to give back
module _ {L : Type 0} {v : L → Model} (covers : Covers v) where
  pub value_of : (m : Model) → Fits m → (l : L) × (v l ≡ m)
  value_of m f =
      let r = covers (link_of m) in
      (r.0, r.1 ∙ view_link_of m f)

  effect_reply : (e : Event) (l : L) → Fits (v l) → Reply (Meets v (effect_of slots e (v l)) l (buffer_of e))
  effect_reply e l f = by_refusal (refuses (effect_of slots e (v l)).code) refl
    where
      by_refusal : (t : Bool) → refuses (effect_of slots e (v l)).code ≡ t → Reply (Meets v (effect_of slots e (v l)) l (buffer_of e))
      by_refusal true z = reply _ l (buffer_of e) l (sym (ap (λ (d : Effect). d.after) (effect_refused slots e (v l) z))) (λ _. refl)
      by_refusal false z =
          let r = value_of (effect_of slots e (v l)).after (effect_fits slots (omega arith) e (v l) f) in
          reply _ l (buffer_of e) r.0 r.1 (λ t. absurd (false≢true (sym z ∙ t)))

  pub reply_exists : (e : Event) (l : L) → Fits (v l) → Reply (Contract v e l)
  reply_exists (start before) l f = effect_reply (start before) l f
  reply_exists (timer before) l f = effect_reply (timer before) l f
  reply_exists (payload p before) l f = effect_reply (payload p before) l f
  reply_exists (arrival packet before) l f = effect_reply (arrival packet before) l f

  pub history_exists : (es : List Event) (l : L) → Fits (v l) → History v es l
  history_exists [] l f = tt
  history_exists (e ∷ es) l f =
      let g = reply_exists e l f in
      (g, history_exists es (next_link v e l g) (link_fits v e l g f))

  -- and whatever the calls gave back so far, events can go on
  pub history_goes_on : (es more : List Event) (l : L) (h : History v es l) → Fits (v l) → History v more (final v es l h)
  history_goes_on es more l h f = history_exists more (final v es l h) (run_fits v es l h f)
