-- The runs of the two types of links that there are: `Link`, and the link in plain numbers that C programs hold. Each is the theorem of every view,
-- at this one. Assumes nothing.
use mathlib.Core.Path.{◌≡◌, refl, sym, subst}
use mathlib.Core.Bool.{false}
use mathlib.Core.List.{List}
use Rattle.dlc_packet.specs.Numbers.{Edition, known_edition}
use Rattle.dlc_table.specs.Answers.{bad_link}
use Rattle.dlc_table.specs.Model.{fresh}
use Rattle.dlc_table.specs.Runs.{Event, model_after}
use Rattle.dlc_queue.specs.Queue.{slots}
use Rattle.dlc.specs.declared.Link.{Link}
use Rattle.dlc.specs.View.{view}
use Rattle.dlc.proofs.Parts.{unknown_edition}
use Rattle.dlc.proofs.Values.{Fits, fits_fresh}
use Rattle.dlc_plain.specs.declared.PlainLink.{PlainLink}
use Rattle.dlc_plain.specs.Plain.{plain_of, view as plain_view}
use Rattle.dlc_plain.proofs.Conversions.{view_plain, unknown_edition_ill_formed}
use Rattle.dlc_run.specs.Replies.{Reply}
use Rattle.dlc_run.specs.Runs.{Contract, History, final, trace, table_trace}
use Rattle.dlc_run.proofs.Runs.{ill_formed_call, run_by_the_table, final_by_the_table, runs_alike}
use Rattle.dlc_run.proofs.Existence.{Covers, value_of, history_exists}

pub run_by_the_table_link : (es : List Event) (l : Link) (h : History view es l) → trace view es l h ≡ table_trace slots es (view l)
run_by_the_table_link = run_by_the_table view

pub run_by_the_table_plain : (es : List Event) (l : PlainLink) (h : History plain_view es l) → trace plain_view es l h ≡ table_trace slots es (plain_view l)
run_by_the_table_plain = run_by_the_table plain_view

pub final_by_the_table_link : (es : List Event) (l : Link) (h : History view es l) → view (final view es l h) ≡ model_after slots es (view l)
final_by_the_table_link = final_by_the_table view

pub final_by_the_table_plain : (es : List Event) (l : PlainLink) (h : History plain_view es l) → plain_view (final plain_view es l h) ≡ model_after slots es (plain_view l)
final_by_the_table_plain = final_by_the_table plain_view

-- a link of each type, seen alike: whoever calls them observes the same
pub runs_alike_link_plain : (es : List Event) (l : Link) (l' : PlainLink) → view l ≡ plain_view l' → (h : History view es l) (h' : History plain_view es l')
    → trace view es l h ≡ trace plain_view es l' h'
runs_alike_link_plain = runs_alike view plain_view

-- ---- "a link value with an unknown edition answers 27" (2026-08): to every event, whatever else it has, and it comes back as it is
pub unknown_edition_link : (e : Event) (l : Link) (g : Reply (Contract view e l)) → known_edition l.edition ≡ false
    → (g.answer.code ≡ bad_link) × (g.link ≡ l)
unknown_edition_link e l g u = ill_formed_call view e l g (unknown_edition l u)

pub unknown_edition_plain : (e : Event) (l : PlainLink) (g : Reply (Contract plain_view e l)) → known_edition l.edition ≡ false
    → (g.answer.code ≡ bad_link) × (g.link ≡ l)
unknown_edition_plain e l g u = ill_formed_call plain_view e l g (unknown_edition_ill_formed l u)

-- ---- it is not about nothing: each type has a value for every `Link`, so there are fresh links of either edition, and every list of events has a
-- history from one
pub link_covers : Covers view
link_covers l = (l, refl)

pub plain_covers : Covers plain_view
plain_covers l = (plain_of l, view_plain l)

module _ (d : Edition) where
  pub fresh_link : (l : Link) × (view l ≡ fresh d)
  fresh_link = value_of link_covers (fresh d) (fits_fresh d)

  pub fresh_plain : (l : PlainLink) × (plain_view l ≡ fresh d)
  fresh_plain = value_of plain_covers (fresh d) (fits_fresh d)

  pub run_exists_link : (es : List Event) (l : Link) → view l ≡ fresh d → History view es l
  run_exists_link es l e = history_exists link_covers es l (subst Fits (sym e) (fits_fresh d))

  pub run_exists_plain : (es : List Event) (l : PlainLink) → plain_view l ≡ fresh d → History plain_view es l
  run_exists_plain es l e = history_exists plain_covers es l (subst Fits (sym e) (fits_fresh d))
