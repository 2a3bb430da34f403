-- Demand 3 of the two types of links: `Link`, and the link in plain numbers that C programs hold, where the calls are what the exported functions
-- ensure. Each is the theorem of every view, at this one; so are `without_loss`, `progress`, `recovers`, `opening` and the worked runs, which need
-- no value of the type. Assumes nothing.
use mathlib.Core.Path.{◌≡◌}
use mathlib.Core.Bool.{true}
use mathlib.Core.List.{List}
use Rattle.dlc_packet.specs.Numbers.{Edition}
use Rattle.dlc_table.specs.Model.{fresh, opened}
use Rattle.dlc.specs.declared.Link.{Link}
use Rattle.dlc.specs.View.{view}
use Rattle.dlc_plain.specs.declared.PlainLink.{PlainLink}
use Rattle.dlc_plain.specs.Plain.{view as plain_view}
use Rattle.dlc_run.specs.Replies.{Octets}
use Rattle.dlc_run.proofs.Links.{link_covers, plain_covers}
use Rattle.dlc_pair.specs.World.{initial}
use Rattle.dlc_pair.specs.History.{Event, History, final}
use Rattle.dlc_pair.specs.Demand3.{BothOpen, Demand3}
use Rattle.dlc_pair.specs.Opening.{opening_events}
use Rattle.dlc_pair.specs.Progress.{Enough}
use Rattle.dlc_pair.proofs.Demand3.{demand_three}
use Rattle.dlc_pair.proofs.Theorems.{both_open, opened_value, history_exists, history_goes_on}
use Rattle.dlc_pair.proofs.Opening.{opening_exists}

-- ---- demand 3
pub demand_three_link : (l l' : Link) → BothOpen view l l' → (es : List Event) (h : History view es (initial l l')) → Demand3 view es (initial l l') h
demand_three_link = demand_three view

pub demand_three_plain : (l l' : PlainLink) → BothOpen plain_view l l' → (es : List Event) (h : History plain_view es (initial l l'))
    → Demand3 plain_view es (initial l l') h
demand_three_plain = demand_three plain_view

-- ---- it is not about nothing: there are open links of each edition, and two of them are as demand 3 has them
module _ (d : Edition) where
  pub open_link : (l : Link) × (view l ≡ opened d)
  open_link = opened_value link_covers d

  pub open_plain : (l : PlainLink) × (plain_view l ≡ opened d)
  open_plain = opened_value plain_covers d

  pub both_open_link : BothOpen view open_link.0 open_link.0
  both_open_link = both_open d open_link.1 open_link.1

  pub both_open_plain : BothOpen plain_view open_plain.0 open_plain.0
  both_open_plain = both_open d open_plain.1 open_plain.1

-- every list of events has a history, and events can go on whatever came back so far; of one edition or of two
module _ (d d' : Edition) where
  pub history_exists_link : (l l' : Link) → view l ≡ opened d → view l' ≡ opened d' → (es : List Event) → History view es (initial l l')
  history_exists_link l l' e e' = history_exists link_covers l l' e e'

  pub history_exists_plain : (l l' : PlainLink) → plain_view l ≡ opened d → plain_view l' ≡ opened d' → (es : List Event) → History plain_view es (initial l l')
  history_exists_plain l l' e e' = history_exists plain_covers l l' e e'

  pub history_goes_on_link : (l l' : Link) → view l ≡ opened d → view l' ≡ opened d' → (es more : List Event) (h : History view es (initial l l'))
      → History view more (final view es (initial l l') h)
  history_goes_on_link l l' e e' = history_goes_on link_covers l l' e e'

  pub history_goes_on_plain : (l l' : PlainLink) → plain_view l ≡ opened d → plain_view l' ≡ opened d'
      → (es more : List Event) (h : History plain_view es (initial l l'))
      → History plain_view more (final plain_view es (initial l l') h)
  history_goes_on_plain l l' e e' = history_goes_on plain_covers l l' e e'

-- ---- and it can be come to: there are fresh links (dlc_run/proofs/Links), and a fresh one and any well-formed one can be opened
module _ (d : Edition) (b₁ b₂ b₃ b₄ : Octets) (h₁ : Enough b₁) (h₂ : Enough b₂) (h₃ : Enough b₃) (h₄ : Enough b₄) where
  pub opening_exists_link : (l l' : Link) → view l ≡ fresh d → (view l').ok ≡ true → History view (opening_events b₁ b₂ b₃ b₄) (initial l l')
  opening_exists_link l l' e e' = opening_exists view l l' e e' b₁ b₂ b₃ b₄ h₁ h₂ h₃ h₄ link_covers

  pub opening_exists_plain : (l l' : PlainLink) → plain_view l ≡ fresh d → (plain_view l').ok ≡ true
      → History plain_view (opening_events b₁ b₂ b₃ b₄) (initial l l')
  opening_exists_plain l l' e e' = opening_exists plain_view l l' e e' b₁ b₂ b₃ b₄ h₁ h₂ h₃ h₄ plain_covers
