-- Opening a link: the events that lead two links to the world that demand 3 starts from. Proved in proofs/Opening. Assumes nothing.
use Rattle.std.specs.Prelude.{◌≡◌, List, [], ◌∷◌}
use Rattle.dlc_table.specs.Answers.{bad_link}
use Rattle.dlc_table.specs.Model.{Model}
use Rattle.dlc_run.specs.Replies.{Octets, Packets, Never}
use Rattle.window.specs.Sides.{left, right}
use Rattle.dlc_pair.specs.World.{End, data_sent}
use Rattle.dlc_pair.specs.History.{start, timer, arrival, Event}

-- the left end is started and its timer sends RESET; RESET arrives at the right end, which answers RESET_ACK; that arrives at the left end.
-- Each call with a reply buffer of its own
abbrev pub opening_events : Octets → Octets → Octets → Octets → List Event
opening_events b₁ b₂ b₃ b₄ =
    record { side = left; act = start b₁ }
    ∷ record { side = left; act = timer b₂ }
    ∷ record { side = right; act = arrival b₃ }
    ∷ record { side = left; act = arrival b₄ }
    ∷ []

-- an end with a link of this model and these packets on its line, where nothing was accepted, delivered or lost and no DATA was sent yet
pub record Stands {L : Type 0} (v : L → Model) (e : End L) (m : Model) (ks : Packets) : Type 0 where
  pub model : v e.link ≡ m
  pub line : e.line ≡ ks
  pub accepted : e.accepted ≡ []
  pub delivered : e.delivered ≡ []
  pub sent : data_sent e ≡ 0
  pub lost : e.lost ≡ 0
  pub never : Never bad_link e.answers
