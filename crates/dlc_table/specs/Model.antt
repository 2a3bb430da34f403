-- A link as the paper has it: state, queue, the number of the oldest payload and the expected one, and the edition by which it reads DACK. Cited by the step table and by whoever views a
-- link value. Assumes nothing.
use Rattle.std.specs.Prelude.{ℕ, Bool, true, List, []}
use Rattle.dlc_packet.specs.Numbers.{Edition}
use Rattle.dlc_table.specs.declared.State.{State}
use Rattle.dlc_table.specs.declared.State.TheVariants.{Idle, Data}

-- ok: whether the value that is seen so is well formed; base: the number of the oldest payload, or the next to be given; expected: of the next DATA
pub record Model : Type 0 where
  pub ok : Bool
  pub state : State
  pub queue : List (List ℕ)
  pub base : ℕ
  pub expected : ℕ
  pub edition : Edition

-- the link with another state, queue and numbers; its edition goes along, over RESET too: "the edition is set when a fresh link is made and survives
-- RESET" (2026-08). Every row of the table makes its link so
abbrev pub rebuilt : Model → State → List (List ℕ) → ℕ → ℕ → Model
rebuilt m s q b e = record { ok = m.ok; state = s; queue = q; base = b; expected = e; edition = m.edition }

-- the link in another state
abbrev pub in_state : State → Model → Model
in_state s m = rebuilt m s m.queue m.base m.expected

-- "a fresh link is in DLIDLE with empty queue and numbers 0", in either edition
abbrev pub fresh : Edition → Model
fresh d = record { ok = true; state = Idle; queue = []; base = 0; expected = 0; edition = d }

-- a link that RESET has just cleared: in DLDATA with empty queue and numbers 0
abbrev pub opened : Edition → Model
opened d = in_state Data (fresh d)
