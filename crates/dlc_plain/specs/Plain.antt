-- A link in plain numbers: the state is a number. Cited by the functions of this crate and by what C programs call. Assumes nothing.
--
--   view c     the model of a link in plain numbers; a state that is none of the four makes it ill formed
--   link_of, plain_of     a link by its numbers, and the numbers of a link
--   IsRead c r            what reading a link in plain numbers gives
use Rattle.std.specs.Prelude.{ℕ, ◌<◌, ◌≤◌, ◌≡◌, ◌&&◌, cond, leb, eqb, Result, Ok, Err}
use Rattle.dlc_table.specs.declared.State.{State}
use Rattle.dlc_table.specs.declared.State.TheVariants.{Idle, Reset, Data, Wait}
use Rattle.dlc_table.specs.declared.Refusal.{Refusal}
use Rattle.dlc_table.specs.declared.Refusal.TheVariants.{BadLink}
use Rattle.dlc_table.specs.Model.{Model}
use Rattle.dlc.specs.declared.Link.{Link}
use Rattle.dlc.specs.declared.Outcome.{Outcome}
use Rattle.dlc.specs.View.{well_formed, seen}
use Rattle.dlc_plain.specs.declared.PlainLink.{PlainLink}
use Rattle.dlc_plain.specs.declared.PlainOutcome.{PlainOutcome}

-- the states' numbers, in the paper's order: DLIDLE, DLRESET, DLDATA, DLDWAIT
abbrev pub state_idle : ℕ
state_idle = 0

abbrev pub state_reset : ℕ
state_reset = 1

abbrev pub state_data : ℕ
state_data = 2

abbrev pub state_wait : ℕ
state_wait = 3

abbrev pub number_of : State → ℕ
number_of Idle = state_idle
number_of Reset = state_reset
number_of Data = state_data
number_of Wait = state_wait

-- a state by its number; a number that is none of the four, which makes a value ill formed, counts as the last
abbrev pub state_of : ℕ → State
state_of n = cond (eqb n state_idle) Idle (cond (eqb n state_reset) Reset (cond (eqb n state_data) Data Wait))

-- all but the state is the same in both, the edition too; every link in plain numbers, and every link of one, is made so
abbrev pub link_with : PlainLink → State → Link
link_with c s = record { state = s; queue = c.queue; base = c.base; expected = c.expected; edition = c.edition }

abbrev pub plain_with : Link → ℕ → PlainLink
plain_with l n = record { state = n; queue = l.queue; base = l.base; expected = l.expected; edition = l.edition }

abbrev pub link_of : PlainLink → Link
link_of c = link_with c (state_of c.state)

abbrev pub plain_of : Link → PlainLink
plain_of l = plain_with l (number_of l.state)

abbrev pub outcome_of : Outcome → PlainOutcome
outcome_of o = record { link = plain_of o.link; answer = o.answer }

-- what is read of a link in plain numbers: the link, or that its state is none of the four
abbrev pub IsRead : PlainLink → Result Link Refusal → Type 0
IsRead c (Ok l) = (c.state ≤ state_wait) × (l ≡ link_of c)
IsRead c (Err r) = (state_wait < c.state) × (r ≡ BadLink)

abbrev pub view : PlainLink → Model
view c = seen (leb c.state state_wait && well_formed (link_of c)) (link_of c)
