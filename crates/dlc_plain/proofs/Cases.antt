-- Numbers of states on small cases, by computation. Assumes nothing.
use mathlib.Core.Path.{◌≡◌, refl}
use mathlib.Core.Bool.{false}
use Rattle.dlc_table.specs.declared.State.TheVariants.{Idle, Wait}
use Rattle.dlc.specs.declared.Link.{Link}
use Rattle.dlc_plain.specs.Plain.{state_of, plain_with, view}

pub first_state : state_of 0 ≡ Idle
first_state = refl

pub last_state : state_of 3 ≡ Wait
last_state = refl

-- a value whose state is none of the four is ill formed, whatever the rest of it is
pub state_4 : (l : Link) → (view (plain_with l 4)).ok ≡ false
state_4 l = refl

pub state_255 : (l : Link) → (view (plain_with l 255)).ok ≡ false
state_255 l = refl
