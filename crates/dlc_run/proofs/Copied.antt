-- What a call copies out of its buffer is what its effect sends. Assumes nothing.
use Prim.Native.Nat.{ℕ}
use mathlib.Core.Path.{◌≡◌, refl, ap, ◌∙◌}
use mathlib.Core.List.{List, [], ◌∷◌, ◌++◌, map, append_assoc, flatten}
use lib.ListN.{length, take, drop}
use lib.Seq.{take-append_seam, drop-append_seam}
use Rattle.dlc_table.specs.Model.{Model}
use Rattle.dlc_table.specs.Events.{Effect}
use Rattle.dlc_answer.specs.declared.Answer.{Answer}
use Rattle.dlc.specs.Calls.{Meets}
use Rattle.dlc_run.specs.Replies.{Octets, Packets, packets_in, copied_by}

-- what is copied out of a buffer is what was put at its front
pub packets_in-flatten : (ps : Packets) (lengths rest : List ℕ) → packets_in (length ps) (map length ps ++ lengths) (flatten ps ++ rest) ≡ ps
unfolding flatten
packets_in-flatten [] lengths rest = refl
packets_in-flatten (p ∷ ps) lengths rest =
    let a : (p ++ flatten ps) ++ rest ≡ p ++ (flatten ps ++ rest) = append_assoc p (flatten ps) rest in
    let t : take (length p) ((p ++ flatten ps) ++ rest) ≡ p = ap (take (length p)) a ∙ take-append_seam p (flatten ps ++ rest) in
    let d : drop (length p) ((p ++ flatten ps) ++ rest) ≡ flatten ps ++ rest = ap (drop (length p)) a ∙ drop-append_seam p (flatten ps ++ rest) in
    λ i. t i ∷ (ap (packets_in (length ps) (map length ps ++ lengths)) d ∙ packets_in-flatten ps lengths rest) i

-- by the contract of any call
pub copied_by-packets : {L : Type 0} {v : L → Model} {d : Effect} {l r : L} {before later : Octets} {a : Answer} → Meets v d l before later r a → copied_by a later ≡ d.packets
copied_by-packets {d = d} m = rw (m.returns.answer, m.reply) (packets_in-flatten d.packets _ _)
