-- A call of `convert` takes no more than is left of a chunk, whatever it is handed. Assumes nothing.
use Prim.Native.Nat.{ℕ, ◌+◌, ◌-◌, ◌≤◌}
use mathlib.Core.List.{List}
use mathlib.Core.Path.{◌≡◌, ap}
use native.Mathlib.Omega.{arith}
use lib.ListN.{length, take, drop, length-take, length-drop}
use Rattle.common.proofs.Refusals.{guarded_both}
use Rattle.converter.specs.Answer.{Converted}
use Rattle.converter.specs.Convert.{counted, report_text, Call, call_of, refusal, refusals, convert}
use Rattle.converter.specs.Gist.{source_rules}
use Rattle.converter.specs.declared.Converter.{Converter}
use Rattle.deframer.specs.Scan.{view}
use Rattle.framing.specs.Step.{step}
use Rattle.line.proofs.Gather.{gather_partly}
use Rattle.line.specs.Texts.{with_text, has_room}
use Rattle.qaft.specs.Limits.{max_frame}

pub convert_taken : (c : Converter) (xs m out : List ℕ) → (convert c xs m out).answer.taken ≤ length xs
unfolding convert refusal call_of
convert_taken c xs m out =
    let rules = source_rules c.to_kiss c.level in
    let partly = gather_partly (with_text (report_text c.to_kiss c.level) counted) (has_room max_frame) (step rules) xs (view c.state) m (record { tally = c.tally; out = out; behind = 0 }) in
    guarded_both (λ (k : Call) (_ : ℕ). k.answer.taken ≤ length xs) (refusals c (length m) (length out)) (refusal c m out) (λ n. n) _ 0 (λ _. omega arith) partly.within

-- a chunk that is handed over from its octet i on
pub taken_rest : (c : Converter) (xs m out : List ℕ) (i : ℕ) (a : Converted) → i ≤ length xs → a ≡ (convert c (take (length xs - i) (drop i xs)) m out).answer → i + a.taken ≤ length xs
taken_rest c xs m out i a h e =
    let k : a.taken ≡ (convert c (take (length xs - i) (drop i xs)) m out).answer.taken = ap (λ (a : Converted). a.taken) e in
    omega (arith, k, convert_taken c (take (length xs - i) (drop i xs)) m out, length-take (length xs - i) (drop i xs), length-drop i xs)
