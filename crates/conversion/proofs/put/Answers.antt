-- `conversion::put` meets its contract. The loop's invariant: what is put, with what is left to put behind it, is the whole line. Assumes nothing.
use Rattle.std.proofs.Common.{ℕ, ◌+◌, ◌≤◌, ◌<◌, List, ◌≡◌, refl, sym, ap, ap₂, ◌∙◌, subst, add-zero, arith, length, take, drop, replicate}
use lib.Seq.{sets, length-sets}
use Rattle.common.proofs.Buffer.{sets-front}
use Rattle.conversion.proofs.Turns.{rest_text, rest_tally, Ready, fresh_ready, fresh_text, fresh_tally_lem, none_left, turn_ready, turn_few, turn_within, turn_takes, turn_tally, left-length, put_on, none_refused}
use Rattle.conversion.specs.Whole.{converted}
use Rattle.conversion_laws.specs.Frames.{conversion_of}
use Rattle.converter.specs.Convert.{fresh_converter}
use Rattle.converter.specs.declared.Converter.{Converter}
use Rattle.qaft.specs.Limits.{max_segment}
use Rattle.common.specs.Buffer.{with_front}
use Rattle.qaft.specs.Answers.{done}
use Rattle.converter.specs.declared.Tally.{Tally}
use Rattle.conversion.proofs.put.Goals as goal

pub loop-i-init : goal.loop-i-init
loop-i-init c =
    let a = c.args in
    let p = c.requires in
    let e = c.new-c.ensures in
    let zeros : List ℕ = replicate max_segment 0 in
    let t : rest_text c.new-c.result a.capture.now zeros ≡ conversion_of a.to_kiss a.level a.capture.now = ap (λ (x : Converter). rest_text x a.capture.now zeros) e ∙ fresh_text a.to_kiss a.level a.capture.now zeros (omega arith) in (
      omega arith,
      refl,
      refl,
      subst (λ (x : Converter). Ready x _) (sym e) (fresh_ready a.to_kiss a.level _ p.0 (omega arith)),
      refl,
      omega (arith, ap length t),
      ap (sets a.out.now 0) t,
      refl,
    )

pub slice_bounds-convert-end-in-loop-i : goal.slice_bounds-convert-end-in-loop-i
slice_bounds-convert-end-in-loop-i c = sym c.loop-i.invariant.1

pub slice_bounds-convert-end-in-loop-i-2 : goal.slice_bounds-convert-end-in-loop-i-2
slice_bounds-convert-end-in-loop-i-2 c = sym c.loop-i.invariant.2

pub overflow_add-i : goal.overflow_add-i
overflow_add-i c =
    let within : c.loop-i.i + c.in-Ok.a.taken ≤ length c.args.capture.now = (let l = c.loop-i in
    let a = c.args in
    let e = c.in-Ok.ensures in
    turn_within l.c a.capture.now l.buffer l.scratch l.i l.invariant.0 _ refl l.invariant.3 (omega (arith, l.invariant.2)) _ _ _ e.value e.buffer_after e.out_after) in
    omega (arith, within, c.well_formed.1.1.0.0)

pub put_front-at-requires : goal.put_front-at-requires
put_front-at-requires c =
    let k = c in
    let l = k.loop-i in
    let a = k.args in
    let e = k.in-Ok.ensures in
    (turn_few l.c a.capture.now l.buffer l.scratch l.i l.invariant.0 _ refl l.invariant.3 (omega (arith, l.invariant.2)) _ _ _ e.value e.buffer_after e.out_after, omega (arith, left-length l.c a.capture.now l.buffer l.scratch l.i l.invariant.0 _ refl l.invariant.3 (omega (arith, l.invariant.2)) _ _ _ e.value e.buffer_after e.out_after, l.invariant.4, l.invariant.5, k.requires.1))

pub loop-i-smaller : goal.loop-i-smaller
loop-i-smaller c =
    let within : c.loop-i.i + c.in-Ok.a.taken ≤ length c.args.capture.now = (let l = c.loop-i in
    let a = c.args in
    let e = c.in-Ok.ensures in
    turn_within l.c a.capture.now l.buffer l.scratch l.i l.invariant.0 _ refl l.invariant.3 (omega (arith, l.invariant.2)) _ _ _ e.value e.buffer_after e.out_after) in
    let takes : 0 < c.in-Ok.a.taken = (let l = c.loop-i in
    let a = c.args in
    let e = c.in-Ok.ensures in
    turn_takes l.c a.capture.now l.buffer l.scratch l.i l.invariant.0 _ refl l.invariant.3 (omega (arith, l.invariant.2)) _ _ _ e.value e.buffer_after e.out_after c.loop-i-test.true) in
    omega (arith, within, takes)

pub loop-i-preserved : goal.loop-i-preserved
loop-i-preserved c =
    let within : c.loop-i.i + c.in-Ok.a.taken ≤ length c.args.capture.now = (let l = c.loop-i in
    let a = c.args in
    let e = c.in-Ok.ensures in
    turn_within l.c a.capture.now l.buffer l.scratch l.i l.invariant.0 _ refl l.invariant.3 (omega (arith, l.invariant.2)) _ _ _ e.value e.buffer_after e.out_after) in
    let k = c in
    let l = k.loop-i in
    let a = k.args in
    let e = k.in-Ok.ensures in
    let q = c.put_front-at.ensures in
    let at' = q.value in (
      within,
      k.convert.auto.buffer ∙ l.invariant.1,
      k.convert.auto.out ∙ l.invariant.2,
      turn_ready l.c a.capture.now l.buffer l.scratch l.i l.invariant.0 _ refl l.invariant.3 (omega (arith, l.invariant.2)) _ _ _ e.value e.buffer_after e.out_after,
      ap length q.out_after ∙ length-sets l.out l.at (take k.in-Ok.a.length k.convert.new.out) ∙ l.invariant.4,
      omega (arith, at', left-length l.c a.capture.now l.buffer l.scratch l.i l.invariant.0 _ refl l.invariant.3 (omega (arith, l.invariant.2)) _ _ _ e.value e.buffer_after e.out_after, l.invariant.5),
      ap₂ (λ (o : List ℕ) (n : ℕ). sets o n (rest_text k.in-Ok.a.converter (drop (l.i + k.in-Ok.a.taken) a.capture.now) k.convert.new.buffer)) q.out_after at' ∙ sym (put_on l.c a.capture.now l.buffer l.scratch l.i l.invariant.0 _ refl l.invariant.3 (omega (arith, l.invariant.2)) _ _ _ e.value e.buffer_after e.out_after l.out l.at) ∙ l.invariant.6,
      sym (turn_tally l.c a.capture.now l.buffer l.scratch l.i l.invariant.0 _ refl l.invariant.3 (omega (arith, l.invariant.2)) _ _ _ e.value e.buffer_after e.out_after) ∙ l.invariant.7,
    )

pub returns-in-Err : goal.returns-in-Err
returns-in-Err c =
    let l = c.loop-i in
    absurd (none_refused l.c _ l.buffer l.scratch l.invariant.3 (omega (arith, l.invariant.2)) _ c.in-Err.ensures.value)

pub returns : goal.returns
unfolding converted
returns c =
    let l = c.loop-i in
    let p = c in
    let a = p.args in
    let zeros : List ℕ = replicate max_segment 0 in
    let line = conversion_of a.to_kiss a.level a.capture.now in
    let e = none_left l.c a.capture.now l.buffer l.i c.loop-i-test.false in
    let n : l.at ≡ length line = sym (add-zero l.at) ∙ sym (ap (λ (t : List ℕ). l.at + length t) e.0) ∙ l.invariant.5 in
    let o : l.out ≡ with_front line a.out.now = sym (ap (sets l.out l.at) e.0) ∙ l.invariant.6 ∙ sets-front line a.out.now p.requires.1 in
    let t : l.c.tally ≡ rest_tally (fresh_converter a.to_kiss a.level) a.capture.now zeros = sym e.1 ∙ l.invariant.7 ∙ ap (λ (x : Converter). rest_tally x a.capture.now zeros) c.new-c.ensures in
    let k = fresh_tally_lem a.to_kiss a.level a.capture.now zeros (omega arith) (omega (arith, p.well_formed.1.1.0.0)) in
    let f = ap (λ (t : Tally). t.frames) t ∙ k.0 in
    let g = ap (λ (t : Tally). t.skipped) t ∙ k.1 in
    let h = ap (λ (t : Tally). t.others) t ∙ k.2 in
    record {
      value = (λ j. record { number = done; length = n j; frames = f j; skipped = g j; others = h j });
      out_after = o;
    }
