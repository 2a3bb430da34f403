-- `conversion::fits` meets its contract. The loop's invariant: whether what is left has room in what is left of the room is what is asked. Assumes nothing.
use Rattle.std.proofs.Common.{ℕ, ◌+◌, ◌≤◌, ◌<◌, List, refl, sym, ap, ◌∙◌, subst, arith, le-leb, leb, length}
use Rattle.conversion.proofs.Turns.{rest_text, Ready, fresh_ready, fresh_text, none_left, turn_ready, turn_within, turn_takes, fits_no, fits_on, none_refused}
use Rattle.converter.specs.declared.Converter.{Converter}
use Rattle.conversion.proofs.fits.Goals as goal

pub loop-i-init : goal.loop-i-init
loop-i-init c =
    let a = c.args in
    let e = c.new-c.ensures in (
      omega arith,
      refl,
      refl,
      subst (λ (x : Converter). Ready x _) (sym e) (fresh_ready a.to_kiss a.level _ c.requires (omega arith)),
      ap (λ (t : List ℕ). leb (length t) a.room) (ap (λ (x : Converter). rest_text x a.capture.now _) e ∙ fresh_text a.to_kiss a.level a.capture.now _ (omega arith)),
    )

pub slice_bounds-convert-end-in-loop-i : goal.slice_bounds-convert-end-in-loop-i
slice_bounds-convert-end-in-loop-i c = sym c.loop-i.invariant.1

pub slice_bounds-convert-end-in-loop-i-2 : goal.slice_bounds-convert-end-in-loop-i-2
slice_bounds-convert-end-in-loop-i-2 c = sym c.loop-i.invariant.2

pub overflow_add-i : goal.overflow_add-i
overflow_add-i c =
    let within : c.loop-i.i + c.in-Ok.a.taken ≤ length c.args.capture.now = (let l = c.loop-i in
    let a = c.args in
    let e = c.in-Ok.ensures in
    turn_within l.c a.capture.now l.buffer l.scratch l.i l.invariant.0 _ refl l.invariant.3 (omega (arith, l.invariant.2)) _ _ _ e.value e.buffer_after e.out_after) in
    omega (arith, within)

pub returns-then-left-a : goal.returns-then-left-a
returns-then-left-a c =
    let k = c in
    let l = k.loop-i in
    let a = k.args in
    let e = k.in-Ok.ensures in
    sym (fits_no l.c a.capture.now l.buffer l.scratch l.i l.invariant.0 _ refl l.invariant.3 (omega (arith, l.invariant.2)) _ _ _ e.value e.buffer_after e.out_after _ c.if-left-a.true) ∙ l.invariant.4

pub loop-i-smaller : goal.loop-i-smaller
loop-i-smaller c =
    let within : c.loop-i.i + c.in-Ok.a.taken ≤ length c.args.capture.now = (let l = c.loop-i in
    let a = c.args in
    let e = c.in-Ok.ensures in
    turn_within l.c a.capture.now l.buffer l.scratch l.i l.invariant.0 _ refl l.invariant.3 (omega (arith, l.invariant.2)) _ _ _ e.value e.buffer_after e.out_after) in
    let takes : 0 < c.in-Ok.a.taken = (let l = c.loop-i in
    let a = c.args in
    let e = c.in-Ok.ensures in
    turn_takes l.c a.capture.now l.buffer l.scratch l.i l.invariant.0 _ refl l.invariant.3 (omega (arith, l.invariant.2)) _ _ _ e.value e.buffer_after e.out_after c.loop-i-test.true) in
    omega (arith, within, takes)

pub loop-i-preserved : goal.loop-i-preserved
loop-i-preserved c =
    let within : c.loop-i.i + c.in-Ok.a.taken ≤ length c.args.capture.now = (let l = c.loop-i in
    let a = c.args in
    let e = c.in-Ok.ensures in
    turn_within l.c a.capture.now l.buffer l.scratch l.i l.invariant.0 _ refl l.invariant.3 (omega (arith, l.invariant.2)) _ _ _ e.value e.buffer_after e.out_after) in
    let k = c in
    let l = k.loop-i in
    let a = k.args in
    let e = k.in-Ok.ensures in (
      within,
      k.convert.auto.buffer ∙ l.invariant.1,
      k.convert.auto.out ∙ l.invariant.2,
      turn_ready l.c a.capture.now l.buffer l.scratch l.i l.invariant.0 _ refl l.invariant.3 (omega (arith, l.invariant.2)) _ _ _ e.value e.buffer_after e.out_after,
      fits_on l.c a.capture.now l.buffer l.scratch l.i l.invariant.0 _ refl l.invariant.3 (omega (arith, l.invariant.2)) _ _ _ e.value e.buffer_after e.out_after l.left c.if-left-a.false ∙ l.invariant.4,
    )

pub returns-in-Err : goal.returns-in-Err
returns-in-Err c =
    let l = c.loop-i in
    absurd (none_refused l.c _ l.buffer l.scratch l.invariant.3 (omega (arith, l.invariant.2)) _ c.in-Err.ensures.value)

pub returns : goal.returns
returns c =
    let l = c.loop-i in
    let a = c.args in
    sym (le-leb 0 l.left (omega arith)) ∙ sym (ap (λ (t : List ℕ). leb (length t) l.left) (none_left l.c a.capture.now l.buffer l.i c.loop-i-test.false).0) ∙ l.invariant.4
