-- `conversion::whole` meets its contract: one law a refusal, and one for the line written. Assumes nothing.
use Rattle.std.proofs.Common.{ℕ, sym, ap, ◌∙◌, leb-true, leb-false}
use Rattle.conversion.proofs.Refusals.{whole-bad_level, whole-too_small, whole_converted}
use Rattle.conversion.specs.Whole.{Outcome, refusal}
use Rattle.conversion.proofs.whole.Goals as goal

pub returns-then-level-gt-MAX_LEVEL : goal.returns-then-level-gt-MAX_LEVEL
unfolding refusal
returns-then-level-gt-MAX_LEVEL c =
    let a = c.args in
    let e = whole-bad_level a.to_kiss a.level a.capture.now a.out.now c.if-level-gt-MAX_LEVEL.true in
    record {
      value = c.refused.ensures ∙ sym (ap (λ (o : Outcome). o.answer) e);
      out_after = sym (ap (λ (o : Outcome). o.buffer) e);
    }

pub put-requires : goal.put-requires
put-requires c = (c.if-level-gt-MAX_LEVEL.false, leb-true _ _ (sym c.fits.ensures ∙ c.if-fits.true))

pub returns-then-fits : goal.returns-then-fits
returns-then-fits c =
    let a = c.args in
    let fits = leb-true _ _ (sym c.fits.ensures ∙ c.if-fits.true) in
    let e = whole_converted a.to_kiss a.level a.capture.now a.out.now c.if-level-gt-MAX_LEVEL.false fits in
    let w = c.put.ensures in
    record {
      value = w.value ∙ sym (ap (λ (o : Outcome). o.answer) e);
      out_after = w.out_after ∙ sym (ap (λ (o : Outcome). o.buffer) e);
    }

pub returns : goal.returns
unfolding refusal
returns c =
    let a = c.args in
    let small = leb-false _ _ (sym c.fits.ensures ∙ c.if-fits.false) in
    let e = whole-too_small a.to_kiss a.level a.capture.now a.out.now c.if-level-gt-MAX_LEVEL.false small in
    let n = c.requires in
    record {
      value = c.refused-2.ensures ∙ ap (λ (k : ℕ). record { number = k; length = 0; frames = 0; skipped = 0; others = 0 }) n ∙ sym (ap (λ (o : Outcome). o.answer) e);
      out_after = sym (ap (λ (o : Outcome). o.buffer) e);
    }
