-- One law for too small a buffer, and one for the frame written.
use Rattle.std.proofs.Common.{◌≡◌, refl}
use Rattle.framer.proofs.Written.{frame_written}
use Rattle.kiss.specs.Answers.{out_too_small}
use Rattle.kiss_write.proofs.Refusals.{write-unfit, write-fit}
use Rattle.kiss_write.specs.Write.{write_frame}
use Rattle.qaft.specs.Answers.{done}
use Rattle.qaft_write.specs.declared.Written.{Written}
use Rattle.kiss_write.proofs.write_frame.Goals as goal
use Rattle.kiss_write.proofs.write_frame.Goals.{In_default, In-Some}

unfit : (c : In_default)
    → (◌≡◌ {A = Written} (record { number = out_too_small; length = 0 }) (write_frame c.args.at_flag c.args.payload.now c.args.out.now).answer) × (c.write.new.out ≡ (write_frame c.args.at_flag c.args.payload.now c.args.out.now).buffer)
unfit c = write-unfit _ _ _ c.if-payload-eq0.false c.if-payload-gt-MAX_DATA.false _ c.escapes-e.ensures _ _ c.in_default.ensures.value c.in_default.ensures.out_after refl

fit : (c : In-Some)
    → (◌≡◌ {A = Written} (record { number = done; length = c.in-Some.length }) (write_frame c.args.at_flag c.args.payload.now c.args.out.now).answer) × (c.write.new.out ≡ (write_frame c.args.at_flag c.args.payload.now c.args.out.now).buffer)
fit c =
    write-fit _ _ _ c.if-payload-eq0.false c.if-payload-gt-MAX_DATA.false _ c.escapes-e.ensures _ _ c.in-Some.ensures.value c.in-Some.ensures.out_after
    (frame_written _ _ _ _ _ c.in-Some.ensures.value c.in-Some.ensures.variant)

pub returns-in_default-clause-value : goal.returns-in_default-clause-value
returns-in_default-clause-value c = (unfit (goal.at.returns-in_default-clause-value c).In_default).0

pub returns-in_default-clause-out_after : goal.returns-in_default-clause-out_after
returns-in_default-clause-out_after c = (unfit (goal.at.returns-in_default-clause-out_after c).In_default).1

pub returns-clause-value : goal.returns-clause-value
returns-clause-value c = (fit (goal.at.returns-clause-value c).In-Some).0

pub returns-clause-out_after : goal.returns-clause-out_after
returns-clause-out_after c = (fit (goal.at.returns-clause-out_after c).In-Some).1
