-- One law for too small a buffer, and one for the frame written.
use Rattle.std.proofs.Common.{◌≡◌, ℕ, List, take, refl, ap₂, ◌∙◌}
use Rattle.framer.proofs.Written.{frame_written}
use Rattle.qaft.proofs.Check.{pair_front}
use Rattle.qaft.specs.Answers.{out_too_small, done}
use Rattle.qaft.specs.Check.{check_by, check_pair}
use Rattle.qaft.specs.Limits.{check_size}
use Rattle.qaft_write.proofs.Refusals.{write-unfit, write-fit}
use Rattle.qaft_write.specs.Write.{write_frame}
use Rattle.qaft_write.specs.declared.Written.{Written}
use Rattle.qaft_write.proofs.write_frame.Goals as goal
use Rattle.qaft_write.proofs.write_frame.Goals.{In_default, In-Some}

-- the check's two places, and how many of them are lent
check_lent : (kind : ℕ) (d c : List ℕ) (n : ℕ) → c ≡ check_pair kind d → n ≡ check_size kind → take n c ≡ (check_by kind).octets d
check_lent kind d c n ce ne = ap₂ (λ (n : ℕ) (c : List ℕ). take n c) ne ce ∙ pair_front kind d

unfit : (c : In_default)
    → (◌≡◌ {A = Written} (record { number = out_too_small; length = 0 }) (write_frame c.args.level c.args.check_kind c.args.at_flag c.args.data.now c.args.out.now).answer) × (c.write.new.out ≡ (write_frame c.args.level c.args.check_kind c.args.at_flag c.args.data.now c.args.out.now).buffer)
unfit c =
    let w = c.in_default.ensures in
    write-unfit _ _ _ _ _ c.if-level-gt-MAX_LEVEL.false c.if-check_kind-gt-MAX_KIND.false c.if-data-eq0.false c.if-data-gt-MAX_DATA.false _ c.escapes-e.ensures _
    (check_lent _ _ _ _ c.check_octets-check.ensures c.check_size-size.ensures) _ _ w.value w.out_after refl

fit : (c : In-Some)
    → (◌≡◌ {A = Written} (record { number = done; length = c.in-Some.written }) (write_frame c.args.level c.args.check_kind c.args.at_flag c.args.data.now c.args.out.now).answer) × (c.write.new.out ≡ (write_frame c.args.level c.args.check_kind c.args.at_flag c.args.data.now c.args.out.now).buffer)
fit c =
    let w = c.in-Some.ensures in
    write-fit _ _ _ _ _ c.if-level-gt-MAX_LEVEL.false c.if-check_kind-gt-MAX_KIND.false c.if-data-eq0.false c.if-data-gt-MAX_DATA.false _ c.escapes-e.ensures _
    (check_lent _ _ _ _ c.check_octets-check.ensures c.check_size-size.ensures) _ _ w.value w.out_after (frame_written _ _ _ _ _ w.value w.variant)

pub returns-in_default-clause-value : goal.returns-in_default-clause-value
returns-in_default-clause-value c = (unfit (goal.at.returns-in_default-clause-value c).In_default).0

pub returns-in_default-clause-out_after : goal.returns-in_default-clause-out_after
returns-in_default-clause-out_after c = (unfit (goal.at.returns-in_default-clause-out_after c).In_default).1

pub returns-clause-value : goal.returns-clause-value
returns-clause-value c = (fit (goal.at.returns-clause-value c).In-Some).0

pub returns-clause-out_after : goal.returns-clause-out_after
returns-clause-out_after c = (fit (goal.at.returns-clause-out_after c).In-Some).1
