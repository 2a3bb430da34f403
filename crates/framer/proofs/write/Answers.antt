-- The frame where it fits, nothing where it does not.
use Rattle.framer.proofs.Written.{written_put, written_not}
use Rattle.framer.proofs.write.Goals as goal

pub returns-then-fits : goal.returns-then-fits
returns-then-fits c =
    let both = written_put _ _ _ c.fits.ensures c.if-fits.true _ _ c.put.ensures.value c.put.ensures.out_after in
    record { value = both.0; variant = c.if-fits.ensures; out_after = both.1 }

pub returns : goal.returns
returns c =
    let both = written_not _ _ _ c.fits.ensures c.if-fits.false in
    record { value = both.0; variant = c.if-fits.ensures; out_after = both.1 }
