-- `afp_read::checked`: the first list in which a refusal applies decides.
use Rattle.std.proofs.Common.{sym, ◌∙◌}
use Rattle.afp.specs.Refused.{number_of}
use Rattle.afp.proofs.Refused.{refusal_numbered, handed_on}
use Rattle.afp_read.proofs.Answers.{envelope_fits, fixed_fits, end_fits, refused_envelope, refused_fixed, station_first, rest_first, none_first}
use Rattle.afp_read.proofs.checked.Goals as goal

pub returns-in_err-envelope_refusal-clause-first : goal.returns-in_err-envelope_refusal-clause-first
returns-in_err-envelope_refusal-clause-first c =
    let e = c.in_err-envelope_refusal.field-0.0 in
    handed_on c.from_residual.result e c.from_residual.ensures.1
    ∙ sym (refused_envelope (λ n. n) 0 c.args.frame.now (number_of e) c.in_err-envelope_refusal.ensures (refusal_numbered e))

pub fixed_refusal-requires : goal.fixed_refusal-requires
fixed_refusal-requires c = envelope_fits c.args.frame.now c.in_ok-envelope_refusal.ensures

pub returns-in_err-fixed_refusal-clause-first : goal.returns-in_err-fixed_refusal-clause-first
returns-in_err-fixed_refusal-clause-first c =
    let e = c.in_err-fixed_refusal.field-0.0 in
    handed_on c.from_residual-in_err-fixed_refusal.result e c.from_residual-in_err-fixed_refusal.ensures.1
    ∙ sym (refused_fixed (λ n. n) 0 c.args.frame.now c.in_ok-envelope_refusal.ensures (number_of e) c.in_err-fixed_refusal.ensures (refusal_numbered e))

pub stations_in-parsed-requires : goal.stations_in-parsed-requires
stations_in-parsed-requires c = let f = c.args.frame.now in fixed_fits f (envelope_fits f c.in_ok-envelope_refusal.ensures) c.in_ok-fixed_refusal.ensures

pub station_refusal-requires : goal.station_refusal-requires
station_refusal-requires c = envelope_fits c.args.frame.now c.in_ok-envelope_refusal.ensures

pub returns-in_err-station_refusal-clause-first : goal.returns-in_err-station_refusal-clause-first
returns-in_err-station_refusal-clause-first c =
    let e = c.in_err-station_refusal.field-0.0 in
    handed_on c.from_residual-in_err-station_refusal.result e c.from_residual-in_err-station_refusal.ensures.1
    ∙ station_first c.args.frame.now c.in_ok-envelope_refusal.ensures c.in_ok-fixed_refusal.ensures c.stations_in-parsed.result c.stations_in-parsed.ensures
    (number_of e) c.in_err-station_refusal.ensures (refusal_numbered e)

pub rest_refusal-requires : goal.rest_refusal-requires
rest_refusal-requires c =
    end_fits c.args.frame.now c.in_ok-envelope_refusal.ensures c.in_ok-fixed_refusal.ensures c.stations_in-parsed.result c.stations_in-parsed.ensures

pub returns-in_err-rest_refusal-clause-first : goal.returns-in_err-rest_refusal-clause-first
returns-in_err-rest_refusal-clause-first c =
    let e = c.in_err-rest_refusal.field-0.0 in
    handed_on c.from_residual-in_err-rest_refusal.result e c.from_residual-in_err-rest_refusal.ensures.1
    ∙ rest_first c.args.frame.now c.in_ok-envelope_refusal.ensures c.in_ok-fixed_refusal.ensures c.stations_in-parsed.result c.stations_in-parsed.ensures
    c.in_ok-station_refusal.ensures (number_of e) c.in_err-rest_refusal.ensures (refusal_numbered e)

pub returns-clause-first : goal.returns-clause-first
returns-clause-first c =
    none_first c.args.frame.now c.in_ok-envelope_refusal.ensures c.in_ok-fixed_refusal.ensures c.stations_in-parsed.result c.stations_in-parsed.ensures
    c.in_ok-station_refusal.ensures c.in_ok-rest_refusal.ensures

pub returns-clause-fits : goal.returns-clause-fits
returns-clause-fits c =
    let f = end_fits c.args.frame.now c.in_ok-envelope_refusal.ensures c.in_ok-fixed_refusal.ensures c.stations_in-parsed.result c.stations_in-parsed.ensures in
    (c.stations_in-parsed.ensures, f.0, f.1)
