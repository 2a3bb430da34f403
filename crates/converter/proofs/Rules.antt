-- The rules by which a capture is read obey what framing asks, and are those of the rule that is handed to the shared loop. Assumes nothing.
use Rattle.std.proofs.Common.{◌≡◌, ℕ, ◌≤◌, Bool, true, false, refl, ◌∙◌, arith}
use Rattle.converter.specs.Gist.{gist_of_qaft, gist_of_kiss, gist_length, source_rules, rule_of}
use Rattle.converter.specs.declared.Gist.{Gist}
use Rattle.converter.specs.declared.Gist.TheVariants.{Frame, Skipped, Other}
use Rattle.deframer.specs.Rule.{rules_of}
use Rattle.framing.proofs.Told.{told_closing, told_lawful}
use Rattle.framing.specs.Closing.{closing}
use Rattle.framing.specs.Lawful.{Lawful}
use Rattle.kiss.specs.Limits.{type_size}
use Rattle.kiss_laws.proofs.Rules as kiss_laws
use Rattle.kiss_read.proofs.SharedRule as kiss_reader
use Rattle.kiss_report.specs.Answer as kiss_answer
use Rattle.kiss_report.specs.declared.Report as kiss_reports
use Rattle.kiss_report.specs.declared.Report.TheVariants as kiss_report
use Rattle.kiss_rules.specs.Rules as kiss_rules
use Rattle.qaft.specs.Limits.{sum_kind, max_data}
use Rattle.qaft_laws.proofs.Rules as qaft_laws
use Rattle.qaft_read.proofs.SharedRule as qaft_reader
use Rattle.qaft_report.specs.Answer as qaft_answer
use Rattle.qaft_report.specs.declared.Report as qaft_reports
use Rattle.qaft_report.specs.declared.Report.TheVariants as qaft_report
use Rattle.qaft_rules.specs.Rules as qaft_rules

-- a gist shows as many octets as its report
pub qaft-length : (p : qaft_reports.Report) → gist_length (gist_of_qaft p) ≡ qaft_answer.report_length p
qaft-length (qaft_report.Frame n) = refl
qaft-length qaft_report.Aborted = refl
qaft-length qaft_report.Long = refl
qaft-length qaft_report.Short = refl
qaft-length qaft_report.BadCheck = refl
qaft-length qaft_report.BadPair = refl

pub kiss-length : (p : kiss_reports.Report) → gist_length (gist_of_kiss p) ≡ kiss_answer.report_length p
kiss-length (kiss_report.Frame n) = refl
kiss-length kiss_report.BadEscape = refl
kiss-length kiss_report.Short = refl
kiss-length kiss_report.Long = refl
kiss-length kiss_report.Skipped = refl

pub lawful : (to_kiss : Bool) (level : ℕ) → Lawful (source_rules to_kiss level)
lawful true level = told_lawful (qaft_rules.rules level sum_kind) gist_of_qaft 0 gist_length (qaft_laws.lawful level sum_kind) (λ p. refl) qaft-length
lawful false level = told_lawful kiss_rules.rules gist_of_kiss type_size gist_length kiss_laws.lawful (λ p. refl) kiss-length

-- the rule of the shared loop
pub rule_rules : (to_kiss : Bool) (level : ℕ) → rules_of (rule_of to_kiss level) ≡ closing (source_rules to_kiss level)
rule_rules true level = qaft_reader.rule_rules level sum_kind ∙ told_closing (qaft_rules.rules level sum_kind) gist_of_qaft 0 gist_length
rule_rules false level = kiss_reader.rule_rules ∙ told_closing kiss_rules.rules gist_of_kiss type_size gist_length

-- ---- a frame has 1 to 2,560 octets
abbrev pub Within : Gist → Type 0
Within (Frame n) = (1 ≤ n) × (n ≤ max_data)
Within Skipped = Unit
Within Other = Unit

qaft_bare : (p : qaft_reports.Report) → qaft_laws.NoFrame p → Within (gist_of_qaft p)
qaft_bare (qaft_report.Frame n) h = absurd h
qaft_bare qaft_report.Aborted h = tt
qaft_bare qaft_report.Long h = tt
qaft_bare qaft_report.Short h = tt
qaft_bare qaft_report.BadCheck h = tt
qaft_bare qaft_report.BadPair h = tt

kiss_bare : (p : kiss_reports.Report) → kiss_laws.NoFrame p → Within (gist_of_kiss p)
kiss_bare (kiss_report.Frame n) h = absurd h
kiss_bare kiss_report.BadEscape h = tt
kiss_bare kiss_report.Short h = tt
kiss_bare kiss_report.Long h = tt
kiss_bare kiss_report.Skipped h = tt

pub verdict_within : (to_kiss : Bool) (level : ℕ) (d b : Bool) (n a : ℕ) → Within ((source_rules to_kiss level).verdict d b n a)
verdict_within true level d b n a = qaft_laws.verdict_ind sum_kind (λ (p : qaft_reports.Report). Within (gist_of_qaft p)) d b n a qaft_bare (λ s k. (omega arith, omega arith))
verdict_within false level d b n a = kiss_laws.verdict_ind (λ (p : kiss_reports.Report). Within (gist_of_kiss p)) d b n a kiss_bare (λ s k. (omega arith, omega arith))
