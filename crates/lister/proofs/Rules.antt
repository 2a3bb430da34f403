-- The rules by which a capture is listed obey what framing asks, and are those of the rule that is handed to the shared loop. Assumes nothing.
use Rattle.std.proofs.Common.{◌≡◌, ℕ, ◌≤◌, Bool, true, false, refl, ◌∙◌, arith}
use Rattle.deframer.specs.Rule.{rules_of}
use Rattle.framing.proofs.Told.{told_closing, told_lawful}
use Rattle.framing.specs.Closing.{closing}
use Rattle.framing.specs.Lawful.{Lawful}
use Rattle.kiss.specs.Limits.{type_size}
use Rattle.kiss_laws.proofs.Rules as kiss_laws
use Rattle.kiss_read.proofs.SharedRule as kiss_reader
use Rattle.kiss_report.specs.Answer as kiss_answer
use Rattle.kiss_report.specs.declared.Report as kiss_reports
use Rattle.kiss_report.specs.declared.Report.TheVariants as kiss_report
use Rattle.kiss_rules.specs.Rules as kiss_rules
use Rattle.lister.specs.Entries.{entry_of_qaft, entry_of_kiss, entry_length, source_rules, rule_of}
use Rattle.listing.specs.declared.Entry.{Entry}
use Rattle.listing.specs.declared.Entry.TheVariants.{Frame, Aborted, Long, Short, BadCheck, BadPair, BadEscape, Skipped}
use Rattle.qaft.specs.Limits.{sum_kind, max_data, max_segment}
use Rattle.qaft_laws.proofs.Rules as qaft_laws
use Rattle.qaft_read.proofs.SharedRule as qaft_reader
use Rattle.qaft_report.specs.Answer as qaft_answer
use Rattle.qaft_report.specs.declared.Report as qaft_reports
use Rattle.qaft_report.specs.declared.Report.TheVariants as qaft_report
use Rattle.qaft_rules.specs.Rules as qaft_rules

-- an entry shows as many octets as its report
pub qaft-length : (p : qaft_reports.Report) → entry_length (entry_of_qaft p) ≡ qaft_answer.report_length p
qaft-length (qaft_report.Frame n) = refl
qaft-length qaft_report.Aborted = refl
qaft-length qaft_report.Long = refl
qaft-length qaft_report.Short = refl
qaft-length qaft_report.BadCheck = refl
qaft-length qaft_report.BadPair = refl

pub kiss-length : (p : kiss_reports.Report) → entry_length (entry_of_kiss p) ≡ kiss_answer.report_length p
kiss-length (kiss_report.Frame n) = refl
kiss-length kiss_report.BadEscape = refl
kiss-length kiss_report.Short = refl
kiss-length kiss_report.Long = refl
kiss-length kiss_report.Skipped = refl

pub lawful : (kiss : Bool) (level : ℕ) → Lawful (source_rules kiss level)
lawful true level = told_lawful kiss_rules.rules entry_of_kiss type_size entry_length kiss_laws.lawful (λ p. refl) kiss-length
lawful false level = told_lawful (qaft_rules.rules level sum_kind) entry_of_qaft 0 entry_length (qaft_laws.lawful level sum_kind) (λ p. refl) qaft-length

-- the rule of the shared loop
pub rule_rules : (kiss : Bool) (level : ℕ) → rules_of (rule_of kiss level) ≡ closing (source_rules kiss level)
rule_rules true level = kiss_reader.rule_rules ∙ told_closing kiss_rules.rules entry_of_kiss type_size entry_length
rule_rules false level = qaft_reader.rule_rules level sum_kind ∙ told_closing (qaft_rules.rules level sum_kind) entry_of_qaft 0 entry_length

-- both framings store as many octets of a segment
pub cap_is : (kiss : Bool) (level : ℕ) → (rule_of kiss level).cap ≡ max_segment
cap_is true level = refl
cap_is false level = refl

-- an entry that is no frame shows none
pub no_frame : (p : Entry) → ((n : ℕ) → p ≡ Frame n → ⊥) → 0 ≡ entry_length p
no_frame (Frame n) k = absurd (k n refl)
no_frame Aborted k = refl
no_frame Long k = refl
no_frame Short k = refl
no_frame BadCheck k = refl
no_frame BadPair k = refl
no_frame BadEscape k = refl
no_frame Skipped k = refl

-- a frame has no more than 2,560 octets, and no other report shows any
qaft_bare : (p : qaft_reports.Report) → qaft_laws.NoFrame p → entry_length (entry_of_qaft p) ≤ max_data
qaft_bare (qaft_report.Frame n) h = absurd h
qaft_bare qaft_report.Aborted h = omega arith
qaft_bare qaft_report.Long h = omega arith
qaft_bare qaft_report.Short h = omega arith
qaft_bare qaft_report.BadCheck h = omega arith
qaft_bare qaft_report.BadPair h = omega arith

kiss_bare : (p : kiss_reports.Report) → kiss_laws.NoFrame p → entry_length (entry_of_kiss p) ≤ max_data
kiss_bare (kiss_report.Frame n) h = absurd h
kiss_bare kiss_report.BadEscape h = omega arith
kiss_bare kiss_report.Short h = omega arith
kiss_bare kiss_report.Long h = omega arith
kiss_bare kiss_report.Skipped h = omega arith

pub verdict_within : (kiss : Bool) (level : ℕ) (d b : Bool) (n a : ℕ) → entry_length ((source_rules kiss level).verdict d b n a) ≤ max_data
verdict_within true level d b n a = kiss_laws.verdict_ind (λ (p : kiss_reports.Report). entry_length (entry_of_kiss p) ≤ max_data) d b n a kiss_bare (λ s k. omega arith)
verdict_within false level d b n a = qaft_laws.verdict_ind sum_kind (λ (p : qaft_reports.Report). entry_length (entry_of_qaft p) ≤ max_data) d b n a qaft_bare (λ s k. omega arith)
