-- Reports and packets counted report by report, as the code goes. Assumes nothing.
use Prim.Native.Nat.{ℕ}
use mathlib.Core.Bool.{Bool}
use mathlib.Core.Path.{◌≡◌, ap, ◌∙◌}
use lib.Dec.{eqb}
use Rattle.dlc_packet.specs.Packet.{kind_of}
use Rattle.dlc_packet.specs.declared.Kind.{Kind}
use Rattle.framing.specs.Reports.{Reported}
use Rattle.qaft.specs.Answers.{frame, aborted, long, short, bad_check, bad_pair}
use Rattle.qaft_report.specs.Answer.{report_number}
use Rattle.qaft_report.specs.declared.Report.{Report}
use Rattle.sheet_found.specs.Found.{more, found_with}
use Rattle.sheet_found.specs.declared.Found.{Found}
use Rattle.sheet_rules.specs.Counts.{is_data, is_dack, is_numbered, number_after}

-- n is the report's number, k the kind of the packet that its octets are
module _ (f : Found) (r : Reported Report) (n : ℕ) (k : Kind) (ne : n ≡ report_number r.report) (ke : k ≡ kind_of r.octets) where
  -- one more where the number is i
  kinded : (i c m : ℕ) → m ≡ more (eqb n i) c → m ≡ more (eqb (report_number r.report) i) c
  kinded i c m e = e ∙ ap (λ (n : ℕ). more (eqb n i) c) ne

  -- one more where the packet is so
  packet : (is : Kind → Bool) (c m : ℕ) (b : Bool) → b ≡ is k → m ≡ more b c → m ≡ more (is (kind_of r.octets)) c
  packet is c m b be e = e ∙ ap (λ (b : Bool). more b c) (be ∙ ap is ke)

  pub with_made : (g : Found)
      → g.frames ≡ more (eqb n frame) f.frames
      → g.aborted ≡ more (eqb n aborted) f.aborted
      → g.long ≡ more (eqb n long) f.long
      → g.short ≡ more (eqb n short) f.short
      → g.bad_checks ≡ more (eqb n bad_check) f.bad_checks
      → g.bad_pairs ≡ more (eqb n bad_pair) f.bad_pairs
      → (b : Bool) → b ≡ is_data k → g.data_packets ≡ more b f.data_packets
      → (c : Bool) → c ≡ is_dack k → g.dack_packets ≡ more c f.dack_packets
      → (d : Bool) → d ≡ is_numbered f.last k → g.repeats ≡ more d f.repeats
      → g.last ≡ number_after f.last k
      → g ≡ found_with f r
  unfolding found_with
  with_made g e₁ e₂ e₃ e₄ e₅ e₆ b be e₇ c ce e₈ d de e₉ e₁₀ = λ i. record {
    frames = kinded frame f.frames g.frames e₁ i;
    aborted = kinded aborted f.aborted g.aborted e₂ i;
    long = kinded long f.long g.long e₃ i;
    short = kinded short f.short g.short e₄ i;
    bad_checks = kinded bad_check f.bad_checks g.bad_checks e₅ i;
    bad_pairs = kinded bad_pair f.bad_pairs g.bad_pairs e₆ i;
    data_packets = packet is_data f.data_packets g.data_packets b be e₇ i;
    dack_packets = packet is_dack f.dack_packets g.dack_packets c ce e₈ i;
    repeats = packet (is_numbered f.last) f.repeats g.repeats d de e₉ i;
    last = (e₁₀ ∙ ap (number_after f.last) ke) i;
  }
