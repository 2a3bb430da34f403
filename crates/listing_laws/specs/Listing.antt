-- The text of a whole listing, from the paper's sentences over the whole capture, with no state. Cited by the theorem. Assumes nothing.
--
--   text_of k p                  the line of report number k
--   lines_from k ps              the lines of reports that are numbered from k + 1 on
--   listing_of kiss level l      the listing of the capture l, of KISS or of QAFT at a level
use Rattle.std.specs.Prelude.{ℕ, suc, Bool, true, false, cond, List, [], ◌∷◌, ◌++◌, length}
use Rattle.capture.specs.Whole.{before, after}
use Rattle.framing.specs.Reports.{Reported, reports_of}
use Rattle.kiss.specs.Octets as kiss
use Rattle.kiss_rules.specs.Rules as kiss_rules
use Rattle.lister.specs.Entries.{entry_of_qaft, entry_of_kiss}
use Rattle.listing.specs.Line.{report_line}
use Rattle.listing.specs.declared.Entry.{Entry}
use Rattle.listing_ends.specs.Ends.{heading, end_line}
use Rattle.qaft.specs.Escape as qaft
use Rattle.qaft.specs.Limits.{sum_kind}
use Rattle.qaft_rules.specs.Rules as qaft_rules

module _ {R : Type 0} (entry : R → Entry) where
  -- "1 frame 2 4041": a frame's line has the number of its data octets and the octets
  unfoldable pub text_of : (k : ℕ) → Reported R → List ℕ
  text_of k p = report_line k (entry p.report) p.octets

  unfoldable pub lines_from : (k : ℕ) → List (Reported R) → List ℕ
  lines_from k [] = []
  lines_from k (p ∷ ps) = text_of (suc k) p ++ lines_from (suc k) ps

  -- a line for each report, and the last line, for the capture l of a line with this flag
  abbrev pub lines_of : (flag : ℕ) → List (Reported R) → (l : List ℕ) → List ℕ
  lines_of flag ps l = lines_from 0 ps ++ end_line (length ps) (before flag l) (after flag l)

-- heading, a line for each report, the last line
unfoldable pub qaft_listing : (level : ℕ) (l : List ℕ) → List ℕ
qaft_listing level l = heading false level ++ lines_of entry_of_qaft qaft.flag (reports_of (qaft_rules.rules level sum_kind) l) l

unfoldable pub kiss_listing : (l : List ℕ) → List ℕ
kiss_listing l = heading true 0 ++ lines_of entry_of_kiss kiss.flag (reports_of kiss_rules.rules l) l

abbrev pub listing_of : (kiss : Bool) (level : ℕ) (l : List ℕ) → List ℕ
listing_of kiss level l = cond kiss (kiss_listing l) (qaft_listing level l)
