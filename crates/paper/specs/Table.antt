-- The cases that document 01 marks [P], worked on paper, and 2026-07's, as one table over the definitions that the contracts cite. Assumes nothing.
use Rattle.std.specs.Prelude.{ℕ, zero, suc, ◌+◌, ◌*◌, ◌/◌, ◌%◌, ◌^◌, ◌≡◌, false, List, [], ◌∷◌, ◌++◌, replicate}
use Rattle.framing.specs.Reports.{reports_of}
use Rattle.dlc_packet.specs.Numbers.{edition1}
use Rattle.dlc_packet.specs.Packet.{dack_packet}
use Rattle.dlc_table.specs.declared.State.TheVariants.{Data, Wait}
use Rattle.dlc_table.specs.Answers.{done, no_entry}
use Rattle.dlc_table.specs.Model.{Model, rebuilt, opened}
use Rattle.dlc_table.specs.Events.{Effect, effect, refuse, arrival_of}
use Rattle.dlc_queue.specs.Queue.{slots, reply_size}
use Rattle.sums.specs.Sum.{sum_from}
use Rattle.afp_write.specs.Frame.{frame_of}
use Rattle.qaft.specs.Escape.{flag}
use Rattle.qaft.specs.Frame.{frame}
use Rattle.fcs.specs.Fcs.{check_sequence}
use Rattle.qaft.specs.Limits.{sum_kind, fcs_kind, max_segment_of}
use Rattle.qaft.specs.Answers as answers
use Rattle.qaft_read.specs.State.{fresh}
use Rattle.qaft_read.specs.Read.{read}
use Rattle.qaft_report.specs.Answer.{number, data_length, shown}
use Rattle.qaft_rules.specs.Rules.{rules}
use Rattle.qaft_report.specs.declared.Report.{Report}
use Rattle.qaft_report.specs.declared.Report.TheVariants.{Aborted, Short, BadCheck}

-- a row of the table
pub data Case : Type 0 where
  -- a frame, written and read: level, check kind, data, the octets on a line that does not stand at a flag
  frames : (level kind : ℕ) (d l : List ℕ) → Case
  -- a frame with the check sequence, and the reversal of the sixteen bits of that, which 000 calls the actual CRC
  crc : (d l : List ℕ) (actual : ℕ) → Case
  -- a stretch between two flags, its report, and the number that the reader gives
  reports : (s : List ℕ) → Report → (n : ℕ) → Case
  -- DLC: a link to which a packet comes, with a reply buffer that is just large enough, and what the event does
  arrives : (m : Model) (packet : List ℕ) → Effect → Case
  -- AFP: octets and their sum
  sums : (xs : List ℕ) (s : ℕ) → Case
  -- AFP: protocol, station fields, next ID's number, supplementary header; the header of a frame with no data, check octets behind it
  heads : (p : ℕ) (s : List ℕ) (n : ℕ) (h header check : List ℕ) → Case

-- what a fresh reader of a level and a check kind makes of a line that comes as one chunk: the number given back, and the data shown
abbrev pub Reads : (level kind : ℕ) (l : List ℕ) (n : ℕ) (d : List ℕ) → Type 0
Reads level kind l n d =
    let k = read (fresh level kind) l (replicate (max_segment_of kind) 0) in
    (number k.answer.outcome ≡ n) × (shown k.buffer (data_length k.answer.outcome) ≡ d)

-- a stretch s between two flags
abbrev pub between : List ℕ → List ℕ
between s = flag ∷ s ++ (flag ∷ [])

-- the reversal of the k lowest bits of n
unfoldable pub reversed : (k n : ℕ) → ℕ
reversed zero n = 0
reversed (suc k) n = n % 2 * 2 ^ k + reversed k (n / 2)

-- what a row claims
abbrev pub Holds : Case → Type 0
Holds (frames level kind d l) = (frame level kind false d ≡ l) × Reads level kind l answers.frame d
Holds (crc d l actual) = (frame 0 fcs_kind false d ≡ l) × Reads 0 fcs_kind l answers.frame d × (reversed 16 (check_sequence d) ≡ actual)
Holds (reports s p n) = (reports_of (rules 0 sum_kind) (between s) ≡ record { report = p; octets = [] } ∷ []) × Reads 0 sum_kind (between s) n []
Holds (arrives m packet e) = arrival_of slots m packet reply_size ≡ e
Holds (sums xs s) = sum_from 0 xs ≡ s
Holds (heads p s n h header check) = frame_of p s n h [] ≡ header ++ check

-- every row of a list holds
abbrev pub Each : List Case → Type 0
Each [] = Unit
Each (k ∷ ks) = Holds k × Each ks

-- "DLDWAIT, numbers 14 and 15 queued", in edition 1, which is the paper's
abbrev pub waiting : Model
waiting = rebuilt (opened edition1) Wait ((1 ∷ []) ∷ (2 ∷ []) ∷ []) 14 0

-- the same link with its queue emptied
abbrev pub emptied : Model
emptied = rebuilt waiting Data [] 0 0

-- "Worked on paper", in the paper's order
unfoldable pub table : List Case
table =
    frames 0 sum_kind (0x41 ∷ []) (0x7E ∷ 0x41 ∷ 0xBF ∷ 0x7E ∷ [])
    ∷ frames 0 sum_kind (0x7E ∷ []) (0x7E ∷ 0x7D ∷ 0x5E ∷ 0x82 ∷ 0x7E ∷ [])
    ∷ frames 0 sum_kind (0x82 ∷ []) (0x7E ∷ 0x82 ∷ 0x7D ∷ 0x5E ∷ 0x7E ∷ [])
    ∷ frames 0 sum_kind (0x00 ∷ []) (0x7E ∷ 0x00 ∷ 0x00 ∷ 0x7E ∷ [])
    ∷ frames 0 sum_kind (0x11 ∷ []) (0x7E ∷ 0x11 ∷ 0xEF ∷ 0x7E ∷ [])
    ∷ frames 1 sum_kind (0x11 ∷ []) (0x7E ∷ 0x7D ∷ 0x31 ∷ 0xEF ∷ 0x7E ∷ [])
    ∷ frames 1 sum_kind (0xED ∷ []) (0x7E ∷ 0xED ∷ 0x7D ∷ 0x33 ∷ 0x7E ∷ [])
    ∷ reports (0x10 ∷ 0x7D ∷ []) Aborted 11
    ∷ reports (0x00 ∷ []) Short 13
    ∷ reports (0x41 ∷ 0xBE ∷ []) BadCheck 14
    ∷ arrives waiting (dack_packet 0) (effect done [] emptied)
    ∷ arrives waiting (dack_packet 1) (refuse waiting no_entry)
    ∷ sums (0x04 ∷ 0x41 ∷ 0x42 ∷ 0x31 ∷ 0x43 ∷ []) 0xFB
    ∷ heads 0xF0 (0x04 ∷ 0x41 ∷ 0x42 ∷ 0x31 ∷ 0x43 ∷ 0x00 ∷ []) 0 []
    (0xFF ∷ 0x01 ∷ 0xF0 ∷ 0x0C ∷ 0x00 ∷ 0x04 ∷ 0x41 ∷ 0x42 ∷ 0x31 ∷ 0x43 ∷ 0x00 ∷ 0xF9 ∷ [])
    (0x85 ∷ 0xDA ∷ [])
    -- 000's example, "hicrc=0x73 lowcrc=0x88, the actual CRC is 0x11CE": "the reversal of all sixteen bits of 7388, with 88 first on the line" (2026-07)
    ∷ crc (0x21 ∷ 0x04 ∷ []) (0x7E ∷ 0x21 ∷ 0x04 ∷ 0x88 ∷ 0x73 ∷ 0x7E ∷ []) 0x11CE
    ∷ []
