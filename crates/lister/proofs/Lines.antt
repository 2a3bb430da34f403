-- The line of a report fits where there is room for every line, and is what `put_report` puts. A call of `list` that is not refused. Assumes nothing.
use Rattle.std.proofs.Common.{◌≡◌, ℕ, ◌+◌, ◌-◌, ◌≤◌, Bool, true, false, List, length, take, drop, sym, ap, ◌∙◌, ap₂, arith, length-drop, length-take, length-take-le, le-ltb}
use lib.Seq.{sets}
use Rattle.capture.specs.Octets.{count_all}
use Rattle.capture.specs.declared.Octets.{Octets}
use Rattle.common.proofs.Refusals.{guarded_both}
use Rattle.counter.specs.Counted.{next}
use Rattle.deframer.specs.Scan.{view}
use Rattle.framing.proofs.Shown.{shown_part, shown_short}
use Rattle.framing.specs.Reports.{shown}
use Rattle.framing.specs.Step.{step}
use Rattle.line.proofs.Gather.{gather_partly}
use Rattle.line.specs.Texts.{has_room, with_text}
use Rattle.lister.specs.Answer.{Listed}
use Rattle.lister.specs.Entries.{flag_of, data_from, entry_length, source_rules, line_of, counted}
use Rattle.lister.specs.Lines.{most_octets, gathered, progress_of, later, Call, call_of, refusal, refusals, list}
use Rattle.lister.specs.declared.Lister.{Lister}
use Rattle.lister.specs.declared.Progress.{Progress}
use Rattle.listing.proofs.Line.{length-report_line}
use Rattle.listing.specs.Line.{report_line, line_room, max_line}
use Rattle.listing.specs.declared.Entry.{Entry}
use Rattle.qaft.specs.Answers.{done}
use Rattle.qaft.specs.Limits.{max_level, max_data, max_segment}
use Rattle.text.proofs.Room.{text_room}
use Rattle.text.specs.Room.{text_into, text_end}

-- no line is longer than the longest
pub line_fits : (kiss : Bool) (k : ℕ) (p : Entry) (m : List ℕ) → entry_length p ≤ max_data → length (line_of kiss k p m) ≤ max_line
line_fits kiss k p m h = let d = shown m (data_from kiss) (entry_length p) in omega (arith, length-report_line (next k) p d, shown_short m (data_from kiss) (entry_length p))

-- where the octets of a frame begin
pub from_small : (kiss : Bool) → data_from kiss ≤ 1
from_small true = omega arith
from_small false = omega arith

-- the part of the buffer that is handed over
pub part_shown : (m : List ℕ) (i n : ℕ) → i + n ≤ length m → take (i + n - i) (drop i m) ≡ shown m i n
part_shown m i n h = let e : i + n - i ≡ n = omega arith in ap (λ (k : ℕ). take k (drop i m)) e ∙ sym (shown_part m i n h)

-- as the code goes: f and n are where the octets begin and how many they are, d the octets, k' the number; r and out': what was put
module _ (kiss : Bool) (k : ℕ) (p : Entry) (m out : List ℕ) (at : ℕ) (few : entry_length p ≤ max_data) (segment : max_segment ≤ length m) (room : at + max_line ≤ length out)
    (f n : ℕ) (fe : f ≡ data_from kiss) (ne : n ≡ entry_length p) (k' : ℕ) (ke : k' ≡ next k) (r : ℕ) (out' : List ℕ) where
  abbrev octets : List ℕ
  octets = take (f + n - f) (drop f m)

  octets_are : octets ≡ shown m (data_from kiss) (entry_length p)
  octets_are = ap₂ (λ (i n : ℕ). take (i + n - i) (drop i m)) fe ne ∙ part_shown m (data_from kiss) (entry_length p) (omega (arith, from_small kiss))

  line_is : report_line k' p octets ≡ line_of kiss k p m
  line_is = ap₂ (λ (k : ℕ) (d : List ℕ). report_line k p d) ke octets_are

  fits : at + line_room (length octets) ≤ length out
  fits = omega (arith, room, few, ap length octets_are, shown_short m (data_from kiss) (entry_length p))

  pub put_line : r ≡ text_end (line_room (length octets)) (report_line k' p octets) (length out) at → out' ≡ text_into (line_room (length octets)) (report_line k' p octets) out at
      → (r ≡ at + length (line_of kiss k p m)) × (out' ≡ sets out at (line_of kiss k p m))
  put_line e d =
      let t = text_room (line_room (length octets)) (report_line k' p octets) out at fits in
      (e ∙ t.0 ∙ ap (λ (l : List ℕ). at + length l) line_is, d ∙ t.1 ∙ ap (sets out at) line_is)

-- ---- a call of `list` that is not refused
module _ (l : Lister) (xs m out : List ℕ) where
  module _ (h : l.level ≤ max_level) where
    module _ (k : max_line ≤ length out) where
      pub list_gathered : max_segment ≤ length m → list l xs m out ≡ call_of l xs (gathered l xs m out)
      unfolding list refusals
      list_gathered r = simp (le-ltb _ _ h, le-ltb _ _ k, le-ltb _ _ r)

      -- as the code goes: p is what the loop came to, f the flag, n the counts with the octets taken; b and o: the buffers after it
      module _ (s : max_segment ≤ length m) (p : Progress) (b o : List ℕ) (pe : p ≡ progress_of (gathered l xs m out)) (be : b ≡ (gathered l xs m out).buffer) (oe : o ≡ (gathered l xs m out).made.out)
          (f : ℕ) (fe : f ≡ flag_of l.kiss) (n : Octets) (ne : n ≡ count_all most_octets f l.counts (take p.taken xs)) where
        abbrev made : Listed
        made = record { number = done; taken = p.taken; length = p.behind; lister = record { kiss = l.kiss; level = l.level; state = p.state; reports = p.reports; counts = n } }

        made_is : made ≡ (call_of l xs (gathered l xs m out)).answer
        unfolding call_of
        made_is =
            ap (λ (n : Octets). record { number = done; taken = p.taken; length = p.behind; lister = record { kiss = l.kiss; level = l.level; state = p.state; reports = p.reports; counts = n } })
            (ne ∙ ap (λ (f : ℕ). count_all most_octets f l.counts (take p.taken xs)) fe)
            ∙ ap (λ (p : Progress). record { number = done; taken = p.taken; length = p.behind; lister = later l p xs }) pe

        pub list-made : (made ≡ (list l xs m out).answer) × (b ≡ (list l xs m out).buffer) × (o ≡ (list l xs m out).out)
        unfolding call_of
        list-made =
            let e = sym (list_gathered s) in
            (made_is ∙ ap (λ (k : Call). k.answer) e, be ∙ ap (λ (k : Call). k.buffer) e, oe ∙ ap (λ (k : Call). k.out) e)

-- no more octets are taken than the chunk has
gathered_taken : (l : Lister) (xs m out : List ℕ) → (gathered l xs m out).taken ≤ length xs
gathered_taken l xs m out =
    (gather_partly (with_text (line_of l.kiss) counted) (has_room max_line) (step (source_rules l.kiss l.level)) xs (view l.state) m (record { tally = l.reports; out = out; behind = 0 })).within

pub taken_part : (l : Lister) (xs m out : List ℕ) (p : Progress) → p ≡ progress_of (gathered l xs m out) → p.taken ≡ length (take p.taken xs)
taken_part l xs m out p e = sym (length-take-le p.taken xs (omega (arith, ap (λ (p : Progress). p.taken) e, gathered_taken l xs m out)))

list_taken : (l : Lister) (xs m out : List ℕ) → (list l xs m out).answer.taken ≤ length xs
unfolding list refusal call_of
list_taken l xs m out =
    guarded_both (λ (k : Call) (_ : ℕ). k.answer.taken ≤ length xs) (refusals l (length m) (length out)) (refusal l m out) (λ n. n) _ 0 (λ _. omega arith) (gathered_taken l xs m out)

-- nor more than is left of a chunk that is handed over from its octet i on
pub list_taken_rest : (l : Lister) (xs m out : List ℕ) (i : ℕ) (a : Listed) → i ≤ length xs → a ≡ (list l (take (length xs - i) (drop i xs)) m out).answer → i + a.taken ≤ length xs
list_taken_rest l xs m out i a h e =
    let k : a.taken ≡ (list l (take (length xs - i) (drop i xs)) m out).answer.taken = ap (λ (a : Listed). a.taken) e in
    omega (arith, k, list_taken l (take (length xs - i) (drop i xs)) m out, length-take (length xs - i) (drop i xs), length-drop i xs)
