-- A call of the converter on what is left of a capture, over plain variables: what it puts, and what is then left to put. Assumes nothing.
use Prim.Native.Nat.{ℕ, ◌+◌, ◌-◌, ◌^◌, ◌≤◌, ◌<◌}
use mathlib.Core.Bool.{Bool, true, false}
use mathlib.Core.List.{List, [], ◌∷◌, ◌++◌}
use mathlib.Core.Path.{◌≡◌, refl, sym, ap, ◌∙◌, subst}
use native.Mathlib.Omega.{arith}
use borrow.Author.Tests.{le-leb, lt-leb, leb-true, leb-false}
use lib.Dec.{leb}
use lib.ListN.{length, take, drop, length-append, length-drop, drop_of_length-le}
use lib.Seq.{sets, length-take-le, take_all, drop-drop}
use Rattle.common.proofs.Buffer.{sets-++}
use Rattle.conversion_laws.proofs.Calls.{cap_is, texts_short}
use Rattle.conversion_laws.proofs.Theorems.{texts_of_the_capture, tally_of_the_capture}
use Rattle.conversion_laws.specs.Frames.{source_counts, conversion_of}
use Rattle.converter.proofs.Refusals.{convert_gathered, number_done, numbered}
use Rattle.converter.proofs.Rules.{lawful}
use Rattle.converter.specs.Answer.{Converted, refusal_number}
use Rattle.converter.specs.Convert.{fresh_converter, counted, report_text, gathered, Call, call_of, convert}
use Rattle.converter.specs.Gist.{source_rules}
use Rattle.converter.specs.declared.Converter.{Converter}
use Rattle.converter.specs.declared.Refusal.{Refusal}
use Rattle.converter.specs.declared.Tally.{Tally}
use Rattle.deframer.specs.Scan.{view}
use Rattle.framing.proofs.Formed.{Fit, fresh_formed, step_keeps}
use Rattle.framing.specs.Step.{step}
use Rattle.line.proofs.Gather.{gather_takes}
use Rattle.line.proofs.Texts.{call_within, call_then_rest, tally_then_rest, call_takes}
use Rattle.line.specs.Texts.{texts_of, tally_of, with_text, has_room}
use Rattle.line.specs.Trace.{trace, no_event}
use Rattle.qaft.specs.Limits.{max_level, max_segment, max_frame}

-- what is left to put of octets xs, from the converter c on, with the reader's buffer m; the tally in the end
abbrev pub rest_text : Converter → (xs m : List ℕ) → List ℕ
rest_text c xs m = texts_of (report_text c.to_kiss c.level) counted c.tally (trace (step (source_rules c.to_kiss c.level)) (view c.state) xs m).events

abbrev pub rest_tally : Converter → (xs m : List ℕ) → Tally
rest_tally c xs m = tally_of (report_text c.to_kiss c.level) counted c.tally (trace (step (source_rules c.to_kiss c.level)) (view c.state) xs m).events

-- a converter and a buffer that no call refuses
pub record Ready (c : Converter) (m : List ℕ) : Type 0 where
  pub level : c.level ≤ max_level
  pub fit : Fit (source_rules c.to_kiss c.level) (view c.state) m

-- what a call on xs comes to: its answer a, and the two buffers after it
pub record Turned (c : Converter) (xs m scratch : List ℕ) (k : Call) : Type 0 where
  pub texts : rest_text c xs m ≡ take k.answer.length k.out ++ rest_text k.answer.converter (drop k.answer.taken xs) k.buffer
  pub tallies : rest_tally c xs m ≡ rest_tally k.answer.converter (drop k.answer.taken xs) k.buffer
  pub ready : Ready k.answer.converter k.buffer
  pub takes : 0 < length xs → 0 < k.answer.taken
  pub within : k.answer.taken ≤ length xs
  pub long : length k.out ≡ length scratch
  pub few : k.answer.length ≤ length k.out

module _ (c : Converter) (xs m scratch : List ℕ) (r : Ready c m) (room : max_frame ≤ length scratch) where
  abbrev call : Call
  call = call_of c (gathered c xs m scratch)

  takes_some : (ys : List ℕ) → 0 < length ys → 0 < (gathered c ys m scratch).taken
  takes_some [] h = absurd (omega (arith, h))
  takes_some (y ∷ ys) h = gather_takes (with_text (report_text c.to_kiss c.level) counted) (has_room max_frame) (step (source_rules c.to_kiss c.level)) y ys (view c.state) m (record { tally = c.tally; out = scratch; behind = 0 })

  gathered_turned : Turned c xs m scratch call
  unfolding call_of
  gathered_turned =
      let rules = source_rules c.to_kiss c.level in
      let w = call_within (report_text c.to_kiss c.level) counted max_frame (step rules) (Fit rules) (step_keeps rules (lawful c.to_kiss c.level)) (texts_short c.to_kiss c.level) (view c.state) c.tally xs m scratch r.fit room in
      record {
        texts = call_then_rest (report_text c.to_kiss c.level) counted max_frame (step rules) (Fit rules) (step_keeps rules (lawful c.to_kiss c.level)) (texts_short c.to_kiss c.level) (view c.state) c.tally xs m scratch r.fit room;
        tallies = tally_then_rest (report_text c.to_kiss c.level) counted max_frame (step rules) (Fit rules) (step_keeps rules (lawful c.to_kiss c.level)) (texts_short c.to_kiss c.level) (view c.state) c.tally xs m scratch r.fit room;
        ready = record { level = r.level; fit = w.good };
        takes = takes_some xs;
        within = call_takes (report_text c.to_kiss c.level) counted max_frame (step rules) (Fit rules) (step_keeps rules (lawful c.to_kiss c.level)) (texts_short c.to_kiss c.level) (view c.state) c.tally xs m scratch r.fit room;
        long = w.long;
        few = omega (arith, w.within, w.long);
      }

  pub turned : Turned c xs m scratch (convert c xs m scratch)
  turned = subst (Turned c xs m scratch) (sym (convert_gathered c xs m scratch r.level room (omega (arith, cap_is c.to_kiss c.level, r.fit.room)))) gathered_turned

  -- nor is it refused
  pub none_refused : (e : Refusal) → record { number = refusal_number e; taken = 0; length = 0; converter = c } ≡ (convert c xs m scratch).answer → ⊥
  none_refused e q = numbered e (ap (λ (a : Converted). a.number) q ∙ number_done c xs m scratch r.level room (omega (arith, cap_is c.to_kiss c.level, r.fit.room)))

-- ---- at the start and at the end
pub fresh_ready : (to_kiss : Bool) (level : ℕ) (m : List ℕ) → level ≤ max_level → max_segment ≤ length m → Ready (fresh_converter to_kiss level) m
fresh_ready true level m h k = record { level = h; fit = record { room = k; formed = fresh_formed (source_rules true level) (lawful true level) } }
fresh_ready false level m h k = record { level = h; fit = record { room = k; formed = fresh_formed (source_rules false level) (lawful false level) } }

pub fresh_text : (to_kiss : Bool) (level : ℕ) (l m : List ℕ) → max_segment ≤ length m → rest_text (fresh_converter to_kiss level) l m ≡ conversion_of to_kiss level l
fresh_text true level l m k = texts_of_the_capture true level m k l
fresh_text false level l m k = texts_of_the_capture false level m k l

pub fresh_tally_lem : (to_kiss : Bool) (level : ℕ) (l m : List ℕ) → max_segment ≤ length m → length l < 2 ^ 64
    → let t = rest_tally (fresh_converter to_kiss level) l m in
    let c = source_counts to_kiss level l in
    (t.frames ≡ c.frames) × (t.skipped ≡ c.skipped) × (t.others ≡ c.others)
fresh_tally_lem true level l m k few = tally_of_the_capture true level m k l few
fresh_tally_lem false level l m k few = tally_of_the_capture false level m k l few

pub none_left : (c : Converter) (xs m : List ℕ) (i : ℕ) → length xs ≤ i → (rest_text c (drop i xs) m ≡ []) × (rest_tally c (drop i xs) m ≡ c.tally)
unfolding trace no_event texts_of tally_of
none_left c xs m i h =
    let e : drop i xs ≡ [] = drop_of_length-le xs h in
    (ap (λ (ys : List ℕ). rest_text c ys m) e, ap (λ (ys : List ℕ). rest_tally c ys m) e)

-- ---- a turn of a loop that stands at octet i: c₁, m₁ and s₁ are the converter and the buffers after the call on the rest, which put n octets
module _ (c : Converter) (capture m scratch : List ℕ) (i : ℕ) (within : i ≤ length capture) (rest : List ℕ) (part : rest ≡ take (length capture - i) (drop i capture))
    (r : Ready c m) (room : max_frame ≤ length scratch) (a : Converted) (m₁ s₁ : List ℕ)
    (ae : a ≡ (convert c rest m scratch).answer) (me : m₁ ≡ (convert c rest m scratch).buffer) (se : s₁ ≡ (convert c rest m scratch).out) where
  rest-drop : rest ≡ drop i capture
  rest-drop = part ∙ take_all (length capture - i) (drop i capture) (rw length-drop (omega arith))

  turn : Turned c rest m scratch (record { answer = a; buffer = m₁; out = s₁ })
  turn = subst (Turned c rest m scratch) (λ j. record { answer = sym ae j; buffer = sym me j; out = sym se j }) (turned c rest m scratch r room)

  pub turn_ready : Ready a.converter m₁
  turn_ready = turn.ready

  pub turn_few : a.length ≤ length s₁
  turn_few = turn.few

  pub turn_within : i + a.taken ≤ length capture
  turn_within = omega (arith, turn.within, ap length rest-drop, length-drop i capture)

  pub turn_takes : i < length capture → 0 < a.taken
  turn_takes h = turn.takes (omega (arith, ap length rest-drop, length-drop i capture))

  left_is : rest_text c (drop i capture) m ≡ take a.length s₁ ++ rest_text a.converter (drop (i + a.taken) capture) m₁
  left_is =
      ap (λ (xs : List ℕ). rest_text c xs m) (sym rest-drop)
      ∙ turn.texts
      ∙ ap (λ (xs : List ℕ). take a.length s₁ ++ rest_text a.converter xs m₁) (ap (drop a.taken) rest-drop ∙ drop-drop a.taken i capture)

  pub turn_tally : rest_tally c (drop i capture) m ≡ rest_tally a.converter (drop (i + a.taken) capture) m₁
  turn_tally =
      ap (λ (xs : List ℕ). rest_tally c xs m) (sym rest-drop)
      ∙ turn.tallies
      ∙ ap (λ (xs : List ℕ). rest_tally a.converter xs m₁) (ap (drop a.taken) rest-drop ∙ drop-drop a.taken i capture)

  pub left-length : length (rest_text c (drop i capture) m) ≡ a.length + length (rest_text a.converter (drop (i + a.taken) capture) m₁)
  left-length =
      let n = length-take-le a.length s₁ turn_few in
      ap length left_is ∙ length-append (take a.length s₁) _ ∙ ap (λ (k : ℕ). k + length (rest_text a.converter (drop (i + a.taken) capture) m₁)) n

  -- measuring: what is left has room in `left` octets
  pub fits_no : (left : ℕ) → left < a.length → leb (length (rest_text c (drop i capture) m)) left ≡ false
  fits_no left h = lt-leb (length (rest_text c (drop i capture) m)) left (omega (arith, left-length))

  pub fits_on : (left : ℕ) → a.length ≤ left
      → leb (length (rest_text a.converter (drop (i + a.taken) capture) m₁)) (left - a.length) ≡ leb (length (rest_text c (drop i capture) m)) left
  fits_on left h = by (leb (length (rest_text c (drop i capture) m)) left) refl
    where
      by : (b : Bool) → leb (length (rest_text c (drop i capture) m)) left ≡ b → leb (length (rest_text a.converter (drop (i + a.taken) capture) m₁)) (left - a.length) ≡ b
      by true q = le-leb (length (rest_text a.converter (drop (i + a.taken) capture) m₁)) (left - a.length) (omega (arith, left-length, leb-true (length (rest_text c (drop i capture) m)) left q))
      by false q = lt-leb (length (rest_text a.converter (drop (i + a.taken) capture) m₁)) (left - a.length) (omega (arith, left-length, leb-false (length (rest_text c (drop i capture) m)) left q))

  -- putting: the octets of the call, and then what is left
  pub put_on : (out : List ℕ) (at : ℕ) → sets out at (rest_text c (drop i capture) m) ≡ sets (sets out at (take a.length s₁)) (at + a.length) (rest_text a.converter (drop (i + a.taken) capture) m₁)
  put_on out at =
      let n = length-take-le a.length s₁ turn_few in
      ap (sets out at) left_is
      ∙ sets-++ (take a.length s₁) (rest_text a.converter (drop (i + a.taken) capture) m₁) out at
      ∙ ap (λ (k : ℕ). sets (sets out at (take a.length s₁)) (at + k) (rest_text a.converter (drop (i + a.taken) capture) m₁)) n
