-- What a caller writes out who makes texts of reports is the texts of the reports of the whole line, one after another, however the line is cut.
-- Assumes nothing.
use Prim.Native.Nat.{ℕ, zero, suc, ◌+◌, ◌≤◌}
use mathlib.Core.Bool.{true}
use mathlib.Core.List.{List, [], ◌∷◌, ◌++◌, append_assoc, flatten}
use mathlib.Core.Path.{◌≡◌, refl, sym, ap, ap₂, ◌∙◌, subst}
use native.Mathlib.Nat.{add-zero, zero-add}
use native.Mathlib.Omega.{arith}
use borrow.Author.Tests.{le-leb, leb-true}
use lib.ListN.{length, take, drop, length-append, length-drop}
use lib.Seq.{sets, length-sets}
use Rattle.common.proofs.Buffer.{sets-++, sets-front, take-with_front}
use Rattle.line.proofs.Chunks as chunks
use Rattle.line.proofs.Chunks.{trace_good}
use Rattle.line.proofs.Gather.{Partly, Keeps, gather_partly, gather_good, gather_takes, preceded}
use Rattle.line.proofs.Trace.{trace-++}
use Rattle.line.specs.Gather.{Gathered, gather_all, make_all}
use Rattle.line.specs.Scan.{Action, advance, store, emit}
use Rattle.line.specs.Texts.{Texts, has_room, Written, nothing, following, with_text, texts_of, tally_of, text_call, text_chunk, text_chunks}
use Rattle.line.specs.Trace.{Event, Trace, trace, no_event, and_then}

-- a text at the front of a buffer, taken from there
pub front_text : (t out : List ℕ) → length t ≤ length out → take (0 + length t) (sets out 0 t) ≡ t
front_text t out h = rw (zero-add (length t), sets-front t out h) (take-with_front t out (length t) refl)

-- ---- texts of reports
module _ {R X : Type 0} (text : X → R → List ℕ → List ℕ) (tallied : X → R → X) where
  texts_of-++ : (k : X) (es fs : List (Event R)) → texts_of text tallied k (es ++ fs) ≡ texts_of text tallied k es ++ texts_of text tallied (tally_of text tallied k es) fs
  unfolding texts_of tally_of
  texts_of-++ k [] fs = refl
  texts_of-++ k (e ∷ es) fs =
      let t = text k e.report e.buffer in
      let j = tallied k e.report in
      ap (λ (u : List ℕ). t ++ u) (texts_of-++ j es fs) ∙ sym (append_assoc t (texts_of text tallied j es) (texts_of text tallied (tally_of text tallied j es) fs))

  tally_of-++ : (k : X) (es fs : List (Event R)) → tally_of text tallied k (es ++ fs) ≡ tally_of text tallied (tally_of text tallied k es) fs
  unfolding tally_of
  tally_of-++ k [] fs = refl
  tally_of-++ k (e ∷ es) fs = tally_of-++ (tallied k e.report) es fs

  -- what is made of reports
  make_all-texts : (es : List (Event R)) (k : X) (out : List ℕ) (i : ℕ)
      → make_all (with_text text tallied) (record { tally = k; out = out; behind = i }) es
      ≡ record { tally = tally_of text tallied k es; out = sets out i (texts_of text tallied k es); behind = i + length (texts_of text tallied k es) }
  unfolding make_all with_text texts_of tally_of
  make_all-texts [] k out i = λ j. record { tally = k; out = out; behind = sym (add-zero i) j }
  make_all-texts (e ∷ es) k out i =
      let t = text k e.report e.buffer in
      let l = tallied k e.report in
      let u = texts_of text tallied l es in
      let b : i + length t + length u ≡ i + length (t ++ u) = omega (arith, length-append t u) in
      make_all-texts es l (sets out i t) (i + length t) ∙ (λ j. record { tally = tally_of text tallied l es; out = sym (sets-++ t u out i) j; behind = b j })

-- ---- a caller: what is good is kept by every octet, and no text of a report is longer than the longest
module _ {S R X : Type 0} (text : X → R → List ℕ → List ℕ) (tallied : X → R → X) (longest : ℕ) (f : S → ℕ → Action S R)
    (Good : S → List ℕ → Type 0) (keeps : (s : S) (x : ℕ) (m : List ℕ) → Good s m → chunks.Keeps f Good (f s x) m)
    (short : (k : X) (s : S) (x : ℕ) (r : R) (t : S) (m : List ℕ) → f s x ≡ emit r t → length (text k r m) ≤ longest) where
  abbrev make : Texts X → R → List ℕ → Texts X
  make = with_text text tallied

  module _ (most : ℕ) where
    -- what is good, and texts within an out buffer of that length
    pub record Within (s : S) (m : List ℕ) (c : Texts X) : Type 0 where
      pub good : Good s m
      pub long : length c.out ≡ most
      pub within : c.behind ≤ most

    -- one more text is within it, where there was room for every text
    text_within : (t : S) (m : List ℕ) (c : Texts X) (r : R) (s : S) (x : ℕ) → has_room longest c ≡ true → f s x ≡ emit r t → Good t m → length c.out ≡ most → Within t m (make c r m)
    unfolding has_room with_text
    text_within t m c r s x h e g k =
        let room = leb-true (c.behind + longest) (length c.out) h in
        let u = text c.tally r m in
        record { good = g; long = length-sets c.out c.behind u ∙ k; within = omega (arith, room, k, short c.tally s x r t m e) }

    keeps_on : (a : Action S R) (s : S) (x : ℕ) (m : List ℕ) (c : Texts X) → f s x ≡ a → has_room longest c ≡ true → Within s m c
        → chunks.Keeps f Good a m → Keeps make (has_room longest) f Within a m c
    keeps_on (advance t) s x m c e h w k = record { good = k; long = w.long; within = w.within }
    keeps_on (store t i y) s x m c e h w k = record { good = k; long = w.long; within = w.within }
    keeps_on (emit r t) s x m c e h w k = text_within t m c r s x h e k w.long

    gather_within : (xs : List ℕ) (s : S) (m : List ℕ) (c : Texts X) → has_room longest c ≡ true → Within s m c
        → let g = gather_all make (has_room longest) f s xs m c in Within g.state g.buffer g.made
    gather_within = gather_good make (has_room longest) f Within (λ s x m c h w. keeps_on (f s x) s x m c refl h w (keeps s x m w.good))

  -- ---- one call
  module _ (s : S) (k : X) (xs m out : List ℕ) (good : Good s m) (room : longest ≤ length out) where
    abbrev call : Gathered S (Texts X)
    call = text_call text tallied longest f s k xs m out

    abbrev start : Texts X
    start = record { tally = k; out = out; behind = 0 }

    start_room : has_room longest start ≡ true
    unfolding has_room
    start_room = le-leb (0 + longest) (length out) (omega arith)

    call_partly : Partly make (has_room longest) f s xs m start call
    call_partly = gather_partly make (has_room longest) f xs s m start

    pub call_within : Within (length out) call.state call.buffer call.made
    call_within = gather_within (length out) xs s m start start_room (record { good = good; long = refl; within = omega arith })

    call_tally : call.made.tally ≡ tally_of text tallied k call_partly.first
    call_tally = ap (λ (c : Texts X). c.tally) (call_partly.made ∙ make_all-texts text tallied call_partly.first k out 0)

    -- what is written of it
    call_text : take call.made.behind call.made.out ≡ texts_of text tallied k call_partly.first
    call_text =
        let es = call_partly.first in
        let e = call_partly.made ∙ make_all-texts text tallied es k out 0 in
        let t = texts_of text tallied k es in
        let b : call.made.behind ≡ 0 + length t = ap (λ (c : Texts X). c.behind) e in
        ap (λ (c : Texts X). take c.behind c.out) e ∙ front_text t out (omega (arith, b, call_within.within))

    -- a call and then the rest of the chunk: texts and tally of the whole chunk
    pub call_then_rest : texts_of text tallied k (trace f s xs m).events
        ≡ take call.made.behind call.made.out ++ texts_of text tallied call.made.tally (trace f call.state (drop call.taken xs) call.buffer).events
    call_then_rest =
        let es = call_partly.first in
        let fs = (trace f call.state (drop call.taken xs) call.buffer).events in
        ap (λ (a : Trace S R). texts_of text tallied k a.events) call_partly.whole
        ∙ texts_of-++ text tallied k es fs
        ∙ ap₂ (λ (t : List ℕ) (j : X). t ++ texts_of text tallied j fs) (sym call_text) (sym call_tally)

    pub tally_then_rest : tally_of text tallied k (trace f s xs m).events ≡ tally_of text tallied call.made.tally (trace f call.state (drop call.taken xs) call.buffer).events
    tally_then_rest =
        let es = call_partly.first in
        let fs = (trace f call.state (drop call.taken xs) call.buffer).events in
        ap (λ (a : Trace S R). tally_of text tallied k a.events) call_partly.whole
        ∙ tally_of-++ text tallied k es fs
        ∙ ap (λ (j : X). tally_of text tallied j fs) (sym call_tally)

    pub call_takes : call.taken ≤ length xs
    call_takes = call_partly.within

  -- ---- what was written of the octets xs: the texts of their reports; state, tally and buffer are those after them
  pub record Makes (s : S) (k : X) (xs m out : List ℕ) (w : Written S X) : Type 0 where
    pub text_is : w.text ≡ texts_of text tallied k (trace f s xs m).events
    pub tally_is : w.tally ≡ tally_of text tallied k (trace f s xs m).events
    pub state_is : w.state ≡ (trace f s xs m).state
    pub buffer_is : w.buffer ≡ (trace f s xs m).buffer
    pub long_is : length w.out ≡ length out

  nothing_makes : (s : S) (k : X) (m out : List ℕ) → Makes s k [] m out (nothing s k m out)
  unfolding trace no_event texts_of tally_of
  nothing_makes s k m out = record { text_is = refl; tally_is = refl; state_is = refl; buffer_is = refl; long_is = refl }

  -- octets, and then others
  module _ (s : S) (k : X) (xs zs m out : List ℕ) (es : List (Event R)) (t : S) (j : X) (n o : List ℕ) (w : Written S X)
      (whole : trace f s xs m ≡ preceded make (has_room longest) f es (trace f t zs n))
      (tallied-is : j ≡ tally_of text tallied k es)
      (long : length o ≡ length out) where
    following_makes : Makes t j zs n o w → Makes s k xs m out (following (texts_of text tallied k es) w)
    following_makes r =
        let fs = (trace f t zs n).events in
        let e : (trace f s xs m).events ≡ es ++ fs = ap (λ (a : Trace S R). a.events) whole in
        record {
          text_is =
              ap (λ (u : List ℕ). texts_of text tallied k es ++ u) (r.text_is ∙ ap (λ (j : X). texts_of text tallied j fs) tallied-is)
              ∙ sym (texts_of-++ text tallied k es fs)
              ∙ ap (texts_of text tallied k) (sym e);
          tally_is =
              r.tally_is
              ∙ ap (λ (j : X). tally_of text tallied j fs) tallied-is
              ∙ sym (tally_of-++ text tallied k es fs)
              ∙ ap (tally_of text tallied k) (sym e);
          state_is = r.state_is ∙ sym (ap (λ (a : Trace S R). a.state) whole);
          buffer_is = r.buffer_is ∙ sym (ap (λ (a : Trace S R). a.buffer) whole);
          long_is = r.long_is ∙ long;
        }

  -- a call, and then the rest of the chunk
  module _ (s : S) (k : X) (x : ℕ) (xs m out : List ℕ) (good : Good s m) (room : longest ≤ length out) (n : ℕ) (few : length (x ∷ xs) ≤ suc n)
      (ih : (s : S) (k : X) (xs m out : List ℕ) → Good s m → longest ≤ length out → length xs ≤ n → Makes s k xs m out (text_chunk text tallied longest f n s k xs m out)) where
    call_makes : let g = text_call text tallied longest f s k (x ∷ xs) m out in
        Makes s k (x ∷ xs) m out (following (take g.made.behind g.made.out) (text_chunk text tallied longest f n g.state g.made.tally (drop g.taken (x ∷ xs)) g.buffer g.made.out))
    call_makes =
        let g = text_call text tallied longest f s k (x ∷ xs) m out in
        let p = call_partly s k (x ∷ xs) m out good room in
        let w = call_within s k (x ∷ xs) m out good room in
        let zs = drop g.taken (x ∷ xs) in
        let r = text_chunk text tallied longest f n g.state g.made.tally zs g.buffer g.made.out in
        let shorter : length zs ≤ n = omega (arith, length-drop g.taken (x ∷ xs), gather_takes make (has_room longest) f x xs s m (record { tally = k; out = out; behind = 0 })) in
        subst (λ (t : List ℕ). Makes s k (x ∷ xs) m out (following t r)) (sym (call_text s k (x ∷ xs) m out good room))
        (following_makes s k (x ∷ xs) zs m out p.first g.state g.made.tally g.buffer g.made.out r p.whole
        (call_tally s k (x ∷ xs) m out good room) w.long
        (ih g.state g.made.tally zs g.buffer g.made.out w.good (omega (arith, w.long)) shorter))

  -- a chunk, in as many calls as it has octets
  pub chunk_makes : (n : ℕ) (s : S) (k : X) (xs m out : List ℕ) → Good s m → longest ≤ length out → length xs ≤ n → Makes s k xs m out (text_chunk text tallied longest f n s k xs m out)
  unfolding text_chunk
  chunk_makes zero s k [] m out good room h = nothing_makes s k m out
  chunk_makes zero s k (x ∷ xs) m out good room h = let z : ⊥ = omega arith in absurd z
  chunk_makes (suc n) s k [] m out good room h = nothing_makes s k m out
  chunk_makes (suc n) s k (x ∷ xs) m out good room h = call_makes s k x xs m out good room n h (λ s k xs m out g r l. chunk_makes n s k xs m out g r l)

  -- chunk after chunk
  trace_cut : (s t : S) (xs ys m n : List ℕ) → t ≡ (trace f s xs m).state → n ≡ (trace f s xs m).buffer
      → trace f s (xs ++ ys) m ≡ preceded make (has_room longest) f (trace f s xs m).events (trace f t ys n)
  unfolding and_then
  trace_cut s t xs ys m n e b =
      trace-++ f xs ys s m
      ∙ ap₂ (λ (u : S) (n : List ℕ). preceded make (has_room longest) f (trace f s xs m).events (trace f u ys n)) (sym e) (sym b)

  pub chunks_make : (xss : List (List ℕ)) (s : S) (k : X) (m out : List ℕ) → Good s m → longest ≤ length out → Makes s k (flatten xss) m out (text_chunks text tallied longest f s k xss m out)
  unfolding text_chunks flatten
  chunks_make [] s k m out good room = nothing_makes s k m out
  chunks_make (xs ∷ xss) s k m out good room =
      let ys = flatten xss in
      let w = text_chunk text tallied longest f (length xs) s k xs m out in
      let r = chunk_makes (length xs) s k xs m out good room (omega arith) in
      let g = subst (λ (t : S). Good t w.buffer) (sym r.state_is) (subst (Good (trace f s xs m).state) (sym r.buffer_is) (trace_good f Good keeps xs s m good)) in
      let rest = text_chunks text tallied longest f w.state w.tally xss w.buffer w.out in
      subst (λ (t : List ℕ). Makes s k (xs ++ ys) m out (following t rest)) (sym r.text_is)
      (following_makes s k (xs ++ ys) ys m out (trace f s xs m).events w.state w.tally w.buffer w.out rest
      (trace_cut s w.state xs ys m w.buffer r.state_is r.buffer_is) r.tally_is r.long_is
      (chunks_make xss w.state w.tally w.buffer w.out g (omega (arith, r.long_is))))
