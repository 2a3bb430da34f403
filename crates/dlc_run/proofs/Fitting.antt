-- An event leaves a model that a link can hold such, whatever is lent to it; by the table of as many places as a queue has slots, or of fewer.
-- Assumes nothing.
use Prim.Native.Nat.{ℕ, ◌<◌, ◌≤◌}
use native.Mathlib.Omega.{arith}
use mathlib.Core.Path.{◌≡◌, refl}
use mathlib.Core.Bool.{true, ◌&&◌}
use mathlib.Core.List.{List, [], ◌∷◌, ◌++◌}
use lib.ListN.{length, drop, length-append, length-drop}
use lib.Dec.{eqb}
use borrow.Author.Tests.{lt-ltb}
use Rattle.common.proofs.Bools.{and_both}
use Rattle.dlc_packet.specs.Numbers.{advance}
use Rattle.dlc_packet.specs.Packet.{max_payload}
use Rattle.dlc_table.specs.declared.State.{State}
use Rattle.dlc_table.specs.declared.State.TheVariants.{Reset, Data, Wait}
use Rattle.dlc_table.specs.Model.{Model, in_state}
use Rattle.dlc_table.specs.Events.{Effect, expect_next, state_of, without, with_payload, is_open}
use Rattle.dlc_table.specs.Runs.{Event, effect_of}
use Rattle.dlc_table.proofs.Entries.{Entries, event_entries}
use Rattle.dlc_queue.specs.Queue.{slots}
use Rattle.dlc_queue.proofs.Values.{short_queued, short_dropped}
use Rattle.dlc.specs.View.{state_fits}
use Rattle.dlc.proofs.Parts.{open_fits, queue_fits}
use Rattle.dlc.proofs.Values.{Fits, fits_rebuilt}

module _ (m : Model) (f : Fits m) where
  in_state_lem : (s : State) → state_fits s (length m.queue) (eqb (length m.queue) 0) m.base m.expected ≡ true → Fits (in_state s m)
  in_state_lem s h = fits_rebuilt m f s m.queue m.base m.expected f.few f.short f.base f.expected h

  expecting : is_open m.state ≡ true → Fits (expect_next m)
  expecting o =
      let e : ℕ = advance m.expected 1 in
      fits_rebuilt m f m.state m.queue m.base e f.few f.short f.base (omega arith)
      (open_fits m.state (length m.queue) (eqb (length m.queue) 0) m.base m.expected e o f.state)

  fewer : (n : ℕ) → Fits (without m n)
  fewer n =
      let left = drop n m.queue in
      let b : ℕ = advance m.base n in
      fits_rebuilt m f (state_of left) left b m.expected
      (omega (arith, length-drop n m.queue, f.few)) (short_dropped n m.queue f.short) (omega arith) f.expected
      (queue_fits left (eqb (length left) 0) b m.expected)

  more : (p : List ℕ) → length p ≤ max_payload → length m.queue < slots → Fits (with_payload m p)
  more p h k =
      let q = m.queue ++ (p ∷ []) in
      let n = length-append m.queue (p ∷ []) in
      fits_rebuilt m f Wait q m.base m.expected
      (omega (arith, n, k)) (short_queued m.queue p f.short h) f.base f.expected (lt-ltb 0 (length q) (omega (arith, n)))

  entries : (limit : ℕ) → limit ≤ slots → Entries limit m (λ (d : Effect). Fits d.after)
  entries limit h = record {
    refused = λ c e b o. f;
    clears = fits_rebuilt m f Data [] 0 0 (omega arith) tt (omega arith) (omega arith) refl;
    starts = λ s. in_state_lem Reset (rw s at f.state);
    opens = λ s. in_state_lem Data (and_both (eqb (length m.queue) 0) (eqb m.base 0 && eqb m.expected 0) (rw s at f.state)).0;
    delivers = expecting;
    repeats = λ o. f;
    removes = λ n s l h. fewer n;
    asks = λ s. f;
    sends = λ s. f;
    queues = λ p o l k. more p l (omega (arith, h, k));
  }

pub effect_fits : (limit : ℕ) → limit ≤ slots → (e : Event) (m : Model) → Fits m → Fits (effect_of limit e m).after
effect_fits limit h e m f = event_entries (entries m f limit h) e
