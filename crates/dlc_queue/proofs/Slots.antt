-- Laws of the slots in use: how many they are, and what a queue with one payload more or with some fewer holds. Assumes nothing.
use Prim.Native.Nat.{ℕ, ◌+◌, ◌-◌, ◌<◌, ◌≤◌, zero-le}
use native.Mathlib.Numerals.{add-one}
use native.Mathlib.Omega.{arith}
use mathlib.Core.Path.{◌≡◌, refl, sym, ap, ◌∙◌}
use mathlib.Core.Bool.{Bool, true, false, false≢true}
use mathlib.Core.List.{List, [], ◌∷◌, ◌++◌, map}
use lib.ListN.{length, take, drop, set, length-map}
use lib.Seq.{take-suc-set, length-take-le}
use lib.Dec.{leb}
use borrow.Author.Tests.{le-leb, lt-ltb, leb-true, eqb-true}
use Rattle.common.proofs.Bools.{and_both}
use Rattle.dlc_packet.specs.Packet.{max_payload}
use Rattle.dlc_queue.specs.declared.Payload.{Payload}
use Rattle.dlc_queue.specs.declared.Queue.{Queue}
use Rattle.dlc_queue.specs.Queue.{slots, octets_of, used, payloads, held, all_short, formed, at_rest, fresh, emptied, has_room, has_oldest, Pushed, Removed}
use Rattle.std.proofs.lemmas.List.{drop-map, map-append}
use Rattle.dlc_queue.proofs.Short.{short_snoc, short-drop}

-- a test has one answer
differ : {b : Bool} → b ≡ false → b ≡ true → ⊥
differ e t = false≢true (sym e ∙ t)

module _ (q : Queue) where
  pub formed_count : formed q ≡ true → q.count ≤ slots
  unfolding formed
  formed_count e = leb-true _ _ (and_both (leb q.count slots) (all_short (used q)) e).0

  pub formed_short : formed q ≡ true → all_short (used q) ≡ true
  unfolding formed
  formed_short e = (and_both (leb q.count slots) (all_short (used q)) e).1

  pub is_formed : q.count ≤ slots → all_short (used q) ≡ true → formed q ≡ true
  unfolding formed
  is_formed h e = simp (le-leb _ _ h, e)

  pub within_formed : q.count ≤ slots → formed q ≡ all_short (used q)
  unfolding formed
  within_formed h = rw (le-leb _ _ h)

  -- as many payloads as the count says
  pub length-payloads : length q.slots ≡ slots → q.count ≤ slots → length (payloads q) ≡ q.count
  length-payloads long h =
      let k : q.count ≤ length q.slots = omega arith in
      length-map (used q) octets_of ∙ length-take-le q.count q.slots k

-- a queue that holds nothing: a fresh one, one that was emptied, one of a link at rest
empty_formed : (q : Queue) → held q ≡ 0 → formed q ≡ true
empty_formed q e = is_formed q (rw e zero-le) (rw e)

pub fresh_formed : formed fresh ≡ true
fresh_formed = empty_formed fresh refl

pub emptied_formed : (q : Queue) → formed (emptied q) ≡ true
emptied_formed q = empty_formed (emptied q) refl

pub rest_held : (q : Queue) → at_rest q ≡ true → held q ≡ 0
rest_held q e = eqb-true (held q) 0 e

-- the queue after push, where it can be queued
module _ (q : Queue) (p : List ℕ) where
  pub pushed_room : (x : Payload) → length q.slots ≡ slots → q.count < slots → length p ≤ max_payload → x.len ≡ length p → octets_of x ≡ p
      → Pushed q p (record { count = q.count + 1; slots = set q.slots q.count x })
  pushed_room x long h k n o =
      let e : has_room q p ≡ true = rw (lt-ltb _ _ h, le-leb _ _ k) in
      let r : Queue = record { count = q.count + 1; slots = set q.slots q.count x } in
      let i : q.count < length q.slots = omega arith in
      let t : used r ≡ used q ++ (x ∷ []) = rw add-one (take-suc-set q.slots q.count x i) in
      record {
        count = λ _. refl;
        queue = λ _. ap (map octets_of) t ∙ map-append octets_of (used q) (x ∷ []) ∙ ap (λ (y : List ℕ). payloads q ++ (y ∷ [])) o;
        formed =
            λ _. within_formed r (omega arith)
            ∙ ap all_short t
            ∙ short_snoc (used q) x (omega (arith, n))
            ∙ sym (within_formed q (omega arith));
        kept = λ t. absurd (differ t e);
      }

-- the queue after remove, where that many are there
module _ (q : Queue) (n : ℕ) where
  pub removed_oldest : (r : List Payload) → q.count ≤ slots → n ≤ q.count → take (q.count - n) r ≡ drop n (used q)
      → Removed q n (record { count = q.count - n; slots = r })
  removed_oldest r h k t =
      let e : has_oldest q n ≡ true = rw (le-leb _ _ h, le-leb _ _ k) in
      record { count = λ _. refl; used = λ _. t; kept = λ z. absurd (differ z e) }

-- what a caller learns of a queue that it pushed to or removed from
module _ (q r : Queue) (ok : formed q ≡ true) where
  pub push_held : (p : List ℕ) → held q < slots → length p ≤ max_payload → Pushed q p r → held r ≡ held q + 1
  push_held p h k m = m.count (rw (lt-ltb _ _ h, le-leb _ _ k))

  pub push_payloads : (p : List ℕ) → held q < slots → length p ≤ max_payload → Pushed q p r → payloads r ≡ payloads q ++ (p ∷ [])
  push_payloads p h k m = m.queue (rw (lt-ltb _ _ h, le-leb _ _ k))

  pub push_formed : (p : List ℕ) → held q < slots → length p ≤ max_payload → Pushed q p r → formed r ≡ true
  push_formed p h k m = m.formed (rw (lt-ltb _ _ h, le-leb _ _ k)) ∙ ok

  module _ (n : ℕ) (h : n ≤ held q) (m : Removed q n r) where
    oldest : has_oldest q n ≡ true
    oldest = rw (le-leb _ _ (formed_count q ok), le-leb _ _ h)

    pub remove_held : held r ≡ held q - n
    remove_held = m.count oldest

    remove_used : used r ≡ drop n (used q)
    remove_used = m.used oldest

    pub remove_payloads : payloads r ≡ drop n (payloads q)
    remove_payloads = ap (map octets_of) remove_used ∙ sym (drop-map octets_of n (used q))

    pub remove_formed : formed r ≡ true
    remove_formed =
        is_formed r (omega (arith, remove_held, formed_count q ok)) (ap all_short remove_used ∙ short-drop n (used q) (formed_short q ok))
