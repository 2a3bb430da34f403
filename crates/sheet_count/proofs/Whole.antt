-- The cases of `count`: a capture in one chunk is counted whole. Assumes nothing.
use Prim.Native.Nat.{ℕ, ◌≤◌, ◌<◌}
use mathlib.Core.Bool.{Bool, true, false}
use mathlib.Core.List.{List, [], ◌∷◌, flatten, append-nil}
use mathlib.Core.Path.{◌≡◌, refl, ap, ◌∙◌}
use native.Mathlib.Omega.{arith}
use borrow.Author.Tests.{lt-ltb, le-ltb, ltb-true, ltb-false}
use lib.Dec.{ltb}
use lib.ListN.{length}
use Rattle.qaft.specs.Answers.{done, bad_level}
use Rattle.qaft.specs.Limits.{max_level, max_segment}
use Rattle.qaft.specs.Refusal.{refusal_number}
use Rattle.qaft.specs.declared.Refusal.{Refusal}
use Rattle.qaft.specs.declared.Refusal.TheVariants.{NoData, DataTooLong, OutTooSmall, BufferTooSmall, BadState, BadLevel, BadKind}
use Rattle.sheet_count.specs.Count.{refused, count_call}
use Rattle.sheet_counter.proofs.Calls.{count-bad_level, count_gathered}
use Rattle.sheet_counter.specs.Answer.{Counted}
use Rattle.sheet_counter.specs.Count.{fresh_counter, count, counts_in, Call, call_of, refusal}
use Rattle.sheet_counter.specs.declared.Counter.{Counter}
use Rattle.sheet_laws.proofs.Theorems.{counts_the_capture}
use Rattle.sheet_laws.specs.Caller.{count_chunks}
use Rattle.sheet_rules.specs.Counts.{whole_counts}

-- no refusal has the number of a call that was done
numbered : (e : Refusal) → refusal_number e ≡ done → ⊥
numbered NoData q = omega arith
numbered DataTooLong q = omega arith
numbered OutTooSmall q = omega arith
numbered BufferTooSmall q = omega arith
numbered BadState q = omega arith
numbered BadLevel q = omega arith
numbered BadKind q = omega arith

by_case : {A : Type 0} → (b : Bool) → (b ≡ true → A) → (b ≡ false → A) → A
by_case true f g = f refl
by_case false f g = g refl

-- with the buffer m
module _ (level : ℕ) (l m : List ℕ) (room : max_segment ≤ length m) where
  abbrev fresh : Counter
  fresh = fresh_counter level

  bad : max_level < level → refused bad_level ≡ count_call level l
  unfolding count_call
  bad h = simp (lt-ltb _ _ h)

  good : level ≤ max_level → whole_counts level l ≡ count_call level l
  unfolding count_call
  good h = simp (le-ltb _ _ h)

  -- the number of a call at a level that is none, and at one
  number_bad : max_level < level → (count fresh l m).answer.number ≡ bad_level
  unfolding refusal
  number_bad h = ap (λ (k : Call). k.answer.number) (count-bad_level fresh l m h)

  number_good : level ≤ max_level → (count fresh l m).answer.number ≡ done
  unfolding call_of
  number_good h = ap (λ (k : Call). k.answer.number) (count_gathered fresh l m h room)

  -- as the code goes: n is the fresh counter; the counter c came of the call, or the refusal r
  module _ (n : Counter) (ne : n ≡ fresh) where
    pub count_made : (c : Counter) → record { number = done; counter = c } ≡ (count n l m).answer → counts_in c ≡ count_call level l
    unfolding count_chunks flatten
    count_made c e =
        let a = e ∙ ap (λ (n : Counter). (count n l m).answer) ne in
        by_case (ltb max_level level)
        (λ h. let z : ⊥ = omega (arith, ap (λ (a : Counted). a.number) a, number_bad (ltb-true _ _ h)) in absurd z)
        (λ h.
        let fits = ltb-false _ _ h in
        ap (λ (a : Counted). counts_in a.counter) a ∙ counts_the_capture level fits m room l (l ∷ []) (append-nil l) ∙ good fits)

    -- a refusal has the number of the call
    refused_by : (r : Refusal) → record { number = refusal_number r; counter = n } ≡ (count n l m).answer → refusal_number r ≡ (count fresh l m).answer.number
    refused_by r e = ap (λ (a : Counted). a.number) (e ∙ ap (λ (n : Counter). (count n l m).answer) ne)

    -- no call at a level is refused
    pub never_refused : (r : Refusal) → record { number = refusal_number r; counter = n } ≡ (count n l m).answer → level ≤ max_level → ⊥
    never_refused r e h = numbered r (refused_by r e ∙ number_good h)

    pub count_refused : (r : Refusal) → record { number = refusal_number r; counter = n } ≡ (count n l m).answer → refused (refusal_number r) ≡ count_call level l
    count_refused r e =
        by_case (ltb max_level level)
        (λ h. ap refused (refused_by r e ∙ number_bad (ltb-true _ _ h)) ∙ bad (ltb-true _ _ h))
        (λ h. absurd (never_refused r e (ltb-false _ _ h)))
