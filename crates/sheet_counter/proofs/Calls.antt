-- The cases of `count`, and the octets that a report shows. Assumes nothing.
use Prim.Native.Nat.{ℕ, ◌≤◌, ◌<◌}
use mathlib.Core.List.{List}
use mathlib.Core.Path.{◌≡◌, sym, ap, ◌∙◌}
use borrow.Author.Tests.{lt-ltb, le-ltb}
use lib.ListN.{length}
use Rattle.qaft.specs.Answers.{done, bad_level}
use Rattle.qaft.specs.Limits.{max_level, max_segment}
use Rattle.sheet_counter.specs.Answer.{Counted}
use Rattle.sheet_counter.specs.Count.{gathered, progress_of, later, Call, call_of, refusal, refusals, count}
use Rattle.sheet_counter.specs.declared.Counter.{Counter}
use Rattle.sheet_counter.specs.declared.Progress.{Progress}
use Rattle.sheet_octets.specs.Raw.{raw_all}
use Rattle.sheet_octets.specs.declared.RawOctets.{RawOctets}

module _ (c : Counter) (xs m : List ℕ) where
  pub count-bad_level : max_level < c.level → count c xs m ≡ refusal c m bad_level
  unfolding count refusals
  count-bad_level h = simp (lt-ltb _ _ h)

  module _ (h : c.level ≤ max_level) where
    pub count_gathered : max_segment ≤ length m → count c xs m ≡ call_of c xs (gathered c xs m)
    unfolding count refusals
    count_gathered k = simp (le-ltb _ _ h, le-ltb _ _ k)

    -- as the code goes: p is what the loop came to, o the octets with those of the chunk; b: the buffer after it
    module _ (k : max_segment ≤ length m) (p : Progress) (b : List ℕ) (pe : p ≡ progress_of (gathered c xs m)) (be : b ≡ (gathered c xs m).buffer)
        (o : RawOctets) (oe : o ≡ raw_all c.level c.octets xs) where
      abbrev made : Counted
      made = record { number = done; counter = record { level = c.level; state = p.state; octets = o; found = p.found } }

      made_is : made ≡ (call_of c xs (gathered c xs m)).answer
      unfolding call_of
      made_is =
          ap (λ (o : RawOctets). record { number = done; counter = record { level = c.level; state = p.state; octets = o; found = p.found } }) oe
          ∙ ap (λ (p : Progress). record { number = done; counter = later c p xs }) pe

      pub count_made : (made ≡ (count c xs m).answer) × (b ≡ (count c xs m).buffer)
      unfolding call_of
      count_made = let e = sym (count_gathered k) in (made_is ∙ ap (λ (r : Call). r.answer) e, be ∙ ap (λ (r : Call). r.buffer) e)
