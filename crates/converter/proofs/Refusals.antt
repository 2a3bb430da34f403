-- Cases of `convert`: an out buffer that is too small, and a call that is not refused, whose number no refusal has. Assumes nothing.
use Rattle.std.proofs.Common.{◌≡◌, ℕ, ◌<◌, ◌≤◌, List, length, ap, arith, le-ltb, lt-ltb}
use Rattle.converter.specs.Answer.{refusal_number}
use Rattle.converter.specs.Convert.{too_small, gathered, Call, call_of, refusal, refusals, convert}
use Rattle.converter.specs.declared.Converter.{Converter}
use Rattle.converter.specs.declared.Refusal.{Refusal}
use Rattle.converter.specs.declared.Refusal.TheVariants.{BadLevel, KissOutTooSmall, QaftOutTooSmall, BufferTooSmall}
use Rattle.qaft.specs.Answers.{done}
use Rattle.qaft.specs.Limits.{max_level, max_segment, max_frame}

module _ (c : Converter) (xs m out : List ℕ) where
  module _ (h : c.level ≤ max_level) where
    pub convert-too_small : length out < max_frame → convert c xs m out ≡ refusal c m out (too_small c.to_kiss)
    unfolding convert refusals
    convert-too_small k = simp (le-ltb _ _ h, lt-ltb _ _ k)

    module _ (k : max_frame ≤ length out) where
      pub convert_gathered : max_segment ≤ length m → convert c xs m out ≡ call_of c (gathered c xs m out)
      unfolding convert refusals
      convert_gathered r = simp (le-ltb _ _ h, le-ltb _ _ k, le-ltb _ _ r)

      pub number_done : max_segment ≤ length m → (convert c xs m out).answer.number ≡ done
      unfolding call_of
      number_done r = ap (λ (k : Call). k.answer.number) (convert_gathered r)

-- no refusal has the number of a call that was done
pub numbered : (e : Refusal) → refusal_number e ≡ done → ⊥
numbered BadLevel q = omega arith
numbered KissOutTooSmall q = omega arith
numbered QaftOutTooSmall q = omega arith
numbered BufferTooSmall q = omega arith
