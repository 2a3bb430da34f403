-- Raw octets of a capture counted chunk after chunk are those of the whole, up to where the counts stop. Assumes nothing.
use Prim.Native.Nat.{ℕ, ◌+◌}
use mathlib.Core.Bool.{Bool, true, false, cond, ◌||◌}
use mathlib.Core.List.{List, [], ◌∷◌, ◌++◌}
use mathlib.Core.Path.{◌≡◌, refl, ap, ◌∙◌}
use native.Mathlib.Omega.{arith}
use lib.Dec.{eqb}
use Rattle.capture.proofs.Counting.{count_all-++}
use Rattle.capture.proofs.Whole.{whole_octets, octets_whole}
use Rattle.capture.specs.Octets.{count_all}
use Rattle.capture.specs.Whole.{before, between, after}
use Rattle.counter.proofs.Counting.{counted_more, counted_stopped}
use Rattle.counter.specs.Counted.{counted}
use Rattle.framing.proofs.Segments.{unskipped-++}
use Rattle.framing.specs.Reports.{after_flag, segments, unskipped}
use Rattle.qaft.specs.Escape.{flag, is_flow_control}
use Rattle.qaft.specs.Limits.{sum_kind}
use Rattle.qaft_rules.specs.Rules.{rules}
use Rattle.sheet.specs.Limits.{too_large}
use Rattle.sheet_octets.proofs.Apart.{apart, betweens}
use Rattle.sheet_octets.specs.Raw.{flow_of, fresh_raw, raw_all}
use Rattle.sheet_octets.specs.declared.RawOctets.{RawOctets}
use Rattle.sheet_rules.proofs.Octets.{reported_between, skipped_between}
use Rattle.sheet_rules.specs.Counts.{octets_skipped}

module _ (level : ℕ) where
  -- ---- chunk after chunk
  flow_of-++ : (xs ys : List ℕ) → flow_of level (xs ++ ys) ≡ flow_of level xs ++ flow_of level ys
  unfolding flow_of
  flow_of-++ [] ys = refl
  flow_of-++ (x ∷ xs) ys = go (eqb x flag || is_flow_control level x) (flow_of-++ xs ys)
    where
      go : (b : Bool) → flow_of level (xs ++ ys) ≡ flow_of level xs ++ flow_of level ys
          → cond b (x ∷ flow_of level (xs ++ ys)) (flow_of level (xs ++ ys)) ≡ cond b (x ∷ flow_of level xs) (flow_of level xs) ++ flow_of level ys
      go true ih = ap (λ (l : List ℕ). x ∷ l) ih
      go false ih = ih

  pub raw_all-++ : (r : RawOctets) (xs ys : List ℕ) → raw_all level r (xs ++ ys) ≡ raw_all level (raw_all level r xs) ys
  raw_all-++ r xs ys = λ i. record {
    kept = (ap (count_all too_large flag r.kept) (unskipped-++ (rules level sum_kind) xs ys) ∙ count_all-++ too_large flag r.kept (unskipped (rules level sum_kind) xs) (unskipped (rules level sum_kind) ys)) i;
    skipped = (ap (count_all too_large flag r.skipped) (flow_of-++ xs ys) ∙ count_all-++ too_large flag r.skipped (flow_of level xs) (flow_of level ys)) i;
  }

  -- ---- the whole capture
  module _ (l : List ℕ) where
    abbrev pub whole_raw : RawOctets
    whole_raw = record { kept = whole_octets too_large flag (unskipped (rules level sum_kind) l); skipped = whole_octets too_large flag (flow_of level l) }

    pub raw_whole : raw_all level fresh_raw l ≡ whole_raw
    raw_whole = λ i. record { kept = octets_whole too_large flag (unskipped (rules level sum_kind) l) i; skipped = octets_whole too_large flag (flow_of level l) i }

    -- two counts that stop, added
    both : (m n k : ℕ) → m + n ≡ k → counted too_large (counted too_large 0 m) (counted too_large 0 n) ≡ counted too_large 0 k
    both m n k e = counted_stopped too_large (counted too_large 0 m) n ∙ counted_more too_large 0 m n ∙ ap (counted too_large 0) e

    pub before_whole : counted too_large whole_raw.kept.before whole_raw.skipped.before ≡ counted too_large 0 (before flag l)
    before_whole = both _ _ _ (apart level l).befores

    pub after_whole : counted too_large whole_raw.kept.after whole_raw.skipped.after ≡ counted too_large 0 (after flag l)
    after_whole = both _ _ _ (apart level l).afters

    pub skipped_whole : between flag (flow_of level l) ≡ octets_skipped level (segments (rules level sum_kind) (after_flag (rules level sum_kind) l))
    skipped_whole = omega (arith, betweens level l, reported_between level l, skipped_between level l)
