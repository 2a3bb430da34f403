-- `framer::put::put_octet` meets its contract. Assumes nothing.
use Rattle.std.proofs.Common.{◌≡◌, true, [], ◌∷◌, length, sym, ap, ◌∙◌, add-one, arith, length-set}
use Rattle.escapes.specs.Escapes.{is_escaped, behind, writing_of}
use Rattle.framing.proofs.Escaping.{escaped_one-pair, escaped_one-plain}
use Rattle.framing.specs.Writing.{escaped_one}
use Rattle.framer.proofs.put.put_octet.Goals as goal

pub put_either-requires : goal.put_either-requires
put_either-requires c = c.requires

pub returns-then-many : goal.returns-then-many
returns-then-many c = c.put_either.ensures

pub bounds-out-at : goal.bounds-out-at
bounds-out-at c =
    let is-escaped : let s = c.args in is_escaped s.e s.x ≡ true = (sym c.escapes.ensures ∙ c.if-escapes.true) in
    let pair : let s = c.args in escaped_one (writing_of s.e) s.x ≡ s.e.escape ∷ behind s.e s.x ∷ [] = (escaped_one-pair _ _ is-escaped) in
    omega (arith, ap length pair, c.requires)

pub bounds-out-at-then-escapes : goal.bounds-out-at-then-escapes
bounds-out-at-then-escapes c =
    let is-escaped : let s = c.args in is_escaped s.e s.x ≡ true = (sym c.escapes.ensures ∙ c.if-escapes.true) in
    let pair : let s = c.args in escaped_one (writing_of s.e) s.x ≡ s.e.escape ∷ behind s.e s.x ∷ [] = (escaped_one-pair _ _ is-escaped) in
    simp length-set (omega (arith, ap length pair, c.requires))

pub returns-then-escapes : goal.returns-then-escapes
returns-then-escapes c =
    let is-escaped : let s = c.args in is_escaped s.e s.x ≡ true = (sym c.escapes.ensures ∙ c.if-escapes.true) in
    let pair : let s = c.args in escaped_one (writing_of s.e) s.x ≡ s.e.escape ∷ behind s.e s.x ∷ [] = (escaped_one-pair _ _ is-escaped) in
    record {
      value = rw pair;
      out_after = rw (pair, add-one, c.second.ensures, is-escaped);
    }

pub bounds-out-at-2 : goal.bounds-out-at-2
bounds-out-at-2 c =
    let plain : let s = c.args in escaped_one (writing_of s.e) s.x ≡ s.x ∷ [] = (escaped_one-plain _ _ (sym c.escapes.ensures ∙ c.if-escapes.false)) in
    omega (arith, ap length plain, c.requires)

pub returns : goal.returns
returns c =
    let plain : let s = c.args in escaped_one (writing_of s.e) s.x ≡ s.x ∷ [] = (escaped_one-plain _ _ (sym c.escapes.ensures ∙ c.if-escapes.false)) in
    record {
      value = rw plain;
      out_after = rw plain;
    }
