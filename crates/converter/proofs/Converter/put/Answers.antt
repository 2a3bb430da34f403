-- `converter::Converter::put` meets its contract: no octets, a frame of KISS, a frame of QAFT. Assumes nothing.
use Rattle.std.proofs.Common.{ℕ, Bool, List, length, sym, refl, ap, ◌∙◌, arith, length-take-le}
use Rattle.common.specs.Buffer.{with_front}
use Rattle.converter.proofs.Writing.{text_none, put_kiss, put_qaft}
use Rattle.converter.specs.Gist.{text_by}
use Rattle.qaft_write.proofs.Numbers.{length_is}
use Rattle.qaft_write.specs.declared.Written.{Written}
use Rattle.converter.proofs.Converter.put.Goals as goal

pub returns-then-n-eq0 : goal.returns-then-n-eq0
returns-then-n-eq0 c =
    let a = c.args in
    let e = text_none a.self.to_kiss a.self.level a.at_flag a.n a.buffer.now c.if-n-eq0.true in
    record {
      value = sym (ap length e);
      out_after = sym (ap (λ (t : List ℕ). with_front t a.out.now) e);
    }

pub slice_bounds-write_frame-end : goal.slice_bounds-write_frame-end
slice_bounds-write_frame-end c =
    let p = c in
    sym (length-take-le p.args.n p.args.buffer.now (omega (arith, p.requires.1, p.requires.2)))

pub returns-then-self : goal.returns-then-self
returns-then-self c =
    let s = c in
    let a = s.args in
    let h = s.requires in
    let w = c.write_frame.ensures in
    let p = put_kiss a.self.level a.at_flag a.n a.buffer.now a.out.now h.0 c.if-n-eq0.false h.1 h.2 h.3 in
    let k = c.if-self.true in
    let text : Bool → List ℕ = λ b. text_by b a.self.level a.at_flag a.n a.buffer.now in
    record {
      value = c.unwrap_or.ensures ∙ length_is _ c.write_frame.result ∙ ap (λ (x : Written). x.length) w.value ∙ p.0 ∙ ap (λ (b : Bool). length (text b)) (sym k);
      out_after = w.out_after ∙ p.1 ∙ ap (λ (b : Bool). with_front (text b) a.out.now) (sym k);
    }

pub returns : goal.returns
returns c =
    let s = c in
    let a = s.args in
    let h = s.requires in
    let w = c.write_frame-2.ensures in
    let p = put_qaft a.self.level a.at_flag a.n a.buffer.now a.out.now h.0 c.if-n-eq0.false h.1 h.2 h.3 _ refl in
    let k = c.if-self.false in
    let text : Bool → List ℕ = λ b. text_by b a.self.level a.at_flag a.n a.buffer.now in
    record {
      value = c.unwrap_or-2.ensures ∙ length_is _ c.write_frame-2.result ∙ ap (λ (x : Written). x.length) w.value ∙ p.0 ∙ ap (λ (b : Bool). length (text b)) (sym k);
      out_after = w.out_after ∙ p.1 ∙ ap (λ (b : Bool). with_front (text b) a.out.now) (sym k);
    }
