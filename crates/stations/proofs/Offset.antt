-- Laws of octet 4. Assumes nothing.
use mathlib.Core.Path.{◌≡◌, ap}
use mathlib.Core.Bool.{Bool, cond}
use Prim.Native.Nat.{◌+◌}
use borrow.Author.Tests.{eq-eqb, ne_eqb}
use Rattle.stations.specs.Fields.{fields_at, next_offset}
use Rattle.stations.specs.declared.Next.{Next}

-- a next station has been found
abbrev pub Found : Next → Type 0
Found x = x.number ≡ 0 → ⊥

pub offset_none : (x : Next) → x.number ≡ 0 → next_offset x ≡ 0
unfolding next_offset
offset_none x e = ap (λ (b : Bool). cond b 0 (fields_at + x.index)) (eq-eqb x.number 0 e)

pub offset_some : (x : Next) → Found x → next_offset x ≡ fields_at + x.index
unfolding next_offset
offset_some x f = ap (λ (b : Bool). cond b 0 (fields_at + x.index)) (ne_eqb x.number 0 f)
