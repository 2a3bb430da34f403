-- What the limit leads to. Assumes nothing.
use Prim.Native.Nat.{◌<◌}
use native.Mathlib.Omega.{arith}
use mathlib.Core.Path.{◌≡◌, refl}
use Rattle.dlc_packet.specs.Numbers.{modulus}
use Rattle.dlc_queue.specs.Queue.{slots, reply_size}

-- the window's law: fewer slots than numbers. Demand 3 rests on it (`lawful` in dlc_pair/proofs/Effects); docs/SIXTEEN.md says what happens without it
pub slots_below : slots < modulus
slots_below = omega arith

-- "the reply store grows to 3,855 octets" (2026-06)
pub reply_size_lem : reply_size ≡ 3855
reply_size_lem = refl
