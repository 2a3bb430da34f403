-- `afp_write::Parts::size_refusal`: one law for each answer.
use Rattle.std.proofs.Common.{length, arith}
use Rattle.afp_write.proofs.Refusals.{size_short, size_long, size_data, size_room, size_done}
use Rattle.afp_write.proofs.Parts.size_refusal.Goals as goal

pub returns-then-self-gt-MAX_VARIABLE : goal.returns-then-self-gt-MAX_VARIABLE
returns-then-self-gt-MAX_VARIABLE c = size_long (length c.args.self.fields.now) (length c.args.self.supplementary.now) (length c.args.self.payload.now) c.args.room (omega arith)

pub returns-then-self-gt-MAX_VARIABLE-2 : goal.returns-then-self-gt-MAX_VARIABLE-2
returns-then-self-gt-MAX_VARIABLE-2 c = size_long (length c.args.self.fields.now) (length c.args.self.supplementary.now) (length c.args.self.payload.now) c.args.room (omega arith)

pub returns-then-header-lt-MIN_HEADER : goal.returns-then-header-lt-MIN_HEADER
returns-then-header-lt-MIN_HEADER c = size_short (length c.args.self.fields.now) (length c.args.self.supplementary.now) (length c.args.self.payload.now) c.args.room (omega arith)

pub returns-then-header-gt-MAX_HEADER : goal.returns-then-header-gt-MAX_HEADER
returns-then-header-gt-MAX_HEADER c = size_long (length c.args.self.fields.now) (length c.args.self.supplementary.now) (length c.args.self.payload.now) c.args.room (omega arith)

pub returns-then-self-gt-MAX_DATA : goal.returns-then-self-gt-MAX_DATA
returns-then-self-gt-MAX_DATA c = size_data (length c.args.self.fields.now) (length c.args.self.supplementary.now) (length c.args.self.payload.now) c.args.room (omega arith) (omega arith) (omega arith)

pub returns-then-room-frame : goal.returns-then-room-frame
returns-then-room-frame c = size_room (length c.args.self.fields.now) (length c.args.self.supplementary.now) (length c.args.self.payload.now) c.args.room (omega arith) (omega arith) (omega arith) (omega arith)

pub returns : goal.returns
returns c = size_done (length c.args.self.fields.now) (length c.args.self.supplementary.now) (length c.args.self.payload.now) c.args.room (omega arith) (omega arith) (omega arith) (omega arith)
