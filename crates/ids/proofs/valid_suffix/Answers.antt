-- `ids::valid_suffix`: what is appended decides.
use Rattle.std.proofs.Common.{rules}
use Rattle.ids.proofs.Id.{suffix_appended}
use Rattle.ids.proofs.valid_suffix.Goals as goal

pub returns-then-not-is_empty : goal.returns-then-not-is_empty
returns-then-not-is_empty c = suffix_appended c.args.octets.now _ (search rules) c.in-45.len_at_least (search rules) c.all_graphic.ensures
