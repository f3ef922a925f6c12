-- Register 0 by its number, as the definition has it.
use Rattle.std.proofs.Common.{rules}
use Rattle.device.proofs.StateLaws.{put-status}
use Rattle.device.proofs.state.put.Goals as goal

pub returns-in-0 : goal.returns-in-0
returns-in-0 c = search (put-status, rules)
