-- `lexer::bytes::byte_at` meets its contract: past the end the element is the default.
use mathlib.Core.Path.{sym}
use lib.ListN.{get_or-eq_default}
use Rattle.lexer.proofs.bytes.byte_at.Goals as goal

pub returns-else-at-source : goal.returns-else-at-source
returns-else-at-source c = sym (get_or-eq_default c.args.source.now 0 c.if-at-source.false)
