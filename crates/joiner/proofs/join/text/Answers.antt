-- `text` meets its contract: each return is a law of `Joining`.
use Rattle.joiner.proofs.Joining.{text-short, text-done}
use Rattle.joiner.proofs.join.text.Goals as goal

pub returns-then-strip-size : goal.returns-then-strip-size
returns-then-strip-size c = text-short _ _ _ c.kept_size-kept.ensures.0 c.if-strip-size.true

pub returns : goal.returns
returns c = text-done _ _ _ c.kept_size-kept.ensures.0 c.if-strip-size.false c.write_text.ensures
