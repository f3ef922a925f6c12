-- Two digits, eight digits, a line feed.
use Rattle.encoder.specs.laws.Bytes.{puts-line}
use Rattle.encoder.proofs.hex.line.Goals as goal

pub returns : goal.returns
returns c = search puts-line
