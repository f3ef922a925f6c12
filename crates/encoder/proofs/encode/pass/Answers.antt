-- The lines of the instructions, and behind them the tables.
use Rattle.encoder.proofs.EncodeLaws.{passed}
use Rattle.encoder.proofs.encode.pass.Goals as goal

pub returns : goal.returns
returns c = search passed
