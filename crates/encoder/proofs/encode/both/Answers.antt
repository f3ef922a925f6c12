-- Each return is a law of `EncodeLaws`.
use Rattle.encoder.proofs.EncodeLaws.{frames-short, frames-written}
use Rattle.encoder.proofs.encode.both.Goals as goal

pub returns-then-strip-bytes : goal.returns-then-strip-bytes
returns-then-strip-bytes c = search frames-short

pub returns : goal.returns
returns c = search frames-written
