-- Each return is a law of `EncodeLaws`.
use Rattle.std.proofs.Common.{arith}
use Rattle.encoder.proofs.EncodeLaws.{encode-short, encode-answer}
use Rattle.encoder.proofs.encode.encode.Goals as goal

pub returns-then-table-lt-TABLE_LEAST : goal.returns-then-table-lt-TABLE_LEAST
returns-then-table-lt-TABLE_LEAST c = encode-short _ _ _ c.if-table-lt-TABLE_LEAST.true

pub returns : goal.returns
returns c =
    encode-answer c.args.source.now c.args.table.now c.args.strip.now c.if-table-lt-TABLE_LEAST.false _ c.answer-encoded.new.table
    c.answer-encoded.ensures (omega arith) (c.fill.ensures.after (λ y e. e))
