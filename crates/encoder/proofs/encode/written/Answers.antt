-- What the arrays hold is the whole of the lesson.
use Rattle.encoder.proofs.EncodeLaws.{all-written, lines-few, methods-few}
use Rattle.encoder.proofs.encode.written.Goals as goal

pub invariant_of-plan : goal.invariant_of-plan
invariant_of-plan c = record { few_classes = c.requires.1 }

pub both-requires : goal.both-requires
both-requires c = (c.requires.0, lines-few c.behind.ensures, methods-few c.requires.1 c.each-methods.ensures)

pub returns : goal.returns
returns c =
    all-written c.prepare.ensures c.word-first.ensures.0 c.classes.ensures c.each-methods.ensures c.behind.ensures _ c.both.ensures
