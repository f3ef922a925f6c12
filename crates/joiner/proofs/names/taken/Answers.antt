-- `taken` meets its contract: none of the names before was the same.
use Rattle.std.proofs.Common.{◌≡◌, ◌+◌, ◌-◌, ◌∙◌, ap, refl, length, arith}
use Rattle.joiner.specs.promises.Names.{taken_within_lem}
use Rattle.joiner.proofs.Naming.{taken_none, taken_here, taken-there}
use Rattle.joiner.proofs.names.taken.Goals as goal

pub returns-then-same : goal.returns-then-same
returns-then-same c =
    taken_here _ _ _ _ _ {n = length c.args.names.now - c.loop-own.own-index} (omega arith) refl c.same.ensures c.if-same.true
    ∙ c.loop-own.invariant

pub loop-own-preserved : goal.loop-own-preserved
loop-own-preserved c =
    let a = c.args in
    let i = c.loop-own.own-index in
    let n : length a.names.now - (i + 1) ≡ length a.names.now - i - 1 = omega arith in
    taken-there a.lesson.now a.names.now i a.library.now a.at {n = length a.names.now - i} (omega arith) refl c.same.ensures c.if-same.false
    (ap (λ m. taken_within_lem a.lesson.now a.names.now (i + 1) m a.library.now a.at) n)
    ∙ c.loop-own.invariant

pub returns : goal.returns
returns c =
    taken_none _ _ _ _ _ {n = length c.args.names.now - c.loop-own.own-index} (omega arith) ∙ c.loop-own.invariant
