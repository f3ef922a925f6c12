-- `lexer::bytes::equal` meets its contract: after i turns the first i bytes are equal, so the rest decides.
use mathlib.Core.Path.{sym}
use Rattle.base.specs.laws.Tests.{same-unlike}
use Rattle.lexer.proofs.Runs.{alike-start, alike-more, alike-not, alike_end}
use Rattle.lexer.proofs.bytes.equal.Goals as goal

pub returns-then-a-b : goal.returns-then-a-b
returns-then-a-b c = sym (same-unlike c.args.a.now c.args.b.now c.if-a-b.true)

pub loop-i-init : goal.loop-i-init
loop-i-init c = alike-start c.if-a-b.false

pub returns-then-a-i : goal.returns-then-a-i
returns-then-a-i c = alike-not c.loop-i-test.true c.if-a-i.true c.loop-i.invariant

pub loop-i-preserved : goal.loop-i-preserved
loop-i-preserved c = alike-more c.loop-i-test.true c.if-a-i.false c.loop-i.invariant

pub returns : goal.returns
returns c = alike_end c.loop-i-test.false c.loop-i.invariant
