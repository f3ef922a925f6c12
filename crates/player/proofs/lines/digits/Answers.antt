-- `player::lines::digits` meets its contract: the digits before i came to v.
use borrow.Author.Rules.{rules}
use native.Mathlib.Omega.{arith}
use mathlib.Core.Path.{refl}
use Rattle.player.proofs.Forward.{starts, room-more, no_digit, a-digit, all_read}
use Rattle.player.proofs.lines.digits.Goals as goal

pub loop-i-init : goal.loop-i-init
loop-i-init c = starts refl c.requires.0 c.requires.1

pub overflow_mul-v : goal.overflow_mul-v
overflow_mul-v c = omega (arith, room-more c.loop-i.invariant c.loop-i-test.true)

pub returns-in_err-v : goal.returns-in_err-v
returns-in_err-v c = search (rules, no_digit, c.in_err-v.ensures.0)

pub overflow_add-v : goal.overflow_add-v
overflow_add-v c = omega (arith, room-more c.loop-i.invariant c.loop-i-test.true, c.in_ok-v.ensures.1)

pub loop-i-preserved : goal.loop-i-preserved
loop-i-preserved c = a-digit c.loop-i.invariant c.loop-i-test.true c.in_ok-v.ensures.0 c.in_ok-v.ensures.1

pub returns : goal.returns
returns c = all_read c.loop-i.invariant c.loop-i-test.false
