-- One child is freed by a law of `OrderLaws`.
use Rattle.std.proofs.Common.{rules, arith, ◌-◌, ◌+◌, ◌≡◌, ℕ, subst}
use Rattle.menu.specs.promises.MenuPost.{Freed}
use Rattle.menu.proofs.OrderLaws.{free-none, free-past, free-next}
use Rattle.menu.proofs.order.free.Goals as goal

pub returns-then-child-ge-ABSENT : goal.returns-then-child-ge-ABSENT
returns-then-child-ge-ABSENT c = c.loop-i.invariant c.loop-i.tree (search (free-past, rules))

pub loop-i-preserved : goal.loop-i-preserved
loop-i-preserved c = λ after m.
    let fewer : c.args.most - (c.loop-i._i + 1) ≡ c.args.most - c.loop-i._i - 1 = omega arith in
    let rest = subst (λ (k : ℕ). Freed c.args.next.now k c.cell-child.result c.enter.new.tree after) fewer m in
    c.loop-i.invariant after (search (free-next, rest, rules))

pub returns : goal.returns
returns c = c.loop-i.invariant c.loop-i.tree (free-none (search rules))
