-- One class is written by a law of `OrderLaws`.
use Rattle.std.proofs.Common.{rules, arith, ◌-◌, ◌+◌, ◌≡◌, ℕ, subst}
use Rattle.menu.specs.promises.MenuPost.{StripWritten}
use Rattle.menu.proofs.OrderLaws.{write-none, write-past, write-next}
use Rattle.menu.proofs.order.write.Goals as goal

pub loop-k-init : goal.loop-k-init
loop-k-init c =
    let all : c.args.i + c.args.left - c.args.i ≡ c.args.left = omega arith in
    λ after r w. rw all at w

pub returns-then-row-ge-ABSENT : goal.returns-then-row-ge-ABSENT
returns-then-row-ge-ABSENT c = c.loop-k.invariant c.loop-k.strip _ (search (write-past, rules))

pub loop-k-preserved : goal.loop-k-preserved
loop-k-preserved c = λ after r w.
    let behind = c.args.i + c.args.left in
    let fewer : behind - (c.loop-k.k + 1) ≡ behind - c.loop-k.k - 1 = omega arith in
    let rest =
    subst (λ (n : ℕ). StripWritten c.args.table.now c.free.new.tree c.args.first.now c.args.next.now (c.loop-k.k + 1) n c.put.new.words after r)
    fewer w in
    c.loop-k.invariant after r (search (write-next, rest, rules))

pub returns : goal.returns
returns c = c.loop-k.invariant c.loop-k.strip 0 (write-none (search rules))
