-- `same` meets its contract: so far as the loop has come, the names are the same.
use Rattle.std.proofs.Common.{◌≡◌, ◌+◌, ◌-◌, ◌∙◌, arith}
use Rattle.joiner.specs.promises.Names.{same_within_lem, name_room}
use Rattle.joiner.proofs.Naming.{same_none, same-unlike, same_end, same_more}
use Rattle.joiner.proofs.names.same.Goals as goal

pub returns-then-x-y : goal.returns-then-x-y
returns-then-x-y c =
    same-unlike _ _ _ _ {n = name_room - c.loop-k.k} (omega arith) c.part_at-x.ensures c.part_at-y.ensures c.if-x-y.true ∙ c.loop-k.invariant

pub returns-then-x-eq0 : goal.returns-then-x-eq0
returns-then-x-eq0 c =
    same_end _ _ _ _ {n = name_room - c.loop-k.k} (omega arith) c.part_at-x.ensures c.part_at-y.ensures c.if-x-y.false c.if-x-eq0.true
    ∙ c.loop-k.invariant

pub loop-k-preserved : goal.loop-k-preserved
loop-k-preserved c =
    let a = c.args in
    let k = c.loop-k.k in
    let i : a.i + (k + 1) ≡ a.i + k + 1 = omega arith in
    let j : a.j + (k + 1) ≡ a.j + k + 1 = omega arith in
    let n : name_room - (k + 1) ≡ name_room - k - 1 = omega arith in
    same_more a.a.now (a.i + k) a.b.now (a.j + k) {n = name_room - k} (omega arith) c.part_at-x.ensures c.part_at-y.ensures c.if-x-y.false
    c.if-x-eq0.false (λ t. same_within_lem a.a.now (i t) a.b.now (j t) (n t))
    ∙ c.loop-k.invariant

pub returns : goal.returns
returns c = same_none _ _ _ _ {n = name_room - c.loop-k.k} (omega arith) ∙ c.loop-k.invariant
