-- The measure is 1 before the lesson is checked. What was found of it is known at the call of itself; each return is a law of `RunLaws`.
use Rattle.std.proofs.Common.{rules, arith}
use Rattle.runner.proofs.RunLaws.{accepted-few, performed, checked, unperformed, now-known}
use Rattle.runner.proofs.run.+perform.Goals as goal

pub accepted-requires : goal.accepted-requires
accepted-requires t c = search (rules, accepted-few c.requires.3 c.in-Some.is)

pub returns-in-Some : goal.returns-in-Some
returns-in-Some t c = performed c.requires.3 c.in-Some.is c.accepted.ensures

pub perform-r-requires : goal.perform-r-requires
perform-r-requires t c =
    (omega (arith, rw c.in_default.is at c.decreases), (search rules, search rules, search rules, now-known c.find.ensures c.in-Ok.is, search rules))

pub returns-in-Ok : goal.returns-in-Ok
returns-in-Ok t c =
    checked _ _ _ c.perform-r.ensures (search rules) (search rules) (c.fill.ensures.after (λ y e. e)) (c.fill-in-Ok.ensures.after (λ y e. e))

pub returns-in-Err : goal.returns-in-Err
returns-in-Err t c =
    unperformed _ _ _ _ _ _ _ _ _ c.find.ensures c.in-Err.is (search rules) (c.fill-in-Err.ensures.after (λ y e. e)) (c.fill-in-Err-2.ensures.after (λ y e. e))
    c.refusal.ensures
