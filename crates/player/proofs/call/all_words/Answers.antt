-- `player::call::all_words` meets its contract.
use Prim.Native.Nat.{◌≤◌, ◌<◌}
use borrow.Author.Rules.{rules}
use borrow.Author.Tests.{tests}
use Rattle.std.proofs.lemmas.Iterator.{cases_from_all, YieldsList-from_slice}
use Rattle.player.proofs.Calls.{words-are}
use Rattle.player.proofs.call.all_words.Goals as goal

pub returns : goal.returns
returns c =
    words-are c.args.entries.now c.all.result
    (cases_from_all _ _ _ (λ x. x < 4294967296) (λ x. 4294967296 ≤ x) c.all.ensures.ran (YieldsList-from_slice c.args.entries.now cc)
    (λ x q k. search (rules, tests)) (λ x q k. search (rules, tests)))
