-- `player::call::called_on` meets its contract.
use mathlib.Core.Logic.{inl, inr}
use Rattle.player.proofs.Calls.{unfit_count, no_words, a-receiver}
use Rattle.player.proofs.call.called_on.Goals.{then-n-gt-ROW-via-then-n-gt-ROW, then-n-gt-ROW-via-else-n-gt-ROW+then-height-n}
use Rattle.player.proofs.call.called_on.Goals as goal

pub returns-then-n-gt-ROW : goal.returns-then-n-gt-ROW
returns-then-n-gt-ROW c =
    elim c.then-n-gt-ROW.branch [
      | then-n-gt-ROW-via-then-n-gt-ROW w ↦ unfit_count (inl w.if-n-gt-ROW.true)
      | then-n-gt-ROW-via-else-n-gt-ROW+then-height-n w ↦ unfit_count (inr (w.if-n-gt-ROW.false, w.if-height-n.true))
    ]

pub returns-then-not-all_words : goal.returns-then-not-all_words
returns-then-not-all_words c = no_words c.if-n-gt-ROW.false c.if-height-n.false c.all_words.ensures c.if-not-all_words.true

pub returns : goal.returns
returns c = a-receiver c.if-n-gt-ROW.false c.if-height-n.false c.all_words.ensures c.if-not-all_words.false c.word.ensures
