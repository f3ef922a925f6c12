-- `player::row::field` meets its contract.
use borrow.Author.Rules.{rules}
use Rattle.player.proofs.Rows.{large-receiver, no_field, a-field}
use Rattle.player.proofs.row.field.Goals as goal

pub returns-in_err-r : goal.returns-in_err-r
returns-in_err-r c = search (rules, large-receiver)

pub returns-then-r-lt1 : goal.returns-then-r-lt1
returns-then-r-lt1 c = no_field c.in_ok-r.ensures c.then-r-lt1.either

pub returns : goal.returns
returns c = a-field c.in_ok-r.ensures c.if-r-lt1.false c.if-words-j.false
