-- `player::lines::line_at` meets its contract.
use borrow.Author.Rules.{rules}
use Rattle.player.proofs.Lining.{too_short, no_code, no_operand, no-feed, a-feed, code-small}
use native.Mathlib.Omega.{arith}
use Rattle.player.proofs.lines.line_at.Goals as goal

pub returns-then-text-at-lt-LINE : goal.returns-then-text-at-lt-LINE
returns-then-text-at-lt-LINE c = search (rules, too_short)

pub returns-in_err-code : goal.returns-in_err-code
returns-in_err-code c = search (rules, no_code)

pub returns-in_err-operand : goal.returns-in_err-operand
returns-in_err-operand c = search (rules, no_operand, c.in_ok-code.ensures, c.in_err-operand.ensures)

pub returns-then-text-at-ne10 : goal.returns-then-text-at-ne10
returns-then-text-at-ne10 c = search (rules, no-feed, c.in_ok-code.ensures, c.in_ok-operand.ensures)

pub overflow_cast-result : goal.overflow_cast-result
overflow_cast-result c = omega (arith, code-small c.args.text.now c.args.at c.in_ok-code.code c.in_ok-code.ensures (omega arith))

pub returns : goal.returns
returns c = search (rules, a-feed, c.in_ok-code.ensures, c.in_ok-operand.ensures)
