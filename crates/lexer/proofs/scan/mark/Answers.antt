-- `lexer::scan::mark` meets its contract.
use native.Mathlib.Omega.{arith}
use mathlib.Core.Path.{sym, ap, ◌∙◌}
use Rattle.lexer.specs.Bytes.{b_ampersand}
use Rattle.lexer.specs.promises.Scan.{piece_of}
use Rattle.lexer.proofs.Items.{byte_inside, at-and, at-lone-and, piece-mark}
use Rattle.lexer.proofs.scan.mark.Goals as goal

pub overflow_add-at : goal.overflow_add-at
overflow_add-at c = omega arith

pub overflow_add-result : goal.overflow_add-result
overflow_add-result c =
    let q = byte_inside c.args.source.now _ b_ampersand (sym c.byte_at.ensures ∙ c.if-byte_at-eq38.true) (omega arith) in omega arith

pub returns-then-byte_at-eq38 : goal.returns-then-byte_at-eq38
returns-then-byte_at-eq38 c =
    sym (ap (piece_of c.args.at) (at-and c.args.source.now c.args.at c.requires.inside (sym c.requires.is ∙ c.if-b-eq38.true) (sym c.byte_at.ensures ∙ c.if-byte_at-eq38.true)))

pub returns-then-b-eq38 : goal.returns-then-b-eq38
returns-then-b-eq38 c =
    sym (ap (piece_of c.args.at) (at-lone-and c.args.source.now c.args.at c.requires.inside (sym c.requires.is ∙ c.if-b-eq38.true) (λ q. c.if-byte_at-eq38.false (c.byte_at.ensures ∙ q))))

pub overflow_add-result-2 : goal.overflow_add-result-2
overflow_add-result-2 c = omega arith

pub returns : goal.returns
returns c =
    piece-mark c.args.source.now c.args.at c.requires.inside c.requires c.if-b-eq38.false c.mark_kind.ensures
