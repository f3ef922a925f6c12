-- `lexer::scan::slash` meets its contract: the second byte decides between the two kinds of comment and nothing.
use native.Mathlib.Omega.{arith}
use mathlib.Core.Path.{sym, ap, ◌∙◌}
use Rattle.lexer.specs.Bytes.{b_star}
use Rattle.lexer.specs.promises.Scan.{piece_of}
use Rattle.lexer.proofs.Items.{byte_inside, at-slash, on_closing, piece-line, piece-block}
use Rattle.lexer.proofs.scan.slash.Goals as goal

pub returns-then-next-eq47 : goal.returns-then-next-eq47
returns-then-next-eq47 c =
    piece-line c.args.source.now c.args.at c.requires.1 c.requires.2 (sym c.byte_at-next.ensures ∙ c.if-next-eq47.true) c.run_end.ensures

pub comment_end-requires : goal.comment_end-requires
comment_end-requires c =
    let q = byte_inside c.args.source.now _ b_star (sym c.byte_at-next.ensures ∙ c.if-next-eq42.true) (omega arith) in
    omega arith

pub returns-in-Some : goal.returns-in-Some
returns-in-Some c =
    ap on_closing (sym c.in-Some.is)
    ∙ piece-block c.args.source.now c.args.at c.requires.1 c.requires.2 (sym c.byte_at-next.ensures ∙ c.if-next-eq42.true) c.comment_end.ensures

pub returns-in-None : goal.returns-in-None
returns-in-None c =
    ap on_closing (sym c.in-None.is)
    ∙ piece-block c.args.source.now c.args.at c.requires.1 c.requires.2 (sym c.byte_at-next.ensures ∙ c.if-next-eq42.true) c.comment_end.ensures

pub returns : goal.returns
returns c =
    sym (ap (piece_of c.args.at) (at-slash c.args.source.now c.args.at c.requires.1 c.requires.2 (λ q. c.if-next-eq47.false (c.byte_at-next.ensures ∙ q)) (λ q. c.if-next-eq42.false (c.byte_at-next.ensures ∙ q))))
