-- `printer::token::token` meets its contract: at the position that the row has its token begins, and it is copied as far as it goes.
use Rattle.std.proofs.Common.{rules, sym, ◌∙◌, inl, inr}
use Rattle.printer.specs.laws.PutLaws.{starts-before, ends-inside, no_gap, no-unclosed, no-nothing, past-source, token-put}
use Rattle.printer.proofs.token.token.Goals as goal

pub slice_bounds-spell-end : goal.slice_bounds-spell-end
slice_bounds-spell-end c =
    let e = sym c.in-Token.is ∙ c.piece_at.ensures in
    let a = starts-before _ _ _ _ c.if-start-source.true e in
    let b = ends-inside _ _ _ _ c.if-start-source.true e in
    search rules

pub returns-in-Token : goal.returns-in-Token
returns-in-Token c =
    token-put c.word-start.ensures.0 (sym c.in-Token.is ∙ c.piece_at.ensures) c.after.ensures
    c.spell.ensures

pub returns-in-Gap : goal.returns-in-Gap
returns-in-Gap c =
    elim c.in-Gap.is [
      | inl g ↦ no_gap (search rules) c.word-start.ensures.0 (sym g.1 ∙ c.piece_at.ensures)
      | inr o ↦ elim o [
        | inl u ↦ no-unclosed (search rules) c.word-start.ensures.0 (sym u ∙ c.piece_at.ensures)
        | inr k ↦ no-nothing (search rules) c.word-start.ensures.0 (sym k ∙ c.piece_at.ensures)
      ]
    ]

pub returns : goal.returns
returns c = past-source (search rules) c.word-start.ensures.0 c.if-start-source.false
