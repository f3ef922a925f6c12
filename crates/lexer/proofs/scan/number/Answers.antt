-- `lexer::scan::number` meets its contract: the byte where the digits end and the one behind it decide.
use Prim.Native.Nat.{◌<◌}
use native.Mathlib.Omega.{arith}
use mathlib.Core.Path.{sym, ◌∙◌}
use lib.ListN.{length}
use Rattle.lexer.specs.Bytes.{b_dot}
use Rattle.lexer.proofs.Items.{byte_inside, piece-fixed, piece-literal, piece-before-point}
use Rattle.lexer.proofs.scan.number.Goals as goal

pub run_end-end-requires : goal.run_end-end-requires
run_end-end-requires c = (c.requires.0, omega arith)

pub overflow_add-end : goal.overflow_add-end
overflow_add-end c = omega (arith, (let it : c.run_end-end.result < length c.args.source.now = byte_inside c.args.source.now _ b_dot (sym c.byte_at.ensures ∙ c.if-byte_at-eq46.true) (omega arith) in it))

pub overflow_add-end-then-kind_of-eq-DIGIT : goal.overflow_add-end-then-kind_of-eq-DIGIT
overflow_add-end-then-kind_of-eq-DIGIT c = omega (arith, (let it : c.run_end-end.result < length c.args.source.now = byte_inside c.args.source.now _ b_dot (sym c.byte_at.ensures ∙ c.if-byte_at-eq46.true) (omega arith) in it))

pub run_end-requires : goal.run_end-requires
run_end-requires c =
    let p = (let it : c.run_end-end.result < length c.args.source.now = byte_inside c.args.source.now _ b_dot (sym c.byte_at.ensures ∙ c.if-byte_at-eq46.true) (omega arith) in it) in
    (c.requires.0, omega (arith, p))

pub returns-then-kind_of-eq-DIGIT : goal.returns-then-kind_of-eq-DIGIT
returns-then-kind_of-eq-DIGIT c =
    piece-fixed c.args.source.now c.args.at c.requires.1.inside c.requires.1 c.run_end-end.ensures c.byte_at.ensures c.if-byte_at-eq46.true
    c.byte_at-then-byte_at-eq46.ensures (sym c.kind_of.ensures ∙ c.if-kind_of-eq-DIGIT.true) c.run_end.ensures

pub returns-else-kind_of-eq-DIGIT : goal.returns-else-kind_of-eq-DIGIT
returns-else-kind_of-eq-DIGIT c =
    piece-before-point c.args.source.now c.args.at c.requires.1.inside c.requires.1 c.run_end-end.ensures c.byte_at.ensures c.if-byte_at-eq46.true
    c.byte_at-then-byte_at-eq46.ensures (λ q. c.if-kind_of-eq-DIGIT.false (c.kind_of.ensures ∙ q))

pub returns-else-byte_at-eq46 : goal.returns-else-byte_at-eq46
returns-else-byte_at-eq46 c =
    piece-literal c.args.source.now c.args.at c.requires.1.inside c.requires.1 c.run_end-end.ensures c.byte_at.ensures c.if-byte_at-eq46.false
