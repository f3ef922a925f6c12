-- `lexer::scan::word` meets its contract: the run of letters, digits and underscores is the part whose kind is asked.
use native.Mathlib.Omega.{arith}
use lib.ListN.{drop, length-drop}
use Rattle.lexer.specs.Bytes.{is_name_part_lem}
use Rattle.lexer.proofs.laws.ItemLaws.{run_short}
use Rattle.lexer.proofs.Items.{piece-word}
use Rattle.lexer.proofs.scan.word.Goals as goal

pub run_end-end-requires : goal.run_end-end-requires
run_end-end-requires c = (c.requires.0, omega arith)

pub slice_bounds-word_kind-end : goal.slice_bounds-word_kind-end
slice_bounds-word_kind-end c =
    omega (arith, c.run_end-end.ensures, run_short is_name_part_lem (drop c.args.at c.args.source.now), length-drop c.args.at c.args.source.now)

pub returns : goal.returns
returns c =
    piece-word c.args.source.now c.args.at c.requires.1.inside c.requires.1 c.run_end-end.ensures c.word_kind.ensures
