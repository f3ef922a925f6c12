-- A part lies among the tokens from `first` up to `end`: its own token is one of them, the parts that stand before that token lie before
-- it, those that stand behind it behind it. So a part lies in a smaller range than its whole, which is why judging a tree ends.
use Rattle.std.specs.Prelude.{ℕ, ◌+◌, ◌≤◌, ◌<◌}
use Rattle.parser.specs.Tree.{Sort, Part}
use Rattle.parser.specs.Tree.{Part.literal, Part.truth, Part.variable, Part.this, Part.new_array_lem, Part.new_object_lem, Part.negation, Part.binary}
use Rattle.parser.specs.Tree.{Part.element, Part.array_length, Part.call, Part.port_get_lem, Part.no_arguments, Part.argument}
use Rattle.parser.specs.Tree.{Part.block, Part.conditional, Part.loop, Part.print, Part.assign, Part.assign_element_lem, Part.port_put_lem}
use Rattle.parser.specs.Tree.{Part.no_statements, Part.sequence}
use Rattle.parser.specs.promises.Layout.{row_of}

-- a row is among those from `first` up to `end`
pub record Among (first end row : ℕ) : Type 0 where
  pub low : first ≤ row
  pub high : row < end

unfoldable pub Spans : {s : Sort} → (first end : ℕ) → Part s → Type 0
Spans first end (literal p n) = Among first end p.row
Spans first end (truth p b) = Among first end p.row
Spans first end (variable p x) = Among first end p.row
Spans first end (this p) = Among first end p.row
Spans first end (new_array_lem p u e) = Among first end p.row × Spans (p.row + 1) end e
Spans first end (new_object_lem p c) = Among first end p.row
Spans first end (negation p e) = Among first end p.row × Spans (p.row + 1) end e
Spans first end (binary p o l r) = Among first end p.row × Spans first p.row l × Spans (p.row + 1) end r
Spans first end (element p a i) = Among first end p.row × Spans first p.row a × Spans (p.row + 1) end i
Spans first end (array_length p a) = Among first end p.row × Spans first p.row a
Spans first end (call p e m es) = Among first end p.row × Spans first p.row e × Spans (p.row + 1) end es
Spans first end (port_get_lem p e) = Among first end p.row × Spans (p.row + 1) end e
Spans first end no_arguments = Unit {0}
Spans first end (argument e es) = Spans first end e × Spans (row_of e + 1) end es
Spans first end (block p ss) = Among first end p.row × Spans (p.row + 1) end ss
Spans first end (conditional p e s t) =
    Among first end p.row × Spans (p.row + 1) end e × Spans (p.row + 1) end s × Spans (p.row + 1) end t
Spans first end (loop p e s) = Among first end p.row × Spans (p.row + 1) end e × Spans (p.row + 1) end s
Spans first end (print p e) = Among first end p.row × Spans (p.row + 1) end e
Spans first end (assign p x e) = Among first end p.row × Spans (p.row + 1) end e
Spans first end (assign_element_lem p x i e) = Among first end p.row × Spans (p.row + 1) end i × Spans (p.row + 1) end e
Spans first end (port_put_lem p n e) = Among first end p.row × Spans (p.row + 1) end n × Spans (p.row + 1) end e
Spans first end no_statements = Unit {0}
Spans first end (sequence s ss) = Spans first end s × Spans (row_of s + 1) end ss
