-- Document 02, (viii): what a lesson without `Port` is, and what two of its runs with other tapes have in common.
use Rattle.std.specs.Prelude.{◌≡◌}
use Rattle.base.specs.All.{All}
use Rattle.parser.specs.Tree.{Sort, Part, Method, Class, Program}
use Rattle.parser.specs.Tree.{Part.literal, Part.truth, Part.variable, Part.this, Part.new_array_lem, Part.new_object_lem, Part.negation, Part.binary}
use Rattle.parser.specs.Tree.{Part.element, Part.array_length, Part.call, Part.port_get_lem, Part.no_arguments, Part.argument}
use Rattle.parser.specs.Tree.{Part.block, Part.conditional, Part.loop, Part.print, Part.assign, Part.assign_element_lem, Part.port_put_lem}
use Rattle.parser.specs.Tree.{Part.no_statements, Part.sequence}
use Rattle.semantics.specs.Limits.{Report}

-- no part of it is a `Port.get` or a `Port.put`
abbrev pub NoPort : {s : Sort} → Part s → Type 0
NoPort (literal p n) = Unit {0}
NoPort (truth p b) = Unit {0}
NoPort (variable p x) = Unit {0}
NoPort (this p) = Unit {0}
NoPort (new_array_lem p u e) = NoPort e
NoPort (new_object_lem p c) = Unit {0}
NoPort (negation p e) = NoPort e
NoPort (binary p o l r) = NoPort l × NoPort r
NoPort (element p a i) = NoPort a × NoPort i
NoPort (array_length p a) = NoPort a
NoPort (call p e m es) = NoPort e × NoPort es
NoPort (port_get_lem p e) = ⊥
NoPort no_arguments = Unit {0}
NoPort (argument e es) = NoPort e × NoPort es
NoPort (block p ss) = NoPort ss
NoPort (conditional p e s t) = NoPort e × NoPort s × NoPort t
NoPort (loop p e s) = NoPort e × NoPort s
NoPort (print p e) = NoPort e
NoPort (assign p x e) = NoPort e
NoPort (assign_element_lem p x i e) = NoPort i × NoPort e
NoPort (port_put_lem p n e) = ⊥
NoPort no_statements = Unit {0}
NoPort (sequence s ss) = NoPort s × NoPort ss

pub record MethodWithout (m : Method) : Type 0 where
  pub body : NoPort m.body
  pub value : NoPort m.value

pub record Portless (p : Program) : Type 0 where
  pub main : NoPort p.statement
  pub classes : All (λ (k : Class). All MethodWithout k.methods) p.classes

-- two reports that differ in their registers at the most
pub record SameButRegisters (r r' : Report) : Type 0 where
  pub ending : r.ending ≡ r'.ending
  pub steps : r.steps ≡ r'.steps
  pub climbs : r.climbs ≡ r'.climbs
  pub words : r.words ≡ r'.words
  pub printed : r.printed ≡ r'.printed
