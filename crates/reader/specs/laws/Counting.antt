-- A program has at most as many nodes as tokens: what is derived from the tokens i up to j has at most j - i nodes, each with a token of
-- its own there.
use Rattle.std.specs.Prelude.{ℕ, ◌+◌, ◌≤◌, List, length}
use native.Mathlib.Omega.{arith}
use Rattle.lexer.specs.Tokens.{Token}
use Rattle.parser.specs.Tree.{Sort, Part, Method, Class, Program}
use Rattle.parser.specs.Measure.{nodes, methods_nodes, classes_nodes, program_nodes}
use Rattle.parser.specs.Grammar.{Kind, Derives, DerivesMethod, DerivesMethods, DerivesClass, DerivesClasses, DerivesProgram}
use Rattle.parser.specs.Grammar.{Derives.operate, Derives.one-operand, Derives.negate, Derives.no-negation, Derives.make-array, Derives.no-array, Derives.index, Derives.take-length, Derives.invoke, Derives.no-suffix}
use Rattle.parser.specs.Grammar.{Derives.a-literal, Derives.a-true, Derives.a-false, Derives.a-name, Derives.a-this, Derives.make-object, Derives.get-register, Derives.parentheses, Derives.none-given, Derives.some-given, Derives.one_argument, Derives.more-arguments}
use Rattle.parser.specs.Grammar.{Derives.a_block, Derives.an-if, Derives.a-while, Derives.a-print, Derives.an-assignment, Derives.an-element-assignment, Derives.put-register, Derives.no-statement, Derives.more-statements}
use Rattle.parser.specs.Grammar.{Derives.a-fixed-literal, DerivesMethod.a-method, DerivesMethods.no-method, DerivesMethods.more-methods}
use Rattle.parser.specs.Grammar.{DerivesClass.a-class-declaration, DerivesClasses.no-class, DerivesClasses.more-classes, DerivesProgram.a_program}
use Rattle.reader.specs.laws.Stored.{variable-lies, variables-lie, formals-lie, parent-order}

module _ {ts : List Token} where
  pub tree-nodes : {s : Sort} {k : Kind s} {i j : ℕ} {t : Part s} → Derives ts s k i j t → i + nodes t ≤ j
  unfolding nodes
  tree-nodes (operate d _ d') = omega (arith, tree-nodes d, tree-nodes d')
  tree-nodes (one-operand d) = tree-nodes d
  tree-nodes (negate _ d) = omega (arith, tree-nodes d)
  tree-nodes (no-negation d) = tree-nodes d
  tree-nodes (make-array _ _ _ d _) = omega (arith, tree-nodes d)
  tree-nodes (no-array d) = tree-nodes d
  tree-nodes (index d _ d' _) = omega (arith, tree-nodes d, tree-nodes d')
  tree-nodes (take-length d _ _) = omega (arith, tree-nodes d)
  tree-nodes (invoke d _ _ _ d' _) = omega (arith, tree-nodes d, tree-nodes d')
  tree-nodes (no-suffix d) = tree-nodes d
  tree-nodes (a-literal _) = omega arith
  tree-nodes (a-fixed-literal _) = omega arith
  tree-nodes (a-true _) = omega arith
  tree-nodes (a-false _) = omega arith
  tree-nodes (a-name _) = omega arith
  tree-nodes (a-this _) = omega arith
  tree-nodes (make-object _ _ _ _) = omega arith
  tree-nodes (get-register _ _ _ _ d _) = omega (arith, tree-nodes d)
  tree-nodes (parentheses _ d _) = omega (arith, tree-nodes d)
  tree-nodes none-given = omega arith
  tree-nodes (some-given d) = tree-nodes d
  tree-nodes (one_argument d) = omega (arith, tree-nodes d)
  tree-nodes (more-arguments d _ d') = omega (arith, tree-nodes d, tree-nodes d')
  tree-nodes (a_block _ d _) = omega (arith, tree-nodes d)
  tree-nodes (an-if _ _ d _ d' _ d'') = omega (arith, tree-nodes d, tree-nodes d', tree-nodes d'')
  tree-nodes (a-while _ _ d _ d') = omega (arith, tree-nodes d, tree-nodes d')
  tree-nodes (a-print _ _ _ _ _ _ d _ _) = omega (arith, tree-nodes d)
  tree-nodes (an-assignment _ _ d _) = omega (arith, tree-nodes d)
  tree-nodes (an-element-assignment _ _ d _ _ d' _) = omega (arith, tree-nodes d, tree-nodes d')
  tree-nodes (put-register _ _ _ _ d _ d' _ _) = omega (arith, tree-nodes d, tree-nodes d')
  tree-nodes no-statement = omega arith
  tree-nodes (more-statements d d') = omega (arith, tree-nodes d, tree-nodes d')

  method-nodes : {i j : ℕ} {m : Method} → DerivesMethod ts i j m → i + (nodes m.body + nodes m.value) ≤ j
  method-nodes (a-method _ head _ ps _ _ ls ss _ v _ _) =
      omega (arith, (variable-lies head).2.order, (formals-lie ps).order, (variables-lie ls).order, tree-nodes ss, tree-nodes v)

  methods-nodes : {i j : ℕ} {ms : List Method} → DerivesMethods ts i j ms → i + methods_nodes ms ≤ j
  unfolding methods_nodes
  methods-nodes no-method = omega arith
  methods-nodes (more-methods d d') = omega (arith, method-nodes d, methods-nodes d')

  class-nodes : {i j : ℕ} {k : Class} → DerivesClass ts i j k → i + methods_nodes k.methods ≤ j
  class-nodes (a-class-declaration _ _ p _ fs ms _) = omega (arith, parent-order p, (variables-lie fs).order, methods-nodes ms)

  classes-nodes : {i j : ℕ} {ks : List Class} → DerivesClasses ts i j ks → i + classes_nodes ks ≤ j
  unfolding classes_nodes
  classes-nodes no-class = omega arith
  classes-nodes (more-classes d d') = omega (arith, class-nodes d, classes-nodes d')

  pub program-nodes : {p : Program} → DerivesProgram ts p → program_nodes p ≤ length ts
  unfolding program_nodes
  program-nodes (a_program _ d _ _ cs) = omega (arith, tree-nodes d, classes-nodes cs)
