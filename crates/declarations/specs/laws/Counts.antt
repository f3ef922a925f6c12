-- What is derived from the tokens i up to j has at most j - i members, since each has a token of its own there. So no list of a program's
-- declarations is longer than the tokens are many.
use Rattle.std.specs.Prelude.{ℕ, ◌+◌, ◌≤◌, List, length}
use Rattle.std.proofs.Common.{arith}
use Rattle.lexer.specs.Tokens.{Token}
use Rattle.parser.specs.Tree.{Variable, Method, Class}
use Rattle.parser.specs.Grammar.{DerivesVariable, DerivesVariables, DerivesParameters, DerivesFormals, DerivesMethod, DerivesMethods, DerivesClass, DerivesClasses}
use Rattle.parser.specs.Grammar.{DerivesVariables.no-variable, DerivesVariables.more-variables, DerivesParameters.one-parameter, DerivesParameters.more-parameters, DerivesFormals.no-formal, DerivesFormals.some-formals}
use Rattle.parser.specs.Grammar.{DerivesMethod.a-method, DerivesMethods.no-method, DerivesMethods.more-methods, DerivesClass.a-class-declaration, DerivesClasses.no-class, DerivesClasses.more-classes}
use Rattle.reader.specs.laws.Stored.{variable-lies, parent-order}
use Rattle.reader.specs.laws.Counting.{tree-nodes}

module _ {ts : List Token} where
  variable-count : {i j : ℕ} {v : Variable} → DerivesVariable ts i j v → i + 1 ≤ j
  variable-count d = let h = variable-lies d in omega (arith, h.0, h.1)

  pub variables-count : {i j : ℕ} {vs : List Variable} → DerivesVariables ts i j vs → i + length vs ≤ j
  variables-count no-variable = omega arith
  variables-count (more-variables d _ d') = omega (arith, variable-count d, variables-count d')

  parameters-count : {i j : ℕ} {vs : List Variable} → DerivesParameters ts i j vs → i + length vs ≤ j
  parameters-count (one-parameter d) = omega (arith, variable-count d)
  parameters-count (more-parameters d _ d') = omega (arith, variable-count d, parameters-count d')

  pub formals-count : {i j : ℕ} {vs : List Variable} → DerivesFormals ts i j vs → i + length vs ≤ j
  formals-count no-formal = omega arith
  formals-count (some-formals d) = parameters-count d

  pub method-count : {i j : ℕ} {m : Method} → DerivesMethod ts i j m → i + 1 ≤ j
  method-count (a-method _ head _ ps _ _ ls ss _ v _ _) =
      omega (arith, variable-count head, formals-count ps, variables-count ls, tree-nodes ss, tree-nodes v)

  pub methods-count : {i j : ℕ} {ms : List Method} → DerivesMethods ts i j ms → i + length ms ≤ j
  methods-count no-method = omega arith
  methods-count (more-methods d d') = omega (arith, method-count d, methods-count d')

  pub class-count : {i j : ℕ} {k : Class} → DerivesClass ts i j k → i + 1 ≤ j
  class-count (a-class-declaration _ _ p _ fs ms _) = omega (arith, parent-order p, variables-count fs, methods-count ms)

  pub classes-count : {i j : ℕ} {ks : List Class} → DerivesClasses ts i j ks → i + length ks ≤ j
  classes-count no-class = omega arith
  classes-count (more-classes d d') = omega (arith, class-count d, classes-count d')
