-- A table that holds a derived program has its classes standing in it: their rows are what the tree says, they match their tokens, and
-- the derivation bounds their lists.
use Prim.Native.Nat.{ℕ, ◌+◌, ◌≤◌}
use mathlib.Core.Path.{◌≡◌, refl}
use mathlib.Core.List.{List, [], ◌∷◌}
use native.Mathlib.Omega.{arith}
use lib.ListN.{length}
use Rattle.lexer.specs.Tokens.{Token}
use Rattle.parser.specs.Measure.{nodes}
use Rattle.parser.specs.Tree.{Variable, Method, Class, Program}
use Rattle.parser.specs.promises.Layout.{row_of, main_row}
use Rattle.parser.specs.Grammar.{DerivesMethod, DerivesMethods, DerivesClass, DerivesClasses, DerivesProgram}
use Rattle.parser.specs.Grammar.{DerivesMethod.a-method, DerivesMethods.no-method, DerivesMethods.more-methods, DerivesClass.a-class-declaration, DerivesClasses.no-class, DerivesClasses.more-classes, DerivesProgram.a_program}
use Rattle.reader.specs.laws.Order.{first-row}
use Rattle.reader.specs.laws.Stored.{parent-order, variable-lies}
use Rattle.reader.specs.laws.Counting.{tree-nodes}
use Rattle.reader.specs.laws.SpanLaws.{wider, tree-spans}
use Rattle.reader.specs.promises.Spans.{Spans}
use Rattle.reader.specs.promises.Holds.{HoldsVariables, HoldsMethod, HoldsMethods, HoldsClass, HoldsClasses}
use Rattle.reader.specs.promises.Matches.{VariablesMatch, MethodMatches, MethodsMatch, ClassMatches, ClassesMatch}
use Rattle.lookup.specs.promises.HeldClasses.{VariablesHeld, MethodHeld, MethodsHeld, ClassHeld, ClassesHeld}
use Rattle.lookup.specs.promises.HeldClasses as Standing
use Rattle.declarations.specs.laws.Counts.{variables-count, formals-count, methods-count, classes-count}

variables-stand : {tab : List ℕ} {ts : List Token} (vs : List Variable) → VariablesMatch ts vs → HoldsVariables tab vs
    → VariablesHeld tab ts vs
unfolding VariablesMatch HoldsVariables
variables-stand [] m h = Standing.no-variables
variables-stand (v ∷ vs) m h = Standing.more-variables m.0 h.0 h.1 (variables-stand vs m.1 h.2)

module _ {tab : List ℕ} {n : ℕ} {ts : List Token} where
  method-stands : {i j : ℕ} {m : Method} → DerivesMethod ts i j m → j ≤ n → MethodMatches ts m → HoldsMethod tab m → MethodHeld tab n ts m
  method-stands (a-method {c = c} {d = d} {e = e} {head = hd} {ps = ps} {ls = ls} {ss = b} {v = x} _ head _ fs _ _ vs ss _ v _ _) few m h =
      let named = (variable-lies head).1 in
      let formals = formals-count fs in
      let locals = variables-count vs in
      let body = tree-nodes ss in
      let value = tree-nodes v in
      record {
        head = m.head;
        after = m.after;
        result = h.result;
        first = h.first;
        second = h.second;
        start = h.start;
        return = h.return;
        parameters = variables-stand ps m.parameters h.parameters;
        locals = variables-stand ls m.locals h.locals;
        few-parameters = omega arith;
        few-locals = omega arith;
        body = h.body;
        body-matches = m.body;
        body-within = wider b c d hd.name.row n (omega arith) (omega arith) (tree-spans ss);
        body-nodes = omega arith;
        value = h.value;
        value-matches = m.value;
        value-within = wider x (d + 1) e hd.name.row n (omega arith) (omega arith) (tree-spans v);
        value-nodes = omega arith;
      }

  methods-stand : {i j : ℕ} {ms : List Method} → DerivesMethods ts i j ms → j ≤ n → MethodsMatch ts ms → HoldsMethods tab ms
      → MethodsHeld tab n ts ms
  unfolding MethodsMatch HoldsMethods
  methods-stand no-method few m h = Standing.no-methods
  methods-stand (more-methods d d') few m h =
      Standing.more-methods (method-stands d (omega (arith, methods-count d')) m.0 h.0) h.1 (methods-stand d' few m.1 h.2)

  class-stands : {i j : ℕ} {k : Class} → DerivesClass ts i j k → j ≤ n → ClassMatches ts k → HoldsClass tab k → ClassHeld tab n ts k
  class-stands (a-class-declaration {fs = fs} _ _ p _ vs ms _) few m h =
      record {
        named = m.name;
        above = h.parent;
        parent-matches = m.parent;
        first = h.first;
        second = h.second;
        fields = variables-stand fs m.fields h.fields;
        few-fields = omega (arith, parent-order p, variables-count vs, methods-count ms);
        methods = methods-stand ms (omega arith) m.methods h.methods;
        few-methods = omega (arith, parent-order p, variables-count vs, methods-count ms);
      }

  pub classes-stand : {i j : ℕ} {ks : List Class} → DerivesClasses ts i j ks → j ≤ n → ClassesMatch ts ks → HoldsClasses tab ks
      → ClassesHeld tab n ts ks
  unfolding ClassesMatch HoldsClasses
  classes-stand no-class few m h = Standing.no-classes
  classes-stand (more-classes d d') few m h =
      Standing.more-classes (class-stands d (omega (arith, classes-count d')) m.0 h.0) h.1 (classes-stand d' few m.1 h.2)

-- what a program's derivation tells
pub record Derived (ts : List Token) (p : Program) : Type 0 where
  pub main : p.main.row ≡ 1
  pub row : row_of p.statement ≡ main_row
  pub within : Spans main_row (length ts) p.statement
  pub small : nodes p.statement ≤ length ts
  pub few-classes : length p.classes ≤ length ts
  pub from : ℕ
  pub classes : DerivesClasses ts from (length ts) p.classes

pub derived : {ts : List Token} {p : Program} → DerivesProgram ts p → Derived ts p
derived {ts} (a_program {j = j} {s = s} _ d _ _ cs) = record {
  main = refl;
  row = first-row d;
  within = wider s main_row j main_row (length ts) (omega arith) (omega (arith, classes-count cs)) (tree-spans d);
  small = omega (arith, tree-nodes d, classes-count cs);
  few-classes = omega (arith, classes-count cs);
  from = j + 2;
  classes = cs;
}
