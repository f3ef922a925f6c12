-- What a table says of a tree stands in its columns `c_begin` to `c_next` and, in the rows of `if` tokens, in `c_third`: each row that is read is that of
-- a token which is there. So that column of all other rows is free for what is found out about names.
use Rattle.std.specs.Prelude.{ℕ, ◌+◌, ◌≤◌, ◌<◌, ◌≡◌, length}
use Rattle.std.proofs.Common.{◌∙◌, arith}
use mathlib.Core.List.{List, [], ◌∷◌}
use Rattle.base.specs.promises.Table.{rows, col, SameColumn, c_begin, c_first, c_second, c_next, c_third, c_type, c_parent, c_parameters, c_locals, c_fields, c_methods, c_body, c_value}
use Rattle.lexer.specs.Kinds.{k_if}
use Rattle.lexer.specs.Tokens.{Token}
use Rattle.parser.specs.Tree.{Place, Sort, Part, Expression, Statement, Variable, Method, Class, Program}
use Rattle.parser.specs.Tree.{Numeral, Numeral.int_literal, Numeral.fixed_literal}
use Rattle.parser.specs.Tree.{Part.literal, Part.truth, Part.variable, Part.this, Part.new_array_lem, Part.new_object_lem, Part.negation, Part.binary, Part.element, Part.array_length, Part.call, Part.port_get_lem, Part.no_arguments, Part.argument}
use Rattle.parser.specs.Tree.{Part.block, Part.conditional, Part.loop, Part.print, Part.assign, Part.assign_element_lem, Part.port_put_lem, Part.no_statements, Part.sequence}
use Rattle.parser.specs.Stream.{kind_at}
use Rattle.parser.specs.promises.Layout.{row_of}
use Rattle.reader.specs.promises.Holds.{NodeRow, Holds, HoldsVariables, HoldsMethod, HoldsMethods, HoldsClass, HoldsClasses, HoldsProgram}
use Rattle.reader.specs.promises.Matches.{NumeralMatches, Matches, VariablesMatch, MethodMatches, MethodsMatch}
use Rattle.reader.specs.promises.Matches.{ClassMatches, ClassesMatch, ProgramMatches}

-- the second table has the first one's columns `c_begin` to `c_next`, and its `c_third` in the rows of `if` tokens
pub record SameTree (ts : List Token) (tab tab' : List ℕ) : Type 0 where
  pub columns : (k : ℕ) → c_begin ≤ k → k < c_third → SameColumn k tab tab'
  pub thirds : (i : ℕ) → i < rows → kind_at ts i ≡ k_if → col tab' c_third i ≡ col tab c_third i

-- a node's own token is there
pub numeral-there : (ts : List Token) (i : ℕ) (n : Numeral) → NumeralMatches ts i n → i < length ts
unfolding NumeralMatches
numeral-there ts i (int_literal n) m = m.0.there
numeral-there ts i (fixed_literal n) m = m.0.there

expression-there : (ts : List Token) (e : Expression) → Matches ts e → row_of e < length ts
unfolding Matches
expression-there ts (literal p n) m = numeral-there ts p.row n m
expression-there ts (truth p b) m = m.there
expression-there ts (variable p x) m = m.there
expression-there ts (this p) m = m.there
expression-there ts (new_array_lem p u e) m = m.0.there
expression-there ts (new_object_lem p c) m = m.0.there
expression-there ts (negation p e) m = m.0.there
expression-there ts (binary p o l r) m = m.0.there
expression-there ts (element p a i) m = m.0.there
expression-there ts (array_length p a) m = m.0.there
expression-there ts (call p e n es) m = m.0.there
expression-there ts (port_get_lem p e) m = m.0.there

statement-there : (ts : List Token) (s : Statement) → Matches ts s → row_of s < length ts
unfolding Matches
statement-there ts (block p ss) m = m.0.there
statement-there ts (conditional p e s t) m = m.0.there
statement-there ts (loop p e s) m = m.0.there
statement-there ts (print p e) m = m.0.there
statement-there ts (assign p x e) m = m.0.there
statement-there ts (assign_element_lem p x i e) m = m.0.there
statement-there ts (port_put_lem p n e) m = m.0.there

module _ {ts : List Token} {tab tab' : List ℕ} (short : length ts ≤ rows) (same : SameTree ts tab tab') where
  -- a word of a column from `c_begin` to `c_next`
  word : (k i : ℕ) → c_begin ≤ k → k < c_third → i < length ts → col tab' k i ≡ col tab k i
  word k i h₃ h₇ h = same.columns k h₃ h₇ i (omega arith)

  row : (p : Place) {left right : ℕ} → p.row < length ts → NodeRow tab p left right → NodeRow tab' p left right
  row p h w =
      record {
        start = word c_begin p.row (omega arith) (omega arith) h ∙ w.start;
        first = word c_first p.row (omega arith) (omega arith) h ∙ w.first;
        second = word c_second p.row (omega arith) (omega arith) h ∙ w.second;
      }

  next : (i : ℕ) {v : ℕ} → i < length ts → col tab c_next i ≡ v → col tab' c_next i ≡ v
  next i h e = word c_next i (omega arith) (omega arith) h ∙ e

  pub tree-kept : {s : Sort} (t : Part s) → Matches ts t → Holds tab t → Holds tab' t
  unfolding Matches Holds
  tree-kept (literal p n) m h = row p (numeral-there ts p.row n m) h
  tree-kept (truth p b) m h = row p m.there h
  tree-kept (variable p x) m h = row p m.there h
  tree-kept (this p) m h = row p m.there h
  tree-kept (new_array_lem p u e) m h = (row p m.0.there h.0, tree-kept e m.4 h.1)
  tree-kept (new_object_lem p c) m h = row p m.0.there h
  tree-kept (negation p e) m h = (row p m.0.there h.0, tree-kept e m.1 h.1)
  tree-kept (binary p o l r) m h = (row p m.0.there h.0, tree-kept l m.1 h.1, tree-kept r m.2 h.2)
  tree-kept (element p a i) m h = (row p m.0.there h.0, tree-kept a m.1 h.1, tree-kept i m.2 h.2)
  tree-kept (array_length p a) m h = (row p m.0.there h.0, tree-kept a m.2 h.1)
  tree-kept (call p e n es) m h = (row p m.0.there h.0, tree-kept e m.3 h.1, tree-kept es m.4 h.2)
  tree-kept (port_get_lem p e) m h = (row p m.0.there h.0, tree-kept e m.1 h.1)
  tree-kept no_arguments m h = tt
  tree-kept (argument e es) m h =
      (tree-kept e m.0 h.0, next (row_of e) (expression-there ts e m.0) h.1, tree-kept es m.1 h.2)
  tree-kept (block p ss) m h = (row p m.0.there h.0, tree-kept ss m.1 h.1)
  tree-kept (conditional p e s t) m h =
      let there = m.0.there in (
        row p there h.0,
        same.thirds p.row (omega arith) m.0.is ∙ h.1,
        tree-kept e m.1 h.2,
        tree-kept s m.2 h.3,
        tree-kept t m.3 h.4,
      )
  tree-kept (loop p e s) m h = (row p m.0.there h.0, tree-kept e m.1 h.1, tree-kept s m.2 h.2)
  tree-kept (print p e) m h = (row p m.0.there h.0, tree-kept e m.1 h.1)
  tree-kept (assign p x e) m h = (row p m.0.there h.0, tree-kept e m.2 h.1)
  tree-kept (assign_element_lem p x i e) m h = (row p m.0.there h.0, tree-kept i m.2 h.1, tree-kept e m.3 h.2)
  tree-kept (port_put_lem p n e) m h = (row p m.0.there h.0, tree-kept n m.1 h.1, tree-kept e m.2 h.2)
  tree-kept no_statements m h = tt
  tree-kept (sequence s ss) m h =
      (tree-kept s m.0 h.0, next (row_of s) (statement-there ts s m.0) h.1, tree-kept ss m.1 h.2)

  variables-kept : (vs : List Variable) → VariablesMatch ts vs → HoldsVariables tab vs → HoldsVariables tab' vs
  unfolding VariablesMatch HoldsVariables
  variables-kept [] m h = tt
  variables-kept (v ∷ vs) m h =
      let there = m.0.name.token.there in (
        word c_type v.name.row (omega arith) (omega arith) there ∙ h.0,
        next v.name.row there h.1,
        variables-kept vs m.1 h.2,
      )

  method-kept : (m : Method) → MethodMatches ts m → HoldsMethod tab m → HoldsMethod tab' m
  method-kept d m h =
      let there = m.head.name.token.there in
      let after = m.after.there in
      let n = d.name.row in
      record {
        result = word c_type n (omega arith) (omega arith) there ∙ h.result;
        first = word c_parameters n (omega arith) (omega arith) there ∙ h.first;
        second = word c_locals n (omega arith) (omega arith) there ∙ h.second;
        start = word c_body (n + 1) (omega arith) (omega arith) after ∙ h.start;
        return = word c_value (n + 1) (omega arith) (omega arith) after ∙ h.return;
        parameters = variables-kept d.parameters m.parameters h.parameters;
        locals = variables-kept d.locals m.locals h.locals;
        body = tree-kept d.body m.body h.body;
        value = tree-kept d.value m.value h.value;
      }

  methods-kept : (ms : List Method) → MethodsMatch ts ms → HoldsMethods tab ms → HoldsMethods tab' ms
  unfolding MethodsMatch HoldsMethods
  methods-kept [] m h = tt
  methods-kept (d ∷ ds) m h =
      (method-kept d m.0 h.0, next d.name.row m.0.head.name.token.there h.1, methods-kept ds m.1 h.2)

  class-kept : (k : Class) → ClassMatches ts k → HoldsClass tab k → HoldsClass tab' k
  class-kept d m h =
      let there = m.name.token.there in
      let n = d.name.row in
      record {
        parent = word c_parent n (omega arith) (omega arith) there ∙ h.parent;
        first = word c_fields n (omega arith) (omega arith) there ∙ h.first;
        second = word c_methods n (omega arith) (omega arith) there ∙ h.second;
        fields = variables-kept d.fields m.fields h.fields;
        methods = methods-kept d.methods m.methods h.methods;
      }

  classes-kept : (ks : List Class) → ClassesMatch ts ks → HoldsClasses tab ks → HoldsClasses tab' ks
  unfolding ClassesMatch HoldsClasses
  classes-kept [] m h = tt
  classes-kept (d ∷ ds) m h =
      (class-kept d m.0 h.0, next d.name.row m.0.name.token.there h.1, classes-kept ds m.1 h.2)

  pub program-kept : (p : Program) → ProgramMatches ts p → HoldsProgram tab p → HoldsProgram tab' p
  program-kept p m h =
      record {
        statement = tree-kept p.statement m.statement h.statement;
        first = same.columns c_next (omega arith) (omega arith) 0 (omega arith) ∙ h.first;
        classes = classes-kept p.classes m.classes h.classes;
      }
