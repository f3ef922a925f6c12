-- A recogniser with a stack of symbols, which looks at one token at a time: what the parsing function does, without its trees. Its runs
-- are deterministic, so a list of tokens on which it stops is one that it does not accept.
use Rattle.std.specs.Prelude.{ℕ, ◌+◌, ◌≤◌, ◌≡◌, refl, List, [], ◌∷◌, ◌++◌, Bool, true, false, ◌&&◌, ◌||◌, eqb}
use Rattle.std.proofs.Common.{ap, ◌∙◌, subst, arith}
use Rattle.base.specs.Choice.{if◌then◌otherwise◌, option}
use Rattle.lexer.specs.Tokens.{Token}
use Rattle.lexer.specs.Kinds.{k_end, k_out, k_println, k_literal, k_boolean, k_class, k_else, k_extends, k_false, k_if, k_int, k_length, k_main, k_new}
use Rattle.lexer.specs.Kinds.{k_get, k_put, k_port, k_public, k_return, k_static, k_string, k_system, k_this, k_true, k_void, k_while}
use Rattle.lexer.specs.Kinds.{k_not, k_assign, k_dot, k_comma, k_semicolon, k_open, k_close, k_open_bracket, k_close_bracket, k_open_brace, k_close_brace}
use Rattle.lexer.specs.Kinds.{is_name_lem, k_fixed, k_fixed_literal}
use Rattle.parser.specs.Stream.{kind_at, Level, Level.conjunction, Level.comparison, Level.sum, Level.product, operator_of}
use Rattle.parser.specs.Parse.{begins_type_lem, begins_statement_lem}

-- `one k` is a token of kind k. The `after` symbols are what is left of a form after its first token, and `after_class` after `new` and a
-- class; `suffixes b` has whether a `[` may follow; `locals` are the locals of a body and its statements, `after_mark` what is left of them
-- after a name and a `[`.
pub data Symbol : Type 0 where
  one : ℕ → Symbol
  a_name an_element : Symbol
  an_operator operation operations : Level → Symbol
  unary postfix after_new after_class primary : Symbol
  suffixes : Bool → Symbol
  after_dot argument_list some_arguments_lem more_arguments : Symbol
  a_statement after_name statement_list : Symbol
  a_type after_element fields locals after_local after_mark formals some_formals more_formals methods parent classes : Symbol

abbrev pub expression : Symbol
expression = operation conjunction

-- what is left of `new T[e]` after T, and of `x[e]=e;` after its `[`
abbrev pub array_end : List Symbol
array_end = one k_open_bracket ∷ expression ∷ one k_close_bracket ∷ suffixes false ∷ []

abbrev pub target_end : List Symbol
target_end = expression ∷ one k_close_bracket ∷ one k_assign ∷ expression ∷ one k_semicolon ∷ []

-- the tokens that are a type wherever they stand
abbrev pub is_basic : ℕ → Bool
is_basic k = eqb k k_int || eqb k k_boolean || eqb k k_fixed

-- the tokens that say what an array may hold
abbrev pub is_element : ℕ → Bool
is_element k = eqb k k_int || eqb k k_boolean || is_name_lem k

abbrev pub operand_of : Level → Symbol
operand_of conjunction = operation comparison
operand_of comparison = operation sum
operand_of sum = operation product
operand_of product = unary

-- what the machine does with its topmost symbol: it passes a token, it puts other symbols in the symbol's place, or it stops
pub data Move : Type 0 where
  shift : Move
  push : List Symbol → Move
  refuse : Move

unfoldable pub rule : Symbol → (kind : ℕ) → Move
rule (one q) k = if eqb k q then (λ _. shift) otherwise λ _. refuse
rule a_name k = if is_name_lem k then (λ _. shift) otherwise λ _. refuse
rule an_element k = if is_element k then (λ _. shift) otherwise λ _. refuse
rule (an_operator L) k = option (operator_of L k) refuse λ o. shift
rule (operation L) k = push (operand_of L ∷ operations L ∷ [])
rule (operations L) k = option (operator_of L k) (push []) λ o. push (an_operator L ∷ operand_of L ∷ operations L ∷ [])
rule unary k = if eqb k k_not then (λ _. push (one k_not ∷ unary ∷ [])) otherwise λ _. push (postfix ∷ [])
rule postfix k = if eqb k k_new then (λ _. push (one k_new ∷ after_new ∷ [])) otherwise λ _. push (primary ∷ suffixes true ∷ [])
rule after_new k =
    if is_basic k then (λ _. push (an_element ∷ array_end)) otherwise λ _.
    push (a_name ∷ after_class ∷ [])
rule after_class k = if eqb k k_open_bracket then (λ _. push array_end) otherwise λ _. push (one k_open ∷ one k_close ∷ suffixes true ∷ [])
rule primary k =
    if eqb k k_literal then (λ _. push (one k_literal ∷ [])) otherwise λ _.
    if eqb k k_fixed_literal then (λ _. push (one k_fixed_literal ∷ [])) otherwise λ _.
    if eqb k k_true then (λ _. push (one k_true ∷ [])) otherwise λ _.
    if eqb k k_false then (λ _. push (one k_false ∷ [])) otherwise λ _.
    if is_name_lem k then (λ _. push (a_name ∷ [])) otherwise λ _.
    if eqb k k_this then (λ _. push (one k_this ∷ [])) otherwise λ _.
    if eqb k k_new then (λ _. push (one k_new ∷ a_name ∷ one k_open ∷ one k_close ∷ [])) otherwise λ _.
    if eqb k k_open then (λ _. push (one k_open ∷ expression ∷ one k_close ∷ [])) otherwise λ _.
    if eqb k k_port then (λ _. push (one k_port ∷ one k_dot ∷ one k_get ∷ one k_open ∷ expression ∷ one k_close ∷ [])) otherwise λ _.
    refuse
rule (suffixes b) k =
    if eqb k k_open_bracket && b then (λ _. push (one k_open_bracket ∷ expression ∷ one k_close_bracket ∷ suffixes true ∷ [])) otherwise λ _.
    if eqb k k_open_bracket then (λ _. refuse) otherwise λ _.
    if eqb k k_dot then (λ _. push (one k_dot ∷ after_dot ∷ [])) otherwise λ _.
    push []
rule after_dot k =
    if eqb k k_length then (λ _. push (one k_length ∷ suffixes true ∷ [])) otherwise λ _. push (a_name ∷ one k_open ∷ argument_list ∷ suffixes true ∷ [])
rule argument_list k = if eqb k k_close then (λ _. push (one k_close ∷ [])) otherwise λ _. push (some_arguments_lem ∷ [])
rule some_arguments_lem k = push (expression ∷ more_arguments ∷ [])
rule more_arguments k = if eqb k k_close then (λ _. push (one k_close ∷ [])) otherwise λ _. push (one k_comma ∷ some_arguments_lem ∷ [])
rule a_statement k =
    if eqb k k_open_brace then (λ _. push (one k_open_brace ∷ statement_list ∷ one k_close_brace ∷ [])) otherwise λ _.
    if eqb k k_if then (λ _. push (one k_if ∷ one k_open ∷ expression ∷ one k_close ∷ a_statement ∷ one k_else ∷ a_statement ∷ [])) otherwise λ _.
    if eqb k k_while then (λ _. push (one k_while ∷ one k_open ∷ expression ∷ one k_close ∷ a_statement ∷ [])) otherwise λ _.
    if eqb k k_system then (λ _. push (one k_system ∷ one k_dot ∷ one k_out ∷ one k_dot ∷ one k_println ∷ one k_open ∷ expression ∷ one k_close ∷ one k_semicolon ∷ [])) otherwise λ _.
    if eqb k k_port then (λ _. push (one k_port ∷ one k_dot ∷ one k_put ∷ one k_open ∷ expression ∷ one k_comma ∷ expression ∷ one k_close ∷ one k_semicolon ∷ [])) otherwise λ _.
    if is_name_lem k then (λ _. push (a_name ∷ after_name ∷ [])) otherwise λ _.
    refuse
rule after_name k =
    if eqb k k_open_bracket then (λ _. push (one k_open_bracket ∷ target_end)) otherwise λ _.
    push (one k_assign ∷ expression ∷ one k_semicolon ∷ [])
rule statement_list k = if begins_statement_lem k then (λ _. push (a_statement ∷ statement_list ∷ [])) otherwise λ _. push []
rule a_type k = if eqb k k_fixed then (λ _. push (one k_fixed ∷ [])) otherwise λ _. push (an_element ∷ after_element ∷ [])
rule after_element k = if eqb k k_open_bracket then (λ _. push (one k_open_bracket ∷ one k_close_bracket ∷ [])) otherwise λ _. push []
rule fields k =
    if begins_type_lem k true then (λ _. push (a_type ∷ a_name ∷ one k_semicolon ∷ fields ∷ [])) otherwise λ _.
    push []
rule locals k =
    if is_basic k then (λ _. push (a_type ∷ a_name ∷ one k_semicolon ∷ locals ∷ [])) otherwise λ _.
    if is_name_lem k then (λ _. push (a_name ∷ after_local ∷ [])) otherwise λ _.
    push (statement_list ∷ [])
rule after_local k =
    if is_name_lem k then (λ _. push (a_name ∷ one k_semicolon ∷ locals ∷ [])) otherwise λ _.
    if eqb k k_open_bracket then (λ _. push (one k_open_bracket ∷ after_mark ∷ [])) otherwise λ _.
    push (after_name ∷ statement_list ∷ [])
rule after_mark k =
    if eqb k k_close_bracket then (λ _. push (one k_close_bracket ∷ a_name ∷ one k_semicolon ∷ locals ∷ [])) otherwise λ _.
    push (target_end ++ (statement_list ∷ []))
rule formals k = if eqb k k_close then (λ _. push (one k_close ∷ [])) otherwise λ _. push (some_formals ∷ [])
rule some_formals k = push (a_type ∷ a_name ∷ more_formals ∷ [])
rule more_formals k = if eqb k k_close then (λ _. push (one k_close ∷ [])) otherwise λ _. push (one k_comma ∷ some_formals ∷ [])
rule methods k =
    if eqb k k_public then (λ _.
    push (one k_public ∷ a_type ∷ a_name ∷ one k_open ∷ formals ∷ one k_open_brace ∷ locals ∷ one k_return ∷ expression ∷ one k_semicolon ∷ one k_close_brace ∷ methods ∷ [])) otherwise λ _.
    push []
rule parent k = if eqb k k_extends then (λ _. push (one k_extends ∷ a_name ∷ [])) otherwise λ _. push []
rule classes k =
    if eqb k k_end then (λ _. push []) otherwise λ _. push (one k_class ∷ a_name ∷ parent ∷ one k_open_brace ∷ fields ∷ methods ∷ one k_close_brace ∷ classes ∷ [])

-- the stack that the machine starts with
abbrev pub start_stack : List Symbol
start_stack =
    one k_class ∷ a_name ∷ one k_open_brace ∷ one k_public ∷ one k_static ∷ one k_void ∷ one k_main ∷ one k_open ∷ one k_string ∷ one k_open_bracket ∷ one k_close_bracket ∷
    a_name ∷ one k_close ∷ one k_open_brace ∷ a_statement ∷ one k_close_brace ∷ one k_close_brace ∷ classes ∷ []

-- how a run ends: with the stack empty before token j, or stopped at token k
pub data Halt : Type 0 where
  done stopped : ℕ → Halt

abbrev pub index_of : Halt → ℕ
index_of (done j) = j
index_of (stopped k) = k

-- the run from token i on
pub data RunsTo (ts : List Token) : List Symbol → ℕ → Halt → Type 0 where
  finish : {i : ℕ} → RunsTo ts [] i (done i)
  shifts : {x : Symbol} {S : List Symbol} {i : ℕ} {e : Halt} → rule x (kind_at ts i) ≡ shift → RunsTo ts S (i + 1) e → RunsTo ts (x ∷ S) i e
  pushes : {x : Symbol} {S : List Symbol} {i : ℕ} {e : Halt} {xs : List Symbol} → rule x (kind_at ts i) ≡ push xs
      → RunsTo ts (xs ++ S) i e → RunsTo ts (x ∷ S) i e
  refuses : {x : Symbol} {S : List Symbol} {i : ℕ} → rule x (kind_at ts i) ≡ refuse → RunsTo ts (x ∷ S) i (stopped i)

-- a run does not go back
pub onward : {ts : List Token} {S : List Symbol} {i : ℕ} {e : Halt} → RunsTo ts S i e → i ≤ index_of e
onward finish = omega arith
onward (shifts r h) = omega (arith, onward h)
onward (pushes r h) = onward h
onward (refuses r) = omega arith

-- there is one run
pub unique : {ts : List Token} {S : List Symbol} {i : ℕ} {e d : Halt} → RunsTo ts S i e → RunsTo ts S i d → e ≡ d
unique finish finish = refl
unique (shifts r h) (shifts q g) = unique h g
unique (shifts r h) (pushes q g) = let z : ◌≡◌ {A = ℕ} 0 1 = cc in absurd (omega arith)
unique (shifts r h) (refuses q) = let z : ◌≡◌ {A = ℕ} 0 1 = cc in absurd (omega arith)
unique (pushes r h) (shifts q g) = let z : ◌≡◌ {A = ℕ} 0 1 = cc in absurd (omega arith)
unique {ts} {d = d} (pushes {S = S} {i = i} {xs = xs} r h) (pushes {xs = ys} q g) =
    let z : ys ≡ xs = cc in
    unique h (subst (λ (xs : List Symbol). RunsTo ts (xs ++ S) i d) z g)
unique (pushes r h) (refuses q) = let z : ◌≡◌ {A = ℕ} 0 1 = cc in absurd (omega arith)
unique (refuses r) (shifts q g) = let z : ◌≡◌ {A = ℕ} 0 1 = cc in absurd (omega arith)
unique (refuses r) (pushes q g) = let z : ◌≡◌ {A = ℕ} 0 1 = cc in absurd (omega arith)
unique (refuses r) (refuses q) = refl

-- a run that stops at token k is the same on every list that has the same tokens up to and with k
pub elsewhere : {ts us : List Token} {S : List Symbol} {i k : ℕ} → ((p : ℕ) → p ≤ k → kind_at us p ≡ kind_at ts p)
    → RunsTo ts S i (stopped k) → RunsTo us S i (stopped k)
elsewhere same (shifts {x = x} {i = i} r h) = shifts (ap (rule x) (same i (omega (arith, onward h))) ∙ r) (elsewhere same h)
elsewhere same (pushes {x = x} {i = i} r h) = pushes (ap (rule x) (same i (onward h)) ∙ r) (elsewhere same h)
elsewhere same (refuses {x = x} {i = i} r) = refuses (ap (rule x) (same i (omega arith)) ∙ r)
