-- What a row shows of the node that lies in it: kinds tell its form, and the form is an index, so that a law about one form has one clause.
-- How the parts of a node are bounded (by the tokens among which they lie, by their number of nodes) is left to those who use it.
use Rattle.std.specs.Prelude.{ℕ, ◌+◌, ◌≡◌, List, Bool, true, false, eqb}
use Rattle.base.specs.Choice.{if◌then◌otherwise◌}
use Rattle.base.specs.promises.Table.{c_start, c_number, c_begin, c_first, c_second, c_next, c_third}
use Rattle.lexer.specs.Kinds.{k_literal, k_fixed_literal, k_true, k_false, k_this, k_new, k_dot, k_length, k_not, k_port}
use Rattle.lexer.specs.Kinds.{k_open_bracket, k_open_brace, k_if, k_while, k_system}
use Rattle.lexer.specs.Tokens.{Token}
use Rattle.parser.specs.Tree.{Place, Name, Operator, Numeral.int_literal, Numeral.fixed_literal, ElementUse, Ty.array_of}
use Rattle.parser.specs.Tree.{Sort, Sort.expression, Sort.arguments, Sort.statement, Sort.statements, Part, Expression, Statement}
use Rattle.parser.specs.Tree.{Part.literal, Part.truth, Part.variable, Part.this, Part.new_array_lem, Part.new_object_lem, Part.negation, Part.binary}
use Rattle.parser.specs.Tree.{Part.element, Part.array_length, Part.call, Part.port_get_lem, Part.argument}
use Rattle.parser.specs.Tree.{Part.block, Part.conditional, Part.loop, Part.print, Part.assign, Part.assign_element_lem, Part.port_put_lem}
use Rattle.parser.specs.Tree.{Part.sequence}
use Rattle.parser.specs.promises.Layout.{row_of}
use Rattle.parser.specs.promises.Post.{kind_in_table, is_atom_lem}
use Rattle.reader.specs.promises.Holds.{Holds}
use Rattle.reader.specs.promises.Matches.{Matches, TypeMatches, operator_kind}
use Rattle.lookup.specs.promises.HeldClasses.{NameNumber, word_at}

-- a part lies in a row, and within a bound
pub record PartAt (tab : List ℕ) (ts : List Token) (row : ℕ) {s : Sort} (Within : Part s → Type 0) (t : Part s) : Type 0 where
  pub at : row_of t ≡ row
  pub holds : Holds tab t
  pub matches : Matches ts t
  pub within : Within t

-- how a part of each sort is bounded
abbrev pub Bound : Type 1
Bound = (s : Sort) → Part s → Type 0

-- FORMS BY KINDS

pub data Form : Type 0 where
  a_literal a_fixed_literal a_variable a_this a_new_array a_new_object a_negation a_binary an_element a_length a_call_shown a_port_get : Form
  a_truth : Bool → Form
  a_block_shown a_conditional a_loop a_print an_assignment an_element_store a_port_put : Form

unfoldable pub form_atom : ℕ → Form
form_atom k =
    if eqb k k_literal then (λ _. a_literal) otherwise λ _.
    if eqb k k_fixed_literal then (λ _. a_fixed_literal) otherwise λ _.
    if eqb k k_true then (λ _. a_truth true) otherwise λ _.
    if eqb k k_false then (λ _. a_truth false) otherwise λ _.
    if eqb k k_this then (λ _. a_this) otherwise λ _.
    a_variable

-- by the kinds of a node's own token and of the two after it
unfoldable pub form_compound : (k next third : ℕ) → Form
form_compound k next third =
    if eqb k k_new then (λ _. if eqb third k_open_bracket then (λ _. a_new_array) otherwise λ _. a_new_object) otherwise λ _.
    if eqb k k_dot then (λ _. if eqb next k_length then (λ _. a_length) otherwise λ _. a_call_shown) otherwise λ _.
    if eqb k k_not then (λ _. a_negation) otherwise λ _.
    if eqb k k_port then (λ _. a_port_get) otherwise λ _.
    if eqb k k_open_bracket then (λ _. an_element) otherwise λ _.
    a_binary

unfoldable pub form_e : (k next third : ℕ) → Form
form_e k next third = if is_atom_lem k then (λ _. form_atom k) otherwise λ _. form_compound k next third

-- of the expression in a row of a table of n tokens
abbrev pub form_at : List ℕ → (n row : ℕ) → Form
form_at tab n row = form_e (kind_in_table tab n row) (kind_in_table tab n (row + 1)) (kind_in_table tab n (row + 2))

unfoldable pub form_s : (k next : ℕ) → Form
form_s k next =
    if eqb k k_open_brace then (λ _. a_block_shown) otherwise λ _.
    if eqb k k_if then (λ _. a_conditional) otherwise λ _.
    if eqb k k_while then (λ _. a_loop) otherwise λ _.
    if eqb k k_system then (λ _. a_print) otherwise λ _.
    if eqb k k_port then (λ _. a_port_put) otherwise λ _.
    if eqb next k_open_bracket then (λ _. an_element_store) otherwise λ _.
    an_assignment

-- THE NODE OF A FORM

-- the parts before a node's own token are within one bound, those behind it within another
module _ (tab : List ℕ) (ts : List Token) (n row : ℕ) (Before Behind : Bound) where
  pub data Shows : Form → Expression → Type 0 where
    shows-literal : {p : Place} {v : ℕ} → word_at tab c_begin row ≡ p.start → word_at tab c_number row ≡ v → Shows a_literal (literal p (int_literal v))
    shows-fixed-literal : {p : Place} {v : ℕ} → word_at tab c_begin row ≡ p.start → word_at tab c_number row ≡ v
        → Shows a_fixed_literal (literal p (fixed_literal v))
    shows-truth : {p : Place} {b : Bool} → word_at tab c_begin row ≡ p.start → Shows (a_truth b) (truth p b)
    shows-variable : {p : Place} {x : List ℕ} → word_at tab c_begin row ≡ p.start → NameNumber ts x (word_at tab c_number row)
        → Shows a_variable (variable p x)
    shows-this : {p : Place} → word_at tab c_begin row ≡ p.start → Shows a_this (this p)
    shows-new-array : {p : Place} {u : ElementUse} {e : Expression} → word_at tab c_begin row ≡ p.start
        → TypeMatches ts (row + 1) (array_of u.element) → word_at tab c_start (row + 1) ≡ u.start
        → PartAt tab ts (word_at tab c_first row) (Behind expression) e → Shows a_new_array (new_array_lem p u e)
    shows-new-object : {p : Place} {c : Name} → word_at tab c_begin row ≡ p.start → NameNumber ts c.text (word_at tab c_number (row + 1))
        → word_at tab c_start (row + 1) ≡ c.start → Shows a_new_object (new_object_lem p c)
    shows-negation : {p : Place} {e : Expression} → word_at tab c_begin row ≡ p.start → PartAt tab ts (word_at tab c_first row) (Behind expression) e
        → Shows a_negation (negation p e)
    shows-binary : {p : Place} {o : Operator} {l r : Expression} → word_at tab c_begin row ≡ p.start → kind_in_table tab n row ≡ operator_kind o
        → PartAt tab ts (word_at tab c_first row) (Before expression) l → PartAt tab ts (word_at tab c_second row) (Behind expression) r
        → Shows a_binary (binary p o l r)
    shows-element : {p : Place} {a i : Expression} → word_at tab c_begin row ≡ p.start → PartAt tab ts (word_at tab c_first row) (Before expression) a
        → PartAt tab ts (word_at tab c_second row) (Behind expression) i → Shows an_element (element p a i)
    shows-length : {p : Place} {e : Expression} → word_at tab c_begin row ≡ p.start → PartAt tab ts (word_at tab c_first row) (Before expression) e
        → Shows a_length (array_length p e)
    shows-call : {p : Place} {e : Expression} {m : Name} {es : Part arguments} → word_at tab c_begin row ≡ p.start
        → NameNumber ts m.text (word_at tab c_number (row + 1)) → word_at tab c_start (row + 1) ≡ m.start
        → PartAt tab ts (word_at tab c_first row) (Before expression) e
        → PartAt tab ts (word_at tab c_second row) (Behind arguments) es → Shows a_call_shown (call p e m es)
    shows-port-get : {p : Place} {e : Expression} → word_at tab c_begin row ≡ p.start → PartAt tab ts (word_at tab c_first row) (Behind expression) e
        → Shows a_port_get (port_get_lem p e)

-- all parts of a statement stand behind its first token
module _ (tab : List ℕ) (ts : List Token) (row : ℕ) (Behind : Bound) where
  pub data ShowsS : Form → Statement → Type 0 where
    shows-block : {p : Place} {ss : Part statements} → word_at tab c_begin row ≡ p.start → PartAt tab ts (word_at tab c_first row) (Behind statements) ss
        → ShowsS a_block_shown (block p ss)
    shows-conditional : {p : Place} {e : Expression} {s t : Statement} → word_at tab c_begin row ≡ p.start
        → PartAt tab ts (word_at tab c_first row) (Behind expression) e → PartAt tab ts (word_at tab c_second row) (Behind statement) s
        → PartAt tab ts (word_at tab c_third row) (Behind statement) t
        → ShowsS a_conditional (conditional p e s t)
    shows-loop : {p : Place} {e : Expression} {s : Statement} → word_at tab c_begin row ≡ p.start
        → PartAt tab ts (word_at tab c_first row) (Behind expression) e
        → PartAt tab ts (word_at tab c_second row) (Behind statement) s → ShowsS a_loop (loop p e s)
    shows-print : {p : Place} {e : Expression} → word_at tab c_begin row ≡ p.start → PartAt tab ts (word_at tab c_first row) (Behind expression) e
        → ShowsS a_print (print p e)
    shows-assignment : {p : Place} {x : List ℕ} {e : Expression} → word_at tab c_begin row ≡ p.start → NameNumber ts x (word_at tab c_number row)
        → PartAt tab ts (word_at tab c_first row) (Behind expression) e → ShowsS an_assignment (assign p x e)
    shows-element-store : {p : Place} {x : List ℕ} {i e : Expression} → word_at tab c_begin row ≡ p.start → NameNumber ts x (word_at tab c_number row)
        → PartAt tab ts (word_at tab c_first row) (Behind expression) i → PartAt tab ts (word_at tab c_second row) (Behind expression) e
        → ShowsS an_element_store (assign_element_lem p x i e)
    shows-port-put : {p : Place} {n e : Expression} → word_at tab c_begin row ≡ p.start
        → PartAt tab ts (word_at tab c_first row) (Behind expression) n → PartAt tab ts (word_at tab c_second row) (Behind expression) e
        → ShowsS a_port_put (port_put_lem p n e)

-- LISTS

-- a list goes on: its first member lies in the row itself, the rest in the row to which `c_next` leads
module _ (tab : List ℕ) (ts : List Token) (row : ℕ) where
  pub data GoesOn (First : Expression → Type 0) (Rest : Part arguments → Type 0) : Part arguments → Type 0 where
    one-more-argument : {e : Expression} {es : Part arguments} → PartAt tab ts row First e → PartAt tab ts (word_at tab c_next row) Rest es
        → GoesOn First Rest (argument e es)

  pub data GoesOnS (First : Statement → Type 0) (Rest : Part statements → Type 0) : Part statements → Type 0 where
    one-more-statement : {t : Statement} {ss : Part statements} → PartAt tab ts row First t → PartAt tab ts (word_at tab c_next row) Rest ss
        → GoesOnS First Rest (sequence t ss)
