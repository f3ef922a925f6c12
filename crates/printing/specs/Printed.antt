-- Document 02, (v), "Tidy printing of a lesson": the tokens of a tree and their layout. `bare t rest` has the tokens of t, without
-- parentheses around the whole, before `rest`; `print_in k t rest` adds one pair exactly where the place wants a class k of the grammar that
-- the class of t's top form does not reach.
use Rattle.std.specs.Prelude.{ℕ, zero, suc, ◌+◌, ◌/◌, ◌%◌, List, [], ◌∷◌, ◌++◌, Bool, true, false, ◌||◌, eqb, ltb, leb}
use Rattle.std.proofs.Math.Option.{Option, none, some}
use Rattle.base.specs.Bytes.{bytes}
use Rattle.base.specs.Choice.{if◌then◌otherwise◌}
use Rattle.base.specs.Word.{per_unit}
use Rattle.lexer.specs.Bytes.{b_space, b_line_feed, b_zero, b_dot}
use Rattle.lexer.specs.Kinds.{Word, words, word_kind_lem, k_out, k_println, k_get, k_put, k_literal, k_fixed_literal, k_boolean, k_class, k_else, k_extends}
use Rattle.lexer.specs.Kinds.{k_false, k_fixed, k_if, k_int, k_length, k_main, k_new, k_port, k_public, k_return, k_static, k_string, k_system, k_this}
use Rattle.lexer.specs.Kinds.{k_true, k_void, k_while, k_and, k_less, k_plus, k_minus, k_times, k_not, k_assign, k_dot, k_comma, k_semicolon}
use Rattle.lexer.specs.Kinds.{k_open, k_close, k_open_bracket, k_close_bracket, k_open_brace, k_close_brace}
use Rattle.parser.specs.Tree.{Name, Operator, Operator.and, Operator.less, Operator.plus, Operator.minus, Operator.times}
use Rattle.parser.specs.Tree.{Sort, Sort.expression, Part, Variable, Method, Class, Program}
use Rattle.parser.specs.Tree.{Element, Element.int, Element.boolean, Element.fixed, Element.class, Ty, Ty.plain, Ty.array_of}
use Rattle.parser.specs.Tree.{Numeral, Numeral.int_literal, Numeral.fixed_literal}
use Rattle.parser.specs.Tree.{Part.literal, Part.truth, Part.variable, Part.this, Part.new_array_lem, Part.new_object_lem, Part.negation, Part.binary}
use Rattle.parser.specs.Tree.{Part.element, Part.array_length, Part.call, Part.port_get_lem, Part.no_arguments, Part.argument}
use Rattle.parser.specs.Tree.{Part.block, Part.conditional, Part.loop, Part.print, Part.assign, Part.assign_element_lem, Part.port_put_lem}
use Rattle.parser.specs.Tree.{Part.no_statements, Part.sequence}
use Rattle.parser.specs.Stream.{Level, Level.conjunction, Level.comparison, Level.sum, Level.product}
use Rattle.parser.specs.Grammar.{Kind, operand}

-- a token without its position
pub record Lexeme : Type 0 where
  pub kind : ℕ
  pub text : List ℕ

-- THE TOKENS WITH ONE SPELLING

-- document 01: "Other tokens: `&& < + - * ! = . , ; ( ) [ ] { }`"
unfoldable pub marks : List Word
marks =
    (record { text = bytes "&&"; kind = k_and }) ∷
    (record { text = bytes "<"; kind = k_less }) ∷
    (record { text = bytes "+"; kind = k_plus }) ∷
    (record { text = bytes "-"; kind = k_minus }) ∷
    (record { text = bytes "*"; kind = k_times }) ∷
    (record { text = bytes "!"; kind = k_not }) ∷
    (record { text = bytes "="; kind = k_assign }) ∷
    (record { text = bytes "."; kind = k_dot }) ∷
    (record { text = bytes ","; kind = k_comma }) ∷
    (record { text = bytes ";"; kind = k_semicolon }) ∷
    (record { text = bytes "("; kind = k_open }) ∷
    (record { text = bytes ")"; kind = k_close }) ∷
    (record { text = bytes "["; kind = k_open_bracket }) ∷
    (record { text = bytes "]"; kind = k_close_bracket }) ∷
    (record { text = bytes "{"; kind = k_open_brace }) ∷
    (record { text = bytes "}"; kind = k_close_brace }) ∷
    []

-- the text of the first entry of a kind
abbrev pub text_in : List Word → ℕ → List ℕ
text_in [] k = []
text_in (w ∷ ws) k = if eqb w.kind k then (λ _. w.text) otherwise λ _. text_in ws k

-- the spelling of a word of the lexer's table or of a mark
unfoldable pub spelling : ℕ → List ℕ
spelling k = text_in (words ++ marks) k

-- the token of a kind that has one spelling
abbrev pub spelt : ℕ → Lexeme
spelt k = record { kind = k; text = spelling k }

-- NAMES AND LITERALS

-- a name has the kind that the lexer gives it: `out`, `println`, `get` and `put` have kinds of their own
abbrev pub name_token : List ℕ → Lexeme
name_token x = record { kind = word_kind_lem x; text = x }

-- the decimal digits of a number, without leading zeros. Each turn leaves a smaller number, so fuel above the number is enough.
unfoldable pub digits_of : (fuel : ℕ) → ℕ → List ℕ
digits_of zero n = []
digits_of (suc f) n = if ltb n 10 then (λ _. (b_zero + n) ∷ []) otherwise λ _. digits_of f (n / 10) ++ (b_zero + n % 10) ∷ []

-- document 01: "A literal is a run of decimal digits"; document 02, (i): two or more do not begin with 0
unfoldable pub digits : ℕ → List ℕ
digits n = digits_of (suc n) n

-- document 02, (ix): "Its literal is digits, a point, exactly three digits"
unfoldable pub fixed_digits : ℕ → List ℕ
fixed_digits n =
    digits (n / per_unit) ++ b_dot ∷ (b_zero + n % per_unit / 100) ∷ (b_zero + n % 100 / 10) ∷ (b_zero + n % 10) ∷ []

-- a literal by what it says
abbrev pub literal_token : Numeral → Lexeme
literal_token (int_literal n) = record { kind = k_literal; text = digits n }
literal_token (fixed_literal n) = record { kind = k_fixed_literal; text = fixed_digits n }

-- WHERE A PAIR OF PARENTHESES STANDS: "An expression stands in parentheses, one pair, exactly where without them the tree would change or
-- the text be refused" (that it is so is proved in Tidy)

-- document 01: "`!` above `*` above `+ -` above `<` above `&&`"
abbrev pub level_of : Operator → Level
level_of and = conjunction
level_of less = comparison
level_of plus = sum
level_of minus = sum
level_of times = product

-- the token of an operator
abbrev pub kind_of : Operator → ℕ
kind_of and = k_and
kind_of less = k_less
kind_of plus = k_plus
kind_of minus = k_minus
kind_of times = k_times

-- the class of the grammar that a tree's top form is of
abbrev pub own : {s : Sort} → Part s → Kind s
own (literal p n) = Kind.primary
own (truth p b) = Kind.primary
own (variable p x) = Kind.primary
own (this p) = Kind.primary
own (new_array_lem p u e) = Kind.postfix
own (new_object_lem p c) = Kind.primary
own (negation p e) = Kind.unary
own (binary p o l r) = Kind.operation (level_of o)
own (element p a i) = Kind.indexable
own (array_length p a) = Kind.indexable
own (call p e m es) = Kind.indexable
own (port_get_lem p e) = Kind.primary
own no_arguments = Kind.argument_list
own (argument e es) = Kind.some_arguments_lem
own (block p ss) = Kind.a_statement
own (conditional p e s t) = Kind.a_statement
own (loop p e s) = Kind.a_statement
own (print p e) = Kind.a_statement
own (assign p x e) = Kind.a_statement
own (assign_element_lem p x i e) = Kind.a_statement
own (port_put_lem p n e) = Kind.a_statement
own no_statements = Kind.statement_list
own (sequence s ss) = Kind.statement_list

-- the levels, loosest first
abbrev pub level_rank : Level → ℕ
level_rank conjunction = 0
level_rank comparison = 1
level_rank sum = 2
level_rank product = 3

-- the classes of expressions in a row: each holds the next. In the other sorts there are no parentheses.
abbrev pub tightness : {s : Sort} → Kind s → ℕ
tightness (Kind.operation L) = level_rank L
tightness Kind.unary = 4
tightness Kind.postfix = 5
tightness Kind.indexable = 6
tightness Kind.primary = 7
tightness Kind.argument_list = 0
tightness Kind.some_arguments_lem = 0
tightness Kind.a_statement = 0
tightness Kind.statement_list = 0

-- the class that each place wants, where it is not that of all expressions: "binary operators group to the left", "postfix forms bind
-- tightest", "`new int[e]` is not directly followed by `[`"
-- left and right of an operator, which goes with what stands to its left
abbrev pub left_of : Operator → Kind expression
left_of o = Kind.operation (level_of o)

abbrev pub right_of : Operator → Kind expression
right_of o = operand (level_of o)

-- under `!`: another `!`, or a postfix form
abbrev pub under_not : Kind expression
under_not = Kind.unary

-- before `[`: no `new T[e]`
abbrev pub before_index : Kind expression
before_index = Kind.indexable

-- before `.length` and before `.m(..)`: a postfix form, `new T[e]` too
abbrev pub before_length : Kind expression
before_length = Kind.postfix

abbrev pub before_call : Kind expression
before_call = Kind.postfix

-- a form of this class stands in a place that wants class k
abbrev pub reaches : {s : Sort} → Kind s → Kind s → Bool
reaches k own = leb (tightness k) (tightness own)

-- where it does not, one pair
abbrev pub bracketed : Bool → (List Lexeme → List Lexeme) → List Lexeme → List Lexeme
bracketed true inner rest = inner rest
bracketed false inner rest = spelt k_open ∷ inner (spelt k_close ∷ rest)

-- THE TOKENS OF A TREE, by document 01's grammar and (vi), (viii) and (ix) of document 02

-- what is no array is one token
abbrev pub element_token : Element → Lexeme
element_token int = spelt k_int
element_token boolean = spelt k_boolean
element_token fixed = spelt k_fixed
element_token (class x) = name_token x

-- an expression, arguments, a statement or statements
unfoldable pub bare : {s : Sort} → Part s → List Lexeme → List Lexeme
bare (literal p n) rest = literal_token n ∷ rest
bare (truth p true) rest = spelt k_true ∷ rest
bare (truth p false) rest = spelt k_false ∷ rest
bare (variable p x) rest = name_token x ∷ rest
bare (this p) rest = spelt k_this ∷ rest
bare (new_array_lem p u e) rest = spelt k_new ∷ element_token u.element ∷ spelt k_open_bracket ∷ bare e (spelt k_close_bracket ∷ rest)
bare (new_object_lem p c) rest = spelt k_new ∷ name_token c.text ∷ spelt k_open ∷ spelt k_close ∷ rest
bare (negation p e) rest = spelt k_not ∷ bracketed (reaches under_not (own e)) (λ r. bare e r) rest
bare (binary p o l r) rest =
    bracketed (reaches (left_of o) (own l)) (λ x. bare l x)
    (spelt (kind_of o) ∷ bracketed (reaches (right_of o) (own r)) (λ x. bare r x) rest)
bare (element p a i) rest =
    bracketed (reaches before_index (own a)) (λ r. bare a r) (spelt k_open_bracket ∷ bare i (spelt k_close_bracket ∷ rest))
bare (array_length p a) rest = bracketed (reaches before_length (own a)) (λ r. bare a r) (spelt k_dot ∷ spelt k_length ∷ rest)
bare (call p e m es) rest =
    bracketed (reaches before_call (own e)) (λ r. bare e r)
    (spelt k_dot ∷ name_token m.text ∷ spelt k_open ∷ bare es (spelt k_close ∷ rest))
bare (port_get_lem p e) rest = spelt k_port ∷ spelt k_dot ∷ spelt k_get ∷ spelt k_open ∷ bare e (spelt k_close ∷ rest)
bare no_arguments rest = rest
bare (argument e no_arguments) rest = bare e rest
bare (argument e (argument x xs)) rest = bare e (spelt k_comma ∷ bare (argument x xs) rest)
bare (block p ss) rest = spelt k_open_brace ∷ bare ss (spelt k_close_brace ∷ rest)
bare (conditional p e s t) rest =
    spelt k_if ∷ spelt k_open ∷ bare e (spelt k_close ∷ bare s (spelt k_else ∷ bare t rest))
bare (loop p e s) rest = spelt k_while ∷ spelt k_open ∷ bare e (spelt k_close ∷ bare s rest)
bare (print p e) rest =
    spelt k_system ∷ spelt k_dot ∷ spelt k_out ∷ spelt k_dot ∷ spelt k_println ∷ spelt k_open ∷
    bare e (spelt k_close ∷ spelt k_semicolon ∷ rest)
bare (assign p x e) rest = name_token x ∷ spelt k_assign ∷ bare e (spelt k_semicolon ∷ rest)
bare (assign_element_lem p x i e) rest =
    name_token x ∷ spelt k_open_bracket ∷ bare i (spelt k_close_bracket ∷ spelt k_assign ∷ bare e (spelt k_semicolon ∷ rest))
bare (port_put_lem p n e) rest =
    spelt k_port ∷ spelt k_dot ∷ spelt k_put ∷ spelt k_open ∷
    bare n (spelt k_comma ∷ bare e (spelt k_close ∷ spelt k_semicolon ∷ rest))
bare no_statements rest = rest
bare (sequence s ss) rest = bare s (bare ss rest)

-- in a place that wants class k
abbrev pub print_in : {s : Sort} → Kind s → Part s → List Lexeme → List Lexeme
print_in k t rest = bracketed (reaches k (own t)) (λ r. bare t r) rest

-- THE TOKENS OF DECLARATIONS

-- (vi): an element type, and `[ ]` after it for an array
unfoldable pub type_tokens : Ty → List Lexeme → List Lexeme
type_tokens (plain t) rest = element_token t ∷ rest
type_tokens (array_of t) rest = element_token t ∷ spelt k_open_bracket ∷ spelt k_close_bracket ∷ rest

-- a type and a name
abbrev pub declaration_tokens : Variable → List Lexeme → List Lexeme
declaration_tokens v rest = type_tokens v.type.type (name_token v.name.text ∷ rest)

-- fields, or locals: `;` after each
unfoldable pub declarations_tokens : List Variable → List Lexeme → List Lexeme
declarations_tokens [] rest = rest
declarations_tokens (v ∷ vs) rest = declaration_tokens v (spelt k_semicolon ∷ declarations_tokens vs rest)

-- commas between them
unfoldable pub parameters_tokens : List Variable → List Lexeme → List Lexeme
parameters_tokens [] rest = rest
parameters_tokens (v ∷ []) rest = declaration_tokens v rest
parameters_tokens (v ∷ w ∷ vs) rest = declaration_tokens v (spelt k_comma ∷ parameters_tokens (w ∷ vs) rest)

-- a method after its parameters
abbrev pub body_tokens : Method → List Lexeme → List Lexeme
body_tokens m rest =
    spelt k_close ∷ spelt k_open_brace ∷
    declarations_tokens m.locals (bare m.body (spelt k_return ∷ bare m.value (spelt k_semicolon ∷ spelt k_close_brace ∷ rest)))

-- a method: result type and name, parameters, locals, statements, return expression
abbrev pub method_tokens : Method → List Lexeme → List Lexeme
method_tokens m rest =
    spelt k_public ∷ type_tokens m.result.type (name_token m.name.text ∷ spelt k_open ∷ parameters_tokens m.parameters
    (body_tokens m rest))

-- methods, in their order
unfoldable pub methods_tokens : List Method → List Lexeme → List Lexeme
methods_tokens [] rest = rest
methods_tokens (m ∷ ms) rest = method_tokens m (methods_tokens ms rest)

-- `extends`, where there is a parent
abbrev pub parent_tokens : Option Name → List Lexeme → List Lexeme
parent_tokens none rest = rest
parent_tokens (some n) rest = spelt k_extends ∷ name_token n.text ∷ rest

-- a class: name, parent, fields, methods
abbrev pub class_tokens : Class → List Lexeme → List Lexeme
class_tokens c rest =
    spelt k_class ∷ name_token c.name.text ∷
    parent_tokens c.parent (spelt k_open_brace ∷ declarations_tokens c.fields (methods_tokens c.methods (spelt k_close_brace ∷ rest)))

-- classes, in their order
unfoldable pub classes_tokens : List Class → List Lexeme → List Lexeme
classes_tokens [] rest = rest
classes_tokens (c ∷ cs) rest = class_tokens c (classes_tokens cs rest)

-- "writes an accepted lesson .. one token after another": the tokens of a program
unfoldable pub program_tokens : Program → List Lexeme
program_tokens p =
    spelt k_class ∷ name_token p.main.text ∷ spelt k_open_brace ∷
    spelt k_public ∷ spelt k_static ∷ spelt k_void ∷ spelt k_main ∷ spelt k_open ∷
    spelt k_string ∷ spelt k_open_bracket ∷ spelt k_close_bracket ∷ name_token p.parameter.text ∷ spelt k_close ∷ spelt k_open_brace ∷
    bare p.statement (spelt k_close_brace ∷ spelt k_close_brace ∷ classes_tokens p.classes [])

-- THE TEXT: "a line feed after `;`, `{` and `}`, one space after every other token, comments dropped"

-- what stands after a token of a kind
unfoldable pub separator : ℕ → ℕ
separator k = if eqb k k_semicolon || eqb k k_open_brace || eqb k k_close_brace then (λ _. b_line_feed) otherwise λ _. b_space

-- tokens, each with what stands after it
unfoldable pub render : List Lexeme → List ℕ
render [] = []
render (l ∷ ls) = l.text ++ separator l.kind ∷ render ls

-- the text of a program
unfoldable pub text : Program → List ℕ
text p = render (program_tokens p)
