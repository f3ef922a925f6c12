-- Every stage of Read and of Check refuses with one of the numbers of document 01: each refusal of a stage's definition is looked at, and a
-- chain of stages refuses as one of them does.
use Rattle.std.specs.Prelude.{ℕ, zero, suc, ◌+◌, ◌≤◌, ◌≡◌, Bool, length, drop, eqb, ltb, leb}
use Rattle.std.proofs.Common.{subst, arith}
use mathlib.Core.List.{List, [], ◌∷◌, map}
use Rattle.std.proofs.Math.Option.{Option, none, some}
use Rattle.base.specs.Choice.{if◌then◌otherwise◌, option}
use Rattle.base.specs.Codes.{source_most, tokens_most, variables_most}
use Rattle.base.specs.Outcome.{Outcome, accepted, refused, ◌>>=◌}
use Rattle.base.specs.laws.Tests.{if-both}
use Rattle.lexer.specs.Tokens.{Token, Item, gap, unclosed, nothing, token, item, exceeds_length, zero_first, not_three, too_large, turn}
use Rattle.lexer.specs.Tokens.{tokens_from, tokens}
use Rattle.parser.specs.Tree.{Element, Element.int, Element.boolean, Element.fixed, Element.class, Ty, Ty.plain, Ty.array_of}
use Rattle.parser.specs.Tree.{Name, TypeUse, Sort, Part, Expression, Variable, Method, Class, Program, Place, place_e}
use Rattle.parser.specs.Tree.{Sort.expression, Sort.arguments, Sort.statement, Sort.statements}
use Rattle.parser.specs.Tree.{Part.literal, Part.truth, Part.variable, Part.this, Part.new_array_lem, Part.new_object_lem, Part.negation, Part.binary, Part.element, Part.array_length, Part.call, Part.port_get_lem, Part.no_arguments, Part.argument}
use Rattle.parser.specs.Tree.{Part.block, Part.conditional, Part.loop, Part.print, Part.assign, Part.assign_element_lem, Part.port_put_lem, Part.no_statements, Part.sequence}
use Rattle.parser.specs.Parse.{Parsed, ok, bad, out, parse}
use Rattle.parser.specs.Measure.{program_deep}
use Rattle.parser.specs.Read.{grammatical, shallow, reading}
use Rattle.typesystem.specs.ClassTable.{Context, Found, main_context, context_of, class_named, ends_within, underlying, known, fits, chain, nearest_method, method_of, meaning, occurs, text_of}
use Rattle.typesystem.specs.Declarations.{distinct_classes, known_parent, known_parents, ending_chains, known_type, fields, variables, redeclares, redeclaration, new_method, heads, declarations}
use Rattle.typesystem.specs.Operators.{operation, printable}
use Rattle.typesystem.specs.Judge.{Judgement, arity, must, receiver, next_parameter, invocation, look_up, for_array, judge}
use Rattle.typesystem.specs.Check.{body, bodies, class_bodies, all_bodies, judged, checking}
use Rattle.acceptance.specs.Numbers.{ReadRefusal, source-too-long, no-token, comment-not-closed, name-too-long, literal-too-large}
use Rattle.acceptance.specs.Numbers.{too-many-tokens, not-in-grammar, too-deep, leading-zero, not-three-digits}
use Rattle.acceptance.specs.Numbers.{CheckRefusal, of-read, class-repeated, parent-unknown, chain-endless, field-repeated, type-unknown, method-repeated, bad-redeclaration, variable-repeated, too-many-variables, name-unknown, wrong_type, method-unknown, argument-count, this-in-main}

-- THE NUMBERS

read-least : {n : ℕ} → ReadRefusal n → 10 ≤ n
read-least source-too-long = omega arith
read-least no-token = omega arith
read-least comment-not-closed = omega arith
read-least name-too-long = omega arith
read-least literal-too-large = omega arith
read-least too-many-tokens = omega arith
read-least not-in-grammar = omega arith
read-least too-deep = omega arith
read-least leading-zero = omega arith
read-least not-three-digits = omega arith

pub at-least-ten : {n : ℕ} → CheckRefusal n → 10 ≤ n
at-least-ten (of-read r) = read-least r
at-least-ten class-repeated = omega arith
at-least-ten parent-unknown = omega arith
at-least-ten chain-endless = omega arith
at-least-ten field-repeated = omega arith
at-least-ten type-unknown = omega arith
at-least-ten method-repeated = omega arith
at-least-ten bad-redeclaration = omega arith
at-least-ten variable-repeated = omega arith
at-least-ten too-many-variables = omega arith
at-least-ten name-unknown = omega arith
at-least-ten wrong_type = omega arith
at-least-ten method-unknown = omega arith
at-least-ten argument-count = omega arith
at-least-ten this-in-main = omega arith

-- WHAT A STAGE REFUSES

-- if it refuses, then with such a number
pub data Refuses {A : Type 0} (P : ℕ → Type 0) : Outcome A → Type 0 where
  accepts : {a : A} → Refuses P (accepted a)
  refuses : {n q : ℕ} → P n → Refuses P (refused n q)

module _ {P : ℕ → Type 0} where
  refused-with : {A : Type 0} {n q : ℕ} → Refuses {A = A} P (refused n q) → P n
  refused-with (refuses h) = h

  pub refusal-of : {A : Type 0} {o : Outcome A} {n q : ℕ} → o ≡ refused n q → Refuses P o → P n
  refusal-of e r = refused-with (subst (Refuses P) e r)

  both : {A B : Type 0} (o : Outcome A) (k : A → Outcome B) → Refuses P o → ((a : A) → Refuses P (k a)) → Refuses P (o >>= k)
  both (accepted a) k r f = f a
  both (refused n q) k (refuses h) f = refuses h

  -- a test
  either : {A : Type 0} (b : Bool) (x y : Unit {0} → Outcome A) → Refuses P (x tt) → Refuses P (y tt) → Refuses P (if b then x otherwise y)
  either b x y r h = if-both (Refuses P) b x y r h

  -- a look-up
  found : {A B : Type 0} (o : Option A) (x : Outcome B) (k : A → Outcome B) → Refuses P x → ((a : A) → Refuses P (k a))
      → Refuses P (option o x k)
  found none x k r f = r
  found (some a) x k r f = f a

-- READ

of-turn : (next : ℕ → ℕ → Outcome (List Token)) (count i : ℕ) (x : Item) → ((c j : ℕ) → Refuses ReadRefusal (next c j))
    → Refuses ReadRefusal (turn next count i x)
unfolding turn
of-turn next count i (gap j) f = f count j
of-turn next count i unclosed f = refuses comment-not-closed
of-turn next count i nothing f = refuses no-token
of-turn next count i (token k t) f =
    either (eqb count tokens_most) _ _ (refuses too-many-tokens)
    (either (exceeds_length k t) _ _ (refuses name-too-long)
    (either (zero_first k t) _ _ (refuses leading-zero)
    (either (not_three k t) _ _ (refuses not-three-digits)
    (either (too_large k t) _ _ (refuses literal-too-large)
    (both (next (count + 1) (i + length t)) _ (f (count + 1) (i + length t)) (λ ts. accepts))))))

of-tokens : (f : ℕ) (s : List ℕ) (count i : ℕ) → Refuses ReadRefusal (tokens_from f s count i)
unfolding tokens_from
of-tokens zero s count i = accepts
of-tokens (suc f) s count i =
    either (leb (length s) i) _ _ accepts
    (of-turn (λ c j. tokens_from f s c j) count i (item i (drop i s)) (λ c j. of-tokens f s c j))

of-grammatical : (s : List ℕ) (ts : List Token) (r : Parsed Program) → Refuses ReadRefusal (grammatical s ts r)
of-grammatical s ts (ok p j) = accepts
of-grammatical s ts (bad k) = refuses not-in-grammar
of-grammatical s ts out = refuses not-in-grammar

of-shallow : (p : Program) → Refuses ReadRefusal (shallow p)
of-shallow p = found (program_deep p) _ _ accepts (λ at. refuses too-deep)

pub reading-refuses : (s : List ℕ) → Refuses ReadRefusal (reading s)
unfolding reading tokens
reading-refuses s =
    either (ltb source_most (length s)) _ _ (refuses source-too-long)
    (both (tokens s) _ (of-tokens (length s + 1) s 0 0)
    (λ ts. both (grammatical s ts (parse ts)) _ (of-grammatical s ts (parse ts))
    (λ p. both (shallow p) _ (of-shallow p) (λ p. accepts))))

-- CHECK: DECLARATIONS

of-names : (earlier : List (List ℕ)) (ks : List Class) → Refuses CheckRefusal (distinct_classes earlier ks)
unfolding distinct_classes
of-names earlier [] = accepts
of-names earlier (k ∷ ks) = either (occurs k.name.text earlier) _ _ (refuses class-repeated) (of-names (k.name.text ∷ earlier) ks)

module _ (G : List Class) where
  of-parent : (o : Option Name) → Refuses CheckRefusal (known_parent G o)
  of-parent none = accepts
  of-parent (some p) = found (class_named G p.text) _ _ (refuses parent-unknown) (λ _. accepts)

  of-parents : (ks : List Class) → Refuses CheckRefusal (known_parents G ks)
  unfolding known_parents
  of-parents [] = accepts
  of-parents (k ∷ ks) = both (known_parent G k.parent) _ (of-parent k.parent) (λ _. of-parents ks)

  of-chains : (ks : List Class) → Refuses CheckRefusal (ending_chains G ks)
  unfolding ending_chains
  of-chains [] = accepts
  of-chains (k ∷ ks) = either (ends_within (length G) G k.name.text) _ _ (of-chains ks) (refuses chain-endless)

  of-type : (t : TypeUse) → Refuses CheckRefusal (known_type G t)
  of-type t = either (known G (underlying t.type)) _ _ accepts (refuses type-unknown)

  of_fields : (earlier : List (List ℕ)) (vs : List Variable) → Refuses CheckRefusal (fields G earlier vs)
  unfolding fields
  of_fields earlier [] = accepts
  of_fields earlier (v ∷ vs) =
      both (known_type G v.type) _ (of-type v.type)
      (λ _. either (occurs (text_of v) earlier) _ _ (refuses field-repeated) (of_fields (text_of v ∷ earlier) vs))

  of-variables : (earlier : List (List ℕ)) (vs : List Variable) → Refuses CheckRefusal (variables G earlier vs)
  unfolding variables
  of-variables earlier [] = accepts
  of-variables earlier (v ∷ vs) =
      both (known_type G v.type) _ (of-type v.type)
      (λ _. either (occurs (text_of v) earlier) _ _ (refuses variable-repeated)
      (either (ltb (length earlier) variables_most) _ _ (of-variables (text_of v ∷ earlier) vs) (refuses too-many-variables)))

  of-redeclaration : (k : Class) (m : Method) → Refuses CheckRefusal (redeclaration G k m)
  of-redeclaration k m =
      found (nearest_method (drop 1 (chain G k.name.text)) m.name.text) _ _ accepts
      (λ F. either (redeclares G m F.method) _ _ accepts (refuses bad-redeclaration))

  of-heads : (k : Class) (earlier : List (List ℕ)) (ms : List Method) → Refuses CheckRefusal (heads G k earlier ms)
  unfolding heads
  of-heads k earlier [] = accepts
  of-heads k earlier (m ∷ ms) =
      both (known_type G m.result) _ (of-type m.result)
      (λ _. both (new_method earlier m) _ (either (occurs m.name.text earlier) _ _ (refuses method-repeated) accepts)
      (λ _. both (variables G [] m.parameters) _ (of-variables [] m.parameters)
      (λ _. both (redeclaration G k m) _ (of-redeclaration k m) (λ _. of-heads k (m.name.text ∷ earlier) ms))))

  of-declarations : (ks : List Class) → Refuses CheckRefusal (declarations G ks)
  unfolding declarations
  of-declarations [] = accepts
  of-declarations (k ∷ ks) =
      both (fields G [] k.fields) _ (of_fields [] k.fields)
      (λ _. both (heads G k [] k.methods) _ (of-heads k [] k.methods) (λ _. of-declarations ks))

-- CHECK: BODIES

-- what judging a part of each sort refuses
abbrev JudgeRefuses : (s : Sort) → Judgement s → Type 0
JudgeRefuses expression o = Refuses CheckRefusal o
JudgeRefuses arguments f = (vs : List Variable) → Refuses CheckRefusal (f vs)
JudgeRefuses statement o = Refuses CheckRefusal o
JudgeRefuses statements o = Refuses CheckRefusal o

of-receiver : (e : Expression) (t : Ty) (k : List ℕ → Outcome Ty) → ((c : List ℕ) → Refuses CheckRefusal (k c))
    → Refuses CheckRefusal (receiver e t k)
of-receiver e (plain int) k f = refuses wrong_type
of-receiver e (plain boolean) k f = refuses wrong_type
of-receiver e (plain fixed) k f = refuses wrong_type
of-receiver e (plain (class c)) k f = f c
of-receiver e (array_of t) k f = refuses wrong_type

of_array : {A : Type 0} (p : ℕ) (t : Ty) (k : Element → Outcome A) → ((u : Element) → Refuses CheckRefusal (k u))
    → Refuses CheckRefusal (for_array p t k)
of_array p (plain t) k f = refuses wrong_type
of_array p (array_of t) k f = f t

of-invocation : (m : Name) (n : ℕ) (f : List Variable → Outcome (Unit {0})) (o : Option Found)
    → ((vs : List Variable) → Refuses CheckRefusal (f vs)) → Refuses CheckRefusal (invocation m n f o)
of-invocation m n f none r = refuses method-unknown
of-invocation m n f (some F) r =
    either (eqb n (length F.method.parameters)) _ _ (both (f F.method.parameters) _ (r F.method.parameters) (λ _. accepts))
    (refuses argument-count)

of-parameter : (vs : List Variable) (k : Variable → List Variable → Outcome (Unit {0}))
    → ((v : Variable) (vs : List Variable) → Refuses CheckRefusal (k v vs)) → Refuses CheckRefusal (next_parameter vs k)
of-parameter [] k f = refuses argument-count
of-parameter (v ∷ vs) k f = f v vs

module _ (G : List Class) (Γ : Context) where
  of-must : (e : Expression) (want got : Ty) → Refuses CheckRefusal (must G e want got)
  of-must e want got = either (fits G got want) _ _ accepts (refuses wrong_type)

  of-name : (p : Place) (x : List ℕ) → Refuses CheckRefusal (look_up G Γ p x)
  of-name p x = found (meaning G Γ x) _ _ (refuses name-unknown) (λ m. accepts)

  -- a part that is judged, must fit, and then the rest
  fitting : {B : Type 0} (e : Expression) (want : Ty) (k : Outcome B) → Refuses CheckRefusal (judge G Γ e) → Refuses CheckRefusal k
      → Refuses CheckRefusal (judge G Γ e >>= λ t. must G e want t >>= λ _. k)
  fitting e want k r h = both (judge G Γ e) _ r (λ t. both (must G e want t) (λ _. k) (of-must e want t) (λ _. h))

  fitting-last : (e : Expression) (want : Ty) → Refuses CheckRefusal (judge G Γ e)
      → Refuses CheckRefusal (judge G Γ e >>= λ t. must G e want t)
  fitting-last e want r = both (judge G Γ e) _ r (λ t. of-must e want t)

  of-judge : {s : Sort} (x : Part s) → JudgeRefuses s (judge G Γ x)
  unfolding judge
  of-judge (literal p n) = accepts
  of-judge (truth p b) = accepts
  of-judge (variable p x) = of-name p x
  of-judge (this p) = found Γ.owner _ _ (refuses this-in-main) (λ c. accepts)
  of-judge (new_array_lem p u e) = either (known G u.element) _ _ (fitting e (plain int) _ (of-judge e) accepts) (refuses type-unknown)
  of-judge (new_object_lem p c) = either (known G (class c.text)) _ _ accepts (refuses type-unknown)
  of-judge (negation p e) = fitting e (plain boolean) _ (of-judge e) accepts
  of-judge (binary p o l r) =
      both (judge G Γ l) _ (of-judge l) (λ s. found (operation o s) _ _ (refuses wrong_type) (λ t. fitting r s _ (of-judge r) accepts))
  of-judge (element p a i) =
      both (judge G Γ a) _ (of-judge a) (λ t. of_array (place_e a).start t _ (λ s. fitting i (plain int) _ (of-judge i) accepts))
  of-judge (array_length p a) = both (judge G Γ a) _ (of-judge a) (λ t. of_array (place_e a).start t _ (λ s. accepts))
  of-judge (call p e m es) =
      both (judge G Γ e) _ (of-judge e)
      (λ t. of-receiver e t _ (λ c. of-invocation m (arity es) (judge G Γ es) (method_of G c m.text) (of-judge es)))
  of-judge (port_get_lem p e) = fitting e (plain int) _ (of-judge e) accepts
  of-judge no_arguments = λ vs. accepts
  of-judge (argument e es) = λ vs. of-parameter vs _ (λ v vs. fitting e v.type.type (judge G Γ es vs) (of-judge e) (of-judge es vs))
  of-judge (block p ss) = of-judge ss
  of-judge (conditional p e s t) = fitting e (plain boolean) _ (of-judge e) (both (judge G Γ s) _ (of-judge s) (λ _. of-judge t))
  of-judge (loop p e s) = fitting e (plain boolean) _ (of-judge e) (of-judge s)
  of-judge (print p e) = both (judge G Γ e) _ (of-judge e) (λ t. either (printable t) _ _ accepts (refuses wrong_type))
  of-judge (assign p x e) = both (look_up G Γ p x) _ (of-name p x) (λ t. fitting-last e t (of-judge e))
  of-judge (assign_element_lem p x i e) =
      both (look_up G Γ p x) _ (of-name p x)
      (λ t. of_array p.start t _ (λ s. fitting i (plain int) _ (of-judge i) (fitting-last e (plain s) (of-judge e))))
  of-judge (port_put_lem p n e) = fitting n (plain int) _ (of-judge n) (fitting-last e (plain int) (of-judge e))
  of-judge no_statements = accepts
  of-judge (sequence s ss) = both (judge G Γ s) _ (of-judge s) (λ _. of-judge ss)

of-body : (G : List Class) (c : List ℕ) (m : Method) → Refuses CheckRefusal (body G c m)
of-body G c m =
    both (variables G (map text_of m.parameters) m.locals) _ (of-variables G (map text_of m.parameters) m.locals)
    (λ _. both (judge G (context_of c m) m.body) _ (of-judge G (context_of c m) m.body)
    (λ _. fitting-last G (context_of c m) m.value m.result.type (of-judge G (context_of c m) m.value)))

of-bodies : (G : List Class) (c : List ℕ) (ms : List Method) → Refuses CheckRefusal (bodies G c ms)
unfolding bodies
of-bodies G c [] = accepts
of-bodies G c (m ∷ ms) = both (body G c m) _ (of-body G c m) (λ _. of-bodies G c ms)

of-class-bodies : (G ks : List Class) → Refuses CheckRefusal (class_bodies G ks)
unfolding class_bodies
of-class-bodies G [] = accepts
of-class-bodies G (k ∷ ks) =
    both (bodies G k.name.text k.methods) _ (of-bodies G k.name.text k.methods) (λ _. of-class-bodies G ks)

-- CHECK

of-judged : (p : Program) → Refuses CheckRefusal (judged p)
unfolding judged all_bodies
of-judged p =
    let G = p.classes in
    both (distinct_classes (p.main.text ∷ []) G) _ (of-names (p.main.text ∷ []) G)
    (λ _. both (known_parents G G) _ (of-parents G G)
    (λ _. both (ending_chains G G) _ (of-chains G G)
    (λ _. both (declarations G G) _ (of-declarations G G)
    (λ _. both (all_bodies p) _
    (both (judge G main_context p.statement) _ (of-judge G main_context p.statement) (λ _. of-class-bodies G G))
    (λ _. accepts)))))

of-read-too : {A : Type 0} {o : Outcome A} → Refuses ReadRefusal o → Refuses CheckRefusal o
of-read-too accepts = accepts
of-read-too (refuses r) = refuses (of-read r)

pub checking-refuses : (s : List ℕ) → Refuses CheckRefusal (checking s)
unfolding checking
checking-refuses s = both (reading s) _ (of-read-too (reading-refuses s)) (λ r. of-judged r.tree)
