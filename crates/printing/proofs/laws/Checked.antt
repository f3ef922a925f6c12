-- Whether Check accepts does not depend on positions: a program and the program without positions are accepted together.
use Rattle.std.specs.Prelude.{ℕ, ◌≡◌, refl, Bool, true, false, ◌&&◌, length, drop, eqb, ltb}
use Rattle.std.proofs.Common.{sym, ap, ◌∙◌, subst}
use mathlib.Core.List.{List, [], ◌∷◌, ◌++◌, map}
use Rattle.std.proofs.Math.Option.{Option, none, some}
use Rattle.base.specs.Choice.{if◌then◌otherwise◌, option}
use Rattle.base.specs.Codes.{parent_unknown, bad_redeclaration, variables_most}
use Rattle.base.specs.Outcome.{Outcome, accepted, refused, ◌>>=◌}
use Rattle.base.specs.laws.Tests.{apart}
use Rattle.parser.specs.Tree.{Place, Name, Sort, Part, Expression, place_e, TypeUse, Variable, Method, Class, Program}
use Rattle.parser.specs.Tree.{Element, Element.int, Element.boolean, Element.fixed, Element.class, Ty, Ty.plain, Ty.array_of}
use Rattle.parser.specs.Tree.{Sort.expression, Sort.arguments, Sort.statement, Sort.statements}
use Rattle.parser.specs.Tree.{Part.literal, Part.truth, Part.variable, Part.this, Part.new_array_lem, Part.new_object_lem, Part.negation, Part.binary}
use Rattle.parser.specs.Tree.{Part.element, Part.array_length, Part.call, Part.port_get_lem, Part.no_arguments, Part.argument}
use Rattle.parser.specs.Tree.{Part.block, Part.conditional, Part.loop, Part.print, Part.assign, Part.assign_element_lem, Part.port_put_lem}
use Rattle.parser.specs.Tree.{Part.no_statements, Part.sequence}
use Rattle.typesystem.specs.ClassTable.{occurs, text_of, class_named, chain, ends_within, underlying, known, fits, nearest_method, method_of}
use Rattle.typesystem.specs.ClassTable.{Found, Context, main_context, context_of, meaning}
use Rattle.typesystem.specs.Operators.{operation, printable}
use Rattle.typesystem.specs.Judge.{arity, must, receiver, for_array, invocation, look_up, judge}
use Rattle.typesystem.specs.Declarations.{distinct_classes, known_parent, known_parents, ending_chains, known_type, fields, variables}
use Rattle.typesystem.specs.Declarations.{redeclares}
use Rattle.typesystem.specs.Declarations.{redeclaration, heads, declarations}
use Rattle.typesystem.specs.Check.{body, bodies, class_bodies, all_bodies, judged}
use Rattle.typing.specs.laws.Choices.{bind_assoc}
use Rattle.printing.specs.Same.{no_place, unplaced, erase, erase_variable, erase_variables, erase_method, erase_methods, erase_parent, erase_class}
use Rattle.printing.specs.Same.{erase_classes, erase_program, SameProgram}
use Rattle.printing.proofs.laws.Lookups.{erase_found, mapped, erase_context, class-erase, ends-erase, known-erase, fits-erase}
use Rattle.printing.proofs.laws.Lookups.{types-erase}
use Rattle.printing.proofs.laws.Lookups.{append-erase, variables-length, texts-erase, method-of, method-above, meaning-erase}

-- both accept, the same, or both refuse
data Alike {A : Type 0} : Outcome A → Outcome A → Type 0 where
  both : {a : A} → Alike (accepted a) (accepted a)
  neither : {n p m q : ℕ} → Alike (refused n p) (refused m q)

and_then : {A B : Type 0} {o o₂ : Outcome A} {k k₂ : A → Outcome B} → Alike o o₂ → ((a : A) → Alike (k a) (k₂ a))
    → Alike (o >>= k) (o₂ >>= k₂)
and_then (both {a = a}) h = h a
and_then neither h = neither

-- one test on both sides, and one look-up
tested : {A : Type 0} (b : Bool) {x x₂ y y₂ : Outcome A} → Alike x x₂ → Alike y y₂
    → Alike (if b then (λ _. x) otherwise λ _. y) (if b then (λ _. x₂) otherwise λ _. y₂)
tested true h g = h
tested false h g = g

looked : {A B : Type 0} (o : Option A) {x x₂ : Outcome B} {f f₂ : A → Outcome B} → Alike x x₂ → ((a : A) → Alike (f a) (f₂ a))
    → Alike (option o x f) (option o x₂ f₂)
looked none h g = h
looked (some a) h g = g a

arity-erase : (es : Part arguments) → arity (erase es) ≡ arity es
unfolding arity erase
arity-erase no_arguments = refl
arity-erase (argument e es) = rw (arity-erase es)

-- JUDGING

module _ (G : List Class) (Γ : Context) where
  abbrev G₀ : List Class
  G₀ = erase_classes G

  abbrev Γ₀ : Context
  Γ₀ = erase_context Γ

  abbrev JudgedAlike : {s : Sort} → Part s → Type 0
  JudgedAlike {s = expression} e = Alike (judge G₀ Γ₀ (erase e)) (judge G Γ e)
  JudgedAlike {s = arguments} es = (vs : List Variable) → Alike (judge G₀ Γ₀ (erase es) (erase_variables vs)) (judge G Γ es vs)
  JudgedAlike {s = statement} t = Alike (judge G₀ Γ₀ (erase t)) (judge G Γ t)
  JudgedAlike {s = statements} ss = Alike (judge G₀ Γ₀ (erase ss)) (judge G Γ ss)

  must-alike : (e₀ e : Expression) (want got : Ty) → Alike (must G₀ e₀ want got) (must G e want got)
  must-alike e₀ e want got = rw (fits-erase G got want) (tested (fits G got want) both neither)

  look-alike : (p₀ p : Place) (x : List ℕ) → Alike (look_up G₀ Γ₀ p₀ x) (look_up G Γ p x)
  look-alike p₀ p x = rw (meaning-erase G Γ x) (looked (meaning G Γ x) neither λ m. both)

  array-alike : {A : Type 0} (q₀ q : ℕ) (t : Ty) {k k₂ : Element → Outcome A} → ((s : Element) → Alike (k s) (k₂ s))
      → Alike (for_array q₀ t k) (for_array q t k₂)
  array-alike q₀ q (plain t) h = neither
  array-alike q₀ q (array_of t) h = h t

  receiver-alike : (e₀ e : Expression) (t : Ty) {k k₂ : List ℕ → Outcome Ty} → ((c : List ℕ) → Alike (k c) (k₂ c))
      → Alike (receiver e₀ t k) (receiver e t k₂)
  receiver-alike e₀ e (plain int) h = neither
  receiver-alike e₀ e (plain boolean) h = neither
  receiver-alike e₀ e (plain fixed) h = neither
  receiver-alike e₀ e (plain (class c)) h = h c
  receiver-alike e₀ e (array_of t) h = neither

  invocation-alike : (m₀ m : Name) (es : Part arguments) → JudgedAlike es → (o : Option Found)
      → Alike (invocation m₀ (arity (erase es)) (judge G₀ Γ₀ (erase es)) (mapped erase_found o)) (invocation m (arity es) (judge G Γ es) o)
  invocation-alike m₀ m es h none = neither
  invocation-alike m₀ m es h (some F) =
      rw (arity-erase es, variables-length F.method.parameters)
      (tested (eqb (arity es) (length F.method.parameters)) (and_then (h F.method.parameters) λ _. both) neither)

  argument-alike : (e : Expression) (es : Part arguments) → JudgedAlike e → JudgedAlike es → JudgedAlike (argument e es)
  unfolding judge erase erase_variables
  argument-alike e es h g [] = neither
  argument-alike e es h g (v ∷ vs) = and_then h λ t. and_then (must-alike (erase e) e v.type.type t) λ _. g vs

  judged-alike : {s : Sort} (t : Part s) → JudgedAlike t
  unfolding judge erase
  judged-alike (literal p n) = both
  judged-alike (truth p b) = both
  judged-alike (variable p x) = look-alike no_place p x
  judged-alike (this p) = looked Γ.owner neither λ c. both
  judged-alike (new_array_lem p u e) =
      rw (known-erase G u.element)
      (tested (known G u.element) (and_then (judged-alike e) λ t. and_then (must-alike (erase e) e (plain int) t) λ _. both) neither)
  judged-alike (new_object_lem p c) = rw (known-erase G (class c.text)) (tested (known G (class c.text)) both neither)
  judged-alike (negation p e) = and_then (judged-alike e) λ t. and_then (must-alike (erase e) e (plain boolean) t) λ _. both
  judged-alike (binary p o l r) =
      and_then (judged-alike l) λ s. looked (operation o s) neither λ t.
      and_then (judged-alike r) λ u. and_then (must-alike (erase r) r s u) λ _. both
  judged-alike (element p a i) =
      and_then (judged-alike a) λ t. array-alike (place_e (erase a)).start (place_e a).start t λ s.
      and_then (judged-alike i) λ u. and_then (must-alike (erase i) i (plain int) u) λ _. both
  judged-alike (array_length p a) = and_then (judged-alike a) λ t. array-alike (place_e (erase a)).start (place_e a).start t λ _. both
  judged-alike (call p e m es) =
      and_then (judged-alike e) λ t. receiver-alike (erase e) e t λ c. rw (method-of G c m.text)
      (invocation-alike (unplaced m.text) m es (judged-alike es) (method_of G c m.text))
  judged-alike (port_get_lem p e) = and_then (judged-alike e) λ t. and_then (must-alike (erase e) e (plain int) t) λ _. both
  judged-alike no_arguments = λ vs. both
  judged-alike (argument e es) = argument-alike e es (judged-alike e) (judged-alike es)
  judged-alike (block p ss) = judged-alike ss
  judged-alike (conditional p e s t) =
      and_then (judged-alike e) λ τ. and_then (must-alike (erase e) e (plain boolean) τ) λ _. and_then (judged-alike s) λ _. judged-alike t
  judged-alike (loop p e s) = and_then (judged-alike e) λ t. and_then (must-alike (erase e) e (plain boolean) t) λ _. judged-alike s
  judged-alike (print p e) = and_then (judged-alike e) λ t. tested (printable t) both neither
  judged-alike (assign p x e) = and_then (look-alike no_place p x) λ target. and_then (judged-alike e) λ t. must-alike (erase e) e target t
  judged-alike (assign_element_lem p x i e) =
      and_then (look-alike no_place p x) λ target. array-alike 0 p.start target λ s.
      and_then (judged-alike i) λ t. and_then (must-alike (erase i) i (plain int) t) λ _.
      and_then (judged-alike e) λ t. must-alike (erase e) e (plain s) t
  judged-alike (port_put_lem p n e) =
      and_then (judged-alike n) λ t. and_then (must-alike (erase n) n (plain int) t) λ _.
      and_then (judged-alike e) λ t. must-alike (erase e) e (plain int) t
  judged-alike no_statements = both
  judged-alike (sequence s ss) = and_then (judged-alike s) λ _. judged-alike ss

-- DECLARATIONS

distinct-alike : (earlier : List (List ℕ)) (ks : List Class)
    → Alike (distinct_classes earlier (erase_classes ks)) (distinct_classes earlier ks)
unfolding distinct_classes erase_classes
distinct-alike earlier [] = both
distinct-alike earlier (k ∷ ks) = tested (occurs k.name.text earlier) neither (distinct-alike (k.name.text ∷ earlier) ks)

present : (o : Option Class) (p₀ p : ℕ)
    → Alike {A = Unit {0}} (option (mapped erase_class o) (refused parent_unknown p₀) λ _. accepted tt)
    (option o (refused parent_unknown p) λ _. accepted tt)
present none p₀ p = neither
present (some k) p₀ p = both

module _ (G : List Class) where
  parent-alike : (o : Option Name) → Alike (known_parent (erase_classes G) (erase_parent o)) (known_parent G o)
  parent-alike none = both
  parent-alike (some p) = rw (class-erase G p.text) (present (class_named G p.text) 0 p.start)

  parents-alike : (ks : List Class) → Alike (known_parents (erase_classes G) (erase_classes ks)) (known_parents G ks)
  unfolding known_parents erase_classes
  parents-alike [] = both
  parents-alike (k ∷ ks) = and_then (parent-alike k.parent) λ _. parents-alike ks

  chains-alike : (ks : List Class) → Alike (ending_chains (erase_classes G) (erase_classes ks)) (ending_chains G ks)
  unfolding ending_chains erase_classes
  chains-alike [] = both
  chains-alike (k ∷ ks) = rw (ends-erase G k.name.text) (tested (ends_within (length G) G k.name.text) (chains-alike ks) neither)

  type-alike : (t₀ t : TypeUse) → t₀.type ≡ t.type → Alike (known_type (erase_classes G) t₀) (known_type G t)
  type-alike t₀ t e = rw (e, known-erase G (underlying t.type)) (tested (known G (underlying t.type)) both neither)

  fields-alike : (earlier : List (List ℕ)) (vs : List Variable)
      → Alike (fields (erase_classes G) earlier (erase_variables vs)) (fields G earlier vs)
  unfolding fields erase_variables
  fields-alike earlier [] = both
  fields-alike earlier (v ∷ vs) =
      and_then (type-alike (erase_variable v).type v.type refl) λ _. tested (occurs (text_of v) earlier) neither
      (fields-alike (text_of v ∷ earlier) vs)

  variables-alike : (earlier : List (List ℕ)) (vs : List Variable)
      → Alike (variables (erase_classes G) earlier (erase_variables vs)) (variables G earlier vs)
  unfolding variables erase_variables
  variables-alike earlier [] = both
  variables-alike earlier (v ∷ vs) =
      and_then (type-alike (erase_variable v).type v.type refl) λ _.
      tested (occurs (text_of v) earlier) neither
      (tested (ltb (length earlier) variables_most) (variables-alike (text_of v ∷ earlier) vs) neither)

  redeclaration-alike : (k : Class) (m : Method)
      → Alike (redeclaration (erase_classes G) (erase_class k) (erase_method m)) (redeclaration G k m)
  redeclaration-alike k m =
      rw (method-above G k.name.text m.name.text) (go (nearest_method (drop 1 (chain G k.name.text)) m.name.text))
    where
      go : (o : Option Found) → Alike {A = Unit {0}}
          (option (mapped erase_found o) (accepted tt) λ F.
          if redeclares (erase_classes G) (erase_method m) F.method then (λ _. accepted tt) otherwise λ _. refused bad_redeclaration 0)
          (option o (accepted tt) λ F.
          if redeclares G m F.method then (λ _. accepted tt) otherwise λ _. refused bad_redeclaration m.name.start)
      go none = both
      go (some F) =
          rw (types-erase m.parameters F.method.parameters, fits-erase G m.result.type F.method.result.type)
          (tested (redeclares G m F.method) both neither)

  heads-alike : (k : Class) (earlier : List (List ℕ)) (ms : List Method)
      → Alike (heads (erase_classes G) (erase_class k) earlier (erase_methods ms)) (heads G k earlier ms)
  unfolding heads erase_methods
  heads-alike k earlier [] = both
  heads-alike k earlier (m ∷ ms) =
      and_then (type-alike (erase_method m).result m.result refl) λ _.
      and_then (tested (occurs m.name.text earlier) neither both) λ _.
      and_then (variables-alike [] m.parameters) λ _.
      and_then (redeclaration-alike k m) λ _. heads-alike k (m.name.text ∷ earlier) ms

  declarations-alike : (ks : List Class) → Alike (declarations (erase_classes G) (erase_classes ks)) (declarations G ks)
  unfolding declarations erase_classes
  declarations-alike [] = both
  declarations-alike (k ∷ ks) =
      and_then (fields-alike [] k.fields) λ _. and_then (heads-alike k [] k.methods) λ _. declarations-alike ks

  -- BODIES

  context-erase : (c : List ℕ) (m : Method) → context_of c (erase_method m) ≡ erase_context (context_of c m)
  context-erase c m =
      ap (λ (vs : List Variable). record { owner = some c; variables = vs }) (sym (append-erase m.parameters m.locals))

  body_alike : (c : List ℕ) (m : Method) → Alike (body (erase_classes G) c (erase_method m)) (body G c m)
  body_alike c m =
      rw (texts-erase m.parameters, context-erase c m)
      (and_then (variables-alike (map text_of m.parameters) m.locals) λ _.
      and_then (judged-alike G (context_of c m) m.body) λ _.
      and_then (judged-alike G (context_of c m) m.value) λ t. must-alike G (context_of c m) (erase m.value) m.value
      m.result.type t)

  bodies-alike : (c : List ℕ) (ms : List Method) → Alike (bodies (erase_classes G) c (erase_methods ms)) (bodies G c ms)
  unfolding bodies erase_methods
  bodies-alike c [] = both
  bodies-alike c (m ∷ ms) = and_then (body_alike c m) λ _. bodies-alike c ms

  classes-alike : (ks : List Class) → Alike (class_bodies (erase_classes G) (erase_classes ks)) (class_bodies G ks)
  unfolding class_bodies erase_classes
  classes-alike [] = both
  classes-alike (k ∷ ks) = and_then (bodies-alike k.name.text k.methods) λ _. classes-alike ks

main-context : erase_context main_context ≡ main_context
unfolding erase_variables
main-context = refl

all_alike : (p : Program) → Alike (all_bodies (erase_program p)) (all_bodies p)
unfolding all_bodies erase_program
all_alike p =
    let G = p.classes in
    let s = p.statement in
    and_then
    (subst (λ (Γ : Context). Alike (judge (erase_classes G) Γ (erase s)) (judge G main_context s)) main-context
    (judged-alike G main_context s)) λ _. classes-alike G G

-- PROGRAMS

-- the stages of judging, without the tree
abbrev stages : Program → Outcome (Unit {0})
stages p =
    distinct_classes (p.main.text ∷ []) p.classes >>= λ _.
    known_parents p.classes p.classes >>= λ _.
    ending_chains p.classes p.classes >>= λ _.
    declarations p.classes p.classes >>= λ _.
    all_bodies p

stages-alike : (p : Program) → Alike (stages (erase_program p)) (stages p)
unfolding erase_program
stages-alike p =
    let G = p.classes in
    and_then (distinct-alike (p.main.text ∷ []) G) λ _.
    and_then (parents-alike G G) λ _.
    and_then (chains-alike G G) λ _.
    and_then (declarations-alike G G) λ _. bodies-without-positions p
  where
    bodies-without-positions : (p : Program) → Alike (all_bodies (erase_program p)) (all_bodies p)
    bodies-without-positions p = all_alike p

abbrev passes : {A : Type 0} → Outcome A → Bool
passes (accepted a) = true
passes (refused n q) = false

pass-alike : {A : Type 0} {o o₂ : Outcome A} → Alike o o₂ → passes o ≡ passes o₂
pass-alike both = refl
pass-alike neither = refl

-- a program is judged by these stages, and accepted as itself
module _ (p : Program) where
  judged-stages : judged p ≡ (stages p >>= λ _. accepted p)
  unfolding judged
  judged-stages =
      let G = p.classes in
      simp (← bind_assoc)

  accepts : passes (judged p) ≡ passes (stages p)
  accepts = ap passes judged-stages ∙ go (stages p)
    where
      go : (o : Outcome (Unit {0})) → passes (o >>= λ _. accepted p) ≡ passes o
      go (accepted a) = refl
      go (refused n q) = refl

passed-as-itself : (p : Program) (o : Outcome (Unit {0})) → judged p ≡ (o >>= λ _. accepted p) → passes o ≡ true → judged p ≡ accepted p
passed-as-itself p (accepted a) e t = e
passed-as-itself p (refused n q) e t = apart (cc)

-- Programs that are equal but for positions are accepted together.
pub same-accepted : (p q : Program) → SameProgram p q → judged p ≡ accepted p → judged q ≡ accepted q
same-accepted p q s e =
    passed-as-itself q (stages q) (judged-stages q)
    (sym (pass-alike (stages-alike q)) ∙ ap (λ (x : Program). passes (stages x)) (sym s) ∙ pass-alike (stages-alike p)
    ∙ sym (accepts p) ∙ ap passes e)
