-- Document 01, "Class table and types", with the typing rules of source document 004, adapted to document 01: the rules as inductive
-- relations. 004's rules for `do` and for locals in main are overruled, the bounds and the look-ups are document 01's. G is the class table
-- (004's CT), Γ the context.
use Rattle.std.specs.Prelude.{ℕ, ◌≤◌, ◌≡◌, List, [], ◌∷◌, ◌++◌, map, Bool, true, false, length}
use Rattle.std.proofs.Math.Option.{none, some}
use Rattle.base.specs.All.{All}
use Rattle.base.specs.Codes.{variables_most}
use Rattle.parser.specs.Tree.{Place, Name, Operator, Numeral, Part, Expression, Statement, Variable}
use Rattle.parser.specs.Tree.{Element, Element.int, Element.boolean, Element.class, ElementUse, Ty, Ty.plain, Ty.array_of}
use Rattle.parser.specs.Tree.{Method, Class, Program}
use Rattle.parser.specs.Tree.{Sort.arguments, Sort.statements}
use Rattle.parser.specs.Tree.{Part.literal, Part.truth, Part.variable, Part.this, Part.new_array_lem, Part.new_object_lem, Part.negation, Part.binary}
use Rattle.parser.specs.Tree.{Part.element, Part.array_length, Part.call, Part.port_get_lem, Part.no_arguments, Part.argument}
use Rattle.parser.specs.Tree.{Part.block, Part.conditional, Part.loop, Part.print, Part.assign, Part.assign_element_lem, Part.port_put_lem}
use Rattle.parser.specs.Tree.{Part.no_statements, Part.sequence}
use Rattle.typesystem.specs.ClassTable.{Slot, Found, Context, main_context, context_of, class_named, method_named_lem, variable_named, known}
use Rattle.typesystem.specs.ClassTable.{numeral_type, underlying, occurs, text_of}
use Rattle.typesystem.specs.Operators.{operation, printable}

-- SUBTYPES: 004's ≺, document 01's "fits"

-- class c extends d
pub data Extends (G : List Class) : (c d : List ℕ) → Type 0 where
  extends : {c d : List ℕ} {k : Class} {p : Name} → class_named G c ≡ some k → k.parent ≡ some p → p.text ≡ d → Extends G c d

pub data Sub (G : List Class) : Ty → Ty → Type 0 where
  sub_same : {t : Ty} → Sub G t t
  sub-extends : {c d : List ℕ} → Extends G c d → Sub G (plain (class c)) (plain (class d))
  sub_trans : {s t u : Ty} → Sub G s t → Sub G t u → Sub G s u

-- the chain of a class ends
pub data Ends (G : List Class) : List ℕ → Type 0 where
  ends-here : {c : List ℕ} {k : Class} → class_named G c ≡ some k → k.parent ≡ none → Ends G c
  ends_above : {c d : List ℕ} → Extends G c d → Ends G d → Ends G c

abbrev pub ChainEnds : List Class → Class → Type 0
ChainEnds G k = Ends G k.name.text

-- the class that a class extends is one of the table
abbrev pub ParentKnown : List Class → Class → Type 0
ParentKnown G k = (p : Name) → k.parent ≡ some p → known G (class p.text) ≡ true

-- MEMBERS: a class's own, else those of the class above

-- 004's paramsT and returnT: the method of a name, with the class that declares it
pub data HasMethod (G : List Class) : (c m : List ℕ) → Found → Type 0 where
  own-method : {c m : List ℕ} {k : Class} {x : Method} → class_named G c ≡ some k → method_named_lem k.methods m ≡ some x
      → HasMethod G c m (record { owner = k.name.text; method = x })
  inherited-method : {c d m : List ℕ} {k : Class} {F : Found} → class_named G c ≡ some k → method_named_lem k.methods m ≡ none → Extends G c d
      → HasMethod G d m F → HasMethod G c m F

-- 004's fields, with hiding: the nearest field of a name
pub data HasField (G : List Class) : (c x : List ℕ) → Ty → Type 0 where
  own-field : {c x : List ℕ} {k : Class} {s : Slot} {t : Ty} → class_named G c ≡ some k → variable_named k.fields x ≡ some s → s.type ≡ t
      → HasField G c x t
  inherited-field : {c d x : List ℕ} {k : Class} {t : Ty} → class_named G c ≡ some k → variable_named k.fields x ≡ none → Extends G c d
      → HasField G d x t → HasField G c x t

-- id : τ ∈ Γ
pub data HasName (G : List Class) (Γ : Context) : List ℕ → Ty → Type 0 where
  of-variable : {x : List ℕ} {s : Slot} {t : Ty} → variable_named Γ.variables x ≡ some s → s.type ≡ t → HasName G Γ x t
  of_field : {x c : List ℕ} {t : Ty} → variable_named Γ.variables x ≡ none → Γ.owner ≡ some c → HasField G c x t → HasName G Γ x t

-- EXPRESSIONS
mutual
  pub data HasType (G : List Class) (Γ : Context) : Expression → Ty → Type 0 where
    t-literal : {p : Place} {n : Numeral} {t : Ty} → numeral_type n ≡ t → HasType G Γ (literal p n) t
    t-truth : {p : Place} {b : Bool} → HasType G Γ (truth p b) (plain boolean)
    t-variable : {p : Place} {x : List ℕ} {t : Ty} → HasName G Γ x t → HasType G Γ (variable p x) t
    t-this : {p : Place} {c : List ℕ} → Γ.owner ≡ some c → HasType G Γ (this p) (plain (class c))
    t-new-array : {p : Place} {u : ElementUse} {t : Element} {e : Expression} → u.element ≡ t → known G t ≡ true
        → HasType G Γ e (plain int) → HasType G Γ (new_array_lem p u e) (array_of t)
    t-new-object : {p : Place} {n : Name} {c : List ℕ} → n.text ≡ c → known G (class c) ≡ true
        → HasType G Γ (new_object_lem p n) (plain (class c))
    t-negation : {p : Place} {e : Expression} → HasType G Γ e (plain boolean) → HasType G Γ (negation p e) (plain boolean)
    t-binary : {p : Place} {o : Operator} {l r : Expression} {s t : Ty} → HasType G Γ l s → operation o s ≡ some t → HasType G Γ r s
        → HasType G Γ (binary p o l r) t
    t-element : {p : Place} {a i : Expression} {t : Element} → HasType G Γ a (array_of t) → HasType G Γ i (plain int)
        → HasType G Γ (element p a i) (plain t)
    t-length : {p : Place} {a : Expression} {t : Element} → HasType G Γ a (array_of t) → HasType G Γ (array_length p a) (plain int)
    t_call : {p : Place} {e : Expression} {m : Name} {es : Part arguments} {c : List ℕ} {F : Found} {t : Ty}
        → HasType G Γ e (plain (class c)) → HasMethod G c m.text F → HaveTypes G Γ es F.method.parameters
        → F.method.result.type ≡ t → HasType G Γ (call p e m es) t
    -- document 02, (viii): all parts int
    t-port-get : {p : Place} {e : Expression} → HasType G Γ e (plain int) → HasType G Γ (port_get_lem p e) (plain int)

  pub data HaveTypes (G : List Class) (Γ : Context) : Part arguments → List Variable → Type 0 where
    t-none : HaveTypes G Γ no_arguments []
    t-more : {e : Expression} {es : Part arguments} {v : Variable} {vs : List Variable} {t : Ty}
        → HasType G Γ e t → Sub G t v.type.type → HaveTypes G Γ es vs → HaveTypes G Γ (argument e es) (v ∷ vs)

-- STATEMENTS
mutual
  pub data IsTyped (G : List Class) (Γ : Context) : Statement → Type 0 where
    t_block : {p : Place} {ss : Part statements} → AreTyped G Γ ss → IsTyped G Γ (block p ss)
    t-if : {p : Place} {e : Expression} {s t : Statement} → HasType G Γ e (plain boolean) → IsTyped G Γ s → IsTyped G Γ t
        → IsTyped G Γ (conditional p e s t)
    t-while : {p : Place} {e : Expression} {s : Statement} → HasType G Γ e (plain boolean) → IsTyped G Γ s → IsTyped G Γ (loop p e s)
    -- document 02, (ix): int or fixed
    t-print : {p : Place} {e : Expression} {t : Ty} → HasType G Γ e t → printable t ≡ true → IsTyped G Γ (print p e)
    t-assign : {p : Place} {x : List ℕ} {e : Expression} {s t : Ty} → HasName G Γ x t → HasType G Γ e s → Sub G s t
        → IsTyped G Γ (assign p x e)
    t-assign-element : {p : Place} {x : List ℕ} {i e : Expression} {t : Element} {s : Ty} → HasName G Γ x (array_of t)
        → HasType G Γ i (plain int) → HasType G Γ e s → Sub G s (plain t)
        → IsTyped G Γ (assign_element_lem p x i e)
    t-port-put : {p : Place} {n e : Expression} → HasType G Γ n (plain int) → HasType G Γ e (plain int) → IsTyped G Γ (port_put_lem p n e)

  pub data AreTyped (G : List Class) (Γ : Context) : Part statements → Type 0 where
    t-end : AreTyped G Γ no_statements
    t-sequence : {s : Statement} {ss : Part statements} → IsTyped G Γ s → AreTyped G Γ ss → AreTyped G Γ (sequence s ss)

-- DECLARATIONS

-- no name stands twice
pub data Distinct : List (List ℕ) → Type 0 where
  distinct_none : Distinct []
  distinct_more : {x : List ℕ} {xs : List (List ℕ)} → occurs x xs ≡ false → Distinct xs → Distinct (x ∷ xs)

abbrev pub Known : List Class → Variable → Type 0
Known G v = known G (underlying v.type.type) ≡ true

abbrev pub type_of : Variable → Ty
type_of v = v.type.type

-- 004's override(m, C, D): equal parameter types and a result that fits
pub record Redeclares (G : List Class) (lower upper : Method) : Type 0 where
  pub parameters : map type_of lower.parameters ≡ map type_of upper.parameters
  pub result : Sub G lower.result.type upper.result.type

-- a method of class c
pub record MethodTyped (G : List Class) (c : List ℕ) (m : Method) : Type 0 where
  pub result-known : known G (underlying m.result.type) ≡ true
  pub variables-known : All (Known G) (m.parameters ++ m.locals)
  pub distinct : Distinct (map text_of (m.parameters ++ m.locals))
  pub few : length (m.parameters ++ m.locals) ≤ variables_most
  pub redeclares : (d : List ℕ) (F : Found) → Extends G c d → HasMethod G d m.name.text F → Redeclares G m F.method
  pub body : AreTyped G (context_of c m) m.body
  pub type : Ty
  pub value : HasType G (context_of c m) m.value type
  pub fits : Sub G type m.result.type

abbrev pub method_name : Method → List ℕ
method_name m = m.name.text

abbrev pub class_name : Class → List ℕ
class_name k = k.name.text

pub record ClassTyped (G : List Class) (k : Class) : Type 0 where
  pub parent-known : (p : Name) → k.parent ≡ some p → known G (class p.text) ≡ true
  pub ends : Ends G (class_name k)
  pub fields-known : All (Known G) k.fields
  pub fields-distinct : Distinct (map text_of k.fields)
  pub methods-distinct : Distinct (map method_name k.methods)
  pub methods : All (MethodTyped G (class_name k)) k.methods

-- a program that the typing rules and document 01's bounds allow
pub record ProgramTyped (p : Program) : Type 0 where
  pub distinct : Distinct (p.main.text ∷ map class_name p.classes)
  pub classes : All (ClassTyped p.classes) p.classes
  pub main : IsTyped p.classes main_context p.statement
