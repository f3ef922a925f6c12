-- What the class table of a typed program gives whoever runs it: chains that end, layouts that grow at their end, methods that are
-- redeclared with the same parameter types and a result that fits, and types that are all known. Each holds class by class, by the rule
-- of a class, and goes down the chain.
use Rattle.std.specs.Prelude.{ℕ, ◌≡◌, List, [], ◌∷◌, ◌++◌, true}
use Rattle.std.proofs.Math.Path.{refl}
use Rattle.std.proofs.Common.{sym, ap, ◌∙◌, subst, append_assoc, append-nil}
use Rattle.std.proofs.Math.Option.{Option, none, some}
use Rattle.base.specs.All.{All, all_nil}
use Rattle.base.specs.laws.Lists.{all-at, all_append}
use Rattle.parser.specs.Tree.{Operator, Numeral, Numeral.int_literal, Numeral.fixed_literal, Expression, Element.class, Ty, Variable, Method, Class}
use Rattle.typesystem.specs.ClassTable.{Slot, Found, Context, context_of, class_named, method_named_lem, chain, numeral_type, underlying, known, layout, fields_of}
use Rattle.typesystem.specs.TypingRules.{Extends, extends, sub_same, sub_trans, HasMethod, own-method, inherited-method, HasField, own-field, inherited-field, HasName, of-variable, of_field, HasType, Known, Redeclares, MethodTyped, ClassTyped, method_name, class_name}
use Rattle.typesystem.specs.TypingRules.{t-literal, t-truth, t-variable, t-this, t-new-array, t-new-object, t-negation, t-binary, t-element, t-length, t_call, t-port-get}
use Rattle.typing.specs.laws.Operations.{Numeric, numeric-int, numeric-fixed, Operates, conjoins, compares, adds, subtracts, multiplies, operates}
use Rattle.typing.specs.laws.Choices.{first-name, first-among, none-some}
use Rattle.typing.specs.laws.Chains.{known-found, found-known, ends-known, ends-up, extends-none, class-name, all-classes, Acyclic, Chain, chain-none, chain-top, chain_more, chain-is, chain-tail}
use Rattle.typing.specs.laws.Members.{Up, up-here, up_more, StandsAt, stands-before, variable-stands}
use Rattle.typing.specs.laws.Programs.{table-acyclic}

-- LOOK-UPS OF METHODS

pub method-name : (ms : List Method) (m : List ℕ) {x : Method} → method_named_lem ms m ≡ some x → method_name x ≡ m
unfolding method_named_lem
method-name ms m e = first-name method_name m (λ l. method_named_lem l m) refl (λ y l. refl) ms e

-- what holds of every method holds of one that is found
pub all-methods : {P : Method → Type 0} {ms : List Method} (m : List ℕ) {x : Method} → All P ms → method_named_lem ms m ≡ some x → P x
unfolding method_named_lem
all-methods m h e = first-among method_name m (λ l. method_named_lem l m) refl (λ y l. refl) h e

-- CHAINS AND LAYOUTS, in a table whose chains end

chain-one : {G : List Class} {c : List ℕ} {ks ls : List Class} → Chain G c ks → Chain G c ls → ks ≡ ls
chain-one (chain-none e) (chain-none f) = refl
chain-one (chain-none e) (chain-top f q) = absurd (none-some e f)
chain-one (chain-none e) (chain_more f y u) = absurd (none-some e f)
chain-one (chain-top e p) (chain-none f) = absurd (none-some f e)
chain-one (chain-top e p) (chain-top f q) = cc
chain-one (chain-top e p) (chain_more f y u) = absurd (extends-none e p y)
chain-one (chain_more e x t) u = let l = chain-tail u e x in let h = chain-one t l.2 in cc l.1

module _ {G : List Class} (A : Acyclic G) where
  pub chain-extends : {c d : List ℕ} {k : Class} → class_named G c ≡ some k → Extends G c d → chain G c ≡ k ∷ chain G d
  chain-extends {c} {d} e x = chain-one (chain-is A c) (chain_more e x (chain-is A d))

  pub chain-alone : (c : List ℕ) {k : Class} → class_named G c ≡ some k → k.parent ≡ none → chain G c ≡ k ∷ []
  chain-alone c e p = chain-one (chain-is A c) (chain-top e p)

  -- the classes above a class are known
  pub up-known : {c d : List ℕ} → Up G c d → known G (class c) ≡ true → known G (class d) ≡ true
  up-known up-here h = h
  up-known {c} (up_more {d = d} x u) h =
      let k = known-found G c h in
      up-known u (found-known G d (ends-known (ends-up (A.ends c k.1) x)).1)

  -- the layout of a class begins with its parent's, and ends with its own fields
  pub layout-extends : {c d : List ℕ} {k : Class} → class_named G c ≡ some k → Extends G c d → fields_of G c ≡ fields_of G d ++ k.fields
  unfolding fields_of layout
  layout-extends e x = rw (chain-extends e x)

  -- it begins with the layout of every class above
  pub layout-up : {c d : List ℕ} → Up G c d → (rest : List Variable) × (fields_of G c ≡ fields_of G d ++ rest)
  layout-up {c} up-here = ([], sym (append-nil (fields_of G c)))
  layout-up {c} {d} (up_more (extends {k = k} e p q) u) =
      let w = layout-up u in
      (w.0 ++ k.fields, layout-extends e (extends e p q) ∙ ap (λ (l : List Variable). l ++ k.fields) w.1 ∙ append_assoc (fields_of G d) w.0 k.fields)

  -- so a field keeps its place in the classes below
  pub stands_up : {c d : List ℕ} {s : Slot} → Up G c d → StandsAt (fields_of G d) s → StandsAt (fields_of G c) s
  stands_up {s = s} u h = let w = layout-up u in subst (λ (l : List Variable). StandsAt l s) (sym w.1) (stands-before w.0 h)

-- METHODS

-- what holds of every method of the table holds of one that a class has
pub every-method : {G : List Class} {P : Method → Type 0} {c m : List ℕ} {F : Found} → All (λ k. All P k.methods) G
    → HasMethod G c m F → P F.method
every-method {c = c} {m = m} h (own-method e f) = all-methods m (all-classes c h e) f
every-method h (inherited-method e f x y) = every-method h y

redeclares-refl : {G : List Class} {m : Method} → Redeclares G m m
redeclares-refl = record { parameters = refl; result = sub_same }

redeclares-trans : {G : List Class} {l m n : Method} → Redeclares G l m → Redeclares G m n → Redeclares G l n
redeclares-trans r s = record { parameters = r.parameters ∙ s.parameters; result = sub_trans r.result s.result }

-- a method of the name that stands below F: it takes what F takes, and its result fits F's
pub record Below (G : List Class) (c m : List ℕ) (F : Found) : Type 0 where
  pub found : Found
  pub has : HasMethod G c m found
  pub redeclares : Redeclares G found.method F.method

-- where the method of a name stands, and that it is typed there
pub record Declares (G : List Class) (c m : List ℕ) (F : Found) : Type 0 where
  pub declarer : Class
  pub named : class_named G F.owner ≡ some declarer
  pub listed : method_named_lem declarer.methods m ≡ some F.method
  pub above : Up G c F.owner
  pub typed : MethodTyped G F.owner F.method

-- the classes of a typed program, `classes` of its `ProgramTyped`
module _ {G : List Class} (T : All (ClassTyped G) G) where
  own-typed : (c m : List ℕ) {k : Class} {x : Method} → class_named G c ≡ some k → method_named_lem k.methods m ≡ some x → MethodTyped G c x
  own-typed c m {k} {x} e f = subst (λ (n : List ℕ). MethodTyped G n x) (class-name G c e) (all-methods m (all-classes c T e).methods f)

  -- a class's own method redeclares the one of its name above
  pub own-redeclares : {c d m : List ℕ} {k : Class} {x : Method} {F : Found} → class_named G c ≡ some k → method_named_lem k.methods m ≡ some x
      → Extends G c d → HasMethod G d m F → Redeclares G x F.method
  own-redeclares {c} {d} {m} {k} {x} {F} e f y h =
      (own-typed c m e f).redeclares d F y (subst (λ (n : List ℕ). HasMethod G d n F) (sym (method-name k.methods m f)) h)

  -- what a class has, each class below has, redeclared or not
  pub method-up : {c d m : List ℕ} {F : Found} → Up G c d → HasMethod G d m F → Below G c m F
  method-up {F = F} up-here h = record { found = F; has = h; redeclares = redeclares-refl }
  method-up {m = m} {F} (up_more {c = c} {d = d} (extends {k = k} e p q) u) h = go (method_named_lem k.methods m) refl (method-up u h)
    where
      go : (o : Option Method) → method_named_lem k.methods m ≡ o → Below G d m F → Below G c m F
      go none f b = record { found = b.found; has = inherited-method e f (extends e p q) b.has; redeclares = b.redeclares }
      go (some x) f b = record {
        found = record { owner = class_name k; method = x };
        has = own-method e f;
        redeclares = redeclares-trans (own-redeclares e f (extends e p q) b.has) b.redeclares;
      }

  pub method-declares : {c m : List ℕ} {F : Found} → HasMethod G c m F → Declares G c m F
  method-declares {c} {m} (own-method {k = k} e f) = record {
    declarer = k;
    named = ap (class_named G) (class-name G c e) ∙ e;
    listed = f;
    above = subst (Up G c) (sym (class-name G c e)) up-here;
    typed = all-methods m (all-classes c T e).methods f;
  }
  method-declares (inherited-method e f x h) =
      let w = method-declares h in
      record { declarer = w.declarer; named = w.named; listed = w.listed; above = up_more x w.above; typed = w.typed }

-- KNOWN TYPES

-- a context whose types are known
pub record ContextKnown (G : List Class) (Γ : Context) : Type 0 where
  pub variables : All (Known G) Γ.variables
  pub owner : (c : List ℕ) → Γ.owner ≡ some c → known G (class c) ≡ true

stands-known : (G : List Class) {vs : List Variable} {s : Slot} → All (Known G) vs → StandsAt vs s → known G (underlying s.type) ≡ true
stands-known G {s = s} h w = rw (← w.has) (all-at s.place h w.at)

numeral-known : (G : List Class) (n : Numeral) → known G (underlying (numeral_type n)) ≡ true
unfolding known
numeral-known G (int_literal n) = refl
numeral-known G (fixed_literal n) = refl

numeric-known : (G : List Class) {s : Ty} → Numeric s → known G (underlying s) ≡ true
unfolding known
numeric-known G numeric-int = refl
numeric-known G numeric-fixed = refl

result-known : (G : List Class) {o : Operator} {s t : Ty} → Operates o s t → known G (underlying t) ≡ true
unfolding known
result-known G conjoins = refl
result-known G (compares n) = refl
result-known G (adds n) = numeric-known G n
result-known G (subtracts n) = numeric-known G n
result-known G (multiplies n) = numeric-known G n

module _ {G : List Class} (T : All (ClassTyped G) G) where
  layout-known : {c : List ℕ} {ks : List Class} → Chain G c ks → All (Known G) (layout ks)
  unfolding layout
  layout-known (chain-none e) = all_nil
  layout-known {c} (chain-top e p) = (all-classes c T e).fields-known
  layout-known {c} (chain_more e x t) = all_append (layout-known t) (all-classes c T e).fields-known

  pub fields-known : (c : List ℕ) → All (Known G) (fields_of G c)
  unfolding fields_of
  fields-known c = layout-known (chain-is (table-acyclic T) c)

  pub field-known : {c x : List ℕ} {t : Ty} → HasField G c x t → known G (underlying t) ≡ true
  field-known {c} {x} (own-field {k = k} e f q) = rw (← q) (stands-known G (all-classes c T e).fields-known (variable-stands k.fields x f))
  field-known (inherited-field e f y h) = field-known h

  pub name-known : {Γ : Context} {x : List ℕ} {t : Ty} → ContextKnown G Γ → HasName G Γ x t → known G (underlying t) ≡ true
  name-known {Γ} {x} C (of-variable e q) = rw (← q) (stands-known G C.variables (variable-stands Γ.variables x e))
  name-known C (of_field e o h) = field-known h

  -- an expression's type is known
  pub type-known : {Γ : Context} {e : Expression} {t : Ty} → ContextKnown G Γ → HasType G Γ e t → known G (underlying t) ≡ true
  unfolding known
  type-known C (t-literal {n = n} q) = rw (← q) (numeral-known G n)
  type-known C t-truth = refl
  type-known C (t-variable h) = name-known C h
  type-known C (t-this {c = c} o) = C.owner c o
  type-known C (t-new-array q k h) = k
  type-known C (t-new-object q k) = k
  type-known C (t-negation h) = refl
  type-known C (t-binary {o = o} {s = s} h q k) = result-known G (operates o s q)
  type-known C (t-element h k) = type-known C h
  type-known C (t-length h) = refl
  type-known C (t_call h m hs q) = rw (← q) (method-declares T m).typed.result-known
  type-known C (t-port-get h) = refl

  pub context-known : {c : List ℕ} {m : Method} → known G (class c) ≡ true → MethodTyped G c m → ContextKnown G (context_of c m)
  context-known {c} k t = record { variables = t.variables-known; owner = λ d e. let z : c ≡ d = cc in rw (← z) k }
