-- Judging finds a type exactly where the typing rules give it: the judging function and the rules make the same steps, part by part.
use Rattle.std.specs.Prelude.{ℕ, ◌+◌, ◌≡◌, length, eqb}
use native.Mathlib.Omega.{arith}
use Rattle.std.proofs.Math.Path.{refl}
use Rattle.std.proofs.Common.{ap, subst, eqb-true, eq-eqb}
use mathlib.Core.List.{List, [], ◌∷◌}
use Rattle.std.proofs.Math.Option.{Option, none, some}
use Rattle.base.specs.Outcome.{Outcome, accepted, ◌>>=◌}
use Rattle.parser.specs.Tree.{Place, Name, Operator, Sort, Part, Expression, Statement, Variable, Class}
use Rattle.parser.specs.Tree.{Element, Element.int, Element.boolean, Element.fixed, Element.class, Ty, Ty.plain, Ty.array_of}
use Rattle.parser.specs.Tree.{Sort.expression, Sort.arguments, Sort.statement, Sort.statements}
use Rattle.parser.specs.Tree.{Part.literal, Part.truth, Part.variable, Part.this, Part.new_array_lem, Part.new_object_lem, Part.negation, Part.binary, Part.element, Part.array_length, Part.call, Part.port_get_lem, Part.no_arguments, Part.argument}
use Rattle.parser.specs.Tree.{Part.block, Part.conditional, Part.loop, Part.print, Part.assign, Part.assign_element_lem, Part.port_put_lem, Part.no_statements, Part.sequence}
use Rattle.typesystem.specs.ClassTable.{Found, Context, known, fits, method_of, meaning, meaning_type}
use Rattle.typesystem.specs.Judge.{arity, must, receiver, for_array, invocation, look_up, judge}
use Rattle.typesystem.specs.Operators.{operation, printable}
use Rattle.typesystem.specs.TypingRules.{Sub, HasName, HasType, HaveTypes, IsTyped, AreTyped}
use Rattle.typesystem.specs.TypingRules.{t-literal, t-truth, t-variable, t-this, t-new-array, t-new-object, t-negation, t-binary, t-element, t-length, t_call, t-port-get, t-none, t-more}
use Rattle.typesystem.specs.TypingRules.{t_block, t-if, t-while, t-print, t-assign, t-assign-element, t-port-put, t-end, t-sequence}
use Rattle.typing.specs.laws.Choices.{refused-accepted, bound, passed, present, tested}
use Rattle.typing.specs.laws.Operations.{Numeric, numeric-int, numeric-fixed, Operates, conjoins, compares, adds, subtracts, multiplies, operates}
use Rattle.typing.specs.laws.Chains.{Acyclic}
use Rattle.typing.specs.laws.Members.{Exact, sub-exact, fits_sub, sub-fits, fits-refl, method_of-has, has-method_of, meaning-has, has-meaning}

numeric-exact : {s : Ty} → Numeric s → Exact s
numeric-exact numeric-int = tt
numeric-exact numeric-fixed = tt

-- no operator takes classes
operand-exact : {o : Operator} {s t : Ty} → Operates o s t → Exact s
operand-exact conjoins = tt
operand-exact (compares n) = numeric-exact n
operand-exact (adds n) = numeric-exact n
operand-exact (subtracts n) = numeric-exact n
operand-exact (multiplies n) = numeric-exact n

-- an accepted receiver is of a class
receiver-class : (e : Expression) (s : Ty) (k : List ℕ → Outcome Ty) {t : Ty} → receiver e s k ≡ accepted t
    → (c : List ℕ) × (s ≡ plain (class c)) × (k c ≡ accepted t)
receiver-class e (plain int) k h = absurd (refused-accepted h)
receiver-class e (plain boolean) k h = absurd (refused-accepted h)
receiver-class e (plain fixed) k h = absurd (refused-accepted h)
receiver-class e (plain (class c)) k h = (c, refl, h)
receiver-class e (array_of t) k h = absurd (refused-accepted h)

-- what is accepted as array is of an array type
array-element : {A : Type 0} (p : ℕ) (s : Ty) (k : Element → Outcome A) {y : A} → for_array p s k ≡ accepted y
    → (t : Element) × (s ≡ array_of t) × (k t ≡ accepted y)
array-element p (plain t) k h = absurd (refused-accepted h)
array-element p (array_of t) k h = (t, refl, h)

-- an accepted invocation: the method is there, takes as many arguments, and these are accepted
invoked : (m : Name) (count : ℕ) (k : List Variable → Outcome (Unit {0})) (o : Option Found) {t : Ty} → invocation m count k o ≡ accepted t
    → (F : Found) × (o ≡ some F) × (count ≡ length F.method.parameters) × (k F.method.parameters ≡ accepted tt) × (F.method.result.type ≡ t)
invoked m count k none h = absurd (refused-accepted h)
invoked m count k (some F) h =
    let w = passed (eqb count (length F.method.parameters)) _ _ _ h in
    let v = bound (k F.method.parameters) _ w.1 in
    (F, refl, eqb-true count (length F.method.parameters) w.0, v.1, cc)

module _ {G : List Class} (A : Acyclic G) where
  -- a part that is judged, and must fit
  pub fitted : (x : Outcome Ty) (e : Expression) {want : Ty} → (x >>= λ t. must G e want t) ≡ accepted tt
      → (t : Ty) × (x ≡ accepted t) × Sub G t want
  fitted x e {want} h =
      let b = bound x _ h in
      (b.0, b.1, fits_sub A b.0 want (passed (fits G b.0 want) _ _ _ b.2).0)

  module _ (Γ : Context) where
    -- WHAT IS ACCEPTED IS ALLOWED BY THE RULES

    abbrev pub Sound : (s : Sort) → Part s → Type 0
    Sound expression e = (t : Ty) → judge G Γ e ≡ accepted t → HasType G Γ e t
    Sound arguments es = (vs : List Variable) → arity es ≡ length vs → judge G Γ es vs ≡ accepted tt → HaveTypes G Γ es vs
    Sound statement s = judge G Γ s ≡ accepted tt → IsTyped G Γ s
    Sound statements ss = judge G Γ ss ≡ accepted tt → AreTyped G Γ ss

    typed : {e : Expression} {s t : Ty} → HasType G Γ e s → accepted s ≡ accepted t → HasType G Γ e t
    typed {e} {s} {t} h q = let z : s ≡ t = cc in subst (HasType G Γ e) z h

    -- a part that must have a type that is no class, as the last one
    last : (e : Expression) (want : Ty) → Exact want → Sound expression e → (judge G Γ e >>= λ t. must G e want t) ≡ accepted tt
        → HasType G Γ e want
    last e want p f h = let w = fitted (judge G Γ e) e h in subst (HasType G Γ e) (sub-exact p w.2) (f w.0 w.1)

    -- and before a next one
    part : (e : Expression) (want : Ty) → Exact want → Sound expression e → {B : Type 0} (k : Unit {0} → Outcome B) {y : B}
        → (judge G Γ e >>= λ t. must G e want t >>= k) ≡ accepted y → HasType G Γ e want × (k tt ≡ accepted y)
    part e want p f k h = let w = tested (judge G Γ e) (λ t. must G e want t) k h in (last e want p f w.0, w.1)

    -- a name that is looked up
    named : (p : Place) (x : List ℕ) {t : Ty} → look_up G Γ p x ≡ accepted t → HasName G Γ x t
    named p x {t} h =
        let w = present (meaning G Γ x) _ _ _ h in
        let z : meaning_type w.0 ≡ t = cc in
        subst (HasName G Γ x) z (meaning-has A Γ x w.1)

    -- an indexed target
    named-array : (p : Place) (x : List ℕ) {B : Type 0} (k : Element → Outcome B) {y : B}
        → (look_up G Γ p x >>= λ t. for_array p.start t k) ≡ accepted y → (t : Element) × HasName G Γ x (array_of t) × (k t ≡ accepted y)
    named-array p x k h =
        let u = bound (look_up G Γ p x) _ h in
        let a = array-element p.start u.0 k u.2 in
        (a.0, subst (HasName G Γ x) a.1 (named p x u.1), a.2)

    -- a part that must be an array, then what is done with what it holds
    array-part : (e : Expression) → Sound expression e → (p : ℕ) {B : Type 0} (k : Element → Outcome B) {y : B}
        → (judge G Γ e >>= λ t. for_array p t k) ≡ accepted y → (t : Element) × HasType G Γ e (array_of t) × (k t ≡ accepted y)
    array-part e f p k h =
        let w = bound (judge G Γ e) _ h in
        let a = array-element p w.0 k w.2 in
        (a.0, subst (HasType G Γ e) a.1 (f w.0 w.1), a.2)

    -- the receiver of a call, then what is done with its class
    received : (e : Expression) → Sound expression e → (k : List ℕ → Outcome Ty) {t : Ty}
        → (judge G Γ e >>= λ s. receiver e s k) ≡ accepted t → (c : List ℕ) × HasType G Γ e (plain (class c)) × (k c ≡ accepted t)
    received e f k h =
        let w = bound (judge G Γ e) _ h in
        let r = receiver-class e w.0 k w.2 in
        (r.0, subst (HasType G Γ e) r.1 (f w.0 w.1), r.2)

    -- as many arguments as parameters
    none_left : (vs : List Variable) → 0 ≡ length vs → HaveTypes G Γ no_arguments vs
    none_left [] l = t-none
    none_left (v ∷ vs) l = absurd (omega arith)

    one_more : (e : Expression) (es : Part arguments) → Sound expression e → Sound arguments es
        → (vs : List Variable) → 1 + arity es ≡ length vs → judge G Γ (argument e es) vs ≡ accepted tt → HaveTypes G Γ (argument e es) vs
    unfolding judge
    one_more e es f g [] l h = absurd (refused-accepted h)
    one_more e es f g (v ∷ vs) l h =
        let b = tested (judge G Γ e) (λ t. must G e v.type.type t) (λ _. judge G Γ es vs) h in
        let w = fitted (judge G Γ e) e b.0 in
        t-more {t = w.0} (f w.0 w.1) w.2 (g vs (omega arith) b.1)

    pub sound : {s : Sort} (x : Part s) → Sound s x
    unfolding judge arity
    sound (literal p n) = λ t h. typed (t-literal refl) h
    sound (truth p b) = λ t h. typed t-truth h
    sound (variable p x) = λ t h. t-variable (named p x h)
    sound (this p) = λ t h. let w = present Γ.owner _ _ _ h in typed (t-this w.1) w.2
    sound (new_array_lem p u e) = λ t h.
        let k = passed (known G u.element) _ _ _ h in
        let w = part e (plain int) tt (sound e) _ k.1 in
        typed (t-new-array refl k.0 w.0) w.1
    sound (new_object_lem p c) = λ t h. let w = passed (known G (class c.text)) _ _ _ h in typed (t-new-object refl w.0) w.1
    sound (negation p e) = λ t h. let w = part e (plain boolean) tt (sound e) _ h in typed (t-negation w.0) w.1
    sound (binary p o l r) = λ t h.
        let b = bound (judge G Γ l) _ h in
        let w = present (operation o b.0) _ _ _ b.2 in
        let v = part r b.0 (operand-exact (operates o b.0 w.1)) (sound r) _ w.2 in
        typed (t-binary (sound l b.0 b.1) w.1 v.0) v.1
    sound (element p a i) = λ t h.
        let w = array-part a (sound a) _ _ h in
        let v = part i (plain int) tt (sound i) _ w.2 in
        typed (t-element w.1 v.0) v.1
    sound (array_length p a) = λ t h. let w = array-part a (sound a) _ _ h in typed (t-length w.1) w.2
    sound (call p e m es) = λ t h.
        let r = received e (sound e) _ h in
        let i = invoked m (arity es) (judge G Γ es) (method_of G r.0 m.text) r.2 in
        t_call {c = r.0} r.1 (method_of-has A r.0 m.text i.1) (sound es i.0.method.parameters i.2 i.3) i.4
    sound (port_get_lem p e) = λ t h. let w = part e (plain int) tt (sound e) _ h in typed (t-port-get w.0) w.1
    sound no_arguments = λ vs l h. none_left vs l
    sound (argument e es) = one_more e es (sound e) (sound es)
    sound (block p ss) = λ h. t_block (sound ss h)
    sound (conditional p e s t) = λ h.
        let w = part e (plain boolean) tt (sound e) _ h in
        let v = bound (judge G Γ s) (λ _. judge G Γ t) w.1 in
        t-if w.0 (sound s v.1) (sound t v.2)
    sound (loop p e s) = λ h. let w = part e (plain boolean) tt (sound e) _ h in t-while w.0 (sound s w.1)
    sound (print p e) = λ h.
        let w = bound (judge G Γ e) _ h in
        t-print {t = w.0} (sound e w.0 w.1) (passed (printable w.0) _ _ _ w.2).0
    sound (assign p x e) = λ h.
        let u = bound (look_up G Γ p x) _ h in
        let w = fitted (judge G Γ e) e u.2 in
        t-assign {s = w.0} {t = u.0} (named p x u.1) (sound e w.0 w.1) w.2
    sound (assign_element_lem p x i e) = λ h.
        let a = named-array p x _ h in
        let w = part i (plain int) tt (sound i) (λ _. judge G Γ e >>= λ t. must G e (plain a.0) t) a.2 in
        let v = fitted (judge G Γ e) e w.1 in
        t-assign-element {s = v.0} a.1 w.0 (sound e v.0 v.1) v.2
    sound (port_put_lem p n e) = λ h.
        let w = part n (plain int) tt (sound n) (λ _. judge G Γ e >>= λ t. must G e (plain int) t) h in
        t-port-put w.0 (last e (plain int) tt (sound e) w.1)
    sound no_statements = λ h. t-end
    sound (sequence s ss) = λ h. let w = bound (judge G Γ s) _ h in t-sequence (sound s w.1) (sound ss w.2)

    -- WHAT THE RULES ALLOW IS ACCEPTED

    named-found : (p : Place) {x : List ℕ} {t : Ty} → HasName G Γ x t → look_up G Γ p x ≡ accepted t
    named-found p h = let w = has-meaning A h in rw w.1 (ap accepted w.2)

    -- there are as many arguments as parameters
    pub many : {es : Part arguments} {vs : List Variable} → HaveTypes G Γ es vs → arity es ≡ length vs
    unfolding arity
    many t-none = refl
    many (t-more h s r) = let l = many r in omega arith

    mutual
      unfolding judge

      pub complete : {e : Expression} {t : Ty} → HasType G Γ e t → judge G Γ e ≡ accepted t
      complete (t-literal q) = ap accepted q
      complete t-truth = refl
      complete (t-variable {p = p} h) = named-found p h
      complete (t-this o) = rw o
      complete (t-new-array q k h) = rw (q, k, complete h, fits-refl)
      complete (t-new-object q k) = rw (q, k)
      complete (t-negation h) = rw (complete h, fits-refl)
      complete (t-binary h q k) = rw (complete h, q, complete k, fits-refl)
      complete (t-element h k) = rw (complete h, complete k, fits-refl)
      complete (t-length h) = rw (complete h)
      complete (t_call {es = es} {F = F} h m hs q) = rw (complete h, has-method_of A m, eq-eqb (arity es) (length F.method.parameters) (many hs), completes hs) (ap accepted q)
      complete (t-port-get h) = rw (complete h, fits-refl)

      pub completes : {es : Part arguments} {vs : List Variable} → HaveTypes G Γ es vs → judge G Γ es vs ≡ accepted tt
      completes t-none = refl
      completes (t-more h s r) = rw (complete h, sub-fits A s, completes r)

    mutual
      unfolding judge

      pub complete-statement : {s : Statement} → IsTyped G Γ s → judge G Γ s ≡ accepted tt
      complete-statement (t_block h) = complete-statements h
      complete-statement (t-if h s t) = rw (complete h, fits-refl, complete-statement s) (complete-statement t)
      complete-statement (t-while h s) = rw (complete h, fits-refl) (complete-statement s)
      complete-statement (t-print h q) = rw (complete h, q)
      complete-statement (t-assign {p = p} n h s) = rw (named-found p n, complete h, sub-fits A s)
      complete-statement (t-assign-element {p = p} n h k s) = rw (named-found p n, complete h, fits-refl, complete k, sub-fits A s)
      complete-statement (t-port-put h k) = rw (complete h, fits-refl, complete k, fits-refl)

      pub complete-statements : {ss : Part statements} → AreTyped G Γ ss → judge G Γ ss ≡ accepted tt
      complete-statements t-end = refl
      complete-statements (t-sequence h hs) = rw (complete-statement h) (complete-statements hs)
