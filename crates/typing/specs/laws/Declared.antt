-- The tests of the declarations and the bodies accept exactly what the rules allow: each test is one clause of the rules, and they are
-- made one after the other.
use Rattle.std.specs.Prelude.{ℕ, ◌+◌, ◌≤◌, ◌≡◌, true, false, length, drop}
use Rattle.std.proofs.Common.{arith, ap, length-append}
use Rattle.std.proofs.Math.Path.{refl}
use mathlib.Core.List.{List, [], ◌∷◌, map, map-append}
use Rattle.std.proofs.lemmas.Bool.{false≢true}
use Rattle.std.proofs.Math.Option.{some}
use borrow.Author.Tests.{ltb-true, lt-ltb}
use Rattle.std.proofs.Math.Dec.{ltb}
use Rattle.std.proofs.lemmas.List.{length-map}
use Rattle.base.specs.Choice.{if◌then◌otherwise◌}
use Rattle.base.specs.Codes.{variables_most}
use Rattle.base.specs.Outcome.{Outcome, accepted, refused, ◌>>=◌}
use Rattle.base.specs.All.{All, all_nil, all_cons}
use Rattle.base.specs.laws.Lists.{all_append}
use Rattle.parser.specs.Tree.{Variable, Method, Class}
use Rattle.typesystem.specs.ClassTable.{Found, context_of, chain, same_type, underlying, known, fits, nearest_method, occurs, text_of}
use Rattle.typesystem.specs.Judge.{judge, must}
use Rattle.typesystem.specs.Declarations.{known_type, fields, variables, same_types_lem, redeclares, redeclaration, new_method, heads}
use Rattle.typesystem.specs.Check.{body}
use Rattle.typesystem.specs.TypingRules.{Extends, extends, HasMethod, Distinct, Known, type_of, Redeclares, MethodTyped, method_name, class_name}
use Rattle.base.specs.laws.Tests.{and-true}
use Rattle.typing.specs.laws.Tests.{same_type-equal, same_type-of}
use Rattle.typing.specs.laws.Choices.{bound, passed, none-some, failed, if-present}
use Rattle.typing.specs.laws.Chains.{Acyclic, Chain, chain-none, chain-top, chain_more, chain-is, chain-tail}
use Rattle.typing.specs.laws.Members.{fits_sub, sub-fits, method-found, method-nearest}
use Rattle.typing.specs.laws.Judging.{fitted, sound, complete, complete-statements}
use Rattle.typing.specs.laws.Distinctness.{unused-nil, Fresh, fresh-none, fresh-more, fresh-distinct, distinct-fresh, distinct_append, distinct-split, all_apart}

-- VARIABLES: accepted are known types and new names, and of a method's variables not too many

module _ (G : List Class) where
  -- one more variable, before the next stage
  new-variable : (earlier : List (List ℕ)) (v : Variable) (n : ℕ) (x : Unit {0} → Outcome (Unit {0}))
      → (known_type G v.type >>= λ _. if occurs (text_of v) earlier then (λ _. refused n v.name.start) otherwise x) ≡ accepted tt
      → Known G v × (occurs (text_of v) earlier ≡ false) × (x tt ≡ accepted tt)
  new-variable earlier v n x h =
      let k = bound (known_type G v.type) _ h in
      let o = failed (occurs (text_of v) earlier) _ _ x k.2 in
      ((passed (known G (underlying v.type.type)) _ _ _ k.1).0, o.0, o.1)

  pub fields-sound : (earlier : List (List ℕ)) (vs : List Variable) → fields G earlier vs ≡ accepted tt
      → All (Known G) vs × Fresh earlier (map text_of vs)
  unfolding fields
  fields-sound earlier [] h = (all_nil, fresh-none)
  fields-sound earlier (v ∷ vs) h =
      let o = new-variable earlier v _ (λ _. fields G (text_of v ∷ earlier) vs) h in
      let w = fields-sound (text_of v ∷ earlier) vs o.2 in
      (all_cons o.0 w.0, fresh-more o.1 w.1)

  pub fields-complete : {earlier : List (List ℕ)} {vs : List Variable} → All (Known G) vs → Fresh earlier (map text_of vs)
      → fields G earlier vs ≡ accepted tt
  unfolding fields
  fields-complete all_nil f = refl
  fields-complete (all_cons k ks) (fresh-more o f) = rw (k, o) (fields-complete ks f)

  pub variables-sound : (earlier : List (List ℕ)) (vs : List Variable) → length earlier ≤ variables_most
      → variables G earlier vs ≡ accepted tt
      → All (Known G) vs × Fresh earlier (map text_of vs) × (length earlier + length vs ≤ variables_most)
  unfolding variables
  variables-sound earlier [] l h = (all_nil, fresh-none, omega arith)
  variables-sound earlier (v ∷ vs) l h =
      let o = new-variable earlier v _ (λ _. if ltb (length earlier) variables_most then (λ _. variables G (text_of v ∷ earlier) vs) otherwise λ _. refused _ _) h in
      let m = passed (ltb (length earlier) variables_most) (λ _. variables G (text_of v ∷ earlier) vs) _ _ o.2 in
      let w = variables-sound (text_of v ∷ earlier) vs (ltb-true (length earlier) variables_most m.0) m.1 in
      (all_cons o.0 w.0, fresh-more o.1 w.1, omega (arith, w.2))

  pub variables-complete : {earlier : List (List ℕ)} {vs : List Variable} → All (Known G) vs → Fresh earlier (map text_of vs)
      → length earlier + length vs ≤ variables_most → variables G earlier vs ≡ accepted tt
  unfolding variables
  variables-complete all_nil f l = refl
  variables-complete {earlier} (all_cons k ks) (fresh-more o f) l = rw (k, o, lt-ltb (length earlier) variables_most (omega arith)) (variables-complete ks f (omega arith))

-- METHODS

-- equal parameter types
types-sound : (vs ws : List Variable) → same_types_lem vs ws ≡ true → map type_of vs ≡ map type_of ws
unfolding same_types_lem
types-sound [] [] h = refl
types-sound [] (w ∷ ws) h = absurd (false≢true h)
types-sound (v ∷ vs) [] h = absurd (false≢true h)
types-sound (v ∷ vs) (w ∷ ws) h =
    let b = and-true (same_type (type_of v) (type_of w)) (same_types_lem vs ws) h in
    rw (same_type-equal (type_of v) (type_of w) b.0, types-sound vs ws b.1)

types-complete : (vs ws : List Variable) → map type_of vs ≡ map type_of ws → same_types_lem vs ws ≡ true
unfolding same_types_lem
types-complete [] [] h = refl
types-complete [] (w ∷ ws) h = absurd (let z = ap length h in omega arith)
types-complete (v ∷ vs) [] h = absurd (let z = ap length h in omega arith)
types-complete (v ∷ vs) (w ∷ ws) h =
    let a : type_of v ≡ type_of w = cc in
    let b : map type_of vs ≡ map type_of ws = cc in
    rw (same_type-of a, types-complete vs ws b)

-- the clauses of a method's rule that its head decides
pub record HeadTyped (G : List Class) (c : List ℕ) (m : Method) : Type 0 where
  pub result-known : known G (underlying m.result.type) ≡ true
  pub parameters-known : All (Known G) m.parameters
  pub distinct : Distinct (map text_of m.parameters)
  pub few : length m.parameters ≤ variables_most
  pub redeclares : (d : List ℕ) (F : Found) → Extends G c d → HasMethod G d m.name.text F → Redeclares G m F.method

-- the method of a name above a class
above-found : {G : List Class} {c : List ℕ} {ks : List Class} (m : List ℕ) {F : Found} → Chain G c ks → nearest_method (drop 1 ks) m ≡ some F
    → (d : List ℕ) × Extends G c d × HasMethod G d m F
unfolding nearest_method
above-found m (chain-none e) h = absurd (none-some refl h)
above-found m (chain-top e p) h = absurd (none-some refl h)
above-found m (chain_more {d = d} e x t) h = (d, x, method-found m t h)

above-nearest : {G : List Class} {c d m : List ℕ} {ks : List Class} {F : Found} → Chain G c ks → Extends G c d → HasMethod G d m F
    → nearest_method (drop 1 ks) m ≡ some F
above-nearest t (extends e p q) h = let l = chain-tail t e (extends e p q) in rw l.1 (method-nearest l.2 h)

module _ {G : List Class} (A : Acyclic G) where
  -- REDECLARATIONS

  redeclares-sound : (m n : Method) → redeclares G m n ≡ true → Redeclares G m n
  redeclares-sound m n h =
      let b = and-true (same_types_lem m.parameters n.parameters) (fits G m.result.type n.result.type) h in
      record { parameters = types-sound m.parameters n.parameters b.0; result = fits_sub A m.result.type n.result.type b.1 }

  redeclares-complete : (m n : Method) → Redeclares G m n → redeclares G m n ≡ true
  redeclares-complete m n r = rw (types-complete m.parameters n.parameters r.parameters, sub-fits A r.result)

  redeclaration-sound : (k : Class) (m : Method) → redeclaration G k m ≡ accepted tt
      → (d : List ℕ) (F : Found) → Extends G (class_name k) d → HasMethod G d (method_name m) F → Redeclares G m F.method
  redeclaration-sound k m h d F x y =
      redeclares-sound m F.method (passed (redeclares G m F.method) _ _ _ (rw (above-nearest (chain-is A (class_name k)) x y) at h)).0

  redeclaration-complete : (k : Class) (m : Method)
      → ((d : List ℕ) (F : Found) → Extends G (class_name k) d → HasMethod G d (method_name m) F → Redeclares G m F.method)
      → redeclaration G k m ≡ accepted tt
  redeclaration-complete k m f = if-present (nearest_method (drop 1 (chain G (class_name k))) (method_name m)) _ λ F e.
      let w = above-found (method_name m) (chain-is A (class_name k)) e in
      rw (redeclares-complete m F.method (f w.0 F w.1 w.2))

  -- HEADS: for each method its own clauses, and its name among the earlier ones

  pub heads-sound : (k : Class) (earlier : List (List ℕ)) (ms : List Method) → heads G k earlier ms ≡ accepted tt
      → All (HeadTyped G (class_name k)) ms × Fresh earlier (map method_name ms)
  unfolding heads
  heads-sound k earlier [] h = (all_nil, fresh-none)
  heads-sound k earlier (m ∷ ms) h =
      let a = bound (known_type G m.result) _ h in
      let b = bound (new_method earlier m) (λ _. variables G [] m.parameters >>= λ _. redeclaration G k m >>= λ _. heads G k (method_name m ∷ earlier) ms) a.2 in
      let c = bound (variables G [] m.parameters) (λ _. redeclaration G k m >>= λ _. heads G k (method_name m ∷ earlier) ms) b.2 in
      let d = bound (redeclaration G k m) (λ _. heads G k (method_name m ∷ earlier) ms) c.2 in
      let w = heads-sound k (method_name m ∷ earlier) ms d.2 in
      let v = variables-sound G [] m.parameters (omega arith) c.1 in (
        all_cons (record {
          result-known = (passed (known G (underlying m.result.type)) _ _ _ a.1).0;
          parameters-known = v.0;
          distinct = (fresh-distinct v.1).0;
          few = omega (arith, v.2);
          redeclares = redeclaration-sound k m d.1;
        }) w.0,
        fresh-more (failed (occurs (method_name m) earlier) _ _ _ b.1).0 w.1,
      )

  pub heads-complete : (k : Class) {earlier : List (List ℕ)} {ms : List Method} → All (HeadTyped G (class_name k)) ms
      → Fresh earlier (map method_name ms)
      → heads G k earlier ms ≡ accepted tt
  unfolding heads
  heads-complete k all_nil f = refl
  heads-complete k (all_cons {x = m} h hs) (fresh-more o f) =
      rw (h.result-known, o, variables-complete G h.parameters-known (distinct-fresh h.distinct (unused-nil _)) (omega (arith, h.few)), redeclaration-complete k m h.redeclares)
      (heads-complete k hs f)

  -- BODIES: with the head, all clauses of a method's rule

  pub method-typed : (c : List ℕ) (m : Method) → HeadTyped G c m → body G c m ≡ accepted tt → MethodTyped G c m
  method-typed c m h b =
      let v = bound (variables G (map text_of m.parameters) m.locals) _ b in
      let s = bound (judge G (context_of c m) m.body) (λ _. judge G (context_of c m) m.value >>= λ t. must G m.value m.result.type t) v.2 in
      let e = fitted A (judge G (context_of c m) m.value) m.value s.2 in
      let w = variables-sound G (map text_of m.parameters) m.locals (simp length-map h.few) v.1 in
      let f = fresh-distinct w.1 in
      record {
        result-known = h.result-known;
        variables-known = all_append h.parameters-known w.0;
        distinct = rw map-append (distinct_append h.distinct f.0 f.1);
        few = simp length-append (simp length-map at w.2);
        redeclares = h.redeclares;
        body = sound A (context_of c m) m.body s.1;
        type = e.0;
        value = sound A (context_of c m) m.value e.0 e.1;
        fits = e.2;
      }

  pub method-head : {c : List ℕ} {m : Method} → MethodTyped G c m → HeadTyped G c m
  method-head {c} {m} h = record {
    result-known = h.result-known;
    parameters-known = (all_apart m.parameters h.variables-known).0;
    distinct = (distinct-split (map text_of m.parameters) (rw map-append at h.distinct)).0;
    few = omega (arith, length-append m.parameters m.locals, h.few);
    redeclares = h.redeclares;
  }

  pub method-body : {c : List ℕ} {m : Method} → MethodTyped G c m → body G c m ≡ accepted tt
  method-body {c} {m} h =
      let d = distinct-split (map text_of m.parameters) (rw map-append at h.distinct) in
      let few : length (map text_of m.parameters) + length m.locals ≤ variables_most = simp length-map (simp length-append at h.few) in
      rw (
        variables-complete G (all_apart m.parameters h.variables-known).1 (distinct-fresh d.1 d.2) few,
        complete-statements A (context_of c m) h.body,
        complete A (context_of c m) h.value,
        sub-fits A h.fits,
      )
