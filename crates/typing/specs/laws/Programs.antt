-- A program is accepted exactly where the rules hold of it: the whole check is the tests of the names, the parents and the chains, then
-- those of the declarations and the bodies, each of which is one part of the rules.
use Rattle.std.specs.Prelude.{ℕ, ◌≡◌, true, length}
use Rattle.std.proofs.Math.Path.{refl}
use Rattle.std.proofs.Common.{sym, ◌∙◌, subst}
use mathlib.Core.List.{List, [], ◌∷◌, map}
use Rattle.std.proofs.Math.Bool.{false≢true}
use Rattle.std.proofs.Math.Option.{Option, none, some}
use Rattle.base.specs.Outcome.{Outcome, accepted, refused, ◌>>=◌}
use Rattle.base.specs.All.{All, all_nil, all_cons, FirstNot, first-here, first-later}
use Rattle.base.specs.laws.Lists.{all-weaken}
use Rattle.base.specs.Codes.{chain_endless}
use Rattle.parser.specs.Tree.{Name, Element.class, Method, Class, Program}
use Rattle.typesystem.specs.ClassTable.{main_context, class_named, ends_within, known, occurs, text_of}
use Rattle.typesystem.specs.Judge.{judge}
use Rattle.typesystem.specs.Declarations.{distinct_classes, known_parent, known_parents, ending_chains, fields, heads, declarations}
use Rattle.typesystem.specs.Check.{body, bodies, class_bodies, all_bodies, judged}
use Rattle.typesystem.specs.TypingRules.{Extends, extends, Ends, ParentKnown, ChainEnds, Distinct, distinct_more, Known, MethodTyped, ClassTyped, ProgramTyped, method_name, class_name}
use Rattle.base.specs.laws.Tests.{not-true, same_refl, same-sym}
use Rattle.typing.specs.laws.Choices.{taken, none-some, refused-accepted, bound, passed, present, failed, each-sound, each-complete, bind_assoc}
use Rattle.typing.specs.laws.Chains.{known-found, found-known, class-name, all-classes, Acyclic, ends-within, within-ends}
use Rattle.typing.specs.laws.Judging.{sound, complete-statement}
use Rattle.typing.specs.laws.Distinctness.{all-zip, all-unmap, occurs-not, distinct-rest, Fresh, fresh-none, fresh-more, fresh-distinct, distinct-fresh, unused-nil}
use Rattle.typing.specs.laws.Declared.{fields-sound, fields-complete, HeadTyped, heads-sound, heads-complete, method-typed, method-head, method-body}

-- NAMES OF CLASSES

classes-fresh : (earlier : List (List ℕ)) (ks : List Class) → distinct_classes earlier ks ≡ accepted tt → Fresh earlier (map class_name ks)
unfolding distinct_classes
classes-fresh earlier [] h = fresh-none
classes-fresh earlier (k ∷ ks) h =
    let w = failed (occurs (class_name k) earlier) _ _ (λ _. distinct_classes (class_name k ∷ earlier) ks) h in
    fresh-more w.0 (classes-fresh (class_name k ∷ earlier) ks w.1)

fresh-classes : {earlier : List (List ℕ)} (ks : List Class) → Fresh earlier (map class_name ks) → distinct_classes earlier ks ≡ accepted tt
unfolding distinct_classes
fresh-classes [] f = refl
fresh-classes (k ∷ ks) (fresh-more o f) = rw o (fresh-classes ks f)

-- the main class's name is the first
pub names-sound : (main : List ℕ) (ks : List Class) → distinct_classes (main ∷ []) ks ≡ accepted tt → Distinct (main ∷ map class_name ks)
unfolding occurs
names-sound main ks h = (fresh-distinct {earlier = []} (fresh-more refl (classes-fresh (main ∷ []) ks h))).0

pub names-complete : (main : List ℕ) (ks : List Class) → Distinct (main ∷ map class_name ks) → distinct_classes (main ∷ []) ks ≡ accepted tt
names-complete main ks d = go (distinct-fresh d (unused-nil (main ∷ map class_name ks)))
  where
    go : Fresh [] (main ∷ map class_name ks) → distinct_classes (main ∷ []) ks ≡ accepted tt
    go (fresh-more o f) = fresh-classes ks f

-- where no name stands twice, each class of a table is what its name finds
pub class-found : (G : List Class) → Distinct (map class_name G) → All (λ (k : Class). class_named G (class_name k) ≡ some k) G
unfolding class_named
class-found [] d = all_nil
class-found (k ∷ G) (distinct_more o d) =
    all_cons {x = k} (rw (same_refl (class_name k)))
    (all-weaken (λ j w. rw (same-sym (class_name j) (class_name k) w.0) w.1) (all-zip (all-unmap class_name G (occurs-not (class_name k) (map class_name G) o)) (class-found G d)))

-- PARENTS

module _ (G : List Class) where
  parent-sound : (o : Option Name) → known_parent G o ≡ accepted tt → (p : Name) → o ≡ some p → known G (class p.text) ≡ true
  parent-sound none h p e = absurd (none-some refl e)
  parent-sound (some q) h p e =
      let w = present (class_named G q.text) _ _ _ h in
      let z : q ≡ p = cc in
      rw (← z) (found-known G q.text w.1)

  parent-complete : (o : Option Name) → ((p : Name) → o ≡ some p → known G (class p.text) ≡ true) → known_parent G o ≡ accepted tt
  parent-complete none f = refl
  parent-complete (some q) f = let w = known-found G q.text (f q refl) in rw w.1

  pub parents-sound : (ks : List Class) → known_parents G ks ≡ accepted tt → All (ParentKnown G) ks
  unfolding known_parents
  parents-sound ks h =
      all-weaken (λ k e. parent-sound k.parent e) (each-sound (known_parents G) (λ k. known_parent G k.parent) refl (λ k l. refl) ks h)

  pub parents-complete : {ks : List Class} → All (ParentKnown G) ks → known_parents G ks ≡ accepted tt
  unfolding known_parents
  parents-complete h = each-complete (known_parents G) (λ k. known_parent G k.parent) refl (λ k l. refl) (all-weaken (λ k e. parent-complete k.parent e) h)

  -- CHAINS

  pub acyclic : All (ChainEnds G) G → Acyclic G
  acyclic h = record { ends = λ c e. subst (Ends G) (class-name G c e) (all-classes c h e) }

  chains-complete : {ks : List Class} → All (ChainEnds G) ks → ending_chains G ks ≡ accepted tt
  unfolding ending_chains
  chains-complete all_nil = refl
  chains-complete (all_cons e h) = rw (ends-within e) (chains-complete h)

  abbrev Named : Class → Type 0
  Named k = class_named G (class_name k) ≡ some k

  -- of a table whose parents are known, and of classes that their names find
  module _ (ps : All (ParentKnown G) G) where
    chain-sound : (k : Class) → Named k → ends_within (length G) G (class_name k) ≡ true → ChainEnds G k
    chain-sound k own e = within-ends parents (length G) (class_name k) own e
      where
        parents : (c d : List ℕ) → Extends G c d → (k : Class) × (class_named G d ≡ some k)
        parents c d (extends e p q) = known-found G d (rw q at (all-classes c ps e _ p))

    pub chains-sound : {ks : List Class} → All Named ks → ending_chains G ks ≡ accepted tt → All (ChainEnds G) ks
    unfolding ending_chains
    chains-sound all_nil h = all_nil
    chains-sound (all_cons {x = k} {l = ks} own os) h =
        let w = passed (ends_within (length G) G (class_name k)) (λ _. ending_chains G ks) _ _ h in
        all_cons (chain-sound k own w.0) (chains-sound os w.1)

    pub endless-sound : {ks : List Class} → All Named ks → {n q : ℕ} → ending_chains G ks ≡ refused n q
        → (k : Class) × FirstNot (ChainEnds G) ks k × (n ≡ chain_endless) × (q ≡ k.name.start)
    unfolding ending_chains
    endless-sound all_nil h = absurd (refused-accepted (sym h))
    endless-sound (all_cons {x = k} own os) h =
        taken (ends_within (length G) G (class_name k)) _ _ h
        (λ e r. let w = endless-sound os r in (w.0, first-later (chain-sound k own e) w.1, w.2, w.3))
        (λ e r. (k, first-here (λ x. false≢true (sym e ∙ ends-within x)), cc, cc))

    pub endless-complete : {ks : List Class} → All Named ks → {k : Class} → FirstNot (ChainEnds G) ks k
        → ending_chains G ks ≡ refused chain_endless k.name.start
    unfolding ending_chains
    endless-complete all_nil {k = k} x3 = elim x3 [ ]
    endless-complete (all_cons {x = k} own os) (first-here n) =
        rw (not-true (ends_within (length G) G (class_name k)) (λ e. n (chain-sound k own e)))
    endless-complete (all_cons own os) (first-later e h) = rw (ends-within e) (endless-complete os h)

-- the chains of a table end whose classes are typed
pub table-acyclic : {G : List Class} → All (ClassTyped G) G → Acyclic G
table-acyclic {G} T = acyclic G (all-weaken (λ k t. t.ends) T)

-- DECLARATIONS AND BODIES

-- the clauses of a class's rule that its declarations decide
record Declared (G : List Class) (k : Class) : Type 0 where
  fields-known : All (Known G) k.fields
  fields-distinct : Distinct (map text_of k.fields)
  methods-distinct : Distinct (map method_name k.methods)
  heads : All (HeadTyped G (class_name k)) k.methods

module _ {G : List Class} (A : Acyclic G) where
  declaration : Class → Outcome (Unit {0})
  declaration k = fields G [] k.fields >>= λ _. heads G k [] k.methods

  declarations-step : (k : Class) (ks : List Class) → declarations G (k ∷ ks) ≡ (declaration k >>= λ _. declarations G ks)
  unfolding declarations declaration
  declarations-step k ks = bind_assoc (fields G [] k.fields) (λ _. heads G k [] k.methods) (λ _. declarations G ks)

  declaration-sound : (k : Class) → declaration k ≡ accepted tt → Declared G k
  unfolding declaration
  declaration-sound k h =
      let b = bound (fields G [] k.fields) _ h in
      let f = fields-sound G [] k.fields b.1 in
      let m = heads-sound A k [] k.methods b.2 in
      record { fields-known = f.0; fields-distinct = (fresh-distinct f.1).0; methods-distinct = (fresh-distinct m.1).0; heads = m.0 }

  declaration-complete : (k : Class) → ClassTyped G k → declaration k ≡ accepted tt
  unfolding declaration
  declaration-complete k t =
      rw (fields-complete G t.fields-known (distinct-fresh t.fields-distinct (unused-nil _)))
      (heads-complete A k (all-weaken (λ m h. method-head A h) t.methods) (distinct-fresh t.methods-distinct (unused-nil _)))

  declarations-sound : (ks : List Class) → declarations G ks ≡ accepted tt → All (Declared G) ks
  unfolding declarations
  declarations-sound ks h = all-weaken declaration-sound (each-sound (declarations G) declaration refl declarations-step ks h)

  declarations-complete : {ks : List Class} → All (ClassTyped G) ks → declarations G ks ≡ accepted tt
  unfolding declarations
  declarations-complete h = each-complete (declarations G) declaration refl declarations-step (all-weaken declaration-complete h)

  bodies-sound : (c : List ℕ) (ms : List Method) → bodies G c ms ≡ accepted tt → All (HeadTyped G c) ms → All (MethodTyped G c) ms
  unfolding bodies
  bodies-sound c ms h t =
      all-weaken (λ m w. method-typed A c m w.0 w.1) (all-zip t (each-sound (bodies G c) (body G c) refl (λ m l. refl) ms h))

  bodies-complete : {c : List ℕ} {ms : List Method} → All (MethodTyped G c) ms → bodies G c ms ≡ accepted tt
  unfolding bodies
  bodies-complete {c} h = each-complete (bodies G c) (body G c) refl (λ m l. refl) (all-weaken (λ m t. method-body A t) h)

  class_bodies-sound : (ks : List Class) → class_bodies G ks ≡ accepted tt
      → All (λ (k : Class). bodies G (class_name k) k.methods ≡ accepted tt) ks
  unfolding class_bodies
  class_bodies-sound ks h = each-sound (class_bodies G) (λ k. bodies G (class_name k) k.methods) refl (λ k l. refl) ks h

  class_bodies-complete : {ks : List Class} → All (ClassTyped G) ks → class_bodies G ks ≡ accepted tt
  unfolding class_bodies
  class_bodies-complete h = each-complete (class_bodies G) (λ k. bodies G (class_name k) k.methods) refl (λ k l. refl) (all-weaken (λ k t. bodies-complete t.methods) h)

  class-typed : (k : Class)
      → (ParentKnown G k × Ends G (class_name k)) × (Declared G k × (bodies G (class_name k) k.methods ≡ accepted tt)) → ClassTyped G k
  class-typed k w = record {
    parent-known = w.0.0;
    ends = w.0.1;
    fields-known = w.1.0.fields-known;
    fields-distinct = w.1.0.fields-distinct;
    methods-distinct = w.1.0.methods-distinct;
    methods = bodies-sound (class_name k) k.methods w.1.1 w.1.0.heads;
  }

-- PROGRAMS

pub judged-sound : (p q : Program) → judged p ≡ accepted q → (q ≡ p) × ProgramTyped p
unfolding judged all_bodies
judged-sound p q h =
    let G = p.classes in
    let n = bound (distinct_classes (p.main.text ∷ []) G) _ h in
    let o = bound (known_parents G G) (λ _. ending_chains G G >>= λ _. declarations G G >>= λ _. all_bodies p >>= λ _. accepted p) n.2 in
    let e = bound (ending_chains G G) (λ _. declarations G G >>= λ _. all_bodies p >>= λ _. accepted p) o.2 in
    let d = bound (declarations G G) (λ _. all_bodies p >>= λ _. accepted p) e.2 in
    let b = bound (all_bodies p) (λ _. accepted p) d.2 in
    let c = bound (judge G main_context p.statement) (λ _. class_bodies G G) b.1 in
    let z : q ≡ p = cc b.2 in
    let ps = parents-sound G G o.1 in
    let ds = names-sound p.main.text G n.1 in
    let es = chains-sound G ps (class-found G (distinct-rest ds)) e.1 in
    let A = acyclic G es in (
      z,
      record {
        distinct = ds;
        classes =
            all-weaken (class-typed A) (all-zip (all-zip ps es) (all-zip (declarations-sound A G d.1) (class_bodies-sound A G c.2)));
        main = sound A main_context p.statement c.1;
      },
    )

pub judged-complete : (p : Program) → ProgramTyped p → judged p ≡ accepted p
unfolding judged all_bodies
judged-complete p t =
    let G = p.classes in
    let A = table-acyclic t.classes in
    rw (
      names-complete p.main.text G t.distinct,
      parents-complete G (all-weaken (λ k h. h.parent-known) t.classes),
      chains-complete G (all-weaken (λ k h. h.ends) t.classes),
      declarations-complete A t.classes,
      complete-statement A main_context t.main,
      class_bodies-complete A t.classes,
    )
