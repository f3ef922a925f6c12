-- The judging function and the typing rules agree: each test decides its relation, an expression is given exactly the types that the
-- rules give it, and a program is accepted exactly where the rules hold of it. What the table must satisfy is that its chains end,
-- `Acyclic`; a program that is accepted or typed has such a table.
use Rattle.std.specs.Prelude.{ℕ, ◌≡◌, ◌↔◌, List, map, true, length}
use Rattle.std.proofs.Common.{sym, ap, ◌∙◌, subst}
use Rattle.std.proofs.Math.Option
use Rattle.std.proofs.Math.Option.{some, map-eq-some_iff}
use Rattle.base.specs.Codes.{chain_endless}
use Rattle.base.specs.All.{All, FirstNot}
use Rattle.base.specs.Outcome.{accepted, refused}
use Rattle.parser.specs.Tree.{Sort.arguments, Sort.statements, Part, Expression, Statement, Ty, Variable, Class, Program}
use Rattle.typesystem.specs.ClassTable.{Found, Context, fits, method_of, meaning, meaning_type}
use Rattle.typesystem.specs.Judge.{arity, judge}
use Rattle.typesystem.specs.Declarations.{ending_chains}
use Rattle.typesystem.specs.Check.{judged}
use Rattle.typesystem.specs.TypingRules.{Sub, HasMethod, HasName, HasType, HaveTypes, IsTyped, AreTyped, Distinct, ProgramTyped, class_name, ParentKnown, ChainEnds}
use Rattle.typing.specs.laws.Chains.{Acyclic}
use Rattle.typing.specs.laws.Members.{fits_sub, sub-fits, method_of-has, has-method_of, meaning-has, has-meaning}
use Rattle.typing.specs.laws.Judging.{sound, complete, completes, many, complete-statement, complete-statements}
use Rattle.typing.specs.laws.Programs.{class-found}
use Rattle.typing.specs.laws.Programs.{endless-sound, endless-complete, table-acyclic, judged-sound, judged-complete}

module _ {G : List Class} (A : Acyclic G) where
  -- A type fits another exactly if it is a subtype of it.
  pub fits-agrees : (s t : Ty) → (fits G s t ≡ true) ↔ Sub G s t
  fits-agrees s t = (fits_sub A s t, sub-fits A)

  -- The method that is looked up is the one that the rules name.
  pub method-agrees : (c m : List ℕ) (F : Found) → (method_of G c m ≡ some F) ↔ HasMethod G c m F
  method-agrees c m F = (method_of-has A c m, has-method_of A)

  -- The type of what a name means is the type that the rules give the name.
  pub name-agrees : (Γ : Context) (x : List ℕ) (t : Ty) → (Option.map meaning_type (meaning G Γ x) ≡ some t) ↔ HasName G Γ x t
  name-agrees Γ x t = (
    λ h. let w = (map-eq-some_iff meaning_type (meaning G Γ x)).0 h in subst (HasName G Γ x) w.2 (meaning-has A Γ x w.1),
    λ h. (map-eq-some_iff meaning_type (meaning G Γ x)).1 (has-meaning A h),
  )

  -- EXPRESSIONS AND STATEMENTS

  -- Judging an expression gives the types that the rules give it.
  pub expression-agrees : (Γ : Context) (e : Expression) (t : Ty) → (judge G Γ e ≡ accepted t) ↔ HasType G Γ e t
  expression-agrees Γ e t = (sound A Γ e t, complete A Γ)

  -- An expression has at most one type.
  pub type-unique : {Γ : Context} {e : Expression} {s t : Ty} → HasType G Γ e s → HasType G Γ e t → s ≡ t
  type-unique {Γ} h k = cc (complete A Γ h, complete A Γ k)

  -- Arguments are accepted for parameters, as many as they are, exactly if the rules allow them.
  pub arguments-agree : (Γ : Context) (es : Part arguments) (vs : List Variable)
      → ((arity es ≡ length vs) × (judge G Γ es vs ≡ accepted tt)) ↔ HaveTypes G Γ es vs
  arguments-agree Γ es vs = (λ h. sound A Γ es vs h.0 h.1, λ h. (many A Γ h, completes A Γ h))

  -- A statement is accepted exactly if it is well typed.
  pub statement-agrees : (Γ : Context) (s : Statement) → (judge G Γ s ≡ accepted tt) ↔ IsTyped G Γ s
  statement-agrees Γ s = (sound A Γ s, complete-statement A Γ)

  -- Statements are accepted exactly if they are well typed.
  pub statements-agree : (Γ : Context) (ss : Part statements) → (judge G Γ ss ≡ accepted tt) ↔ AreTyped G Γ ss
  statements-agree Γ ss = (sound A Γ ss, complete-statements A Γ)

-- PROGRAMS

-- The chains of a typed program's table end.
pub program-acyclic : {p : Program} → ProgramTyped p → Acyclic p.classes
program-acyclic t = table-acyclic t.classes

-- Where the names are distinct and the parents known, the test of the chains refuses exactly if some class's chain does not end: with 22,
-- at the first such class of the table.
pub endless-agrees : (G : List Class) → Distinct (map class_name G) → All (ParentKnown G) G → (n q : ℕ)
    → (ending_chains G G ≡ refused n q) ↔ ((k : Class) × FirstNot (ChainEnds G) G k × (n ≡ chain_endless) × (q ≡ k.name.start))
endless-agrees G ds ps n q = (
  endless-sound G ps (class-found G ds),
  λ h.
      endless-complete G ps (class-found G ds) h.1 ∙ ap (λ (i : ℕ). refused i h.0.name.start) (sym h.2) ∙ ap (refused n) (sym h.3),
)

-- A program is accepted, as itself, exactly if the typing rules and the bounds hold of it.
pub program-agrees : (p q : Program) → (judged p ≡ accepted q) ↔ ((q ≡ p) × ProgramTyped p)
program-agrees p q = (judged-sound p q, λ h. judged-complete p h.1 ∙ ap accepted (sym h.0))
