-- Document 01, "What each operation refuses", Check's bodies: the judging function. Each part is judged, then must fit, before the next.
use Rattle.std.specs.Prelude.{ℕ, ◌+◌, List, [], ◌∷◌, length, eqb}
use Rattle.std.proofs.Math.Option.{Option, none, some}
use Rattle.base.specs.Choice.{if◌then◌otherwise◌, option}
use Rattle.base.specs.Outcome.{Outcome, accepted, refused, ◌>>=◌}
use Rattle.base.specs.Codes.{name_unknown, type_wrong, method_unknown, argument_count, this_in_main, type_unknown}
use Rattle.parser.specs.Tree.{Place, Name, Sort, Part}
use Rattle.parser.specs.Tree.{Expression, place_e, Variable, Class}
use Rattle.parser.specs.Tree.{Element, Element.int, Element.boolean, Element.fixed, Element.class, Ty, Ty.plain, Ty.array_of}
use Rattle.parser.specs.Tree.{Sort.expression, Sort.arguments, Sort.statement, Sort.statements}
use Rattle.parser.specs.Tree.{Part.literal, Part.truth, Part.variable, Part.this, Part.new_array_lem, Part.new_object_lem, Part.negation, Part.binary}
use Rattle.parser.specs.Tree.{Part.element, Part.array_length, Part.call, Part.port_get_lem, Part.no_arguments, Part.argument}
use Rattle.parser.specs.Tree.{Part.block, Part.conditional, Part.loop, Part.print, Part.assign, Part.assign_element_lem, Part.port_put_lem}
use Rattle.parser.specs.Tree.{Part.no_statements, Part.sequence}
use Rattle.typesystem.specs.Operators.{operation, printable}
use Rattle.typesystem.specs.ClassTable.{Found, Context, numeral_type, known, fits, method_of, meaning, meaning_type}

unfoldable pub arity : Part arguments → ℕ
arity no_arguments = 0
arity (argument e es) = 1 + arity es

-- what judging answers: of an expression its type; of arguments whether each fits its parameter; of statements whether they are well typed
abbrev pub Judgement : Sort → Type 0
Judgement expression = Outcome Ty
Judgement arguments = List Variable → Outcome (Unit {0})
Judgement statement = Outcome (Unit {0})
Judgement statements = Outcome (Unit {0})

-- a part of type `got` must fit `want`: 31 at that part
abbrev pub must : List Class → Expression → (want got : Ty) → Outcome (Unit {0})
must G e want got = if fits G got want then (λ _. accepted tt) otherwise λ _. refused type_wrong (place_e e).start

-- the receiver's class: 31 if no class
abbrev pub receiver : Expression → Ty → (List ℕ → Outcome Ty) → Outcome Ty
receiver e (plain int) k = refused type_wrong (place_e e).start
receiver e (plain boolean) k = refused type_wrong (place_e e).start
receiver e (plain fixed) k = refused type_wrong (place_e e).start
receiver e (plain (class c)) k = k c
receiver e (array_of t) k = refused type_wrong (place_e e).start

-- what an array holds: 31, at the part or at the target's name, if no array
abbrev pub for_array : {A : Type 0} → (position : ℕ) → Ty → (Element → Outcome A) → Outcome A
for_array p (plain t) k = refused type_wrong p
for_array p (array_of t) k = k t

-- the first parameter and the others. (There is one: the number of arguments was tested before.)
abbrev pub next_parameter : List Variable → (Variable → List Variable → Outcome (Unit {0})) → Outcome (Unit {0})
next_parameter [] k = refused argument_count 0
next_parameter (v ∷ vs) k = k v vs

-- 32 and 33, both at the method name, then the arguments
abbrev pub invocation : Name → ℕ → (List Variable → Outcome (Unit {0})) → Option Found → Outcome Ty
invocation m count judgeArguments none = refused method_unknown m.start
invocation m count judgeArguments (some F) =
    if eqb count (length F.method.parameters)
    then (λ _. judgeArguments F.method.parameters >>= λ _. accepted F.method.result.type) otherwise λ _.
    refused argument_count m.start

module _ (G : List Class) (Γ : Context) where
  -- 30 at the name
  abbrev pub look_up : Place → List ℕ → Outcome Ty
  look_up p x = option (meaning G Γ x) (refused name_unknown p.start) λ m. accepted (meaning_type m)

  unfoldable pub judge : {s : Sort} → Part s → Judgement s
  judge (literal p n) = accepted (numeral_type n)
  judge (truth p b) = accepted (plain boolean)
  judge (variable p x) = look_up p x
  judge (this p) = option Γ.owner (refused this_in_main p.start) λ c. accepted (plain (class c))
  judge (new_array_lem p u e) =
      if known G u.element
      then (λ _. judge e >>= λ t. must G e (plain int) t >>= λ _. accepted (array_of u.element)) otherwise λ _.
      refused type_unknown u.start
  judge (new_object_lem p c) =
      if known G (class c.text) then (λ _. accepted (plain (class c.text))) otherwise λ _. refused type_unknown c.start
  judge (negation p e) = judge e >>= λ t. must G e (plain boolean) t >>= λ _. accepted (plain boolean)
  judge (binary p o l r) =
      judge l >>= λ s. option (operation o s) (refused type_wrong (place_e l).start) λ t. judge r >>= λ u. must G r s u >>= λ _. accepted t
  judge (element p a i) =
      judge a >>= λ t. for_array (place_e a).start t λ s. judge i >>= λ u. must G i (plain int) u >>= λ _. accepted (plain s)
  judge (array_length p a) = judge a >>= λ t. for_array (place_e a).start t λ _. accepted (plain int)
  judge (call p e m es) = judge e >>= λ t. receiver e t λ c. invocation m (arity es) (judge es) (method_of G c m.text)
  judge (port_get_lem p e) = judge e >>= λ t. must G e (plain int) t >>= λ _. accepted (plain int)
  judge no_arguments = λ vs. accepted tt
  judge (argument e es) = λ vs. next_parameter vs λ v vs. judge e >>= λ t. must G e v.type.type t >>= λ _. judge es vs
  judge (block p ss) = judge ss
  judge (conditional p e s t) = judge e >>= λ τ. must G e (plain boolean) τ >>= λ _. judge s >>= λ _. judge t
  judge (loop p e s) = judge e >>= λ t. must G e (plain boolean) t >>= λ _. judge s
  judge (print p e) = judge e >>= λ t. if printable t then (λ _. accepted tt) otherwise λ _. refused type_wrong (place_e e).start
  judge (assign p x e) = look_up p x >>= λ target. judge e >>= λ t. must G e target t
  judge (assign_element_lem p x i e) =
      look_up p x >>= λ target. for_array p.start target λ s.
      judge i >>= λ t. must G i (plain int) t >>= λ _. judge e >>= λ t. must G e (plain s) t
  judge (port_put_lem p n e) = judge n >>= λ t. must G n (plain int) t >>= λ _. judge e >>= λ t. must G e (plain int) t
  judge no_statements = accepted tt
  judge (sequence s ss) = judge s >>= λ _. judge ss
