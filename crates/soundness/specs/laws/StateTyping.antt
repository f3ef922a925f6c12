-- The typing of machine states. The heap has a flat list of cell types, one for each cell; a reference is typed by the cell types at its
-- place. A list of tasks is typed by the contexts of the open calls and by the types on the value stack with which it runs to the end.
use Rattle.std.specs.Prelude.{ℕ, ◌+◌, ◌^◌, ◌<◌, Bool, false, ◌≡◌, length}
use mathlib.Core.List.{List, [], ◌∷◌, ◌++◌, map, reverse_aux}
use Rattle.std.proofs.Math.Option.{some}
use Rattle.std.proofs.Math.ListN.{get_elem?}
use Rattle.base.specs.All.{All}
use Rattle.base.specs.laws.Lists.{All2}
use Rattle.base.specs.Word.{modulus}
use Rattle.base.specs.Codes.{byte_values}
use Rattle.parser.specs.Tree.{Place, Operator, Numeral, Numeral.int_literal, Numeral.fixed_literal, Sort, Part, Expression, Statement, Element, Element.int, Element.boolean, Element.fixed, Element.class, Ty, Ty.plain, Ty.array_of, Variable, Method, Class, Program}
use Rattle.parser.specs.Tree.{Sort.arguments, Sort.statement, Sort.statements}
use Rattle.parser.specs.Tree.{Part.literal, Part.truth, Part.variable, Part.this, Part.new_array_lem, Part.new_object_lem, Part.negation, Part.binary, Part.element, Part.array_length, Part.call, Part.port_get_lem, Part.no_arguments, Part.argument}
use Rattle.parser.specs.Tree.{Part.block, Part.conditional, Part.loop, Part.print, Part.assign, Part.assign_element_lem, Part.port_put_lem, Part.no_statements, Part.sequence}
use Rattle.typesystem.specs.ClassTable.{Found, Context, main_context, context_of, class_named, fields_of}
use Rattle.typesystem.specs.Judge.{arity}
use Rattle.typesystem.specs.TypingRules.{Sub, HasMethod, HasName, HasType, HaveTypes, IsTyped, AreTyped, type_of}
use Rattle.typing.specs.laws.Members.{Up}
use Rattle.typing.specs.laws.Operations.{Numeric, Operates}
use Rattle.semantics.specs.Machine.{Value, Value.number, Value.thousandths, Value.flag, Value.null, Value.array_at, Value.object_at, Cell, Cell.object, Cell.array, Cell.slot, Call, Call.frame, Core, Core.core, is_and}
use Rattle.semantics.specs.Machine.{Request, Request.charge, Request.allocate, Request.enter, Request.output, Request.receive, Request.send, Request.move, Request.fault, Request.done, Request.stuck}
use Rattle.semantics.specs.Machine.{Task, Task.evaluate, Task.execute, Task.operand, Task.operate, Task.confirm, Task.negate, Task.index, Task.fetch, Task.measure, Task.make_array_lem, Task.make_object_lem, Task.invoke, Task.branch, Task.decide, Task.again, Task.show, Task.store, Task.new_element, Task.store_element_lem, Task.read_register, Task.new_byte, Task.write_register, Task.continue, Task.perform, Task.leave}
use Rattle.soundness.specs.Results.{Fault}

-- ---- literals are words

abbrev pub WordNumeral : Numeral → Type 0
WordNumeral (int_literal n) = n < modulus
WordNumeral (fixed_literal n) = n < modulus

abbrev pub WordLiterals : {s : Sort} → Part s → Type 0
WordLiterals (literal p n) = WordNumeral n
WordLiterals (truth p b) = Unit {0}
WordLiterals (variable p x) = Unit {0}
WordLiterals (this p) = Unit {0}
WordLiterals (new_array_lem p u e) = WordLiterals e
WordLiterals (new_object_lem p c) = Unit {0}
WordLiterals (negation p e) = WordLiterals e
WordLiterals (binary p o l r) = WordLiterals l × WordLiterals r
WordLiterals (element p a i) = WordLiterals a × WordLiterals i
WordLiterals (array_length p a) = WordLiterals a
WordLiterals (call p e m es) = WordLiterals e × WordLiterals es
WordLiterals (port_get_lem p e) = WordLiterals e
WordLiterals no_arguments = Unit {0}
WordLiterals (argument e es) = WordLiterals e × WordLiterals es
WordLiterals (block p ss) = WordLiterals ss
WordLiterals (conditional p e s t) = WordLiterals e × WordLiterals s × WordLiterals t
WordLiterals (loop p e s) = WordLiterals e × WordLiterals s
WordLiterals (print p e) = WordLiterals e
WordLiterals (assign p x e) = WordLiterals e
WordLiterals (assign_element_lem p x i e) = WordLiterals i × WordLiterals e
WordLiterals (port_put_lem p n e) = WordLiterals n × WordLiterals e
WordLiterals no_statements = Unit {0}
WordLiterals (sequence s ss) = WordLiterals s × WordLiterals ss

pub record MethodFits (m : Method) : Type 0 where
  pub body : WordLiterals m.body
  pub value : WordLiterals m.value

-- every literal of the program, of int or of fixed, is below 2 ^ 32 (the reader's are at most 2147483647)
pub record LiteralsFit (p : Program) : Type 0 where
  pub main : WordLiterals p.statement
  pub classes : All (λ k. All MethodFits k.methods) p.classes

-- ---- values and the heap

pub data CellType : Type 0 where
  object_type : List ℕ → CellType
  array_type : Element → (length : ℕ) → CellType
  slot_type : Ty → CellType

-- σ has the types of the heap's cells
pub data ValueTyped (G : List Class) (σ : List CellType) : Value → Ty → Type 0 where
  v-number : {n : ℕ} → n < modulus → ValueTyped G σ (number n) (plain int)
  v-thousandths : {n : ℕ} → n < modulus → ValueTyped G σ (thousandths n) (plain fixed)
  v-flag : {b : Bool} → ValueTyped G σ (flag b) (plain boolean)
  v-no-array : {t : Element} → ValueTyped G σ null (array_of t)
  v-no-object : {c : List ℕ} → ValueTyped G σ null (plain (class c))
  v-array : {a n : ℕ} {t : Element} → get_elem? σ a ≡ some (array_type t n) → ValueTyped G σ (array_at a) (array_of t)
  v-object : {a : ℕ} {b c : List ℕ} → get_elem? σ a ≡ some (object_type b) → Up G b c → ValueTyped G σ (object_at a) (plain (class c))

pub data CellTyped (G : List Class) (σ : List CellType) : Cell → CellType → Type 0 where
  c-object : {c : List ℕ} {k : Class} → class_named G c ≡ some k → CellTyped G σ (object c) (object_type c)
  c-array : {t : Element} {n : ℕ} → n < 2 ^ 31 → CellTyped G σ (array t n) (array_type t n)
  c-slot : {v : Value} {t : Ty} → ValueTyped G σ v t → CellTyped G σ (slot v) (slot_type t)

-- an object's cell is followed by a slot for each field, an array's by a slot for each element
pub record Laid (G : List Class) (σ : List CellType) : Type 0 where
  pub objects : (a : ℕ) (c : List ℕ) (i : ℕ) (v : Variable) → get_elem? σ a ≡ some (object_type c) → get_elem? (fields_of G c) i ≡ some v
      → get_elem? σ (a + 1 + i) ≡ some (slot_type (type_of v))
  pub arrays : (a : ℕ) (t : Element) (n i : ℕ) → get_elem? σ a ≡ some (array_type t n) → i < n
      → get_elem? σ (a + 1 + i) ≡ some (slot_type (plain t))

pub record HeapTyped (G : List Class) (σ : List CellType) (h : List Cell) : Type 0 where
  pub laid : Laid G σ
  pub cells : All2 (CellTyped G σ) h σ

-- ---- open calls

-- a call of a method that the receiver's class has
pub record FrameTyped (G : List Class) (σ : List CellType) (a : ℕ) (Γ : Context) (xs : List Value) : Type 0 where
  pub made : List ℕ
  pub receiver : get_elem? σ a ≡ some (object_type made)
  pub called : List ℕ
  pub found : Found
  pub has : HasMethod G made called found
  pub context : Γ ≡ context_of found.owner found.method
  pub row : All2 (ValueTyped G σ) xs (map type_of Γ.variables)

pub data CallTyped (G : List Class) (σ : List CellType) : Call → Context → Type 0 where
  c_frame : {a : ℕ} {Γ : Context} {xs : List Value} → FrameTyped G σ a Γ xs → CallTyped G σ (frame a Γ xs) Γ

-- ---- tasks

-- the context in which a task is carried out: the innermost call's, or main's
abbrev pub now : List Context → Context
now [] = main_context
now (Γ ∷ Γs) = Γ

-- Where a task leaves a value, the value has a type s that fits what the tasks after it take, t.
pub data TasksTyped (G : List Class) : List Context → List Ty → List Task → Type 0 where
  r-end : TasksTyped G [] [] []
  r-evaluate : {Γs : List Context} {us : List Ty} {ts : List Task} {e : Expression} {s t : Ty}
      → HasType G (now Γs) e s → WordLiterals e → Sub G s t → TasksTyped G Γs (t ∷ us) ts → TasksTyped G Γs us (evaluate e ∷ ts)
  r-execute : {Γs : List Context} {us : List Ty} {ts : List Task} {s : Statement}
      → IsTyped G (now Γs) s → WordLiterals s → TasksTyped G Γs us ts → TasksTyped G Γs us (execute s ∷ ts)
  r-operand : {Γs : List Context} {us : List Ty} {ts : List Task} {o : Operator} {l r : Expression} {s u t : Ty}
      → Operates o s u → HasType G (now Γs) l s → HasType G (now Γs) r s → WordLiterals r → Sub G u t → TasksTyped G Γs (t ∷ us) ts
      → TasksTyped G Γs (s ∷ us) (operand o l r ∷ ts)
  r-operate : {Γs : List Context} {us : List Ty} {ts : List Task} {o : Operator} {l : Expression} {s u t : Ty}
      → Operates o s u → HasType G (now Γs) l s → is_and o ≡ false → Sub G u t → TasksTyped G Γs (t ∷ us) ts
      → TasksTyped G Γs (s ∷ s ∷ us) (operate o l ∷ ts)
  r-confirm : {Γs : List Context} {us : List Ty} {ts : List Task} {t : Ty}
      → Sub G (plain boolean) t → TasksTyped G Γs (t ∷ us) ts → TasksTyped G Γs (plain boolean ∷ us) (confirm ∷ ts)
  r-negate : {Γs : List Context} {us : List Ty} {ts : List Task} {t : Ty}
      → Sub G (plain boolean) t → TasksTyped G Γs (t ∷ us) ts → TasksTyped G Γs (plain boolean ∷ us) (negate ∷ ts)
  r-index : {Γs : List Context} {us : List Ty} {ts : List Task} {p : Place} {i : Expression} {s : Element} {t : Ty}
      → HasType G (now Γs) i (plain int) → WordLiterals i → Sub G (plain s) t → TasksTyped G Γs (t ∷ us) ts
      → TasksTyped G Γs (array_of s ∷ us) (index p i ∷ ts)
  r-fetch : {Γs : List Context} {us : List Ty} {ts : List Task} {p : Place} {s : Element} {t : Ty}
      → Sub G (plain s) t → TasksTyped G Γs (t ∷ us) ts → TasksTyped G Γs (plain int ∷ array_of s ∷ us) (fetch p ∷ ts)
  r-measure : {Γs : List Context} {us : List Ty} {ts : List Task} {p : Place} {s : Element} {t : Ty}
      → Sub G (plain int) t → TasksTyped G Γs (t ∷ us) ts → TasksTyped G Γs (array_of s ∷ us) (measure p ∷ ts)
  r-make-array : {Γs : List Context} {us : List Ty} {ts : List Task} {p : Place} {s : Element} {t : Ty}
      → Sub G (array_of s) t → TasksTyped G Γs (t ∷ us) ts → TasksTyped G Γs (plain int ∷ us) (make_array_lem p s ∷ ts)
  r-make-object : {Γs : List Context} {us : List Ty} {ts : List Task} {p : Place} {c : List ℕ} {k : Class} {t : Ty}
      → class_named G c ≡ some k → Sub G (plain (class c)) t → TasksTyped G Γs (t ∷ us) ts → TasksTyped G Γs us (make_object_lem p c ∷ ts)
  -- qs: the types of the arguments that are done, last first
  r-invoke : {Γs : List Context} {us : List Ty} {ts : List Task} {p : Place} {m : List ℕ} {n : ℕ} {es : Part arguments} {c : List ℕ} {F : Found} {vs : List Variable} {t : Ty}
      (qs : List Ty) → HasMethod G c m F → HaveTypes G (now Γs) es vs → WordLiterals es → reverse_aux qs (map type_of vs) ≡ map type_of F.method.parameters
      → n ≡ length qs + arity es → Sub G F.method.result.type t → TasksTyped G Γs (t ∷ us) ts
      → TasksTyped G Γs (qs ++ plain (class c) ∷ us) (invoke p m n es ∷ ts)
  r-branch : {Γs : List Context} {us : List Ty} {ts : List Task} {s t : Statement}
      → IsTyped G (now Γs) s → WordLiterals s → IsTyped G (now Γs) t → WordLiterals t → TasksTyped G Γs us ts
      → TasksTyped G Γs (plain boolean ∷ us) (branch s t ∷ ts)
  r-decide : {Γs : List Context} {us : List Ty} {ts : List Task} {e : Expression} {s : Statement}
      → HasType G (now Γs) e (plain boolean) → WordLiterals e → IsTyped G (now Γs) s → WordLiterals s → TasksTyped G Γs us ts
      → TasksTyped G Γs (plain boolean ∷ us) (decide e s ∷ ts)
  r-again : {Γs : List Context} {us : List Ty} {ts : List Task} {e : Expression} {s : Statement}
      → HasType G (now Γs) e (plain boolean) → WordLiterals e → IsTyped G (now Γs) s → WordLiterals s → TasksTyped G Γs us ts
      → TasksTyped G Γs us (again e s ∷ ts)
  r-show : {Γs : List Context} {us : List Ty} {ts : List Task} {p : Place} {s : Ty} → Numeric s → TasksTyped G Γs us ts
      → TasksTyped G Γs (s ∷ us) (show p ∷ ts)
  r-store : {Γs : List Context} {us : List Ty} {ts : List Task} {x : List ℕ} {t : Ty}
      → HasName G (now Γs) x t → TasksTyped G Γs us ts → TasksTyped G Γs (t ∷ us) (store x ∷ ts)
  r-new-element : {Γs : List Context} {us : List Ty} {ts : List Task} {p : Place} {e : Expression} {s : Ty} {t : Element}
      → HasType G (now Γs) e s → WordLiterals e → Sub G s (plain t) → TasksTyped G Γs us ts
      → TasksTyped G Γs (plain int ∷ array_of t ∷ us) (new_element p e ∷ ts)
  r-store-element : {Γs : List Context} {us : List Ty} {ts : List Task} {p : Place} {t : Element}
      → TasksTyped G Γs us ts → TasksTyped G Γs (plain t ∷ plain int ∷ array_of t ∷ us) (store_element_lem p ∷ ts)
  r-read-register : {Γs : List Context} {us : List Ty} {ts : List Task} {p : Place} {t : Ty}
      → Sub G (plain int) t → TasksTyped G Γs (t ∷ us) ts → TasksTyped G Γs (plain int ∷ us) (read_register p ∷ ts)
  r-new-byte : {Γs : List Context} {us : List Ty} {ts : List Task} {p : Place} {e : Expression}
      → HasType G (now Γs) e (plain int) → WordLiterals e → TasksTyped G Γs us ts → TasksTyped G Γs (plain int ∷ us) (new_byte p e ∷ ts)
  r-write-register : {Γs : List Context} {us : List Ty} {ts : List Task} {p : Place}
      → TasksTyped G Γs us ts → TasksTyped G Γs (plain int ∷ plain int ∷ us) (write_register p ∷ ts)
  r-continue : {Γs : List Context} {us : List Ty} {ts : List Task} {ss : Part statements}
      → AreTyped G (now Γs) ss → WordLiterals ss → TasksTyped G Γs us ts → TasksTyped G Γs us (continue ss ∷ ts)
  -- r: the type of the method's result
  r-perform : {Γ : Context} {Γs : List Context} {us : List Ty} {ts : List Task} {ss : Part statements} {e : Expression} {s r t : Ty}
      → AreTyped G Γ ss → WordLiterals ss → HasType G Γ e s → WordLiterals e → Sub G s r → Sub G r t → TasksTyped G Γs (t ∷ us) ts
      → TasksTyped G (Γ ∷ Γs) us (perform ss e r ∷ ts)
  r-leave : {Γ : Context} {Γs : List Context} {us : List Ty} {ts : List Task} {r t : Ty} → Sub G r t → TasksTyped G Γs (t ∷ us) ts
      → TasksTyped G (Γ ∷ Γs) (r ∷ us) (leave r ∷ ts)

-- ---- states and requests

pub data StateTyped (G : List Class) : Core → Type 0 where
  typed : {σ : List CellType} {Γs : List Context} {us : List Ty} {ts : List Task} {vs : List Value} {cs : List Call} {h : List Cell}
      → HeapTyped G σ h → All2 (CallTyped G σ) cs Γs → All2 (ValueTyped G σ) vs us → TasksTyped G Γs us ts → StateTyped G (core ts vs cs h)

-- a request whose next state is typed, and no other
abbrev pub Asks : List Class → Request Core → Type 0
Asks G (charge p c) = StateTyped G c
Asks G (allocate p n c) = StateTyped G (c tt)
Asks G (enter p n k c) = StateTyped G c
Asks G (output p z c) = StateTyped G c
Asks G (receive n c) = (b : ℕ) → b < byte_values → StateTyped G (c b)
Asks G (send n b c) = (b < byte_values) × StateTyped G c
Asks G (move c) = StateTyped G c
Asks G (fault k p) = Fault k
Asks G done = Unit {0}
Asks G stuck = ⊥
