-- What a state asks for over a table, it asks for over the table with more classes behind it, unless it is stuck over the first.
use Rattle.std.specs.Prelude.{ℕ, zero, suc, ◌+◌, ◌≡◌, Bool, true, false}
use Rattle.std.proofs.Math.Path.{refl}
use mathlib.Core.List.{List, [], ◌∷◌, ◌++◌, map}
use Rattle.std.proofs.Math.Option.{Option, none, some}
use Rattle.std.proofs.Math.ListN.{length, get_elem?}
use Rattle.base.specs.Choice.{if◌then◌otherwise◌}
use Rattle.parser.specs.Tree.{Place, Operator, Part, Expression, Statement, Variable, Class}
use Rattle.parser.specs.Tree.{Sort.arguments}
use Rattle.parser.specs.Tree.{Part.literal, Part.truth, Part.variable, Part.this, Part.new_array_lem, Part.new_object_lem, Part.negation, Part.binary}
use Rattle.parser.specs.Tree.{Part.element, Part.array_length, Part.call, Part.port_get_lem, Part.no_arguments, Part.argument}
use Rattle.parser.specs.Tree.{Part.block, Part.conditional, Part.loop, Part.print, Part.assign, Part.assign_element_lem, Part.port_put_lem}
use Rattle.parser.specs.Tree.{Part.no_statements, Part.sequence}
use Rattle.typesystem.specs.ClassTable.{Context, class_named, fields_of, meaning_type}
use Rattle.typing.specs.laws.Chains.{Acyclic}
use Rattle.semantics.specs.Machine.{Value, Value.number, Value.thousandths, Value.flag, Value.null, Value.array_at, Value.object_at}
use Rattle.semantics.specs.Machine.{Cell, Cell.object, Cell.array, Cell.slot, Call, Call.frame, Core, Core.core, initial}
use Rattle.semantics.specs.Machine.{Request, Request.allocate, Request.stuck}
use Rattle.semantics.specs.Machine.{Task, Task.evaluate, Task.execute, Task.operand, Task.operate, Task.confirm, Task.negate, Task.index}
use Rattle.semantics.specs.Machine.{Task.fetch, Task.measure, Task.make_array_lem, Task.make_object_lem, Task.invoke, Task.branch, Task.decide}
use Rattle.semantics.specs.Machine.{Task.again, Task.show, Task.store, Task.new_element, Task.store_element_lem, Task.read_register, Task.new_byte}
use Rattle.semantics.specs.Machine.{Task.write_register, Task.continue, Task.perform, Task.leave}
use Rattle.semantics.specs.Machine.{need, require, pop, pop_many, as_flag, as_object, as_object_cell, innermost, read_meaning, read_name}
use Rattle.semantics.specs.Machine.{of_kind, write_meaning, write_name, is_and, begin, begin_statement, second, call_method}
use Rattle.semantics.specs.Machine.{next_argument, next_statement, next_of_body, new_object_of, go, plan}
use Rattle.typesystem.specs.laws.Lookups.{named-kept}
use Rattle.appended.proofs.laws.Tables.{AtLeast, at-least-none, at-least-same, search-kept, meaning-kept, fields-kept}

-- the same request, where the first is not stuck
pub data ◌≼◌ : Request Core → Request Core → Type 0 where
  was-stuck : {r : Request Core} → stuck ≼ r
  alike : {r : Request Core} → r ≼ r

infix 40 ◌≼◌
-- TAKING APART

need-kept : {A : Type 0} {o p : Option A} (k : A → Request Core) → AtLeast o p → need o k ≼ need p k
need-kept k at-least-none = was-stuck
need-kept k at-least-same = alike

same-need : {A : Type 0} (o : Option A) {j k : A → Request Core} → ((a : A) → j a ≼ k a) → need o j ≼ need o k
same-need none f = was-stuck
same-need (some a) f = f a

same-pop : (vs : List Value) {j k : Value → List Value → Request Core} → ((v : Value) (ws : List Value) → j v ws ≼ k v ws)
    → pop vs j ≼ pop vs k
same-pop [] f = was-stuck
same-pop (v ∷ vs) f = f v vs

same-pops : (n : ℕ) (got vs : List Value) {j k : List Value → List Value → Request Core} → ((xs ws : List Value) → j xs ws ≼ k xs ws)
    → pop_many n got vs j ≼ pop_many n got vs k
same-pops zero got vs f = f got vs
same-pops (suc n) got [] f = was-stuck
same-pops (suc n) got (v ∷ vs) f = same-pops n (v ∷ got) vs f

same_flag : (v : Value) {j k : Bool → Request Core} → ((b : Bool) → j b ≼ k b) → as_flag v j ≼ as_flag v k
same_flag (number n) f = was-stuck
same_flag (thousandths n) f = was-stuck
same_flag (flag b) f = f b
same_flag null f = was-stuck
same_flag (array_at a) f = was-stuck
same_flag (object_at a) f = was-stuck

same_object : (p : Place) (v : Value) {j k : ℕ → Request Core} → ((a : ℕ) → j a ≼ k a) → as_object p v j ≼ as_object p v k
same_object p (number n) f = was-stuck
same_object p (thousandths n) f = was-stuck
same_object p (flag b) f = was-stuck
same_object p null f = alike
same_object p (array_at a) f = was-stuck
same_object p (object_at a) f = f a

same-object-cell : (x : Cell) {j k : List ℕ → Request Core} → ((c : List ℕ) → j c ≼ k c) → as_object_cell x j ≼ as_object_cell x k
same-object-cell (object c) f = f c
same-object-cell (array t n) f = was-stuck
same-object-cell (slot v) f = was-stuck

same-innermost : (cs : List Call) {j k : ℕ → Context → List Value → List Call → Request Core}
    → ((a : ℕ) (Γ : Context) (xs : List Value) (ds : List Call) → j a Γ xs ds ≼ k a Γ xs ds) → innermost cs j ≼ innermost cs k
same-innermost [] f = was-stuck
same-innermost (frame a Γ xs ∷ cs) f = f a Γ xs cs

same-choice : (b : Bool) (w x y z : Unit {0} → Request Core) → w tt ≼ y tt → x tt ≼ z tt → (if b then w otherwise x) ≼ (if b then y otherwise z)
same-choice true w x y z f g = f
same-choice false w x y z f g = g

-- THE MACHINE

module _ (G H : List Class) (A : Acyclic G) where
  read_kept : (cs : List Call) (h : List Cell) (x : List ℕ) (k : Value → Request Core) → read_name G cs h x k ≼ read_name (G ++ H) cs h x k
  unfolding read_name
  read_kept cs h x k = same-innermost cs (λ a Γ xs ds. need-kept (λ m. read_meaning a xs h m k) (meaning-kept G H A Γ x))

  write_kept : (cs : List Call) (h : List Cell) (x : List ℕ) (v : Value) (k : List Call → List Cell → Request Core)
      → write_name G cs h x v k ≼ write_name (G ++ H) cs h x v k
  unfolding write_name
  write_kept cs h x v k =
      same-innermost cs (λ a Γ xs ds.
      need-kept (λ m. require (of_kind (meaning_type m) v) λ _. write_meaning a Γ xs ds h m v k) (meaning-kept G H A Γ x))

  begin-kept : (e : Expression) (ts : List Task) (vs : List Value) (cs : List Call) (h : List Cell)
      → begin G e ts vs cs h ≼ begin (G ++ H) e ts vs cs h
  unfolding begin
  begin-kept (literal p n) ts vs cs h = alike
  begin-kept (truth p b) ts vs cs h = alike
  begin-kept (variable p x) ts vs cs h = read_kept cs h x _
  begin-kept (this p) ts vs cs h = alike
  begin-kept (new_array_lem p u e) ts vs cs h = alike
  begin-kept (new_object_lem p c) ts vs cs h = alike
  begin-kept (negation p e) ts vs cs h = alike
  begin-kept (binary p o l r) ts vs cs h = alike
  begin-kept (element p a i) ts vs cs h = alike
  begin-kept (array_length p a) ts vs cs h = alike
  begin-kept (call p e m es) ts vs cs h = alike
  begin-kept (port_get_lem p e) ts vs cs h = alike

  statement-kept : (s : Statement) (ts : List Task) (vs : List Value) (cs : List Call) (h : List Cell)
      → begin_statement G s ts vs cs h ≼ begin_statement (G ++ H) s ts vs cs h
  unfolding begin_statement
  statement-kept (block p ss) ts vs cs h = alike
  statement-kept (conditional p e s t) ts vs cs h = alike
  statement-kept (loop p e s) ts vs cs h = alike
  statement-kept (print p e) ts vs cs h = alike
  statement-kept (assign p x e) ts vs cs h = alike
  statement-kept (assign_element_lem p x i e) ts vs cs h = read_kept cs h x _
  statement-kept (port_put_lem p n e) ts vs cs h = alike

  second-kept : (o : Operator) (l r : Expression) (ts : List Task) (vs : List Value) (cs : List Call) (h : List Cell)
      → second G o l r ts vs cs h ≼ second (G ++ H) o l r ts vs cs h
  unfolding second
  second-kept o l r ts vs cs h =
      same-choice (is_and o) _ _ _ _
      (same-pop vs (λ x ws. same_flag x (λ b. same-choice b _ _ _ _ (begin-kept r _ ws cs h) alike))) (begin-kept r _ vs cs h)

  call_kept : (p : Place) (m : List ℕ) (given : List Value) (x : Value) (ts : List Task) (vs : List Value) (cs : List Call) (h : List Cell)
      → call_method G p m given x ts vs cs h ≼ call_method (G ++ H) p m given x ts vs cs h
  unfolding call_method
  call_kept p m given x ts vs cs h =
      same_object p x (λ a. same-need (get_elem? h a) (λ cell. same-object-cell cell (λ c. need-kept _ (search-kept G H A c m))))

  argument-kept : (p : Place) (m : List ℕ) (n : ℕ) (es : Part arguments) (ts : List Task) (vs : List Value) (cs : List Call) (h : List Cell)
      → next_argument G p m n es ts vs cs h ≼ next_argument (G ++ H) p m n es ts vs cs h
  unfolding next_argument
  argument-kept p m n no_arguments ts vs cs h =
      same-pops n [] vs (λ given ws. same-pop ws (λ x us. call_kept p m given x ts us cs h))
  argument-kept p m n (argument e es) ts vs cs h = begin-kept e _ vs cs h

  object-kept : (p : Place) (c : List ℕ) (ts : List Task) (vs : List Value) (cs : List Call) (h : List Cell)
      → new_object_of G p c ts vs cs h ≼ new_object_of (G ++ H) p c ts vs cs h
  unfolding new_object_of
  object-kept p c ts vs cs h = by (class_named G c) refl
    where
      made : List Variable → Request Core
      made fs =
          allocate p.start (length h + 1 + length fs) λ _.
          core ts (object_at (length h) ∷ vs) cs (h ++ object c ∷ map (λ v. slot (initial v.type.type)) fs)

      by : (o : Option Class) → class_named G c ≡ o
          → need o (λ _. made (fields_of G c)) ≼ need (class_named (G ++ H) c) (λ _. made (fields_of (G ++ H) c))
      by none e = was-stuck
      by (some k) e = rw (named-kept G H c e, fields-kept G H A c e) alike

  go-kept : (t : Task) (ts : List Task) (vs : List Value) (cs : List Call) (h : List Cell) → go G t ts vs cs h ≼ go (G ++ H) t ts vs cs h
  unfolding go next_statement next_of_body
  go-kept (evaluate e) ts vs cs h = begin-kept e ts vs cs h
  go-kept (execute s) ts vs cs h = statement-kept s ts vs cs h
  go-kept (operand o l r) ts vs cs h = second-kept o l r ts vs cs h
  go-kept (operate o l) ts vs cs h = alike
  go-kept confirm ts vs cs h = alike
  go-kept negate ts vs cs h = alike
  go-kept (index p i) ts vs cs h = begin-kept i _ vs cs h
  go-kept (fetch p) ts vs cs h = alike
  go-kept (measure p) ts vs cs h = alike
  go-kept (make_array_lem p t) ts vs cs h = alike
  go-kept (make_object_lem p c) ts vs cs h = object-kept p c ts vs cs h
  go-kept (invoke p m n es) ts vs cs h = argument-kept p m n es ts vs cs h
  go-kept (branch s t) ts vs cs h =
      same-pop vs (λ x ws. same_flag x (λ b. same-choice b _ _ _ _ (statement-kept s ts ws cs h) (statement-kept t ts ws cs h)))
  go-kept (decide e s) ts vs cs h = same-pop vs (λ x ws. same_flag x (λ b. same-choice b _ _ _ _ (statement-kept s _ ws cs h) alike))
  go-kept (again e s) ts vs cs h = begin-kept e _ vs cs h
  go-kept (show p) ts vs cs h = alike
  go-kept (store x) ts vs cs h = same-pop vs (λ v ws. write_kept cs h x v _)
  go-kept (new_element p e) ts vs cs h = begin-kept e _ vs cs h
  go-kept (store_element_lem p) ts vs cs h = alike
  go-kept (read_register p) ts vs cs h = alike
  go-kept (new_byte p e) ts vs cs h = begin-kept e _ vs cs h
  go-kept (write_register p) ts vs cs h = alike
  go-kept (continue no_statements) ts vs cs h = alike
  go-kept (continue (sequence s ss)) ts vs cs h = statement-kept s _ vs cs h
  go-kept (perform no_statements e t) ts vs cs h = begin-kept e _ vs cs h
  go-kept (perform (sequence s ss) e t) ts vs cs h = statement-kept s _ vs cs h
  go-kept (leave t) ts vs cs h = alike

  pub plan-kept : (c : Core) → plan G c ≼ plan (G ++ H) c
  unfolding plan
  plan-kept (core [] vs cs h) = alike
  plan-kept (core (t ∷ ts) vs cs h) = go-kept t ts vs cs h
