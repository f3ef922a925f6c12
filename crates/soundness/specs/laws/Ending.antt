-- Every run ends, of every program: each turn charges a step and adds at most three to the weight of the tasks, or takes some of that
-- weight away. The same turns say how calls wait and are opened.
use Rattle.std.specs.Prelude.{ℕ, zero, suc, ◌+◌, ◌-◌, ◌*◌, ◌^◌, ◌≤◌, ◌<◌, length, ltb, leb}
use native.Mathlib.Omega.{arith}
use mathlib.Core.List.{List, [], ◌∷◌}
use Rattle.std.proofs.Math.ListN.{get_elem?}
use Rattle.std.proofs.Common.{ltb-true}
use Rattle.base.specs.Codes.{index_out_of_range, register_out_of_range, registers_count, value_out_of_range, byte_values}
use Rattle.device.specs.Device.{got}
use Rattle.parser.specs.Tree.{Ty.plain, Expression, Statement, Class, Program}
use Rattle.parser.specs.Tree.{Part.literal, Part.truth, Part.variable, Part.this, Part.new_array_lem, Part.new_object_lem, Part.negation, Part.binary, Part.element, Part.array_length, Part.call, Part.port_get_lem, Part.no_arguments, Part.argument}
use Rattle.parser.specs.Tree.{Part.block, Part.conditional, Part.loop, Part.print, Part.assign, Part.assign_element_lem, Part.port_put_lem, Part.no_statements, Part.sequence}
use Rattle.typesystem.specs.ClassTable.{class_named, chain}
use Rattle.typing.specs.laws.Choices.{by-test}
use Rattle.semantics.specs.Machine.{Value, Cell, Call, Core, Core.core, Request, Request.charge, Request.allocate, Request.enter, Request.output, Request.receive, Request.send, Request.move, Request.fault, Request.done, Request.stuck}
use Rattle.semantics.specs.Machine.{Task, Task.evaluate, Task.execute, Task.operand, Task.operate, Task.confirm, Task.negate, Task.index, Task.fetch, Task.measure, Task.make_array_lem, Task.make_object_lem, Task.invoke, Task.branch, Task.decide, Task.again, Task.show, Task.store, Task.new_element, Task.store_element_lem, Task.read_register, Task.new_byte, Task.write_register, Task.continue, Task.perform, Task.leave}
use Rattle.semantics.specs.Machine.{search, of_kind, of_kinds, is_and, begin, begin_statement, second, call_method, next_argument, next_statement, next_of_body, new_array_of, new_object_of, go, plan, start}
use Rattle.semantics.specs.Limits.{Limits, Meters, begun, Progress, next, stop, guard, size_of, run_with, run}
use Rattle.soundness.specs.laws.Search.{search-few}
use Rattle.soundness.specs.laws.ResultLaws.{Over}
use Rattle.soundness.specs.laws.Continuations.{Closed, need-by, require-by, pop-by, pop_many-by, number_by, printed-by, operated-by, flag_by, array-by, object-by, object-cell-by, choice-by, innermost-by, cell-by, array-at-by, under-bound-by, read_by, write-by, after-by}

-- a call waits for its parts until it is opened
abbrev pub waits : Task → ℕ
waits (evaluate e) = 0
waits (execute s) = 0
waits (operand o l r) = 0
waits (operate o l) = 0
waits confirm = 0
waits negate = 0
waits (index p i) = 0
waits (fetch p) = 0
waits (measure p) = 0
waits (make_array_lem p t) = 0
waits (make_object_lem p c) = 0
waits (invoke p m n es) = 1
waits (branch s t) = 0
waits (decide e s) = 0
waits (again e s) = 0
waits (show p) = 0
waits (store x) = 0
waits (new_element p e) = 0
waits (store_element_lem p) = 0
waits (read_register p) = 0
waits (new_byte p e) = 0
waits (write_register p) = 0
waits (continue ss) = 0
waits (perform ss e t) = 0
waits (leave t) = 0

-- a call whose parts are done turns into the body of its method, so it weighs more
abbrev pub weight : Task → ℕ
weight t = 1 + waits t

abbrev pub load : List Task → ℕ
load [] = 0
load (t ∷ ts) = weight t + load ts

abbrev pub load_of : Core → ℕ
load_of (core ts vs cs h) = load ts

-- the calls that wait
abbrev pub waiting_calls : List Task → ℕ
waiting_calls [] = 0
waiting_calls (t ∷ ts) = waits t + waiting_calls ts

abbrev pub waiting_of : Core → ℕ
waiting_of (core ts vs cs h) = waiting_calls ts

-- a request that may be made where the tasks weigh w and v calls wait: a step may bring a call more, and a call that is opened waits no
-- longer and has visited at most all classes
abbrev pub Pays : List Class → (w v : ℕ) → Request Core → Type 0
Pays G w v (charge p c) = (load_of c ≤ w + 3) × (waiting_of c ≤ v + 1)
Pays G w v (allocate p n c) = (load_of (c tt) < w) × (waiting_of (c tt) ≤ v)
Pays G w v (enter p n k c) = (load_of c < w) × (waiting_of c < v) × (k ≤ length G)
Pays G w v (output p z c) = (load_of c < w) × (waiting_of c ≤ v)
Pays G w v (receive n c) = (b : ℕ) → (load_of (c b) < w) × (waiting_of (c b) ≤ v)
Pays G w v (send n b c) = (load_of c < w) × (waiting_of c ≤ v)
Pays G w v (move c) = (load_of c < w) × (waiting_of c ≤ v)
Pays G w v (fault k p) = Unit {0}
Pays G w v done = Unit {0}
Pays G w v stuck = Unit {0}

module _ (G : List Class) (w v : ℕ) where
  closed : Closed (Pays G w v)
  closed = record { at-stuck = tt; at-fault = λ k p. tt }

  begin-pays : (e : Expression) (ts : List Task) (vs : List Value) (cs : List Call) (h : List Cell) → load ts ≤ w → waiting_calls ts ≤ v
      → Pays G w v (begin G e ts vs cs h)
  unfolding begin
  begin-pays (literal p n) ts vs cs h l j = (omega arith, omega arith)
  begin-pays (truth p b) ts vs cs h l j = (omega arith, omega arith)
  begin-pays (variable p x) ts vs cs h l j = read_by closed G cs h x _ (λ v. (omega arith, omega arith))
  begin-pays (this p) ts vs cs h l j = innermost-by closed cs _ (λ a Γ xs ds _. (omega arith, omega arith))
  begin-pays (new_array_lem p u e) ts vs cs h l j = (omega arith, omega arith)
  begin-pays (new_object_lem p c) ts vs cs h l j = (omega arith, omega arith)
  begin-pays (negation p e) ts vs cs h l j = (omega arith, omega arith)
  begin-pays (binary p o a b) ts vs cs h l j = (omega arith, omega arith)
  begin-pays (element p a i) ts vs cs h l j = (omega arith, omega arith)
  begin-pays (array_length p a) ts vs cs h l j = (omega arith, omega arith)
  begin-pays (call p e m es) ts vs cs h l j = (omega arith, omega arith)
  begin-pays (port_get_lem p e) ts vs cs h l j = (omega arith, omega arith)

  begin-statement-pays : (s : Statement) (ts : List Task) (vs : List Value) (cs : List Call) (h : List Cell) → load ts ≤ w + 1
      → waiting_calls ts ≤ v
      → Pays G w v (begin_statement G s ts vs cs h)
  unfolding begin_statement
  begin-statement-pays (block p ss) ts vs cs h l j = (omega arith, omega arith)
  begin-statement-pays (conditional p e s t) ts vs cs h l j = (omega arith, omega arith)
  begin-statement-pays (loop p e s) ts vs cs h l j = (omega arith, omega arith)
  begin-statement-pays (print p e) ts vs cs h l j = (omega arith, omega arith)
  begin-statement-pays (assign p x e) ts vs cs h l j = (omega arith, omega arith)
  begin-statement-pays (assign_element_lem p x i e) ts vs cs h l j = read_by closed G cs h x _ (λ v. (omega arith, omega arith))
  begin-statement-pays (port_put_lem p n e) ts vs cs h l j = (omega arith, omega arith)

  task-pays : (t : Task) (ts : List Task) (vs : List Value) (cs : List Call) (h : List Cell) → weight t + load ts ≤ w
      → waits t + waiting_calls ts ≤ v → Pays G w v (go G t ts vs cs h)
  unfolding go second call_method next_argument next_statement next_of_body new_array_of new_object_of
  task-pays (evaluate e) ts vs cs h l j = begin-pays e ts vs cs h (omega arith) (omega arith)
  task-pays (execute s) ts vs cs h l j = begin-statement-pays s ts vs cs h (omega arith) (omega arith)
  task-pays (operand o a r) ts vs cs h l j =
      choice-by closed (is_and o) _ _
      (pop-by closed vs _ (λ x vs. flag_by closed x _ (λ b. choice-by closed b _ _ (begin-pays r (confirm ∷ ts) vs cs h l j) (omega arith, omega arith))))
      (begin-pays r (operate o a ∷ ts) vs cs h l j)
  task-pays (operate o a) ts vs cs h l j =
      pop-by closed vs _ (λ y vs. pop-by closed vs _ (λ x vs. operated-by closed o x y _ (λ v. (omega arith, omega arith))))
  task-pays confirm ts vs cs h l j = pop-by closed vs _ (λ x vs. flag_by closed x _ (λ b. (omega arith, omega arith)))
  task-pays negate ts vs cs h l j = pop-by closed vs _ (λ x vs. flag_by closed x _ (λ b. (omega arith, omega arith)))
  task-pays (index p i) ts vs cs h l j = begin-pays i (fetch p ∷ ts) vs cs h l j
  task-pays (fetch p) ts vs cs h l j =
      pop-by closed vs _ (λ y vs. pop-by closed vs _ (λ x vs. number_by closed y _ (λ i. array-by closed p x _ (λ a.
      array-at-by closed h a _ (λ t n. under-bound-by closed index_out_of_range p i n _ (cell-by closed h a i _ (λ v. (omega arith, omega arith))))))))
  task-pays (measure p) ts vs cs h l j =
      pop-by closed vs _ (λ x vs. array-by closed p x _ (λ a. array-at-by closed h a _ (λ t n. (omega arith, omega arith))))
  task-pays (make_array_lem p t) ts vs cs h l j =
      pop-by closed vs _ (λ x vs. number_by closed x _ (λ n. choice-by closed (ltb n (2 ^ 31)) _ _ (omega arith, omega arith) tt))
  task-pays (make_object_lem p c) ts vs cs h l j = need-by closed (class_named G c) _ (λ k _. (omega arith, omega arith))
  task-pays (invoke p m n no_arguments) ts vs cs h l j =
      pop_many-by closed n [] vs _ (λ given vs. pop-by closed vs _ (λ x vs. object-by closed p x _ (λ a. need-by closed (get_elem? h a) _ (λ o _.
      object-cell-by closed o _ (λ c. need-by closed (search (chain G c) m) _ (λ s q.
      require-by closed (of_kinds s.found.method.parameters given) _ (omega arith, omega arith, search-few G c m q)))))))
  task-pays (invoke p m n (argument e es)) ts vs cs h l j = begin-pays e (invoke p m n es ∷ ts) vs cs h l j
  task-pays (branch s t) ts vs cs h l j =
      pop-by closed vs _ (λ x vs. flag_by closed x _ (λ b.
      choice-by closed b _ _ (begin-statement-pays s ts vs cs h (omega arith) (omega arith)) (begin-statement-pays t ts vs cs h (omega arith) (omega arith))))
  task-pays (decide e s) ts vs cs h l j =
      pop-by closed vs _ (λ x vs. flag_by closed x _ (λ b. choice-by closed b _ _ (begin-statement-pays s (again e s ∷ ts) vs cs h (omega arith) (omega arith)) (omega arith, omega arith)))
  task-pays (again e s) ts vs cs h l j = begin-pays e (decide e s ∷ ts) vs cs h l j
  task-pays (show p) ts vs cs h l j = pop-by closed vs _ (λ x vs. printed-by closed x _ (λ n. (omega arith, omega arith)))
  task-pays (store x) ts vs cs h l j = pop-by closed vs _ (λ v vs. write-by closed G cs h x v _ (λ ds g _ _. (omega arith, omega arith)))
  task-pays (new_element p e) ts vs cs h l j = begin-pays e (store_element_lem p ∷ ts) vs cs h l j
  task-pays (store_element_lem p) ts vs cs h l j =
      pop-by closed vs _ (λ v vs. pop-by closed vs _ (λ y vs. pop-by closed vs _ (λ x vs. number_by closed y _ (λ i.
      array-by closed p x _ (λ a. array-at-by closed h a _ (λ t n. require-by closed (of_kind (plain t) v) _
      (under-bound-by closed index_out_of_range p i n _ (cell-by closed h a i _ (λ _. (omega arith, omega arith))))))))))
  task-pays (read_register p) ts vs cs h l j =
      pop-by closed vs _ (λ x vs. number_by closed x _ (λ n.
      under-bound-by closed register_out_of_range p n registers_count _ (λ b. (omega arith, omega arith))))
  task-pays (new_byte p e) ts vs cs h l j = begin-pays e (write_register p ∷ ts) vs cs h l j
  task-pays (write_register p) ts vs cs h l j =
      pop-by closed vs _ (λ y vs. pop-by closed vs _ (λ x vs. number_by closed x _ (λ n. number_by closed y _ (λ b.
      under-bound-by closed register_out_of_range p n registers_count _ (under-bound-by closed value_out_of_range p b byte_values _ (omega arith, omega arith))))))
  task-pays (continue no_statements) ts vs cs h l j = (omega arith, omega arith)
  task-pays (continue (sequence s ss)) ts vs cs h l j = begin-statement-pays s (continue ss ∷ ts) vs cs h (omega arith) (omega arith)
  task-pays (perform no_statements e t) ts vs cs h l j = begin-pays e (leave t ∷ ts) vs cs h l j
  task-pays (perform (sequence s ss) e t) ts vs cs h l j = begin-statement-pays s (perform ss e t ∷ ts) vs cs h (omega arith) (omega arith)
  task-pays (leave t) ts vs cs h l j =
      pop-by closed vs _ (λ v _. require-by closed (of_kind t v) _ (innermost-by closed cs _ (λ a Γ xs ds _. (omega arith, omega arith))))

pub plan-pays : (G : List Class) (c : Core) → Pays G (load_of c) (waiting_of c) (plan G c)
unfolding plan
plan-pays G (core [] vs cs h) = tt
plan-pays G (core (t ∷ ts) vs cs h) = task-pays G (weight t + load ts) (waits t + waiting_calls ts) t ts vs cs h (omega arith) (omega arith)

-- the turns that are left at the most
abbrev pub turns_left : Limits → Core → Meters → ℕ
turns_left L c m = (L.budget - m.steps) * 4 + load_of c

-- an outcome after which fewer than n turns are left
abbrev pub Less : Limits → ℕ → Progress Core → Type 0
Less L n (next c m) = turns_left L c m < n
Less L n (stop e) = Over e

guard-less : (G : List Class) (L : Limits) (n : ℕ) (m : Meters) (c : Core) (r : Request Core) → Pays G (load_of c) (waiting_of c) r
    → turns_left L c m ≤ n → Less L n (guard L m r)
unfolding guard
guard-less G L n m c (charge p d) h l =
    by-test (Less L n) (ltb m.steps L.budget) _ _ (λ e. let q = ltb-true m.steps L.budget e in omega arith) (λ _. tt)
guard-less G L n m c (allocate p j d) h l = by-test (Less L n) (leb j L.heap) _ _ (λ _. omega arith) (λ _. tt)
guard-less G L n m c (enter p j k d) h l = by-test (Less L n) (leb j L.calls) _ _ (λ _. omega arith) (λ _. tt)
guard-less G L n m c (output p z d) h l = by-test (Less L n) (ltb (length m.printed) L.printed) _ _ (λ _. omega arith) (λ _. tt)
guard-less G L n m c (receive i d) h l = let q = h (got i m.device) in omega (arith, q)
guard-less G L n m c (send i b d) h l = omega arith
guard-less G L n m c (move d) h l = omega arith
guard-less G L n m c (fault k p) h l = tt
guard-less G L n m c done h l = tt
guard-less G L n m c stuck h l = tt

-- each turn takes from what is left
pub turn-less : (G : List Class) (L : Limits) (n : ℕ) (c : Core) (m : Meters) → turns_left L c m ≤ n → Less L n (guard L m (plan G c))
turn-less G L n c m h = guard-less G L n m c (plan G c) (plan-pays G c) h

pub runs-end : (f : ℕ) (G : List Class) (L : Limits) (c : Core) (m : Meters) → turns_left L c m < f
    → Over (run_with (plan G) size_of L f c m).ending
unfolding run_with
runs-end zero G L c m h = absurd (omega arith)
runs-end (suc f) G L c m h =
    after-by (Less L f) (λ r. Over r.ending) (λ d n. run_with (plan G) size_of L f d n) c m (λ d n l. runs-end f G L d n l) (λ e l. l) (guard L m (plan G c)) (turn-less G L f c m (omega arith))

pub run_ends : (p : Program) (L : Limits) (tape : List ℕ) → Over (run p L tape).ending
unfolding run
run_ends p L tape = runs-end (4 * L.budget + 4) p.classes L (start p) (begun tape) (omega arith)
