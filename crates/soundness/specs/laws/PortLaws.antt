-- A program without `Port` never asks for the device: no task of its states is of such a node, since the bodies that calls open have none.
-- So two runs of it with other tapes stay in step.
use Prim.Native.Nat.{ℕ, zero, suc, ◌+◌, ◌*◌, ◌^◌}
use Rattle.std.specs.Prelude.{Bool, true, false, ◌≡◌, length, ltb, leb, ℤ}
use mathlib.Core.List.{List, [], ◌∷◌, ◌++◌}
use Rattle.std.proofs.Math.Option.{Option, none, some, some-injective}
use Rattle.std.proofs.Common.{arith, ap}
use Rattle.std.proofs.Math.Path.{refl, subst}
use Rattle.std.proofs.Math.ListN.{get_elem?}
use Rattle.base.specs.All.{All, all_nil, all_cons}
use Rattle.base.specs.Choice.{option}
use Rattle.base.specs.Codes.{index_out_of_range, budget_spent, heap_full, calls_full, output_full}
use Rattle.parser.specs.Tree.{Name, Expression, Statement, Ty.plain, Method, Class, Program}
use Rattle.parser.specs.Tree.{Part.literal, Part.truth, Part.variable, Part.this, Part.new_array_lem, Part.new_object_lem, Part.negation, Part.binary}
use Rattle.parser.specs.Tree.{Part.element, Part.array_length, Part.call, Part.port_get_lem, Part.no_arguments, Part.argument}
use Rattle.parser.specs.Tree.{Part.block, Part.conditional, Part.loop, Part.print, Part.assign, Part.assign_element_lem, Part.port_put_lem}
use Rattle.parser.specs.Tree.{Part.no_statements, Part.sequence}
use Rattle.typesystem.specs.ClassTable.{Found, class_named, method_named_lem, chain_within, chain}
use Rattle.typing.specs.laws.Choices.{none-some}
use Rattle.typing.specs.laws.Chains.{all-classes}
use Rattle.typing.specs.laws.ClassTableLaws.{all-methods}
use Rattle.semantics.specs.Machine.{Value, Cell, Call, Core, Core.core, Climbed, from_above}
use Rattle.semantics.specs.Machine.{Request, Request.charge, Request.allocate, Request.enter, Request.output, Request.receive, Request.send}
use Rattle.semantics.specs.Machine.{Request.move, Request.fault, Request.done, Request.stuck}
use Rattle.semantics.specs.Machine.{Task, Task.evaluate, Task.execute, Task.operand, Task.operate, Task.confirm, Task.negate, Task.index}
use Rattle.semantics.specs.Machine.{Task.fetch, Task.measure, Task.make_array_lem, Task.make_object_lem, Task.invoke, Task.branch, Task.decide}
use Rattle.semantics.specs.Machine.{Task.again, Task.show, Task.store, Task.new_element, Task.store_element_lem, Task.read_register, Task.new_byte}
use Rattle.semantics.specs.Machine.{Task.write_register, Task.continue, Task.perform, Task.leave}
use Rattle.semantics.specs.Machine.{search, of_kind, of_kinds, is_and, begin, begin_statement, second, call_method, next_argument}
use Rattle.semantics.specs.Machine.{next_statement, next_of_body, new_array_of, new_object_of, go, plan, start}
use Rattle.semantics.specs.Limits.{Limits, Meters, charged, called, shown, Progress, next, stop, within, guard, report, size_of, after, run_with}
use Rattle.semantics.specs.Limits.{run}
use Rattle.soundness.specs.Portless.{NoPort, MethodWithout, Portless, SameButRegisters}
use Rattle.soundness.specs.laws.Continuations.{Closed, need-by, require-by, pop-by, pop_many-by, number_by, printed-by, operated-by, flag_by}
use Rattle.soundness.specs.laws.Continuations.{array-by, object-by, object-cell-by, choice-by, innermost-by, cell-by, array-at-by, under-bound-by, read_by}
use Rattle.soundness.specs.laws.Continuations.{write-by}

-- ---- what a search finds

module _ (Q : Method → Type 0) where
  abbrev AllHave : List Class → Type 0
  AllHave ks = All (λ (k : Class). All Q k.methods) ks

  chain-all : (n : ℕ) (G : List Class) (c : List ℕ) → AllHave G → AllHave (chain_within n G c)
  unfolding chain_within
  chain-all zero G c h = all_nil
  chain-all (suc n) G c h = own (class_named G c) refl (λ d. chain-all n G d h)
    where
      upper : (o : Option Name) → ((d : List ℕ) → AllHave (chain_within n G d)) → AllHave (option o [] λ p. chain_within n G p.text)
      upper none f = all_nil
      upper (some p) f = f p.text

      own : (o : Option Class) → class_named G c ≡ o → ((d : List ℕ) → AllHave (chain_within n G d))
          → AllHave (option o [] λ k. k ∷ option k.parent [] λ p. chain_within n G p.text)
      own none e f = all_nil
      own (some k) e f = all_cons (all-classes c h e) (upper k.parent f)

  search-all : (ks : List Class) (m : List ℕ) {s : Climbed Found} → AllHave ks → search ks m ≡ some s → Q s.found.method
  unfolding search
  search-all [] m h e = absurd (none-some refl e)
  search-all (k ∷ ks) m {s} (all_cons x h) e = own (method_named_lem k.methods m) refl (λ u q. search-all ks m h q) e
    where
      beyond : (o : Option (Climbed Found)) → ((u : Climbed Found) → o ≡ some u → Q u.found.method)
          → (option o none λ c. some (from_above c)) ≡ some s → Q s.found.method
      beyond none f e = absurd (none-some refl e)
      beyond (some c) f e = subst (λ (y : Climbed Found). Q y.found.method) (some-injective (from_above c) s e) (f c refl)

      own : (o : Option Method) → method_named_lem k.methods m ≡ o → ((u : Climbed Found) → search ks m ≡ some u → Q u.found.method)
          → (option o (option (search ks m) none λ c. some (from_above c))
          λ x. some (record { found = record { owner = k.name.text; method = x }; visits = 1 })) ≡ some s
          → Q s.found.method
      own none q f e = beyond (search ks m) f e
      own (some y) q f e = subst (λ (z : Climbed Found). Q z.found.method) (some-injective _ s e) (all-methods m x q)

-- ---- states that never ask for the device

abbrev TaskWithout : Task → Type 0
TaskWithout (evaluate e) = NoPort e
TaskWithout (execute s) = NoPort s
TaskWithout (operand o l r) = NoPort r
TaskWithout (operate o l) = Unit {0}
TaskWithout confirm = Unit {0}
TaskWithout negate = Unit {0}
TaskWithout (index p i) = NoPort i
TaskWithout (fetch p) = Unit {0}
TaskWithout (measure p) = Unit {0}
TaskWithout (make_array_lem p t) = Unit {0}
TaskWithout (make_object_lem p c) = Unit {0}
TaskWithout (invoke p m n es) = NoPort es
TaskWithout (branch s t) = NoPort s × NoPort t
TaskWithout (decide e s) = NoPort e × NoPort s
TaskWithout (again e s) = NoPort e × NoPort s
TaskWithout (show p) = Unit {0}
TaskWithout (store x) = Unit {0}
TaskWithout (new_element p e) = NoPort e
TaskWithout (store_element_lem p) = Unit {0}
TaskWithout (read_register p) = ⊥
TaskWithout (new_byte p e) = ⊥
TaskWithout (write_register p) = ⊥
TaskWithout (continue ss) = NoPort ss
TaskWithout (perform ss e t) = NoPort ss × NoPort e
TaskWithout (leave t) = Unit {0}

abbrev TasksWithout : List Task → Type 0
TasksWithout [] = Unit {0}
TasksWithout (t ∷ ts) = TaskWithout t × TasksWithout ts

abbrev CoreWithout : Core → Type 0
CoreWithout (core ts vs cs h) = TasksWithout ts

abbrev AsksWithout : Request Core → Type 0
AsksWithout (charge p c) = CoreWithout c
AsksWithout (allocate p n c) = CoreWithout (c tt)
AsksWithout (enter p n k c) = CoreWithout c
AsksWithout (output p z c) = CoreWithout c
AsksWithout (receive n c) = ⊥
AsksWithout (send n v c) = ⊥
AsksWithout (move c) = CoreWithout c
AsksWithout (fault k p) = Unit {0}
AsksWithout done = Unit {0}
AsksWithout stuck = Unit {0}

closed : Closed AsksWithout
closed = record { at-stuck = tt; at-fault = λ k p. tt }

module _ (G : List Class) (M : All (λ (k : Class). All MethodWithout k.methods) G) where
  begin-without : (e : Expression) (ts : List Task) (vs : List Value) (cs : List Call) (h : List Cell) → NoPort e → TasksWithout ts
      → AsksWithout (begin G e ts vs cs h)
  unfolding begin
  begin-without (literal p n) ts vs cs h l f = f
  begin-without (truth p b) ts vs cs h l f = f
  begin-without (variable p x) ts vs cs h l f = read_by closed G cs h x _ (λ v. f)
  begin-without (this p) ts vs cs h l f = innermost-by closed cs _ (λ a Γ xs ds _. f)
  begin-without (new_array_lem p u e) ts vs cs h l f = (l, (tt, f))
  begin-without (new_object_lem p c) ts vs cs h l f = (tt, f)
  begin-without (negation p e) ts vs cs h l f = (l, (tt, f))
  begin-without (binary p o a b) ts vs cs h l f = (l.0, (l.1, f))
  begin-without (element p a i) ts vs cs h l f = (l.0, (l.1, f))
  begin-without (array_length p a) ts vs cs h l f = (l, (tt, f))
  begin-without (call p e m es) ts vs cs h l f = (l.0, (l.1, f))
  begin-without (port_get_lem p e) ts vs cs h l f = absurd l

  begin-statement-without : (s : Statement) (ts : List Task) (vs : List Value) (cs : List Call) (h : List Cell) → NoPort s → TasksWithout ts
      → AsksWithout (begin_statement G s ts vs cs h)
  unfolding begin_statement
  begin-statement-without (block p ss) ts vs cs h l f = (l, f)
  begin-statement-without (conditional p e s t) ts vs cs h l f = (l.0, ((l.1, l.2), f))
  begin-statement-without (loop p e s) ts vs cs h l f = (l.0, (l, f))
  begin-statement-without (print p e) ts vs cs h l f = (l, (tt, f))
  begin-statement-without (assign p x e) ts vs cs h l f = (l, (tt, f))
  begin-statement-without (assign_element_lem p x i e) ts vs cs h l f = read_by closed G cs h x _ (λ v. (l.0, (l.1, f)))
  begin-statement-without (port_put_lem p n e) ts vs cs h l f = absurd l

  task-without : (t : Task) (ts : List Task) (vs : List Value) (cs : List Call) (h : List Cell) → TaskWithout t → TasksWithout ts
      → AsksWithout (go G t ts vs cs h)
  unfolding go second call_method next_argument next_statement next_of_body new_array_of new_object_of chain
  task-without (evaluate e) ts vs cs h l f = begin-without e ts vs cs h l f
  task-without (execute s) ts vs cs h l f = begin-statement-without s ts vs cs h l f
  task-without (operand o a r) ts vs cs h l f =
      choice-by closed (is_and o) _ _
      (pop-by closed vs _ (λ x vs. flag_by closed x _ (λ b. choice-by closed b _ _ (begin-without r (confirm ∷ ts) vs cs h l (tt, f)) f)))
      (begin-without r (operate o a ∷ ts) vs cs h l (tt, f))
  task-without (operate o a) ts vs cs h l f =
      pop-by closed vs _ (λ y vs. pop-by closed vs _ (λ x vs. operated-by closed o x y _ (λ v. f)))
  task-without confirm ts vs cs h l f = pop-by closed vs _ (λ x vs. flag_by closed x _ (λ b. f))
  task-without negate ts vs cs h l f = pop-by closed vs _ (λ x vs. flag_by closed x _ (λ b. f))
  task-without (index p i) ts vs cs h l f = begin-without i (fetch p ∷ ts) vs cs h l (tt, f)
  task-without (fetch p) ts vs cs h l f =
      pop-by closed vs _ (λ y vs. pop-by closed vs _ (λ x vs. number_by closed y _ (λ i. array-by closed p x _ (λ a.
      array-at-by closed h a _ (λ t n. under-bound-by closed index_out_of_range p i n _ (cell-by closed h a i _ (λ v. f)))))))
  task-without (measure p) ts vs cs h l f =
      pop-by closed vs _ (λ x vs. array-by closed p x _ (λ a. array-at-by closed h a _ (λ t n. f)))
  task-without (make_array_lem p t) ts vs cs h l f =
      pop-by closed vs _ (λ x vs. number_by closed x _ (λ n. choice-by closed (ltb n (2 ^ 31)) _ _ f tt))
  task-without (make_object_lem p c) ts vs cs h l f = need-by closed (class_named G c) _ (λ _ _. f)
  task-without (invoke p m n no_arguments) ts vs cs h l f =
      pop_many-by closed n [] vs _ (λ given vs. pop-by closed vs _ (λ x vs. object-by closed p x _ (λ a. need-by closed (get_elem? h a) _ (λ o _.
      object-cell-by closed o _ (λ c. need-by closed (search (chain G c) m) _ (λ s e.
      let S = search-all MethodWithout (chain G c) m (chain-all MethodWithout (length G) G c M) e in
      require-by closed (of_kinds s.found.method.parameters given) _ ((S.body, S.value), f)))))))
  task-without (invoke p m n (argument e es)) ts vs cs h l f = begin-without e (invoke p m n es ∷ ts) vs cs h l.0 (l.1, f)
  task-without (branch s t) ts vs cs h l f =
      pop-by closed vs _ (λ x vs. flag_by closed x _ (λ b.
      choice-by closed b _ _ (begin-statement-without s ts vs cs h l.0 f) (begin-statement-without t ts vs cs h l.1 f)))
  task-without (decide e s) ts vs cs h l f =
      pop-by closed vs _ (λ x vs. flag_by closed x _ (λ b.
      choice-by closed b _ _ (begin-statement-without s (again e s ∷ ts) vs cs h l.1 (l, f)) f))
  task-without (again e s) ts vs cs h l f = begin-without e (decide e s ∷ ts) vs cs h l.0 (l, f)
  task-without (show p) ts vs cs h l f = pop-by closed vs _ (λ x vs. printed-by closed x _ (λ n. f))
  task-without (store x) ts vs cs h l f = pop-by closed vs _ (λ v vs. write-by closed G cs h x v _ (λ ds g _ _. f))
  task-without (new_element p e) ts vs cs h l f = begin-without e (store_element_lem p ∷ ts) vs cs h l (tt, f)
  task-without (store_element_lem p) ts vs cs h l f =
      pop-by closed vs _ (λ v vs. pop-by closed vs _ (λ y vs. pop-by closed vs _ (λ x vs. number_by closed y _ (λ i.
      array-by closed p x _ (λ a. array-at-by closed h a _ (λ t n. require-by closed (of_kind (plain t) v) _
      (under-bound-by closed index_out_of_range p i n _ (cell-by closed h a i _ (λ _. f)))))))))
  task-without (read_register p) ts vs cs h l f = absurd l
  task-without (new_byte p e) ts vs cs h l f = absurd l
  task-without (write_register p) ts vs cs h l f = absurd l
  task-without (continue no_statements) ts vs cs h l f = f
  task-without (continue (sequence s ss)) ts vs cs h l f = begin-statement-without s (continue ss ∷ ts) vs cs h l.0 (l.1, f)
  task-without (perform no_statements e t) ts vs cs h l f = begin-without e (leave t ∷ ts) vs cs h l.1 (tt, f)
  task-without (perform (sequence s ss) e t) ts vs cs h l f =
      begin-statement-without s (perform ss e t ∷ ts) vs cs h l.0.0 ((l.0.1, l.1), f)
  task-without (leave t) ts vs cs h l f =
      pop-by closed vs _ (λ v _. require-by closed (of_kind t v) _ (innermost-by closed cs _ (λ a Γ xs ds _. f)))

  plan-without : (c : Core) → CoreWithout c → AsksWithout (plan G c)
  unfolding plan
  plan-without (core [] vs cs h) f = tt
  plan-without (core (t ∷ ts) vs cs h) f = task-without t ts vs cs h f.0 f.1

-- ---- two runs in step

-- meters that differ in the device at the most
pub record Alike (m m' : Meters) : Type 0 where
  pub steps : m.steps ≡ m'.steps
  pub climbs : m.climbs ≡ m'.climbs
  pub printed : m.printed ≡ m'.printed

data InStep : Progress Core → Progress Core → Type 0 where
  both-next : {c : Core} {m m' : Meters} → CoreWithout c → Alike m m' → InStep (next c m) (next c m')
  both-stop : {e : _} → InStep (stop e) (stop e)

within_step : (b b' : Bool) (n p : ℕ) (c : Core) (m m' : Meters) → b ≡ b' → CoreWithout c → Alike m m'
    → InStep (within b n p λ _. next c m) (within b' n p λ _. next c m')
within_step true true n p c m m' e w a = both-next w a
within_step true false n p c m m' e w a = absurd (let z : ◌≡◌ {A = ℕ} 0 1 = cc in omega arith)
within_step false true n p c m m' e w a = absurd (let z : ◌≡◌ {A = ℕ} 0 1 = cc in omega arith)
within_step false false n p c m m' e w a = both-stop

guard-step : (L : Limits) (m m' : Meters) → Alike m m' → (r : Request Core) → AsksWithout r → InStep (guard L m r) (guard L m' r)
unfolding guard
guard-step L m m' a (charge p c) f =
    within_step (ltb m.steps L.budget) (ltb m'.steps L.budget) budget_spent p c (charged m) (charged m')
    (ap (λ (n : ℕ). ltb n L.budget) a.steps) f
    (record { steps = ap (λ (n : ℕ). n + 1) a.steps; climbs = a.climbs; printed = a.printed })
guard-step L m m' a (allocate p n c) f = within_step (leb n L.heap) (leb n L.heap) heap_full p (c tt) m m' refl f a
guard-step L m m' a (enter p n k c) f =
    within_step (leb n L.calls) (leb n L.calls) calls_full p c (called m k) (called m' k) refl f
    (record { steps = a.steps; climbs = ap (λ (n : ℕ). n + k) a.climbs; printed = a.printed })
guard-step L m m' a (output p z c) f =
    within_step (ltb (length m.printed) L.printed) (ltb (length m'.printed) L.printed) output_full p c (shown m z) (shown m' z)
    (ap (λ (o : List ℤ). ltb (length o) L.printed) a.printed) f
    (record { steps = a.steps; climbs = a.climbs; printed = ap (λ (o : List ℤ). o ++ z ∷ []) a.printed })
guard-step L m m' a (receive n c) f = absurd f
guard-step L m m' a (send n v c) f = absurd f
guard-step L m m' a (move c) f = both-next f a
guard-step L m m' a (fault k p) f = both-stop
guard-step L m m' a done f = both-stop
guard-step L m m' a stuck f = both-stop

ended-alike : {m m' : Meters} {e : _} {n : ℕ} → Alike m m' → SameButRegisters (report e n m) (report e n m')
ended-alike a = record { ending = refl; steps = a.steps; climbs = a.climbs; words = refl; printed = a.printed }

module _ (G : List Class) (M : All (λ (k : Class). All MethodWithout k.methods) G) (L : Limits) where
  in_step : (f : ℕ) (c : Core) {m m' : Meters} → CoreWithout c → Alike m m'
      → SameButRegisters (run_with (plan G) size_of L f c m) (run_with (plan G) size_of L f c m')
  unfolding run_with
  in_step zero c w a = ended-alike a
  in_step (suc f) c {m} {m'} w a = by (guard-step L m m' a (plan G c) (plan-without G M c w)) (λ d n n' v b. in_step f d v b)
    where
      by : {x y : Progress Core} → InStep x y → ((d : Core) (n n' : Meters) → CoreWithout d → Alike n n'
          → SameButRegisters (run_with (plan G) size_of L f d n) (run_with (plan G) size_of L f d n'))
          → SameButRegisters (after size_of (λ d n. run_with (plan G) size_of L f d n) c m x)
          (after size_of (λ d n. run_with (plan G) size_of L f d n) c m' y)
      by (both-next {c = d} {m = n} {m' = n'} v b) F = F d n n' v b
      by both-stop F = ended-alike a

pub never-asked : (p : Program) → Portless p → (L : Limits) (tape tape' : List ℕ) → SameButRegisters (run p L tape) (run p L tape')
unfolding run
never-asked p w L tape tape' =
    in_step p.classes w.classes L (4 * L.budget + 4) (start p) (w.main, tt) (record { steps = refl; climbs = refl; printed = refl })
