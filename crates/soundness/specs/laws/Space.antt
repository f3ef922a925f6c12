-- How much space a run takes. In each body at most one task waits for each level of the tree, and a task that waits keeps at most 32
-- values; so the lists of tasks and values of a reached state are bounded by the depth of the tree and the number of open calls, and
-- arrays of fixed size can hold them.
use Prim.Native.Nat.{ℕ, suc, pred, ◌+◌, ◌*◌, ◌-◌, ◌^◌, ◌≤◌, ◌<◌, max}
use Rattle.std.proofs.Common.{zero-add, sym, length-append, ltb-true, ltb-false, leb-true}
use native.Mathlib.Omega.{arith}
use mathlib.Core.List.{List, [], ◌∷◌, map, reverse_aux}
use Rattle.std.proofs.Math.Option.{Option, none, some}
use Rattle.std.specs.Prelude.{◌≡◌, refl, ltb, leb}
use Rattle.std.proofs.Math.Path.{ap, subst}
use Rattle.std.proofs.Math.ListN.{length, get_elem?, length-set}
use Rattle.std.proofs.lemmas.List.{length-map, length-replicate}
use Rattle.base.specs.Codes.{depth_most, variables_most, index_out_of_range, register_out_of_range, registers_count, value_out_of_range, byte_values}
use Rattle.base.specs.All.{All, all_nil, all_cons}
use Rattle.base.specs.laws.Lists.{all2-length}
use Rattle.device.specs.Device.{IsByte, got}
use Rattle.parser.specs.Tree.{Place, Sort, Part, Expression, Statement, Element.class, Ty, Ty.plain, Method, Class, Program}
use Rattle.parser.specs.Tree.{Sort.expression, Sort.arguments, Sort.statement, Sort.statements}
use Rattle.parser.specs.Tree.{Part.literal, Part.truth, Part.variable, Part.this, Part.new_array_lem, Part.new_object_lem, Part.negation, Part.binary, Part.element, Part.array_length, Part.call, Part.port_get_lem, Part.no_arguments, Part.argument}
use Rattle.parser.specs.Tree.{Part.block, Part.conditional, Part.loop, Part.print, Part.assign, Part.assign_element_lem, Part.port_put_lem, Part.no_statements, Part.sequence}
use Rattle.parser.specs.Measure.{least, deep_here, deep, methods_deep, classes_deep, program_deep}
use Rattle.typesystem.specs.ClassTable.{Found, Context, class_named, chain, method_of}
use Rattle.typesystem.specs.TypingRules.{ClassTyped, ProgramTyped, type_of}
use Rattle.typing.specs.laws.Choices.{by-test, taken}
use Rattle.typing.specs.laws.Members.{method_of-has}
use Rattle.typing.specs.laws.Programs.{table-acyclic}
use Rattle.typing.specs.laws.ClassTableLaws.{every-method, method-declares}
use Rattle.semantics.specs.Machine.{Value, Cell, Call, Core, Core.core, Request, Request.charge, Request.allocate, Request.enter, Request.output, Request.receive, Request.send, Request.move, Request.fault, Request.done, Request.stuck}
use Rattle.semantics.specs.Machine.{Task, Task.evaluate, Task.execute, Task.operand, Task.operate, Task.confirm, Task.negate, Task.index, Task.fetch, Task.measure, Task.make_array_lem, Task.make_object_lem, Task.invoke, Task.branch, Task.decide, Task.again, Task.show, Task.store, Task.new_element, Task.store_element_lem, Task.read_register, Task.new_byte, Task.write_register, Task.continue, Task.perform, Task.leave}
use Rattle.semantics.specs.Machine.{search, of_kind, of_kinds, is_and, begin, begin_statement, second, call_method, next_argument, next_statement, next_of_body, new_array_of, new_object_of, go, plan}
use Rattle.semantics.specs.Limits.{Limits, Meters, Progress, next, stop, guard, heap_of}
use Rattle.soundness.specs.laws.Search.{search-found}
use Rattle.soundness.specs.laws.Continuations.{Closed, need-by, require-by, pop-by, pop_many-by, number_by, printed-by, operated-by, flag_by, array-by, object-by, object-cell-by, choice-by, innermost-by, cell-by, array-at-by, under-bound-by, read_by, write-by}
use Rattle.soundness.specs.laws.StateTyping.{LiteralsFit, StateTyped, typed}
use Rattle.soundness.specs.laws.StateTyping.{TasksTyped, r-end, r-evaluate, r-execute, r-operand, r-operate, r-confirm, r-negate, r-index, r-fetch, r-measure, r-make-array, r-make-object, r-invoke, r-branch, r-decide, r-again, r-show, r-store, r-new-element, r-store-element, r-read-register, r-new-byte, r-write-register, r-continue, r-perform, r-leave}
use Rattle.soundness.specs.laws.Reachable.{Reach, reach-start, reach-next, reach-typed}

-- ---- levels

-- the levels below a node, or the levels of a list of nodes
abbrev pub below : {s : Sort} → Part s → ℕ
below (literal p n) = 0
below (truth p b) = 0
below (variable p x) = 0
below (this p) = 0
below (new_array_lem p u e) = 1 + below e
below (new_object_lem p c) = 0
below (negation p e) = 1 + below e
below (binary p o l r) = max (1 + below l) (1 + below r)
below (element p a i) = max (1 + below a) (1 + below i)
below (array_length p a) = 1 + below a
below (call p e m es) = max (1 + below e) (below es)
below (port_get_lem p e) = 1 + below e
below no_arguments = 0
below (argument e es) = max (1 + below e) (below es)
below (block p ss) = below ss
below (conditional p e s t) = max (1 + below e) (max (1 + below s) (1 + below t))
below (loop p e s) = max (1 + below e) (1 + below s)
below (print p e) = 1 + below e
below (assign p x e) = 1 + below e
below (assign_element_lem p x i e) = max (1 + below i) (1 + below e)
below (port_put_lem p n e) = max (1 + below n) (1 + below e)
below no_statements = 0
below (sequence s ss) = max (1 + below s) (below ss)

-- a node of depth d with n levels below it, or a list of nodes of depth d with n levels, that stays within depth 64
abbrev NotDeep : Sort → (d n : ℕ) → Type 0
NotDeep expression d n = d + n ≤ depth_most
NotDeep arguments d n = n ≤ depth_most + 1 - d
NotDeep statement d n = d + n ≤ depth_most
NotDeep statements d n = n ≤ depth_most + 1 - d

least-none : (a b : Option ℕ) → least a b ≡ none → (a ≡ none) × (b ≡ none)
least-none none b e = (refl, e)
least-none (some a) none e = absurd (let z : ◌≡◌ {A = ℕ} 0 1 = cc in omega arith)
least-none (some a) (some b) e = absurd (let z : ◌≡◌ {A = ℕ} 0 1 = cc in omega arith)

here-none : (d : ℕ) (p : Place) → deep_here d p ≡ none → d ≤ depth_most
here-none d p e =
    taken (ltb depth_most d) _ _ e (λ q h. absurd (let z : ◌≡◌ {A = ℕ} 0 1 = cc in omega arith)) (λ q h. ltb-false depth_most d q)

inner : (d : ℕ) (p : Place) (o : Option ℕ) → least (deep_here d p) o ≡ none → (d ≤ depth_most) × (o ≡ none)
inner d p o e = let h = least-none (deep_here d p) o e in (here-none d p h.0, h.1)

inner-both : (d : ℕ) (p : Place) (a b : Option ℕ) → least (deep_here d p) (least a b) ≡ none → (d ≤ depth_most) × (a ≡ none) × (b ≡ none)
inner-both d p a b e =
    let h = inner d p (least a b) e in
    let g = least-none a b h.1 in
    (h.0, g.0, g.1)

-- a node with one part, and with two
one_below : (d : ℕ) (p : Place) (n : ℕ) {o : Option ℕ} → least (deep_here d p) o ≡ none → (o ≡ none → d + 1 + n ≤ depth_most)
    → d + (1 + n) ≤ depth_most
one_below d p n {o} e f = omega (arith, f (inner d p o e).1)

two-below : (d : ℕ) (p : Place) (m n : ℕ) {a b : Option ℕ} → least (deep_here d p) (least a b) ≡ none → (a ≡ none → d + 1 + m ≤ depth_most)
    → (b ≡ none → d + 1 + n ≤ depth_most) → d + max (1 + m) (1 + n) ≤ depth_most
two-below d p m n {a} {b} e f g = let h = inner-both d p a b e in omega (arith, f h.1, g h.2)

not-deep : (d : ℕ) {s : Sort} (x : Part s) → deep d x ≡ none → NotDeep s d (below x)
unfolding deep
not-deep d (literal p n) e = omega (arith, here-none d p e)
not-deep d (truth p b) e = omega (arith, here-none d p e)
not-deep d (variable p x) e = omega (arith, here-none d p e)
not-deep d (this p) e = omega (arith, here-none d p e)
not-deep d (new_array_lem p u a) e = one_below d p (below a) e (not-deep (d + 1) a)
not-deep d (new_object_lem p c) e = omega (arith, here-none d p e)
not-deep d (negation p a) e = one_below d p (below a) e (not-deep (d + 1) a)
not-deep d (binary p o a b) e = two-below d p (below a) (below b) e (not-deep (d + 1) a) (not-deep (d + 1) b)
not-deep d (element p a b) e = two-below d p (below a) (below b) e (not-deep (d + 1) a) (not-deep (d + 1) b)
not-deep d (array_length p a) e = one_below d p (below a) e (not-deep (d + 1) a)
not-deep d (call p a m es) e =
    let h = inner-both d p (deep (d + 1) a) (deep (d + 1) es) e in
    omega (arith, not-deep (d + 1) a h.1, not-deep (d + 1) es h.2)
not-deep d (port_get_lem p a) e = one_below d p (below a) e (not-deep (d + 1) a)
not-deep d no_arguments e = omega arith
not-deep d (argument a es) e = let h = least-none (deep d a) (deep d es) e in omega (arith, not-deep d a h.0, not-deep d es h.1)
not-deep d (block p ss) e = let h = inner d p (deep (d + 1) ss) e in omega (arith, not-deep (d + 1) ss h.1)
not-deep d (conditional p a s t) e =
    let h = inner-both d p (deep (d + 1) a) (least (deep (d + 1) s) (deep (d + 1) t)) e in
    let g = least-none (deep (d + 1) s) (deep (d + 1) t) h.2 in
    omega (arith, not-deep (d + 1) a h.1, not-deep (d + 1) s g.0, not-deep (d + 1) t g.1)
not-deep d (loop p a s) e = two-below d p (below a) (below s) e (not-deep (d + 1) a) (not-deep (d + 1) s)
not-deep d (print p a) e = one_below d p (below a) e (not-deep (d + 1) a)
not-deep d (assign p x a) e = one_below d p (below a) e (not-deep (d + 1) a)
not-deep d (assign_element_lem p x a b) e = two-below d p (below a) (below b) e (not-deep (d + 1) a) (not-deep (d + 1) b)
not-deep d (port_put_lem p a b) e = two-below d p (below a) (below b) e (not-deep (d + 1) a) (not-deep (d + 1) b)
not-deep d no_statements e = omega arith
not-deep d (sequence s ss) e = let h = least-none (deep d s) (deep d ss) e in omega (arith, not-deep d s h.0, not-deep d ss h.1)

-- every body of the program stays within depth 64
pub record Shallow (m : Method) : Type 0 where
  pub body : below m.body ≤ depth_most
  pub value : below m.value < depth_most

methods-shallow : (ms : List Method) → methods_deep ms ≡ none → All Shallow ms
unfolding methods_deep
methods-shallow [] e = all_nil
methods-shallow (m ∷ ms) e =
    let h = least-none (deep 1 m.body) (least (deep 1 m.value) (methods_deep ms)) e in
    let g = least-none (deep 1 m.value) (methods_deep ms) h.1 in
    let b = not-deep 1 m.body h.0 in
    let v = not-deep 1 m.value g.0 in
    all_cons {x = m} (record { body = omega arith; value = omega arith }) (methods-shallow ms g.1)

classes-shallow : (ks : List Class) → classes_deep ks ≡ none → All (λ k. All Shallow k.methods) ks
unfolding classes_deep
classes-shallow [] e = all_nil
classes-shallow (k ∷ ks) e =
    let h = least-none (methods_deep k.methods) (classes_deep ks) e in
    all_cons (methods-shallow k.methods h.0) (classes-shallow ks h.1)

-- ---- tasks

-- the tasks that may come to stand in a task's place, less one
abbrev extra : Task → ℕ
extra (evaluate e) = below e
extra (execute s) = below s
extra (operand o l r) = 1 + below r
extra (operate o l) = 0
extra confirm = 0
extra negate = 0
extra (index p i) = 1 + below i
extra (fetch p) = 0
extra (measure p) = 0
extra (make_array_lem p t) = 0
extra (make_object_lem p c) = 0
extra (invoke p m n es) = below es
extra (branch s t) = max (1 + below s) (1 + below t)
extra (decide e s) = max (1 + below e) (1 + below s)
extra (again e s) = max (1 + below e) (1 + below s)
extra (show p) = 0
extra (store x) = 0
extra (new_element p e) = 1 + below e
extra (store_element_lem p) = 0
extra (read_register p) = 0
extra (new_byte p e) = 1 + below e
extra (write_register p) = 0
extra (continue ss) = below ss
extra (perform ss e t) = max (below ss) (1 + below e)
extra (leave t) = 0

-- the open calls once a task is done, of n at its beginning: a body ends with its call
abbrev pub calls : Task → ℕ → ℕ
calls (evaluate e) n = n
calls (execute s) n = n
calls (operand o l r) n = n
calls (operate o l) n = n
calls confirm n = n
calls negate n = n
calls (index p i) n = n
calls (fetch p) n = n
calls (measure p) n = n
calls (make_array_lem p t) n = n
calls (make_object_lem p c) n = n
calls (invoke p m k es) n = n
calls (branch s t) n = n
calls (decide e s) n = n
calls (again e s) n = n
calls (show p) n = n
calls (store x) n = n
calls (new_element p e) n = n
calls (store_element_lem p) n = n
calls (read_register p) n = n
calls (new_byte p e) n = n
calls (write_register p) n = n
calls (continue ss) n = n
calls (perform ss e t) n = pred n
calls (leave t) n = pred n

-- 64 tasks for main and for each of n open calls are enough
abbrev Fits : ℕ → List Task → Type 0
Fits n [] = Unit {0}
Fits n (t ∷ ts) = (extra t + length ts < depth_most * suc n) × Fits (calls t n) ts

-- at most n calls are open and the heap is at most w words long
abbrev FitsC : (n w : ℕ) → Core → Type 0
FitsC n w (core ts vs cs h) = (length cs ≤ n) × (length h ≤ w) × Fits (length cs) ts

abbrev FitsR : (n w : ℕ) → Request Core → Type 0
FitsR n w (charge p c) = FitsC n w c
FitsR n w (allocate p k c) = FitsC n k (c tt)
FitsR n w (enter p k v c) = FitsC k w c
FitsR n w (output p z c) = FitsC n w c
FitsR n w (receive i c) = (b : ℕ) → FitsC n w (c b)
FitsR n w (send i b c) = FitsC n w c
FitsR n w (move c) = FitsC n w c
FitsR n w (fault k p) = Unit {0}
FitsR n w done = Unit {0}
FitsR n w stuck = Unit {0}

module _ (n w : ℕ) (G : List Class) where
  closed : Closed (FitsR n w)
  closed = record { at-stuck = tt; at-fault = λ k p. tt }

  begin-fits : (e : Expression) (ts : List Task) (vs : List Value) (cs : List Call) (h : List Cell)
      → below e + length ts < depth_most * suc (length cs)
      → length cs ≤ n → length h ≤ w → Fits (length cs) ts → FitsR n w (begin G e ts vs cs h)
  unfolding begin
  begin-fits (literal p k) ts vs cs h l c d f = (c, d, f)
  begin-fits (truth p b) ts vs cs h l c d f = (c, d, f)
  begin-fits (variable p x) ts vs cs h l c d f = read_by closed G cs h x _ (λ v. (c, d, f))
  begin-fits (this p) ts vs cs h l c d f = innermost-by closed cs _ (λ a Γ xs ds _. (c, d, f))
  begin-fits (new_array_lem p u e) ts vs cs h l c d f = (c, d, (omega arith, (omega arith, f)))
  begin-fits (new_object_lem p k) ts vs cs h l c d f = (c, d, (omega arith, f))
  begin-fits (negation p e) ts vs cs h l c d f = (c, d, (omega arith, (omega arith, f)))
  begin-fits (binary p o a b) ts vs cs h l c d f = (c, d, (omega arith, (omega arith, f)))
  begin-fits (element p a i) ts vs cs h l c d f = (c, d, (omega arith, (omega arith, f)))
  begin-fits (array_length p a) ts vs cs h l c d f = (c, d, (omega arith, (omega arith, f)))
  begin-fits (call p e m es) ts vs cs h l c d f = (c, d, (omega arith, (omega arith, f)))
  begin-fits (port_get_lem p e) ts vs cs h l c d f = (c, d, (omega arith, (omega arith, f)))

  begin-statement-fits : (s : Statement) (ts : List Task) (vs : List Value) (cs : List Call) (h : List Cell)
      → below s + length ts < depth_most * suc (length cs)
      → length cs ≤ n → length h ≤ w → Fits (length cs) ts → FitsR n w (begin_statement G s ts vs cs h)
  unfolding begin_statement
  begin-statement-fits (block p ss) ts vs cs h l c d f = (c, d, (omega arith, f))
  begin-statement-fits (conditional p e s t) ts vs cs h l c d f = (c, d, (omega arith, (omega arith, f)))
  begin-statement-fits (loop p e s) ts vs cs h l c d f = (c, d, (omega arith, (omega arith, f)))
  begin-statement-fits (print p e) ts vs cs h l c d f = (c, d, (omega arith, (omega arith, f)))
  begin-statement-fits (assign p x e) ts vs cs h l c d f = (c, d, (omega arith, (omega arith, f)))
  begin-statement-fits (assign_element_lem p x i e) ts vs cs h l c d f = read_by closed G cs h x _ (λ v. (c, d, (omega arith, (omega arith, f))))
  begin-statement-fits (port_put_lem p k e) ts vs cs h l c d f = (c, d, (omega arith, (omega arith, f)))

  task-fits : ((c m : List ℕ) (F : Found) → method_of G c m ≡ some F → Shallow F.method)
      → (t : Task) (ts : List Task) (vs : List Value) (cs : List Call) (h : List Cell) → extra t + length ts < depth_most * suc (length cs)
      → length cs ≤ n → length h ≤ w → Fits (calls t (length cs)) ts → FitsR n w (go G t ts vs cs h)
  unfolding go second call_method next_argument next_statement next_of_body new_array_of new_object_of
  task-fits B (evaluate e) ts vs cs h l c d f = begin-fits e ts vs cs h l c d f
  task-fits B (execute s) ts vs cs h l c d f = begin-statement-fits s ts vs cs h l c d f
  task-fits B (operand o a r) ts vs cs h l c d f =
      choice-by closed (is_and o) _ _
      (pop-by closed vs _ (λ x vs. flag_by closed x _ (λ b. choice-by closed b _ _ (begin-fits r (confirm ∷ ts) vs cs h (omega arith) c d (omega arith, f)) (c, d, f))))
      (begin-fits r (operate o a ∷ ts) vs cs h (omega arith) c d (omega arith, f))
  task-fits B (operate o a) ts vs cs h l c d f =
      pop-by closed vs _ (λ y vs. pop-by closed vs _ (λ x vs. operated-by closed o x y _ (λ v. (c, d, f))))
  task-fits B confirm ts vs cs h l c d f = pop-by closed vs _ (λ x vs. flag_by closed x _ (λ b. (c, d, f)))
  task-fits B negate ts vs cs h l c d f = pop-by closed vs _ (λ x vs. flag_by closed x _ (λ b. (c, d, f)))
  task-fits B (index p i) ts vs cs h l c d f = begin-fits i (fetch p ∷ ts) vs cs h (omega arith) c d (omega arith, f)
  task-fits B (fetch p) ts vs cs h l c d f =
      pop-by closed vs _ (λ y vs. pop-by closed vs _ (λ x vs. number_by closed y _ (λ i. array-by closed p x _ (λ a.
      array-at-by closed h a _ (λ t n. under-bound-by closed index_out_of_range p i n _ (cell-by closed h a i _ (λ v. (c, d, f))))))))
  task-fits B (measure p) ts vs cs h l c d f =
      pop-by closed vs _ (λ x vs. array-by closed p x _ (λ a. array-at-by closed h a _ (λ t n. (c, d, f))))
  task-fits B (make_array_lem p t) ts vs cs h l c d f =
      pop-by closed vs _ (λ x vs. number_by closed x _ (λ k. choice-by closed (ltb k (2 ^ 31)) _ _ (c, simp (length-append, length-replicate) (omega arith), f) tt))
  task-fits B (make_object_lem p k) ts vs cs h l c d f =
      need-by closed (class_named G k) _ (λ _ _. (c, simp (length-append, length-map) (omega arith), f))
  task-fits B (invoke p m k no_arguments) ts vs cs h l c d f =
      pop_many-by closed k [] vs _ (λ given vs. pop-by closed vs _ (λ x vs. object-by closed p x _ (λ a. need-by closed (get_elem? h a) _ (λ o _.
      object-cell-by closed o _ (λ b. need-by closed (search (chain G b) m) _ (λ s e. let S = B b m s.found (search-found G b m e) in
      require-by closed (of_kinds s.found.method.parameters given) _ (omega arith, d, (omega (arith, S.body, S.value), f))))))))
  task-fits B (invoke p m k (argument e es)) ts vs cs h l c d f =
      begin-fits e (invoke p m k es ∷ ts) vs cs h (omega arith) c d (omega arith, f)
  task-fits B (branch s t) ts vs cs h l c d f =
      pop-by closed vs _ (λ x vs. flag_by closed x _ (λ b.
      choice-by closed b _ _ (begin-statement-fits s ts vs cs h (omega arith) c d f) (begin-statement-fits t ts vs cs h (omega arith) c d f)))
  task-fits B (decide e s) ts vs cs h l c d f =
      pop-by closed vs _ (λ x vs. flag_by closed x _ (λ b.
      choice-by closed b _ _ (begin-statement-fits s (again e s ∷ ts) vs cs h (omega arith) c d (omega arith, f)) (c, d, f)))
  task-fits B (again e s) ts vs cs h l c d f = begin-fits e (decide e s ∷ ts) vs cs h (omega arith) c d (omega arith, f)
  task-fits B (show p) ts vs cs h l c d f = pop-by closed vs _ (λ x vs. printed-by closed x _ (λ k. (c, d, f)))
  task-fits B (store x) ts vs cs h l c d f =
      pop-by closed vs _ (λ v vs. write-by closed G cs h x v _ (λ ds g i j. (omega arith, omega arith, subst (λ (k : ℕ). Fits k ts) (sym i) f)))
  task-fits B (new_element p e) ts vs cs h l c d f = begin-fits e (store_element_lem p ∷ ts) vs cs h (omega arith) c d (omega arith, f)
  task-fits B (store_element_lem p) ts vs cs h l c d f =
      pop-by closed vs _ (λ v vs. pop-by closed vs _ (λ y vs. pop-by closed vs _ (λ x vs. number_by closed y _ (λ i.
      array-by closed p x _ (λ a. array-at-by closed h a _ (λ t n. require-by closed (of_kind (plain t) v) _
      (under-bound-by closed index_out_of_range p i n _ (cell-by closed h a i _ (λ _. (c, simp length-set (omega arith), f))))))))))
  task-fits B (read_register p) ts vs cs h l c d f =
      pop-by closed vs _ (λ x vs. number_by closed x _ (λ i. under-bound-by closed register_out_of_range p i registers_count _ (λ b. (c, d, f))))
  task-fits B (new_byte p e) ts vs cs h l c d f = begin-fits e (write_register p ∷ ts) vs cs h (omega arith) c d (omega arith, f)
  task-fits B (write_register p) ts vs cs h l c d f =
      pop-by closed vs _ (λ y vs. pop-by closed vs _ (λ x vs. number_by closed x _ (λ i. number_by closed y _ (λ b.
      under-bound-by closed register_out_of_range p i registers_count _ (under-bound-by closed value_out_of_range p b byte_values _ (c, d, f))))))
  task-fits B (continue no_statements) ts vs cs h l c d f = (c, d, f)
  task-fits B (continue (sequence s ss)) ts vs cs h l c d f =
      begin-statement-fits s (continue ss ∷ ts) vs cs h (omega arith) c d (omega arith, f)
  task-fits B (perform no_statements e t) ts vs cs h l c d f = begin-fits e (leave t ∷ ts) vs cs h (omega arith) c d (omega arith, f)
  task-fits B (perform (sequence s ss) e t) ts vs cs h l c d f =
      begin-statement-fits s (perform ss e t ∷ ts) vs cs h (omega arith) c d (omega arith, f)
  task-fits B (leave t) ts vs cs h l c d f =
      pop-by closed vs _ (λ v _. require-by closed (of_kind t v) _ (innermost-by closed cs _ (λ a Γ xs ds e.
      let i = ap length e in (omega arith, d, subst (λ (k : ℕ). Fits k ts) (ap pred i) f))))

  plan-fits : ((c m : List ℕ) (F : Found) → method_of G c m ≡ some F → Shallow F.method) → (c : Core) → FitsC n w c → FitsR n w (plan G c)
  unfolding plan
  plan-fits B (core [] vs cs h) f = tt
  plan-fits B (core (t ∷ ts) vs cs h) f = task-fits B t ts vs cs h f.2.0 f.0 f.1 f.2.1

-- the list is never longer than what fits
fits-length : (n : ℕ) (ts : List Task) → Fits n ts → length ts ≤ depth_most * (n + 1)
fits-length n [] f = omega arith
fits-length n (t ∷ ts) f = omega (arith, f.0)

-- ---- values

-- every task owns at most 32 of the values
values-fit : {G : List Class} {Γs : List Context} {us : List Ty} {ts : List Task} → All (ClassTyped G) G → TasksTyped G Γs us ts
    → length us ≤ variables_most * length ts
values-fit T r-end = omega arith
values-fit T (r-evaluate x l b R) = omega (arith, values-fit T R)
values-fit T (r-execute x l R) = omega (arith, values-fit T R)
values-fit T (r-operand q y x l b R) = omega (arith, values-fit T R)
values-fit T (r-operate q y n b R) = omega (arith, values-fit T R)
values-fit T (r-confirm b R) = omega (arith, values-fit T R)
values-fit T (r-negate b R) = omega (arith, values-fit T R)
values-fit T (r-index x l b R) = omega (arith, values-fit T R)
values-fit T (r-fetch b R) = omega (arith, values-fit T R)
values-fit T (r-measure b R) = omega (arith, values-fit T R)
values-fit T (r-make-array b R) = omega (arith, values-fit T R)
values-fit T (r-make-object e b R) = omega (arith, values-fit T R)
values-fit T (r-invoke {us = us} {c = c} {F = F} {vs = vs} qs f q l e i b R) =
    let w = (method-declares T f).typed.few in
    let j = ap length e in
    omega (arith, values-fit T R, length-append qs (plain (class c) ∷ us), length-reverse qs (map type_of vs), length-map F.method.parameters type_of, length-append F.method.parameters F.method.locals)
  where
    length-reverse : (ps rs : List Ty) → length (reverse_aux ps rs) ≡ length ps + length rs
    length-reverse [] rs = sym (zero-add (length rs))
    length-reverse (p ∷ ps) rs = let h = length-reverse ps (p ∷ rs) in omega arith
values-fit T (r-branch x l y m R) = omega (arith, values-fit T R)
values-fit T (r-decide x l y m R) = omega (arith, values-fit T R)
values-fit T (r-again x l y m R) = omega (arith, values-fit T R)
values-fit T (r-show q R) = omega (arith, values-fit T R)
values-fit T (r-store n R) = omega (arith, values-fit T R)
values-fit T (r-new-element x l b R) = omega (arith, values-fit T R)
values-fit T (r-store-element R) = omega (arith, values-fit T R)
values-fit T (r-read-register b R) = omega (arith, values-fit T R)
values-fit T (r-new-byte x l R) = omega (arith, values-fit T R)
values-fit T (r-write-register R) = omega (arith, values-fit T R)
values-fit T (r-continue q l R) = omega (arith, values-fit T R)
values-fit T (r-perform q l x m b c R) = omega (arith, values-fit T R)
values-fit T (r-leave b R) = omega (arith, values-fit T R)

-- ---- reached states

abbrev pub tasks_of : Core → List Task
tasks_of (core ts vs cs h) = ts

abbrev pub values_of : Core → List Value
values_of (core ts vs cs h) = vs

abbrev pub calls_of : Core → List Call
calls_of (core ts vs cs h) = cs

-- a state and its meters are within the limits; its tasks are at most 64 for main and for each open call, its values at most 32 for each
-- task
pub record Bounded (L : Limits) (c : Core) (m : Meters) : Type 0 where
  pub calls : length (calls_of c) ≤ L.calls
  pub heap : length (heap_of c) ≤ L.heap
  pub steps : m.steps ≤ L.budget
  pub printed : length m.printed ≤ L.printed
  pub tasks : length (tasks_of c) ≤ depth_most * (length (calls_of c) + 1)
  pub values : length (values_of c) ≤ variables_most * length (tasks_of c)

abbrev FitsM : Limits → Core → Meters → Type 0
FitsM L c m = FitsC L.calls L.heap c × (m.steps ≤ L.budget) × (length m.printed ≤ L.printed)

abbrev FitsO : Limits → Progress Core → Type 0
FitsO L (next c m) = FitsM L c m
FitsO L (stop e) = Unit {0}

guard-fits : (L : Limits) (m : Meters) (r : Request Core) → m.steps ≤ L.budget → length m.printed ≤ L.printed
    → FitsR L.calls L.heap r → FitsO L (guard L m r)
unfolding guard
guard-fits L m (charge p (core ts vs cs h)) i j f =
    by-test (FitsO L) (ltb m.steps L.budget) _ _ (λ e. (f, omega (arith, ltb-true m.steps L.budget e), j)) (λ _. tt)
guard-fits L m (allocate p n c) i j f =
    by-test (FitsO L) (leb n L.heap) _ _ (λ e. (heap-more (c tt) (leb-true n L.heap e) f, i, j)) (λ _. tt)
  where
    heap-more : (c : Core) {n : ℕ} → n ≤ L.heap → FitsC L.calls n c → FitsC L.calls L.heap c
    heap-more (core ts vs cs h) l f = (f.0, omega (arith, f.1), f.2)
guard-fits L m (enter p n k c) i j f =
    by-test (FitsO L) (leb n L.calls) _ _ (λ e. (calls-more c (leb-true n L.calls e) f, i, j)) (λ _. tt)
  where
    calls-more : (c : Core) {n : ℕ} → n ≤ L.calls → FitsC n L.heap c → FitsC L.calls L.heap c
    calls-more (core ts vs cs h) l f = (omega (arith, f.0), f.1, f.2)
guard-fits L m (output p z c) i j f =
    by-test (FitsO L) (ltb (length m.printed) L.printed) _ _
    (λ e. (f, i, omega (arith, length-append m.printed (z ∷ []), ltb-true (length m.printed) L.printed e))) (λ _. tt)
guard-fits L m (receive n c) i j f = (f (got n m.device), i, j)
guard-fits L m (send n b c) i j f = (f, i, j)
guard-fits L m (move c) i j f = (f, i, j)
guard-fits L m (fault k p) i j f = tt
guard-fits L m done i j f = tt
guard-fits L m stuck i j f = tt

module _ {p : Program} (P : ProgramTyped p) (F : LiteralsFit p) (D : program_deep p ≡ none) where
  main-shallow : (below p.statement < depth_most) × All (λ k. All Shallow k.methods) p.classes
  unfolding program_deep
  main-shallow =
      let h = least-none (deep 1 p.statement) (classes_deep p.classes) D in
      (omega (arith, not-deep 1 p.statement h.0), classes-shallow p.classes h.1)

  methods-found : (c m : List ℕ) (K : Found) → method_of p.classes c m ≡ some K → Shallow K.method
  methods-found c m K e = every-method main-shallow.1 (method_of-has (table-acyclic P.classes) c m e)

  reach-fits : {L : Limits} {tape : List ℕ} {c : Core} {m : Meters} → Reach p L tape c m → FitsM L c m
  reach-fits reach-start = ((omega arith, omega arith, (omega (arith, main-shallow.0), tt)), omega arith, omega arith)
  reach-fits {L} (reach-next {c = c} {m = m} r e) =
      let f = reach-fits r in
      subst (FitsO L) e (guard-fits L m (plan p.classes c) f.1 f.2 (plan-fits L.calls L.heap p.classes methods-found c f.0))

  pub reach-bounded : {L : Limits} {tape : List ℕ} {c : Core} {m : Meters} → All IsByte tape → Reach p L tape c m → Bounded L c m
  reach-bounded {c = core ts vs cs h} B r =
      let f = reach-fits r in
      record {
        calls = f.0.0;
        heap = f.0.1;
        steps = f.1;
        printed = f.2;
        tasks = fits-length (length cs) ts f.0.2;
        values = by-typing (reach-typed P F B r);
      }
    where
      by-typing : StateTyped p.classes (core ts vs cs h) → length vs ≤ variables_most * length ts
      by-typing (typed H C W R) = omega (arith, values-fit P.classes R, all2-length W)
