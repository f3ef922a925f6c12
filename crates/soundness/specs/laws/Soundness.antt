-- A typed state asks for a typed state, faults or is done: it is never stuck. So a typed program's run never goes wrong, under any limits.
use Prim.Native.Nat.{ℕ, zero, suc, ◌+◌, ◌*◌, ◌^◌, ◌<◌}
use Rattle.std.proofs.Common.{zero-add, true≢false, inl, inr, sym, ap, ◌∙◌, ltb-true}
use Rattle.std.proofs.Math.Nat.{add-zero}
use native.Mathlib.Omega.{arith}
use Rattle.std.specs.Prelude.{Bool, true, false, ◌⊎◌, ◌≡◌, length, set, ltb, leb}
use mathlib.Core.List.{List, [], ◌∷◌, ◌++◌, map, map-append, reverse_aux}
use Rattle.std.proofs.Math.Option.{Option, some, some-injective}
use Rattle.std.proofs.Math.Path.{refl, subst}
use Rattle.std.proofs.Math.ListN.{get_elem?}
use Rattle.base.specs.Codes.{registers_count, byte_values}
use Rattle.device.specs.Device.{IsByte}
use Rattle.device.specs.laws.ByteLaws.{HoldsBytes, got-byte, reset-bytes, step-bytes, get-bytes, put-bytes}
use Rattle.base.specs.All.{All}
use Rattle.base.specs.laws.Lists.{All2, all2-nil, all2-cons, all2-append, all2-map, all2-at, all2-set, RelatedAt, get-map}
use Rattle.base.specs.laws.WordLaws.{add-below, sub-below, mul-below, scale-below}
use Rattle.parser.specs.Tree.{Place, Operator, Operator.and, Numeral, Numeral.int_literal, Numeral.fixed_literal, Part, Expression, Statement, Element, Element.int, Element.boolean, Element.class, Ty, Ty.plain, Ty.array_of, Variable, Method, Class, Program}
use Rattle.parser.specs.Tree.{Sort.arguments}
use Rattle.typesystem.specs.ClassTable.{Slot, Found, Context, numeral_type, meaning, meaning_type, class_named, variable_named, fields_of}
use Rattle.typesystem.specs.Judge.{arity}
use Rattle.typesystem.specs.TypingRules.{Sub, sub_same, sub_trans, HasMethod, HasName, of-variable, of_field, type_of, ClassTyped, Redeclares, ProgramTyped}
use Rattle.typesystem.specs.TypingRules.{HasType, t-literal, t-truth, t-variable, t-this, t-new-array, t-new-object, t-negation, t-binary, t-element, t-length, t_call, t-port-get, HaveTypes, t-none, t-more}
use Rattle.typesystem.specs.TypingRules.{IsTyped, t_block, t-if, t-while, t-print, t-assign, t-assign-element, t-port-put, t-end, t-sequence}
use Rattle.typing.specs.laws.Choices.{by-test, none-some}
use Rattle.typing.specs.laws.Chains.{known-found}
use Rattle.typing.specs.laws.Members.{Up, up-here, has-method_of, StandsAt, NameAt, in_row, in-object, name-at}
use Rattle.typing.specs.laws.Programs.{table-acyclic}
use Rattle.typing.specs.laws.ClassTableLaws.{stands_up, every-method, method-up, method-declares}
use Rattle.typing.specs.laws.Operations.{Numeric, numeric-int, numeric-fixed, Operates, conjoins, compares, adds, subtracts, multiplies, operates, printable-numeric}
use Rattle.semantics.specs.Machine.{Value, Value.number, Value.thousandths, Value.object_at, Cell, Cell.slot, Call, Call.frame, Core, numeral_value, initial}
use Rattle.semantics.specs.Machine.{Request, Request.charge, Request.allocate, Request.enter, Request.output, Request.receive, Request.send, Request.move, Request.fault, Request.done, Request.stuck}
use Rattle.semantics.specs.Machine.{Task, Task.operate, Task.fetch, Task.measure, Task.make_array_lem, Task.make_object_lem, Task.show, Task.store_element_lem, Task.leave}
use Rattle.semantics.specs.Machine.{need, require, of_kind, of_kinds, pop, pop_many, innermost, as_slot, as_object_cell, as_array_cell, array_cell, in_bounds, read_meaning, read_name, write_meaning, write_name, is_and, begin, begin_statement, second, call_method, next_argument, next_statement, next_of_body, new_array_of, new_object_of, opened, go, plan, start}
use Rattle.semantics.specs.Limits.{Limits, Meters, begun, Ending, ended, went_wrong, unfinished, Progress, next, stop, guard, size_of, run_with, run}
use Rattle.soundness.specs.Results.{by-null, by_index, by_size, by_register, by_byte, Finish, by-success, by-fault, ByLimit, by-budget, by-heap, by-calls, by-output, EndsWell}
use Rattle.soundness.specs.laws.Search.{search-finds}
use Rattle.soundness.specs.laws.ResultLaws.{Over}
use Rattle.soundness.specs.laws.Continuations.{after-by}
use Rattle.soundness.specs.laws.Ending.{run_ends}
use Rattle.soundness.specs.laws.StateTyping.{WordNumeral, WordLiterals, MethodFits, LiteralsFit, CellType, object_type, array_type, slot_type, ValueTyped, v-number, v-thousandths, v-flag, v-no-array, v-no-object, v-array, v-object}
use Rattle.soundness.specs.laws.StateTyping.{CellTyped, c-object, c-array, c-slot, HeapTyped, FrameTyped, CallTyped, c_frame, now, StateTyped, typed, Asks}
use Rattle.soundness.specs.laws.StateTyping.{TasksTyped, r-end, r-evaluate, r-execute, r-operand, r-operate, r-confirm, r-negate, r-index, r-fetch, r-measure, r-make-array, r-make-object, r-invoke, r-branch, r-decide, r-again, r-show, r-store, r-new-element, r-store-element, r-read-register, r-new-byte, r-write-register, r-continue, r-perform, r-leave}
use Rattle.soundness.specs.laws.HeapLaws.{value-sub, initial-typed, CellsKept, kept_append, values-kept, calls-kept, new-place, field_types, element_types, object-grown, array-grown, stored}

-- a value of a type is of its kind, and so are values for a list of parameters
kind-typed : {G : List Class} {σ : List CellType} {v : Value} {t : Ty} → ValueTyped G σ v t → of_kind t v ≡ true
kind-typed (v-number l) = refl
kind-typed (v-thousandths l) = refl
kind-typed v-flag = refl
kind-typed v-no-array = refl
kind-typed v-no-object = refl
kind-typed (v-array e) = refl
kind-typed (v-object e c) = refl

kinds-typed : {G : List Class} {σ : List CellType} {given : List Value} (ps : List Variable)
    → All2 (ValueTyped G σ) given (map type_of ps) → of_kinds ps given ≡ true
kinds-typed [] all2-nil = refl
kinds-typed (p ∷ ps) (all2-cons v W) = rw (kind-typed v) (kinds-typed ps W)

-- what a literal says is of its type
numeral-typed : {G : List Class} {σ : List CellType} {t : Ty} (n : Numeral) → numeral_type n ≡ t → WordNumeral n
    → ValueTyped G σ (numeral_value n) t
numeral-typed {G} {σ} (int_literal n) q l = subst (ValueTyped G σ (number n)) q (v-number l)
numeral-typed {G} {σ} (fixed_literal n) q l = subst (ValueTyped G σ (thousandths n)) q (v-thousandths l)

-- main sees no names
no_name : {G : List Class} {x : List ℕ} {t : Ty} → HasName G (now []) x t → ⊥
unfolding variable_named
no_name (of-variable e q) = none-some refl e
no_name (of_field e o h) = none-some refl o

module _ {G : List Class} (T : All (ClassTyped G) G) (L : All (λ k. All MethodFits k.methods) G) where
  -- ---- taking apart, where the types say that it goes well

  need-ok : {A : Type 0} (k : A → Request Core) {o : Option A} {a : A} → o ≡ some a → Asks G (k a) → Asks G (need o k)
  need-ok k e h = subst (λ x. Asks G (need x k)) (sym e) h

  require-ok : (k : Unit {0} → Request Core) {b : Bool} → b ≡ true → Asks G (k tt) → Asks G (require b k)
  require-ok k e h = subst (λ x. Asks G (require x k)) (sym e) h

  slot_ok : {σ : List CellType} {h : List Cell} {i : ℕ} {t : Ty} (k : Value → Request Core) → RelatedAt (CellTyped G σ) h i (slot_type t)
      → ((v : Value) → ValueTyped G σ v t → Asks G (k v)) → Asks G (need (get_elem? h i) λ x. as_slot x k)
  slot_ok {σ} {t} k w f = need-ok (λ x. as_slot x k) w.at (by-cell w.holds)
    where
      by-cell : {x : Cell} → CellTyped G σ x (slot_type t) → Asks G (as_slot x k)
      by-cell (c-slot {v = v} q) = f v q

  array-cell-ok : {σ : List CellType} {h : List Cell} (a : ℕ) {t : Element} {n : ℕ} (k : Element → ℕ → Request Core)
      → RelatedAt (CellTyped G σ) h a (array_type t n) → (n < 2 ^ 31 → Asks G (k t n)) → Asks G (array_cell h a k)
  array-cell-ok {σ} a {t} {n} k w f = need-ok (λ x. as_array_cell x k) w.at (by-cell w.holds)
    where
      by-cell : {x : Cell} → CellTyped G σ x (array_type t n) → Asks G (as_array_cell x k)
      by-cell (c-array l) = f l

  object-cell-ok : {σ : List CellType} {h : List Cell} {a : ℕ} {c : List ℕ} (k : List ℕ → Request Core)
      → RelatedAt (CellTyped G σ) h a (object_type c) → Asks G (k c)
      → Asks G (need (get_elem? h a) λ x. as_object_cell x k)
  object-cell-ok {σ} {c} k w f = need-ok (λ x. as_object_cell x k) w.at (by-cell w.holds)
    where
      by-cell : {x : Cell} → CellTyped G σ x (object_type c) → Asks G (as_object_cell x k)
      by-cell (c-object e) = f

  -- an element that is there
  in-bounds-ok : {σ : List CellType} {h : List Cell} (p : Place) (a : ℕ) {t : Element} {n : ℕ} (i : ℕ) (r : Request Core)
      → HeapTyped G σ h → get_elem? σ a ≡ some (array_type t n)
      → (get_elem? σ (a + 1 + i) ≡ some (slot_type (plain t)) → Asks G r) → Asks G (in_bounds p i n r)
  in-bounds-ok p a {t} {n} i r H e f =
      by-test (Asks G) (ltb i n) _ _ (λ q. f (H.laid.arrays a t n i e (ltb-true i n q))) (λ _. by_index)

  -- the arguments off the stack
  pop-typed : {σ : List CellType} (qs : List Ty) {us ws : List Ty} {vs got : List Value} (k : List Value → List Value → Request Core)
      → All2 (ValueTyped G σ) vs (qs ++ us) → All2 (ValueTyped G σ) got ws
      → ((xs rest : List Value) → All2 (ValueTyped G σ) xs (reverse_aux qs ws) → All2 (ValueTyped G σ) rest us → Asks G (k xs rest))
      → Asks G (pop_many (length qs) got vs k)
  pop-typed [] {vs} {got} k W A f = f got vs A W
  pop-typed (q ∷ qs) k (all2-cons x W) A f = pop-typed qs k W (all2-cons x A) f

  -- ---- names

  owner-up : {σ : List CellType} {a : ℕ} {Γ : Context} {xs : List Value} {c : List ℕ} (F : FrameTyped G σ a Γ xs) → Γ.owner ≡ some c
      → Up G F.made c
  owner-up F e = subst (Up G F.made) (some-injective _ _ (sym (ap (λ (Δ : Context). Δ.owner) F.context) ∙ e)) (method-declares T F.has).above

  row_type : (Γ : Context) {s : Slot} {t : Ty} → StandsAt Γ.variables s → s.type ≡ t
      → get_elem? (map type_of Γ.variables) s.place ≡ some t
  row_type Γ {s} w q = get-map type_of Γ.variables s.place w.at ∙ ap some (w.has ∙ q)

  field-type : {σ : List CellType} {h : List Cell} {a : ℕ} {Γ : Context} {xs : List Value} {c : List ℕ} {s : Slot} {t : Ty}
      → HeapTyped G σ h → FrameTyped G σ a Γ xs
      → Γ.owner ≡ some c → StandsAt (fields_of G c) s → s.type ≡ t → get_elem? σ (a + 1 + s.place) ≡ some (slot_type t)
  field-type {a} {s} H F o w q =
      let v = stands_up (table-acyclic T) (owner-up F o) w in
      H.laid.objects a F.made s.place v.item F.receiver v.at ∙ ap (λ (u : Ty). some (slot_type u)) (v.has ∙ q)

  read_ok : {σ : List CellType} {Γs : List Context} {cs : List Call} {h : List Cell} {x : List ℕ} {t : Ty} (k : Value → Request Core)
      → HeapTyped G σ h → All2 (CallTyped G σ) cs Γs → HasName G (now Γs) x t → ((v : Value) → ValueTyped G σ v t → Asks G (k v))
      → Asks G (read_name G cs h x k)
  unfolding read_name
  read_ok k H all2-nil n f = absurd (no_name n)
  read_ok {σ} {h = h} {x = x} {t = t} k H (all2-cons (c_frame {a = a} {Γ = Γ} {xs = xs} F) C) n f = by_place (name-at (table-acyclic T) n)
    where
      by_place : NameAt G Γ x t → Asks G (need (meaning G Γ x) λ m. read_meaning a xs h m k)
      by_place (in_row s e w q) =
          need-ok _ e (let y = all2-at s.place F.row (row_type Γ w q) in need-ok k y.at (f y.item y.holds))
      by_place (in-object c s o e w q) = need-ok _ e (slot_ok k (all2-at (a + 1 + s.place) H.cells (field-type H F o w q)) f)

  write-ok : {σ : List CellType} {Γs : List Context} {cs : List Call} {h : List Cell} {x : List ℕ} {t : Ty} {v : Value} (k : List Call → List Cell → Request Core)
      → HeapTyped G σ h → All2 (CallTyped G σ) cs Γs → HasName G (now Γs) x t → ValueTyped G σ v t
      → ((ds : List Call) (g : List Cell) → HeapTyped G σ g → All2 (CallTyped G σ) ds Γs → Asks G (k ds g))
      → Asks G (write_name G cs h x v k)
  unfolding write_name
  write-ok k H all2-nil n v f = absurd (no_name n)
  write-ok {σ} {h = h} {x = x} {t = t} {v = y} k H (all2-cons {xs = cs} (c_frame {a = a} {Γ = Γ} {xs = xs} F) C) n v f = by_place (name-at (table-acyclic T) n)
    where
      by_place : NameAt G Γ x t → Asks G (need (meaning G Γ x) λ m. require (of_kind (meaning_type m) y) λ _. write_meaning a Γ xs cs h m y k)
      by_place (in_row s e w q) =
          need-ok _ e
          (require-ok _ (kind-typed (subst (ValueTyped G σ y) (sym q) v))
          (need-ok (λ _. k (frame a Γ (set xs s.place y) ∷ cs) h) (all2-at s.place F.row (row_type Γ w q)).at
          (f _ _ H
          (all2-cons
          (c_frame (record {
            made = F.made;
            receiver = F.receiver;
            called = F.called;
            found = F.found;
            has = F.has;
            context = F.context;
            row = all2-set s.place F.row (row_type Γ w q) v;
          }))
          C))))
      by_place (in-object c s o e w q) =
          let i = field-type H F o w q in
          need-ok _ e
          (require-ok _ (kind-typed (subst (ValueTyped G σ y) (sym q) v))
          (slot_ok (λ _. k (frame a Γ xs ∷ cs) (set h (a + 1 + s.place) (slot y))) (all2-at (a + 1 + s.place) H.cells i)
          (λ _ _. f _ _ (stored H (a + 1 + s.place) i v) (all2-cons (c_frame F) C))))

  this-ok : {σ : List CellType} {Γs : List Context} {cs : List Call} {c : List ℕ} (k : ℕ → Request Core) → All2 (CallTyped G σ) cs Γs
      → (now Γs).owner ≡ some c
      → ((a : ℕ) → ValueTyped G σ (object_at a) (plain (class c)) → Asks G (k a)) → Asks G (innermost cs λ a Γ xs _. k a)
  this-ok k all2-nil o f = absurd (none-some refl o)
  this-ok k (all2-cons (c_frame {a = a} F) C) o f = f a (v-object F.receiver (owner-up F o))

  -- the row in which the body of a method begins
  row_typed : {σ : List CellType} {given : List Value} (m : Method) → All2 (ValueTyped G σ) given (map type_of m.parameters)
      → All2 (ValueTyped G σ) (given ++ map (λ v. initial (type_of v)) m.locals) (map type_of (m.parameters ++ m.locals))
  row_typed {σ} {given} m X =
      subst (All2 (ValueTyped G σ) _) (sym (map-append type_of m.parameters m.locals))
      (all2-append X (all2-map (λ v. initial (type_of v)) type_of (λ v. initial-typed (type_of v)) m.locals))

  -- in a typed heap, with typed calls
  module _ {σ : List CellType} {Γs : List Context} {cs : List Call} {h : List Cell} (H : HeapTyped G σ h) (C : All2 (CallTyped G σ) cs Γs) where
    -- ---- beginning a node

    begins : {us : List Ty} {ts : List Task} {vs : List Value} {e : Expression} {s t : Ty}
        → All2 (ValueTyped G σ) vs us → HasType G (now Γs) e s → WordLiterals e → Sub G s t → TasksTyped G Γs (t ∷ us) ts
        → Asks G (begin G e ts vs cs h)
    unfolding begin
    begins W (t-literal {n = n} q) l b R = typed H C (all2-cons (value-sub b (numeral-typed n q l)) W) R
    begins W t-truth l b R = typed H C (all2-cons (value-sub b v-flag) W) R
    begins W (t-variable n) l b R = read_ok _ H C n (λ v x. typed H C (all2-cons (value-sub b x) W) R)
    begins W (t-this o) l b R = this-ok _ C o (λ a x. typed H C (all2-cons (value-sub b x) W) R)
    begins {t = t} W (t-new-array q k x) l b R =
        typed H C W (r-evaluate x l sub_same (r-make-array (subst (λ (s : Element). Sub G (array_of s) t) (sym q) b) R))
    begins {t = t} W (t-new-object {c = c} q x) l b R =
        typed H C W (r-make-object (ap (class_named G) q ∙ (known-found G c x).1) (subst (λ (d : List ℕ). Sub G (plain (class d)) t) (sym q) b) R)
    begins W (t-negation x) l b R = typed H C W (r-evaluate x l sub_same (r-negate b R))
    begins W (t-binary {o = o} {s = s} x q y) l b R = typed H C W (r-evaluate x l.0 sub_same (r-operand (operates o s q) x y l.1 b R))
    begins W (t-element x y) l b R = typed H C W (r-evaluate x l.0 sub_same (r-index y l.1 b R))
    begins W (t-length x) l b R = typed H C W (r-evaluate x l sub_same (r-measure b R))
    begins {t = t} W (t_call {es = es} x f q r) l b R =
        typed H C W (r-evaluate x l.0 sub_same (r-invoke [] f q l.1 refl (sym (zero-add (arity es))) (subst (λ (u : Ty). Sub G u t) (sym r) b) R))
    begins W (t-port-get x) l b R = typed H C W (r-evaluate x l sub_same (r-read-register b R))

    begins-statement : {us : List Ty} {ts : List Task} {vs : List Value} {s : Statement}
        → All2 (ValueTyped G σ) vs us → IsTyped G (now Γs) s → WordLiterals s → TasksTyped G Γs us ts
        → Asks G (begin_statement G s ts vs cs h)
    unfolding begin_statement
    begins-statement W (t_block q) l R = typed H C W (r-continue q l R)
    begins-statement W (t-if x y z) l R = typed H C W (r-evaluate x l.0 sub_same (r-branch y l.1 z l.2 R))
    begins-statement W (t-while x y) l R = typed H C W (r-evaluate x l.0 sub_same (r-decide x l.0 y l.1 R))
    begins-statement W (t-print {t = t} x q) l R = typed H C W (r-evaluate x l sub_same (r-show (printable-numeric t q) R))
    begins-statement W (t-assign n x b) l R = typed H C W (r-evaluate x l b (r-store n R))
    begins-statement W (t-assign-element n x y b) l R =
        read_ok _ H C n (λ v q. typed H C (all2-cons q W) (r-evaluate x l.0 sub_same (r-new-element y l.1 b R)))
    begins-statement W (t-port-put x y) l R = typed H C W (r-evaluate x l.0 sub_same (r-new-byte y l.1 R))

    -- ---- going on with a node

    and_ok : {us : List Ty} {ts : List Task} {vs : List Value} (a : Expression) {r : Expression} {t : Ty}
        → All2 (ValueTyped G σ) vs (plain boolean ∷ us) → HasType G (now Γs) r (plain boolean) → WordLiterals r → Sub G (plain boolean) t
        → TasksTyped G Γs (t ∷ us) ts → Asks G (second G and a r ts vs cs h)
    unfolding second
    and_ok a (all2-cons (v-flag {b = true}) W) x l b R = begins W x l sub_same (r-confirm b R)
    and_ok a (all2-cons (v-flag {b = false}) W) x l b R = typed H C (all2-cons (value-sub b v-flag) W) R

    second-ok : {us : List Ty} {ts : List Task} {vs : List Value} {o : Operator} {a r : Expression} {s u t : Ty}
        → Operates o s u → All2 (ValueTyped G σ) vs (s ∷ us) → HasType G (now Γs) a s → HasType G (now Γs) r s → WordLiterals r → Sub G u t
        → TasksTyped G Γs (t ∷ us) ts
        → Asks G (second G o a r ts vs cs h)
    unfolding second
    second-ok {a = a} conjoins W y x l b R = and_ok a W x l b R
    second-ok (compares n) W y x l b R = begins W x l sub_same (r-operate (compares n) y refl b R)
    second-ok (adds n) W y x l b R = begins W x l sub_same (r-operate (adds n) y refl b R)
    second-ok (subtracts n) W y x l b R = begins W x l sub_same (r-operate (subtracts n) y refl b R)
    second-ok (multiplies n) W y x l b R = begins W x l sub_same (r-operate (multiplies n) y refl b R)

    operate-ok : {us : List Ty} {ts : List Task} {vs : List Value} {o : Operator} (a : Expression) {s u t : Ty}
        → Operates o s u → is_and o ≡ false → All2 (ValueTyped G σ) vs (s ∷ s ∷ us) → Sub G u t → TasksTyped G Γs (t ∷ us) ts
        → Asks G (go G (operate o a) ts vs cs h)
    unfolding go
    operate-ok a conjoins n W b R = absurd (true≢false n)
    operate-ok a (compares numeric-int) n (all2-cons (v-number {n = y} _) (all2-cons (v-number {n = x} _) W)) b R =
        typed H C (all2-cons (value-sub b v-flag) W) R
    operate-ok a (compares numeric-fixed) n (all2-cons (v-thousandths {n = y} _) (all2-cons (v-thousandths {n = x} _) W)) b R =
        typed H C (all2-cons (value-sub b v-flag) W) R
    operate-ok a (adds numeric-int) n (all2-cons (v-number {n = y} _) (all2-cons (v-number {n = x} _) W)) b R =
        typed H C (all2-cons (value-sub b (v-number (add-below x y))) W) R
    operate-ok a (adds numeric-fixed) n (all2-cons (v-thousandths {n = y} _) (all2-cons (v-thousandths {n = x} _) W)) b R =
        typed H C (all2-cons (value-sub b (v-thousandths (add-below x y))) W) R
    operate-ok a (subtracts numeric-int) n (all2-cons (v-number {n = y} _) (all2-cons (v-number {n = x} _) W)) b R =
        typed H C (all2-cons (value-sub b (v-number (sub-below x y))) W) R
    operate-ok a (subtracts numeric-fixed) n (all2-cons (v-thousandths {n = y} _) (all2-cons (v-thousandths {n = x} _) W)) b R =
        typed H C (all2-cons (value-sub b (v-thousandths (sub-below x y))) W) R
    operate-ok a (multiplies numeric-int) n (all2-cons (v-number {n = y} _) (all2-cons (v-number {n = x} _) W)) b R =
        typed H C (all2-cons (value-sub b (v-number (mul-below x y))) W) R
    operate-ok a (multiplies numeric-fixed) n (all2-cons (v-thousandths {n = y} _) (all2-cons (v-thousandths {n = x} _) W)) b R =
        typed H C (all2-cons (value-sub b (v-thousandths (scale-below x y))) W) R

    show-ok : {us : List Ty} {ts : List Task} {vs : List Value} {s : Ty} (p : Place)
        → All2 (ValueTyped G σ) vs (s ∷ us) → Numeric s → TasksTyped G Γs us ts → Asks G (go G (show p) ts vs cs h)
    unfolding go
    show-ok p (all2-cons (v-number _) W) numeric-int R = typed H C W R
    show-ok p (all2-cons (v-thousandths _) W) numeric-fixed R = typed H C W R
    show-ok p (all2-cons v-flag W) n R = elim n [ ]
    show-ok p (all2-cons v-no-array W) n R = elim n [ ]
    show-ok p (all2-cons v-no-object W) n R = elim n [ ]
    show-ok p (all2-cons (v-array _) W) n R = elim n [ ]
    show-ok p (all2-cons (v-object _ _) W) n R = elim n [ ]

    fetch-ok : {us : List Ty} {ts : List Task} {vs : List Value} {s : Element} {t : Ty} (p : Place)
        → All2 (ValueTyped G σ) vs (plain int ∷ array_of s ∷ us) → Sub G (plain s) t → TasksTyped G Γs (t ∷ us) ts
        → Asks G (go G (fetch p) ts vs cs h)
    unfolding go
    fetch-ok p (all2-cons (v-number i) (all2-cons v-no-array W)) b R = by-null
    fetch-ok p (all2-cons (v-number {n = i} l) (all2-cons (v-array {a = a} e) W)) b R =
        array-cell-ok a _ (all2-at a H.cells e) (λ _. in-bounds-ok p a i _ H e (λ q.
        slot_ok _ (all2-at (a + 1 + i) H.cells q) (λ v y. typed H C (all2-cons (value-sub b y) W) R)))

    store-element-ok : {us : List Ty} {ts : List Task} {vs : List Value} {t : Element} (p : Place)
        → All2 (ValueTyped G σ) vs (plain t ∷ plain int ∷ array_of t ∷ us) → TasksTyped G Γs us ts
        → Asks G (go G (store_element_lem p) ts vs cs h)
    unfolding go
    store-element-ok p (all2-cons y (all2-cons (v-number i) (all2-cons v-no-array W))) R = by-null
    store-element-ok p (all2-cons y (all2-cons (v-number {n = i} l) (all2-cons (v-array {a = a} e) W))) R =
        array-cell-ok a _ (all2-at a H.cells e) (λ _. require-ok _ (kind-typed y) (in-bounds-ok p a i _ H e (λ q.
        slot_ok _ (all2-at (a + 1 + i) H.cells q) (λ _ _. typed (stored H (a + 1 + i) q y) C W R))))

    measure-ok : {us : List Ty} {ts : List Task} {vs : List Value} {s : Element} {t : Ty} (p : Place)
        → All2 (ValueTyped G σ) vs (array_of s ∷ us) → Sub G (plain int) t → TasksTyped G Γs (t ∷ us) ts
        → Asks G (go G (measure p) ts vs cs h)
    unfolding go
    measure-ok p (all2-cons v-no-array W) b R = by-null
    measure-ok p (all2-cons (v-array {a = a} {n = n} e) W) b R =
        array-cell-ok a _ (all2-at a H.cells e) (λ l. typed H C (all2-cons (value-sub b (v-number {n = n} (omega arith))) W) R)

    make-array-ok : {us : List Ty} {ts : List Task} {vs : List Value} {t : Ty} (p : Place) (s : Element)
        → All2 (ValueTyped G σ) vs (plain int ∷ us) → Sub G (array_of s) t → TasksTyped G Γs (t ∷ us) ts
        → Asks G (go G (make_array_lem p s) ts vs cs h)
    unfolding go new_array_of
    make-array-ok p s (all2-cons (v-number {n = n} l) W) b R =
        let K : CellsKept σ (σ ++ array_type s n ∷ element_types s n) = kept_append σ (array_type s n ∷ element_types s n) in
        by-test (Asks G) (ltb n (2 ^ 31)) _ _
        (λ q.
        typed (array-grown H s n (ltb-true n (2 ^ 31) q)) (calls-kept K C)
        (all2-cons (value-sub b (v-array (new-place (array_type s n) (element_types s n) H))) (values-kept K W)) R)
        (λ q. by_size)

    make-object-ok : {us : List Ty} {ts : List Task} {vs : List Value} {t : Ty} {k : Class} (p : Place) (c : List ℕ)
        → All2 (ValueTyped G σ) vs us → class_named G c ≡ some k → Sub G (plain (class c)) t → TasksTyped G Γs (t ∷ us) ts
        → Asks G (go G (make_object_lem p c) ts vs cs h)
    unfolding go new_object_of
    make-object-ok p c W e b R =
        let K : CellsKept σ (σ ++ object_type c ∷ field_types G c) = kept_append σ (object_type c ∷ field_types G c) in
        need-ok _ e
        (typed (object-grown H c e) (calls-kept K C)
        (all2-cons (value-sub b (v-object (new-place (object_type c) (field_types G c) H) up-here)) (values-kept K W)) R)

    -- ---- calls

    -- d is the class of the receiver, K the method that it has where N was declared
    enter-ok : {us : List Ty} {ts : List Task} {given vs : List Value} {t : Ty} (p : Place) (a : ℕ) {d m : List ℕ} {N : Method} (K : Found)
        → get_elem? σ a ≡ some (object_type d) → All2 (ValueTyped G σ) given (map type_of N.parameters) → All2 (ValueTyped G σ) vs us
        → HasMethod G d m K → Redeclares G K.method N → Sub G N.result.type t → TasksTyped G Γs (t ∷ us) ts
        → (visits : ℕ)
        → Asks G (require (of_kinds K.method.parameters given) λ _. enter p.start (length cs + 1) visits (opened K a given ts vs cs h))
    enter-ok {given = given} p a {d} {m} K e X W k r b R visits =
        let D = (method-declares T k).typed in
        let M = every-method L k in
        let Y : All2 (ValueTyped G σ) given (map type_of K.method.parameters) = subst (All2 (ValueTyped G σ) given) (sym r.parameters) X in
        require-ok _ (kinds-typed K.method.parameters Y)
        (typed H
        (all2-cons
        (c_frame (record { made = d; receiver = e; called = m; found = K; has = k; context = refl; row = row_typed K.method Y }))
        C)
        W (r-perform D.body M.body D.value M.value D.fits (sub_trans r.result b) R))

    call_ok : {us : List Ty} {ts : List Task} {given vs : List Value} {x : Value} {t : Ty} (p : Place) {c m : List ℕ} {F : Found}
        → All2 (ValueTyped G σ) given (map type_of F.method.parameters) → ValueTyped G σ x (plain (class c))
        → All2 (ValueTyped G σ) vs us
        → HasMethod G c m F → Sub G F.method.result.type t → TasksTyped G Γs (t ∷ us) ts → Asks G (call_method G p m given x ts vs cs h)
    unfolding call_method
    call_ok p X v-no-object W f b R = by-null
    call_ok p {m = m} X (v-object {a = a} {b = d} e s) W f b R =
        let D = method-up T s f in
        let C = search-finds G d m (has-method_of (table-acyclic T) D.has) in
        object-cell-ok _ (all2-at a H.cells e)
        (need-ok _ C.1 (enter-ok p a D.found e X W D.has D.redeclares b R C.0))

    receive_ok : {us : List Ty} {ts : List Task} {given vs : List Value} {t : Ty} (p : Place) {c m : List ℕ} {F : Found}
        → All2 (ValueTyped G σ) given (map type_of F.method.parameters) → All2 (ValueTyped G σ) vs (plain (class c) ∷ us)
        → HasMethod G c m F → Sub G F.method.result.type t → TasksTyped G Γs (t ∷ us) ts
        → Asks G (pop vs λ x vs. call_method G p m given x ts vs cs h)
    receive_ok p X (all2-cons x W) f b R = call_ok p X x W f b R

    invoke-ok : {us : List Ty} {ts : List Task} {vs : List Value} {es : Part arguments} {ws : List Variable} {t : Ty} (p : Place) {c m : List ℕ} {F : Found} (n : ℕ)
        (qs : List Ty) → All2 (ValueTyped G σ) vs (qs ++ plain (class c) ∷ us) → HasMethod G c m F → HaveTypes G (now Γs) es ws → WordLiterals es
        → reverse_aux qs (map type_of ws) ≡ map type_of F.method.parameters → n ≡ length qs + arity es
        → Sub G F.method.result.type t → TasksTyped G Γs (t ∷ us) ts
        → Asks G (next_argument G p m n es ts vs cs h)
    unfolding next_argument arity
    invoke-ok {ts = ts} {vs = vs} p {m = m} n qs W f t-none l q e b R =
        subst (λ (i : ℕ). Asks G (pop_many i [] vs λ given vs. pop vs λ x vs. call_method G p m given x ts vs cs h)) (sym (e ∙ add-zero (length qs)))
        (pop-typed qs _ W all2-nil (λ given rest X Y. receive_ok p (subst (All2 (ValueTyped G σ) given) q X) Y f b R))
    invoke-ok p n qs W f (t-more {es = es} {v = v} x s r) l q e b R =
        let i : n ≡ suc (length qs) + arity es = omega arith in
        begins W x l.0 s (r-invoke (type_of v ∷ qs) f r l.1 q i b R)

  leaves : {σ : List CellType} {Γ : Context} {Γs : List Context} {us : List Ty} {ts : List Task} {v : Value} {vs : List Value} {c : Call} {cs : List Call} {h : List Cell} {r t : Ty}
      → HeapTyped G σ h → CallTyped G σ c Γ → All2 (CallTyped G σ) cs Γs → ValueTyped G σ v r → All2 (ValueTyped G σ) vs us → Sub G r t
      → TasksTyped G Γs (t ∷ us) ts
      → Asks G (go G (leave r) ts (v ∷ vs) (c ∷ cs) h)
  unfolding go
  leaves H (c_frame F) C x W b R = require-ok _ (kind-typed x) (typed H C (all2-cons (value-sub b x) W) R)

  -- ---- progress and preservation in one

  goes : {σ : List CellType} {Γs : List Context} {us : List Ty} {k : Task} {ts : List Task} {vs : List Value} {cs : List Call} {h : List Cell}
      → HeapTyped G σ h → All2 (CallTyped G σ) cs Γs → All2 (ValueTyped G σ) vs us → TasksTyped G Γs us (k ∷ ts)
      → Asks G (go G k ts vs cs h)
  unfolding go next_statement next_of_body
  goes H C W (r-evaluate x l b R) = begins H C W x l b R
  goes H C W (r-execute x l R) = begins-statement H C W x l R
  goes H C W (r-operand q y x l b R) = second-ok H C q W y x l b R
  goes H C W (r-operate {l = l} q y n b R) = operate-ok H C l q n W b R
  goes H C (all2-cons v-flag W) (r-confirm b R) = typed H C (all2-cons (value-sub b v-flag) W) R
  goes H C (all2-cons v-flag W) (r-negate b R) = typed H C (all2-cons (value-sub b v-flag) W) R
  goes H C W (r-index x l b R) = begins H C W x l sub_same (r-fetch b R)
  goes H C W (r-fetch {p = p} b R) = fetch-ok H C p W b R
  goes H C W (r-measure {p = p} b R) = measure-ok H C p W b R
  goes H C W (r-make-array {p = p} {s = s} b R) = make-array-ok H C p s W b R
  goes H C W (r-make-object {p = p} {c = c} e b R) = make-object-ok H C p c W e b R
  goes H C W (r-invoke {p = p} {n = n} qs f q l e i b R) = invoke-ok H C p n qs W f q l e i b R
  goes H C (all2-cons (v-flag {b = true}) W) (r-branch x l y m R) = begins-statement H C W x l R
  goes H C (all2-cons (v-flag {b = false}) W) (r-branch x l y m R) = begins-statement H C W y m R
  goes H C (all2-cons (v-flag {b = true}) W) (r-decide x l y m R) = begins-statement H C W y m (r-again x l y m R)
  goes H C (all2-cons (v-flag {b = false}) W) (r-decide x l y m R) = typed H C W R
  goes H C W (r-again x l y m R) = begins H C W x l sub_same (r-decide x l y m R)
  goes H C W (r-show {p = p} q R) = show-ok H C p W q R
  goes H C (all2-cons v W) (r-store n R) = write-ok _ H C n v (λ ds g I D. typed I D W R)
  goes H C W (r-new-element x l b R) = begins H C W x l b (r-store-element R)
  goes H C W (r-store-element {p = p} R) = store-element-ok H C p W R
  goes H C (all2-cons (v-number {n = n} _) W) (r-read-register b R) =
      by-test (Asks G) (ltb n registers_count) _ _
      (λ _ v q. typed H C (all2-cons (value-sub b (v-number {n = v} (omega (arith, q)))) W) R)
      (λ _. by_register)
  goes H C W (r-new-byte x l R) = begins H C W x l sub_same (r-write-register R)
  goes H C (all2-cons (v-number {n = v} _) (all2-cons (v-number {n = n} _) W)) (r-write-register R) =
      by-test (Asks G) (ltb n registers_count) _ _
      (λ _. by-test (Asks G) (ltb v byte_values) _ _ (λ q. (ltb-true v byte_values q, typed H C W R)) (λ _. by_byte))
      (λ _. by_register)
  goes H C W (r-continue t-end l R) = typed H C W R
  goes H C W (r-continue (t-sequence x q) l R) = begins-statement H C W x l.0 (r-continue q l.1 R)
  goes H C W (r-perform t-end l x m b c R) = begins H C W x m b (r-leave c R)
  goes H C W (r-perform (t-sequence y q) l x m b c R) = begins-statement H C W y l.0 (r-perform q l.1 x m b c R)
  goes H (all2-cons c C) (all2-cons x W) (r-leave b R) = leaves H c C x W b R

  pub sound : {c : Core} → StateTyped G c → Asks G (plan G c)
  unfolding plan
  sound (typed {ts = []} H C W R) = tt
  sound (typed {ts = k ∷ ts} H C W R) = goes H C W R

-- ---- runs

-- an end that is no failure of the machine
abbrev pub NotWrong : Ending → Type 0
NotWrong (ended k p) = Finish k ⊎ ByLimit k
NotWrong went_wrong = ⊥
NotWrong unfinished = Unit {0}

-- what is got from a register is a byte, where the tape holds bytes
abbrev pub Safe : List Class → Progress Core → Type 0
Safe G (next c m) = StateTyped G c × HoldsBytes m.device
Safe G (stop e) = NotWrong e

pub guard-safe : (G : List Class) (L : Limits) (m : Meters) (r : Request Core) → Asks G r → HoldsBytes m.device
    → Safe G (guard L m r)
unfolding guard
guard-safe G L m (charge p c) h d = by-test (Safe G) (ltb m.steps L.budget) _ _ (λ _. (h, step-bytes (m.steps + 1) d)) (λ _. inr by-budget)
guard-safe G L m (allocate p n c) h d = by-test (Safe G) (leb n L.heap) _ _ (λ _. (h, d)) (λ _. inr by-heap)
guard-safe G L m (enter p n k c) h d = by-test (Safe G) (leb n L.calls) _ _ (λ _. (h, d)) (λ _. inr by-calls)
guard-safe G L m (output p z c) h d = by-test (Safe G) (ltb (length m.printed) L.printed) _ _ (λ _. (h, d)) (λ _. inr by-output)
guard-safe G L m (receive n c) h d = (h _ (got-byte n d), get-bytes n d)
guard-safe G L m (send n v c) h d = (h.1, put-bytes n h.0 d)
guard-safe G L m (move c) h d = (h, d)
guard-safe G L m (fault k p) h d = inl (by-fault h)
guard-safe G L m done h d = inl by-success
guard-safe G L m stuck h d = absurd h

pub start-typed : (p : Program) → ProgramTyped p → LiteralsFit p → StateTyped p.classes (start p)
start-typed p P L =
    typed {σ = []}
    (record {
      laid = record { objects = λ a c i v e q. absurd (none-some refl e); arrays = λ a t n i e q. absurd (none-some refl e) };
      cells = all2-nil;
    })
    all2-nil all2-nil (r-execute P.main L.main r-end)

module _ {G : List Class} (T : All (ClassTyped G) G) (F : All (λ k. All MethodFits k.methods) G) (L : Limits) where
  pub turn-safe : (c : Core) (m : Meters) → StateTyped G c → HoldsBytes m.device → Safe G (guard L m (plan G c))
  turn-safe c m h d = guard-safe G L m (plan G c) (sound T F h) d

  pub runs-right : (f : ℕ) (c : Core) (m : Meters) → StateTyped G c → HoldsBytes m.device
      → NotWrong (run_with (plan G) size_of L f c m).ending
  unfolding run_with
  runs-right zero c m h d = tt
  runs-right (suc f) c m h d =
      after-by (Safe G) (λ r. NotWrong r.ending) (λ d n. run_with (plan G) size_of L f d n) c m (λ d n s. runs-right f d n s.0 s.1)
      (λ e s. s) (guard L m (plan G c)) (turn-safe c m h d)

pub run-right : (p : Program) (L : Limits) (tape : List ℕ) → ProgramTyped p → LiteralsFit p → All IsByte tape
    → NotWrong (run p L tape).ending
unfolding run
run-right p L tape P F B =
    runs-right P.classes F.classes L (4 * L.budget + 4) (start p) (begun tape) (start-typed p P F) (reset-bytes B)

ends-well : (e : Ending) → Over e → NotWrong e → EndsWell e
ends-well (ended k q) o r = record { number = k; position = q; is = refl; cause = r }
ends-well went_wrong o r = absurd r
ends-well unfinished o r = absurd o

pub run-ends-well : (p : Program) (L : Limits) (tape : List ℕ) → ProgramTyped p → LiteralsFit p → All IsByte tape
    → EndsWell (run p L tape).ending
run-ends-well p L tape P F B = ends-well (run p L tape).ending (run_ends p L tape) (run-right p L tape P F B)
