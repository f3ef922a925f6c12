-- The typed heap: what is typed stays typed as the heap grows, and a new object or array at its end keeps the heap typed. Each cell has
-- one type for good, so a store is judged cell by cell and an allocation only appends.
use Rattle.std.specs.Prelude.{ℕ, zero, suc, ◌+◌, ◌^◌, ◌<◌, List, ◌∷◌, ◌++◌, map, ◌≡◌, refl, length, set, replicate}
use Rattle.std.proofs.Common.{arith, sym, ap, ◌∙◌, subst}
use Rattle.std.proofs.Math.Option.{some, some-injective}
use Rattle.std.proofs.Math.ListN.{get_elem?}
use Rattle.std.proofs.lemmas.List.{length-replicate, get_or-replicate}
use Rattle.base.specs.laws.Lists.{get-get_d, all-at, all_replicate, All2, all2-cons, all2-append, all2-length, all2-map, all2-replicate, all2-set, all2-weaken, Side, left, right, side, get-append, get-append-right, get-map, map_get}
use Rattle.parser.specs.Tree.{Element, Element.int, Element.boolean, Element.fixed, Element.class, Ty, Ty.plain, Ty.array_of, Variable, Class}
use Rattle.typesystem.specs.ClassTable.{Context, class_named, fields_of}
use Rattle.typesystem.specs.TypingRules.{Sub, sub_same, sub-extends, sub_trans, type_of}
use Rattle.typing.specs.laws.Members.{up-here, up_more, up-trans}
use Rattle.semantics.specs.Machine.{Value, Cell, Cell.object, Cell.array, Cell.slot, Call, initial}
use Rattle.soundness.specs.laws.StateTyping.{CellType, object_type, array_type, slot_type, ValueTyped, v-number, v-thousandths, v-flag, v-no-array, v-no-object, v-array, v-object}
use Rattle.soundness.specs.laws.StateTyping.{CellTyped, c-object, c-array, c-slot, Laid, HeapTyped, CallTyped, c_frame}

-- a value of a type is one of every type that it fits
pub value-sub : {G : List Class} {σ : List CellType} {v : Value} {s t : Ty} → Sub G s t → ValueTyped G σ v s → ValueTyped G σ v t
value-sub sub_same h = h
value-sub (sub-extends x) v-no-object = v-no-object
value-sub (sub-extends x) (v-object e c) = v-object e (up-trans c (up_more x up-here))
value-sub (sub_trans p q) h = value-sub q (value-sub p h)

pub initial-typed : {G : List Class} {σ : List CellType} (t : Ty) → ValueTyped G σ (initial t) t
initial-typed (plain int) = v-number {n = 0} (omega arith)
initial-typed (plain boolean) = v-flag
initial-typed (plain fixed) = v-thousandths {n = 0} (omega arith)
initial-typed (plain (class c)) = v-no-object
initial-typed (array_of t) = v-no-array

-- ---- more cells

-- the cells of σ have their types in ρ too
pub record CellsKept (σ ρ : List CellType) : Type 0 where
  pub keep : (a : ℕ) {x : CellType} → get_elem? σ a ≡ some x → get_elem? ρ a ≡ some x

pub kept_append : (σ ρ : List CellType) → CellsKept σ (σ ++ ρ)
kept_append σ ρ = record { keep = λ a e. get-append σ ρ a e }

module _ {G : List Class} {σ ρ : List CellType} (K : CellsKept σ ρ) where
  value-kept : {v : Value} {t : Ty} → ValueTyped G σ v t → ValueTyped G ρ v t
  value-kept (v-number l) = v-number l
  value-kept (v-thousandths l) = v-thousandths l
  value-kept v-flag = v-flag
  value-kept v-no-array = v-no-array
  value-kept v-no-object = v-no-object
  value-kept (v-array {a = a} e) = v-array (K.keep a e)
  value-kept (v-object {a = a} e c) = v-object (K.keep a e) c

  cell-kept : {x : Cell} {t : CellType} → CellTyped G σ x t → CellTyped G ρ x t
  cell-kept (c-object e) = c-object e
  cell-kept (c-array l) = c-array l
  cell-kept (c-slot v) = c-slot (value-kept v)

  pub values-kept : {vs : List Value} {us : List Ty} → All2 (ValueTyped G σ) vs us → All2 (ValueTyped G ρ) vs us
  values-kept h = all2-weaken (λ v t x. value-kept x) h

  call_kept : {x : Call} {Γ : Context} → CallTyped G σ x Γ → CallTyped G ρ x Γ
  call_kept (c_frame {a = a} F) =
      c_frame (record {
        made = F.made;
        receiver = K.keep a F.receiver;
        called = F.called;
        found = F.found;
        has = F.has;
        context = F.context;
        row = values-kept F.row;
      })

  pub calls-kept : {cs : List Call} {Γs : List Context} → All2 (CallTyped G σ) cs Γs → All2 (CallTyped G ρ) cs Γs
  calls-kept h = all2-weaken (λ c Γ x. call_kept x) h

-- ---- a new object or array

object-array : {c : List ℕ} {t : Element} {n : ℕ} → object_type c ≡ array_type t n → ⊥
object-array e = let z : ◌≡◌ {A = ℕ} 0 1 = cc in omega arith

object-slot : {c : List ℕ} {t : Ty} → object_type c ≡ slot_type t → ⊥
object-slot e = let z : ◌≡◌ {A = ℕ} 0 1 = cc in omega arith

array-slot : {s : Element} {n : ℕ} {t : Ty} → array_type s n ≡ slot_type t → ⊥
array-slot e = let z : ◌≡◌ {A = ℕ} 0 1 = cc in omega arith

-- a first cell, x, and the slots that it asks for
record Block (G : List Class) (x : CellType) (β : List CellType) : Type 0 where
  slots : (i : ℕ) {y : CellType} → get_elem? β i ≡ some y → (t : Ty) × (y ≡ slot_type t)
  fields : (c : List ℕ) (i : ℕ) {v : Variable} → x ≡ object_type c → get_elem? (fields_of G c) i ≡ some v
      → get_elem? β i ≡ some (slot_type (type_of v))
  elements : (t : Element) (n i : ℕ) → x ≡ array_type t n → i < n → get_elem? β i ≡ some (slot_type (plain t))

at_block : (σ : List CellType) (x : CellType) (β : List CellType) (i : ℕ) → get_elem? (σ ++ x ∷ β) (length σ + zero + 1 + i) ≡ get_elem? β i
at_block σ x β i =
    let e : length σ + zero + 1 + i ≡ length σ + suc i = omega arith in
    ap (get_elem? (σ ++ x ∷ β)) e ∙ get-append-right σ (x ∷ β) (suc i)

module _ {G : List Class} {x : CellType} {β : List CellType} (B : Block G x β) (σ : List CellType) (L : Laid G σ) where
  object-laid : (a : ℕ) (c : List ℕ) (i : ℕ) (v : Variable) → Side σ (x ∷ β) a (object_type c) → get_elem? (fields_of G c) i ≡ some v
      → get_elem? (σ ++ x ∷ β) (a + 1 + i) ≡ some (slot_type (type_of v))
  object-laid a c i v (left e) q = get-append σ (x ∷ β) (a + 1 + i) (L.objects a c i v e q)
  object-laid a c i v (right zero e) q = at_block σ x β i ∙ B.fields c i (some-injective _ _ e) q
  object-laid a c i v (right (suc j) e) q = absurd (object-slot (B.slots j e).1)

  array-laid : (a : ℕ) (t : Element) (n i : ℕ) → Side σ (x ∷ β) a (array_type t n) → i < n
      → get_elem? (σ ++ x ∷ β) (a + 1 + i) ≡ some (slot_type (plain t))
  array-laid a t n i (left e) q = get-append σ (x ∷ β) (a + 1 + i) (L.arrays a t n i e q)
  array-laid a t n i (right zero e) q = at_block σ x β i ∙ B.elements t n i (some-injective _ _ e) q
  array-laid a t n i (right (suc j) e) q = absurd (array-slot (B.slots j e).1)

  grown-laid : Laid G (σ ++ x ∷ β)
  grown-laid =
      record {
        objects = λ a c i v e q. object-laid a c i v (side σ (x ∷ β) a e) q;
        arrays = λ a t n i e q. array-laid a t n i (side σ (x ∷ β) a e) q;
      }

grown : {G : List Class} {σ : List CellType} {h : List Cell} {x : CellType} {β : List CellType} {b : List Cell}
    → Block G x β → HeapTyped G σ h → All2 (CellTyped G (σ ++ x ∷ β)) b (x ∷ β) → HeapTyped G (σ ++ x ∷ β) (h ++ b)
grown {σ} {x} {β} B H q =
    record {
      laid = grown-laid B σ H.laid;
      cells = all2-append (all2-weaken (λ c t o. cell-kept (kept_append σ (x ∷ β)) o) H.cells) q;
    }

-- its place is the heap's length so far
pub new-place : {G : List Class} {σ : List CellType} {h : List Cell} (x : CellType) (β : List CellType) → HeapTyped G σ h
    → get_elem? (σ ++ x ∷ β) (length h) ≡ some x
new-place {σ} {h} x β H =
    let e : length h ≡ length σ + zero = omega (arith, all2-length H.cells) in
    ap (get_elem? (σ ++ x ∷ β)) e ∙ get-append-right σ (x ∷ β) zero

abbrev pub field_types : List Class → List ℕ → List CellType
field_types G c = map (λ v. slot_type (type_of v)) (fields_of G c)

object-block : (G : List Class) (c : List ℕ) → Block G (object_type c) (field_types G c)
object-block G c =
    record {
      slots = λ i e. let w = map_get (λ (v : Variable). slot_type (type_of v)) (fields_of G c) i e in (type_of w.0, sym w.2);
      fields = λ d i e q. get-map (λ (v : Variable). slot_type (type_of v)) (fields_of G c) i (ap (λ (b : List ℕ). get_elem? (fields_of G b) i) (object-inj e) ∙ q);
      elements = λ t n i e q. absurd (object-array e);
    }
  where
    object-inj : {c d : List ℕ} → object_type c ≡ object_type d → c ≡ d
    object-inj e = cc

replicate-at : {A : Type 0} (n : ℕ) (x : A) (i : ℕ) → i < n → get_elem? (replicate n x) i ≡ some x
replicate-at n x i h = get-get_d (replicate n x) i x (simp length-replicate h) ∙ ap some (get_or-replicate n i x x h)

abbrev pub element_types : Element → ℕ → List CellType
element_types t n = replicate n (slot_type (plain t))

array-block : (G : List Class) (t : Element) (n : ℕ) → Block G (array_type t n) (element_types t n)
array-block G t n =
    record {
      slots = λ i e. (plain t, all-at i (all_replicate {P = λ (y : CellType). y ≡ slot_type (plain t)} n (slot_type (plain t)) refl) e);
      fields = λ d i e q. absurd (object-array (sym e));
      elements = λ s m i e q.
          replicate-at n (slot_type (plain t)) i (subst (λ (j : ℕ). i < j) (sym (length-inj e)) q)
          ∙ ap (λ (u : Element). some (slot_type (plain u))) (element-inj e);
    }
  where
    length-inj : {s t : Element} {m n : ℕ} → array_type s m ≡ array_type t n → m ≡ n
    length-inj e = cc

    element-inj : {s t : Element} {m n : ℕ} → array_type s m ≡ array_type t n → s ≡ t
    element-inj e = cc

module _ {G : List Class} {σ : List CellType} {h : List Cell} (H : HeapTyped G σ h) where
  pub object-grown : (c : List ℕ) {k : Class} → class_named G c ≡ some k
      → HeapTyped G (σ ++ object_type c ∷ field_types G c) (h ++ object c ∷ map (λ v. slot (initial (type_of v))) (fields_of G c))
  object-grown c e =
      grown (object-block G c) H
      (all2-cons (c-object e) (all2-map (λ v. slot (initial (type_of v))) (λ v. slot_type (type_of v)) (λ v. c-slot (initial-typed (type_of v))) (fields_of G c)))

  pub array-grown : (t : Element) (n : ℕ) → n < 2 ^ 31
      → HeapTyped G (σ ++ array_type t n ∷ element_types t n) (h ++ array t n ∷ replicate n (slot (initial (plain t))))
  array-grown t n l =
      grown (array-block G t n) H
      (all2-cons (c-array l) (all2-replicate n (slot (initial (plain t))) (slot_type (plain t)) (c-slot (initial-typed (plain t)))))

  -- a store to a slot, of a value of its type
  pub stored : (i : ℕ) {v : Value} {t : Ty} → get_elem? σ i ≡ some (slot_type t) → ValueTyped G σ v t → HeapTyped G σ (set h i (slot v))
  stored i e v = record { laid = H.laid; cells = all2-set i H.cells e (c-slot v) }
