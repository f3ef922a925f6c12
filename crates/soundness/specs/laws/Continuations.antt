-- One rule for each way in which `plan` takes something apart: a property of requests that holds of `stuck` and of every fault holds of
-- the whole if it holds of what is gone on with. What is gone on with after a look-up may use that the look-up succeeded. And one rule
-- for what a run reports after a turn.
use Rattle.std.specs.Prelude.{ℕ, zero, suc, ◌+◌, Bool, List, [], ◌∷◌, ◌≡◌, refl, length, ltb}
use Rattle.std.proofs.Math.Option.{Option, none, some}
use Rattle.std.proofs.Math.ListN.{get_elem?}
use Rattle.std.proofs.Common.{length-set}
use Rattle.base.specs.Choice.{if◌then◌otherwise◌}
use Rattle.base.specs.Codes.{null_reference}
use Rattle.parser.specs.Tree.{Element, Place, Operator, Class}
use Rattle.typesystem.specs.ClassTable.{Context, Meaning, Meaning.of_row, Meaning.of_object, meaning, meaning_type}
use Rattle.typing.specs.laws.Choices.{by-test}
use Rattle.semantics.specs.Machine.{Value, Value.number, Value.thousandths, Value.flag, Value.null, Value.array_at, Value.object_at, Cell, Cell.object, Cell.array, Cell.slot, Call, Call.frame, Core, Request, Request.fault, Request.stuck}
use Rattle.semantics.specs.Machine.{need, require, pop, pop_many, as_number, as_thousandths, as_printed, as_flag, as_array, as_object, as_slot, as_object_cell, as_array_cell, innermost, cell_at, array_cell, under_bound, read_meaning, read_name, of_kind, write_meaning, write_name, apply, apply_fixed, operated}
use Rattle.semantics.specs.Limits.{Meters, Ending, Progress, next, stop, Report, size_of, report, after}

pub record Closed (Q : Request Core → Type 0) : Type 0 where
  pub at-stuck : Q stuck
  pub at-fault : (k p : ℕ) → Q (fault k p)

module _ {Q : Request Core → Type 0} (q : Closed Q) where
  pub need-by : {A : Type 0} (o : Option A) (k : A → Request Core) → ((a : A) → o ≡ some a → Q (k a)) → Q (need o k)
  need-by none k f = q.at-stuck
  need-by (some a) k f = f a refl

  pub require-by : (b : Bool) (k : Unit {0} → Request Core) → Q (k tt) → Q (require b k)
  require-by b k f = by-test Q b k _ (λ _. f) (λ _. q.at-stuck)

  pub pop-by : (vs : List Value) (k : Value → List Value → Request Core) → ((v : Value) (ws : List Value) → Q (k v ws)) → Q (pop vs k)
  pop-by [] k f = q.at-stuck
  pop-by (v ∷ vs) k f = f v vs

  pub pop_many-by : (n : ℕ) (got vs : List Value) (k : List Value → List Value → Request Core) → ((xs ws : List Value) → Q (k xs ws))
      → Q (pop_many n got vs k)
  pop_many-by zero got vs k f = f got vs
  pop_many-by (suc n) got [] k f = q.at-stuck
  pop_many-by (suc n) got (v ∷ vs) k f = pop_many-by n (v ∷ got) vs k f

  pub number_by : (v : Value) (k : ℕ → Request Core) → ((n : ℕ) → Q (k n)) → Q (as_number v k)
  number_by (number n) k f = f n
  number_by (thousandths n) k f = q.at-stuck
  number_by (flag b) k f = q.at-stuck
  number_by null k f = q.at-stuck
  number_by (array_at a) k f = q.at-stuck
  number_by (object_at a) k f = q.at-stuck

  thousandths-by : (v : Value) (k : ℕ → Request Core) → ((n : ℕ) → Q (k n)) → Q (as_thousandths v k)
  thousandths-by (number n) k f = q.at-stuck
  thousandths-by (thousandths n) k f = f n
  thousandths-by (flag b) k f = q.at-stuck
  thousandths-by null k f = q.at-stuck
  thousandths-by (array_at a) k f = q.at-stuck
  thousandths-by (object_at a) k f = q.at-stuck

  pub printed-by : (v : Value) (k : ℕ → Request Core) → ((n : ℕ) → Q (k n)) → Q (as_printed v k)
  printed-by (number n) k f = f n
  printed-by (thousandths n) k f = f n
  printed-by (flag b) k f = q.at-stuck
  printed-by null k f = q.at-stuck
  printed-by (array_at a) k f = q.at-stuck
  printed-by (object_at a) k f = q.at-stuck

  pub operated-by : (o : Operator) (x y : Value) (k : Value → Request Core) → ((v : Value) → Q (k v)) → Q (operated o x y k)
  operated-by o (number a) y k f = number_by y _ (λ b. need-by (apply o a b) k (λ v _. f v))
  operated-by o (thousandths a) y k f = thousandths-by y _ (λ b. need-by (apply_fixed o a b) k (λ v _. f v))
  operated-by o (flag a) y k f = q.at-stuck
  operated-by o null y k f = q.at-stuck
  operated-by o (array_at a) y k f = q.at-stuck
  operated-by o (object_at a) y k f = q.at-stuck

  pub flag_by : (v : Value) (k : Bool → Request Core) → ((b : Bool) → Q (k b)) → Q (as_flag v k)
  flag_by (number n) k f = q.at-stuck
  flag_by (thousandths n) k f = q.at-stuck
  flag_by (flag b) k f = f b
  flag_by null k f = q.at-stuck
  flag_by (array_at a) k f = q.at-stuck
  flag_by (object_at a) k f = q.at-stuck

  pub array-by : (p : Place) (v : Value) (k : ℕ → Request Core) → ((a : ℕ) → Q (k a)) → Q (as_array p v k)
  array-by p (number n) k f = q.at-stuck
  array-by p (thousandths n) k f = q.at-stuck
  array-by p (flag b) k f = q.at-stuck
  array-by p null k f = q.at-fault null_reference p.start
  array-by p (array_at a) k f = f a
  array-by p (object_at a) k f = q.at-stuck

  pub object-by : (p : Place) (v : Value) (k : ℕ → Request Core) → ((a : ℕ) → Q (k a)) → Q (as_object p v k)
  object-by p (number n) k f = q.at-stuck
  object-by p (thousandths n) k f = q.at-stuck
  object-by p (flag b) k f = q.at-stuck
  object-by p null k f = q.at-fault null_reference p.start
  object-by p (array_at a) k f = q.at-stuck
  object-by p (object_at a) k f = f a

  pub slot-by : (x : Cell) (k : Value → Request Core) → ((v : Value) → Q (k v)) → Q (as_slot x k)
  slot-by (object c) k f = q.at-stuck
  slot-by (array t n) k f = q.at-stuck
  slot-by (slot v) k f = f v

  pub object-cell-by : (x : Cell) (k : List ℕ → Request Core) → ((c : List ℕ) → Q (k c)) → Q (as_object_cell x k)
  object-cell-by (object c) k f = f c
  object-cell-by (array t n) k f = q.at-stuck
  object-cell-by (slot v) k f = q.at-stuck

  array-cell-by : (x : Cell) (k : Element → ℕ → Request Core) → ((t : Element) (n : ℕ) → Q (k t n)) → Q (as_array_cell x k)
  array-cell-by (object c) k f = q.at-stuck
  array-cell-by (array t n) k f = f t n
  array-cell-by (slot v) k f = q.at-stuck

  pub choice-by : (b : Bool) (x y : Unit {0} → Request Core) → Q (x tt) → Q (y tt) → Q (if b then x otherwise y)
  choice-by b x y f g = by-test Q b x y (λ _. f) (λ _. g)

  pub innermost-by : (cs : List Call) (k : ℕ → Context → List Value → List Call → Request Core)
      → ((a : ℕ) (Γ : Context) (xs : List Value) (ds : List Call) → cs ≡ frame a Γ xs ∷ ds → Q (k a Γ xs ds)) → Q (innermost cs k)
  innermost-by [] k f = q.at-stuck
  innermost-by (frame a Γ xs ∷ cs) k f = f a Γ xs cs refl

  pub cell-by : (h : List Cell) (a n : ℕ) (k : Value → Request Core) → ((v : Value) → Q (k v)) → Q (cell_at h a n k)
  cell-by h a n k f = need-by (get_elem? h (a + 1 + n)) _ (λ x _. slot-by x k f)

  pub array-at-by : (h : List Cell) (a : ℕ) (k : Element → ℕ → Request Core) → ((t : Element) (n : ℕ) → Q (k t n)) → Q (array_cell h a k)
  array-at-by h a k f = need-by (get_elem? h a) _ (λ x _. array-cell-by x k f)

  pub under-bound-by : (k : ℕ) (p : Place) (i n : ℕ) (r : Request Core) → Q r → Q (under_bound k p i n r)
  under-bound-by k p i n r f = choice-by (ltb i n) _ _ f (q.at-fault k p.start)

  read-meaning-by : (a : ℕ) (xs : List Value) (h : List Cell) (m : Meaning) (k : Value → Request Core) → ((v : Value) → Q (k v))
      → Q (read_meaning a xs h m k)
  read-meaning-by a xs h (of_row s) k f = need-by (get_elem? xs s.place) k (λ v _. f v)
  read-meaning-by a xs h (of_object s) k f = cell-by h a s.place k f

  pub read_by : (G : List Class) (cs : List Call) (h : List Cell) (x : List ℕ) (k : Value → Request Core) → ((v : Value) → Q (k v))
      → Q (read_name G cs h x k)
  unfolding read_name
  read_by G cs h x k f = innermost-by cs _ (λ a Γ xs ds _. need-by (meaning G Γ x) _ (λ m _. read-meaning-by a xs h m k f))

  write-meaning-by : (a : ℕ) (Γ : Context) (xs : List Value) (cs : List Call) (h : List Cell) (m : Meaning) (v : Value) (k : List Call → List Cell → Request Core)
      → ((ds : List Call) (g : List Cell) → length ds ≡ suc (length cs) → length g ≡ length h → Q (k ds g))
      → Q (write_meaning a Γ xs cs h m v k)
  write-meaning-by a Γ xs cs h (of_row s) v k f = need-by (get_elem? xs s.place) _ (λ _ _. f _ _ refl refl)
  write-meaning-by a Γ xs cs h (of_object s) v k f = cell-by h a s.place _ (λ _. f _ _ refl (length-set h (a + 1 + s.place) (slot v)))

  pub write-by : (G : List Class) (cs : List Call) (h : List Cell) (x : List ℕ) (v : Value) (k : List Call → List Cell → Request Core)
      → ((ds : List Call) (g : List Cell) → length ds ≡ length cs → length g ≡ length h → Q (k ds g)) → Q (write_name G cs h x v k)
  unfolding write_name
  write-by G cs h x v k f =
      innermost-by cs _ (λ a Γ xs ds e. need-by (meaning G Γ x) _ (λ m _. require-by (of_kind (meaning_type m) v) _
      (write-meaning-by a Γ xs ds h m v k (λ es g l n. f es g (rw e l) n))))

-- what holds of a turn's outcome passes on to the report: of the run that goes on, or of the end
pub after-by : (P : Progress Core → Type 0) (Q : Report → Type 0) (k : Core → Meters → Report) (c : Core) (m : Meters)
    → ((d : Core) (n : Meters) → P (next d n) → Q (k d n))
    → ((e : Ending) → P (stop e) → Q (report e (size_of c) m)) → (o : Progress Core) → P o → Q (after size_of k c m o)
after-by P Q k c m f g (next d n) h = f d n h
after-by P Q k c m f g (stop e) h = g e h
