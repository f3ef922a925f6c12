-- The frames of an accepted source are a stage for its code: its bounds come from its tokens, of which there are at most 2,048.
use Rattle.std.specs.Prelude.{ℕ, zero, suc, ◌+◌, ◌-◌, ◌*◌, ◌%◌, ◌^◌, ◌≤◌, ◌<◌, Bool, true, false, ◌≡◌, refl, length}
use Rattle.std.proofs.Common.{mul-le-mul_right, mul-le-mul_left, arith, sym, ap, ◌∙◌, subst, length-append}
use mathlib.Core.List.{List, [], ◌∷◌, ◌++◌, map}
use Rattle.std.proofs.Math.Option.{Option, none, some, some-injective}
use Rattle.std.proofs.Math.ListN.{get_elem?}
use Rattle.std.proofs.lemmas.List.{length-map}
use Rattle.base.specs.All.{All, all_nil, all_cons}
use Rattle.base.specs.Bytes.{same}
use Rattle.base.specs.Choice.{if◌then◌otherwise◌, option}
use Rattle.base.specs.Codes.{tokens_most}
use Rattle.base.specs.Outcome.{accepted}
use Rattle.base.specs.laws.Lists.{all-at, get-append, get-map, get-below}
use Rattle.lexer.specs.Tokens.{Token, tokens}
use Rattle.lexer.proofs.laws.RowLaws.{Sequence, finish, follow, sequence}
use Rattle.parser.specs.Tree.{Variable, Method, Class, Program}
use Rattle.parser.specs.Grammar.{DerivesMethod, DerivesMethods, DerivesClass, DerivesClasses, DerivesProgram}
use Rattle.parser.specs.Grammar.{DerivesMethod.a-method, DerivesMethods.no-method, DerivesMethods.more-methods}
use Rattle.parser.specs.Grammar.{DerivesClass.a-class-declaration, DerivesClasses.no-class, DerivesClasses.more-classes, DerivesProgram.a_program}
use Rattle.reader.specs.laws.Stored.{variable-lies, variables-lie, formals-lie, parent-order}
use Rattle.reader.specs.laws.Counting.{tree-nodes}
use Rattle.typesystem.specs.ClassTable.{Found, chain, method_of}
use Rattle.typesystem.specs.TypingRules.{ProgramTyped}
use Rattle.typing.specs.laws.Choices.{taken, held, none-some}
use Rattle.typing.specs.laws.ClassTableLaws.{method-declares}
use Rattle.typing.specs.laws.Members.{method_of-has}
use Rattle.typing.specs.laws.Programs.{table-acyclic}
use Rattle.semantics.specs.Machine.{Value, initial, Climbed, from_above, search}
use Rattle.semantics.specs.Limits.{Limits}
use Rattle.soundness.specs.laws.Search.{search-found}
use Rattle.soundness.specs.laws.StateTyping.{LiteralsFit}
use Rattle.codegen.specs.promises.Code as Code
use Rattle.codegen.specs.promises.Code.{Instruction, Entry, NamedEntry, ClassRow, row_named, entry_named, climb}
use Rattle.codegen.specs.promises.Compile.{end, middle, value_end, end_methods, entry_for, named_of, parent_of, rows_of, compile}
use Rattle.codegen.proofs.laws.Layout.{EntryOf, compiled}
use Rattle.codegen.proofs.laws.WordRuns.{initial-word}
use Rattle.codegen.proofs.laws.Dispatch.{Both, neither, both, LeadsFrom, finds}
use Rattle.codegen.specs.promises.Words.{word_of}
use Rattle.writer.specs.laws.Lengths.{sized}
use Rattle.writer.specs.laws.Room.{program-room, compile-length}
use Rattle.writer.specs.promises.Classes.{end_classes}
use Rattle.frames.specs.Lines.{Line, line}
use Rattle.frames.specs.Machine.{Around}
use Rattle.frames.specs.Encode.{place_of, class_number, declared, once, method_names, tables, table_line_lem, frame_of, frames_of}
use Rattle.framing.proofs.laws.Holding.{Worded}
use Rattle.framing.proofs.laws.Taking.{reduced}
use Rattle.framing.proofs.laws.Simulating.{Fitting, Stage, initial-worded}
use Rattle.framing.proofs.laws.Tables.{place-most, once-most, table-found}
use Rattle.framing.proofs.laws.Fitness.{program-fits}

-- TOKENS AND CLASSES

few-from : {s : List ℕ} {count i : ℕ} {ts : List Token} → count ≤ tokens_most → Sequence s count i ts → count + length ts ≤ tokens_most
few-from h finish = omega arith
few-from h (follow c l o r) = omega (arith, few-from (omega arith) r)

pub few-tokens : (s : List ℕ) (ts : List Token) → tokens s ≡ accepted ts → length ts ≤ tokens_most
few-tokens s ts e = omega (arith, few-from (omega arith) (sequence s ts e))

module _ {ts : List Token} where
  methods-order : {i j : ℕ} {M : List Method} → DerivesMethods ts i j M → i ≤ j
  methods-order no-method = omega arith
  methods-order (more-methods (a-method _ head _ ps _ _ ls d _ d' _ _) r) =
      omega (arith, (variable-lies head).2.order, (formals-lie ps).order, (variables-lie ls).order, tree-nodes d, tree-nodes d', methods-order r)

  classes-few : {i j : ℕ} {ks : List Class} → DerivesClasses ts i j ks → i + length ks ≤ j
  classes-few no-class = omega arith
  classes-few (more-classes (a-class-declaration _ _ p _ fs ms _) r) =
      omega (arith, parent-order p, (variables-lie fs).order, methods-order ms, classes-few r)

  pub few-classes : {p : Program} → DerivesProgram ts p → length p.classes ≤ length ts
  few-classes (a_program _ d _ _ ks) = omega (arith, classes-few ks)

rows_long : (ks : List Class) (i : ℕ) → length (rows_of ks i) ≡ length ks
unfolding rows_of
rows_long [] i = refl
rows_long (k ∷ ks) i = ap suc (rows_long ks (end_methods k.methods i))

-- METHODS: each has an instruction at least, and its address is a place of the code

methods-many : (M : List Method) (i : ℕ) → i + length (map (λ (x : NamedEntry). x.name) (named_of M i)) ≤ end_methods M i
unfolding named_of end_methods
methods-many [] i = omega arith
methods-many (F ∷ M) i =
    omega (arith, (sized F.body i).least, (sized F.value (middle F i)).least, methods-many M (suc (value_end F i)))

declared-many : (ks : List Class) (i : ℕ) → i + length (declared (rows_of ks i)) ≤ end_classes ks i
unfolding declared rows_of end_classes
declared-many [] i = omega arith
declared-many (k ∷ ks) i =
    omega (arith, length-append (map (λ (x : NamedEntry). x.name) (named_of k.methods i)) (declared (rows_of ks (end_methods k.methods i))), methods-many k.methods i, declared-many ks (end_methods k.methods i))

abbrev Addressed : ℕ → NamedEntry → Type 0
Addressed n x = x.entry.address ≤ n

methods-addressed : (M : List Method) (i n : ℕ) → end_methods M i ≤ n → All (Addressed n) (named_of M i)
unfolding named_of end_methods
methods-addressed [] i n l = all_nil
methods-addressed (F ∷ M) i n l =
    all_cons {x = record { name = F.name.text; entry = entry_for F i }} (omega (arith, (sized F.body i).least, (sized F.value (middle F i)).least, methods-many M (suc (value_end F i))))
    (methods-addressed M (suc (value_end F i)) n l)

classes-grow : (ks : List Class) (i : ℕ) → i ≤ end_classes ks i
classes-grow ks i = omega (arith, declared-many ks i)

rows-addressed : (ks : List Class) (i n : ℕ) → end_classes ks i ≤ n → All (λ (k : ClassRow). All (Addressed n) k.methods) (rows_of ks i)
unfolding rows_of end_classes
rows-addressed [] i n l = all_nil
rows-addressed (k ∷ ks) i n l =
    all_cons {x = record { name = k.name.text; parent = parent_of k; methods = named_of k.methods i }}
    (methods-addressed k.methods i n (omega (arith, classes-grow ks (end_methods k.methods i)))) (rows-addressed ks (end_methods k.methods i) n l)

row-all : {Q : ClassRow → Type 0} (R : List ClassRow) (c : List ℕ) {k : ClassRow} → All Q R → row_named R c ≡ some k → Q k
unfolding row_named
row-all [] c all_nil e = absurd (none-some refl e)
row-all {Q} (r ∷ R) c {k} (all_cons p h) e =
    taken (same r.name c) _ _ e (λ s q. subst Q (some-injective r k q) p) (λ s q. row-all R c h q)

entry-all : (Q : Entry → Type 0) (xs : List NamedEntry) (m : List ℕ) {E : Entry} → All (λ (x : NamedEntry). Q x.entry) xs → entry_named xs m ≡ some E → Q E
unfolding entry_named
entry-all Q [] m all_nil e = absurd (none-some refl e)
entry-all Q (x ∷ xs) m {E} (all_cons p h) e =
    taken (same x.name m) _ _ e (λ s q. subst Q (some-injective x.entry E q) p) (λ s q. entry-all Q xs m h q)

climb-addressed : (k : ℕ) (R : List ClassRow) (c m : List ℕ) (n : ℕ) {e : Climbed Entry} → All (λ (k : ClassRow). All (Addressed n) k.methods) R
    → climb k R c m ≡ some e → e.found.address ≤ n
unfolding climb
climb-addressed zero R c m n a q = absurd (none-some refl q)
climb-addressed (suc k) R c m n {e} a q =
    held (row_named R c) q (λ _ z. absurd (none-some refl z)) (λ r w z.
    held (entry_named r.methods m) z
    (λ _ y. held r.parent y (λ _ w. absurd (none-some refl w)) (λ d _ w.
    held (climb k R d m) w (λ _ v. absurd (none-some refl v)) (λ u v x.
    let i = climb-addressed k R d m n a v in
    subst (λ (y : Climbed Entry). y.found.address ≤ n) (some-injective (from_above u) e x) i)))
    (λ E f x. subst (λ (y : Climbed Entry). y.found.address ≤ n) (some-injective (record { found = E; visits = 1 }) e x)
    (entry-all (λ E. E.address ≤ n) r.methods m (row-all R c a w) f)))

-- THE STAGE

-- the lines of a program, as they are read back
abbrev pub lines_of : Program → List Line
lines_of p = map reduced (frames_of (compile p))

abbrev pub around_for : Program → (tape : List ℕ) → (calls : ℕ) → Around
around_for p tape calls = record { lines = lines_of p; tape = tape; calls = calls }

locals-worded : (vs : List Variable) → All (Worded 0) (map (λ v. initial v.type.type) vs)
locals-worded [] = all_nil
locals-worded (v ∷ vs) = all_cons {x = initial v.type.type} (initial-worded v.type.type) (locals-worded vs)

locals-zero : (vs : List Variable) → All (λ (v : Value). word_of v ≡ 0) (map (λ v. initial v.type.type) vs)
locals-zero [] = all_nil
locals-zero (v ∷ vs) = all_cons (initial-word v.type.type) (locals-zero vs)

found-both : {A B : Type 0} {Q : A → B → Type 0} {o : Option A} {u : Option B} {b : B} → Both Q o u → u ≡ some b → (a : A) × (o ≡ some a) × Q a b
found-both neither e = absurd (none-some refl e)
found-both {Q = Q} {b = b} (both {a = a} {b = d} q) e = (a, refl, subst (Q a) (some-injective d b e) q)

module _ {ts : List Token} (p : Program) (D : DerivesProgram ts p) (few : length ts ≤ tokens_most) (T : ProgramTyped p) (F : LiteralsFit p) where
  ends : end_classes p.classes (suc (end p.statement 0)) ≤ 6144
  ends = omega (arith, program-room D)

  rows_few : length (compile p).rows ≤ 2048
  unfolding compile
  rows_few = omega (arith, rows_long p.classes (suc (end p.statement 0)), few-classes D)

  names-few : length (method_names (compile p).rows) ≤ 6144
  unfolding compile
  names-few =
      omega (arith, once-most [] (declared (rows_of p.classes (suc (end p.statement 0)))), declared-many p.classes (suc (end p.statement 0)), ends)

  places-few : length (compile p).instructions ≤ 8192
  places-few = omega (arith, compile-length p, ends)

  table_below : (m : List ℕ) → table_line_lem (compile p) m < 2 ^ 24
  table_below m =
      let a = place-most (method_names (compile p).rows) m in
      let b : length (compile p).rows * place_of (method_names (compile p).rows) m ≤ 2048 * place_of (method_names (compile p).rows) m
      = mul-le-mul_right (place_of (method_names (compile p).rows) m) rows_few in
      omega (arith, a, b, names-few, places-few)

  addressed : (c m : List ℕ) (e : Climbed Entry) → climb (length (compile p).rows) (compile p).rows c m ≡ some e → e.found.address ≤ 6144
  unfolding compile
  addressed c m e q = climb-addressed (length (compile p).rows) (compile p).rows c m 6144 (rows-addressed p.classes (suc (end p.statement 0)) 6144 ends) q

  shaped-so : (c m : List ℕ) (e : Climbed Entry) → climb (length (compile p).rows) (compile p).rows c m ≡ some e
      → (e.found.parameters + length e.found.locals ≤ 32) × All (Worded 0) e.found.locals × All (λ (v : Value). word_of v ≡ 0) e.found.locals
  shaped-so c m e q =
      let b = found-both (finds p.classes (compile p).instructions (compiled p).classes m c) q in
      let E = b.2.0 in
      let M = b.0.found.method in
      let d = method-declares T.classes (method_of-has (table-acyclic T.classes) c m (search-found p.classes c m b.1)) in
      let l : length M.locals ≡ length e.found.locals = sym (length-map M.locals (λ v. initial v.type.type)) ∙ ap length E.locals in (
        omega (arith, E.parameters, l, d.typed.few, length-append M.parameters M.locals),
        subst (All (Worded 0)) E.locals (locals-worded M.locals),
        subst (All (λ (v : Value). word_of v ≡ 0)) E.locals (locals-zero M.locals),
      )

  line_at : (i : ℕ) (x : Instruction) → get_elem? (compile p).instructions i ≡ some x → get_elem? (lines_of p) i ≡ some (reduced (frame_of (compile p) x))
  unfolding frames_of
  line_at i x e =
      get-map reduced (frames_of (compile p)) i
      (get-append (map (frame_of (compile p)) (compile p).instructions) (tables (compile p).rows (method_names (compile p).rows)) i
      (get-map (frame_of (compile p)) (compile p).instructions i e))

  entry_at : (c m : List ℕ) (e : Climbed Entry) → climb (length (compile p).rows) (compile p).rows c m ≡ some e
      → get_elem? (lines_of p) (table_line_lem (compile p) m + class_number (compile p).rows c) ≡ some (line 22 e.found.address)
  entry_at c m e q =
      let z : e.found.address % 2 ^ 32 ≡ e.found.address = omega (arith, addressed c m e q) in
      get-map reduced (frames_of (compile p)) _ (table-found (compile p) c m e q) ∙ ap (λ (a : ℕ). some (line 22 a)) z

  pub staged : (L : Limits) (tape : List ℕ) → L.calls ≤ 64 → L.heap ≤ 16384 → Stage (compile p) L (around_for p tape L.calls)
  staged L tape calls heap =
      record {
        lines = line_at;
        fitting = λ i x e. all-at i (program-fits p 8192 T F (omega (arith, ends))) e;
        few-places = places-few;
        few-classes = λ c. omega (arith, place-most (map (λ (k : ClassRow). k.name) (compile p).rows) c, length-map (compile p).rows (λ (k : ClassRow). k.name), rows_few);
        table-small = table_below;
        table_at = entry_at;
        shaped = shaped-so;
        same-calls = refl;
        few-calls = calls;
        small-heap = heap;
      }
