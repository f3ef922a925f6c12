-- What the functions of the operation return meets their contracts.
use Prim.Native.Nat.{ℕ, suc, ◌+◌, ◌*◌, ◌≤◌, ◌<◌, min}
use native.Mathlib.Omega.{arith}
use mathlib.Core.Bool.{Bool, true, false, ◌&&◌}
use mathlib.Core.Path.{◌≡◌, refl, sym, ap, ap₂, ◌∙◌, subst}
use mathlib.Core.List.{List, [], ◌∷◌, ◌++◌, map}
use lib.ListN.{length, get_or, drop, replicate, length-replicate, length-append, length-map, set}
use lib.Seq.{get_or-set_other}
use borrow.Author.Tests.{lt-ltb, le-ltb}
use Rattle.base.specs.Bytes.{same}
use Rattle.base.specs.Choice.{if◌then◌otherwise◌}
use Rattle.base.specs.Codes.{table_least}
use Rattle.base.specs.Outcome.{Outcome, accepted, refused}
use Rattle.base.specs.laws.Lists.{get_d_default, get_d-replicate-same}
use Rattle.base.specs.laws.Tests.{apart}
use Rattle.base.specs.promises.Table.{c_next}
use Rattle.lexer.specs.Kinds.{is_name_lem}
use Rattle.lexer.specs.Tokens.{Token}
use Rattle.lexer.specs.promises.Rows.{first_named}
use Rattle.parser.specs.Tree.{Method, Class, Program}
use Rattle.typesystem.specs.ClassTable.{occurs}
use Rattle.typesystem.specs.Check.{checking}
use Rattle.typesystem.specs.TypingRules.{class_name, method_name}
use Rattle.lookup.specs.promises.HeldClasses.{word_at, NameNumber, ClassTableHeld}
use Rattle.lookup.specs.laws.HeldLaws.{word_in}
use Rattle.declarations.specs.promises.Judgements.{ClassesAt}
use Rattle.reader.specs.promises.WalkPost.{Walkable}
use Rattle.typecheck.specs.promises.CheckPost.{Finding, found, Checked, FindsProgram, Leaves}
use Rattle.codegen.specs.promises.Code.{Instruction, NamedEntry, ClassRow}
use Rattle.codegen.specs.promises.Compile.{end, middle, value_end, end_methods, named_of, rows_of, compile}
use Rattle.writer.specs.promises.Words.{Words, words, encode, put_at, store}
use Rattle.writer.specs.promises.Classes.{end_classes}
use Rattle.writer.specs.promises.Preparing.{CodeWritten, Prepares}
use Rattle.writer.specs.laws.Stored.{StandAt, stored}
use Rattle.writer.specs.laws.Lengths.{sized}
use Rattle.writer.specs.laws.Room.{compile-length}
use Rattle.writer.proofs.PrepareLaws.{tokens_of, classes_of}
use Rattle.frames.specs.Lines.{text}
use Rattle.frames.specs.Encode.{place_of, class_number, declared, once, method_names, tables, frames_of}
use Rattle.frames.specs.Operations as Operations
use Rattle.base.specs.promises.Answers.{write_answer_of, write_result_of}
use Rattle.parser.specs.Read.{table_after}
use Rattle.frames.specs.Operations.{frames_text, encode_result, Encodes}
use Rattle.encoder.specs.declared.plan.Plan.{Plan}
use Rattle.std.specs.Prelude.{Result, Ok, Err}
use Rattle.base.specs.declared.refusal.Reason.TheVariants as reason
use Rattle.base.specs.declared.refusal.Refusal.{Refusal}
use Rattle.base.specs.promises.Refusals.{number_of, refusal}
use Rattle.encoder.specs.promises.Strip.{Puts}
use Rattle.encoder.specs.promises.Frames.{HeldFrom, BehindPost, PlainPost}
use Rattle.encoder.specs.promises.Names.{no_place, numbered, ClassesNumbered, Declared, declared_by, EachPost}
use Rattle.encoder.specs.promises.Tables.{rows_for, Lesson, TablesPost}
use Rattle.encoder.specs.promises.Encoding.{Whole, PassPost, BothPost, WritesFrames}
use Rattle.encoder.specs.laws.Bytes.{puts_then, text-length, leading}
use Rattle.encoder.specs.laws.Order.{place_in, place_none}
use Rattle.encoder.specs.laws.Placing.{program-placed}

-- A PASS

rows_are : (g : Program) → (compile g).rows ≡ rows_for g
unfolding compile
rows_are g = refl

module _ {tab code entries classes marks names : List ℕ} {p : Plan} {before mid after : List ℕ} {m r : ℕ} where
  pub passed : PlainPost code classes marks p 0 p.lines 0 before mid m → TablesPost tab entries names p 0 p.methods m mid after r
      → PassPost tab code entries classes marks names p before after r
  unfolding frames_of
  passed f h =
      record {
        says = λ ts g W.
            puts_then (f.says (first_named ts) (compile g) W.numbers (compile g).instructions W.placed W.held (sym W.numbers.lines))
            (subst (λ (R : List ClassRow). Puts m (tables R (method_names R)) mid after r) (sym (rows_are g))
            (h.says ts g W.lesson (method_names (rows_for g)) (sym W.methods)
            (λ i y q. let z : i ≡ 0 + i = omega arith in subst (λ (j : ℕ). NameNumber ts y (get_or names j 0)) z (W.listed i y q))));
      }

-- TWO PASSES

-- the strip, where it is long enough
written-strip : (g : Program) {before after : List ℕ} {r : ℕ} → Puts 0 (frames_of (compile g)) before after r → length (frames_text g) ≤ length before
    → after ≡ frames_text g ++ drop (length (frames_text g)) before
unfolding frames_text
written-strip g {before} u z = u.strip ∙ leading (text (frames_of (compile g))) before z

bytes-are : (g : Program) {before after : List ℕ} {r : ℕ} → Puts 0 (frames_of (compile g)) before after r → r ≡ length (frames_text g)
unfolding frames_text
bytes-are g u = omega (arith, u.behind, text-length (frames_of (compile g)))

module _ {tab code entries classes marks names : List ℕ} {p : Plan} {empty none' : List ℕ} {bytes : ℕ}
    (n : PassPost tab code entries classes marks names p empty none' bytes) {before : List ℕ} where
  pub frames-short : length before < bytes → BothPost tab code entries classes marks names p before before (refusal reason.FramesTooShort 0)
  frames-short l =
      record {
        says = λ ts g W.
            let z : length before < length (frames_text g) = omega (arith, l, bytes-are g (n.says ts g W)) in
            rw (lt-ltb (length before) (length (frames_text g)) z);
      }

  pub frames-written : bytes ≤ length before → {after : List ℕ} {r : ℕ} → PassPost tab code entries classes marks names p before after r
      → BothPost tab code entries classes marks names p before after (Ok bytes)
  frames-written l {after} {r} u =
      record {
        says = λ ts g W.
            let b = bytes-are g (n.says ts g W) in
            let z : length (frames_text g) ≤ length before = omega (arith, l, b) in
            let e : after ≡ frames_text g ++ drop (length (frames_text g)) before = written-strip g (u.says ts g W) z in
            rw (le-ltb (length before) (length (frames_text g)) z, e, b);
      }

-- THE ARRAYS AT FIRST

filled : (n v i : ℕ) → i < n → get_or {A = ℕ} (replicate n v) i 0 ≡ v
filled n v i low = get_d_default {A = ℕ} (replicate n v) i 0 v (omega (arith, length-replicate {A = ℕ} n v)) ∙ get_d-replicate-same {A = ℕ} n i v

first-most : (ts : List Token) (c : List ℕ) → first_named ts c ≤ length ts
unfolding first_named
first-most [] c = omega arith
first-most (t ∷ ts) c = by (is_name_lem t.kind && same t.text c) (first-most ts c)
  where
    by : (b : Bool) → first_named ts c ≤ length ts → (if b then (λ _. 0) otherwise λ _. first_named ts c + 1) ≤ suc (length ts)
    by true h = omega arith
    by false h = omega arith

-- CODE

put-past : (c : List ℕ) (i : ℕ) (w : Words) (j : ℕ) → 4 * suc i ≤ j → get_or (put_at c i w) j 0 ≡ get_or c j 0
unfolding put_at
put-past c i (words o a b d) j h =
    get_or-set_other (set (set (set c (4 * i) o) (4 * i + 1) a) (4 * i + 2) b) (4 * i + 3) j d 0 (λ e. omega (arith, e, h))
    ∙ get_or-set_other (set (set c (4 * i) o) (4 * i + 1) a) (4 * i + 2) j b 0 (λ e. omega (arith, e, h))
    ∙ get_or-set_other (set c (4 * i) o) (4 * i + 1) j a 0 (λ e. omega (arith, e, h))
    ∙ get_or-set_other c (4 * i) j o 0 (λ e. omega (arith, e, h))

-- what stands behind the code stays
store-past : (ν : List ℕ → ℕ) (k : List Instruction) (i : ℕ) (c : List ℕ) (j : ℕ) → 4 * (i + length k) ≤ j → get_or (store ν k i c) j 0 ≡ get_or c j 0
unfolding store
store-past ν [] i c j h = refl
store-past ν (x ∷ k) i c j h =
    store-past ν k (suc i) (put_at c i (encode ν x)) j (omega (arith, h)) ∙ put-past c i (encode ν x) j (omega (arith, h))

-- NUMBERS OF CLASSES

numbered_is : (ks : List Class) (i j : ℕ) (c : List ℕ) → j + length ks ≤ 2048
    → min (numbered 2048 j ks c) (j + length ks) ≡ j + place_of (map (λ (k : ClassRow). k.name) (rows_of ks i)) c
unfolding numbered place_of rows_of
numbered_is [] i j c h = omega arith
numbered_is (k ∷ ks) i j c h = by (same (class_name k) c) (numbered_is ks (end_methods k.methods i) (j + 1) c (omega (arith, h)))
  where
    by : (b : Bool) → min (numbered 2048 (j + 1) ks c) (j + 1 + length ks) ≡ j + 1 + place_of (map (λ (k : ClassRow). k.name) (rows_of ks (end_methods k.methods i))) c
        → min (if b then (λ _. j) otherwise λ _. numbered 2048 (j + 1) ks c) (j + suc (length ks))
        ≡ j + (if b then (λ _. 0) otherwise λ _. suc (place_of (map (λ (k : ClassRow). k.name) (rows_of ks (end_methods k.methods i))) c))
    by true e = omega arith
    by false e = omega (arith, e)

-- METHOD NAMES

names_of : (M : List Method) (i : ℕ) → map (λ (x : NamedEntry). x.name) (named_of M i) ≡ map method_name M
unfolding named_of
names_of [] i = refl
names_of (F ∷ M) i = ap (λ (l : List (List ℕ)). method_name F ∷ l) (names_of M (suc (value_end F i)))

declared-by : (ks : List Class) (i : ℕ) → declared (rows_of ks i) ≡ declared_by ks
unfolding declared rows_of declared_by
declared-by [] i = refl
declared-by (k ∷ ks) i = ap₂ (λ (a b : List (List ℕ)). a ++ b) (names_of k.methods i) (declared-by ks (end_methods k.methods i))

methods-many : (M : List Method) (i : ℕ) → i + length M ≤ end_methods M i
unfolding end_methods
methods-many [] i = omega arith
methods-many (F ∷ M) i = omega (arith, (sized F.body i).least, (sized F.value (middle F i)).least, methods-many M (suc (value_end F i)))

declared-many : (ks : List Class) (i : ℕ) → i + length (declared_by ks) ≤ end_classes ks i
unfolding declared_by end_classes
declared-many [] i = omega arith
declared-many (k ∷ ks) i =
    omega (arith, length-append (map method_name k.methods) (declared_by ks), length-map k.methods method_name, methods-many k.methods i, declared-many ks (end_methods k.methods i))

none-declared : (ts : List Token) → length ts ≤ 2048 → Declared ts [] (replicate 2049 no_place) (replicate 8192 0) 0
unfolding occurs
none-declared ts few =
    record {
      many = refl;
      seen = λ c e. apart (cc);
      unseen = λ c e. filled 2049 no_place (first_named ts c) (omega (arith, first-most ts c, few));
      listed = λ j c e. apart (cc);
    }

rows_long : (ks : List Class) (i : ℕ) → length (rows_of ks i) ≡ length ks
unfolding rows_of
rows_long [] i = refl
rows_long (k ∷ ks) i = ap suc (rows_long ks (end_methods k.methods i))

-- THE WHOLE

module _ {tab : List ℕ} {tokens many : ℕ} {code entries : List ℕ} (w : Prepares tokens many tab (replicate 32768 255) code (replicate 2048 0) entries)
    {first : ℕ} (e₆ : first ≡ word_at tab c_next 0) {classes : List ℕ} (f : ClassesNumbered tab many first 0 (replicate 2049 2048) classes)
    {marks names : List ℕ} {methods : ℕ} (h : EachPost tab tokens many first 0 (replicate 2049 no_place) (replicate 8192 0) marks names methods)
    {lines : ℕ} (b : BehindPost code 0 8192 lines) (few_classes : many ≤ 2048) where
  abbrev plan : Plan
  plan = record {
    tokens = tokens;
    classes = many;
    lines = lines;
    methods = methods;
    few_classes = few_classes;
  }

  module _ (s : List ℕ) (g : Program) (C : Checked s g (found tokens many) tab) where
    abbrev A : CodeWritten g (found tokens many) tab (replicate 32768 255) code (replicate 2048 0) entries
    A = w.says C.stream g (record { answer = C.answer; ready = C.ready; derived = C.derived })

    abbrev ts : List Token
    ts = A.stream

    abbrev k : List Instruction
    k = (compile g).instructions

    many-tokens : tokens ≡ length ts
    many-tokens = ap tokens_of A.answer

    many-classes : many ≡ length g.classes
    many-classes = ap classes_of A.answer

    lesson : Lesson tab entries plan ts g
    lesson =
        record {
          world = subst (λ (n : ℕ). ClassTableHeld tab n ts g.classes) (sym many-tokens) A.world;
          first = C.ready.first;
          many = sym many-classes;
          derived = A.derived;
          typed = C.typed;
          before = replicate 2048 0;
          room = omega (arith, length-replicate {A = ℕ} 2048 0, A.world.tokens.few);
          entered = A.entries-are;
        }

    held : HeldFrom code (first_named ts) 0 k
    held =
        record {
          at = λ j x e.
              subst (λ (l : List ℕ). StandAt l (0 + j) (encode (first_named ts) x)) (sym A.code_is)
              (stored (first_named ts) k 0 j (replicate 32768 255) (omega (arith, A.room, length-replicate {A = ℕ} 32768 255)) e);
        }

    lines_are : lines ≡ length k
    lines_are =
        omega (
          arith,
          b.says (first_named ts) k held A.room (λ l.
              let q : get_or code (4 * (0 + length k)) 0 ≡ 255
              = ap (λ (c : List ℕ). get_or c (4 * (0 + length k)) 0) A.code_is ∙ store-past (first_named ts) k 0 (replicate 32768 255) (4 * (0 + length k)) (omega arith) ∙ filled 32768 255 (4 * (0 + length k)) (omega (arith, l)) in
              omega (arith, q)),
        )

    at_first : ClassesAt tab tokens ts g.classes many first
    at_first =
        record { here = sym (e₆ ∙ word_in tab c_next 0 (omega arith) C.ready.first); stand = lesson.world.classes; few = omega (arith, many-classes) }

    few-names : (c : List ℕ) → first_named ts c < 2049
    few-names c = omega (arith, first-most ts c, A.world.tokens.few)

    class-is : (c : List ℕ) → min (get_or classes (first_named ts c) 0) many ≡ class_number (rows_for g) c
    class-is c =
        let n : get_or classes (first_named ts c) 0 ≡ numbered 2048 0 g.classes c
        = f.says (omega (arith, length-replicate {A = ℕ} 2049 2048)) tokens ts lesson.world.tokens g.classes at_first c ∙ ap (λ (v : ℕ). numbered v 0 g.classes c) (filled 2049 2048 (first_named ts c) (few-names c)) in
        let m : many ≡ 0 + length g.classes = omega (arith, many-classes) in
        ap₂ min n m ∙ numbered_is g.classes (suc (end g.statement 0)) 0 c (omega (arith, A.world.few, A.world.tokens.few)) ∙ omega arith

    all-declared : Declared ts (method_names (rows_for g)) marks names methods
    all-declared =
        let i = suc (end g.statement 0) in
        subst (λ (xs : List (List ℕ)). Declared ts (once [] xs) marks names methods) (sym (declared-by g.classes i))
        (h.says (omega (arith, length-replicate {A = ℕ} 2049 no_place)) ts lesson.world.tokens g.classes at_first []
        (none-declared ts A.world.tokens.few)
        (omega (arith, length-replicate {A = ℕ} 8192 0, declared-many g.classes i, compile-length g, A.room)))

    method-is : (m : List ℕ) → min (get_or marks (first_named ts m) 0) methods ≡ place_of (method_names (rows_for g)) m
    method-is m = by (occurs m (method_names (rows_for g))) refl
      where
        by : (o : Bool) → occurs m (method_names (rows_for g)) ≡ o → min (get_or marks (first_named ts m) 0) methods ≡ place_of (method_names (rows_for g)) m
        by true q = omega (arith, all-declared.seen m q, place_in (method_names (rows_for g)) m q, all-declared.many)
        by false q = omega (arith, all-declared.unseen m q, place_none (method_names (rows_for g)) m q, all-declared.many, h.within, many-classes, A.world.few, A.world.tokens.few)

    whole : Whole tab code entries classes marks names plan ts g
    whole =
        record {
          lesson = lesson;
          numbers = record {
            lines = lines_are;
            rows = many-classes ∙ sym (rows_long g.classes (suc (end g.statement 0))) ∙ ap length (sym (rows_are g));
            class = λ c. class-is c ∙ ap (λ (R : List ClassRow). class_number R c) (sym (rows_are g));
            method = λ m. method-is m ∙ ap (λ (R : List ClassRow). place_of (method_names R) m) (sym (rows_are g));
          };
          placed = program-placed g C.typed;
          held = held;
          methods = all-declared.many;
          listed = all-declared.listed;
        }

  pub all-written : {before after : List ℕ} {r : Result ℕ Refusal} → BothPost tab code entries classes marks names plan before after r
      → WritesFrames tab tokens many before (write_result_of r after)
  all-written u = record { says = λ s g C. u.says (ts s g C) g (whole s g C) }

-- WHAT IS ASKED

pub lines-few : {code : List ℕ} {r : ℕ} → BehindPost code 0 8192 r → r ≤ 8192
lines-few b = omega (arith, b.within)

pub methods-few : {tab : List ℕ} {n left row : ℕ} {a b c d : List ℕ} {r : ℕ} → left ≤ 2048 → EachPost tab n left row 0 a b c d r → r ≤ 4194304
methods-few l h = omega (arith, l, h.within)

found-few : (s tab : List ℕ) {n k : ℕ} {f : Finding} → Leaves s (checking s) f tab → f ≡ found n k → (n ≤ 2048) × (k ≤ 2048)
found-few s tab {n} {k} {f} l is = by (checking s) l.finds
  where
    by : (v : Outcome Program) → FindsProgram s v f tab → (n ≤ 2048) × (k ≤ 2048)
    by (accepted p) a =
        let e = a.answer in
        let t : length a.stream ≡ n = ap tokens_of (sym e ∙ is) in
        let c : length p.classes ≡ k = ap classes_of (sym e ∙ is) in
        (omega (arith, t, a.ready.world.tokens.few), omega (arith, c, a.ready.world.few, a.ready.world.tokens.few))
    by (refused m i) a = let e = a in apart (cc)

pub found-walkable : {s tab : List ℕ} {n k : ℕ} {f : Finding} → Leaves s (checking s) f tab → f ≡ found n k → table_least ≤ length tab → Walkable tab n
found-walkable {s} {tab} l is long = record { big = long; few = (found-few s tab l is).0 }

pub found-classes : {s tab : List ℕ} {n k : ℕ} {f : Finding} → Leaves s (checking s) f tab → f ≡ found n k → k ≤ 2048
found-classes {s} {tab} l is = (found-few s tab l is).1

-- THE ANSWER

module _ (s : List ℕ) (f : Finding) (middle before : List ℕ) (l : Leaves s (checking s) f middle) where
  pub answer-found : {n k : ℕ} → f ≡ found n k → (r : Result ℕ Refusal) {after : List ℕ} → WritesFrames middle n k before (write_result_of r after)
      → write_result_of r after ≡ encode_result (checking s) before
  answer-found {n} {k} is r {after} g = go (checking s) (subst (λ (y : Finding). Leaves s (checking s) y middle) is l).finds
    where
      go : (w : Outcome Program) → FindsProgram s w (found n k) middle → write_result_of r after ≡ encode_result w before
      go (accepted p) h = g.says s p h
      go (refused m q) h = let z = h in apart (cc)

  pub answer-unfit : {q : Refusal} → f ≡ Err q → write_result_of (Err q) before ≡ encode_result (checking s) before
  answer-unfit {q} is = go (checking s) l.finds
    where
      go : (w : Outcome Program) → FindsProgram s w f middle → write_result_of (Err q) before ≡ encode_result w before
      go (accepted p) h = let z = h.answer in apart (cc)
      go (refused m p) h =
          let z = h in
          let a : number_of q.reason ≡ m = cc in
          let b : q.position ≡ p = cc in
          rw (a, b)

-- THE OPERATION

module _ (s table before : List ℕ) where
  pub encode-short : length table < table_least → Encodes s table before (write_answer_of (refusal reason.TableTooShort 0)) table before
  unfolding Operations.encode table_after
  encode-short h = record { answer = rw (lt-ltb (length table) table_least h); cleared = rw (lt-ltb (length table) table_least h) }

  pub encode-answer : table_least ≤ length table → (r : Result ℕ Refusal) (middle : List ℕ) {last after : List ℕ}
      → write_result_of r after ≡ encode_result (checking s) before → length middle ≡ length table
      → last ≡ replicate (length middle) 0 → Encodes s table before (write_answer_of r) last after
  unfolding Operations.encode table_after
  encode-answer long r middle m same zeros =
      record { answer = rw (le-ltb (length table) table_least long) m; cleared = rw (le-ltb (length table) table_least long) (zeros ∙ ap (λ (k : ℕ). replicate k 0) same) }
