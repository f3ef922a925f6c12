-- What the instructions of a typed program hold: literals are words, targets are places of the code, a call has at most 32 arguments, and
-- the cells of a new object are worded and 0.
use Rattle.std.specs.Prelude.{ℕ, zero, suc, ◌+◌, ◌*◌, ◌≤◌, ◌<◌, Bool, true, false, ◌≡◌, length}
use native.Mathlib.Omega.{arith}
use mathlib.Core.List.{List, [], ◌∷◌, ◌++◌, map}
use Rattle.std.proofs.Math.Path.{refl}
use Rattle.std.proofs.Common.{sym, ap, ◌∙◌, length-append}
use Rattle.std.proofs.lemmas.List.{length-map}
use Rattle.base.specs.All.{All, all_nil, all_cons}
use Rattle.parser.specs.Tree.{Operator, Operator.and, Operator.less, Operator.plus, Operator.minus, Operator.times, Sort, Part, Expression, Statement}
use Rattle.parser.specs.Tree.{Variable, Method, Class, Program, Numeral, Numeral.int_literal, Numeral.fixed_literal}
use Rattle.parser.specs.Tree.{Sort.expression, Sort.arguments, Sort.statement, Sort.statements}
use Rattle.parser.specs.Tree.{Part.literal, Part.truth, Part.variable, Part.this, Part.new_array_lem, Part.new_object_lem, Part.negation, Part.binary, Part.element, Part.array_length, Part.call, Part.port_get_lem, Part.no_arguments, Part.argument}
use Rattle.parser.specs.Tree.{Part.block, Part.conditional, Part.loop, Part.print, Part.assign, Part.assign_element_lem, Part.port_put_lem, Part.no_statements, Part.sequence}
use Rattle.typesystem.specs.ClassTable.{Context, main_context, context_of, fields_of}
use Rattle.typesystem.specs.Judge.{arity, judge}
use Rattle.typesystem.specs.TypingRules.{HasType, HaveTypes, IsTyped, AreTyped, ClassTyped, MethodTyped, ProgramTyped}
use Rattle.typesystem.specs.TypingRules.{t-literal, t-truth, t-variable, t-this, t-new-array, t-new-object, t-negation, t-binary, t-element, t-length, t_call, t-port-get, t-none, t-more, t_block, t-if, t-while, t-print, t-assign, t-assign-element, t-port-put, t-end, t-sequence}
use Rattle.typing.specs.laws.ClassTableLaws.{method-declares}
use Rattle.semantics.specs.Machine.{Value, numeral_value, Cell, Cell.slot, initial, is_and}
use Rattle.soundness.specs.laws.StateTyping.{WordNumeral, WordLiterals, MethodFits, LiteralsFit}
use Rattle.codegen.specs.promises.Code as Code
use Rattle.codegen.specs.promises.Code.{Instruction, mark, push, scale, operate}
use Rattle.codegen.specs.promises.Compile.{end_binary, end, cells_of, judged_fixed, times_of, operator_code, emit_binary, emit, middle, value_end, end_methods, emit_methods, emit_classes, compile}
use Rattle.codegen.proofs.laws.WordRuns.{initial-word}
use Rattle.writer.specs.laws.Lengths.{sized}
use Rattle.writer.specs.promises.Classes.{end_classes}
use Rattle.framing.proofs.laws.Holding.{Worded}
use Rattle.framing.proofs.laws.Simulating.{ZeroCell, Fitting, initial-worded}

-- CALLS HAVE AT MOST 32 ARGUMENTS

abbrev Counted : {s : Sort} → Part s → Type 0
Counted (literal p n) = Unit {0}
Counted (truth p b) = Unit {0}
Counted (variable p x) = Unit {0}
Counted (this p) = Unit {0}
Counted (new_array_lem p u e) = Counted e
Counted (new_object_lem p c) = Unit {0}
Counted (negation p e) = Counted e
Counted (binary p o l r) = Counted l × Counted r
Counted (element p a i) = Counted a × Counted i
Counted (array_length p a) = Counted a
Counted (call p e m es) = (arity es ≤ 32) × Counted e × Counted es
Counted (port_get_lem p e) = Counted e
Counted no_arguments = Unit {0}
Counted (argument e es) = Counted e × Counted es
Counted (block p ss) = Counted ss
Counted (conditional p e s t) = Counted e × Counted s × Counted t
Counted (loop p e s) = Counted e × Counted s
Counted (print p e) = Counted e
Counted (assign p x e) = Counted e
Counted (assign_element_lem p x i e) = Counted i × Counted e
Counted (port_put_lem p n e) = Counted n × Counted e
Counted no_statements = Unit {0}
Counted (sequence s ss) = Counted s × Counted ss

module _ {G : List Class} (T : All (ClassTyped G) G) where
  many : {Γ : Context} {es : Part arguments} {vs : List Variable} → HaveTypes G Γ es vs → arity es ≡ length vs
  unfolding arity
  many t-none = refl
  many (t-more h s r) = let l = many r in omega arith

  mutual
    counted : {Γ : Context} {e : Expression} {t : _} → HasType G Γ e t → Counted e
    counted (t-literal q) = tt
    counted t-truth = tt
    counted (t-variable h) = tt
    counted (t-this o) = tt
    counted (t-new-array q k h) = counted h
    counted (t-new-object q k) = tt
    counted (t-negation h) = counted h
    counted (t-binary h q k) = (counted h, counted k)
    counted (t-element h k) = (counted h, counted k)
    counted (t-length h) = counted h
    counted (t_call {F = F} h m hs q) =
        (omega (arith, many hs, (method-declares T m).typed.few, length-append F.method.parameters F.method.locals), counted h, all-counted hs)
    counted (t-port-get h) = counted h

    all-counted : {Γ : Context} {es : Part arguments} {vs : List Variable} → HaveTypes G Γ es vs → Counted es
    all-counted t-none = tt
    all-counted (t-more h s r) = (counted h, all-counted r)

  mutual
    statement-counted : {Γ : Context} {s : Statement} → IsTyped G Γ s → Counted s
    statement-counted (t_block h) = statements-counted h
    statement-counted (t-if h s t) = (counted h, statement-counted s, statement-counted t)
    statement-counted (t-while h s) = (counted h, statement-counted s)
    statement-counted (t-print h q) = counted h
    statement-counted (t-assign n h s) = counted h
    statement-counted (t-assign-element n h k s) = (counted h, counted k)
    statement-counted (t-port-put h k) = (counted h, counted k)

    statements-counted : {Γ : Context} {ss : Part statements} → AreTyped G Γ ss → Counted ss
    statements-counted t-end = tt
    statements-counted (t-sequence h r) = (statement-counted h, statements-counted r)

-- INSTRUCTIONS

module _ (G : List Class) (N : ℕ) where
  abbrev Fit : List Instruction → Type 0
  Fit k = All (Fitting N) k

  zero-cells : (vs : List Variable) → All ZeroCell (map (λ v. slot (initial v.type.type)) vs)
  zero-cells [] = all_nil
  zero-cells (v ∷ vs) = all_cons {x = slot (initial v.type.type)} (initial-worded v.type.type, initial-word v.type.type) (zero-cells vs)

  numeral-worded : (n : Numeral) → WordNumeral n → Worded 0 (numeral_value n)
  numeral-worded (int_literal n) h = h
  numeral-worded (fixed_literal n) h = h

  times-fits : (b : Bool) → Fitting N (times_of b)
  times-fits true = tt
  times-fits false = tt

  operator-fits : (Γ : Context) (o : Operator) (l : Expression) → Fitting N (operator_code G Γ o l)
  operator-fits Γ and l = tt
  operator-fits Γ less l = tt
  operator-fits Γ plus l = tt
  operator-fits Γ minus l = tt
  operator-fits Γ times l = times-fits (judged_fixed (judge G Γ l))

  binary-fits : (b : Bool) (x : Instruction) (a : ℕ) (r : ℕ → ℕ) (f : ℕ → List Instruction → List Instruction) (k : List Instruction)
      → end_binary b a r ≤ N → ((j : ℕ) (k : List Instruction) → r j ≤ N → Fit k → Fit (f j k)) → Fitting N x → Fit k → Fit (emit_binary b x a r f k)
  binary-fits true x a r f k l g y z = all_cons l (g (suc a) k l z)
  binary-fits false x a r f k l g y z = g a _ (omega arith) (all_cons y z)

  left_end : (b : Bool) (a : ℕ) (r : ℕ → ℕ) → ((j : ℕ) → j ≤ r j) → end_binary b a r ≤ N → a ≤ N
  left_end true a r f l = let g = f (suc a) in omega arith
  left_end false a r f l = let g = f a in omega arith

  on : {s : Sort} (t : Part s) (i : ℕ) → i ≤ end t i
  on t i = omega (arith, (sized t i).least)

  emit-fits : (Γ : Context) {s : Sort} (t : Part s) (i : ℕ) (k : List Instruction) → WordLiterals t → Counted t → end t i ≤ N → Fit k → Fit (emit G Γ t i k)
  unfolding emit end
  emit-fits Γ (literal p n) i k w c l z = all_cons tt (all_cons (numeral-worded n w) z)
  emit-fits Γ (truth p b) i k w c l z = all_cons tt (all_cons tt z)
  emit-fits Γ (variable p x) i k w c l z = all_cons tt (all_cons tt z)
  emit-fits Γ (this p) i k w c l z = all_cons tt (all_cons tt z)
  emit-fits Γ (new_array_lem p u e) i k w c l z = all_cons tt (emit-fits Γ e (suc i) _ w c (omega arith) (all_cons tt z))
  emit-fits Γ (new_object_lem p n) i k w c l z = all_cons tt (all_cons (zero-cells (fields_of G n.text)) z)
  emit-fits Γ (negation p e) i k w c l z = all_cons tt (emit-fits Γ e (suc i) _ w c (omega arith) (all_cons tt z))
  emit-fits Γ (binary p o a b) i k w c l z =
      all_cons tt
      (emit-fits Γ a (suc i) _ w.0 c.0 (left_end (is_and o) (end a (suc i)) (end b) (on b) l)
      (binary-fits (is_and o) (operator_code G Γ o a) (end a (suc i)) (end b) (emit G Γ b) k l (λ j m h f. emit-fits Γ b j m w.1 c.1 h f)
      (operator-fits Γ o a) z))
  emit-fits Γ (element p a e) i k w c l z =
      all_cons tt (emit-fits Γ a (suc i) _ w.0 c.0 (omega (arith, on e (end a (suc i)))) (emit-fits Γ e (end a (suc i)) _ w.1 c.1 (omega arith) (all_cons tt z)))
  emit-fits Γ (array_length p a) i k w c l z = all_cons tt (emit-fits Γ a (suc i) _ w c (omega arith) (all_cons tt z))
  emit-fits Γ (call p e m es) i k w c l z =
      all_cons tt (emit-fits Γ e (suc i) _ w.0 c.1 (omega (arith, on es (end e (suc i)))) (emit-fits Γ es (end e (suc i)) _ w.1 c.2 (omega arith) (all_cons {x = Code.call p m.text (arity es)} c.0 z)))
  emit-fits Γ (port_get_lem p e) i k w c l z = all_cons tt (emit-fits Γ e (suc i) _ w c (omega arith) (all_cons tt z))
  emit-fits Γ no_arguments i k w c l z = z
  emit-fits Γ (argument e es) i k w c l z = emit-fits Γ e i _ w.0 c.0 (omega (arith, on es (end e i))) (emit-fits Γ es (end e i) _ w.1 c.1 l z)
  emit-fits Γ (block p ss) i k w c l z = all_cons tt (emit-fits Γ ss (suc i) _ w c l z)
  emit-fits Γ (conditional p e s t) i k w c l z =
      let a = end e (suc i) in
      let b = end s (suc a) in
      let x = on s (suc a) in
      let y = on t (suc b) in
      all_cons tt (emit-fits Γ e (suc i) _ w.0 c.0 (omega arith) (all_cons {x = Code.unless (suc b)} (omega arith) (emit-fits Γ s (suc a) _ w.1 c.1 (omega arith) (all_cons {x = Code.jump (end t (suc b))} l (emit-fits Γ t (suc b) _ w.2 c.2 l z)))))
  emit-fits Γ (loop p e s) i k w c l z =
      let a = end e (suc i) in
      let x = on s (suc a) in
      let y = on e (suc i) in
      all_cons tt (emit-fits Γ e (suc i) _ w.0 c.0 (omega arith) (all_cons {x = Code.unless (suc (end s (suc a)))} l (emit-fits Γ s (suc a) _ w.1 c.1 (omega arith) (all_cons {x = Code.jump (suc i)} (omega arith) z))))
  emit-fits Γ (print p e) i k w c l z = all_cons tt (emit-fits Γ e (suc i) _ w c (omega arith) (all_cons tt z))
  emit-fits Γ (assign p x e) i k w c l z = all_cons tt (emit-fits Γ e (suc i) _ w c (omega arith) (all_cons tt z))
  emit-fits Γ (assign_element_lem p x a e) i k w c l z =
      all_cons tt (all_cons tt (emit-fits Γ a (suc (suc i)) _ w.0 c.0 (omega (arith, on e (end a (suc (suc i))))) (emit-fits Γ e (end a (suc (suc i))) _ w.1 c.1 (omega arith) (all_cons tt z))))
  emit-fits Γ (port_put_lem p n e) i k w c l z =
      all_cons tt (emit-fits Γ n (suc i) _ w.0 c.0 (omega (arith, on e (end n (suc i)))) (emit-fits Γ e (end n (suc i)) _ w.1 c.1 (omega arith) (all_cons tt z)))
  emit-fits Γ no_statements i k w c l z = z
  emit-fits Γ (sequence s ss) i k w c l z = emit-fits Γ s i _ w.0 c.0 (omega (arith, on ss (end s i))) (emit-fits Γ ss (end s i) _ w.1 c.1 l z)

  methods-on : (M : List Method) (i : ℕ) → i ≤ end_methods M i
  unfolding end_methods
  methods-on [] i = omega arith
  methods-on (F ∷ M) i = omega (arith, on F.body i, on F.value (middle F i), methods-on M (suc (value_end F i)))

  classes-on : (ks : List Class) (i : ℕ) → i ≤ end_classes ks i
  unfolding end_classes
  classes-on [] i = omega arith
  classes-on (k ∷ ks) i = omega (arith, methods-on k.methods i, classes-on ks (end_methods k.methods i))

  methods-fit : (T : All (ClassTyped G) G) (c : List ℕ) (M : List Method) (i : ℕ) (k : List Instruction) → All (MethodTyped G c) M → All MethodFits M
      → end_methods M i ≤ N → Fit k → Fit (emit_methods G c M i k)
  unfolding emit_methods end_methods
  methods-fit T c [] i k all_nil all_nil l z = z
  methods-fit T c (F ∷ M) i k (all_cons t ts) (all_cons f fs) l z =
      let x = on F.value (middle F i) in
      let y = methods-on M (suc (value_end F i)) in
      emit-fits (context_of c F) F.body i _ f.body (statements-counted T t.body) (omega arith)
      (emit-fits (context_of c F) F.value (middle F i) _ f.value (counted T t.value) (omega arith)
      (all_cons tt (methods-fit T c M (suc (value_end F i)) k ts fs l z)))

  classes-fit : (T : All (ClassTyped G) G) (ks : List Class) (i : ℕ) → All (ClassTyped G) ks → All (λ k. All MethodFits k.methods) ks
      → end_classes ks i ≤ N → Fit (emit_classes G ks i)
  unfolding emit_classes end_classes
  classes-fit T [] i all_nil all_nil l = all_nil
  classes-fit T (k ∷ ks) i (all_cons t ts) (all_cons f fs) l =
      methods-fit T k.name.text k.methods i _ t.methods f (omega (arith, classes-on ks (end_methods k.methods i)))
      (classes-fit T ks (end_methods k.methods i) ts fs l)

-- every instruction of the code of a typed program
pub program-fits : (p : Program) (N : ℕ) → ProgramTyped p → LiteralsFit p → end_classes p.classes (suc (end p.statement 0)) ≤ N
    → All (Fitting N) (compile p).instructions
unfolding compile
program-fits p N T F l =
    emit-fits p.classes N main_context p.statement 0 _ F.main (statement-counted T.classes T.main)
    (omega (arith, classes-on p.classes N p.classes (suc (end p.statement 0))))
    (all_cons tt (classes-fit p.classes N T.classes p.classes (suc (end p.statement 0)) T.classes F.classes l))
