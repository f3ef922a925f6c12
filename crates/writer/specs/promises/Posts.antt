-- What the writer's functions ensure, whatever the tree is that the table holds, in whatever context.
use Rattle.std.specs.Prelude.{ℕ, suc, ◌+◌, ◌≤◌, ◌<◌, ◌≡◌, List, ◌∷◌, Bool, true, false, length, eqb}
use Rattle.base.specs.Choice.{if◌then◌otherwise◌}
use Rattle.base.specs.Word.{modulus}
use Rattle.base.specs.promises.Table.{rows, c_number, c_begin, c_first, c_second, c_third}
use Rattle.lexer.specs.Kinds.{k_if}
use Rattle.lexer.specs.Tokens.{Token}
use Rattle.lexer.specs.promises.Rows.{first_named}
use Rattle.parser.specs.Tree.{Operator, Sort, Sort.expression, Sort.statement, Part, Expression, Statement, Class}
use Rattle.parser.specs.Tree.{Part.literal, Part.truth, Part.variable, Part.this, Part.new_array_lem, Part.new_object_lem, Part.negation, Part.binary}
use Rattle.parser.specs.Tree.{Part.element, Part.array_length, Part.call, Part.port_get_lem}
use Rattle.parser.specs.Tree.{Part.block, Part.conditional, Part.loop, Part.print, Part.assign, Part.assign_element_lem, Part.port_put_lem}
use Rattle.parser.specs.Measure.{nodes}
use Rattle.parser.specs.promises.Post.{kind_in_table}
use Rattle.reader.specs.promises.Matches.{operator_kind}
use Rattle.reader.specs.promises.Spans.{Spans}
use Rattle.typesystem.specs.ClassTable.{Context, meaning}
use Rattle.typesystem.specs.Judge.{arity}
use Rattle.lookup.specs.promises.HeldClasses.{word_at, NameNumber}
use Rattle.lookup.specs.promises.Shows.{PartAt, Form, a_conditional, a_loop, form_compound, Shows, ShowsS}
use Rattle.semantics.specs.Machine.{numeral_value, flag, is_and}
use Rattle.bodies.specs.declared.scope.Scope.{Scope}
use Rattle.bodies.specs.promises.Scoping.{Judgeable, InScope, PartIn}
use Rattle.codegen.specs.promises.Code as Code
use Rattle.codegen.specs.promises.Code.{Instruction, push, load, save, self, negate, scale, operate, jump, unless, keep, fetch, measure}
use Rattle.codegen.specs.promises.Code.{make_array_lem, make_object_lem, store_element_lem, read_register, write_register}
use Rattle.codegen.specs.promises.Compile.{end_binary, operator_code, emit_binary, end, emit, cells_of}
use Rattle.writer.specs.declared.job.Job.{Job}
use Rattle.writer.specs.promises.Words.{words, encode, put_at}
use Rattle.writer.specs.promises.Jobs.{part_of}
use Rattle.writer.specs.promises.Sizing.{names_least}
use Rattle.writer.specs.promises.Scoping.{Sees}
use Rattle.writer.specs.laws.Emits.{Emits}

-- how many instructions there is room for
abbrev pub room : ℕ
room = 8192

-- what the functions on parts ask for
pub record Writable (tab names : List ℕ) (s : Scope) (job : Job) : Type 0 where
  pub judgeable : Judgeable tab names s
  pub names-long : names_least ≤ length names
  pub few : job.left ≤ rows
  pub low : job.row < modulus
  pub within : job.at ≤ room

-- one instruction; where there is no room nothing is written, and the place stays
pub record PutPost (at op a b d : ℕ) (c c' : List ℕ) (r : ℕ) : Type 0 where
  pub within : r ≤ room
  pub next : at < room → r ≡ suc at
  pub says : at < room → c' ≡ put_at c at (words op a b d)

pub record NextPost (at r : ℕ) : Type 0 where
  pub within : r ≤ room
  pub next : at < room → r ≡ suc at

-- the code f was written at `at`, and the answer is the place behind it
pub record Wrote (ν : List ℕ → ℕ) (f : List Instruction → List Instruction) (stop at : ℕ) (c c' : List ℕ) (r : ℕ) : Type 0 where
  pub ends : r ≡ stop
  pub code : Emits ν f at c r c'

-- A NODE AFTER ITS MARK

module _ (G : List Class) (Γ : Context) where
  abbrev pub inner_e : Expression → ℕ → List Instruction → List Instruction
  inner_e (literal p n) i k = push (numeral_value n) ∷ k
  inner_e (truth p b) i k = push (flag b) ∷ k
  inner_e (variable p x) i k = load (meaning G Γ x) ∷ k
  inner_e (this p) i k = self ∷ k
  inner_e (new_array_lem p u e) i k = emit G Γ e i (make_array_lem p u.element ∷ k)
  inner_e (new_object_lem p c) i k = make_object_lem p c.text (cells_of G c.text) ∷ k
  inner_e (negation p e) i k = emit G Γ e i (negate ∷ k)
  inner_e (binary p o l r) i k = emit G Γ l i (emit_binary (is_and o) (operator_code G Γ o l) (end l i) (end r) (emit G Γ r) k)
  inner_e (element p a e) i k = emit G Γ a i (emit G Γ e (end a i) (fetch p ∷ k))
  inner_e (array_length p a) i k = emit G Γ a i (measure p ∷ k)
  inner_e (call p e m es) i k = emit G Γ e i (emit G Γ es (end e i) (Code.call p m.text (arity es) ∷ k))
  inner_e (port_get_lem p e) i k = emit G Γ e i (read_register p ∷ k)

  abbrev pub inner_s : Statement → ℕ → List Instruction → List Instruction
  inner_s (block p ss) i k = emit G Γ ss i k
  inner_s (conditional p e s t) i k =
      let a = end e i in
      let b = end s (suc a) in
      emit G Γ e i (unless (suc b) ∷ emit G Γ s (suc a) (jump (end t (suc b)) ∷ emit G Γ t (suc b) k))
  inner_s (loop p e s) i k =
      let a = end e i in
      emit G Γ e i (unless (suc (end s (suc a))) ∷ emit G Γ s (suc a) (jump i ∷ k))
  inner_s (print p e) i k = emit G Γ e i (Code.print p ∷ k)
  inner_s (assign p x e) i k = emit G Γ e i (save (meaning G Γ x) ∷ k)
  inner_s (assign_element_lem p x a e) i k = load (meaning G Γ x) ∷ emit G Γ a (suc i) (emit G Γ e (end a (suc i)) (store_element_lem p ∷ k))
  inner_s (port_put_lem p n e) i k = emit G Γ n i (emit G Γ e (end n i) (write_register p ∷ k))

abbrev pub end_e : Expression → ℕ → ℕ
end_e (literal p n) i = suc i
end_e (truth p b) i = suc i
end_e (variable p x) i = suc i
end_e (this p) i = suc i
end_e (new_array_lem p u e) i = suc (end e i)
end_e (new_object_lem p c) i = suc i
end_e (negation p e) i = suc (end e i)
end_e (binary p o l r) i = end_binary (is_and o) (end l i) (end r)
end_e (element p a e) i = suc (end e (end a i))
end_e (array_length p a) i = suc (end a i)
end_e (call p e m es) i = suc (end es (end e i))
end_e (port_get_lem p e) i = suc (end e i)

abbrev pub end_s : Statement → ℕ → ℕ
end_s (block p ss) i = end ss i
end_s (conditional p e s t) i = end t (suc (end s (suc (end e i))))
end_s (loop p e s) i = suc (end s (suc (end e i)))
end_s (print p e) i = suc (end e i)
end_s (assign p x e) i = suc (end e i)
end_s (assign_element_lem p x a e) i = suc (end e (end a (suc i)))
end_s (port_put_lem p n e) i = suc (end e (end n i))

-- PARTS AND FORMS

-- a part of at most so many nodes, which lies among n tokens
pub record PartBounded (n left : ℕ) (q : Sort) (t : Part q) : Type 0 where
  pub few : nodes t ≤ left
  pub spans : Spans 0 n t

-- the instruction of an operator other than `&&`, by whether it is the `*` of thousandths
abbrev pub instruction_of : (thousandths : Bool) → Operator → Instruction
instruction_of true o = scale
instruction_of false o = operate o

-- which it is of an operator of this kind, whose left operand lies in a row
pub record ScalesPost (tab : List ℕ) (s : Scope) (kind row : ℕ) (r : Bool) : Type 0 where
  pub says : (ts : List Token) (G : List Class) (Γ : Context) → InScope tab ts G Γ s → (o : Operator) → kind ≡ operator_kind o
      → (l : Expression) → PartIn tab ts row 0 s.tokens l → operator_code G Γ o l ≡ instruction_of r o

-- of a statement that has a test, by the kind of its first token
unfoldable pub form_tested : ℕ → Form
form_tested k = if eqb k k_if then (λ _. a_conditional) otherwise λ _. a_loop

-- code for which there is room is written
abbrev pub Written : (ts : List Token) (f : List Instruction → List Instruction) (stop at : ℕ) (c c' : List ℕ) (r : ℕ) → Type 0
Written ts f stop at c c' r = stop ≤ room → Wrote (first_named ts) f stop at c c' r

module _ (tab names : List ℕ) (s : Scope) where
  -- whatever the tokens and the classes are, and the context, which the table, the array and the scope are of
  abbrev pub Whatever : (List Token → List Class → Context → Type 0) → Type 0
  Whatever P = (ts : List Token) (G : List Class) (Γ : Context) → Sees tab names ts G Γ s → P ts G Γ

  -- a part
  pub record WritePost (q : Sort) (job : Job) (c c' : List ℕ) (r : ℕ) : Type 0 where
    pub within : r ≤ room
    pub says : Whatever λ ts G Γ. (t : Part q) → PartAt tab ts job.row (PartBounded s.tokens job.left q) t
        → Written ts (emit G Γ t job.at) (end t job.at) job.at c c' r

  -- an expression, a statement, whose row shows this form
  abbrev pub Says : (F : Form) (job : Job) (c c' : List ℕ) (r : ℕ) → Type 0
  Says F job c c' r =
      Whatever λ ts G Γ. (e : Expression)
      → Shows tab ts s.tokens job.row (PartBounded s.tokens job.left) (PartBounded s.tokens job.left) F e
      → Written ts (inner_e G Γ e job.at) (end_e e job.at) job.at c c' r

  pub record ExpressionPost (F : Form) (job : Job) (c c' : List ℕ) (r : ℕ) : Type 0 where
    pub within : r ≤ room
    pub says : Says F job c c' r

  -- an expression of more than one token, of which its own is of kind k
  abbrev pub CompoundPost : (k : ℕ) (job : Job) (c c' : List ℕ) (r : ℕ) → Type 0
  CompoundPost k job c c' r =
      ExpressionPost (form_compound k (kind_in_table tab s.tokens (job.row + 1)) (kind_in_table tab s.tokens (job.row + 2))) job c c' r

  abbrev pub SaysS : (F : Form) (job : Job) (c c' : List ℕ) (r : ℕ) → Type 0
  SaysS F job c c' r =
      Whatever λ ts G Γ. (t : Statement) → ShowsS tab ts job.row (PartBounded s.tokens job.left) F t
      → Written ts (inner_s G Γ t job.at) (end_s t job.at) job.at c c' r

  pub record StatementPost (F : Form) (job : Job) (c c' : List ℕ) (r : ℕ) : Type 0 where
    pub within : r ≤ room
    pub says : SaysS F job c c' r

  -- the value of a variable
  pub record LoadPost (job : Job) (c c' : List ℕ) (r : ℕ) : Type 0 where
    pub within : r ≤ room
    pub says : Whatever λ ts G Γ. (x : List ℕ) → NameNumber ts x (word_at tab c_number job.row)
        → Written ts (λ k. load (meaning G Γ x) ∷ k) (suc job.at) job.at c c' r

  -- the expression in a row and an instruction with these words; the two parts of the node in a row and such an instruction
  pub record FollowedPost (op arg : ℕ) (job : Job) (c c' : List ℕ) (r : ℕ) : Type 0 where
    pub within : r ≤ room
    pub says : Whatever λ ts G Γ. (x : Instruction) → words op arg 0 0 ≡ encode (first_named ts) x → (e : Expression)
        → PartAt tab ts job.row (PartBounded s.tokens job.left expression) e
        → Written ts (λ k. emit G Γ e job.at (x ∷ k)) (suc (end e job.at)) job.at c c' r

  -- the first part of the node in a row and an instruction that has the position where the node begins
  abbrev pub LocatedPost : (op : ℕ) (job : Job) (c c' : List ℕ) (r : ℕ) → Type 0
  LocatedPost op job c c' r = FollowedPost op (word_at tab c_begin job.row) (part_of tab c_first job job.at) c c' r

  pub record PairPost (op arg : ℕ) (job : Job) (c c' : List ℕ) (r : ℕ) : Type 0 where
    pub within : r ≤ room
    pub says : Whatever λ ts G Γ. (x : Instruction) → words op arg 0 0 ≡ encode (first_named ts) x → (a b : Expression)
        → PartAt tab ts (word_at tab c_first job.row) (PartBounded s.tokens job.left expression) a
        → PartAt tab ts (word_at tab c_second job.row) (PartBounded s.tokens job.left expression) b
        → Written ts (λ k. emit G Γ a job.at (emit G Γ b (end a job.at) (x ∷ k))) (suc (end b (end a job.at))) job.at c c' r

  -- the two parts of the node in a row, the second behind a jump over it
  pub record ConjunctionPost (job : Job) (c c' : List ℕ) (r : ℕ) : Type 0 where
    pub within : r ≤ room
    pub says : Whatever λ ts G Γ. (a b : Expression)
        → PartAt tab ts (word_at tab c_first job.row) (PartBounded s.tokens job.left expression) a
        → PartAt tab ts (word_at tab c_second job.row) (PartBounded s.tokens job.left expression) b
        → Written ts (λ k. emit G Γ a job.at (keep (end b (suc (end a job.at))) ∷ emit G Γ b (suc (end a job.at)) k))
        (end b (suc (end a job.at))) job.at c c' r

  -- the test's jump, the first branch, and the second
  pub record BranchesPost (job : Job) (at : ℕ) (c c' : List ℕ) (r : ℕ) : Type 0 where
    pub within : r ≤ room
    pub says : Whatever λ ts G Γ. (y z : Statement)
        → PartAt tab ts (word_at tab c_second job.row) (PartBounded s.tokens job.left statement) y
        → PartAt tab ts (word_at tab c_third job.row) (PartBounded s.tokens job.left statement) z
        → Written ts
        (λ k. unless (suc (end y (suc at))) ∷ emit G Γ y (suc at)
        (jump (end z (suc (end y (suc at)))) ∷ emit G Γ z (suc (end y (suc at))) k))
        (end z (suc (end y (suc at)))) at c c' r

  -- the jump over the second branch, and the branch
  pub record OtherwisePost (job : Job) (at : ℕ) (c c' : List ℕ) (r : ℕ) : Type 0 where
    pub within : r ≤ room
    pub says : Whatever λ ts G Γ. (z : Statement) → PartAt tab ts (word_at tab c_third job.row) (PartBounded s.tokens job.left statement) z
        → Written ts (λ k. jump (end z (suc at)) ∷ emit G Γ z (suc at) k) (end z (suc at)) at c c' r

  -- the test's jump, the body, and the jump back
  pub record BodyPost (job : Job) (at : ℕ) (c c' : List ℕ) (r : ℕ) : Type 0 where
    pub within : r ≤ room
    pub says : Whatever λ ts G Γ. (y : Statement) → PartAt tab ts (word_at tab c_second job.row) (PartBounded s.tokens job.left statement) y
        → Written ts (λ k. unless (suc (end y (suc at))) ∷ emit G Γ y (suc at) (jump job.at ∷ k)) (suc (end y (suc at))) at c c' r
