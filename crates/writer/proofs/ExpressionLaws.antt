-- What the functions on expressions return meets their contracts: a row shows the form of its node, and the code of a form is that of its
-- parts, one behind another, and one instruction.
use Prim.Native.Nat.{ℕ, suc, ◌+◌, ◌-◌, ◌≤◌}
use native.Mathlib.Omega.{arith}
use native.Mathlib.Decide.{ℕ_discrete}
use mathlib.Core.Path.{◌≡◌, refl, sym, ap, ◌∙◌, subst}
use mathlib.Core.List.{List, ◌∷◌}
use mathlib.Core.Bool.{Bool, true, false}
use lib.Dec.{eqb}
use lib.ListN.{length, get_or, length-map}
use borrow.Author.Tests.{eq-eqb, ne_eqb}
use Rattle.base.specs.Outcome.{Outcome}
use Rattle.base.specs.laws.Tests.{apart}
use Rattle.base.specs.Codes.{tokens_most}
use Rattle.base.specs.promises.Table.{c_number, c_begin, c_first, c_second}
use Rattle.lexer.specs.Kinds.{k_times, k_literal, k_fixed_literal, k_false, k_length, k_new, k_port, k_this, k_true, k_and, k_not, k_dot, k_open_bracket}
use Rattle.lexer.specs.Tokens.{Token}
use Rattle.lexer.specs.promises.Rows.{first_named}
use Rattle.parser.specs.Tree.{Operator, Operator.and, Operator.less, Operator.plus, Operator.minus, Operator.times}
use Rattle.parser.specs.Tree.{Sort, Sort.expression, Sort.arguments, Part, Expression, Ty, Class, place_e}
use Rattle.parser.specs.Tree.{Part.literal, Part.truth, Part.variable, Part.this, Part.new_array_lem, Part.new_object_lem, Part.negation, Part.binary}
use Rattle.parser.specs.Tree.{Part.element, Part.array_length, Part.call, Part.port_get_lem}
use Rattle.parser.specs.promises.Layout.{absent}
use Rattle.parser.specs.promises.Post.{kind_in_table, is_atom_lem}
use Rattle.reader.specs.promises.Matches.{operator_kind}
use Rattle.typesystem.specs.ClassTable.{Context, meaning, fields_of}
use Rattle.typesystem.specs.Judge.{arity, judge}
use Rattle.std.specs.Prelude.{Ok, Err}
use Rattle.base.specs.declared.refusal.Refusal.{Refusal}
use Rattle.lookup.specs.promises.Answers.{Typed}
use Rattle.lookup.specs.promises.Answers.{Judges, well, ill}
use Rattle.lookup.specs.promises.HeldClasses.{word_at, NameNumber, Lexemes, code_fixed, code-plain, number_of_fixed}
use Rattle.lookup.specs.laws.HeldLaws.{same_codes, other-codes}
use Rattle.lookup.specs.promises.Lookups.{Counts}
use Rattle.lookup.specs.promises.Shows.{PartAt, Form, a_literal, a_fixed_literal, a_truth, a_variable, a_this, a_new_array, a_new_object, a_negation}
use Rattle.lookup.specs.promises.Shows.{a_binary, an_element, a_length, a_call_shown, a_port_get, form_atom, form_compound, form_e}
use Rattle.lookup.specs.promises.Shows.{Shows, shows-literal, shows-fixed-literal, shows-truth, shows-variable, shows-this}
use Rattle.lookup.specs.promises.Shows.{shows-new-array, shows-new-object, shows-negation, shows-binary, shows-element, shows-length}
use Rattle.lookup.specs.promises.Shows.{shows-call, shows-port-get}
use Rattle.lookup.specs.laws.ShowLaws.{shown, starts}
use Rattle.semantics.specs.Machine.{number, thousandths, flag, is_and, slot, initial}
use Rattle.bodies.specs.declared.scope.Scope.{Scope}
use Rattle.bodies.specs.promises.Scoping.{PartIn}
use Rattle.bodies.specs.promises.ExpressionPost as Bodies
use Rattle.writer.specs.declared.job.Job.{Job}
use Rattle.writer.specs.promises.Scoping.{Sees, SlotPost}
use Rattle.writer.specs.promises.Jobs.{part_of, one_less, PartPost}
use Rattle.codegen.specs.promises.Code as Code
use Rattle.codegen.specs.promises.Code.{push, load, self, negate, operate, keep, fetch, measure, make_array_lem, make_object_lem, read_register, i_mark, i_push, i_load, i_self, i_negate, i_operate, i_keep, i_fetch, i_measure, i_make_array, i_make_object, i_call, i_read_register, i_scale}
use Rattle.codegen.specs.promises.Compile.{end_binary, judged_fixed, times_of, operator_code, emit_binary, end, emit, cells_of}
use Rattle.writer.specs.promises.Words.{words, encode}
use Rattle.writer.specs.laws.Lengths.{grows}
use Rattle.writer.specs.promises.Posts.{room, Writable, PutPost, NextPost, PartBounded, Written, Whatever, WritePost, inner_e, end_e, Says}
use Rattle.writer.specs.promises.Posts.{instruction_of, ScalesPost, ExpressionPost, CompoundPost}
use Rattle.writer.specs.promises.Posts.{LoadPost, FollowedPost, LocatedPost, PairPost, ConjunctionPost}
use Rattle.writer.proofs.RowLaws.{positive, fewer, counted}
use Rattle.writer.proofs.PieceLaws.{put_one, next-to, over, Opens, node-wrote}
use Rattle.writer.specs.promises.Sizing.{sizes_from}

pub few-tokens : {tab names : List ℕ} {ts : List Token} {G : List Class} {Γ : Context} {s : Scope} → Sees tab names ts G Γ s
    → length ts ≤ tokens_most
few-tokens w = omega (arith, w.scope.world.tokens.count, w.scope.world.tokens.few)

pub lexemes : {tab names : List ℕ} {ts : List Token} {G : List Class} {Γ : Context} {s : Scope} → Sees tab names ts G Γ s
    → Lexemes tab s.tokens ts
lexemes w = w.scope.world.tokens

-- the number of a name that a word spells
pub spelt : {ts : List Token} {x : List ℕ} {w v : ℕ} → v ≡ w → NameNumber ts x w → v ≡ first_named ts x
spelt e h = e ∙ sym h.first

-- PARTS

-- a part that was found is the one to which the column leads
pub found : {tab : List ℕ} {k at : ℕ} {job part : Job} → PartPost tab k job at part → part ≡ part_of tab k job at
found {tab} {k} {at} {job} {part} f = rw (sym f.nodes, sym f.leads, sym f.begins)

-- what is asked for, and what is written, of a part that was found
pub part-writable : {tab names : List ℕ} {s : Scope} {k at : ℕ} {job part : Job} → Writable tab names s job → PartPost tab k job at part
    → at ≤ room → Writable tab names s part
part-writable w f low =
    record {
      judgeable = w.judgeable;
      names-long = w.names-long;
      few = omega (arith, f.nodes, w.few);
      low = f.low;
      within = omega (arith, f.begins);
    }

pub found-wrote : {tab names : List ℕ} {s : Scope} {q : Sort} {k at : ℕ} {job part : Job} {a : ℕ} {c c' : List ℕ}
    → PartPost tab k job at part → WritePost tab names s q part c c' a → WritePost tab names s q (part_of tab k job at) c c' a
found-wrote {tab} {names} {s} {q} {a = a} {c} {c'} e f = subst (λ (i : Job). WritePost tab names s q i c c' a) (found e) f

pub found-followed : {tab names : List ℕ} {s : Scope} {op arg k at : ℕ} {job part : Job} {a : ℕ} {c c' : List ℕ}
    → PartPost tab k job at part → FollowedPost tab names s op arg part c c' a
    → FollowedPost tab names s op arg (part_of tab k job at) c c' a
found-followed {tab} {names} {s} {op} {arg} {a = a} {c} {c'} e f =
    subst (λ (i : Job). FollowedPost tab names s op arg i c c' a) (found e) f

-- PARTS AND AN INSTRUCTION

-- a part behind another
pub both-wrote : {tab names : List ℕ} {s : Scope} {p q : Sort} {job : Job} {left row a b : ℕ} {c c₁ c₂ : List ℕ}
    → WritePost tab names s p job c c₁ a → WritePost tab names s q (record { left = left; row = row; at = a }) c₁ c₂ b
    → Whatever tab names s λ ts G Γ. (x : Part p) (y : Part q) → PartAt tab ts job.row (PartBounded s.tokens job.left p) x
    → PartAt tab ts row (PartBounded s.tokens left q) y
    → Written ts (λ k. emit G Γ x job.at (emit G Γ y (end x job.at) k)) (end y (end x job.at)) job.at c c₂ b
both-wrote {job = job} f g ts G Γ w x y h h' l =
    let u = f.says ts G Γ w x h (omega (arith, grows y (end x job.at))) in
    next-to (emit G Γ y) (end y) u (g.says ts G Γ w y h' (rw u.ends l))

pub loaded-wrote : {tab names : List ℕ} {s : Scope} {job : Job} {x v r : ℕ} {c c' : List ℕ} → x ≡ word_at tab c_number job.row
    → SlotPost tab s x v → PutPost job.at i_load v 0 0 c c' r → LoadPost tab names s job c c' r
loaded-wrote e₂ g f =
    record {
      within = f.within;
      says = λ ts G Γ w y sp h.
          put_one (load (meaning G Γ y)) (ap (λ (m : ℕ). words i_load m 0 0) (g.says ts G Γ w.scope y (rw e₂ sp))) f h;
    }

pub mark-put : (tab : List ℕ) (row : ℕ) {start at r : ℕ} {c c' : List ℕ} → start ≡ word_at tab c_begin row → PutPost at i_mark start 0 0 c c' r
    → PutPost at i_mark (word_at tab c_begin row) 0 0 c c' r
mark-put tab row {start} {at} {r} {c} {c'} e₃ p = subst (λ (v : ℕ). PutPost at i_mark v 0 0 c c' r) e₃ p

pub followed-wrote : {tab names : List ℕ} {s : Scope} {op arg : ℕ} {job : Job} {a r : ℕ} {c c₁ c₂ : List ℕ}
    → WritePost tab names s expression job c c₁ a → PutPost a op arg 0 0 c₁ c₂ r → FollowedPost tab names s op arg job c c₂ r
followed-wrote f p =
    record {
      within = p.within;
      says = λ ts G Γ w x is e y h.
          let u = f.says ts G Γ w e y (omega arith) in
          next-to (λ j k. x ∷ k) suc u (put_one x is p (rw u.ends h));
    }

pub located-wrote : {tab names : List ℕ} {s : Scope} {op start : ℕ} {job first : Job} {r : ℕ} {c c' : List ℕ}
    → start ≡ word_at tab c_begin job.row → PartPost tab c_first job job.at first → FollowedPost tab names s op start first c c' r
    → LocatedPost tab names s op job c c' r
located-wrote {tab} {names} {s} {op} {job = job} {r = r} {c} {c'} e₃ e₄ f =
    subst (λ (i : ℕ). FollowedPost tab names s op i (part_of tab c_first job job.at) c c' r) e₃ (found-followed e₄ f)

pub pair-wrote : {tab names : List ℕ} {s : Scope} {op arg : ℕ} {job first second : Job} {a r : ℕ} {c c₁ c₂ : List ℕ}
    → PartPost tab c_first job job.at first → WritePost tab names s expression first c c₁ a → PartPost tab c_second job a second
    → FollowedPost tab names s op arg second c₁ c₂ r → PairPost tab names s op arg job c c₂ r
pair-wrote {job = job} e₄ f e₅ g =
    record {
      within = g.within;
      says = λ ts G Γ w x is l m y z h.
          let u = (found-wrote e₄ f).says ts G Γ w l y (omega (arith, grows m (end l job.at))) in
          next-to (λ j k. emit G Γ m j (x ∷ k)) (λ j. suc (end m j)) u
          ((found-followed e₅ g).says ts G Γ w x is m z (rw u.ends h));
    }

pub located-pair-wrote : {tab names : List ℕ} {s : Scope} {op start : ℕ} {job : Job} {r : ℕ} {c c' : List ℕ}
    → start ≡ word_at tab c_begin job.row → PairPost tab names s op start job c c' r
    → PairPost tab names s op (word_at tab c_begin job.row) job c c' r
located-pair-wrote {tab} {names} {s} {op} {job = job} {r} {c} {c'} e₃ f =
    subst (λ (i : ℕ). PairPost tab names s op i job c c' r) e₃ f

pub conjunction-wrote : {tab names : List ℕ} {s : Scope} {job first second : Job} {a n b r : ℕ} {c c₁ c₂ c₃ : List ℕ}
    → PartPost tab c_first job job.at first → WritePost tab names s expression first c c₁ a → NextPost a n → PartPost tab c_second job n second
    → WritePost tab names s expression second c₁ c₂ b → PutPost a i_keep b 0 0 c₂ c₃ r → ConjunctionPost tab names s job c c₃ b
conjunction-wrote {job = job} {a = a} {b = b} e₄ f m e₅ g p =
    record {
      within = g.within;
      says = λ ts G Γ w l t x y h.
          let u = (found-wrote e₄ f).says ts G Γ w l x (omega (arith, grows t (suc (end l job.at)))) in
          let low : suc a ≤ room = omega (arith, u.ends, grows t (suc (end l job.at))) in
          let v = (found-wrote e₅ g).says ts G Γ w t y (rw (m.next low, u.ends) h) in
          let z : b ≡ end t (suc a) = v.ends ∙ ap (end t) (m.next low) in
          next-to (λ j k. keep (end t (suc j)) ∷ emit G Γ t (suc j) k) (λ j. end t (suc j)) u
          (over (keep (end t (suc a))) (emit G Γ t) (end t) m v (ap (λ (i : ℕ). words i_keep i 0 0) z) p low (grows t (suc a)));
    }

-- FORMS

-- the form of a compound expression, by the kind of its own token
by_kind : (tab : List ℕ) (n row : ℕ) {k : ℕ} {F : Form} (k' : ℕ) → k ≡ k'
    → form_compound k' (kind_in_table tab n (row + 1)) (kind_in_table tab n (row + 2)) ≡ F
    → F ≡ form_compound k (kind_in_table tab n (row + 1)) (kind_in_table tab n (row + 2))
by_kind tab n row k' is form =
    sym (ap (λ (j : ℕ). form_compound j (kind_in_table tab n (row + 1)) (kind_in_table tab n (row + 2))) is ∙ form)

module _ {tab names : List ℕ} {s : Scope} {job : Job} {r : ℕ} {c c' : List ℕ} where
  -- a form by another name
  formed : {F H : Form} → F ≡ H → r ≤ room → Says tab names s F job c c' r → ExpressionPost tab names s H job c c' r
  formed {F} {H} e low f =
      subst (λ (J : Form). ExpressionPost tab names s J job c c' r) e (record { within = low; says = f })

  pub creation-wrote : {x start size : ℕ} → x ≡ word_at tab c_number (job.row + 1) → start ≡ word_at tab c_begin job.row → size ≡ get_or names (sizes_from + x) 0
      → PutPost job.at i_make_object start x size c c' r → ExpressionPost tab names s a_new_object job c c' r
  creation-wrote {x} {start} {size} e₂ e₃ e f = formed refl f.within go
    where
      go : Says tab names s a_new_object job c c' r
      go ts G Γ w t (shows-new-object {p = p} {c = d} q sp st) h =
          let many : size ≡ length (cells_of G d.text)
          = e ∙ w.sizes.says d.text x (rw e₂ sp) ∙ sym (length-map (fields_of G d.text) (λ v. slot (initial v.type.type))) in
          put_one (make_object_lem p d.text (cells_of G d.text)) (rw (e₃ ∙ q, spelt e₂ sp, many)) f h

  pub call-wrote : {first given : Job} {a b start method count : ℕ} {c₁ c₂ : List ℕ} → PartPost tab c_first job job.at first
      → WritePost tab names s expression first c c₁ a → PartPost tab c_second job a given
      → WritePost tab names s arguments given c₁ c₂ b → start ≡ word_at tab c_begin job.row → method ≡ word_at tab c_number (job.row + 1)
      → Counts tab given.left given.row count → PutPost b i_call start method count c₂ c' r
      → ExpressionPost tab names s a_call_shown job c c' r
  call-wrote {a = a} {start = start} {method = method} {count = count} e₄ f e₅ g e₃ e₂ n p = formed refl p.within go
    where
      many : Counts tab job.left (word_at tab c_second job.row) count
      many = subst (λ (i : Job). Counts tab i.left i.row count) (found e₅) n

      go : Says tab names s a_call_shown job c c' r
      go ts G Γ w e (shows-call {p = q} {e = l} {m = m} {es = es} st sp at' x y) h =
          let u = both-wrote (found-wrote e₄ f) (found-wrote e₅ g) ts G Γ w l es x y (omega arith) in
          let i = Code.call q m.text (arity es) in
          let z : words i_call start method count ≡ encode (first_named ts) i
          = rw (e₃ ∙ st, spelt e₂ sp, counted {ts = ts} {n = s.tokens} (few-tokens w) many es y) in
          next-to (λ j k. i ∷ k) suc u (put_one i z p (rw u.ends h))

  truth-wrote : (k : ℕ) (b : Bool) {v : ℕ} → ((ν : List ℕ → ℕ) → words i_push v 0 0 ≡ encode ν (push (flag b))) → a_truth b ≡ form_atom k
      → PutPost job.at i_push v 0 0 c c' r → ExpressionPost tab names s (form_atom k) job c c' r
  truth-wrote k b is form f = formed form f.within go
    where
      go : Says tab names s (a_truth b) job c c' r
      go ts G Γ w e (shows-truth q) h = put_one (push (flag b)) (is (first_named ts)) f h

  module _ {k : ℕ} where
    pub atom-literal : k ≡ k_literal → {v : ℕ} → v ≡ word_at tab c_number job.row → PutPost job.at i_push v 0 0 c c' r
        → ExpressionPost tab names s (form_atom k) job c c' r
    unfolding form_atom
    atom-literal is {v} e₂ f = formed (sym (ap form_atom is)) f.within go
      where
        go : Says tab names s a_literal job c c' r
        go ts G Γ w e (shows-literal {v = n} q z) h = put_one (push (number n)) (ap (λ (m : ℕ). words i_push m 0 0) (e₂ ∙ z)) f h

    pub atom-fixed-literal : k ≡ k_fixed_literal → {v : ℕ} → v ≡ word_at tab c_number job.row → PutPost job.at i_push v 0 0 c c' r
        → ExpressionPost tab names s (form_atom k) job c c' r
    unfolding form_atom
    atom-fixed-literal is {v} e₂ f = formed (sym (ap form_atom is)) f.within go
      where
        go : Says tab names s a_fixed_literal job c c' r
        go ts G Γ w e (shows-fixed-literal {v = n} q z) h = put_one (push (thousandths n)) (ap (λ (m : ℕ). words i_push m 0 0) (e₂ ∙ z)) f h

    pub atom-true : k ≡ k_true → PutPost job.at i_push 1 0 0 c c' r → ExpressionPost tab names s (form_atom k) job c c' r
    unfolding form_atom
    atom-true is f = truth-wrote k true (λ ν. refl) (sym (ap form_atom is)) f

    pub atom-false : k ≡ k_false → PutPost job.at i_push 0 0 0 c c' r → ExpressionPost tab names s (form_atom k) job c c' r
    unfolding form_atom
    atom-false is f = truth-wrote k false (λ ν. refl) (sym (ap form_atom is)) f

    pub atom-this : k ≡ k_this → PutPost job.at i_self 0 0 0 c c' r → ExpressionPost tab names s (form_atom k) job c c' r
    unfolding form_atom
    atom-this is f = formed (sym (ap form_atom is)) f.within go
      where
        go : Says tab names s a_this job c c' r
        go ts G Γ w e (shows-this q) h = put_one self refl f h

    pub atom-name : (k ≡ k_literal → ⊥) → (k ≡ k_fixed_literal → ⊥) → (k ≡ k_true → ⊥) → (k ≡ k_false → ⊥) → (k ≡ k_this → ⊥) → LoadPost tab names s job c c' r
        → ExpressionPost tab names s (form_atom k) job c c' r
    unfolding form_atom
    atom-name n₁ n₂ n₃ n₄ n₅ f =
        formed (rw (ne_eqb k k_literal n₁, ne_eqb k k_fixed_literal n₂, ne_eqb k k_true n₃, ne_eqb k k_false n₄, ne_eqb k k_this n₅)) f.within go
      where
        go : Says tab names s a_variable job c c' r
        go ts G Γ w e (shows-variable {x = y} q sp) h = f.says ts G Γ w y sp h

  module _ {k : ℕ} where
    module _ (is : k ≡ k_new) {x : ℕ} (read : x ≡ kind_in_table tab s.tokens (job.row + 2)) where
      pub compound-array : x ≡ k_open_bracket → LocatedPost tab names s i_make_array job c c' r
          → CompoundPost tab names s k job c c' r
      unfolding form_compound
      compound-array told f = formed (by_kind tab s.tokens job.row k_new is (ap (form_compound k_new (kind_in_table tab s.tokens (job.row + 1))) (sym read ∙ told))) f.within go
        where
          go : Says tab names s a_new_array job c c' r
          go ts G Γ w e (shows-new-array {p = p} {u = u} {e = l} q t v x) h =
              f.says ts G Γ w (make_array_lem p u.element) (ap (λ (n : ℕ). words i_make_array n 0 0) q) l x h

      pub compound-object : (x ≡ k_open_bracket → ⊥) → ExpressionPost tab names s a_new_object job c c' r
          → CompoundPost tab names s k job c c' r
      unfolding form_compound
      compound-object other f = formed (by_kind tab s.tokens job.row k_new is (rw (sym read, ne_eqb x k_open_bracket other))) f.within f.says

    module _ (is : k ≡ k_dot) {x : ℕ} (read : x ≡ kind_in_table tab s.tokens (job.row + 1)) where
      pub compound-length : x ≡ k_length → LocatedPost tab names s i_measure job c c' r
          → CompoundPost tab names s k job c c' r
      unfolding form_compound
      compound-length told f = formed (by_kind tab s.tokens job.row k_dot is (ap (λ (j : ℕ). form_compound k_dot j (kind_in_table tab s.tokens (job.row + 2))) (sym read ∙ told))) f.within go
        where
          go : Says tab names s a_length job c c' r
          go ts G Γ w e (shows-length {p = p} {e = l} q x) h = f.says ts G Γ w (measure p) (ap (λ (n : ℕ). words i_measure n 0 0) q) l x h

      pub compound-call : (x ≡ k_length → ⊥) → ExpressionPost tab names s a_call_shown job c c' r
          → CompoundPost tab names s k job c c' r
      unfolding form_compound
      compound-call other f = formed (by_kind tab s.tokens job.row k_dot is (rw (sym read, ne_eqb x k_length other))) f.within f.says

    pub compound-not : k ≡ k_not → {first : Job} → PartPost tab c_first job job.at first → FollowedPost tab names s i_negate 0 first c c' r
        → CompoundPost tab names s k job c c' r
    unfolding form_compound
    compound-not is e₄ f = formed (by_kind tab s.tokens job.row k_not is refl) f.within go
      where
        go : Says tab names s a_negation job c c' r
        go ts G Γ w e (shows-negation {e = l} q x) h = (found-followed e₄ f).says ts G Γ w negate refl l x h

    pub compound-get : k ≡ k_port → LocatedPost tab names s i_read_register job c c' r
        → CompoundPost tab names s k job c c' r
    unfolding form_compound
    compound-get is f = formed (by_kind tab s.tokens job.row k_port is refl) f.within go
      where
        go : Says tab names s a_port_get job c c' r
        go ts G Γ w e (shows-port-get {p = p} {e = l} q x) h =
            f.says ts G Γ w (read_register p) (ap (λ (n : ℕ). words i_read_register n 0 0) q) l x h

    pub compound-element : k ≡ k_open_bracket → PairPost tab names s i_fetch (word_at tab c_begin job.row) job c c' r
        → CompoundPost tab names s k job c c' r
    unfolding form_compound
    compound-element is f = formed (by_kind tab s.tokens job.row k_open_bracket is refl) f.within go
      where
        go : Says tab names s an_element job c c' r
        go ts G Γ w e (shows-element {p = p} {a = l} {i = m} q x y) h =
            f.says ts G Γ w (fetch p) (ap (λ (n : ℕ). words i_fetch n 0 0) q) l m x y h

    pub compound-binary : (k ≡ k_new → ⊥) → (k ≡ k_dot → ⊥) → (k ≡ k_not → ⊥) → (k ≡ k_port → ⊥) → (k ≡ k_open_bracket → ⊥)
        → ExpressionPost tab names s a_binary job c c' r → CompoundPost tab names s k job c c' r
    unfolding form_compound
    compound-binary n₁ n₂ n₃ n₄ n₅ f =
        formed (rw (ne_eqb k k_new n₁, ne_eqb k k_dot n₂, ne_eqb k k_not n₃, ne_eqb k k_port n₄, ne_eqb k k_open_bracket n₅)) f.within f.says

-- a number of a name is that of a token
pub creation-none : {tab names : List ℕ} {s : Scope} {job : Job} {c : List ℕ} {x : ℕ} → x ≡ word_at tab c_number (job.row + 1) → absent ≤ x
    → job.at ≤ room → ExpressionPost tab names s a_new_object job c c job.at
creation-none {tab} {names} {s} {job} {c} {x} e₂ far low = record { within = low; says = go }
  where
    go : Says tab names s a_new_object job c c job.at
    go ts G Γ w t (shows-new-object q sp st) h = absurd (omega (arith, sp.there, few-tokens w, e₂))

-- OPERATORS

-- the kind of its token tells `&&` from the other operators
and-kind : (o : Operator) → is_and o ≡ eqb (operator_kind o) k_and
and-kind and = refl
and-kind less = refl
and-kind plus = refl
and-kind minus = refl
and-kind times = refl

-- and `*` from the others
other-code : (G : List Class) (Γ : Context) (l : Expression) (o : Operator) → (operator_kind o ≡ k_times → ⊥) → operator_code G Γ o l ≡ operate o
other-code G Γ l and n = refl
other-code G Γ l less n = refl
other-code G Γ l plus n = refl
other-code G Γ l minus n = refl
other-code G Γ l times n = absurd (n refl)

times-code : (G : List Class) (Γ : Context) (l : Expression) (o : Operator) → operator_kind o ≡ k_times → {b : Bool}
    → b ≡ judged_fixed (judge G Γ l) → operator_code G Γ o l ≡ instruction_of b o
times-code G Γ l and is e = absurd (omega (arith, is))
times-code G Γ l less is e = absurd (omega (arith, is))
times-code G Γ l plus is e = absurd (omega (arith, is))
times-code G Γ l minus is e = absurd (omega (arith, is))
times-code G Γ l times is {b} e = rw (sym e) (by b)
  where
    by : (b : Bool) → times_of b ≡ instruction_of b times
    by true = refl
    by false = refl

-- whether an answer is that for fixed
judged-fixed : {tab : List ℕ} {n : ℕ} {ts : List Token} → Lexemes tab n ts → {o : Outcome Ty} {v : Typed} {t : ℕ} → Judges ts o v
    → v ≡ Ok t → eqb t number_of_fixed ≡ judged_fixed o
judged-fixed lx {t = t} (well {w = w} d) is =
    let z : w ≡ t = cc in
    rw (sym z) (elim (ℕ_discrete w number_of_fixed) [
      | yes e ↦ eq-eqb w number_of_fixed e ∙ sym (same_codes lx (code-plain (code_fixed refl)) d (sym e))
      | no e ↦ ne_eqb w number_of_fixed e ∙ sym (other-codes lx (code-plain (code_fixed refl)) d (λ y. e (sym y)))
    ])
judged-fixed lx ill is = apart (cc)

judged-none : {ts : List Token} {o : Outcome Ty} {v : Typed} {z : Refusal} → Judges ts o v → v ≡ Err z → false ≡ judged_fixed o
judged-none (well d) is = apart (cc)
judged-none ill is = refl

module _ {tab : List ℕ} {s : Scope} {k row : ℕ} where
  pub scales-other : (k ≡ k_times → ⊥) → ScalesPost tab s k row false
  scales-other other = record { says = λ ts G Γ w o is l h. other-code G Γ l o (λ e. other (is ∙ e)) }

  module _ (times : k ≡ k_times) {from end : ℕ} (low : from ≡ 0) (high : end ≡ s.tokens) {v : Typed}
      (f : Bodies.ExpressionPost tab s from end row v) where
    pub scales-judged : {t : ℕ} → v ≡ Ok t → ScalesPost tab s k row (eqb t number_of_fixed)
    scales-judged fine =
        record {
          says = λ ts G Γ w o is l h.
              times-code G Γ l o (sym is ∙ times) (judged-fixed w.world.tokens (f.says ts G Γ w l (rw (low, high) h)) fine);
        }

    pub scales-refused : {z : Refusal} → v ≡ Err z → ScalesPost tab s k row false
    scales-refused wrong =
        record { says = λ ts G Γ w o is l h. times-code G Γ l o (sym is ∙ times) (judged-none (f.says ts G Γ w l (rw (low, high) h)) wrong) }

-- the code of `&&`, and of another operator, as that of an operator
wrote : (ts : List Token) (G : List Class) (Γ : Context) (o : Operator) (l m : Expression) {at r : ℕ} {c c' : List ℕ} {b : Bool}
    → is_and o ≡ b → Written ts (λ n. emit G Γ l at (emit_binary b (operator_code G Γ o l) (end l at) (end m) (emit G Γ m) n))
    (end_binary b (end l at) (end m)) at c c' r
    → Written ts (λ n. emit G Γ l at (emit_binary (is_and o) (operator_code G Γ o l) (end l at) (end m) (emit G Γ m) n))
    (end_binary (is_and o) (end l at) (end m)) at c c' r
wrote ts G Γ o l m {at} {r} {c} {c'} e f =
    subst
    (λ (b : Bool). Written ts (λ n. emit G Γ l at (emit_binary b (operator_code G Γ o l) (end l at) (end m) (emit G Γ m) n))
    (end_binary b (end l at) (end m)) at c c' r)
    (sym e) f

module _ {tab names : List ℕ} {s : Scope} {job : Job} {r : ℕ} {c c' : List ℕ} {k : ℕ} (kind : k ≡ kind_in_table tab s.tokens job.row) where
  pub binary-and : k ≡ k_and → ConjunctionPost tab names s job c c' r → ExpressionPost tab names s a_binary job c c' r
  binary-and is f = record { within = f.within; says = go }
    where
      go : Says tab names s a_binary job c c' r
      go ts G Γ w e (shows-binary {o = o} {l = l} {r = m} q z x y) =
          wrote ts G Γ o l m (and-kind o ∙ ap (λ (j : ℕ). eqb j k_and) (sym z ∙ sym kind ∙ is)) (f.says ts G Γ w l m x y)

  module _ (other : k ≡ k_and → ⊥) {first : ℕ} (e₄ : first ≡ word_at tab c_first job.row) {b : Bool} (scales : ScalesPost tab s k first b) where
    -- words that are those of the operator's instruction
    binary-pair : {op arg : ℕ} → ((ν : List ℕ → ℕ) (o : Operator) → k ≡ operator_kind o → words op arg 0 0 ≡ encode ν (instruction_of b o))
        → PairPost tab names s op arg job c c' r → ExpressionPost tab names s a_binary job c c' r
    binary-pair {op} {arg} is f = record { within = f.within; says = go }
      where
        go : Says tab names s a_binary job c c' r
        go ts G Γ w e (shows-binary {o = o} {l = l} {r = m} q z x y) =
            let lies : PartIn tab ts first 0 s.tokens l =
            record { at = x.at ∙ sym e₄; holds = x.holds; matches = x.matches; within = x.within.spans } in
            let code = scales.says ts G Γ w.scope o (kind ∙ z) l lies in
            wrote ts G Γ o l m (and-kind o ∙ ne_eqb (operator_kind o) k_and (λ i. other (kind ∙ z ∙ i)))
            (f.says ts G Γ w (operator_code G Γ o l) (is (first_named ts) o (kind ∙ z) ∙ ap (encode (first_named ts)) (sym code)) l m x y)

    pub binary-scale : b ≡ true → PairPost tab names s i_scale 0 job c c' r → ExpressionPost tab names s a_binary job c c' r
    binary-scale yes' f = binary-pair (λ ν o is. rw yes') f

    pub binary-operation : b ≡ false → PairPost tab names s i_operate k job c c' r
        → ExpressionPost tab names s a_binary job c c' r
    binary-operation no' f = binary-pair (λ ν o is. rw (no', is)) f

-- THE MARK

opens : (G : List Class) (Γ : Context) (e : Expression) → Opens G Γ e (place_e e).start (inner_e G Γ e) (end_e e)
unfolding emit end
opens G Γ (literal p n) = record { code = λ i k. refl; ends = λ i. refl }
opens G Γ (truth p b) = record { code = λ i k. refl; ends = λ i. refl }
opens G Γ (variable p x) = record { code = λ i k. refl; ends = λ i. refl }
opens G Γ (this p) = record { code = λ i k. refl; ends = λ i. refl }
opens G Γ (new_array_lem p u e) = record { code = λ i k. refl; ends = λ i. refl }
opens G Γ (new_object_lem p c) = record { code = λ i k. refl; ends = λ i. refl }
opens G Γ (negation p e) = record { code = λ i k. refl; ends = λ i. refl }
opens G Γ (binary p o l r) = record { code = λ i k. refl; ends = λ i. refl }
opens G Γ (element p a i) = record { code = λ i k. refl; ends = λ i. refl }
opens G Γ (array_length p a) = record { code = λ i k. refl; ends = λ i. refl }
opens G Γ (call p e m es) = record { code = λ i k. refl; ends = λ i. refl }
opens G Γ (port_get_lem p e) = record { code = λ i k. refl; ends = λ i. refl }

module _ {tab names : List ℕ} {s : Scope} {job : Job} {c : List ℕ} where
  pub expression-none : job.left ≡ 0 → job.at ≤ room → WritePost tab names s expression job c c job.at
  expression-none z low = record { within = low; says = λ ts G Γ w e h. absurd (omega (arith, positive e, h.within.few)) }

  module _ (more : job.left ≡ 0 → ⊥) {k i : ℕ} {c₁ : List ℕ} (kind : k ≡ kind_in_table tab s.tokens job.row)
      (p : PutPost job.at i_mark (word_at tab c_begin job.row) 0 0 c c₁ i) {r : ℕ} {c₂ : List ℕ} {b : Bool} (test : b ≡ is_atom_lem k) where
    behind-mark : {F : Form} → form_e k (kind_in_table tab s.tokens (job.row + 1)) (kind_in_table tab s.tokens (job.row + 2)) ≡ F
        → ExpressionPost tab names s F (one_less job i) c₁ c₂ r → WritePost tab names s expression job c c₂ r
    behind-mark {F} form f =
        record {
          within = f.within;
          says = λ ts G Γ w e h l.
              let sh : Shows tab ts s.tokens job.row (PartBounded s.tokens (job.left - 1)) (PartBounded s.tokens (job.left - 1)) F e
              = shown (lexemes w) job.row (PartBounded s.tokens job.left) (PartBounded s.tokens (job.left - 1)) (PartBounded s.tokens (job.left - 1))
              (fewer s.tokens job.row job.left more)
              (ap (λ (j : ℕ). form_e j (kind_in_table tab s.tokens (job.row + 1)) (kind_in_table tab s.tokens (job.row + 2))) (sym kind) ∙ form) e h in
              node-wrote (opens G Γ e) (positive e) (starts sh) p l (f.says ts G Γ w e sh);
        }

    pub expression-atom : b ≡ true → ExpressionPost tab names s (form_atom k) (one_less job i) c₁ c₂ r
        → WritePost tab names s expression job c c₂ r
    unfolding form_e
    expression-atom is f = behind-mark (rw (sym test ∙ is)) f

    pub expression-compound : b ≡ false → CompoundPost tab names s k (one_less job i) c₁ c₂ r
        → WritePost tab names s expression job c c₂ r
    unfolding form_e
    expression-compound is f = behind-mark (rw (sym test ∙ is)) f
