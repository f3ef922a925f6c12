-- What the functions on statements return meets their contracts, as with expressions; a jump over a part is written after it, when the
-- place behind the part is known.
use Prim.Native.Nat.{ℕ, suc, ◌+◌, ◌-◌, ◌≤◌}
use native.Mathlib.Omega.{arith}
use mathlib.Core.Path.{◌≡◌, refl, sym, ap, ◌∙◌, subst}
use mathlib.Core.List.{List, ◌∷◌}
use borrow.Author.Tests.{ne_eqb}
use Rattle.base.specs.promises.Table.{c_number, c_begin, c_first, c_second, c_third}
use Rattle.lexer.specs.Tokens.{Token}
use Rattle.lexer.specs.Kinds.{k_if, k_port, k_system, k_while, k_open_bracket, k_open_brace}
use Rattle.parser.specs.Tree.{Sort.expression, Sort.statement, Sort.statements, Statement, Class, place_s}
use Rattle.parser.specs.Tree.{Part.block, Part.conditional, Part.loop, Part.print, Part.assign, Part.assign_element_lem, Part.port_put_lem}
use Rattle.parser.specs.promises.Post.{kind_in_table}
use Rattle.typesystem.specs.ClassTable.{Context, meaning}
use Rattle.lookup.specs.promises.HeldClasses.{word_at}
use Rattle.lookup.specs.promises.Shows.{Form, a_block_shown, a_conditional, a_loop, a_print, an_assignment, an_element_store, a_port_put, form_s}
use Rattle.lookup.specs.promises.Shows.{Bound, ShowsS, shows-block, shows-conditional, shows-loop, shows-print, shows-assignment}
use Rattle.lookup.specs.promises.Shows.{shows-element-store, shows-port-put}
use Rattle.lookup.specs.laws.ShowLaws.{shown_s}
use Rattle.bodies.specs.declared.scope.Scope.{Scope}
use Rattle.writer.specs.declared.job.Job.{Job}
use Rattle.writer.specs.promises.Scoping.{SlotPost}
use Rattle.writer.specs.promises.Jobs.{one_less, PartPost}
use Rattle.codegen.specs.promises.Code as Code
use Rattle.codegen.specs.promises.Code.{save, jump, unless, store_element_lem, write_register, i_mark, i_save, i_jump, i_unless, i_print, i_store_element, i_write_register}
use Rattle.codegen.specs.promises.Compile.{end, emit}
use Rattle.writer.specs.promises.Words.{words}
use Rattle.writer.specs.laws.Lengths.{grows}
use Rattle.writer.specs.promises.Posts.{room, PutPost, NextPost, PartBounded, WritePost, inner_s, end_s}
use Rattle.writer.specs.promises.Posts.{form_tested, SaysS}
use Rattle.writer.specs.promises.Posts.{StatementPost, LoadPost, FollowedPost, LocatedPost, PairPost, BranchesPost, OtherwisePost, BodyPost}
use Rattle.writer.proofs.RowLaws.{positive-statement, fewer_s}
use Rattle.writer.proofs.PieceLaws.{put_one, next-to, over, Opens, node-wrote}
use Rattle.writer.proofs.ExpressionLaws.{lexemes, found-wrote, found-followed}

-- PARTS AND AN INSTRUCTION

module _ {tab names : List ℕ} {s : Scope} {job : Job} {r : ℕ} {c c' : List ℕ} where
  pub assignment-wrote : {x v : ℕ} {first : Job} → x ≡ word_at tab c_number job.row → SlotPost tab s x v → PartPost tab c_first job job.at first
      → FollowedPost tab names s i_save v first c c' r → StatementPost tab names s an_assignment job c c' r
  assignment-wrote {x} {v} e₂ g e₄ f = record { within = f.within; says = go }
    where
      go : SaysS tab names s an_assignment job c c' r
      go ts G Γ w t (shows-assignment {x = y} {e = e} z sp d) h =
          (found-followed e₄ f).says ts G Γ w (save (meaning G Γ y))
          (ap (λ (n : ℕ). words i_save n 0 0) (g.says ts G Γ w.scope y (rw e₂ sp))) e d h

  pub element-wrote : {i : ℕ} {c₀ : List ℕ} → LoadPost tab names s job c c₀ i
      → PairPost tab names s i_store_element (word_at tab c_begin job.row) (record { left = job.left; row = job.row; at = i }) c₀ c' r
      → StatementPost tab names s an_element_store job c c' r
  element-wrote {i} {c₀} g f = record { within = f.within; says = go }
    where
      go : SaysS tab names s an_element_store job c c' r
      go ts G Γ w t (shows-element-store {p = q} {x = y} {i = l} {e = m} z sp d d') h =
          let at = suc job.at in
          let n = g.says ts G Γ w y sp (omega (arith, grows l at, grows m (end l at))) in
          next-to (λ j k. emit G Γ l j (emit G Γ m (end l j) (store_element_lem q ∷ k))) (λ j. suc (end m (end l j))) n
          (f.says ts G Γ w (store_element_lem q) (ap (λ (j : ℕ). words i_store_element j 0 0) z) l m d d' (rw n.ends h))

-- JUMPS

pub otherwise-wrote : {tab names : List ℕ} {s : Scope} {job third : Job} {at n r w : ℕ} {c c₁ c₂ : List ℕ} → NextPost at n
    → PartPost tab c_third job n third → WritePost tab names s statement third c c₁ r → PutPost at i_jump r 0 0 c₁ c₂ w
    → OtherwisePost tab names s job at c c₂ r
otherwise-wrote {at = at} m e₇ f p =
    record {
      within = f.within;
      says = λ ts G Γ w z x h.
          let low : suc at ≤ room = omega (arith, grows z (suc at)) in
          let u = (found-wrote e₇ f).says ts G Γ w z x (rw (m.next low) h) in
          over (jump (end z (suc at))) (emit G Γ z) (end z) m u (ap (λ (i : ℕ). words i_jump i 0 0) (u.ends ∙ ap (end z) (m.next low))) p low
          (grows z (suc at));
    }

pub branches-wrote : {tab names : List ℕ} {s : Scope} {job second : Job} {at n b r z w : ℕ} {c c₁ c₂ c₃ : List ℕ} → NextPost at n
    → PartPost tab c_second job n second → WritePost tab names s statement second c c₁ b → OtherwisePost tab names s job b c₁ c₂ r → NextPost b z
    → PutPost at i_unless z 0 0 c₂ c₃ w → BranchesPost tab names s job at c c₃ r
branches-wrote {at = at} {b = b} m e₅ f g y p =
    record {
      within = g.within;
      says = λ ts G Γ w l t x x' h.
          let high = grows t (suc (end l (suc at))) in
          let low : suc at ≤ room = omega (arith, grows l (suc at)) in
          let u = (found-wrote e₅ f).says ts G Γ w l x (rw (m.next low) (omega arith)) in
          let is : b ≡ end l (suc at) = u.ends ∙ ap (end l) (m.next low) in
          let v = g.says ts G Γ w t x' (rw is h) in
          over (unless (suc (end l (suc at)))) (λ j k. emit G Γ l j (jump (end t (suc (end l j))) ∷ emit G Γ t (suc (end l j)) k))
          (λ j. end t (suc (end l j))) m
          (next-to (λ j k. jump (end t (suc j)) ∷ emit G Γ t (suc j) k) (λ j. end t (suc j)) u v)
          (ap (λ (i : ℕ). words i_unless i 0 0) (y.next (rw is (omega arith)) ∙ ap suc is)) p low (omega (arith, grows l (suc at)));
    }

pub body-wrote : {tab names : List ℕ} {s : Scope} {job second : Job} {at n b r w : ℕ} {c c₁ c₂ c₃ : List ℕ} → NextPost at n
    → PartPost tab c_second job n second → WritePost tab names s statement second c c₁ b → PutPost b i_jump job.at 0 0 c₁ c₂ r
    → PutPost at i_unless r 0 0 c₂ c₃ w → BodyPost tab names s job at c c₃ r
body-wrote {job = job} {at = at} {b = b} m e₅ f q p =
    record {
      within = q.within;
      says = λ ts G Γ w l x h.
          let low : suc at ≤ room = omega (arith, grows l (suc at)) in
          let u = (found-wrote e₅ f).says ts G Γ w l x (rw (m.next low) (omega arith)) in
          let is : b ≡ end l (suc at) = u.ends ∙ ap (end l) (m.next low) in
          let v = put_one (jump job.at) refl q (rw is h) in
          over (unless (suc (end l (suc at)))) (λ j k. emit G Γ l j (jump job.at ∷ k)) (λ j. suc (end l j)) m
          (next-to (λ j k. jump job.at ∷ k) suc u v) (ap (λ (i : ℕ). words i_unless i 0 0) (v.ends ∙ ap suc is)) p low
          (omega (arith, grows l (suc at)));
    }

-- THE TEST AND WHAT FOLLOWS

-- a form by another name
formed : {tab names : List ℕ} {s : Scope} {job : Job} {r : ℕ} {c c' : List ℕ} {F H : Form} → F ≡ H → r ≤ room
    → SaysS tab names s F job c c' r → StatementPost tab names s H job c c' r
formed {tab} {names} {s} {job} {r} {c} {c'} {F} {H} e low g =
    subst (λ (J : Form). StatementPost tab names s J job c c' r) e (record { within = low; says = g })

module _ {tab names : List ℕ} {s : Scope} {job first : Job} {a r : ℕ} {c c₁ c₂ : List ℕ}
    (e₄ : PartPost tab c_first job job.at first) (f : WritePost tab names s expression first c c₁ a) {k : ℕ} where
  pub conditional-wrote : k ≡ k_if → BranchesPost tab names s job a c₁ c₂ r
      → StatementPost tab names s (form_tested k) job c c₂ r
  unfolding form_tested
  conditional-wrote is g = formed (sym (ap form_tested is)) g.within go
    where
      go : SaysS tab names s a_conditional job c c₂ r
      go ts G Γ w t (shows-conditional {e = e} {s = y} {t = z} st x x' x'') h =
          let u = (found-wrote e₄ f).says ts G Γ w e x (omega (arith, grows y (suc (end e job.at)), grows z (suc (end y (suc (end e job.at)))))) in
          next-to
          (λ j k. unless (suc (end y (suc j))) ∷ emit G Γ y (suc j)
          (jump (end z (suc (end y (suc j)))) ∷ emit G Γ z (suc (end y (suc j))) k))
          (λ j. end z (suc (end y (suc j)))) u (g.says ts G Γ w y z x' x'' (rw u.ends h))

  pub loop-wrote : (k ≡ k_if → ⊥) → BodyPost tab names s job a c₁ c₂ r → StatementPost tab names s (form_tested k) job c c₂ r
  unfolding form_tested
  loop-wrote other g = formed (rw (ne_eqb k k_if other)) g.within go
    where
      go : SaysS tab names s a_loop job c c₂ r
      go ts G Γ w t (shows-loop {e = e} {s = y} st x x') h =
          let u = (found-wrote e₄ f).says ts G Γ w e x (omega (arith, grows y (suc (end e job.at)))) in
          next-to (λ j k. unless (suc (end y (suc j))) ∷ emit G Γ y (suc j) (jump job.at ∷ k)) (λ j. suc (end y (suc j))) u
          (g.says ts G Γ w y x' (rw u.ends h))

-- THE MARK

starts : {tab : List ℕ} {ts : List Token} {row : ℕ} {Behind : Bound} {F : Form} {t : Statement}
    → ShowsS tab ts row Behind F t → word_at tab c_begin row ≡ (place_s t).start
starts (shows-block s x) = s
starts (shows-conditional s x y z) = s
starts (shows-loop s x y) = s
starts (shows-print s x) = s
starts (shows-assignment s q x) = s
starts (shows-element-store s q x y) = s
starts (shows-port-put s x y) = s

opens : (G : List Class) (Γ : Context) (t : Statement) → Opens G Γ t (place_s t).start (inner_s G Γ t) (end_s t)
unfolding emit end
opens G Γ (block p ss) = record { code = λ i k. refl; ends = λ i. refl }
opens G Γ (conditional p e s t) = record { code = λ i k. refl; ends = λ i. refl }
opens G Γ (loop p e s) = record { code = λ i k. refl; ends = λ i. refl }
opens G Γ (print p e) = record { code = λ i k. refl; ends = λ i. refl }
opens G Γ (assign p x e) = record { code = λ i k. refl; ends = λ i. refl }
opens G Γ (assign_element_lem p x i e) = record { code = λ i k. refl; ends = λ i. refl }
opens G Γ (port_put_lem p n e) = record { code = λ i k. refl; ends = λ i. refl }

module _ {tab names : List ℕ} {s : Scope} {job : Job} {c : List ℕ} where
  pub statement-none : job.left ≡ 0 → job.at ≤ room → WritePost tab names s statement job c c job.at
  statement-none z low = record { within = low; says = λ ts G Γ w t h. absurd (omega (arith, positive-statement t, h.within.few)) }

  module _ (more : job.left ≡ 0 → ⊥) {k i : ℕ} {c₁ : List ℕ} (kind : k ≡ kind_in_table tab s.tokens job.row)
      (p : PutPost job.at i_mark (word_at tab c_begin job.row) 0 0 c c₁ i) {r : ℕ} {c₂ : List ℕ} where
    behind-mark : {F : Form} → form_s k (kind_in_table tab s.tokens (job.row + 1)) ≡ F → r ≤ room
        → SaysS tab names s F (one_less job i) c₁ c₂ r → WritePost tab names s statement job c c₂ r
    behind-mark {F} form fits f =
        record {
          within = fits;
          says = λ ts G Γ w t h l.
              let sh : ShowsS tab ts job.row (PartBounded s.tokens (job.left - 1)) F t
              = shown_s (lexemes w) job.row (PartBounded s.tokens job.left) (PartBounded s.tokens (job.left - 1))
              (fewer_s s.tokens job.row job.left more)
              (ap (λ (j : ℕ). form_s j (kind_in_table tab s.tokens (job.row + 1))) (sym kind) ∙ form) t h in
              node-wrote (opens G Γ t) (positive-statement t) (starts sh) p l (f ts G Γ w t sh);
        }

    pub statement-block : k ≡ k_open_brace → {first : Job} → PartPost tab c_first (one_less job i) i first → WritePost tab names s statements first c₁ c₂ r
        → WritePost tab names s statement job c c₂ r
    unfolding form_s
    statement-block is e₄ f = behind-mark (rw is) f.within go
      where
        go : SaysS tab names s a_block_shown (one_less job i) c₁ c₂ r
        go ts G Γ w t (shows-block {ss = ss} st x) h = (found-wrote e₄ f).says ts G Γ w ss x h

    pub statement-if : k ≡ k_if → StatementPost tab names s (form_tested k) (one_less job i) c₁ c₂ r
        → WritePost tab names s statement job c c₂ r
    unfolding form_s form_tested
    statement-if is f = behind-mark (rw is) f.within f.says

    pub statement-while : k ≡ k_while → StatementPost tab names s (form_tested k) (one_less job i) c₁ c₂ r
        → WritePost tab names s statement job c c₂ r
    unfolding form_s form_tested
    statement-while is f = behind-mark (rw is) f.within f.says

    pub statement-print : k ≡ k_system → LocatedPost tab names s i_print (one_less job i) c₁ c₂ r
        → WritePost tab names s statement job c c₂ r
    unfolding form_s
    statement-print is f = behind-mark (rw is) f.within go
      where
        go : SaysS tab names s a_print (one_less job i) c₁ c₂ r
        go ts G Γ w t (shows-print {p = q} {e = e} z x) h = f.says ts G Γ w (Code.print q) (ap (λ (n : ℕ). words i_print n 0 0) z) e x h

    pub statement-put : k ≡ k_port → PairPost tab names s i_write_register (word_at tab c_begin job.row) (one_less job i) c₁ c₂ r
        → WritePost tab names s statement job c c₂ r
    unfolding form_s
    statement-put is f = behind-mark (rw is) f.within go
      where
        go : SaysS tab names s a_port_put (one_less job i) c₁ c₂ r
        go ts G Γ w t (shows-port-put {p = q} {n = n} {e = e} z x y) h =
            f.says ts G Γ w (write_register q) (ap (λ (j : ℕ). words i_write_register j 0 0) z) n e x y h

    module _ (n₁ : k ≡ k_open_brace → ⊥) (n₂ : k ≡ k_if → ⊥) (n₃ : k ≡ k_while → ⊥) (n₄ : k ≡ k_system → ⊥) (n₅ : k ≡ k_port → ⊥) {after : ℕ}
        (next : after ≡ kind_in_table tab s.tokens (job.row + 1)) where
      pub statement-element : after ≡ k_open_bracket → StatementPost tab names s an_element_store (one_less job i) c₁ c₂ r
          → WritePost tab names s statement job c c₂ r
      unfolding form_s
      statement-element is f =
          behind-mark (rw (ne_eqb k k_open_brace n₁, ne_eqb k k_if n₂, ne_eqb k k_while n₃, ne_eqb k k_system n₄, ne_eqb k k_port n₅, sym next ∙ is)) f.within
          f.says

      pub statement-assignment : (after ≡ k_open_bracket → ⊥) → StatementPost tab names s an_assignment (one_less job i) c₁ c₂ r
          → WritePost tab names s statement job c c₂ r
      unfolding form_s
      statement-assignment no' f =
          behind-mark (rw (ne_eqb k k_open_brace n₁, ne_eqb k k_if n₂, ne_eqb k k_while n₃, ne_eqb k k_system n₄, ne_eqb k k_port n₅, sym next, ne_eqb after k_open_bracket no'))
          f.within f.says
