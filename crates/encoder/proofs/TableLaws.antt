-- What encode_result tables returns meets its contract: the row that the look-up by number finds has the address that the climb through the rows of
-- the code finds.
use Prim.Native.Nat.{ℕ, suc, ◌+◌, ◌-◌, ◌≤◌, ◌<◌}
use native.Mathlib.Omega.{arith}
use mathlib.Core.Path.{◌≡◌, refl, sym, ap, ap₂, ◌∙◌, subst}
use mathlib.Core.List.{List, [], ◌∷◌, map}
use mathlib.Core.Option.{Option, none, some}
use lib.ListN.{length, get_or, get_elem?}
use Rattle.base.specs.promises.Table.{c_number, c_next}
use Rattle.lexer.specs.Tokens.{Token}
use Rattle.parser.specs.Tree.{Class, Program}
use Rattle.parser.specs.promises.Layout.{absent, row_classes}
use Rattle.typesystem.specs.ClassTable.{Found, chain_within, chain, nearest_method, method_of}
use Rattle.typesystem.specs.TypingRules.{class_name}
use Rattle.typing.specs.laws.Chains.{all-classes}
use Rattle.typing.specs.laws.Choices.{none-some}
use Rattle.typing.specs.laws.ClassTableLaws.{all-methods, Declares, method-declares}
use Rattle.typing.specs.laws.Members.{method_of-has}
use Rattle.typing.specs.laws.Programs.{table-acyclic}
use Rattle.semantics.specs.Machine.{Climbed, search}
use Rattle.soundness.specs.laws.Search.{search-found}
use Rattle.lookup.specs.promises.HeldClasses.{word_at, NameNumber, a-name, MethodHeld, ClassesHeld, more-classes}
use Rattle.lookup.specs.promises.Lookups.{row_found, FindsMethod}
use Rattle.lookup.specs.laws.HeldLaws.{word_in, name-word, row-there, all-stand, methods-stand}
use Rattle.declarations.specs.promises.Judgements.{ClassesAt}
use Rattle.codegen.specs.promises.Code.{ClassRow, climb}
use Rattle.codegen.specs.promises.Compile.{end, entry_for, end_methods, rows_of, compile}
use Rattle.codegen.proofs.laws.Layout.{compiled}
use Rattle.codegen.proofs.laws.Dispatch.{Both, neither, both, finds}
use Rattle.writer.specs.laws.Entries.{entry_at}
use Rattle.frames.specs.Lines.{Line, line}
use Rattle.frames.specs.Encode.{entry_line, tables}
use Rattle.encoder.specs.declared.plan.Plan.{Plan}
use Rattle.encoder.specs.promises.Strip.{Puts}
use Rattle.encoder.specs.promises.Tables.{rows_for, Lesson, line_for, OfClassPost, OfMethodPost, TablesPost}
use Rattle.encoder.specs.laws.Bytes.{puts_none, puts_then}

-- THE CLIMB

rows_long : (ks : List Class) (i : ℕ) → length (rows_of ks i) ≡ length ks
unfolding rows_of
rows_long [] i = refl
rows_long (k ∷ ks) i = ap suc (rows_long ks (end_methods k.methods i))

both-none : {A B : Type 0} {Q : A → B → Type 0} {o : Option A} {u : Option B} → Both Q o u → o ≡ none → u ≡ none
both-none neither e = refl
both-none (both q) e = absurd (none-some e refl)

rows_are : (g : Program) → (compile g).rows ≡ rows_for g
unfolding compile
rows_are g = refl

-- no method is found, neither in the program nor in its code
climb-none : (g : Program) (c m : List ℕ) → method_of g.classes c m ≡ none → climb (length (rows_for g)) (rows_for g) c m ≡ none
climb-none g c m e =
    subst (λ (R : List ClassRow). climb (length R) R c m ≡ none) (rows_are g)
    (both-none (finds g.classes (compile g).instructions (compiled g).classes m c) (by (search (chain g.classes c) m) refl))
  where
    by : (o : Option (Climbed Found)) → search (chain g.classes c) m ≡ o → o ≡ none
    by none q = refl
    by (some s) q = absurd (none-some e (search-found g.classes c m q))

method-chain : (G : List Class) (c m : List ℕ) → method_of G c m ≡ nearest_method (chain_within (length G) G c) m
unfolding method_of chain
method-chain G c m = refl

module _ {tab entries : List ℕ} {p : Plan} {c x row : ℕ} (f : FindsMethod tab p.tokens p.classes c x row) where
  -- what the look-up by number finds
  row_is : (ts : List Token) (g : Program) → Lesson tab entries p ts g → (k : List ℕ) → NameNumber ts k c → (m : List ℕ) → NameNumber ts m x
      → row ≡ row_found (nearest_method (chain_within (length g.classes) g.classes k) m)
  row_is ts g L k hk m hm =
      f.says ts g.classes L.world (some k) (a-name hk) m hm
      ∙ ap (λ (n : ℕ). row_found (nearest_method (chain_within n g.classes k) m)) (sym L.many)

  -- found: the row leads to the address
  found-line : (ts : List Token) (g : Program) → Lesson tab entries p ts g → (k m : List ℕ) (o : Option Found)
      → nearest_method (chain_within (length g.classes) g.classes k) m ≡ o → row ≡ row_found o → row < absent
      → line 22 (get_or entries row 0) ≡ line_for g k m
  found-line ts g L k m none e r near = absurd (omega (arith, r, near))
  found-line ts g L k m (some F) e r near =
      let i = suc (end g.statement 0) in
      let w = entry_at L.derived i L.before L.room (length g.classes) k m e in
      let z : climb (length (rows_for g)) (rows_for g) k m ≡ some (record { found = entry_for F.method w.0; visits = w.1 })
      = ap (λ (n : ℕ). climb n (rows_for g) k m) (rows_long g.classes i) ∙ w.2 in
      ap (line 22) (ap₂ (λ (E : List ℕ) (j : ℕ). get_or E j 0) L.entered r ∙ w.3) ∙ ap entry_line (sym z)

  -- a method that is found stands in the table
  stands : (ts : List Token) (g : Program) → Lesson tab entries p ts g → (k m : List ℕ) (F : Found) → method_of g.classes k m ≡ some F
      → MethodHeld tab p.tokens ts F.method
  stands ts g L k m F e =
      let T = L.typed.classes in
      let D : Declares g.classes k m F = method-declares T (method_of-has (table-acyclic T) k m e) in
      all-methods m (methods-stand (all-classes F.owner (all-stand L.world.classes) D.named).methods) D.listed

  -- not found
  no_line : (ts : List Token) (g : Program) → Lesson tab entries p ts g → (k m : List ℕ) (o : Option Found) → method_of g.classes k m ≡ o
      → row ≡ row_found o → absent ≤ row → line 23 0 ≡ line_for g k m
  no_line ts g L k m none e r far = ap entry_line (sym (climb-none g k m e))
  no_line ts g L k m (some F) e r far =
      absurd (omega (arith, r, far, (stands ts g L k m F e).head.name.token.there, L.world.tokens.count, L.world.tokens.few))

  module _ {at : ℕ} {before after : List ℕ} {r : ℕ} where
    pub class-found : row < absent → {v : ℕ} → v ≡ get_or entries row 0 → Puts at (line 22 v ∷ []) before after r
        → OfClassPost tab entries p c x at before after r
    class-found near {v} e h =
        record {
          within = omega (arith, h.behind);
          says = λ ts g L k hk m hm.
              let o = nearest_method (chain_within (length g.classes) g.classes k) m in
              subst (λ (y : Line). Puts at (y ∷ []) before after r)
              (ap (line 22) e ∙ found-line ts g L k m o refl (row_is ts g L k hk m hm) near) h;
        }

    pub class-without : absent ≤ row → Puts at (line 23 0 ∷ []) before after r → OfClassPost tab entries p c x at before after r
    class-without far h =
        record {
          within = omega (arith, h.behind);
          says = λ ts g L k hk m hm.
              subst (λ (y : Line). Puts at (y ∷ []) before after r)
              (no_line ts g L k m (method_of g.classes k m) refl (row_is ts g L k hk m hm ∙ ap row_found (sym (method-chain g.classes k m))) far) h;
        }

-- THE TABLE OF A METHOD NAME

module _ {tab entries : List ℕ} {p : Plan} {x left row at : ℕ} {before : List ℕ} where
  pub table_none : left ≡ 0 → OfMethodPost tab entries p x left row at before before at
  table_none z = record { within = omega arith; says = λ ts g L ks h m hm. go g ks h.few m }
    where
      go : (g : Program) (ks : List Class) → length ks ≤ left → (m : List ℕ) → Puts at (map (λ k. line_for g (class_name k) m) ks) before before at
      go g [] l m = puts_none at before
      go g (k ∷ ks) l m = absurd (omega (arith, l, z))

  pub table-end : absent ≤ row → OfMethodPost tab entries p x left row at before before at
  table-end far = record { within = omega arith; says = λ ts g L ks h m hm. go ts g L ks h.here h.stand m }
    where
      go : (ts : List Token) (g : Program) → Lesson tab entries p ts g → (ks : List Class) → row_classes ks ≡ row → ClassesHeld tab p.tokens ts ks
          → (m : List ℕ) → Puts at (map (λ k. line_for g (class_name k) m) ks) before before at
      go ts g L [] is h m = puts_none at before
      go ts g L (k ∷ ks) is (more-classes s e h) m =
          absurd (omega (arith, is, far, row-there L.world.tokens k.name.row s.named.token.there))

  pub table-next : (left ≡ 0 → ⊥) → row < absent → {c next m r : ℕ} {mid after : List ℕ} → c ≡ word_at tab c_number row
      → OfClassPost tab entries p c x at before mid next → m ≡ word_at tab c_next row
      → OfMethodPost tab entries p x (left - 1) m next mid after r → OfMethodPost tab entries p x left row at before after r
  table-next more near {c} {next} {m} {r} {mid} {after} e₂ f e₆ h = record { within = omega (arith, f.within, h.within, more); says = λ ts g L ks a y hy. go ts g L ks a.here a.stand a.few y hy }
    where
      go : (ts : List Token) (g : Program) → Lesson tab entries p ts g → (ks : List Class) → row_classes ks ≡ row → ClassesHeld tab p.tokens ts ks
          → length ks ≤ left → (y : List ℕ) → NameNumber ts y x → Puts at (map (λ k. line_for g (class_name k) y) ks) before after r
      go ts g L [] is s few y hy = absurd (omega (arith, is, near))
      go ts g L (k ∷ ks) is (more-classes s e t) few y hy =
          let own : NameNumber ts (class_name k) c
          = subst (NameNumber ts (class_name k)) (ap (word_at tab c_number) is ∙ sym e₂) (name-word L.world.tokens k.name.row s.named.token) in
          let here : row_classes ks ≡ m = sym (word_in tab c_next k.name.row (omega (arith, is, near)) e) ∙ ap (word_at tab c_next) is ∙ sym e₆ in
          puts_then (f.says ts g L (class_name k) own y hy) (h.says ts g L ks (record { here = here; stand = t; few = omega (arith, few) }) y hy)

-- THE TABLES

-- a table of the code's rows, by the classes
by-classes : (R : List ClassRow) (m : List ℕ) (ks : List Class) (i : ℕ)
    → map (λ k. entry_line (climb (length R) R k.name m)) (rows_of ks i) ≡ map (λ k. entry_line (climb (length R) R (class_name k) m)) ks
unfolding rows_of
by-classes R m [] i = refl
by-classes R m (k ∷ ks) i = ap (λ (l : List Line). entry_line (climb (length R) R (class_name k) m) ∷ l) (by-classes R m ks (end_methods k.methods i))

module _ {tab entries names : List ℕ} {p : Plan} {j left at : ℕ} {before : List ℕ} where
  pub tables-none : left ≡ 0 → TablesPost tab entries names p j left at before before at
  unfolding tables
  tables-none z = record { within = omega arith; says = λ ts g L ms l h. go g ms (l ∙ z) }
    where
      go : (g : Program) (ms : List (List ℕ)) → length ms ≡ 0 → Puts at (tables (rows_for g) ms) before before at
      go g [] l = puts_none at before
      go g (m ∷ ms) l = absurd (omega (arith, l))

  pub tables-next : (left ≡ 0 → ⊥) → p.classes ≤ 2048 → {first x next r : ℕ} {mid after : List ℕ} → first ≡ word_at tab c_next 0 → x ≡ get_or names j 0
      → OfMethodPost tab entries p x p.classes first at before mid next → TablesPost tab entries names p (j + 1) (left - 1) next mid after r
      → TablesPost tab entries names p j left at before after r
  unfolding tables
  tables-next more few {first} {x} {next} {r} {mid} {after} e ex f h = record { within = omega (arith, f.within, h.within, more, few); says = go }
    where
      go : (ts : List Token) (g : Program) → Lesson tab entries p ts g → (ms : List (List ℕ)) → length ms ≡ left
          → ((i : ℕ) (m : List ℕ) → get_elem? ms i ≡ some m → NameNumber ts m (get_or names (j + i) 0))
          → Puts at (tables (rows_for g) ms) before after r
      go ts g L [] l w = absurd (more (sym l))
      go ts g L (m ∷ ms) l w =
          let z : j + 0 ≡ j = omega arith in
          let hm : NameNumber ts m x = subst (NameNumber ts m) (ap (λ (i : ℕ). get_or names i 0) z ∙ sym ex) (w 0 m refl) in
          let at_first : ClassesAt tab p.tokens ts g.classes p.classes first
          = record { here = sym (e ∙ word_in tab c_next 0 (omega arith) L.first); stand = L.world.classes; few = omega (arith, L.many) } in
          let one = f.says ts g L g.classes at_first m hm in
          let i = suc (end g.statement 0) in
          puts_then (subst (λ (l : List Line). Puts at l before mid next) (sym (by-classes (rows_for g) m g.classes i)) one)
          (h.says ts g L ms (omega (arith, l))
          (λ i y q. let s : j + suc i ≡ j + 1 + i = omega arith in subst (λ (n : ℕ). NameNumber ts y (get_or names n 0)) s (w (suc i) y q)))
