-- What writing methods returns meets its contract: the parameters and locals of a method make the scope in which its body and its value
-- are written.
use Prim.Native.Nat.{ℕ, suc, ◌+◌, ◌≤◌, ◌<◌}
use native.Mathlib.Omega.{arith}
use mathlib.Core.Path.{◌≡◌, refl, sym, ap, ◌∙◌, subst}
use mathlib.Core.List.{List, [], ◌∷◌}
use lib.ListN.{length, set}
use Rattle.lexer.specs.Tokens.{Token}
use Rattle.lexer.specs.promises.Rows.{first_named}
use Rattle.parser.specs.Tree.{Sort, Sort.expression, Sort.statements, Part, Method, Class}
use Rattle.parser.specs.promises.Layout.{absent, row_of, row_methods}
use Rattle.reader.specs.promises.Holds.{Holds}
use Rattle.reader.specs.promises.Matches.{Matches}
use Rattle.base.specs.promises.Table.{col, c_next, c_parameters, c_locals, c_body, c_value}
use Rattle.typesystem.specs.ClassTable.{context_of}
use Rattle.lookup.specs.promises.Shows.{PartAt}
use Rattle.lookup.specs.promises.HeldClasses.{word_at, a-name, MethodHeld, MethodsHeld, more-methods}
use Rattle.lookup.specs.laws.HeldLaws.{word_in, row-there}
use Rattle.bodies.specs.declared.scope.Scope.{Scope}
use Rattle.codegen.specs.promises.Code.{return, i_return}
use Rattle.codegen.specs.promises.Compile.{emit, middle, value_end, end_methods, emit_methods}
use Rattle.writer.specs.laws.Emits.{no_code}
use Rattle.writer.specs.laws.Lengths.{grows}
use Rattle.writer.specs.declared.job.Job.{Job}
use Rattle.writer.specs.promises.Scoping.{Sees}
use Rattle.writer.specs.promises.Jobs.{part_of, one_less, PartPost}
use Rattle.writer.specs.promises.Posts.{room, PutPost, Wrote, PartBounded, WritePost}
use Rattle.writer.specs.promises.Methods.{SeesClass, entered, MethodPost, MethodsPost}
use Rattle.writer.proofs.RowLaws.{whole}
use Rattle.writer.proofs.PieceLaws.{put_one, next-to}
use Rattle.writer.proofs.ExpressionLaws.{found, found-wrote, both-wrote}

-- a word of a row of a declaration
word : (tab : List ℕ) (k : ℕ) {row r v w : ℕ} → w ≡ word_at tab k row → r ≡ row → r < absent → col tab k r ≡ v → w ≡ v
word tab k {row} {r} e at low h = e ∙ ap (word_at tab k) (sym at) ∙ word_in tab k r low h

-- the part to which a column of such a row leads
part : (tab : List ℕ) (ts : List Token) (k n : ℕ) {q : Sort} (t : Part q) {row r w : ℕ} → w ≡ word_at tab k row → r ≡ row → r < absent
    → col tab k r ≡ row_of t → Holds tab t → Matches ts t → PartBounded n n q t → PartAt tab ts w (PartBounded n n q) t
part tab ts k n t e at low h holds matches within =
    record { at = sym (word tab k e at low h); holds = holds; matches = matches; within = within }

-- what a body of the class sees
abbrev scope_of : (n classes owner parameters locals : ℕ) → Scope
scope_of n classes owner p l = record { tokens = n; classes = classes; owner = owner; parameters = p; locals = l }

-- the row behind a method's name, whose columns lead to its parts
abbrev of_method_lem : (n row at : ℕ) → Job
of_method_lem n row at = record { left = n; row = row + 1; at = at }

pub method-wrote : {tab names : List ℕ} {n classes owner row at p l : ℕ} {body value : Job} {a b r : ℕ} {c c₁ c₂ c₃ : List ℕ}
    → p ≡ word_at tab c_parameters row → l ≡ word_at tab c_locals row → PartPost tab c_body (of_method_lem n row at) at body
    → WritePost tab names (scope_of n classes owner p l) statements body c c₁ a → PartPost tab c_value (of_method_lem n row at) a value
    → WritePost tab names (scope_of n classes owner p l) expression value c₁ c₂ b → PutPost b i_return 0 0 0 c₂ c₃ r
    → MethodPost tab names n classes owner row at c c₃ r
method-wrote {tab} {names} {n} {classes} {owner} {row} {at} {p} {l} {r = r} {c} {c₁} {c₂} {c₃} e₄ e₅ e₄' f e₅' g o =
    record { within = o.within; says = go }
  where
    go : (ts : List Token) (G : List Class) (d : List ℕ) → SeesClass tab names n classes owner ts G d → (F : Method)
        → F.name.row ≡ row → MethodHeld tab n ts F → suc (value_end F at) ≤ room
        → Wrote (first_named ts) (λ k. emit G (context_of d F) F.body at (emit G (context_of d F) F.value (middle F at) (return ∷ k)))
        (suc (value_end F at)) at c c₃ r
    go ts G d w F is h low =
        let lx = w.world.tokens in
        let near = row-there lx F.name.row h.head.name.token.there in
        let near' = row-there lx (F.name.row + 1) h.after.there in
        let is' = ap (λ (j : ℕ). j + 1) is in
        let sees : Sees tab names ts G (context_of d F) (scope_of n classes owner p l) =
        record {
          scope =
              record {
                world = w.world;
                many = w.many;
                declarer = a-name w.declarer;
                given = F.parameters;
                own = F.locals;
                seen = refl;
                given-listed = record { at = sym (word tab c_parameters e₄ is near h.first); stand = h.parameters; few = h.few-parameters };
                own-listed = record { at = sym (word tab c_locals e₅ is near h.second); stand = h.locals; few = h.few-locals };
              };
          sizes = w.sizes;
        } in
        let x = part tab ts c_body n F.body refl is' near' h.start h.body h.body-matches
        (whole F.body F.name.row h.body-nodes h.body-within) in
        let y = part tab ts c_value n F.value refl is' near' h.return h.value h.value-matches
        (whole F.value F.name.row h.value-nodes h.value-within) in
        let u = both-wrote (found-wrote e₄' f) (found-wrote e₅' g) ts G (context_of d F) sees F.body F.value x y (omega arith) in
        next-to (λ j k. return ∷ k) suc u (put_one return refl o (rw u.ends low))

pub grows-methods : (M : List Method) (i : ℕ) → i ≤ end_methods M i
unfolding end_methods
grows-methods [] i = omega arith
grows-methods (F ∷ M) i = omega (arith, grows F.body i, grows F.value (middle F i), grows-methods M (suc (value_end F i)))

module _ {tab names : List ℕ} {n classes owner : ℕ} {job : Job} {c E : List ℕ} where
  pub methods-none : job.left ≡ 0 → job.at ≤ room → MethodsPost tab names n classes owner job c c E E job.at
  unfolding emit_methods end_methods entered
  methods-none z low = record { within = low; says = λ ts G d w M is h few l. go ts G d M few }
    where
      go : (ts : List Token) (G : List Class) (d : List ℕ) (M : List Method) → length M ≤ job.left
          → Wrote (first_named ts) (emit_methods G d M job.at) (end_methods M job.at) job.at c c job.at × (E ≡ entered M job.at E)
      go ts G d [] few = (record { ends = refl; code = no_code }, refl)
      go ts G d (F ∷ M) few = absurd (omega arith)

  pub methods-end : absent ≤ job.row → job.at ≤ room → MethodsPost tab names n classes owner job c c E E job.at
  unfolding emit_methods end_methods entered
  methods-end far low = record { within = low; says = λ ts G d w M is h few l. go ts G d w M is h }
    where
      go : (ts : List Token) (G : List Class) (d : List ℕ) → SeesClass tab names n classes owner ts G d → (M : List Method)
          → row_methods M ≡ job.row → MethodsHeld tab n ts M
          → Wrote (first_named ts) (emit_methods G d M job.at) (end_methods M job.at) job.at c c job.at × (E ≡ entered M job.at E)
      go ts G d w [] is h = (record { ends = refl; code = no_code }, refl)
      go ts G d w (F ∷ M) is (more-methods h e hs) =
          absurd (omega (arith, is, row-there w.world.tokens F.name.row h.head.name.token.there))

  pub methods-more : (job.left ≡ 0 → ⊥) → job.row < absent → {rest : Job} {at a r : ℕ} {c₁ c₂ E₁ E₂ : List ℕ} → E₁ ≡ set E job.row job.at
      → MethodPost tab names n classes owner job.row job.at c c₁ a → PartPost tab c_next (one_less job at) a rest
      → MethodsPost tab names n classes owner rest c₁ c₂ E₁ E₂ r
      → MethodsPost tab names n classes owner job c c₂ E E₂ r
  unfolding emit_methods end_methods entered
  methods-more more near {rest} {at} {a} {r} {c₁} {c₂} {E₁} {E₂} new f e₆ g = record { within = g.within; says = go }
    where
      g' : MethodsPost tab names n classes owner (part_of tab c_next (one_less job at) a) c₁ c₂ E₁ E₂ r
      g' = subst (λ (i : Job). MethodsPost tab names n classes owner i c₁ c₂ E₁ E₂ r) (found e₆) g

      go : (ts : List Token) (G : List Class) (d : List ℕ) → SeesClass tab names n classes owner ts G d → (M : List Method)
          → row_methods M ≡ job.row → MethodsHeld tab n ts M → length M ≤ job.left
          → end_methods M job.at ≤ room
          → Wrote (first_named ts) (emit_methods G d M job.at) (end_methods M job.at) job.at c c₂ r × (E₂ ≡ entered M job.at E)
      go ts G d w [] is h few l = absurd (omega (arith, is))
      go ts G d w (F ∷ M) is (more-methods h e hs) few l =
          let u = f.says ts G d w F is h (omega (arith, grows-methods M (suc (value_end F job.at)))) in
          let v = g'.says ts G d w M (sym (word tab c_next refl is (omega (arith, is)) e)) hs (omega arith) (rw u.ends l) in
          (next-to (emit_methods G d M) (end_methods M) u v.0, v.1 ∙ rw (u.ends, new, is))
