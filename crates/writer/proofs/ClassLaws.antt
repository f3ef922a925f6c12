-- What writing classes returns meets its contract: the fields of a class are in the array while its methods are written, and the sizes
-- behind them stay.
use Prim.Native.Nat.{ℕ, ◌≤◌, ◌<◌}
use native.Mathlib.Omega.{arith}
use mathlib.Core.Path.{◌≡◌, refl, sym, ap, ◌∙◌, subst}
use mathlib.Core.List.{List, [], ◌∷◌}
use lib.ListN.{length}
use Rattle.base.specs.promises.Table.{c_number, c_next, c_methods}
use Rattle.lexer.specs.Tokens.{Token}
use Rattle.lexer.specs.promises.Rows.{first_named}
use Rattle.parser.specs.Tree.{Method, Class}
use Rattle.parser.specs.promises.Layout.{absent, row_methods, row_classes}
use Rattle.lookup.specs.promises.HeldClasses.{word_at, NameNumber, MethodsHeld, more-methods, ClassHeld, ClassesHeld, more-classes}
use Rattle.lookup.specs.promises.HeldClasses.{ClassTableHeld}
use Rattle.lookup.specs.laws.HeldLaws.{word_in, name-word, row-there}
use Rattle.lookup.specs.promises.Fields.{KeptBehind, FieldsFilled}
use Rattle.codegen.specs.promises.Compile.{end_methods, emit_methods, emit_classes}
use Rattle.writer.specs.declared.job.Job.{Job}
use Rattle.writer.specs.promises.Words.{store}
use Rattle.writer.specs.promises.Jobs.{part_of, one_less, PartPost}
use Rattle.writer.specs.laws.Emits.{no_code}
use Rattle.writer.specs.promises.Sizing.{SizesHeld}
use Rattle.writer.specs.promises.Posts.{room, Wrote}
use Rattle.writer.specs.promises.Methods.{entered, MethodsPost}
use Rattle.writer.specs.promises.Classes.{end_classes, entered_classes, ClassPost, ClassesPost}
use Rattle.writer.proofs.ExpressionLaws.{found}
use Rattle.writer.proofs.MethodLaws.{grows-methods}

-- ONE CLASS

-- the sizes stand behind what stays
pub sizes-kept : {names names' : List ℕ} → KeptBehind names names' → {ts : List Token} {G : List Class} → SizesHeld ts G names
    → SizesHeld ts G names'
sizes-kept keep h = record { says = λ c x sp. keep _ (omega arith) ∙ h.says c x sp }

first-method : {tab : List ℕ} {n row first : ℕ} → first ≡ word_at tab c_methods row → {ts : List Token} {G : List Class} → ClassTableHeld tab n ts G
    → (k : Class) → k.name.row ≡ row
    → ClassHeld tab n ts k → row_methods k.methods ≡ first
first-method {tab} e₅ w k is s =
    sym (word_in tab c_methods k.name.row (row-there w.tokens k.name.row s.named.token.there) s.second) ∙ ap (word_at tab c_methods) is ∙ sym e₅

module _ {tab : List ℕ} {n classes row at : ℕ} {first : Job} {names c E : List ℕ}
    (e₅ : PartPost tab c_methods (record { left = n; row = row; at = at }) at first) where
  pub class-empty : absent ≤ first.row → at ≤ room → ClassPost tab n classes row at names names c c E E at
  unfolding emit_methods end_methods entered
  class-empty far low = record { within = low; stays = λ j h. refl; says = λ ts G w l z k is s lim. go ts G w k.name.text k.methods (first-method e₅.leads w k is s) s.methods }
    where
      go : (ts : List Token) (G : List Class) → ClassTableHeld tab n ts G → (d : List ℕ) (M : List Method) → row_methods M ≡ first.row
          → MethodsHeld tab n ts M
          → Wrote (first_named ts) (emit_methods G d M at) (end_methods M at) at c c at × (E ≡ entered M at E)
      go ts G w d [] is h = (record { ends = refl; code = no_code }, refl)
      go ts G w d (F ∷ M) is (more-methods h e hs) =
          absurd (omega (arith, is, row-there w.tokens F.name.row h.head.name.token.there))

  pub class-wrote : {x : ℕ} → x ≡ word_at tab c_number row → {names' : List ℕ} → FieldsFilled tab n classes x names names'
      → {c' E' : List ℕ} {r : ℕ}
      → MethodsPost tab names' n classes x first c c' E E' r → ClassPost tab n classes row at names names' c c' E E' r
  class-wrote {x} e₂ {names'} f {c'} {E'} {r} m = record { within = m.within; stays = f.stays; says = go }
    where
      m' : MethodsPost tab names' n classes x (record { left = n; row = word_at tab c_methods row; at = at }) c c' E E' r
      m' = subst (λ (i : Job). MethodsPost tab names' n classes x i c c' E E' r) (found e₅) m

      go : (ts : List Token) (G : List Class) → ClassTableHeld tab n ts G → length G ≡ classes → SizesHeld ts G names → (k : Class)
          → k.name.row ≡ row → ClassHeld tab n ts k
          → end_methods k.methods at ≤ room
          → Wrote (first_named ts) (emit_methods G k.name.text k.methods at) (end_methods k.methods at) at c c' r × (E' ≡ entered k.methods at E)
      go ts G w l sizes k is s lim =
          let own : NameNumber ts k.name.text x = subst (NameNumber ts k.name.text) (ap (word_at tab c_number) is ∙ sym e₂) (name-word w.tokens k.name.row s.named.token) in
          m'.says ts G k.name.text (record { world = w; many = l; declarer = own; sizes = sizes-kept f.stays sizes }) k.methods
          (first-method refl w k is s) s.methods s.few-methods lim

-- THE CLASSES FROM A ROW ON

pub grows-classes : (ks : List Class) (i : ℕ) → i ≤ end_classes ks i
unfolding end_classes
grows-classes [] i = omega arith
grows-classes (k ∷ ks) i = omega (arith, grows-methods k.methods i, grows-classes ks (end_methods k.methods i))

module _ {tab : List ℕ} {n classes : ℕ} {job : Job} {names c E : List ℕ} where
  pub classes-none : job.left ≡ 0 → ClassesPost tab n classes job names c c E E
  unfolding emit_classes entered_classes store
  classes-none z = record { says = λ ts G w l s ks h lim. go ts G ks h.few }
    where
      go : (ts : List Token) (G ks : List Class) → length ks ≤ job.left
          → (c ≡ store (first_named ts) (emit_classes G ks job.at) job.at c) × (E ≡ entered_classes ks job.at E)
      go ts G [] few = (refl, refl)
      go ts G (k ∷ ks) few = absurd (omega arith)

  pub classes-end : absent ≤ job.row → ClassesPost tab n classes job names c c E E
  unfolding emit_classes entered_classes store
  classes-end far = record { says = λ ts G w l s ks h lim. go ts G w ks h.here h.stand }
    where
      go : (ts : List Token) (G : List Class) → ClassTableHeld tab n ts G → (ks : List Class) → row_classes ks ≡ job.row
          → ClassesHeld tab n ts ks
          → (c ≡ store (first_named ts) (emit_classes G ks job.at) job.at c) × (E ≡ entered_classes ks job.at E)
      go ts G w [] is h = (refl, refl)
      go ts G w (k ∷ ks) is (more-classes s e h) = absurd (omega (arith, is, row-there w.tokens k.name.row s.named.token.there))

  pub classes-more : job.row < absent → {a : ℕ} {names' c₁ E₁ : List ℕ} → ClassPost tab n classes job.row job.at names names' c c₁ E E₁ a → {rest : Job} {at : ℕ}
      → PartPost tab c_next (one_less job at) a rest
      → {c₂ E₂ : List ℕ} → ClassesPost tab n classes rest names' c₁ c₂ E₁ E₂
      → ClassesPost tab n classes job names c c₂ E E₂
  unfolding emit_classes end_classes entered_classes
  classes-more near {a} {names'} {c₁} {E₁} f {rest} {at} e₆ {c₂} {E₂} g = record { says = λ ts G w l s ks h lim. go ts G w l s ks h.here h.stand h.few lim }
    where
      g' : ClassesPost tab n classes (part_of tab c_next (one_less job at) a) names' c₁ c₂ E₁ E₂
      g' = subst (λ (i : Job). ClassesPost tab n classes i names' c₁ c₂ E₁ E₂) (found e₆) g

      go : (ts : List Token) (G : List Class) → ClassTableHeld tab n ts G → length G ≡ classes → SizesHeld ts G names → (ks : List Class)
          → row_classes ks ≡ job.row → ClassesHeld tab n ts ks
          → length ks ≤ job.left → end_classes ks job.at ≤ room
          → (c₂ ≡ store (first_named ts) (emit_classes G ks job.at) job.at c) × (E₂ ≡ entered_classes ks job.at E)
      go ts G w l s [] is h few lim = absurd (omega (arith, is))
      go ts G w l s (k ∷ ks) is (more-classes st e h) few lim =
          let stop = end_methods k.methods job.at in
          let u = f.says ts G w l s k is st (omega (arith, grows-classes ks stop)) in
          let here : row_classes ks ≡ word_at tab c_next job.row = sym (word_in tab c_next k.name.row (omega (arith, is)) e) ∙ ap (word_at tab c_next) is in
          let v = g'.says ts G w l (sizes-kept f.stays s) ks (record { here = here; stand = h; few = omega arith }) (rw u.0.ends lim) in (
            v.0 ∙ ap (λ (i : ℕ). store (first_named ts) (emit_classes G ks i) a c₁) u.0.ends ∙ sym (u.0.code.is (emit_classes G ks stop)),
            v.1 ∙ rw (u.0.ends, u.1),
          )
