-- What counting the fields of each class's objects meets: a word depends on the name alone, so that it does not matter how often a name
-- is counted; and a name that no class has keeps its word, which is 0, as many fields as no class has.
use Prim.Native.Nat.{ℕ, ◌+◌, ◌-◌, ◌≤◌, ◌<◌}
use native.Mathlib.Omega.{arith}
use native.Mathlib.Decide.{ℕ_discrete}
use mathlib.Core.Path.{◌≡◌, refl, sym, ap, ◌∙◌, subst}
use mathlib.Core.List.{List, [], ◌∷◌}
use mathlib.Core.Option.{Option, none, some}
use lib.ListN.{length, get_or, set}
use lib.Seq.{get_or-set_same, get_or-set_other}
use Rattle.base.specs.promises.Table.{c_number, c_next}
use Rattle.lexer.specs.Tokens.{Token}
use Rattle.parser.specs.Tree.{Class}
use Rattle.parser.specs.promises.Layout.{absent, row_classes}
use Rattle.typesystem.specs.ClassTable.{class_named, chain, layout, fields_of}
use Rattle.lookup.specs.promises.HeldClasses.{word_at, NameNumber, a-name, ClassesHeld, more-classes, ClassTableHeld, chain_from}
use Rattle.lookup.specs.laws.HeldLaws.{word_in, name-word, row-there, same_names, other-names}
use Rattle.lookup.specs.laws.ChainLaws.{chain-none}
use Rattle.lookup.specs.promises.Fields.{ObjectSize}
use Rattle.writer.specs.promises.Sizing.{SizesHeld, SizePost, counted, SizesPost, sizes_from, names_least}

-- ONE CLASS

size_of : (G : List Class) (x : List ℕ) → length (layout (chain_from (length G) G (some x))) ≡ length (fields_of G x)
unfolding fields_of chain
size_of G x = refl

module _ {tab : List ℕ} {n classes x : ℕ} {before : List ℕ} where
  pub size-written : x < absent → names_least ≤ length before → {v : ℕ} → ObjectSize tab n classes x v → {after : List ℕ}
      → after ≡ set before (sizes_from + x) v
      → SizePost tab n classes x before after
  size-written low large {v} h {after} e =
      record { others = λ j other. ap (λ (l : List ℕ). get_or l j 0) e ∙ get_or-set_other before (sizes_from + x) j v 0 (λ z. other (sym z)); says = go }
    where
      go : (ts : List Token) (G : List Class) → ClassTableHeld tab n ts G → length G ≡ classes → (c : List ℕ) → NameNumber ts c x
          → get_or after (sizes_from + x) 0 ≡ length (fields_of G c)
      go ts G w l c sp =
          ap (λ (m : List ℕ). get_or m (sizes_from + x) 0) e ∙ get_or-set_same before (sizes_from + x) v 0 (omega arith)
          ∙ h.says ts G w (some c) (a-name sp) ∙ ap (λ (i : ℕ). length (layout (chain_from i G (some c)))) (sym l) ∙ size_of G c

  pub size-past : absent ≤ x → SizePost tab n classes x before before
  size-past far =
      record { others = λ j other. refl; says = λ ts G w l c sp. absurd (omega (arith, sp.there, w.tokens.count, w.tokens.few)) }

-- THE CLASSES FROM A ROW ON

module _ {tab : List ℕ} {n classes left row : ℕ} {before : List ℕ} where
  pub sizes-none : left ≡ 0 → SizesPost tab n classes left row before before
  unfolding class_named
  sizes-none z = record { says = λ ts G w l ks h c x sp. go G ks h.few c x }
    where
      go : (G ks : List Class) → length ks ≤ left → (c : List ℕ) (x : ℕ)
          → get_or before (sizes_from + x) 0 ≡ counted (get_or before (sizes_from + x) 0) (length (fields_of G c)) (class_named ks c)
      go G [] few c x = refl
      go G (k ∷ ks) few c x = absurd (omega arith)

  pub sizes-end : absent ≤ row → SizesPost tab n classes left row before before
  unfolding class_named
  sizes-end far = record { says = λ ts G w l ks h c x sp. go ts G w ks h.here h.stand c x }
    where
      go : (ts : List Token) (G : List Class) → ClassTableHeld tab n ts G → (ks : List Class) → row_classes ks ≡ row
          → ClassesHeld tab n ts ks → (c : List ℕ) (x : ℕ)
          → get_or before (sizes_from + x) 0 ≡ counted (get_or before (sizes_from + x) 0) (length (fields_of G c)) (class_named ks c)
      go ts G w [] is h c x = refl
      go ts G w (k ∷ ks) is (more-classes s e h) c x =
          absurd (omega (arith, is, row-there w.tokens k.name.row s.named.token.there))

  pub sizes-more : row < absent → {x : ℕ} → x ≡ word_at tab c_number row → {mid : List ℕ} → SizePost tab n classes x before mid → {next : ℕ}
      → next ≡ word_at tab c_next row
      → {after : List ℕ} → SizesPost tab n classes (left - 1) next mid after → SizesPost tab n classes left row before after
  unfolding class_named
  sizes-more near {x} e₂ {mid} p {next} e₆ {after} h =
      record { says = λ ts G w l ks a c y sp. go ts G w l ks a.here a.stand a.few c y sp }
    where
      twice : (new : ℕ) (o : Option Class) → counted new new o ≡ new
      twice new none = refl
      twice new (some k) = refl

      go : (ts : List Token) (G : List Class) → ClassTableHeld tab n ts G → length G ≡ classes → (ks : List Class) → row_classes ks ≡ row
          → ClassesHeld tab n ts ks → length ks ≤ left
          → (c : List ℕ) (y : ℕ) → NameNumber ts c y
          → get_or after (sizes_from + y) 0 ≡ counted (get_or before (sizes_from + y) 0) (length (fields_of G c)) (class_named ks c)
      go ts G w l [] is st few c y sp = absurd (omega (arith, is))
      go ts G w l (k ∷ ks) is (more-classes s e st) few c y sp =
          let own : NameNumber ts k.name.text x = subst (NameNumber ts k.name.text) (ap (word_at tab c_number) is ∙ sym e₂) (name-word w.tokens k.name.row s.named.token) in
          let here : row_classes ks ≡ next = sym (word_in tab c_next k.name.row (omega (arith, is)) e) ∙ ap (word_at tab c_next) is ∙ sym e₆ in
          let rest = h.says ts G w l ks (record { here = here; stand = st; few = omega arith }) c y sp in
          elim (ℕ_discrete x y) [
            | yes same ↦
                let new : get_or mid (sizes_from + y) 0 ≡ length (fields_of G c) =
                ap (λ (i : ℕ). get_or mid (sizes_from + i) 0) (sym same) ∙ p.says ts G w l c (subst (NameNumber ts c) (sym same) sp) in
                rw (same_names own sp same)
                (rest ∙ ap (λ (v : ℕ). counted v (length (fields_of G c)) (class_named ks c)) new ∙ twice (length (fields_of G c)) (class_named ks c))
            | no other ↦
                rw (other-names own sp other)
                (rest ∙ ap (λ (v : ℕ). counted v (length (fields_of G c)) (class_named ks c)) (p.others (sizes_from + y) (λ z. other (omega arith))))
          ]

-- ALL CLASSES

no_fields : (G : List Class) (c : List ℕ) → class_named G c ≡ none → 0 ≡ length (fields_of G c)
unfolding layout
no_fields G c e = ap (λ (ks : List Class). length (layout ks)) (sym (chain-none (length G) G (some c) e)) ∙ size_of G c

pub all-sizes : {tab : List ℕ} {n classes row : ℕ} {before after : List ℕ} → SizesPost tab n classes n row before after
    → ((j : ℕ) → get_or before j 0 ≡ 0)
    → {ts : List Token} {G : List Class} → ClassTableHeld tab n ts G → length G ≡ classes → row_classes G ≡ row → SizesHeld ts G after
all-sizes {before = before} h zeros {ts} {G} w l is =
    record {
      says = λ c x sp. h.says ts G w l G (record { here = is; stand = w.classes; few = w.few }) c x sp ∙ go c (get_or before (sizes_from + x) 0) (zeros (sizes_from + x)) (class_named G c) refl;
    }
  where
    go : (c : List ℕ) (old : ℕ) → old ≡ 0 → (o : Option Class) → class_named G c ≡ o
        → counted old (length (fields_of G c)) o ≡ length (fields_of G c)
    go c old z none e = z ∙ no_fields G c e
    go c old z (some k) e = refl
