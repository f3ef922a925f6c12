-- What the functions of Menu's order return meets their contracts: the set has the classes that may stand, and its least is the earliest
-- of them; a class that is written leaves the set, and its children, which could not stand before, join it.
use Prim.Native.Nat.{ℕ, zero, suc, ◌+◌, ◌-◌, ◌≤◌, ◌<◌}
use native.Mathlib.Omega.{arith}
use native.Mathlib.Decide.{ℕ_discrete}
use mathlib.Core.Path.{◌≡◌, refl, sym, ap, ◌∙◌, subst}
use mathlib.Core.Logic.{⊎_elim}
use mathlib.Core.List.{List, [], ◌∷◌, ◌++◌}
use mathlib.Core.Bool.{Bool, true, false, ◌&&◌, ◌||◌, not, true≢false, false≢true}
use mathlib.Core.Option.{Option, none, some, some-injective}
use lib.ListN.{length, get_or, set}
use lib.Seq.{get_or-set_same, get_or-set_other}
use lib.Dec.{eqb}
use borrow.Author.Tests.{eqb-true, eq-eqb, ne_eqb}
use Rattle.base.specs.Bytes.{same}
use Rattle.base.specs.Choice.{if◌then◌otherwise◌, option}
use Rattle.base.specs.All.{All, all_nil, all_cons}
use Rattle.base.specs.laws.Lists.{all-weaken}
use Rattle.base.specs.laws.Tests.{and-true, and-false, and_right, or-either, or-neither, not-true, same-equal, same_of, apart-same}
use Rattle.base.specs.Codes.{tokens_most}
use Rattle.base.specs.promises.Table.{c_start, c_next, c_class}
use Rattle.lexer.specs.Tokens.{Token}
use Rattle.parser.specs.Tree.{Name, Class}
use Rattle.parser.specs.Stream.{token_at}
use Rattle.typesystem.specs.ClassTable.{among, class_named}
use Rattle.typesystem.specs.TypingRules.{class_name}
use Rattle.typing.specs.laws.Choices.{by-test, none-some}
use Rattle.typing.specs.laws.Chains.{class-name}
use Rattle.typing.specs.laws.Distinctness.{all-zip}
use Rattle.parser.specs.promises.Layout.{absent}
use Rattle.lookup.specs.promises.HeldClasses.{word_at, Lexemes, MaybeNumber, no_name, a-name, ClassHeld, ClassesHeld, more-classes, ClassTableHeld, parent_name}
use Rattle.lookup.specs.laws.HeldLaws.{word_in, start_word, row-there, all-stand, ClassAt, no-class, a-class, class-at}
use Rattle.lookup.specs.promises.Lookups.{Above}
use Rattle.declarations.specs.promises.Judgements.{ClassesAt, FoundByName}
use Rattle.menu.specs.Menu.{may_stand, earliest, writing, positions}
use Rattle.menu.proofs.laws.Writing.{among-more, all_there, earliest-sound}
use Rattle.menu.specs.InOrder.{MayStand}
use Rattle.menu.specs.promises.Least.{Keeps, Entered, Removed}
use Rattle.menu.specs.promises.MenuPost.{name_row, standing, RowsRise, rising-more, Tabled, is_child, child_rows, RowsLinked, linked-end, linked-more, ChildrenListed, Empty, Gathered}
use Rattle.menu.specs.promises.MenuPost.{ChildJoined, elem, Freed, overwritten, ParentsWritten, StripWritten}
use Rattle.menu.proofs.LeastLaws.{top_least, top_in, keeps_same}

on : {R : Type 0} (b : Bool) → (b ≡ true → R) → (b ≡ false → R) → R
on true f g = f refl
on false f g = g refl

-- FREEING

or_swap : (a b s : Bool) → (b || (a || s)) ≡ ((a || b) || s)
or_swap true true s = refl
or_swap true false s = refl
or_swap false true s = refl
or_swap false false s = refl

module _ {next : List ℕ} {left row : ℕ} {tree : List ℕ} where
  pub free-none : left ≡ 0 → Freed next left row tree tree
  unfolding elem
  free-none z = record { says = λ rows h few S k. go rows few k }
    where
      go : (rows : List ℕ) → length rows ≤ left → {S : ℕ → Bool} → Keeps tree S → Keeps tree (λ r. elem r rows || S r)
      go [] few k = keeps_same (λ r low. refl) k
      go (r ∷ rows) few k = absurd (omega arith)

  pub free-past : absent ≤ row → Freed next left row tree tree
  unfolding elem
  free-past far = record { says = λ rows h few S k. go h k }
    where
      go : {rows : List ℕ} → RowsLinked next row rows → {S : ℕ → Bool} → Keeps tree S → Keeps tree (λ r. elem r rows || S r)
      go (linked-end h) k = keeps_same (λ r low. refl) k
      go (linked-more near e h) k = absurd (omega arith)

  pub free-next : (left ≡ 0 → ⊥) → row < absent → {middle : List ℕ} → Entered row tree middle → {after : ℕ} → after ≡ get_or next row 0
      → {last : List ℕ}
      → Freed next (left - 1) after middle last → Freed next left row tree last
  unfolding elem
  free-next more near {middle} e {after} q {last} g = record { says = λ rows h few S k. go h few S k }
    where
      go : {rows : List ℕ} → RowsLinked next row rows → length rows ≤ left → (S : ℕ → Bool) → Keeps tree S
          → Keeps last (λ r. elem r rows || S r)
      go (linked-end far) few S k = absurd (omega arith)
      go (linked-more {rows = rs} near' f h) few S k =
          keeps_same (λ r low. or_swap (eqb row r) (elem r rs) (S r))
          (g.says rs (subst (λ (j : ℕ). RowsLinked next j rs) (sym (q ∙ f)) h) (omega arith) (λ r. eqb row r || S r) (e.says S k))

-- THE EARLIEST

module _ (w : List Class) where
  standing-above : (ks : List Class) {low r : ℕ} → All (λ (j : Class). low < name_row j) ks → standing w ks r ≡ true → low < r
  unfolding standing
  standing-above [] h e = absurd (false≢true e)
  standing-above (k ∷ ks) {low} {r} (all_cons l h) e =
      ⊎_elim (λ a. omega (arith, eqb-true (name_row k) r (and-true (eqb (name_row k) r) (may_stand w k) a).0))
      (λ b. standing-above ks h b) (or-either (eqb (name_row k) r && may_stand w k) (standing w ks r) e)

  -- the least row is that of the earliest class
  earliest-is : (ks : List Class) → RowsRise ks → {x : ℕ} → standing w ks x ≡ true → ((r : ℕ) → r < x → standing w ks r ≡ false)
      → (k : Class) × (earliest w ks ≡ some k) × (name_row k ≡ x)
  unfolding standing earliest
  earliest-is [] rise e h = absurd (false≢true e)
  earliest-is (k ∷ ks) (rising-more l s) {x} e h =
      let skipped : may_stand w k ≡ false → (if may_stand w k then (λ _. some k) otherwise λ _. earliest w ks) ≡ earliest w ks = λ m. rw m in
      on (may_stand w k)
      (λ m. (
        k,
        rw m,
        ⊎_elim (λ a. eqb-true (name_row k) x (and-true (eqb (name_row k) x) (may_stand w k) a).0)
            (λ b. absurd (true≢false (sym (rw (eq-eqb (name_row k) (name_row k) refl, m)) ∙ h (name_row k) (standing-above ks l b))))
            (or-either (eqb (name_row k) x && may_stand w k) (standing w ks x) e),
      ))
      (λ m.
      let rest : (r : ℕ) → ((eqb (name_row k) r && may_stand w k) || standing w ks r) ≡ standing w ks r = λ r. rw (m, and-false (eqb (name_row k) r)) in
      let f = earliest-is ks s (sym (rest x) ∙ e) (λ r low. sym (rest r) ∙ h r low) in
      (f.0, skipped m ∙ f.1, f.2))

  -- where no row is in the set, no class may stand
  earliest-none : (ks : List Class) → All (λ (k : Class). name_row k < absent) ks → ((r : ℕ) → r < absent → standing w ks r ≡ false)
      → earliest w ks ≡ none
  unfolding standing earliest
  earliest-none [] all_nil h = refl
  earliest-none (k ∷ ks) (all_cons low rows) h =
      let n = (or-neither (eqb (name_row k) (name_row k) && may_stand w k) (standing w ks (name_row k)) (h (name_row k) low)).0 in
      rw (and_right (eqb (name_row k) (name_row k)) (may_stand w k) n (eq-eqb (name_row k) (name_row k) refl))
      (earliest-none ks rows (λ r here. (or-neither (eqb (name_row k) r && may_stand w k) (standing w ks r) (h r here)).1))

-- ONE CLASS MORE

-- a: the class was written; s: it is the one that is written now; m: its parent was written or absent; c: its parent is the one that is
-- written now
may-truth : (a s m c : Bool) → (c ≡ true → (a ≡ false) × (s ≡ false)) → (not (a || s) && (m || c)) ≡ ((not s && (not a && m)) || c)
may-truth true s m true h = absurd (true≢false (h refl).0)
may-truth false true m true h = absurd (true≢false (h refl).1)
may-truth false false true true h = refl
may-truth false false false true h = refl
may-truth true true m false h = refl
may-truth true false m false h = refl
may-truth false true m false h = refl
may-truth false false true false h = refl
may-truth false false false false h = refl

-- e: the class stands in a row; x: that is the row of the one that is written; t: a later class of the row may stand; r: the row is that
-- of a later child
row-truth : (e s m c r t x : Bool) → (e ≡ true → x ≡ s)
    → ((e && ((not s && m) || c)) || (r || (not x && t))) ≡ (((c && e) || r) || (not x && ((e && m) || t)))
row-truth false s m true r t x h = refl
row-truth false s m false r t x h = refl
row-truth true s m c r t x h = rw (h refl) (go s m c r)
  where
    go : (s m c r : Bool) → (((not s && m) || c) || (r || (not s && t))) ≡ (((c && true) || r) || (not s && (m || t)))
    go true m true r = refl
    go true m false true = refl
    go true m false false = refl
    go false true true r = refl
    go false false true r = refl
    go false true false true = refl
    go false true false false = refl
    go false false false true = refl
    go false false false false = refl

elem-child : (c : List ℕ) (k : Class) (ks : List Class) (r : ℕ)
    → elem r (child_rows c (k ∷ ks)) ≡ ((is_child c k && eqb (name_row k) r) || elem r (child_rows c ks))
unfolding elem child_rows
elem-child c k ks r = go (is_child c k)
  where
    go : (b : Bool)
        → elem r (if b then (λ _. name_row k ∷ child_rows c ks) otherwise λ _. child_rows c ks) ≡ ((b && eqb (name_row k) r) || elem r (child_rows c ks))
    go true = refl
    go false = refl

-- what is known of a class of the table when k is written
record Beside (w : List Class) (k j : Class) : Type 0 where
  one : same (class_name k) (class_name j) ≡ eqb (name_row k) (name_row j)
  child : is_child (class_name k) j ≡ true → (among (class_name j) w ≡ false) × (same (class_name k) (class_name j) ≡ false)

module _ (w : List Class) (k : Class) where
  may_more : (j : Class) → Beside w k j
      → may_stand (w ++ k ∷ []) j ≡ ((not (same (class_name k) (class_name j)) && may_stand w j) || is_child (class_name k) j)
  unfolding may_stand
  may_more j b = rw (among-more (class_name j) w k) (go j.parent b.child)
    where
      go : (o : Option Name)
          → ((option o false λ p. same (class_name k) p.text) ≡ true → (among (class_name j) w ≡ false) × (same (class_name k) (class_name j) ≡ false))
          → (not (among (class_name j) w || same (class_name k) (class_name j)) && option o true λ p. among p.text (w ++ k ∷ []))
          ≡ ((not (same (class_name k) (class_name j)) && (not (among (class_name j) w) && option o true λ p. among p.text w)) || option o false λ p. same (class_name k) p.text)
      go none h = may-truth (among (class_name j) w) (same (class_name k) (class_name j)) true false h
      go (some p) h = rw (among-more p.text w k) (may-truth (among (class_name j) w) (same (class_name k) (class_name j)) (among p.text w) (same (class_name k) p.text) h)

  standing-more : (ks : List Class) (r : ℕ) → All (Beside w k) ks
      → standing (w ++ k ∷ []) ks r ≡ (elem r (child_rows (class_name k) ks) || (not (eqb (name_row k) r) && standing w ks r))
  unfolding standing elem child_rows
  standing-more [] r all_nil = sym (and-false (not (eqb (name_row k) r)))
  standing-more (j ∷ ks) r (all_cons b h) =
      rw (may_more j b, standing-more ks r h)
      (row-truth (eqb (name_row j) r) (same (class_name k) (class_name j)) (may_stand w j) (is_child (class_name k) j) (elem r (child_rows (class_name k) ks)) (standing w ks r)
      (eqb (name_row k) r) (λ e. ap (eqb (name_row k)) (sym (eqb-true (name_row j) r e)) ∙ sym b.one)
      ∙ ap (λ (x : Bool). x || (not (eqb (name_row k) r) && ((eqb (name_row j) r && may_stand w j) || standing w ks r))) (sym (elem-child (class_name k) j ks r)))

-- TWO CLASSES OF A TABLE

-- classes in one row have one name
one-text : {tab : List ℕ} {n : ℕ} {ts : List Token} {j k : Class} → ClassHeld tab n ts j → ClassHeld tab n ts k → name_row j ≡ name_row k
    → class_name j ≡ class_name k
one-text {ts = ts} a b e = sym a.named.token.spelt ∙ ap (λ (i : ℕ). (token_at ts i).text) e ∙ b.named.token.spelt

-- those of one name are one
one_class : (G : List Class) {c : List ℕ} {j k : Class} → class_named G (class_name j) ≡ some j → class_named G c ≡ some k → class_name j ≡ c
    → j ≡ k
one_class G {c} {j} {k} own f e = some-injective j k (sym own ∙ ap (class_named G) e ∙ f)

module _ {tab : List ℕ} {n : ℕ} {ts : List Token} (G w : List Class) {k : Class} (stands : ClassHeld tab n ts k) (own : class_named G (class_name k) ≡ some k)
    (may : MayStand w k) where
  beside : (j : Class) → ClassHeld tab n ts j → class_named G (class_name j) ≡ some j
      → (among (class_name j) w ≡ true → (option j.parent true λ p. among p.text w) ≡ true) → Beside w k j
  beside j s o closed = record { one = one; child = child j.parent refl }
    where
      one : same (class_name k) (class_name j) ≡ eqb (name_row k) (name_row j)
      one =
          on (same (class_name k) (class_name j))
          (λ e. e ∙ sym (eq-eqb (name_row k) (name_row j) (ap name_row (one_class G own o (same-equal (class_name k) (class_name j) e)))))
          (λ e. e ∙ sym (ne_eqb (name_row k) (name_row j) (λ z. true≢false (sym (same_of (one-text stands s z)) ∙ e))))

      written : (p : Name) → same (class_name k) p.text ≡ true → among p.text w ≡ true → ⊥
      written p e a = true≢false (sym a ∙ ap (λ (x : List ℕ). among x w) (sym (same-equal (class_name k) p.text e)) ∙ may.new)

      child : (q : Option Name) → j.parent ≡ q → (option q false λ p. same (class_name k) p.text) ≡ true
          → (among (class_name j) w ≡ false) × (same (class_name k) (class_name j) ≡ false)
      child none q e = absurd (false≢true e)
      child (some p) q e = (
        not-true (among (class_name j) w) (λ a. written p e (subst (λ (o : Option Name). (option o true λ p. among p.text w) ≡ true) q (closed a))),
        not-true (same (class_name k) (class_name j)) (λ a. written p e (may.after p (ap (λ (i : Class). i.parent) (one_class G own o (same-equal (class_name k) (class_name j) a)) ∙ q))),
      )

  closed-more : (j : Class) → class_named G (class_name j) ≡ some j
      → (among (class_name j) w ≡ true → (option j.parent true λ p. among p.text w) ≡ true)
      → among (class_name j) (w ++ k ∷ []) ≡ true → (option j.parent true λ p. among p.text (w ++ k ∷ [])) ≡ true
  closed-more j o closed a =
      ⊎_elim (λ b. more j.parent (closed b))
      (λ b. more j.parent (kept j.parent (ap (λ (i : Class). i.parent) (one_class G own o (same-equal (class_name k) (class_name j) b)))))
      (or-either (among (class_name j) w) (same (class_name k) (class_name j)) (sym (among-more (class_name j) w k) ∙ a))
    where
      more : (q : Option Name) → (option q true λ p. among p.text w) ≡ true → (option q true λ p. among p.text (w ++ k ∷ [])) ≡ true
      more none e = refl
      more (some p) e = among-more p.text w k ∙ rw e

      kept : (q : Option Name) → k.parent ≡ q → (option q true λ p. among p.text w) ≡ true
      kept none e = refl
      kept (some p) e = may.after p e

-- WRITING

child-few : (c : List ℕ) (ks : List Class) → length (child_rows c ks) ≤ length ks
unfolding child_rows
child-few c [] = omega arith
child-few c (k ∷ ks) = go (is_child c k) (child-few c ks)
  where
    go : (b : Bool) → length (child_rows c ks) ≤ length ks
        → length (if b then (λ _. name_row k ∷ child_rows c ks) otherwise λ _. child_rows c ks) ≤ length (k ∷ ks)
    go true h = omega arith
    go false h = omega arith

writing-next : (left : ℕ) (G w : List Class) {k : Class} → (left ≡ 0 → ⊥) → earliest w G ≡ some k
    → writing left G w ≡ k ∷ writing (left - 1) G (w ++ k ∷ [])
unfolding writing
writing-next zero G w more e = absurd (more refl)
writing-next (suc n) G w {k} more e = let z : n ≡ suc n - 1 = omega arith in rw e (ap (λ (m : ℕ). k ∷ writing m G (w ++ k ∷ [])) z)

writing-end : (left : ℕ) (G w : List Class) → earliest w G ≡ none → writing left G w ≡ []
unfolding writing
writing-end zero G w e = refl
writing-end (suc n) G w e = rw e

rows-there : {tab : List ℕ} {n : ℕ} {ts : List Token} {G : List Class} → ClassTableHeld tab n ts G
    → All (λ (k : Class). name_row k < absent) G
rows-there w = all-weaken (λ k s. row-there w.tokens (name_row k) s.named.token.there) (all-stand w.classes)

module _ {tab tree first next : List ℕ} {i left : ℕ} {before : List ℕ} where
  pub write-none : left ≡ 0 → StripWritten tab tree first next i left before before 0
  unfolding overwritten positions writing
  write-none z =
      record {
        says = λ n ts G t l w c k.
            subst (λ (m : ℕ). (before ≡ overwritten i (positions (writing m G w)) before) × (0 + length (writing m G w) ≡ m)) (sym z) (refl, refl);
      }

  module _ {row : ℕ} (top : row ≡ get_or tree 1 0) where
    pub write-past : absent ≤ row → StripWritten tab tree first next i left before before left
    unfolding overwritten positions
    write-past far =
        record {
          says = λ n ts G t l w c k.
              let none_left = writing-end left G w
              (earliest-none w G (rows-there t.world) (λ r low. not-true (standing w G r) (λ e. omega (arith, top_least k r low e)))) in
              subst (λ (ks : List Class). (before ≡ overwritten i (positions ks) before) × (left + length ks ≡ left)) (sym none_left) (refl, omega arith);
        }

    pub write-next : (left ≡ 0 → ⊥) → row < absent → {p : ℕ} → p ≡ word_at tab c_start row → {strip : List ℕ} → strip ≡ set before i p
        → {tree₁ : List ℕ} → Removed row tree tree₁
        → {child : ℕ} → child ≡ get_or first row 0 → {tree₂ : List ℕ} → Freed next tokens_most child tree₁ tree₂ → {after : List ℕ}
        → {r : ℕ}
        → StripWritten tab tree₂ first next (i + 1) (left - 1) strip after r → StripWritten tab tree first next i left before after r
    unfolding overwritten positions
    write-next more near {p} e₁ {strip} put {tree₁} out {child} ec {tree₂} free {after} {r} rest = record { says = says }
      where
        says : (n : ℕ) (ts : List Token) (G : List Class) → Tabled tab n ts G → ChildrenListed first next G G → (w : List Class)
            → ParentsWritten w G → Keeps tree (standing w G)
            → (after ≡ overwritten i (positions (writing left G w)) before) × (r + length (writing left G w) ≡ left)
        says n ts G t l w c kept =
            let found = earliest-is w G t.rising (top_in kept top near) (λ r low. not-true (standing w G r) (λ e. omega (arith, top_least kept r (omega arith) e))) in
            let k = found.0 in
            let f = earliest-sound w G found.1 in
            let stand = all_there f.before f.behind (subst (All (ClassHeld tab n ts)) f.there (all-stand t.world.classes)) in
            let own = all_there f.before f.behind (subst (FoundByName G) f.there t.own) in
            let linked = all_there f.before f.behind (subst (λ (ks : List Class). ChildrenListed first next ks G) f.there l) in
            let facts = all-weaken (λ j h. beside G w stand own f.may j h.0 h.1.0 h.1.1) (all-zip (all-stand t.world.classes) (all-zip t.own c)) in
            let few : length (child_rows (class_name k) G) ≤ tokens_most = omega (arith, child-few (class_name k) G, t.world.few, t.world.tokens.few) in
            let free₁ = free.says (child_rows (class_name k) G) (subst (λ (x : ℕ). RowsLinked next x (child_rows (class_name k) G)) (ap (λ (x : ℕ). get_or first x 0) found.2 ∙ sym ec) linked) few _
            (out.says (standing w G) kept) in
            let kept₂ = keeps_same (λ r low. ap (λ (x : ℕ). elem r (child_rows (class_name k) G) || (not (eqb x r) && standing w G r)) (sym found.2) ∙ sym (standing-more w k G r facts)) free₁ in
            let closed = all-weaken (λ j h. closed-more G w stand own f.may j h.0 h.1) (all-zip t.own c) in
            let start : p ≡ k.name.start = e₁ ∙ ap (word_at tab c_start) (sym found.2) ∙ start_word t.world.tokens (name_row k) stand.named.token.there ∙ stand.named.start in
            let later = rest.says n ts G t l (w ++ k ∷ []) closed kept₂ in
            let now = writing-next left G w more found.1 in (
              later.0
                  ∙ ap (overwritten (i + 1) (positions (writing (left - 1) G (w ++ k ∷ [])))) (put ∙ ap (set before i) start)
                  ∙ sym (ap (λ (ks : List Class). overwritten i (positions ks) before) now),
              omega (arith, later.1, ap (λ (ks : List Class). length ks) now),
            )

-- GATHERING

-- the first of the classes of a row, and the others
record FirstClass (tab : List ℕ) (n : ℕ) (ts : List Token) (k : Class) (ks : List Class) (left row : ℕ) : Type 0 where
  here : name_row k ≡ row
  stands : ClassHeld tab n ts k
  rest : {next : ℕ} → next ≡ word_at tab c_next row → (left ≡ 0 → ⊥) → ClassesAt tab n ts ks (left - 1) next

first-class : {tab : List ℕ} {n : ℕ} {ts : List Token} → Lexemes tab n ts → {k : Class} {ks : List Class} {left row : ℕ}
    → ClassesAt tab n ts (k ∷ ks) left row → FirstClass tab n ts k ks left row
first-class {tab} {n} {ts} lx {k} {ks} {left} {row} a = go a.stand
  where
    go : ClassesHeld tab n ts (k ∷ ks) → FirstClass tab n ts k ks left row
    go (more-classes s c₆ h) = record {
      here = a.here;
      stands = s;
      rest = λ e more. record {
        here =
            sym (e ∙ ap (word_at tab c_next) (sym a.here) ∙ word_in tab c_next (name_row k) (row-there lx (name_row k) s.named.token.there) c₆);
        stand = h;
        few = omega (arith, a.few);
      };
    }

nothing-gathered : {tab : List ℕ} {n : ℕ} {ts : List Token} {G : List Class} (tree first next : List ℕ) → Empty tree first
    → ClassTableHeld tab n ts G
    → Keeps tree (standing [] []) × ChildrenListed first next G []
unfolding standing child_rows
nothing-gathered tree first next e w =
    (keeps_same (λ r low. refl) e.none_kept, all-weaken (λ q low. linked-end (omega (arith, e.none-listed (name_row q) low))) (rows-there w))

module _ {tab : List ℕ} {left row : ℕ} {tree first next : List ℕ} where
  pub gather_none : left ≡ 0 → Gathered tab left row tree first tree first next
  gather_none z = record { says = λ e n ts G t ks a rise. go e n ts G t ks a.few }
    where
      go : Empty tree first → (n : ℕ) (ts : List Token) (G : List Class) → Tabled tab n ts G → (ks : List Class) → length ks ≤ left
          → Keeps tree (standing [] ks) × ChildrenListed first next G ks
      go e n ts G t [] few = nothing-gathered tree first next e t.world
      go e n ts G t (k ∷ ks) few = absurd (omega arith)

  pub gather-absent : absent ≤ row → Gathered tab left row tree first tree first next
  gather-absent far = record { says = λ e n ts G t ks a rise. go e n ts G t ks a }
    where
      go : Empty tree first → (n : ℕ) (ts : List Token) (G : List Class) → Tabled tab n ts G → (ks : List Class)
          → ClassesAt tab n ts ks left row
          → Keeps tree (standing [] ks) × ChildrenListed first next G ks
      go e n ts G t [] a = nothing-gathered tree first next e t.world
      go e n ts G t (k ∷ ks) a =
          let h = first-class t.world.tokens a in
          absurd (omega (arith, h.here, row-there t.world.tokens (name_row k) h.stands.named.token.there))

pub link_row : {parent row : ℕ} {first next : List ℕ} → parent < length first → row < length next → {f : ℕ} → f ≡ get_or first parent 0
    → {next' first' : List ℕ}
    → next' ≡ set next row f → first' ≡ set first parent row → ChildJoined parent row first next first' next'
link_row {row = row} {next = next} p q e s h = record { is-parent = p; is_row = q; head = h; link = s ∙ ap (set next row) e }

-- a link from a row that is not in a list leaves the list
linked-kept : {next : List ℕ} (i v : ℕ) {row : ℕ} {rows : List ℕ} → All (λ (r : ℕ). r ≡ i → ⊥) rows → RowsLinked next row rows
    → RowsLinked (set next i v) row rows
linked-kept i v h (linked-end far) = linked-end far
linked-kept {next} i v (all_cons other h) (linked-more {row = row} near e l) =
    linked-more near (get_or-set_other next i row v 0 other ∙ e) (linked-kept i v h l)

-- the rows of later classes are other rows
child-later : (c : List ℕ) (row : ℕ) (ks : List Class) → All (λ (j : Class). row < name_row j) ks
    → All (λ (r : ℕ). r ≡ row → ⊥) (child_rows c ks)
unfolding child_rows
child-later c row [] all_nil = all_nil
child-later c row (k ∷ ks) (all_cons l h) =
    by-test (All (λ (r : ℕ). r ≡ row → ⊥)) (is_child c k) _ _ (λ e. all_cons (λ z. omega (arith, z)) (child-later c row ks h)) (λ e. child-later c row ks h)

child-not : (c : List ℕ) (k : Class) (ks : List Class) → is_child c k ≡ false → child_rows c (k ∷ ks) ≡ child_rows c ks
unfolding child_rows
child-not c k ks e = rw e

child-is : (c : List ℕ) (k : Class) (ks : List Class) → is_child c k ≡ true → child_rows c (k ∷ ks) ≡ name_row k ∷ child_rows c ks
unfolding child_rows
child-is c k ks e = rw e

-- whether a class is a child, by its parent
child-by : (c : List ℕ) (k : Class) {o : Option Name} → k.parent ≡ o → is_child c k ≡ option o false λ p. same c p.text
child-by c k e = ap (λ (o : Option Name). option o false λ p. same c p.text) e

-- a class may stand first just where it has no parent
standing-root : (k : Class) (ks : List Class) (r : ℕ) → k.parent ≡ none → standing [] (k ∷ ks) r ≡ (eqb (name_row k) r || standing [] ks r)
unfolding standing may_stand among
standing-root k ks r e = rw e (ap (λ (b : Bool). b || standing [] ks r) (and_yes (eqb (name_row k) r)))
  where
    and_yes : (b : Bool) → (b && true) ≡ b
    and_yes true = refl
    and_yes false = refl

standing-child : (k : Class) (ks : List Class) (r : ℕ) {p : Name} → k.parent ≡ some p → standing [] (k ∷ ks) r ≡ standing [] ks r
unfolding standing may_stand among
standing-child k ks r e = rw (e, and-false (eqb (name_row k) r))

module _ {ts : List Token} {c : ℕ} (few : length ts ≤ tokens_most) where
  no-parent : (o : Option Name) → MaybeNumber ts (parent_name o) c → absent ≤ c → o ≡ none
  no-parent none h far = refl
  no-parent (some p) (a-name s) far = absurd (omega (arith, s.there))

  a-parent : (o : Option Name) → MaybeNumber ts (parent_name o) c → c < absent → (p : Name) × (o ≡ some p)
  a-parent none (no_name far) near = absurd (omega arith)
  a-parent (some p) h near = (p, refl)

-- a class that the table does not hold
nobody : {tab : List ℕ} {n : ℕ} {ts : List Token} {G : List Class} {x : List ℕ} {c parent : ℕ} → absent ≤ parent
    → ClassAt tab n ts G (some x) c parent → class_named G x ≡ none
nobody far (no-class e far') = e
nobody far (a-class q e at near s sp) = absurd (omega arith)

module _ {tab : List ℕ} {left row : ℕ} (more : left ≡ 0 → ⊥) (near : row < absent) {rest : ℕ} (e₆ : rest ≡ word_at tab c_next row) {tree₀ first₀ tree first next : List ℕ}
    (g : Gathered tab (left - 1) rest tree₀ first₀ tree first next) {c : ℕ} (up : Above tab row c) where
  -- the class of the row, and what was gathered of the later ones
  record Later (n : ℕ) (ts : List Token) (G : List Class) (k : Class) (ks : List Class) : Type 0 where
    table : Tabled tab n ts G
    rises : All (λ (j : Class). name_row k < name_row j) ks
    here : name_row k ≡ row
    kept : Keeps tree (standing [] ks)
    listed : ChildrenListed first next G ks
    above : MaybeNumber ts (parent_name k.parent) c
    few : length ts ≤ tokens_most

  later : Empty tree₀ first₀ → {n : ℕ} {ts : List Token} {G : List Class} → Tabled tab n ts G → {k : Class} {ks : List Class}
      → ClassesAt tab n ts (k ∷ ks) left row → RowsRise (k ∷ ks) → Later n ts G k ks
  later e {n} {ts} {G} t {k} {ks} a (rising-more l rise) =
      let h = first-class t.world.tokens a in
      let q = g.says e n ts G t ks (h.rest e₆ more) rise in
      record {
        table = t;
        rises = l;
        here = h.here;
        kept = q.0;
        listed = q.1;
        above = up.says n ts t.world.tokens k h.here h.stands;
        few = omega (arith, t.world.tokens.count, t.world.tokens.few);
      }

  -- in a row of the table there is a first class
  by_first : {tree' first' next' : List ℕ}
      → ((n : ℕ) (ts : List Token) (G : List Class) (k : Class) (ks : List Class) → Later n ts G k ks
      → Keeps tree' (standing [] (k ∷ ks)) × ChildrenListed first' next' G (k ∷ ks))
      → Gathered tab left row tree₀ first₀ tree' first' next'
  by_first {tree'} {first'} {next'} f = record { says = λ e n ts G t ks a rise. go e n ts G t ks a rise }
    where
      go : Empty tree₀ first₀ → (n : ℕ) (ts : List Token) (G : List Class) → Tabled tab n ts G → (ks : List Class)
          → ClassesAt tab n ts ks left row → RowsRise ks
          → Keeps tree' (standing [] ks) × ChildrenListed first' next' G ks
      go e n ts G t [] a rise = absurd (omega (arith, a.here))
      go e n ts G t (k ∷ ks) a rise = f n ts G k ks (later e t a rise)

  pub gather-root : absent ≤ c → {tree' : List ℕ} → Entered row tree tree' → Gathered tab left row tree₀ first₀ tree' first next
  gather-root far en = by_first λ n ts G k ks h.
      let top = no-parent h.few k.parent h.above far in
      let stands : (r : ℕ) → (eqb row r || standing [] ks r) ≡ standing [] (k ∷ ks) r = λ r.
      ap (λ (x : ℕ). eqb x r || standing [] ks r) (sym h.here) ∙ sym (standing-root k ks r top) in (
        keeps_same (λ r low. stands r) (en.says (standing [] ks) h.kept),
        all-weaken (λ j x. rw (child-not (class_name j) k ks (child-by (class_name j) k top)) x) h.listed,
      )

  module _ (low : c < absent) {parent : ℕ} (e₇ : parent ≡ word_at tab c_class c) where
    -- the first class has a parent, so it may not stand
    by-child : {first' next' : List ℕ}
        → ((n : ℕ) (ts : List Token) (G : List Class) (k : Class) (ks : List Class) → Later n ts G k ks
        → (p : Name) → k.parent ≡ some p → ClassAt tab n ts G (some p.text) c parent → ChildrenListed first' next' G (k ∷ ks))
        → Gathered tab left row tree₀ first₀ tree first' next'
    by-child f = by_first λ n ts G k ks h.
        let p = a-parent h.few k.parent h.above low in
        let named = subst (λ (o : Option Name). MaybeNumber ts (parent_name o) c) p.1 h.above in (
          keeps_same (λ r here. sym (standing-child k ks r p.1)) h.kept,
          f n ts G k ks h p.0 p.1 (class-at h.table.world (some p.0.text) c parent named e₇),
        )

    pub gather-unknown : absent ≤ parent → Gathered tab left row tree₀ first₀ tree first next
    gather-unknown far = by-child λ n ts G k ks h p e at.
        let other : (j : Class) → class_named G (class_name j) ≡ some j → is_child (class_name j) k ≡ false = λ j own.
        child-by (class_name j) k e ∙ apart-same (class_name j) p.text (λ z. none-some (nobody far at) (ap (class_named G) (sym z) ∙ own)) in
        all-weaken (λ j x. rw (child-not (class_name j) k ks (other j x.0)) x.1) (all-zip h.table.own h.listed)

    pub gather-child : parent < absent → {first' next' : List ℕ} → ChildJoined parent row first next first' next'
        → Gathered tab left row tree₀ first₀ tree first' next'
    gather-child here {first'} {next'} put = by-child go
      where
        go : (n : ℕ) (ts : List Token) (G : List Class) (k : Class) (ks : List Class) → Later n ts G k ks → (p : Name)
            → k.parent ≡ some p → ClassAt tab n ts G (some p.text) c parent → ChildrenListed first' next' G (k ∷ ks)
        go n ts G k ks h p e at =
            all-weaken (λ j x. entry j x.0 x.1.0 x.1.1 h.here p e at)
            (all-zip (all-stand h.table.world.classes) (all-zip h.table.own h.listed))
          where
            entry : (j : Class) → ClassHeld tab n ts j → class_named G (class_name j) ≡ some j
                → RowsLinked next (get_or first (name_row j) 0) (child_rows (class_name j) ks) → name_row k ≡ row
                → (p : Name) → k.parent ≡ some p → ClassAt tab n ts G (some p.text) c parent
                → RowsLinked next' (get_or first' (name_row j) 0) (child_rows (class_name j) (k ∷ ks))
            entry j stands own old is p e (no-class nobody far) = absurd (omega arith)
            entry j stands own old is p e (a-class q found at near' s sp) = rw (put.link, put.head) (by (ℕ_discrete (name_row j) parent))
              where
                kept : RowsLinked (set next row (get_or first parent 0)) (get_or first (name_row j) 0) (child_rows (class_name j) ks)
                kept =
                    let later = subst (λ (i : ℕ). All (λ (j : Class). i < name_row j) ks) is h.rises in
                    linked-kept row (get_or first parent 0) (child-later (class_name j) row ks later) old

                by : Dec (name_row j ≡ parent)
                    → RowsLinked (set next row (get_or first parent 0)) (get_or (set first parent row) (name_row j) 0) (child_rows (class_name j) (k ∷ ks))
                by (yes z) =
                    let name : class_name j ≡ p.text = one-text stands s (z ∙ sym at) ∙ class-name G p.text found in
                    let child : is_child (class_name j) k ≡ true = child-by (class_name j) k e ∙ same_of name in
                    let first-is : get_or (set first parent row) (name_row j) 0 ≡ name_row k =
                    ap (λ (i : ℕ). get_or (set first parent row) i 0) z ∙ get_or-set_same first parent row 0 put.is-parent ∙ sym is in
                    let link : get_or (set next row (get_or first parent 0)) (name_row k) 0 ≡ get_or first (name_row j) 0 =
                    ap (λ (i : ℕ). get_or (set next row (get_or first parent 0)) i 0) is
                    ∙ get_or-set_same next row (get_or first parent 0) 0 put.is_row ∙ ap (λ (i : ℕ). get_or first i 0) (sym z) in
                    rw (child-is (class_name j) k ks child, first-is) (linked-more {row = name_row k} (omega (arith, is)) link kept)
                by (no other) =
                    let child : is_child (class_name j) k ≡ false =
                    child-by (class_name j) k e ∙ apart-same (class_name j) p.text (λ z. other (ap name_row (one_class G own found z) ∙ at)) in
                    rw (child-not (class_name j) k ks child, get_or-set_other first parent (name_row j) row 0 other) kept
