-- What each return of the functions over names shows.
use Prim.Native.Nat.{ℕ, suc, ◌+◌, ◌-◌, ◌≤◌, ◌<◌}
use mathlib.Core.Path.{◌≡◌, refl, sym, ap, ◌∙◌, subst}
use mathlib.Core.List.{List, map}
use mathlib.Core.Logic.{◌≢◌}
use mathlib.Core.Bool.{Bool, true, false}
use native.Mathlib.Omega.{arith}
use lib.ListN.{length, get_or, set, length-set}
use lib.Seq.{get_or-set_same}
use borrow.Author.Tests.{lt-ltb, le-ltb, eq-eqb, ne_eqb}
use Rattle.base.specs.promises.Table.{col, c_start, c_next}
use Rattle.parser.specs.promises.Layout.{absent, row_classes}
use Rattle.joiner.specs.promises.Names.{part_at, same_within_lem, name_room, taken_within_lem, collected, place_behind, Collects}
use Rattle.joiner.specs.promises.Names.{classes_most, ListedFrom, NamesKept}
use Rattle.joining.proofs.laws.Lengths.{lesson-few}
use Rattle.joiner.specs.laws.NameLaws.{collected-lists, place-behind, main-start}
use Rattle.reader.specs.promises.FilledTable.{matches}

-- TWO NAMES

more : {n : ℕ} → n ≢ 0 → suc (n - 1) ≡ n
more h = omega arith

module _ (a : List ℕ) (i : ℕ) (b : List ℕ) (j : ℕ) where
  pub same_none : {n : ℕ} → n ≡ 0 → false ≡ same_within_lem a i b j n
  unfolding same_within_lem
  same_none e = rw e refl

  pub same-unlike : {n x y : ℕ} → n ≢ 0 → x ≡ part_at a i → y ≡ part_at b j → x ≢ y → false ≡ same_within_lem a i b j n
  unfolding same_within_lem
  same-unlike {n} h p q d =
      subst (λ (m : ℕ). false ≡ same_within_lem a i b j m) (more h) (rw (ne_eqb (part_at a i) (part_at b j) (λ e. d (p ∙ e ∙ sym q))) refl)

  pub same_end : {n x y : ℕ} → n ≢ 0 → x ≡ part_at a i → y ≡ part_at b j → x ≡ y → x ≡ 0 → true ≡ same_within_lem a i b j n
  unfolding same_within_lem
  same_end {n} h p q d z =
      subst (λ (m : ℕ). true ≡ same_within_lem a i b j m) (more h)
      (rw (eq-eqb (part_at a i) (part_at b j) (sym p ∙ d ∙ q), eq-eqb (part_at a i) 0 (sym p ∙ z)) refl)

  pub same_more : {n x y : ℕ} {r : Bool} → n ≢ 0 → x ≡ part_at a i → y ≡ part_at b j → x ≡ y → x ≢ 0
      → r ≡ same_within_lem a (i + 1) b (j + 1) (n - 1) → r ≡ same_within_lem a i b j n
  unfolding same_within_lem
  same_more {n} {r = r} h p q d z w =
      subst (λ (m : ℕ). r ≡ same_within_lem a i b j m) (more h)
      (rw (eq-eqb (part_at a i) (part_at b j) (sym p ∙ d ∙ q), ne_eqb (part_at a i) 0 (λ e. z (p ∙ e))) w)

-- MANY NAMES

module _ (s a : List ℕ) (i : ℕ) (lib : List ℕ) (at : ℕ) where
  pub taken_none : {n : ℕ} → n ≡ 0 → false ≡ taken_within_lem s a i n lib at
  unfolding taken_within_lem
  taken_none e = rw e refl

  pub taken_here : {n x : ℕ} {r : Bool} → n ≢ 0 → x ≡ get_or a i 0 → r ≡ same_within_lem s x lib at name_room → r ≡ true
      → true ≡ taken_within_lem s a i n lib at
  unfolding taken_within_lem
  taken_here {n} h p e q =
      subst (λ (m : ℕ). true ≡ taken_within_lem s a i m lib at) (more h)
      (rw (ap (λ (k : ℕ). same_within_lem s k lib at name_room) (sym p) ∙ sym e ∙ q) refl)

  pub taken-there : {n x : ℕ} {r t : Bool} → n ≢ 0 → x ≡ get_or a i 0 → r ≡ same_within_lem s x lib at name_room → r ≡ false
      → t ≡ taken_within_lem s a (i + 1) (n - 1) lib at → t ≡ taken_within_lem s a i n lib at
  unfolding taken_within_lem
  taken-there {n} {t = t} h p e q w =
      subst (λ (m : ℕ). t ≡ taken_within_lem s a i m lib at) (more h)
      (rw (ap (λ (k : ℕ). same_within_lem s k lib at name_room) (sym p) ∙ sym e ∙ q) w)

-- THE LESSON'S NAMES

module _ (tab : List ℕ) (row i : ℕ) (a : List ℕ) where
  pub collect-none : {n : ℕ} → n ≡ 0 → Collects tab row i n a i a
  unfolding collected place_behind
  collect-none e = record { array = rw e refl; count = rw e refl }

  pub collect-past : {n : ℕ} → n ≢ 0 → absent ≤ row → Collects tab row i n a i a
  unfolding collected place_behind
  collect-past {n} h l = record {
    array = subst (λ (m : ℕ). a ≡ collected tab row i m a) (more h) (rw (le-ltb row absent l) refl);
    count = subst (λ (m : ℕ). i ≡ place_behind tab row i m) (more h) (rw (le-ltb row absent l) refl);
  }

  pub collect-more : {n x y r : ℕ} {b c : List ℕ} → n ≢ 0 → row < absent → x ≡ col tab c_start row → y ≡ col tab c_next row → b ≡ set a i x
      → Collects tab y (i + 1) (n - 1) b r c → Collects tab row i n a r c
  unfolding collected place_behind
  collect-more {n} {x} {y} {r} {b} {c} h l p q e w = record {
    array = subst (λ (m : ℕ). c ≡ collected tab row i m a) (more h)
        (rw (lt-ltb row absent l) (w.array ∙ (λ j. collected tab (q j) (i + 1) (n - 1) ((e ∙ ap (set a i) p) j))));
    count = subst (λ (m : ℕ). r ≡ place_behind tab row i m) (more h)
        (rw (lt-ltb row absent l) (w.count ∙ (λ j. place_behind tab (q j) (i + 1) (n - 1))));
  }

pub keep_all : (tab a : List ℕ) {x y r : ℕ} {b c : List ℕ} → classes_most ≤ length a → x ≡ col tab c_start 1 → y ≡ col tab c_next 0
    → b ≡ set a 0 x → Collects tab y 1 511 b r c → NamesKept tab r c
keep_all tab a {x} {y} {r} {b} {c} l p q e w = record {
  says = λ v F.
      let t = v.tree in
      let m = matches v.stream t F.derived in
      let few = lesson-few F.derived in
      let long : length b ≡ length a = ap length e ∙ length-set a 0 x in
      let g = collected-lists F.rows F.few t.classes 1 511 b F.holds.classes m.classes (omega (arith, few, F.few))
      (omega (arith, few, F.few, long)) in
      let is : y ≡ row_classes t.classes = q ∙ F.holds.first in
      let array : c ≡ collected tab (row_classes t.classes) 1 511 b = w.array ∙ ap (λ (n : ℕ). collected tab n 1 511 b) is in
      let main : x ≡ t.main.start = p ∙ main-start F.rows F.derived in
      let zeroth : get_or c 0 0 ≡ x =
      ap (λ (k : List ℕ). get_or k 0 0) array ∙ g.1 0 (omega arith) ∙ ap (λ (k : List ℕ). get_or k 0 0) e
      ∙ get_or-set_same a 0 x 0 (omega arith) in (
        w.count ∙ ap (λ (n : ℕ). place_behind tab n 1 511) is
            ∙ place-behind tab v.stream t.classes 1 511 F.few F.holds.classes m.classes (omega (arith, few, F.few)) ∙ omega
            arith,
        (zeroth ∙ main, subst (λ (k : List ℕ). ListedFrom k 1 (map (λ k. k.name.start) t.classes)) (sym array) g.0),
      );
}
