-- The text that the work table tells is the one that the definition of Join has.
use Prim.Native.Nat.{ℕ, zero, suc, ◌+◌, ◌-◌, ◌≤◌, ◌<◌}
use native.Mathlib.Omega.{arith}
use Rattle.std.specs.Prelude.{◌≡◌}
use Rattle.std.proofs.Math.Path.{refl, sym, ap, subst}
use Rattle.std.proofs.Common.{◌∙◌, lt-ltb}
use mathlib.Core.List.{List, ◌∷◌, ◌++◌}
use Rattle.std.proofs.Math.ListN.{length}
use Rattle.base.specs.Choice.{if◌then◌otherwise◌}
use Rattle.base.specs.Codes.{tokens_most}
use Rattle.base.specs.Outcome.{accepted}
use Rattle.base.specs.promises.Table.{col, c_start}
use Rattle.base.specs.laws.Lists.{get-get_d}
use Rattle.lexer.specs.Bytes.{b_line_feed}
use Rattle.lexer.specs.Kinds.{k_close_brace}
use Rattle.lexer.specs.Tokens.{Token, tokens}
use Rattle.lexer.specs.promises.Rows.{Rows}
use Rattle.parser.specs.Tree.{Class, Program}
use Rattle.parser.specs.Stream.{no_more, token_at, kind_at, start_at}
use Rattle.parser.specs.Grammar.{DerivesClass, a-class-declaration, DerivesClasses, no-class, more-classes, DerivesProgram}
use Rattle.parser.specs.promises.Layout.{absent, row_classes}
use Rattle.reader.specs.promises.Holds.{HoldsClasses}
use Rattle.reader.specs.promises.Matches.{ClassesMatch}
use Rattle.typesystem.specs.ClassTable.{occurs}
use Rattle.appended.proofs.laws.Embedding.{order-class, order-classes}
use Rattle.joining.specs.Join.{names_of, end_at, slice, first_token, kept_text}
use Rattle.joiner.specs.promises.Names.{positions_of, ListedFrom, taken_within_lem}
use Rattle.joiner.specs.promises.Texts.{end_before_lem, kept_from}
use Rattle.joiner.specs.laws.NameLaws.{name-is, names-taken, start_of}
use Rattle.joiner.specs.laws.Braces.{brace-end}
use Rattle.joining.proofs.laws.Placing.{row_is, first-is}

-- the last token of a class is its closing brace
class-closed : {ls : List Token} {i m : ℕ} {k : Class} → DerivesClass ls i m k → kind_at ls (m - 1) ≡ k_close_brace
class-closed {ls} (a-class-declaration {c = c} e₁ e₂ hp e₃ hf hm e₄) =
    let z : c ≡ c + 1 - 1 = omega arith in
    subst (λ (n : ℕ). kind_at ls n ≡ k_close_brace) z e₄

module _ {tab : List ℕ} {ls : List Token} (held : Rows tab ls) where
  token-start : (m : ℕ) → m < length ls → col tab c_start m ≡ start_at ls m
  token-start m l = (held m (token_at ls m) (get-get_d ls m no_more l)).start

  -- a row stands below the mark for none
  next-first : {m : ℕ} {ks : List Class} → DerivesClasses ls m (length ls) ks → ClassesMatch ls ks → length ls ≤ tokens_most
      → end_before_lem tab (length ls) (row_classes ks) ≡ col tab c_start (first_token ls ks - 1) + 1
  unfolding end_before_lem ClassesMatch
  next-first no-class m few = refl
  next-first (more-classes {c = k} D Ds) m few =
      let below : k.name.row < absent = omega (arith, m.0.name.token.there) in
      let z : k.name.row - 2 ≡ k.name.row - 1 - 1 = omega arith in
      rw (lt-ltb k.name.row absent below) (ap (λ (n : ℕ). col tab c_start n + 1) z)

module _ (s : List ℕ) {ts : List Token} {p : Program} (lexed : tokens s ≡ accepted ts) (derived : DerivesProgram ts p) (a : List ℕ)
    (listed : ListedFrom a 0 (positions_of p)) (lib : List ℕ) {tab : List ℕ} {ls : List Token} (read : tokens lib ≡ accepted ls)
    (held : Rows tab ls) (few : length ls ≤ tokens_most) where
  pub kept-is : {i : ℕ} {ks : List Class} → DerivesClasses ls i (length ls) ks → HoldsClasses tab ks → ClassesMatch ls ks → (left : ℕ)
      → length ks ≤ left
      → kept_from s a (suc (length p.classes)) lib tab (length ls) (row_classes ks) left ≡ kept_text (names_of p) lib ls ks
  unfolding kept_from HoldsClasses ClassesMatch
  kept-is no-class h g zero l = refl
  kept-is no-class h g (suc n) l = refl
  kept-is (more-classes D Ds) h g zero l = absurd (omega arith)
  kept-is (more-classes {i = i} {m = e} {c = k} {cs = ks} D Ds) h g (suc n) l =
      let row = k.name.row in
      let below : row < absent = omega (arith, g.0.name.token.there) in
      let o = order-class D in
      let q = order-classes Ds in
      let taken : taken_within_lem s a 0 (suc (length p.classes)) lib (col tab c_start row) ≡ occurs k.name.text (names_of p) =
      ap (λ (x : ℕ). taken_within_lem s a 0 (suc (length p.classes)) lib x) (start_of held k.name g.0.name)
      ∙ names-taken s ts lexed a lib k.name.start p derived listed
      ∙ ap (λ (t : List ℕ). occurs t (names_of p)) (name-is lib ls read k.name g.0.name) in
      let from : col tab c_start (row - 1) ≡ start_at ls (row - 1) = token-start held (row - 1) (omega (arith, row_is D)) in
      let first = first-is Ds in
      let brace : kind_at ls (first_token ls ks - 1) ≡ k_close_brace =
      subst (λ (x : ℕ). kind_at ls (x - 1) ≡ k_close_brace) (sym first) (class-closed D) in
      let inside : first_token ls ks - 1 < length ls = omega (arith, first) in
      let to : end_before_lem tab (length ls) (row_classes ks) ≡ end_at ls (first_token ls ks - 1) =
      next-first held Ds g.1 few ∙ ap (λ (x : ℕ). x + 1) (token-start held (first_token ls ks - 1) inside)
      ∙ sym (brace-end lib ls read (first_token ls ks - 1) inside brace) in
      let rest = kept-is Ds h.2 g.1 n (omega arith) in
      rw (lt-ltb row absent below, h.1, taken)
      (λ j. if occurs k.name.text (names_of p) then (λ _. rest j) otherwise λ _. slice (from j) (to j) lib ++ b_line_feed ∷ rest j)
