-- What each return of the functions that read a library shows, from what the lexer, the parser and the walk ensure.
use Prim.Native.Nat.{ℕ, ◌≤◌, ◌<◌}
use mathlib.Core.Path.{◌≡◌, refl, sym, ap, ◌∙◌, subst}
use mathlib.Core.List.{List}
use mathlib.Core.Option.{Option, none, some}
use native.Mathlib.Omega.{arith}
use native.Mathlib.Decide.{dec_lt}
use lib.ListN.{length}
use borrow.Author.Tests.{lt-ltb, le-ltb}
use Rattle.base.specs.Choice.{option}
use Rattle.base.specs.Codes.{source_most, tokens_most, table_least}
use Rattle.base.specs.laws.Lists.{get-get_d}
use Rattle.base.specs.Outcome.{Outcome, accepted}
use Rattle.base.specs.promises.Table.{c_start}
use Rattle.lexer.specs.Tokens.{Token, tokens}
use Rattle.base.specs.declared.refusal.Refusal.{Refusal}
use Rattle.lexer.specs.promises.Rows.{Rows, Lexes}
use Rattle.lexer.proofs.laws.RowLaws.{accepted-of-answer, refused-of-answer}
use Rattle.parser.specs.promises.Answers.{Answer, At, Bad}
use Rattle.parser.specs.declared.answer.Part.{Part}
use Rattle.parser.specs.declared.answer.Misfit.{Misfit}
use Rattle.parser.specs.Tree.{Class}
use Rattle.parser.specs.Stream.{token_at, no_more}
use Rattle.parser.specs.promises.Layout.{row_classes, store_classes}
use Rattle.parser.specs.Measure.{classes_deep}
use Rattle.parser.specs.Parse.{Parsed, ok, bad}
use Rattle.parser.specs.promises.Post.{TokensIn, Met, met-ok, met-bad}
use Rattle.parser.specs.promises.DeclarationPost.{DeclPost, class_list, declaration_stored}
use Rattle.parser.specs.Read.{position_of}
use Rattle.reader.specs.promises.Holds.{HoldsClasses}
use Rattle.reader.specs.promises.ReadPost.{place_in}
use Rattle.reader.specs.promises.WalkPost.{FoundPlace, WalksClasses, nowhere}
use Rattle.reader.specs.declared.walk.Walked.{Walked}
use Rattle.reader.specs.laws.Matching.{classes-match}
use Rattle.reader.specs.laws.Order.{classes-order}
use Rattle.reader.specs.laws.Stored.{classes-lie}
use Rattle.reader.specs.laws.ReadingLaws.{proper, same-col, rows-kept, rising, at-tokens}
use Rattle.joining.specs.Library.{parse_library, LibraryReading, reading_library}
use Rattle.joiner.specs.promises.LibraryPost.{LibraryHeld, LibraryFills, GrowsClasses, MeasuresClasses}
use Rattle.std.specs.Prelude.{Result, Ok, Err}
use Rattle.joining.proofs.laws.LibraryLaws.{too_long, not-lexed, not-parsed, not-shallow, read-well, library-sound}

-- WHAT THE PARSER'S ANSWER SAYS

record ParsedTo (ls : List Token) (before after : List ℕ) (first next : ℕ) : Type 0 where
  classes : List Class
  parsed : parse_library ls ≡ ok classes next
  row : row_classes classes ≡ first
  stored : after ≡ store_classes classes before

module _ {before after : List ℕ} where
  met_at : {ls : List Token} {res : Parsed (List Class)} {x j : ℕ} → parse_library ls ≡ res
      → Met (declaration_stored class_list) before after (At x j) res → ParsedTo ls before after x j
  met_at e (met-ok {a = ks} r w) = record { classes = ks; parsed = e; row = sym r; stored = w }

  met-bad-at : {res : Parsed (List Class)} {k : ℕ} → Met (declaration_stored class_list) before after (Bad k) res → res ≡ bad k
  met-bad-at met-bad = refl

module _ {n : ℕ} {ls : List Token} {before after : List ℕ} (h : TokensIn before n ls) where
  met-parse : {r : Answer} → DeclPost class_list n 0 before r after → Met (declaration_stored class_list) before after r (parse_library ls)
  unfolding parse_library
  met-parse p = p.says ls h _ (omega (arith, h.count))

  parsed-at : {x j : ℕ} → DeclPost class_list n 0 before (At x j) after → ParsedTo ls before after x j
  parsed-at p = met_at refl (met-parse p)

  refused-at : {k : ℕ} → DeclPost class_list n 0 before (Bad k) after → parse_library ls ≡ bad k
  refused-at p = met-bad-at (met-parse p)

-- THE WALK'S ANSWER
module _ {tab : List ℕ} {n first : ℕ} {w : Walked} (h : WalksClasses tab n first w) where
  answered : (ks : List Class) → FoundPlace (classes_deep ks) w.place → (a : Result (ℕ × ℕ) ℕ)
      → (w.place < nowhere → a ≡ Err w.place) → (nowhere ≤ w.place → a ≡ Ok (n, first))
      → a ≡ option (classes_deep ks) (Ok (n, first)) (λ at. Err at)
  answered ks r a deep well = go (classes_deep ks) r
    where
      go : (o : Option ℕ) → FoundPlace o w.place → a ≡ option o (Ok (n, first)) (λ at. Err at)
      go none f = well (omega arith)
      go (some at) f = deep (omega (arith, f)) ∙ ap Err f.0

  pub too-deep : w.place < nowhere → MeasuresClasses tab n first (Err w.place)
  too-deep l = record {
    says = λ ls t ks e holds matches ordered.
        answered ks (h.says ls t ks e holds matches ordered).place _ (λ _. refl) (λ g. absurd (omega arith));
  }

  pub deep-enough : nowhere ≤ w.place → MeasuresClasses tab n first (Ok (n, first))
  deep-enough l = record {
    says = λ ls t ks e holds matches ordered.
        answered ks (h.says ls t ks e holds matches ordered).place _ (λ g. absurd (omega arith)) (λ _. refl);
  }

-- FROM TOKENS TO THE CLASSES

-- what the last stage answered is what reading answers
filled : (lib : List ℕ) (ls : List Token) → length lib ≤ source_most → tokens lib ≡ accepted ls → (j : ℕ) (ks : List Class)
    → parse_library ls ≡ ok ks j → {a : Result (ℕ × ℕ) ℕ} {tab : List ℕ}
    → a ≡ option (classes_deep ks) (Ok (length ls, row_classes ks)) (λ at. Err at)
    → LibraryHeld tab (record { stream = ls; classes = ks }) → LibraryFills (reading_library lib) a tab
filled lib ls short lexed j ks q {a} {tab} is f = go (classes_deep ks) refl is
  where
    go : (o : Option ℕ) → classes_deep ks ≡ o → a ≡ option o (Ok (length ls, row_classes ks)) (λ at. Err at)
        → LibraryFills (reading_library lib) a tab
    go none d e =
        subst (λ (o : Outcome LibraryReading). LibraryFills o a tab) (sym (read-well lib short ls lexed ks j q d)) (e, f)
    go (some at) d e =
        subst (λ (o : Outcome LibraryReading). LibraryFills o a tab) (sym (not-shallow lib short ls lexed ks j at q d)) e

at-answer : {n : ℕ} {T T₁ : List ℕ} {r₁ r : Answer} → r₁ ≡ r → DeclPost class_list n 0 T r₁ T₁ → DeclPost class_list n 0 T r T₁
at-answer {n} {T} {T₁} e p = subst (λ (r : Answer). DeclPost class_list n 0 T r T₁) e p

module _ {n size : ℕ} {T T₁ : List ℕ} {r₁ : Answer} (p : DeclPost class_list n 0 T r₁ T₁) (few : n ≤ tokens_most) where
  place_of : (lib : List ℕ) (ls : List Token) (k v : ℕ) → length lib ≡ size → length ls ≡ n → Rows T ls → v ≡ place_in T₁ n k size
      → v ≡ position_of lib ls k
  unfolding place_in
  place_of lib ls k v es en h ev = ev ∙ elim (dec_lt k n) [
    | yes l ↦
        let l₂ : k < length ls = omega arith in
        simp (lt-ltb k n l, lt-ltb k (length ls) l₂)
        (same-col T T₁ c_start k p.kept (omega arith) ∙ (h k (token_at ls k) (get-get_d ls k no_more l₂)).start)
    | no l ↦ simp (le-ltb k n (omega arith), le-ltb k (length ls) (omega arith)) (sym es)
  ]

  pub grow-bad : {m : Misfit} {v : ℕ} → r₁ ≡ Err m → v ≡ place_in T₁ n m.token size → GrowsClasses n size T (Err v) T₁
  grow-bad {m} {v} e ev =
      record {
        says = λ lib ls es short lexed en h.
            let b = refused-at (at-tokens ls en h) (at-answer e p) in
            subst (λ (o : Outcome LibraryReading). LibraryFills o (Err v) T₁) (sym (not-parsed lib short ls lexed m.token b))
            (ap Err (place_of lib ls m.token v es en h ev));
      }

  pub grow-at : {z : Part} {a : Result (ℕ × ℕ) ℕ} → table_least ≤ length T → r₁ ≡ Ok z → MeasuresClasses T₁ n z.row a → GrowsClasses n size T a T₁
  grow-at {z} {a} big e m =
      record {
        says = λ lib ls es short lexed en h.
            let t = at-tokens ls en h in
            let q = parsed-at t (at-answer e p) in
            let ks = q.classes in
            let d = library-sound ls (proper lib ls lexed) ks z.next q.parsed in
            let f : length ls ≤ tokens_most = omega arith in
            let holds : HoldsClasses T₁ ks =
            subst (λ (u : List ℕ). HoldsClasses u ks) (sym q.stored) ((classes-lie d).holds f T (store_classes ks T) big (λ k i _ _. refl))
            in
            let rows = rows-kept T T₁ ls f p.kept h in
            let is =
            m.says ls (at-tokens ls en rows) ks q.row holds (classes-match d)
            (classes-order ls f (rising lib ls lexed) d (omega arith)).1 in
            let is₂ : a ≡ option (classes_deep ks) (Ok (length ls, row_classes ks)) (λ at. Err at) =
            is ∙ (λ i. option (classes_deep ks) (Ok (sym en i, sym q.row i)) (λ at. Err at)) in
            filled lib ls short lexed z.next ks q.parsed is₂ (record { rows = rows; few = f; holds = holds; derived = d });
      }

-- FROM BYTES
pub fill-long : (lib T : List ℕ) → source_most < length lib → LibraryFills (reading_library lib) (Err 0) T
fill-long lib T l = subst (λ (o : Outcome LibraryReading). LibraryFills o (Err 0) T) (sym (too_long lib l)) refl

module _ (lib T : List ℕ) (l : Result ℕ Refusal) (short : length lib ≤ source_most) (h : Lexes (tokens lib) l T) where
  at-lexed : {l₂ : Result ℕ Refusal} → l ≡ l₂ → Lexes (tokens lib) l₂ T
  at-lexed e = subst (λ (x : Result ℕ Refusal). Lexes (tokens lib) x T) e h

  pub fill-tokens : {n : ℕ} {a : Result (ℕ × ℕ) ℕ} {T₁ : List ℕ} → l ≡ Ok n → GrowsClasses n (length lib) T a T₁
      → LibraryFills (reading_library lib) a T₁
  fill-tokens e g =
      let x = accepted-of-answer (tokens lib) T (at-lexed e) in g.says lib x.items refl short x.is (sym x.count) x.rows

  pub fill-refused : (q : Refusal) → l ≡ Err q → LibraryFills (reading_library lib) (Err q.position) T
  fill-refused q e =
      subst (λ (o : Outcome LibraryReading). LibraryFills o (Err q.position) T)
      (sym (not-lexed lib short (refused-of-answer (tokens lib) q T (at-lexed e)))) refl

-- the number of tokens that the lexer answers
pub lexed-few : (lib T : List ℕ) {l : Result ℕ Refusal} {n : ℕ} → Lexes (tokens lib) l T → l ≡ Ok n → n ≤ tokens_most
lexed-few lib T h e =
    let x = accepted-of-answer (tokens lib) T (subst (λ (y : Result ℕ Refusal). Lexes (tokens lib) y T) e h) in omega (arith, x.few, x.count)
