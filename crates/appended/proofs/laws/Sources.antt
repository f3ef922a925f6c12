-- An accepted source with bytes put behind it, accepted too: its tokens are those of the first and then more, and its tree is the first's
-- with more classes, since what the grammar derives from the tokens it derives from the longer list, and the parsing function finds it.
use Rattle.std.specs.Prelude.{ℕ, zero, suc, ◌+◌, ◌≤◌, ◌<◌, ◌≡◌, List, [], ◌∷◌, ◌++◌, true, false, length, eqb}
use Rattle.std.proofs.Common.{arith, sym, ap, ◌∙◌, subst}
use Rattle.std.proofs.Math.Path.{refl}
use Rattle.std.proofs.Math.ListN.{get_or-append}
use Rattle.base.specs.laws.Tests.{apart}
use Rattle.lexer.specs.Tokens.{Token}
use Rattle.lexer.specs.Kinds.{k_close_brace, is_name_lem}
use Rattle.parser.specs.Tree.{Name, Statement, Class, Program}
use Rattle.parser.specs.Tree.{Sort.statement}
use Rattle.parser.specs.Stream.{no_more, token_at, kind_at, name_at}
use Rattle.parser.specs.Parse.{Parsed, ok, bad, out, bind, classes_from, program_from, parse}
use Rattle.parser.specs.Grammar.{Kind, Derives, a-class-declaration, DerivesClasses, no-class, more-classes, MainHead, DerivesProgram}
use Rattle.parser.specs.Grammar.{a_program}
use Rattle.grammar.specs.laws.Complete.{Gives, given, spent, found-statement, found-class, class-begins}
use Rattle.grammar.specs.laws.Agreement.{complete}
use Rattle.grammar.specs.laws.Passing.{seen, seen-kind}
use Rattle.appended.specs.More.{with_more}
use Rattle.appended.proofs.laws.Lexing.{EndsInBrace}
use Rattle.appended.specs.Moved.{shift, move_token, move_name}
use Rattle.appended.proofs.laws.Trees.{still, classes-still}
use Rattle.appended.proofs.laws.Embedding.{In, embed-statement, embed-classes, embed-kind, embed-name, embed-name-is}

-- the parsing function, where some classes are derived

not-ok : {A B : Type 0} {a : A} {j : ℕ} → out ≡ ok a j → B
not-ok e = apart (cc)

after-gives : {A B : Type 0} {a : A} {j n : ℕ} {b : B} {r : Parsed A} (g : A → ℕ → Parsed B) → Gives a j r → bind r g ≡ ok b n → g a j ≡ ok
    b n
after-gives g given e = e
after-gives g spent e = not-ok e

classes-begin : {vs : List Token} {i j : ℕ} {cs : List Class} → DerivesClasses vs i j cs → (f : ℕ) {ks : List Class} {n : ℕ} → classes_from f
    vs i ≡ ok ks n
    → (ls : List Class) × (ks ≡ cs ++ ls)
unfolding classes_from
classes-begin no-class f {ks} e = (ks, refl)
classes-begin (more-classes d ds) zero e = not-ok e
classes-begin {vs} {i} (more-classes {m = m} {c = c} {cs = cs} d ds) (suc f) {ks} {n} e =
    go (classes_from f vs m) refl (after-gives _ (found-class vs d f) (rw (class-begins vs d) at e)) (λ ls l q. classes-begin ds f q)
  where
    go : (r : Parsed (List Class)) → classes_from f vs m ≡ r → bind r (λ cs j. ok (c ∷ cs) j) ≡ ok ks n
        → ((ls : List Class) (l : ℕ) → classes_from f vs m ≡ ok ls l → (ms : List Class) × (ls ≡ cs ++ ms)) → (ls : List Class) ×
        (ks ≡ (c ∷ cs) ++ ls)
    go (ok ls l) q e f = let w = f ls l q in let z : c ∷ ls ≡ ks = cc in (w.0, sym z ∙ ap (λ (x : List Class). c ∷ x) w.1)
    go (bad k) q e f = apart (cc)
    go out q e f = not-ok e

classes-last : (vs : List Token) (f i : ℕ) {e : ℕ} {cs : List Class} (m a : Name) (s : Statement) {q : Program} {n : ℕ} → DerivesClasses vs
    i e cs
    → bind (classes_from f vs i) (λ cs j. ok (record { main = m; parameter = a; statement = s; classes = cs }) j) ≡ ok q n
    → (ks : List Class) × (q ≡ record { main = m; parameter = a; statement = s; classes = cs ++ ks })
classes-last vs f i {cs = cs} m a s {q} {n} ds E = go (classes_from f vs i) refl E
  where
    go : (r : Parsed (List Class)) → classes_from f vs i ≡ r → bind r
        (λ cs j. ok (record { main = m; parameter = a; statement = s; classes = cs }) j) ≡ ok q n
        → (ks : List Class) × (q ≡ record { main = m; parameter = a; statement = s; classes = cs ++ ks })
    go (ok ls l) e E =
        let w = classes-begin ds f e in
        let z : record { main = m; parameter = a; statement = s; classes = ls } ≡ q = cc in
        (w.0, sym z ∙ ap (λ (x : List Class). record { main = m; parameter = a; statement = s; classes = x }) w.1)
    go (bad k) e E = apart (cc)
    go out e E = not-ok E

parse-begins : (vs : List Token) {j e : ℕ} {s : Statement} {cs : List Class} {q : Program} {n : ℕ} → MainHead vs → Derives vs statement
    Kind.a_statement 14 j s
    → kind_at vs j ≡ k_close_brace → kind_at vs (j + 1) ≡ k_close_brace → DerivesClasses vs (j + 2) e cs → parse vs ≡ ok q n
    → (ks : List Class) × (q ≡ record { main = name_at vs 1; parameter = name_at vs 11; statement = s; classes = cs ++ ks })
unfolding parse program_from is_name_lem
parse-begins vs {j} {e} {s = s} {cs = cs} {q = q} {n = n} h d e₁ e₂ ds E =
    classes-last vs _ (j + 1 + 1) (name_at vs 1) (name_at vs 11) s (subst (λ (i : ℕ). DerivesClasses vs i e cs) (omega arith) ds)
    (rw (e₁, e₂) at (after-gives _ (found-statement vs d _)
    (rw (h.at0, h.at1, h.at2, h.at3, h.at4, h.at5, h.at6, h.at7, h.at8, h.at9, h.at10, h.at11, h.at12, h.at13) at E)))

-- the tokens of a lesson and more

stays : (m : ℕ) → shift 0 0 m ≡ m
stays m = omega arith

token-still : (t : Token) → move_token (shift 0 0) t ≡ t
token-still t = λ i. record { kind = t.kind; start = stays t.start i; text = t.text }

name-still : (x : Name) → move_name (shift 0 0) (shift 0 0) x ≡ x
name-still x = λ i. record { row = stays x.row i; start = stays x.start i; text = x.text }

module _ (ts us : List Token) where
  -- the tokens of ts stand at the front, where they stood
  first_part : (m m' : ℕ) → In 0 (length ts) 0 0 m m' → token_at (ts ++ us) m' ≡ move_token (shift 0 0) (token_at ts m)
  first_part m m' w =
      let q : m' ≡ m = omega arith in
      ap (token_at (ts ++ us)) q ∙ get_or-append ts us no_more m w.high ∙ sym (token-still (token_at ts m))

  seen-in : (m : ℕ) → m < length ts → In 0 (length ts) 0 0 m m
  seen-in m l = omega arith

  pub kept-kind : (m : ℕ) {q : ℕ} → kind_at ts m ≡ q → eqb 0 q ≡ false → kind_at (ts ++ us) m ≡ q
  kept-kind m {q} e z = embed-kind ts (ts ++ us) 0 (length ts) 0 0 0 0 first_part m m (seen-in m (seen-kind ts m q z e)) e

  kept-name : (m : ℕ) → is_name_lem (kind_at ts m) ≡ true → is_name_lem (kind_at (ts ++ us) m) ≡ true
  unfolding is_name_lem
  kept-name m e = embed-name ts (ts ++ us) 0 (length ts) 0 0 0 0 first_part m m (seen-in m (seen ts m is_name_lem refl e)) e

  pub kept-name-is : (m : ℕ) → is_name_lem (kind_at ts m) ≡ true → name_at (ts ++ us) m ≡ name_at ts m
  unfolding is_name_lem
  kept-name-is m e = embed-name-is ts (ts ++ us) 0 (length ts) 0 0 0 0 first_part m m (seen-in m (seen ts m is_name_lem refl e)) ∙ name-still
      (name_at ts m)

  pub kept-head : MainHead ts → MainHead (ts ++ us)
  kept-head h = record {
    at0 = kept-kind 0 h.at0 refl;
    at1 = kept-name 1 h.at1;
    at2 = kept-kind 2 h.at2 refl;
    at3 = kept-kind 3 h.at3 refl;
    at4 = kept-kind 4 h.at4 refl;
    at5 = kept-kind 5 h.at5 refl;
    at6 = kept-kind 6 h.at6 refl;
    at7 = kept-kind 7 h.at7 refl;
    at8 = kept-kind 8 h.at8 refl;
    at9 = kept-kind 9 h.at9 refl;
    at10 = kept-kind 10 h.at10 refl;
    at11 = kept-name 11 h.at11;
    at12 = kept-kind 12 h.at12 refl;
    at13 = kept-kind 13 h.at13 refl;
  }

  pub kept-statement : {i j : ℕ} {t : Statement} → Derives ts statement Kind.a_statement i j t → j ≤ length ts → Derives (ts ++ us) statement
      Kind.a_statement i j t
  kept-statement {i} {j} {t} d l =
      let a = embed-statement ts (ts ++ us) 0 (length ts) 0 0 0 0 first_part d i (omega arith) (omega arith) l in
      subst (λ (e : ℕ). Derives (ts ++ us) statement Kind.a_statement i e t) (omega arith)
      (subst (Derives (ts ++ us) statement Kind.a_statement i a.end) (still (shift 0 0) (shift 0 0) stays stays t) a.holds)

  pub kept-classes : {i j : ℕ} {ks : List Class} → DerivesClasses ts i j ks → j ≤ length ts → DerivesClasses (ts ++ us) i j ks
  kept-classes {i} {j} {ks} d l =
      let a = embed-classes ts (ts ++ us) 0 (length ts) 0 0 0 0 first_part d i (omega arith) (omega arith) l in
      subst (λ (e : ℕ). DerivesClasses (ts ++ us) i e ks) (omega arith)
      (subst (DerivesClasses (ts ++ us) i a.end) (classes-still (shift 0 0) (shift 0 0) stays stays ks) a.holds)

  -- a program whose tokens begin with those of another has its tree, with more classes
  pub tree-begins : {p q : Program} → DerivesProgram ts p → DerivesProgram (ts ++ us) q → (ks : List Class) × (q ≡ with_more p ks)
  tree-begins {q = q} (a_program {j = j} {s = s} {cs = cs} h d e₁ e₂ ds) D =
      let w = parse-begins (ts ++ us) (kept-head h) (kept-statement d (omega (arith, seen-kind ts j k_close_brace refl e₁)))
      (kept-kind j e₁ refl) (kept-kind (j + 1) e₂ refl) (kept-classes ds (omega arith)) (complete (ts ++ us) q D) in
      (w.0, w.1 ∙ cc (kept-name-is 1 h.at1, kept-name-is 11 h.at11))

-- the last token of a program is a brace

closed : (ts : List Token) (m : ℕ) → length ts ≡ m + 1 → kind_at ts m ≡ k_close_brace → EndsInBrace ts
closed [] m l e = tt
closed (t ∷ []) zero l e = e
closed (t ∷ []) (suc m) l e = absurd (omega arith)
closed (t ∷ u ∷ ts) zero l e = absurd (omega arith)
closed (t ∷ u ∷ ts) (suc m) l e = closed (u ∷ ts) m (omega arith) e

classes-end : {ts : List Token} {i j : ℕ} {cs : List Class} → DerivesClasses ts i j cs → (m : ℕ) → i ≡ m + 1 → kind_at ts m ≡ k_close_brace
    → (n : ℕ) × (j ≡ n + 1) × (kind_at ts n ≡ k_close_brace)
classes-end no-class m q e = (m, q, e)
classes-end (more-classes (a-class-declaration {c = c} e₁ e₂ dp e₃ df dm e₄) ds) m q e = classes-end ds c refl e₄

pub program-closed : {ts : List Token} {p : Program} → DerivesProgram ts p → EndsInBrace ts
program-closed {ts} (a_program {j = j} h d e₁ e₂ ds) = let w = classes-end ds (j + 1) (omega arith) e₂ in closed ts w.0 w.1 w.2
