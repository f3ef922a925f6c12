-- The joined text has the lesson's tokens, then those of the kept classes, from which the grammar derives the lesson with the kept classes
-- behind its own, their places moved. So that is its tree whenever it passes Read, and it does unless it is too long or has too many
-- tokens.
use Rattle.std.specs.Prelude.{ℕ, suc, ◌+◌, ◌-◌, ◌≤◌, ◌<◌, ◌≡◌, List, [], ◌∷◌, ◌++◌, map, Bool, true, false, length, take, drop}
use Rattle.std.proofs.Common.{add-zero, arith, sym, ap, ◌∙◌, subst, append_assoc, length-append, length-drop, length-take-le, get_or-take, get_or-drop, get_or-append-add}
use Rattle.std.proofs.Math.Path.{refl}
use Rattle.std.proofs.Math.Option.{none}
use Rattle.std.proofs.lemmas.List.{length-map}
use Rattle.std.proofs.Math.ListN.{get_or-append, get_or-map}
use Rattle.base.specs.Choice.{if◌then◌otherwise◌}
use Rattle.base.specs.Codes.{tokens_most, source_most}
use Rattle.base.specs.laws.Lists.{All2, all2-nil, all2-cons, get_d_default}
use Rattle.base.specs.Outcome.{accepted}
use Rattle.base.specs.laws.Tests.{if-both}
use Rattle.lexer.specs.Bytes.{b_line_feed}
use Rattle.lexer.specs.Tokens.{Token}
use Rattle.parser.specs.Tree.{Class, Program}
use Rattle.parser.specs.Stream.{no_more, token_at, start_at}
use Rattle.parser.specs.Grammar.{DerivesClass, a-class-declaration, DerivesClasses, no-class, more-classes, DerivesProgram, a_program}
use Rattle.parser.specs.Measure.{deep, methods_deep, classes_deep, program_deep}
use Rattle.parser.specs.Read.{Reading, reading}
use Rattle.typesystem.specs.ClassTable.{occurs}
use Rattle.grammar.specs.laws.Agreement.{one-tree}
use Rattle.acceptance.specs.Read.{Readable, readable-exactly}
use Rattle.appended.specs.More.{with_more}
use Rattle.appended.specs.Moved.{shift, move_token, move_class}
use Rattle.appended.proofs.laws.Lexing.{HasTokens, no_byte, has-tokens, one-stream}
use Rattle.appended.proofs.laws.Embedding.{In, order-class, order-classes, embed-class}
use Rattle.appended.proofs.laws.Sources.{kept-kind, kept-name-is, kept-head, kept-statement, kept-classes}
use Rattle.joining.specs.Join.{names_of, kept_classes, end_at, slice, first_token, class_text, kept_text, join_text}
use Rattle.joining.specs.Copy.{Copy, copy}
use Rattle.joining.proofs.Reading.{ReadableLibrary}
use Rattle.joining.proofs.laws.Moving.{tokens-moved}
use Rattle.joining.proofs.laws.Adding.{few-tokens, tokens_append, line-feed}
use Rattle.joining.proofs.laws.Cutting.{tokens-part}
use Rattle.joining.proofs.laws.Depth.{BothDeep, neither, both-least, none-too, methods-moved, least-none, none-least, classes-none}

-- CLASSES

-- the classes ks stand, moved, as the text from position d on, behind any tokens
record Placed (ls : List Token) (ks : List Class) (text : List ℕ) (d : ℕ) : Type 0 where
  stream : List Token
  lexed : HasTokens d text stream
  derives : (ws : List Token) → (cs : List Class) × DerivesClasses (ws ++ stream) (length ws) (length ws + length stream) cs
      × All2 (Copy ls) ks cs

pub row_is : {ls : List Token} {i j : ℕ} {k : Class} → DerivesClass ls i j k → k.name.row - 1 ≡ i
row_is (a-class-declaration {i = i} e₁ e₂ hp e₃ hf hm e₄) = omega arith

pub first-is : {ls : List Token} {i : ℕ} {ks : List Class} → DerivesClasses ls i (length ls) ks → first_token ls ks ≡ i
first-is no-class = refl
first-is (more-classes h g) = row_is h

again : {vs us : List Token} {i i' j j' : ℕ} {cs : List Class} → vs ≡ us → i ≡ i' → j ≡ j' → DerivesClasses vs i j cs
    → DerivesClasses us i' j' cs
again {us = us} {i = i} {i' = i'} {j = j} {cs = cs} p q r h =
    subst (λ (n : ℕ). DerivesClasses us i' n cs) r
    (subst (λ (n : ℕ). DerivesClasses us n j cs) q (subst (λ (l : List Token). DerivesClasses l i j cs) p h))

text-is : (lib : List ℕ) (ls : List Token) {a b i m : ℕ} → a ≡ i → b ≡ m
    → slice (start_at ls i) (end_at ls (m - 1)) lib ≡ slice (start_at ls a) (end_at ls (b - 1)) lib
text-is lib ls p q = λ j. slice (start_at ls (sym p j)) (end_at ls (sym q j - 1)) lib

copy_of : (ls : List Token) {i m : ℕ} {k : Class} (n d : ℕ) → DerivesClass ls i m k
    → Copy ls k (move_class (shift i n) (shift (start_at ls i) d) k)
copy_of ls {k = k} n d D =
    subst (λ (x : ℕ). Copy ls k (move_class (shift x n) (shift (start_at ls x) d) k)) (row_is D) (copy n d)

module _ {lib : List ℕ} {ls : List Token} (h : HasTokens 0 lib ls) where
  -- the tokens of a class
  abbrev middle : (i m : ℕ) → List Token
  middle i m = take (suc (m - 1 - i)) (drop i ls)

  middle-length : (i m : ℕ) → i < m → m ≤ length ls → length (middle i m) ≡ m - i
  middle-length i m l b = length-take-le (suc (m - 1 - i)) (drop i ls) (omega (arith, length-drop i ls)) ∙ omega arith

  middle-at : (i m q : ℕ) → i ≤ q → q < m → token_at (middle i m) (q - i) ≡ token_at ls q
  middle-at i m q l b =
      let r : i + (q - i) ≡ q = omega arith in
      get_or-take (suc (m - 1 - i)) (drop i ls) (q - i) no_more (omega arith) ∙ get_or-drop i ls (q - i) no_more ∙ ap (token_at ls) r

  -- moved to position d
  abbrev moved_middle : (i m d : ℕ) → List Token
  moved_middle i m d = map (move_token (shift (start_at ls i) d)) (middle i m)

  -- they stand behind ws
  class-here : (ws us : List Token) (i m d : ℕ) → m ≤ length ls → (q q' : ℕ) → In i m i (length ws) q q'
      → token_at (ws ++ (moved_middle i m d ++ us)) q' ≡ move_token (shift (start_at ls i) d) (token_at ls q)
  class-here ws us i m d b q q' w =
      let g : Token → Token = move_token (shift (start_at ls i) d) in
      let zs = moved_middle i m d in
      let r : q' ≡ length ws + (q - i) = omega arith in
      let n : q - i < length zs = omega (arith, length-map (middle i m) g, middle-length i m (omega arith) b) in
      ap (token_at (ws ++ (zs ++ us))) r ∙ get_or-append-add ws (zs ++ us) (q - i) no_more ∙ get_or-append zs us no_more (q - i) n
      ∙ get_d_default zs (q - i) no_more (g no_more) n ∙ get_or-map g (middle i m) (q - i) no_more ∙ ap g
      (middle-at i m q w.low w.high)

  followed : (ws us : List Token) {i m : ℕ} {k : Class} {ks : List Class} → DerivesClass ls i m k → m ≤ length ls → (d : ℕ)
      → (cs : List Class) × DerivesClasses ((ws ++ moved_middle i m d) ++ us) (length (ws ++ moved_middle i m d))
      (length (ws ++ moved_middle i m d) + length us) cs × All2 (Copy ls) ks cs
      → (cs : List Class) × DerivesClasses (ws ++ (moved_middle i m d ++ us)) (length ws) (length ws + length (moved_middle i m d ++ us)) cs
      × All2 (Copy ls) (k ∷ ks) cs
  followed ws us {i} {m} {k} {ks} D b d w =
      let o = order-class D in
      let zs = moved_middle i m d in
      let n : length zs ≡ m - i = length-map (middle i m) _ ∙ middle-length i m o b in
      let a = length-append ws zs in
      let c = length-append zs us in
      let C = embed-class ls (ws ++ (zs ++ us)) i m i (length ws) (start_at ls i) d (class-here ws us i m d b) D (length ws) refl
      (omega arith) (omega arith) in (
        move_class (shift i (length ws)) (shift (start_at ls i) d) k ∷ w.0,
        more-classes {j = length ws + length (zs ++ us)} C.holds (again (append_assoc ws zs us) (omega arith) (omega arith) w.1),
        all2-cons (copy_of ls (length ws) d D) w.2,
      )

  one_more : {i m : ℕ} {k : Class} {ks : List Class} → DerivesClass ls i m k → m ≤ length ls → (d : ℕ) {text : List ℕ}
      → Placed ls ks text (d + length (slice (start_at ls i) (end_at ls (m - 1)) lib) + 1)
      → Placed ls (k ∷ ks) (slice (start_at ls i) (end_at ls (m - 1)) lib ++ b_line_feed ∷ text) d
  one_more {i} {m} D b d T =
      let o = order-class D in
      record {
        stream = moved_middle i m d ++ T.stream;
        lexed = tokens_append refl (tokens-moved (start_at ls i) d (tokens-part h i (m - 1) (omega arith) (omega arith)) refl)
            (line-feed T.lexed);
        derives = λ ws. followed ws T.stream D b d (T.derives (ws ++ moved_middle i m d));
      }

  module _ (taken : List (List ℕ)) where
    -- the kept classes
    kept-placed : {i : ℕ} {ks : List Class} → DerivesClasses ls i (length ls) ks → (d : ℕ)
        → Placed ls (kept_classes taken ks) (kept_text taken lib ls ks) d
    kept-placed no-class d = record {
      stream = [];
      lexed = no_byte;
      derives = λ ws. ([], again refl refl (sym (add-zero (length ws))) no-class, all2-nil);
    }
    kept-placed (more-classes {i = i} {m = m} {c = k} {cs = ks} D Ds) d = go (occurs k.name.text taken) (λ e. kept-placed Ds e)
      where
        go : (b : Bool) → ((e : ℕ) → Placed ls (kept_classes taken ks) (kept_text taken lib ls ks) e)
            → Placed ls (if b then (λ _. kept_classes taken ks) otherwise λ _. k ∷ kept_classes taken ks)
            (if b then (λ _. kept_text taken lib ls ks) otherwise λ _. class_text lib ls k ks ++ b_line_feed ∷ kept_text taken lib ls ks) d
        go true f = f d
        go false f =
            subst (λ (x : List ℕ). Placed ls (k ∷ kept_classes taken ks) (x ++ b_line_feed ∷ kept_text taken lib ls ks) d)
            (text-is lib ls (row_is D) (first-is Ds))
            (one_more D (order-classes Ds) d (f _))

-- THE WHOLE

classes-append : {vs : List Token} {i m j : ℕ} {cs ks : List Class} → DerivesClasses vs i m cs → DerivesClasses vs m j ks
    → DerivesClasses vs i j (cs ++ ks)
classes-append no-class g = g
classes-append (more-classes h hs) g = more-classes h (classes-append hs g)

program-joined : (ts us : List Token) {p : Program} {ks : List Class} → DerivesProgram ts p
    → DerivesClasses (ts ++ us) (length ts) (length ts + length us) ks → DerivesProgram (ts ++ us) (with_more p ks)
program-joined ts us {ks = ks} (a_program {j = j} {s = s} {cs = cs} h d e₁ e₂ ds) g =
    subst (DerivesProgram (ts ++ us)) (cc (kept-name-is ts us 1 h.at1, kept-name-is ts us 11 h.at11))
    (a_program (kept-head ts us h) (kept-statement ts us d (omega (arith, order-classes ds))) (kept-kind ts us j e₁ refl)
    (kept-kind ts us (j + 1) e₂ refl)
    (classes-append (kept-classes ts us ds (omega arith)) (again refl refl (sym (length-append ts us)) g)))

-- DEPTH

copies-shallow : {ls : List Token} {ks cs : List Class} → All2 (Copy ls) ks cs → BothDeep (classes_deep ks) (classes_deep cs)
unfolding classes_deep
copies-shallow all2-nil = neither
copies-shallow {ls} (all2-cons {a = k} (copy n d) h) =
    both-least (methods-moved (shift (k.name.row - 1) n) (shift (start_at ls (k.name.row - 1)) d) k.methods) (copies-shallow h)

kept-shallow : (taken : List (List ℕ)) (ks : List Class) → classes_deep ks ≡ none → classes_deep (kept_classes taken ks) ≡ none
unfolding classes_deep
kept-shallow taken [] e = refl
kept-shallow taken (k ∷ ks) e =
    let w = least-none (methods_deep k.methods) (classes_deep ks) e in
    if-both (λ (l : List Class). classes_deep l ≡ none) (occurs k.name.text taken) (λ _. kept_classes taken ks)
    (λ _. k ∷ kept_classes taken ks)
    (kept-shallow taken ks w.1) (none-least w.0 (kept-shallow taken ks w.1))

-- A LESSON AND A LIBRARY, both read: with their tokens, the tree of the one and the classes of the other

module _ {s : List ℕ} {ts : List Token} {p : Program} {lib : List ℕ} {ls : List Token} {ks : List Class}
    (R : Readable s ts p) (L : ReadableLibrary lib ls ks) where
  behind : Placed ls (kept_classes (names_of p) ks) (kept_text (names_of p) lib ls ks) (length s + 1)
  behind = kept-placed (has-tokens lib ls L.lexed) (names_of p) L.derived (length s + 1)

  -- the tokens of the joined text
  pub joined_stream : List Token
  joined_stream = ts ++ behind.stream

  -- and the classes behind the lesson's own
  pub more : List Class
  more = (behind.derives ts).0

  pub copies : All2 (Copy ls) (kept_classes (names_of p) ks) more
  unfolding more
  copies = (behind.derives ts).2

  joined-derived : DerivesProgram joined_stream (with_more p more)
  unfolding joined_stream more
  joined-derived = program-joined ts behind.stream R.derived (behind.derives ts).1

  pub joined-lexed : HasTokens 0 (join_text s p lib ls ks) joined_stream
  unfolding joined_stream
  joined-lexed =
      tokens_append refl (has-tokens s ts R.lexed)
      (line-feed (subst (λ (n : ℕ). HasTokens n (kept_text (names_of p) lib ls ks) behind.stream) (omega arith) behind.lexed))

  pub joined-tree : (r : Reading) → reading (join_text s p lib ls ks) ≡ accepted r → r.tree ≡ with_more p more
  joined-tree r e =
      let t = join_text s p lib ls ks in
      let H = (readable-exactly t r.stream r.tree).0 e in
      let same : joined_stream ≡ r.stream = one-stream joined-lexed (has-tokens t r.stream H.lexed) in
      one-tree r.stream r.tree (with_more p more) H.derived
      (subst (λ (l : List Token). DerivesProgram l (with_more p more)) same joined-derived)

  -- it passes Read where it is short enough and has few enough tokens
  pub joined-readable : length (join_text s p lib ls ks) ≤ source_most → length joined_stream ≤ tokens_most
      → Readable (join_text s p lib ls ks) joined_stream (with_more p more)
  unfolding program_deep
  joined-readable short few =
      let w = least-none (deep 1 p.statement) (classes_deep p.classes) R.shallow in
      record {
        short = short;
        lexed = few-tokens (join_text s p lib ls ks) joined_stream joined-lexed few;
        derived = joined-derived;
        shallow = none-least w.0
            (classes-none p.classes more w.1 (none-too (copies-shallow copies) (kept-shallow (names_of p) ks L.shallow)));
      }
