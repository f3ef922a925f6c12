-- Bytes written one behind the other, and a token's bytes.
use Rattle.std.specs.Prelude.{ℕ, suc, ◌+◌, ◌-◌, ◌≤◌, ◌<◌, ◌≡◌, refl, List, [], ◌∷◌, ◌++◌, length, set, get_or, take, drop}
use Rattle.std.proofs.Common.{sym, ap, ◌∙◌, subst, arith, length-append, length-drop}
use Rattle.std.proofs.lemmas.List.{take_more, take_all}
use Rattle.std.proofs.lemmas.List.Edits.{sets, sets-eq}
use Rattle.base.specs.Outcome.{accepted}
use Rattle.base.specs.promises.Table.{c_start}
use Rattle.base.specs.laws.Lists.{get-get_d}
use Rattle.base.specs.laws.Tests.{apart}
use Rattle.lexer.specs.Tokens.{Token, Item, gap, unclosed, nothing, token, item, tokens}
use Rattle.lexer.specs.promises.Scan.{piece_of}
use Rattle.lexer.specs.declared.scan.Piece.TheVariants.{Gap, Unclosed, Nothing, Token as Whole}
use Rattle.lexer.proofs.laws.ItemLaws.{Good, good}
use Rattle.lexer.proofs.laws.RowLaws.{TokenOf, token-of}
use Rattle.parser.specs.Stream.{no_more, token_at, start_at}
use Rattle.lookup.specs.promises.HeldClasses.{word_at, Lexemes}
use Rattle.lookup.specs.laws.HeldLaws.{start_word}
use Rattle.printing.specs.Printed.{Lexeme, separator, render}
use Rattle.printing.proofs.laws.Appending.{render-append}
use Rattle.printing.proofs.laws.Lexing.{lexeme}
use Rattle.printer.specs.promises.Puts.{text_room, BytesPut, Skips, Puts, bytes_between, TokenPut}

-- ONE BEHIND THE OTHER

sets-append : (l : List ℕ) (i : ℕ) (xs ys : List ℕ) → sets (sets l i xs) (i + length xs) ys ≡ sets l i (xs ++ ys)
sets-append l i [] ys = let z : i + 0 ≡ i = omega arith in ap (λ (n : ℕ). sets l n ys) z
sets-append l i (x ∷ xs) ys =
    let z : i + suc (length xs) ≡ suc i + length xs = omega arith in
    ap (λ (n : ℕ). sets (sets (set l i x) (suc i) xs) n ys) z ∙ sets-append (set l i x) (suc i) xs ys

pub wrote-more : {a b c : List ℕ} {i j k : ℕ} {xs ys : List ℕ} → BytesPut a i xs b j → BytesPut b j ys c k → BytesPut a i (xs ++ ys) c k
wrote-more {a} {b} {c} {i} {j} {k} {xs} {ys} v w = record {
  bytes =
      w.bytes
      ∙ ap (λ (l : List ℕ). sets l j ys) v.bytes
      ∙ ap (λ (n : ℕ). sets (sets a i xs) n ys) v.end
      ∙ sets-append a i xs ys;
  end = omega (arith, v.end, w.end, length-append xs ys);
}

take_none : (l : List ℕ) → take 0 l ≡ []
take_none [] = refl
take_none (x ∷ l) = refl

-- what the writing pass leaves, where there is room
pub filled : (before bs after : List ℕ) (j : ℕ) → BytesPut before 0 bs after j → length bs ≤ length before
    → after ≡ bs ++ drop (length bs) before
filled before bs after j w h =
    let z : 0 + length bs ≡ length bs = omega arith in
    w.bytes
    ∙ sets-eq bs before 0 (omega arith)
    ∙ ap (λ (l : List ℕ). l ++ bs ++ drop (0 + length bs) before) (take_none before)
    ∙ ap (λ (n : ℕ). bs ++ drop n before) z

-- MORE BYTES

pub puts-more : {a b c : List ℕ} {i j k : ℕ} {xs ys : List ℕ} → Puts i xs a b j → Puts j ys b c k → Puts i (xs ++ ys) a c k
puts-more {i = i} {j = j} {xs = xs} {ys = ys} p q = record {
  within = q.within;
  says = λ h.
      let n = length-append xs ys in
      let w = p.says (omega arith) in
      wrote-more w (q.says (omega (arith, w.end)));
}

-- tokens behind tokens
pub tokens-more : {a b c : List ℕ} {i j k : ℕ} (xs ys : List Lexeme) → Puts i (render xs) a b j → Puts j (render ys) b c k
    → Puts i (render (xs ++ ys)) a c k
tokens-more {a} {c = c} {i = i} {k = k} xs ys p q = subst (λ (l : List ℕ). Puts i l a c k) (sym (render-append xs ys)) (puts-more p q)

-- one byte more of a text
pub puts-next : (text : List ℕ) {a b d : List ℕ} {n m j k : ℕ} → k < length text → Puts n (take k text) a b m → Puts m (get_or text k 0 ∷ []) b d j
    → Puts n (take (k + 1) text) a d j
puts-next text {a} {d = d} {n} {j = j} {k} l p q =
    subst (λ (bs : List ℕ). Puts n bs a d j) (sym (take_more text k 0 l)) (puts-more p q)

-- all of a text, and one byte behind it
pub puts-whole : (text : List ℕ) {a b d : List ℕ} {n m j k c : ℕ} → length text ≤ k → Puts n (take k text) a b m → Puts m (c ∷ []) b d j
    → Puts n (text ++ c ∷ []) a d j
puts-whole text {a} {d = d} {n} {j = j} {k} {c} l p q =
    subst (λ (bs : List ℕ). Puts n (bs ++ c ∷ []) a d j) (take_all k text l) (puts-more p q)

-- an empty strip stays so
sets-empty : (i : ℕ) (bs : List ℕ) → sets [] i bs ≡ []
sets-empty i [] = refl
sets-empty i (b ∷ bs) = sets-empty (suc i) bs

pub puts-counted : (text : List ℕ) (c : ℕ) (before : List ℕ) {n r : ℕ} → length before ≡ 0 → Skips n (length text + 1) r
    → Puts n (text ++ c ∷ []) before before r
puts-counted text c (x ∷ l) e s = absurd (omega arith)
puts-counted text c [] {n} {r} e s =
    let size = length-append text (c ∷ []) in
    record {
      within = s.within;
      says = λ q. record {
        bytes = sym (sets-empty n (text ++ c ∷ []));
        end = s.end (omega (arith, size)) ∙ ap (λ (m : ℕ). n + m) (sym size);
      };
    }

-- THE TOKEN OF A ROW

-- a token that is found ends within the source
ends-within : (s : List ℕ) (start kind end : ℕ) → start < length s → Whole kind end ≡ piece_of start (item start (drop start s))
    → (start ≤ end) × (end ≤ length s)
ends-within s start kind end h e = go (item start (drop start s)) (good s start h) e
  where
    go : (x : Item) → Good start (drop start s) x → Whole kind end ≡ piece_of start x → (start ≤ end) × (end ≤ length s)
    go (gap j) g e = apart (cc)
    go unclosed g e = apart (cc)
    go nothing g e = apart (cc)
    go (token k t) g e =
        let z : end ≡ start + length t = cc in
        (omega arith, omega (arith, g.short, length-drop start s))

pub starts-before : (s : List ℕ) (start kind end : ℕ) → start < length s → Whole kind end ≡ piece_of start (item start (drop start s))
    → start ≤ end
starts-before s start kind end h e = (ends-within s start kind end h e).0

pub ends-inside : (s : List ℕ) (start kind end : ℕ) → start < length s → Whole kind end ≡ piece_of start (item start (drop start s))
    → end ≤ length s
ends-inside s start kind end h e = (ends-within s start kind end h e).1

module _ (s : List ℕ) {tab : List ℕ} {n : ℕ} (row : ℕ) {ts : List Token} (lexed : tokens s ≡ accepted ts) (rows : Lexemes tab n ts)
    (l : row < length ts) where
  token-here : TokenOf s (token_at ts row)
  token-here = token-of s ts lexed row (token_at ts row) (get-get_d ts row no_more l)

  -- the piece at the position that the row has
  piece-here : piece_of (word_at tab c_start row) (item (word_at tab c_start row) (drop (word_at tab c_start row) s))
      ≡ Whole (token_at ts row).kind (start_at ts row + length (token_at ts row).text)
  piece-here = rw (start_word rows row l, token-here.begins) refl

  start-inside : word_at tab c_start row < length s
  start-inside = rw (start_word rows row l) (omega (arith, token-here.inside, token-here.nonempty))

-- nothing is written where no token begins
no-token : {s tab before : List ℕ} {row at start : ℕ} → at ≤ text_room → start ≡ word_at tab c_start row
    → ((k e : ℕ) → start < length s → Whole k e ≡ piece_of start (item start (drop start s)) → ⊥) → TokenPut s tab row at before
    before at
no-token {s} {tab} {row = row} w e none =
    record {
      within = w;
      says = λ n ts lexed rows l.
          let t = token_at ts row in
          let p = ap (λ (i : ℕ). piece_of i (item i (drop i s))) e ∙ piece-here s row lexed rows l in
          absurd (none t.kind (start_at ts row + length t.text) (rw e (start-inside s row lexed rows l)) (sym p));
    }

module _ {s tab before : List ℕ} {row at start : ℕ} (w : at ≤ text_room) (e : start ≡ word_at tab c_start row) where
  pub no_gap : {j : ℕ} → Gap j ≡ piece_of start (item start (drop start s)) → TokenPut s tab row at before before at
  no_gap g = no-token w e (λ k f h q. apart (cc))

  pub no-unclosed : Unclosed ≡ piece_of start (item start (drop start s)) → TokenPut s tab row at before before at
  no-unclosed g = no-token w e (λ k f h q. apart (cc))

  pub no-nothing : Nothing ≡ piece_of start (item start (drop start s)) → TokenPut s tab row at before before at
  no-nothing g = no-token w e (λ k f h q. apart (cc))

  pub past-source : length s ≤ start → TokenPut s tab row at before before at
  past-source g = no-token w e (λ k f h q. absurd (omega arith))

-- the token that begins there, copied
rendered : (t : Token) {xs : List ℕ} {b : ℕ} → xs ≡ t.text → b ≡ separator t.kind → xs ++ b ∷ [] ≡ render (lexeme t ∷ [])
unfolding render
rendered t x b = λ i. x i ++ b i ∷ []

pub token-put : {s tab before after : List ℕ} {row at start kind end b r : ℕ} → start ≡ word_at tab c_start row
    → Whole kind end ≡ piece_of start (item start (drop start s)) → b ≡ separator kind
    → Puts at (bytes_between start end s ++ b ∷ []) before after r → TokenPut s tab row at before after r
token-put {s} {tab} {before} {after} {row} {at} {start} {kind} {end} {b = last} {r} e p a w =
    record {
      within = w.within;
      says = λ n ts lexed rows l.
          let o = token-here s row lexed rows l in
          let t = token_at ts row in
          let z : start ≡ t.start = e ∙ start_word rows row l in
          let q : Whole kind end ≡ Whole t.kind (t.start + length t.text) =
          p ∙ ap (λ (i : ℕ). piece_of i (item i (drop i s))) e ∙ piece-here s row lexed rows l in
          let k : kind ≡ t.kind = cc in
          let f : end ≡ t.start + length t.text = cc in
          let c : end - start ≡ length t.text = omega arith in
          let b : bytes_between start end s ≡ t.text =
          ap (λ (m : ℕ). take m (drop start s)) c ∙ ap (λ (m : ℕ). take (length t.text) (drop m s)) z ∙ o.front in
          subst (λ (bs : List ℕ). Puts at bs before after r) (rendered t b (a ∙ ap separator k)) w;
    }
