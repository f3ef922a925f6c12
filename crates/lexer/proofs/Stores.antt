-- A row is stored: the rows before it stay as they were, and the chains with them. A new name becomes the head of its bucket's chain.
use Prim.Native.Nat.{ℕ, zero, suc, ◌+◌, ◌*◌, ◌-◌, ◌%◌, ◌≤◌, ◌<◌}
use native.Mathlib.Decide.{dec_lt, ℕ_discrete}
use native.Mathlib.Omega.{arith}
use mathlib.Core.List.{List, [], ◌∷◌, ◌++◌}
use mathlib.Core.Logic.{◌≢◌}
use mathlib.Core.Bool.{true, false}
use mathlib.Core.Option.{some-injective}
use mathlib.Core.Path.{◌≡◌, refl, sym, ap, ◌∙◌, subst}
use lib.ListN.{length, take, drop}
use borrow.Author.Tests.{eq-eqb, eqb-false}
use Rattle.base.specs.promises.Table.{col, put, rows, size, length-put, col-put-same, col-put-other, c_kind, c_start, c_number, c_head, c_link, c_length}
use Rattle.lexer.specs.Kinds.{k_literal, k_fixed_literal, is_name_lem}
use Rattle.lexer.specs.Tokens.{Token, decimal, thousandths_of_lem}
use Rattle.lexer.specs.promises.Rows.{first_named}
use Rattle.base.specs.laws.Tests.{apart}
use Rattle.lexer.proofs.laws.ItemLaws.{kinds-apart}
use Rattle.lexer.proofs.laws.RowLaws.{first-named, first-most}
use Rattle.lexer.specs.promises.Chains.{bucket_from, text_from, row_token, tokens_of, TokenRow, token_row, stored_row, Link, Reaches, here, next, Numbered, RowsFilled, Chained, Sought, Adding, Extended}
use Rattle.lexer.specs.promises.Verdicts.{number_beside}
use Rattle.lexer.proofs.Chains.{tokens-suc, tokens-length, token-at, row_below}

-- ---- tables whose first n rows are the same, but for the heads of the buckets

pub record Same (n : ℕ) (tab tab' : List ℕ) : Type 0 where
  pub at : (k : ℕ) → k ≢ c_head → (i : ℕ) → i < n → col tab' k i ≡ col tab k i

module _ (s : List ℕ) {tab tab' : List ℕ} {n : ℕ} (kept : Same n tab tab') where
  text-kept : (i : ℕ) → i < n → text_from s tab' i ≡ text_from s tab i
  unfolding text_from
  text-kept i h =
      λ j. take (kept.at c_length (λ e. omega arith) i h j) (drop (kept.at c_start (λ e. omega arith) i h j) s)

  tokens-kept : (m : ℕ) → m ≤ n → tokens_of s tab' m ≡ tokens_of s tab m
  unfolding tokens_of
  tokens-kept zero h = refl
  tokens-kept (suc m) h =
      λ j. tokens-kept m (omega arith) j
      ++ ((record {
        kind = kept.at c_kind (λ e. omega arith) m (omega arith) j;
        start = kept.at c_start (λ e. omega arith) m (omega arith) j;
        text = text-kept m (omega arith) j;
      }) ∷ [])

  link-kept : {m x : ℕ} → m ≤ n → Link tab m x → Link tab' m x
  link-kept h l = record {
    below = l.below;
    named = λ j e. ap is_name_lem (kept.at c_kind (λ q. omega arith) j (omega (arith, l.below))) ∙ l.named j e;
  }

  numbered-kept : (i : ℕ) → i < n → Numbered s tab i → Numbered s tab' i
  numbered-kept i h r =
      let k0 = kept.at c_kind (λ e. omega arith) i h in
      let k1 = kept.at c_start (λ e. omega arith) i h in
      let k2 = kept.at c_number (λ e. omega arith) i h in
      let k6 = kept.at c_link (λ e. omega arith) i h in
      let k7 = kept.at c_length (λ e. omega arith) i h in
      record {
        inside = omega (arith, k1, k7, r.inside);
        link = subst (Link tab' i) (sym k6) (link-kept (omega arith) r.link);
        name = λ m.
            k2
            ∙ r.name (sym (ap is_name_lem k0) ∙ m)
            ∙ (λ j. first_named (sym (tokens-kept i (omega arith)) j) (sym (text-kept i h) j));
        literal = λ m. k2 ∙ r.literal (sym k0 ∙ m) ∙ ap (decimal 0) (sym (text-kept i h));
        fixed = λ m. k2 ∙ r.fixed (sym k0 ∙ m) ∙ ap thousandths_of_lem (sym (text-kept i h));
      }

  reaches-kept : {m : ℕ} {t : List ℕ} {x : ℕ} → n ≤ m → Reaches s tab n t x → Reaches s tab' m t x
  reaches-kept h (here j l e q) = here j (omega arith) e (text-kept j l ∙ q)
  reaches-kept {m} {t} h (next j l e r) =
      next j (omega arith) e (subst (Reaches s tab' m t) (sym (kept.at c_link (λ q. omega arith) j l)) (reaches-kept h r))

-- ---- row n becomes r

pub record Becomes (tab tab' : List ℕ) (n : ℕ) (r : TokenRow) : Type 0 where
  pub long : length tab' ≡ length tab
  pub kept : Same n tab tab'
  pub kind : col tab' c_kind n ≡ r.kind
  pub start : col tab' c_start n ≡ r.start
  pub number : col tab' c_number n ≡ r.number
  pub link : col tab' c_link n ≡ r.link
  pub size : col tab' c_length n ≡ r.length

module _ (tab : List ℕ) (n : ℕ) (r : TokenRow) (h : n < rows) where
  t1 : List ℕ
  t1 = put tab c_kind n r.kind

  t2 : List ℕ
  t2 = put t1 c_start n r.start

  t3 : List ℕ
  t3 = put t2 c_number n r.number

  t4 : List ℕ
  t4 = put t3 c_link n r.link

  -- a cell of another row, or of the column of the heads
  stored_other : (k i : ℕ) → i < rows → ((l : ℕ) → l ≢ c_head → k ≡ l → i ≡ n → ⊥) → col (stored_row tab n r) k i ≡ col tab k i
  unfolding stored_row t1 t2 t3 t4
  stored_other k i hi f =
      col-put-other t4 k i c_length n hi h (f c_length (λ e. omega arith)) r.length
      ∙ col-put-other t3 k i c_link n hi h (f c_link (λ e. omega arith)) r.link
      ∙ col-put-other t2 k i c_number n hi h (f c_number (λ e. omega arith)) r.number
      ∙ col-put-other t1 k i c_start n hi h (f c_start (λ e. omega arith)) r.start
      ∙ col-put-other tab k i c_kind n hi h (f c_kind (λ e. omega arith)) r.kind

  pub stored-heads : (b : ℕ) → b < rows → col (stored_row tab n r) c_head b ≡ col tab c_head b
  stored-heads b hb = stored_other c_head b hb (λ l nl e _. nl (sym e))

  past : (t : List ℕ) (k l v : ℕ) → k ≢ l → col (put t l n v) k n ≡ col t k n
  past t k l v d = col-put-other t k n l n h h (λ e _. d e) v

  stored-length : length (stored_row tab n r) ≡ length tab
  unfolding stored_row
  stored-length = simp length-put

  pub stored-becomes : size ≤ length tab → Becomes tab (stored_row tab n r) n r
  unfolding stored_row t1 t2 t3 t4
  stored-becomes big = record {
    long = stored-length;
    kept = record { at = λ k nk i hi. stored_other k i (omega arith) (λ l nl e q. omega arith) };
    kind =
        past t4 c_kind c_length r.length (λ e. omega arith)
        ∙ past t3 c_kind c_link r.link (λ e. omega arith)
        ∙ past t2 c_kind c_number r.number (λ e. omega arith)
        ∙ past t1 c_kind c_start r.start (λ e. omega arith)
        ∙ col-put-same tab c_kind n r.kind (omega arith);
    start =
        past t4 c_start c_length r.length (λ e. omega arith)
        ∙ past t3 c_start c_link r.link (λ e. omega arith)
        ∙ past t2 c_start c_number r.number (λ e. omega arith)
        ∙ col-put-same t1 c_start n r.start (simp length-put (omega arith));
    number =
        past t4 c_number c_length r.length (λ e. omega arith)
        ∙ past t3 c_number c_link r.link (λ e. omega arith)
        ∙ col-put-same t2 c_number n r.number (simp length-put (omega arith));
    link = past t4 c_link c_length r.length (λ e. omega arith) ∙ col-put-same t3 c_link n r.link (simp length-put (omega arith));
    size = col-put-same t4 c_length n r.length (simp length-put (omega arith));
  }

-- a new head for a bucket changes nothing else
head-becomes : {tab tab' : List ℕ} {n : ℕ} {r : TokenRow} (b v : ℕ) → n < rows → b < rows → Becomes tab tab' n r
    → Becomes tab (put tab' c_head b v) n r
head-becomes {tab} {tab'} {n} {r} b v h hb m = record {
  long = length-put tab' c_head b v ∙ m.long;
  kept = record { at = λ k nk i hi. other k i (omega arith) nk ∙ m.kept.at k nk i hi };
  kind = other c_kind n h (λ e. omega arith) ∙ m.kind;
  start = other c_start n h (λ e. omega arith) ∙ m.start;
  number = other c_number n h (λ e. omega arith) ∙ m.number;
  link = other c_link n h (λ e. omega arith) ∙ m.link;
  size = other c_length n h (λ e. omega arith) ∙ m.size;
}
  where
    other : (k i : ℕ) → i < rows → k ≢ c_head → col (put tab' c_head b v) k i ≡ col tab' k i
    other k i hi d = col-put-other tab' k i c_head b hi hb (λ e _. d e) v

-- ---- one more row

-- the text of a row that is to be stored
abbrev text_of : List ℕ → TokenRow → List ℕ
text_of s r = take r.length (drop r.start s)

-- r is right as row n
pub record Fits (s tab : List ℕ) (n : ℕ) (r : TokenRow) : Type 0 where
  pub inside : r.start + r.length ≤ length s
  pub link : Link tab n r.link
  pub name : is_name_lem r.kind ≡ true → r.number ≡ first_named (tokens_of s tab n) (text_of s r)
  pub literal : r.kind ≡ k_literal → r.number ≡ decimal 0 (text_of s r)
  pub fixed : r.kind ≡ k_fixed_literal → r.number ≡ thousandths_of_lem (text_of s r)

module _ (s : List ℕ) {tab tab' : List ℕ} {n : ℕ} {r : TokenRow} (m : Becomes tab tab' n r) where
  new-text : text_from s tab' n ≡ text_of s r
  unfolding text_from
  new-text = λ j. take (m.size j) (drop (m.start j) s)

  tokens-more : tokens_of s tab' (n + 1) ≡ tokens_of s tab n ++ ((record { kind = r.kind; start = r.start; text = text_of s r }) ∷ [])
  tokens-more =
      tokens-suc s tab' n
      ∙ (λ j. tokens-kept s m.kept n (omega arith) j ++ ((record { kind = m.kind j; start = m.start j; text = new-text j }) ∷ []))

  numbered-new : Fits s tab n r → Numbered s tab' n
  numbered-new f = record {
    inside = omega (arith, m.start, m.size, f.inside);
    link = subst (Link tab' n) (sym m.link) (link-kept s m.kept (omega arith) f.link);
    name = λ q.
        m.number
        ∙ f.name (sym (ap is_name_lem m.kind) ∙ q)
        ∙ (λ j. first_named (sym (tokens-kept s m.kept n (omega arith)) j) (sym new-text j));
    literal = λ q. m.number ∙ f.literal (sym m.kind ∙ q) ∙ ap (decimal 0) (sym new-text);
    fixed = λ q. m.number ∙ f.fixed (sym m.kind ∙ q) ∙ ap thousandths_of_lem (sym new-text);
  }

  filled_more : n < rows → Fits s tab n r → RowsFilled s tab n → RowsFilled s tab' (n + 1)
  filled_more h f c = record {
    big = omega (arith, m.long, c.big);
    few = omega arith;
    row = λ i hi. elim (dec_lt i n) [
      | yes l ↦ numbered-kept s m.kept i l (c.row i l)
      | no g ↦ let e : n ≡ i = omega arith in subst (Numbered s tab') e (numbered-new f)
    ];
  }

  -- a link among the first rows
  link-more : {x : ℕ} → Link tab n x → Link tab' (n + 1) x
  link-more l = let k = link-kept s m.kept (omega arith) l in record { below = omega (arith, k.below); named = k.named }

bucket-below : (t : List ℕ) (h : ℕ) → h < rows → bucket_from h t < rows
unfolding bucket_from
bucket-below [] h l = l
bucket-below (b ∷ t) h l = bucket-below t ((h * 31 + b) % rows) (omega arith)

-- a name of a row is found from the head of its bucket
abbrev FoundAt : (s tab : List ℕ) (n : ℕ) → List ℕ → Type 0
FoundAt s tab n t = Reaches s tab n t (col tab c_head (bucket_from 0 t))

-- each name is found if those of the first rows still are and the new row's is
found-each : (s : List ℕ) {tab tab' : List ℕ} {n : ℕ} {r : TokenRow} → Chained s tab n → Becomes tab tab' n r
    → ((t : List ℕ) → FoundAt s tab n t → FoundAt s tab' (n + 1) t) → (is_name_lem r.kind ≡ true → FoundAt s tab' (n + 1) (text_of s r))
    → (j : ℕ) → j < n + 1 → is_name_lem (col tab' c_kind j) ≡ true → FoundAt s tab' (n + 1) (text_from s tab' j)
found-each s {tab} {tab'} {n} c m on new j hj q = elim (dec_lt j n) [
  | yes l ↦
      subst (FoundAt s tab' (n + 1)) (sym (text-kept s m.kept j l))
      (on (text_from s tab j) (c.found j l (sym (ap is_name_lem (m.kept.at 0 (λ e. omega arith) j l)) ∙ q)))
  | no g ↦
      let e : j ≡ n = omega arith in
      subst (FoundAt s tab' (n + 1)) (sym (ap (text_from s tab') e ∙ new-text s m))
      (new (sym (ap is_name_lem m.kind) ∙ ap (λ (i : ℕ). is_name_lem (col tab' c_kind i)) (sym e) ∙ q))
]

-- the heads stay: the row is no name, or a name whose text another row has
module _ (s : List ℕ) {tab tab' : List ℕ} {n : ℕ} {r : TokenRow} (c : Chained s tab n) (h : n < rows) (m : Becomes tab tab' n r) (f : Fits s tab n r)
    (heads : (b : ℕ) → b < rows → col tab' c_head b ≡ col tab c_head b) where
  found-kept : {t : List ℕ} → FoundAt s tab n t → FoundAt s tab' (n + 1) t
  found-kept {t} q =
      subst (Reaches s tab' (n + 1) t) (sym (heads (bucket_from 0 t) (bucket-below t 0 (omega arith)))) (reaches-kept s m.kept (omega arith) q)

  pub chained-known : (is_name_lem r.kind ≡ true → FoundAt s tab n (text_of s r)) → Chained s tab' (n + 1)
  chained-known k = record {
    filled = filled_more s m h f c.filled;
    heads = λ b hb. subst (Link tab' (n + 1)) (sym (heads b hb)) (link-more s m (c.heads b hb));
    found = found-each s c m (λ t. found-kept) (λ q. found-kept (k q));
  }

-- the row is the new head of its bucket, and links to the old one
module _ (s : List ℕ) {tab tab₁ : List ℕ} {n : ℕ} {r : TokenRow} (c : Chained s tab n) (h : n < rows) (m₁ : Becomes tab tab₁ n r) (f : Fits s tab n r)
    (heads : (b : ℕ) → b < rows → col tab₁ c_head b ≡ col tab c_head b) (b : ℕ) (is : b ≡ bucket_from 0 (text_of s r)) (named : is_name_lem r.kind ≡ true)
    (old : r.link ≡ col tab c_head b) where
  hb : b < rows
  hb = subst (λ (k : ℕ). k < rows) (sym is) (bucket-below (text_of s r) 0 (omega arith))

  abbrev tab₂ : List ℕ
  tab₂ = put tab₁ c_head b (n + 1)

  m₂ : Becomes tab tab₂ n r
  m₂ = head-becomes b (n + 1) h hb m₁

  top : col tab₂ c_head b ≡ n + 1
  top = col-put-same tab₁ c_head b (n + 1) (omega (arith, m₁.long, c.filled.big, hb))

  other-head : (a : ℕ) → a < rows → a ≢ b → col tab₂ c_head a ≡ col tab c_head a
  other-head a ha d = col-put-other tab₁ c_head a c_head b ha hb (λ _ e. d e) (n + 1) ∙ heads a ha

  found-more : {t : List ℕ} → FoundAt s tab n t → FoundAt s tab₂ (n + 1) t
  found-more {t} q =
      let k : Reaches s tab₂ (n + 1) t (col tab c_head (bucket_from 0 t)) = reaches-kept s m₂.kept (omega arith) q in
      elim (ℕ_discrete (bucket_from 0 t) b) [
        | yes e ↦
            next n (omega arith) (ap (col tab₂ c_head) e ∙ top)
            (subst (Reaches s tab₂ (n + 1) t) (ap (col tab c_head) e ∙ sym old ∙ sym m₂.link) k)
        | no d ↦ subst (Reaches s tab₂ (n + 1) t) (sym (other-head (bucket_from 0 t) (bucket-below t 0 (omega arith)) d)) k
      ]

  new-head : Link tab₂ (n + 1) (n + 1)
  new-head = record {
    below = omega arith;
    named = λ j e. let q : j ≡ n = omega arith in ap (λ (i : ℕ). is_name_lem (col tab₂ c_kind i)) q ∙ ap is_name_lem m₂.kind ∙ named;
  }

  pub chained-new : Chained s tab₂ (n + 1)
  chained-new = record {
    filled = filled_more s m₂ h f c.filled;
    heads = λ a ha. elim (ℕ_discrete a b) [
      | yes e ↦ subst (Link tab₂ (n + 1)) (sym (ap (col tab₂ c_head) e ∙ top)) new-head
      | no d ↦ subst (Link tab₂ (n + 1)) (sym (other-head a ha d)) (link-more s m₂ (c.heads a ha))
    ];
    found = found-each s c m₂ (λ t. found-more) (λ q. here n (omega arith) (ap (col tab₂ c_head) (sym is) ∙ top) (new-text s m₂));
  }

-- ---- the row of a name

-- the chain of a text's bucket has the rows with that text
pub chain-sought : {s tab : List ℕ} {n : ℕ} → Chained s tab n → (b : ℕ) (t : List ℕ) → b ≡ bucket_from 0 t → b < rows
    → Sought s tab n (col tab c_head b) t
chain-sought {s} {tab} {n} c b t e h = record {
  filled = c.filled;
  link = c.heads b h;
  found = λ j l m q.
      subst (Reaches s tab n t) (ap (col tab c_head) (sym e)) (subst (FoundAt s tab n) q (c.found j l m));
}

-- a text that has a number below n is that of a name among the first n rows
known-found : {s tab : List ℕ} {n : ℕ} → Chained s tab n → (t : List ℕ) → first_named (tokens_of s tab n) t ≢ n → FoundAt s tab n t
known-found {s} {tab} {n} c t d =
    let ts = tokens_of s tab n in
    let l : first_named ts t < length ts = omega (arith, first-most ts t, tokens-length s tab n) in
    let w = first-named ts t l in
    let j = first_named ts t in
    let h = row_below s tab n j w.at in
    let e = some-injective (row_token s tab j) w.item (sym (token-at s tab n j h) ∙ w.at) in
    subst (FoundAt s tab n) (ap (λ (u : Token). u.text) e ∙ w.text) (c.found j h (ap (λ (u : Token). is_name_lem u.kind) e ∙ w.named))

no_name : (k q : ℕ) → is_name_lem k ≡ true → is_name_lem q ≡ false → k ≢ q
no_name k q e n z = eqb-false k q (kinds-apart is_name_lem k q e n) z

module _ (s : List ℕ) {tab : List ℕ} {n : ℕ} (r : TokenRow) (c : Chained s tab n) (h : n < rows) (inside : r.start + r.length ≤ length s) where
  becomes : Becomes tab (stored_row tab n r) n r
  becomes = stored-becomes tab n r h c.filled.big

  pub stored-tokens : tokens_of s (stored_row tab n r) (n + 1) ≡ tokens_of s tab n ++ ((record { kind = r.kind; start = r.start; text = text_of s r }) ∷ [])
  stored-tokens = tokens-more s becomes

  no-link : r.link ≡ 0 → Link tab n r.link
  no-link z = record { below = omega arith; named = λ j e. absurd (omega arith) }

  -- a row that is no name
  pub chained-plain : r.link ≡ 0 → is_name_lem r.kind ≡ false → (r.kind ≡ k_literal → r.number ≡ decimal 0 (text_of s r))
      → (r.kind ≡ k_fixed_literal → r.number ≡ thousandths_of_lem (text_of s r)) → Chained s (stored_row tab n r) (n + 1)
  chained-plain z o l x =
      chained-known s c h becomes
      (record { inside = inside; link = no-link z; name = λ q. absurd (never q); literal = l; fixed = x })
      (stored-heads tab n r h)
      (λ q. absurd (never q))
    where
      never : is_name_lem r.kind ≡ true → ⊥
      never q = apart (cc)

  module _ (named : is_name_lem r.kind ≡ true) (number : r.number ≡ first_named (tokens_of s tab n) (text_of s r)) where
    fits : Link tab n r.link → Fits s tab n r
    unfolding is_name_lem
    fits l = record {
      inside = inside;
      link = l;
      name = λ _. number;
      literal = λ q. absurd (no_name r.kind k_literal named refl q);
      fixed = λ q. absurd (no_name r.kind k_fixed_literal named refl q);
    }

    -- a name that an earlier row has
    pub chained-again : r.link ≡ 0 → r.number ≢ n → Chained s (stored_row tab n r) (n + 1)
    chained-again z d =
        chained-known s c h becomes (fits (no-link z)) (stored-heads tab n r h) (λ _. known-found c (text_of s r) (λ q. d (number ∙ q)))

    module _ (b : ℕ) (is : b ≡ bucket_from 0 (text_of s r)) (hb : b < rows) (old : r.link ≡ col tab c_head b) where
      -- a new name
      pub chained-first : Chained s (put (stored_row tab n r) c_head b (n + 1)) (n + 1)
      chained-first =
          chained-new s c h becomes (fits (subst (Link tab n) (sym old) (c.heads b hb))) (stored-heads tab n r h) b is named old

      pub first-tokens : tokens_of s (put (stored_row tab n r) c_head b (n + 1)) (n + 1)
          ≡ tokens_of s tab n ++ ((record { kind = r.kind; start = r.start; text = text_of s r }) ∷ [])
      first-tokens = tokens-more s (head-becomes b (n + 1) h hb becomes)

-- ---- a token from i to e becomes row n

fits-inside : {s tab : List ℕ} {n i e : ℕ} → Adding s tab n i e → i + (e - i) ≤ length s
fits-inside a = omega (arith, a.ordered, a.inside)

module _ {s tab tab' : List ℕ} {n k i e number : ℕ} (a : Adding s tab n i e) (h : n < rows) where
  pub extended-plain : is_name_lem k ≡ false → number ≡ number_beside k (take (e - i) (drop i s))
      → tab' ≡ stored_row tab n (token_row k i e number 0)
      → Extended s tab n k i e tab'
  extended-plain o v q =
      subst (Extended s tab n k i e) (sym q)
      (record {
        chained =
            chained-plain s (token_row k i e number 0) a.chained h (fits-inside a) refl o (λ l. v ∙ literal-number l) (λ l. v ∙ fixed_number l);
        tokens = stored-tokens s (token_row k i e number 0) a.chained h (fits-inside a);
      })
    where
      literal-number : k ≡ k_literal → number_beside k (take (e - i) (drop i s)) ≡ decimal 0 (take (e - i) (drop i s))
      literal-number l = rw (eq-eqb k k_literal l) refl

      fixed_number : k ≡ k_fixed_literal → number_beside k (take (e - i) (drop i s)) ≡ thousandths_of_lem (take (e - i) (drop i s))
      fixed_number l = rw l refl

  module _ (named : is_name_lem k ≡ true) (right : number ≡ first_named (tokens_of s tab n) (take (e - i) (drop i s))) where
    pub extended-again : number ≢ n → tab' ≡ stored_row tab n (token_row k i e number 0) → Extended s tab n k i e tab'
    extended-again d q =
        subst (Extended s tab n k i e) (sym q)
        (record {
          chained = chained-again s (token_row k i e number 0) a.chained h (fits-inside a) named right refl d;
          tokens = stored-tokens s (token_row k i e number 0) a.chained h (fits-inside a);
        })

    pub extended-first : {b head : ℕ} → b ≡ bucket_from 0 (take (e - i) (drop i s)) → b < rows → head ≡ col tab c_head b
        → tab' ≡ stored_row tab n (token_row k i e number head) → Extended s tab n k i e (put tab' c_head b (n + 1))
    extended-first {b} {head} is hb old q =
        subst (λ (t : List ℕ). Extended s tab n k i e (put t c_head b (n + 1))) (sym q)
        (record {
          chained = chained-first s (token_row k i e number head) a.chained h (fits-inside a) named right b is hb old;
          tokens = first-tokens s (token_row k i e number head) a.chained h (fits-inside a) named right b is hb old;
        })
