-- The tokens with one spelling: the lexer takes each of them, and a token of a source that has such a kind is spelt so.
use Rattle.std.specs.Prelude.{ℕ, ◌<◌, ◌≡◌, refl, List, [], ◌∷◌, ◌++◌, Bool, true, false, ◌&&◌, ◌||◌, eqb, length, get_or}
use Rattle.std.proofs.Common.{sym, ap, ◌∙◌, subst, arith, eqb-true, lit<}
use Rattle.std.proofs.lemmas.Bool.{false≢true}
use Rattle.base.specs.All.{All, all_nil, all_cons}
use Rattle.base.specs.Bytes.{same}
use Rattle.base.specs.Choice.{if◌then◌otherwise◌}
use Rattle.base.specs.laws.Tests.{apart, and-true, or-neither, same-equal}
use Rattle.lexer.specs.Bytes.{b_less, b_plus, b_minus, b_star, b_exclamation, b_equals, b_dot, b_comma, b_semicolon, b_open, b_close, b_open_bracket}
use Rattle.lexer.specs.Bytes.{b_close_bracket, b_open_brace, b_close_brace, is_blank, is_letter, is_digit_lem, is_name_part_lem}
use Rattle.lexer.specs.Kinds.{Word, words, word_kind_lem, kind_in, mark_kind_lem, is_name_lem, k_end, k_name, k_out, k_println, k_get, k_put, k_literal}
use Rattle.lexer.specs.Kinds.{k_fixed_literal}
use Rattle.lexer.specs.Kinds.{k_boolean, k_class, k_else, k_extends, k_false, k_fixed, k_if, k_int, k_length, k_main, k_new, k_port, k_public, k_return}
use Rattle.lexer.specs.Kinds.{k_static, k_string, k_system, k_this, k_true, k_void, k_while, k_and, k_less, k_plus, k_minus, k_times, k_not, k_assign}
use Rattle.lexer.specs.Kinds.{k_dot}
use Rattle.lexer.specs.Kinds.{k_comma, k_semicolon, k_open, k_close, k_open_bracket, k_close_bracket, k_open_brace, k_close_brace}
use Rattle.lexer.specs.Tokens.{longest_run, token, item, exceeds_length, zero_first, not_three, too_large}
use Rattle.lexer.proofs.laws.ItemLaws.{TokenForm, a_word, a-literal, a-fixed-literal, an-and, a-mark}
use Rattle.typing.specs.laws.Choices.{taken}
use Rattle.printing.specs.Printed.{Lexeme, marks, spelling, spelt, separator}
use Rattle.printing.proofs.laws.Lexing.{Taken}

-- THE LEXER TAKES THEM

-- the kinds with one spelling
abbrev pub spelled : List ℕ
spelled =
    k_out ∷ k_println ∷ k_get ∷ k_put ∷ k_boolean ∷ k_class ∷ k_else ∷ k_extends ∷ k_false ∷ k_fixed ∷ k_if ∷ k_int ∷ k_length ∷ k_main ∷ k_new ∷ k_port ∷
    k_public ∷ k_return ∷ k_static ∷ k_string ∷ k_system ∷ k_this ∷ k_true ∷ k_void ∷ k_while ∷ k_and ∷ k_less ∷ k_plus ∷ k_minus ∷ k_times ∷ k_not ∷
    k_assign ∷ k_dot ∷ k_comma ∷ k_semicolon ∷ k_open ∷ k_close ∷ k_open_bracket ∷ k_close_bracket ∷ k_open_brace ∷ k_close_brace ∷ []

abbrev pub listed : ℕ → List ℕ → Bool
listed k [] = false
listed k (q ∷ qs) = eqb q k || listed k qs

-- no fault of its text
abbrev faulty : ℕ → List ℕ → Bool
faulty k t = exceeds_length k t || (zero_first k t || (not_three k t || too_large k t))

takes : {k : ℕ} → 0 < length (spelling k) → ((i : ℕ) (r : List ℕ) → item i (spelling k ++ separator k ∷ r) ≡ token k (spelling k))
    → faulty k (spelling k) ≡ false → Taken (spelt k)
takes {k} l e f =
    let t = spelling k in
    let a = or-neither (exceeds_length k t) (zero_first k t || (not_three k t || too_large k t)) f in
    let b = or-neither (zero_first k t) (not_three k t || too_large k t) a.1 in
    let c = or-neither (not_three k t) (too_large k t) b.1 in
    record { nonempty = l; reads = e; not-long = a.0; no_zero = b.0; three = c.0; small = c.1 }

all-spelled : All (λ k. Taken (spelt k)) spelled
unfolding spelling words marks separator item longest_run is_blank is_letter is_digit_lem is_name_part_lem word_kind_lem mark_kind_lem is_name_lem
all-spelled =
    all_cons (takes (lit< tt) (λ i r. refl) refl) (all_cons (takes (lit< tt) (λ i r. refl) refl)
    (all_cons (takes (lit< tt) (λ i r. refl) refl) (all_cons (takes (lit< tt) (λ i r. refl) refl)
    (all_cons (takes (lit< tt) (λ i r. refl) refl) (all_cons (takes (lit< tt) (λ i r. refl) refl)
    (all_cons (takes (lit< tt) (λ i r. refl) refl) (all_cons (takes (lit< tt) (λ i r. refl) refl)
    (all_cons (takes (lit< tt) (λ i r. refl) refl) (all_cons (takes (lit< tt) (λ i r. refl) refl)
    (all_cons (takes (lit< tt) (λ i r. refl) refl) (all_cons (takes (lit< tt) (λ i r. refl) refl)
    (all_cons (takes (lit< tt) (λ i r. refl) refl) (all_cons (takes (lit< tt) (λ i r. refl) refl)
    (all_cons (takes (lit< tt) (λ i r. refl) refl) (all_cons (takes (lit< tt) (λ i r. refl) refl)
    (all_cons (takes (lit< tt) (λ i r. refl) refl) (all_cons (takes (lit< tt) (λ i r. refl) refl)
    (all_cons (takes (lit< tt) (λ i r. refl) refl) (all_cons (takes (lit< tt) (λ i r. refl) refl)
    (all_cons (takes (lit< tt) (λ i r. refl) refl) (all_cons (takes (lit< tt) (λ i r. refl) refl)
    (all_cons (takes (lit< tt) (λ i r. refl) refl) (all_cons (takes (lit< tt) (λ i r. refl) refl)
    (all_cons (takes (lit< tt) (λ i r. refl) refl) (all_cons (takes (lit< tt) (λ i r. refl) refl)
    (all_cons (takes (lit< tt) (λ i r. refl) refl) (all_cons (takes (lit< tt) (λ i r. refl) refl)
    (all_cons (takes (lit< tt) (λ i r. refl) refl) (all_cons (takes (lit< tt) (λ i r. refl) refl)
    (all_cons (takes (lit< tt) (λ i r. refl) refl) (all_cons (takes (lit< tt) (λ i r. refl) refl)
    (all_cons (takes (lit< tt) (λ i r. refl) refl) (all_cons (takes (lit< tt) (λ i r. refl) refl)
    (all_cons (takes (lit< tt) (λ i r. refl) refl) (all_cons (takes (lit< tt) (λ i r. refl) refl)
    (all_cons (takes (lit< tt) (λ i r. refl) refl) (all_cons (takes (lit< tt) (λ i r. refl) refl)
    (all_cons (takes (lit< tt) (λ i r. refl) refl) (all_cons (takes (lit< tt) (λ i r. refl) refl)
    (all_cons (takes (lit< tt) (λ i r. refl) refl) all_nil))))))))))))))))))))))))))))))))))))))))

of-among : {P : ℕ → Type 0} (k : ℕ) {ks : List ℕ} → All P ks → listed k ks ≡ true → P k
of-among k all_nil e = apart (cc)
of-among {P} k (all_cons {x = q} {l = ks} p h) e = go (eqb q k) refl e (of-among k h)
  where
    go : (b : Bool) → eqb q k ≡ b → (b || listed k ks) ≡ true → (listed k ks ≡ true → P k) → P k
    go true d e f = subst P (eqb-true q k d) p
    go false d e f = f e

pub spelled-taken : (k : ℕ) → listed k spelled ≡ true → Taken (spelt k)
spelled-taken k e = of-among k all-spelled e

-- HOW A TOKEN OF SUCH A KIND IS SPELT

-- one test of the whole table: the spelling of a word's kind is the word
abbrev words_spelt : List Word → Bool
words_spelt [] = true
words_spelt (w ∷ ws) = same (spelling w.kind) w.text && words_spelt ws

word-spelt : (ws : List Word) (t : List ℕ) (k : ℕ) → words_spelt ws ≡ true → kind_in ws t ≡ k → listed k spelled ≡ true → spelling k ≡ t
word-spelt [] t k h e m = absurd (false≢true (ap (λ (q : ℕ). listed q spelled) e ∙ m))
word-spelt (w ∷ ws) t k h e m =
    let p = and-true (same (spelling w.kind) w.text) (words_spelt ws) h in
    taken (same w.text t) (λ _. w.kind) (λ _. kind_in ws t) e
    (λ b q. ap spelling (sym q) ∙ same-equal (spelling w.kind) w.text p.0 ∙ same-equal w.text t b)
    (λ b q. word-spelt ws t k p.1 q m)

mark-spelt : (b k : ℕ) → mark_kind_lem b ≡ k → listed k spelled ≡ true → spelling k ≡ b ∷ []
unfolding mark_kind_lem spelling words marks
mark-spelt b k e m =
    taken (eqb b b_less) (λ _. k_less) _ e (hit b_less k_less refl) λ _ q.
    taken (eqb b b_plus) (λ _. k_plus) _ q (hit b_plus k_plus refl) λ _ q.
    taken (eqb b b_minus) (λ _. k_minus) _ q (hit b_minus k_minus refl) λ _ q.
    taken (eqb b b_star) (λ _. k_times) _ q (hit b_star k_times refl) λ _ q.
    taken (eqb b b_exclamation) (λ _. k_not) _ q (hit b_exclamation k_not refl) λ _ q.
    taken (eqb b b_equals) (λ _. k_assign) _ q (hit b_equals k_assign refl) λ _ q.
    taken (eqb b b_dot) (λ _. k_dot) _ q (hit b_dot k_dot refl) λ _ q.
    taken (eqb b b_comma) (λ _. k_comma) _ q (hit b_comma k_comma refl) λ _ q.
    taken (eqb b b_semicolon) (λ _. k_semicolon) _ q (hit b_semicolon k_semicolon refl) λ _ q.
    taken (eqb b b_open) (λ _. k_open) _ q (hit b_open k_open refl) λ _ q.
    taken (eqb b b_close) (λ _. k_close) _ q (hit b_close k_close refl) λ _ q.
    taken (eqb b b_open_bracket) (λ _. k_open_bracket) _ q (hit b_open_bracket k_open_bracket refl) λ _ q.
    taken (eqb b b_close_bracket) (λ _. k_close_bracket) _ q (hit b_close_bracket k_close_bracket refl) λ _ q.
    taken (eqb b b_open_brace) (λ _. k_open_brace) _ q (hit b_open_brace k_open_brace refl) λ _ q.
    taken (eqb b b_close_brace) (λ _. k_close_brace) _ q (hit b_close_brace k_close_brace refl) λ _ q.
    absurd (false≢true (ap (λ (q : ℕ). listed q spelled) q ∙ m))
  where
    hit : (c q : ℕ) → spelling q ≡ c ∷ [] → eqb b c ≡ true → q ≡ k → spelling k ≡ b ∷ []
    hit c q s d z = ap spelling (sym z) ∙ s ∙ ap (λ (x : ℕ). x ∷ []) (sym (eqb-true b c d))

pub spelled-text : {k : ℕ} {t : List ℕ} → TokenForm k t → listed k spelled ≡ true → spelling k ≡ t
unfolding word_kind_lem spelling words marks
spelled-text {k} {t} (a_word l e) m = word-spelt words t k refl e m
spelled-text a-literal m = absurd (false≢true m)
spelled-text a-fixed-literal m = absurd (false≢true m)
spelled-text an-and m = refl
spelled-text {k} (a-mark {b = b} e) m = mark-spelt b k e m
