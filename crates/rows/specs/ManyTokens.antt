-- A row for refusal 15 of Read. Two thousand tokens are too many to be read by computation in a moment, so each `;` is passed by the same
-- law, and only what follows them is computed.
use Rattle.std.specs.Prelude.{ℕ, zero, suc, ◌+◌, ◌≤◌, ◌<◌, ◌≡◌, refl, List, [], ◌∷◌, ◌++◌, length, replicate, drop}
use Rattle.std.proofs.Common.{sym, ap, ◌∙◌, arith, zero-add, add-zero, suc-add, length-drop, drop-drop, lit≤, ne_eqb}
use Rattle.std.proofs.lemmas.Bool.{lt-leb}
use Rattle.base.specs.Codes.{tokens_most}
use Rattle.base.specs.Outcome.{refused}
use Rattle.lexer.specs.Bytes.{b_small_a, b_semicolon}
use Rattle.lexer.specs.Kinds.{k_semicolon}
use Rattle.lexer.specs.Tokens.{token, item, tokens_from, tokens}
use Rattle.parser.specs.Read.{read_answer, read}
use Rattle.reader.specs.laws.ReadingLaws.{not-lexed}
use Rattle.semantics.specs.Ends.{end_of}

-- a `;` is a token, whatever follows
semicolon : (i : ℕ) (r : List ℕ) → item i (b_semicolon ∷ r) ≡ token k_semicolon (b_semicolon ∷ [])
unfolding end_of
semicolon i [] = refl
semicolon i (c ∷ r) = refl

-- it is passed, where fewer than 2,048 tokens stand before it
pass-one : (f : ℕ) (s r : List ℕ) (i : ℕ) {n q : ℕ} → drop i s ≡ b_semicolon ∷ r → i < tokens_most
    → tokens_from f s (i + 1) (i + 1) ≡ refused n q → tokens_from (suc f) s i i ≡ refused n q
unfolding end_of
pass-one f s r i d l e =
    rw (lt-leb (length s) i (omega (arith, length-drop i s, ap length d)), d, semicolon i r, ne_eqb i tokens_most (omega arith), e) refl

-- so are k of them
pass : (k f : ℕ) (s rest : List ℕ) (i : ℕ) {n q : ℕ} → drop i s ≡ replicate k b_semicolon ++ rest → i + k ≤ tokens_most
    → tokens_from f s (i + k) (i + k) ≡ refused n q → tokens_from (k + f) s i i ≡ refused n q
pass zero f s rest i d l e = rw (zero-add f) (rw add-zero at e)
pass (suc k) f s rest i d l e =
    let after : drop (i + 1) s ≡ replicate k b_semicolon ++ rest = sym (drop-drop 1 i s) ∙ ap (drop 1) d in
    let sum : i + suc k ≡ i + 1 + k = omega arith in
    rw (suc-add k f)
    (pass-one (k + f) s (replicate k b_semicolon ++ rest) i d (omega arith) (pass k f s rest (i + 1) after (omega arith) (rw sum at e)))

-- 2,048 of them, then an identifier of 256 bytes
abbrev pub many : List ℕ
many = replicate 2048 b_semicolon ++ replicate 256 b_small_a

last : tokens_from 257 many 2048 2048 ≡ refused 15 2048
unfolding end_of
last = refl

lexed : tokens many ≡ refused 15 2048
unfolding tokens
lexed = pass 2048 257 many (replicate 256 b_small_a) 0 refl (lit≤ tt) last

-- the 2,049th token is refused, and 15 is tested before 13
pub too_many : read many 16384 ≡ record { number = 15; position = 2048; tokens = 0; nodes = 0 }
unfolding read
too_many = ap read_answer (not-lexed many (lit≤ tt) lexed)
