-- What follows a tree's tokens is appended to them, and a text is that of its pieces.
use Rattle.std.specs.Prelude.{◌≡◌, refl, List, [], ◌∷◌, ◌++◌, Bool, true, false}
use Rattle.std.proofs.Common.{sym, ap, ◌∙◌, append_assoc}
use Rattle.lexer.specs.Kinds.{k_comma, k_close, k_else, k_assign, k_semicolon, k_close_bracket, k_open_bracket, k_close_brace, k_dot, k_length, k_open}
use Rattle.parser.specs.Tree.{Sort, Part}
use Rattle.parser.specs.Tree.{Part.literal, Part.truth, Part.variable, Part.this, Part.new_array_lem, Part.new_object_lem, Part.negation, Part.binary}
use Rattle.parser.specs.Tree.{Part.element, Part.array_length, Part.call, Part.port_get_lem, Part.no_arguments, Part.argument}
use Rattle.parser.specs.Tree.{Part.block, Part.conditional, Part.loop, Part.print, Part.assign, Part.assign_element_lem, Part.port_put_lem}
use Rattle.parser.specs.Tree.{Part.no_statements, Part.sequence}
use Rattle.parser.specs.Grammar.{Kind}
use Rattle.printing.specs.Printed.{Lexeme, spelt, name_token, left_of, right_of, under_not, before_index, before_length, before_call, kind_of}
use Rattle.printing.specs.Printed.{own, reaches, bracketed, bare, print_in, separator, render}

pair-append : (b : Bool) (f : List Lexeme → List Lexeme) → ((x y : List Lexeme) → f (x ++ y) ≡ f x ++ y) → (x y : List Lexeme)
    → bracketed b f (x ++ y) ≡ bracketed b f x ++ y
pair-append true f h x y = h x y
pair-append false f h x y = ap (λ (l : List Lexeme). spelt k_open ∷ l) (h (spelt k_close ∷ x) y)

pub bare-append : {s : Sort} (t : Part s) (x y : List Lexeme) → bare t (x ++ y) ≡ bare t x ++ y
unfolding bare
bare-append (literal p n) x y = refl
bare-append (truth p true) x y = refl
bare-append (truth p false) x y = refl
bare-append (variable p v) x y = refl
bare-append (this p) x y = refl
bare-append (new_array_lem p u e) x y = rw (bare-append e (spelt k_close_bracket ∷ x) y)
bare-append (new_object_lem p c) x y = refl
bare-append (negation p e) x y = rw (pair-append (reaches under_not (own e)) (λ r. bare e r) (bare-append e) x y)
bare-append (binary p o l r) x y =
    let f = reaches (right_of o) (own r) in
    rw (pair-append f (λ x. bare r x) (bare-append r) x y)
    (pair-append (reaches (left_of o) (own l)) (λ x. bare l x) (bare-append l) (spelt (kind_of o) ∷ bracketed f (λ x. bare r x) x) y)
bare-append (element p a i) x y =
    rw (bare-append i (spelt k_close_bracket ∷ x) y)
    (pair-append (reaches before_index (own a)) (λ r. bare a r) (bare-append a) (spelt k_open_bracket ∷ bare i (spelt k_close_bracket ∷ x)) y)
bare-append (array_length p a) x y =
    pair-append (reaches before_length (own a)) (λ r. bare a r) (bare-append a) (spelt k_dot ∷ spelt k_length ∷ x) y
bare-append (call p e m es) x y =
    rw (bare-append es (spelt k_close ∷ x) y)
    (pair-append (reaches before_call (own e)) (λ r. bare e r) (bare-append e)
    (spelt k_dot ∷ name_token m.text ∷ spelt k_open ∷ bare es (spelt k_close ∷ x)) y)
bare-append (port_get_lem p e) x y = rw (bare-append e (spelt k_close ∷ x) y)
bare-append no_arguments x y = refl
bare-append (argument e no_arguments) x y = bare-append e x y
bare-append (argument e (argument a es)) x y =
    rw (bare-append (argument a es) x y) (bare-append e (spelt k_comma ∷ bare (argument a es) x) y)
bare-append (block p ss) x y = rw (bare-append ss (spelt k_close_brace ∷ x) y)
bare-append (conditional p e s t) x y =
    rw (bare-append t x y, bare-append s (spelt k_else ∷ bare t x) y, bare-append e (spelt k_close ∷ bare s (spelt k_else ∷ bare t x)) y)
bare-append (loop p e s) x y = rw (bare-append s x y, bare-append e (spelt k_close ∷ bare s x) y)
bare-append (print p e) x y = rw (bare-append e (spelt k_close ∷ spelt k_semicolon ∷ x) y)
bare-append (assign p v e) x y = rw (bare-append e (spelt k_semicolon ∷ x) y)
bare-append (assign_element_lem p v i e) x y =
    rw (bare-append e (spelt k_semicolon ∷ x) y, bare-append i (spelt k_close_bracket ∷ spelt k_assign ∷ bare e (spelt k_semicolon ∷ x)) y)
bare-append (port_put_lem p n e) x y =
    rw (
      bare-append e (spelt k_close ∷ spelt k_semicolon ∷ x) y,
      bare-append n (spelt k_comma ∷ bare e (spelt k_close ∷ spelt k_semicolon ∷ x)) y,
    )
bare-append no_statements x y = refl
bare-append (sequence s ss) x y = rw (bare-append ss x y, bare-append s (bare ss x) y)

-- in a place that wants class k
pub placed-append : {s : Sort} (k : Kind s) (t : Part s) (x y : List Lexeme) → print_in k t (x ++ y) ≡ print_in k t x ++ y
placed-append k t x y = pair-append (reaches k (own t)) (λ r. bare t r) (bare-append t) x y

pub render-append : (x y : List Lexeme) → render (x ++ y) ≡ render x ++ render y
unfolding render
render-append [] y = refl
render-append (l ∷ ls) y = rw (render-append ls y) (sym (append_assoc l.text (separator l.kind ∷ render ls) (render y)))
