-- What a tree is printed as does not depend on positions.
use Rattle.std.specs.Prelude.{ℕ, ◌≡◌, refl, List, [], ◌∷◌, true, false}
use Rattle.std.proofs.Common.{sym, ap, ◌∙◌}
use Rattle.std.proofs.Math.Option.{Option, none, some}
use Rattle.parser.specs.Tree.{Name, Sort, Part, Variable, Method, Class, Program}
use Rattle.parser.specs.Tree.{Part.literal, Part.truth, Part.variable, Part.this, Part.new_array_lem, Part.new_object_lem, Part.negation, Part.binary}
use Rattle.parser.specs.Tree.{Part.element, Part.array_length, Part.call, Part.port_get_lem, Part.no_arguments, Part.argument}
use Rattle.parser.specs.Tree.{Part.block, Part.conditional, Part.loop, Part.print, Part.assign, Part.assign_element_lem, Part.port_put_lem}
use Rattle.parser.specs.Tree.{Part.no_statements, Part.sequence}
use Rattle.printing.specs.Printed.{Lexeme, own, bare, declarations_tokens, parameters_tokens, methods_tokens, parent_tokens}
use Rattle.printing.specs.Printed.{classes_tokens, program_tokens, render, text}
use Rattle.printing.specs.Same.{erase, erase_variables, erase_methods, erase_parent, erase_classes, erase_program, SameProgram}

own-erase : {s : Sort} (t : Part s) → own (erase t) ≡ own t
unfolding erase
own-erase (literal p n) = refl
own-erase (truth p b) = refl
own-erase (variable p x) = refl
own-erase (this p) = refl
own-erase (new_array_lem p u e) = refl
own-erase (new_object_lem p c) = refl
own-erase (negation p e) = refl
own-erase (binary p o l r) = refl
own-erase (element p a i) = refl
own-erase (array_length p a) = refl
own-erase (call p e m es) = refl
own-erase (port_get_lem p e) = refl
own-erase no_arguments = refl
own-erase (argument e es) = refl
own-erase (block p ss) = refl
own-erase (conditional p e s t) = refl
own-erase (loop p e s) = refl
own-erase (print p e) = refl
own-erase (assign p x e) = refl
own-erase (assign_element_lem p x i e) = refl
own-erase (port_put_lem p n e) = refl
own-erase no_statements = refl
own-erase (sequence s ss) = refl

pub bare-erase : {s : Sort} (t : Part s) (rest : List Lexeme) → bare (erase t) rest ≡ bare t rest
unfolding bare erase
bare-erase (literal p n) rest = refl
bare-erase (truth p true) rest = refl
bare-erase (truth p false) rest = refl
bare-erase (variable p x) rest = refl
bare-erase (this p) rest = refl
bare-erase (new_array_lem p u e) rest = simp (bare-erase e)
bare-erase (new_object_lem p c) rest = refl
bare-erase (negation p e) rest = simp (bare-erase e, own-erase e)
bare-erase (binary p o l r) rest = simp (bare-erase l, own-erase l, bare-erase r, own-erase r)
bare-erase (element p a i) rest = simp (bare-erase a, own-erase a, bare-erase i)
bare-erase (array_length p a) rest = simp (bare-erase a, own-erase a)
bare-erase (call p e m es) rest = simp (bare-erase e, own-erase e, bare-erase es)
bare-erase (port_get_lem p e) rest = simp (bare-erase e)
bare-erase no_arguments rest = refl
bare-erase (argument e no_arguments) rest = simp (bare-erase e)
bare-erase (argument e (argument x xs)) rest = simp (bare-erase e, bare-erase (argument x xs))
bare-erase (block p ss) rest = simp (bare-erase ss)
bare-erase (conditional p e s t) rest = simp (bare-erase e, bare-erase s, bare-erase t)
bare-erase (loop p e s) rest = simp (bare-erase e, bare-erase s)
bare-erase (print p e) rest = simp (bare-erase e)
bare-erase (assign p x e) rest = simp (bare-erase e)
bare-erase (assign_element_lem p x i e) rest = simp (bare-erase i, bare-erase e)
bare-erase (port_put_lem p n e) rest = simp (bare-erase n, bare-erase e)
bare-erase no_statements rest = refl
bare-erase (sequence s ss) rest = simp (bare-erase s, bare-erase ss)

variables-erase : (vs : List Variable) (rest : List Lexeme) → declarations_tokens (erase_variables vs) rest ≡ declarations_tokens vs rest
unfolding declarations_tokens erase_variables
variables-erase [] rest = refl
variables-erase (v ∷ vs) rest = simp (variables-erase vs)

parameters-erase : (vs : List Variable) (rest : List Lexeme) → parameters_tokens (erase_variables vs) rest ≡ parameters_tokens vs rest
unfolding parameters_tokens erase_variables
parameters-erase [] rest = refl
parameters-erase (v ∷ []) rest = refl
parameters-erase (v ∷ w ∷ vs) rest = simp (parameters-erase (w ∷ vs))

methods-erase : (ms : List Method) (rest : List Lexeme) → methods_tokens (erase_methods ms) rest ≡ methods_tokens ms rest
unfolding methods_tokens erase_methods
methods-erase [] rest = refl
methods-erase (m ∷ ms) rest = simp (methods-erase ms, parameters-erase, variables-erase, bare-erase)

parent-erase : (o : Option Name) (rest : List Lexeme) → parent_tokens (erase_parent o) rest ≡ parent_tokens o rest
parent-erase none rest = refl
parent-erase (some n) rest = refl

classes-erase : (cs : List Class) (rest : List Lexeme) → classes_tokens (erase_classes cs) rest ≡ classes_tokens cs rest
unfolding classes_tokens erase_classes
classes-erase [] rest = refl
classes-erase (c ∷ cs) rest = simp (classes-erase cs, parent-erase, methods-erase, variables-erase)

pub printed-erase : (p : Program) → program_tokens (erase_program p) ≡ program_tokens p
unfolding program_tokens erase_program
printed-erase p = simp (bare-erase, classes-erase)

-- Trees that are equal but for positions have the same tokens, and the same text.
pub same-printed : (p q : Program) → SameProgram p q → program_tokens p ≡ program_tokens q
same-printed p q e = sym (printed-erase p) ∙ ap program_tokens e ∙ printed-erase q

pub same_text : (p q : Program) → SameProgram p q → text p ≡ text q
unfolding text
same_text p q e = ap render (same-printed p q e)
