-- Whether a node is too deep does not depend on positions.
use Rattle.std.specs.Prelude.{ℕ, ◌+◌, ◌≡◌, refl, List, [], ◌∷◌, Bool, true, false, ◌&&◌, not, ltb}
use Rattle.std.proofs.Common.{sym, ap, ◌∙◌}
use Rattle.std.proofs.Math.Option.{Option, none, some}
use Rattle.base.specs.Choice.{if◌then◌otherwise◌}
use Rattle.base.specs.Codes.{depth_most}
use Rattle.base.specs.laws.Tests.{apart}
use Rattle.parser.specs.Tree.{Place, Sort, Part, Method, Class, Program}
use Rattle.parser.specs.Tree.{Part.literal, Part.truth, Part.variable, Part.this, Part.new_array_lem, Part.new_object_lem, Part.negation, Part.binary}
use Rattle.parser.specs.Tree.{Part.element, Part.array_length, Part.call, Part.port_get_lem, Part.no_arguments, Part.argument}
use Rattle.parser.specs.Tree.{Part.block, Part.conditional, Part.loop, Part.print, Part.assign, Part.assign_element_lem, Part.port_put_lem}
use Rattle.parser.specs.Tree.{Part.no_statements, Part.sequence}
use Rattle.parser.specs.Measure.{least, deep_here, deep, methods_deep, classes_deep, program_deep}
use Rattle.printing.specs.Same.{erase, erase_methods, erase_classes, erase_program, SameProgram}

abbrev free : Option ℕ → Bool
free none = true
free (some p) = false

free-least : (a b : Option ℕ) → free (least a b) ≡ (free a && free b)
free-least none b = refl
free-least (some a) none = refl
free-least (some a) (some b) = refl

free-here : (d : ℕ) (p : Place) → free (deep_here d p) ≡ not (ltb depth_most d)
free-here d p = go (ltb depth_most d)
  where
    go : (b : Bool) → free (if b then (λ _. some p.start) otherwise λ _. none) ≡ not b
    go true = refl
    go false = refl

deep-erase : (d : ℕ) {s : Sort} (t : Part s) → free (deep d (erase t)) ≡ free (deep d t)
unfolding deep erase
deep-erase d (literal p n) = simp free-here
deep-erase d (truth p b) = simp free-here
deep-erase d (variable p x) = simp free-here
deep-erase d (this p) = simp free-here
deep-erase d (new_array_lem p u e) = simp (free-least, free-here, deep-erase (d + 1) e)
deep-erase d (new_object_lem p c) = simp free-here
deep-erase d (negation p e) = simp (free-least, free-here, deep-erase (d + 1) e)
deep-erase d (binary p o l r) = simp (free-least, free-here, deep-erase (d + 1) l, deep-erase (d + 1) r)
deep-erase d (element p a i) = simp (free-least, free-here, deep-erase (d + 1) a, deep-erase (d + 1) i)
deep-erase d (array_length p a) = simp (free-least, free-here, deep-erase (d + 1) a)
deep-erase d (call p e m es) = simp (free-least, free-here, deep-erase (d + 1) e, deep-erase (d + 1) es)
deep-erase d (port_get_lem p e) = simp (free-least, free-here, deep-erase (d + 1) e)
deep-erase d no_arguments = refl
deep-erase d (argument e es) = simp (free-least, deep-erase d e, deep-erase d es)
deep-erase d (block p ss) = simp (free-least, free-here, deep-erase (d + 1) ss)
deep-erase d (conditional p e s t) = simp (free-least, free-here, deep-erase (d + 1) e, deep-erase (d + 1) s, deep-erase (d + 1) t)
deep-erase d (loop p e s) = simp (free-least, free-here, deep-erase (d + 1) e, deep-erase (d + 1) s)
deep-erase d (print p e) = simp (free-least, free-here, deep-erase (d + 1) e)
deep-erase d (assign p x e) = simp (free-least, free-here, deep-erase (d + 1) e)
deep-erase d (assign_element_lem p x i e) = simp (free-least, free-here, deep-erase (d + 1) i, deep-erase (d + 1) e)
deep-erase d (port_put_lem p n e) = simp (free-least, free-here, deep-erase (d + 1) n, deep-erase (d + 1) e)
deep-erase d no_statements = refl
deep-erase d (sequence s ss) = simp (free-least, deep-erase d s, deep-erase d ss)

methods-deep : (ms : List Method) → free (methods_deep (erase_methods ms)) ≡ free (methods_deep ms)
unfolding methods_deep erase_methods
methods-deep [] = refl
methods-deep (m ∷ ms) = simp (free-least, deep-erase, methods-deep ms)

classes-deep : (cs : List Class) → free (classes_deep (erase_classes cs)) ≡ free (classes_deep cs)
unfolding classes_deep erase_classes
classes-deep [] = refl
classes-deep (c ∷ cs) = simp (free-least, methods-deep, classes-deep cs)

program-deep : (p : Program) → free (program_deep (erase_program p)) ≡ free (program_deep p)
unfolding program_deep erase_program
program-deep p = simp (free-least, deep-erase, classes-deep)

is_none : (o : Option ℕ) → free o ≡ true → o ≡ none
is_none none e = refl
is_none (some p) e = apart (cc)

-- Trees that are equal up to positions are too deep together.
pub same-depth : (p q : Program) → SameProgram p q → program_deep p ≡ none → program_deep q ≡ none
same-depth p q s e =
    is_none (program_deep q) (sym (program-deep q) ∙ ap (λ (x : Program). free (program_deep x)) (sym s) ∙ program-deep p ∙ ap free e)
