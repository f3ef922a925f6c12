-- Rows of our own for document 02, (xi): lessons that end alike alone and with bytes behind them, and how many classes are then read. The
-- ends are worked out by hand.
use Rattle.std.specs.Prelude.{ℕ, ◌≡◌, refl, List, [], ◌∷◌, ◌++◌, map, length, pos}
use Rattle.base.specs.Bytes.{bytes}
use Rattle.base.specs.Outcome.{Outcome, accepted, refused}
use Rattle.parser.specs.Tree.{Program}
use Rattle.typesystem.specs.Check.{checking}
use Rattle.semantics.specs.Limits.{Limits}
use Rattle.semantics.specs.Ends.{End, end_of, ends, limits, usual, printing}

-- a lesson, what is appended, and how both end
pub record AppendedRow : Type 0 where
  pub lesson : List ℕ
  pub more : List ℕ
  pub limits : Limits
  pub end : End

abbrev pub appending : (lesson more : List ℕ) → Limits → End → AppendedRow
appending s t L e = record { lesson = s; more = t; limits = L; end = e }

-- main prints what m returns; 112 bytes
abbrev pub single_class : List ℕ
single_class = printing (bytes "new A().m()") ++ bytes "class A{public int m(){return 1;}}"

-- the method of a null field is called, at position 112
abbrev pub null_call : List ℕ
null_call = printing (bytes "new A().m()") ++ bytes "class A{A n;public int m(){return n.m();}}"

abbrev pub appended_rows : List AppendedRow
appended_rows =
    -- a class that nothing names
    appending (printing (bytes "1+2")) (bytes "class B{}") usual (ends 0 0 4 0 0 (pos 3 ∷ [])) ∷
    -- one that extends a class of the lesson and has its method again, but of which no object is made; a field that hides one
    appending single_class (bytes "class B extends A{public int m(){return 2;}}") usual (ends 0 0 4 1 1 (pos 1 ∷ [])) ∷
    appending null_call (bytes "class B extends A{A n;} class C extends B{public int m(){return 3;}}") usual (ends 40 112 5 1 2 []) ∷
    -- a run that the budget stops
    appending single_class (bytes "class B extends A{}") (limits 3 64) (ends 50 108 3 1 1 []) ∷
    -- a comment at the lesson's end that swallows what is appended
    appending (single_class ++ bytes "//") (bytes "class A{public int m(){return 2;}}") usual (ends 0 0 4 1 1 (pos 1 ∷ [])) ∷
    []

pub alone : map (λ (r : AppendedRow). end_of r.lesson r.limits) appended_rows ≡ map (λ (r : AppendedRow). r.end) appended_rows
unfolding end_of
alone = refl

pub with-more : map (λ (r : AppendedRow). end_of (r.lesson ++ r.more) r.limits) appended_rows
    ≡ map (λ (r : AppendedRow). r.end) appended_rows
unfolding end_of
with-more = refl

-- the number of classes of an accepted lesson
abbrev pub class_count : Outcome Program → Outcome ℕ
class_count (accepted p) = accepted (length p.classes)
class_count (refused n p) = refused n p

-- what follows a `//` on its line is part of the comment
pub classes-read : map (λ (t : List ℕ). class_count (checking (single_class ++ t))) (
    bytes "class B{}" ∷
    bytes "//class B{}" ∷
    bytes "//\nclass B{}" ∷
    bytes "//class B{}\nclass C{}" ∷
    bytes "/**/class B{}" ∷
    bytes "class A{}" ∷
    bytes "}" ∷
    [])
    ≡ accepted 2 ∷ accepted 1 ∷ accepted 2 ∷ accepted 2 ∷ accepted 2 ∷ refused 20 118 ∷ refused 16 112 ∷ []
unfolding end_of
classes-read = refl
