-- Positions of nodes that are too deep: in an ordered tree none is before its whole, so a node that is too deep is itself the first one;
-- and how answers join.
use Prim.Native.Nat.{ℕ, ◌+◌, ◌≤◌, ◌<◌, min}
use mathlib.Core.Path.{◌≡◌, refl, sym, ap, ◌∙◌, subst}
use mathlib.Core.Option.{Option, none, some}
use native.Mathlib.Omega.{arith}
use native.Mathlib.Decide.{dec_lt}
use borrow.Author.Tests.{lt-ltb, le-ltb}
use Rattle.base.specs.Codes.{depth_most}
use Rattle.parser.specs.Tree.{Place, Sort, Part}
use Rattle.parser.specs.Tree.{Part.literal, Part.truth, Part.variable, Part.this, Part.new_array_lem, Part.new_object_lem, Part.negation, Part.binary, Part.element, Part.array_length, Part.call, Part.port_get_lem, Part.no_arguments, Part.argument}
use Rattle.parser.specs.Tree.{Part.block, Part.conditional, Part.loop, Part.print, Part.assign, Part.assign_element_lem, Part.port_put_lem, Part.no_statements, Part.sequence}
use Rattle.parser.specs.Measure.{least, deep_here, deep}
use Rattle.reader.specs.promises.WalkPost.{Ordered, nowhere, count_most, FoundPlace, WalkAnswers}
use Rattle.reader.specs.declared.walk.Walked.{Walked}

-- THE SMALLER OF TWO POSITIONS

pub least-none : (x : Option ℕ) → least x none ≡ x
least-none none = refl
least-none (some a) = refl

pub least-assoc : (x y z : Option ℕ) → least x (least y z) ≡ least (least x y) z
least-assoc none y z = refl
least-assoc (some a) none z = refl
least-assoc (some a) (some b) none = refl
least-assoc (some a) (some b) (some c) = ap some (omega arith)

pub least-absent : (x y : Option ℕ) → y ≡ none → x ≡ least x y
least-absent x y e = sym (ap (least x) e ∙ least-none x)

-- where two positions are not there, neither is
pub none_left : (x y : Option ℕ) → least x y ≡ none → x ≡ none
none_left none y e = refl
none_left (some a) none e = e
none_left (some a) (some b) e = let z : ◌≡◌ {A = ℕ} 0 1 = cc in absurd (omega arith)

pub none_right : (x y : Option ℕ) → least x y ≡ none → y ≡ none
none_right none y e = e
none_right (some a) none e = refl
none_right (some a) (some b) e = let z : ◌≡◌ {A = ℕ} 0 1 = cc in absurd (omega arith)

-- NONE BEFORE ITS WHOLE

pub data NotBefore (low : ℕ) : Option ℕ → Type 0 where
  nowhere-before : NotBefore low none
  at_least : {a : ℕ} → low ≤ a → NotBefore low (some a)

later : {low low' : ℕ} {x : Option ℕ} → low ≤ low' → NotBefore low' x → NotBefore low x
later h nowhere-before = nowhere-before
later h (at_least {a = a} k) = at_least {a = a} (omega arith)

pub both : {low : ℕ} {x y : Option ℕ} → NotBefore low x → NotBefore low y → NotBefore low (least x y)
both nowhere-before k = k
both (at_least h) nowhere-before = at_least h
both (at_least {a = a} h) (at_least {a = b} k) = at_least {a = min a b} (omega arith)

here-deep : (d : ℕ) (p : Place) → depth_most < d → deep_here d p ≡ some p.start
here-deep d p h = simp (lt-ltb depth_most d h)

here-fine : (d : ℕ) (p : Place) → d ≤ depth_most → deep_here d p ≡ none
here-fine d p h = simp (le-ltb depth_most d h)

-- a node that is not too deep, with what lies below it; and one that is
pub fine-here : (d : ℕ) (p : Place) (x : Option ℕ) → d ≤ depth_most → least (deep_here d p) x ≡ x
fine-here d p x h = ap (λ (o : Option ℕ). least o x) (here-fine d p h)

pub first-here : (d : ℕ) (p : Place) {x : Option ℕ} → depth_most < d → NotBefore p.start x → least (deep_here d p) x ≡ some p.start
first-here d p {x} h k = ap (λ (o : Option ℕ). least o x) (here-deep d p h) ∙ smaller k
  where
    smaller : {a : ℕ} {x : Option ℕ} → NotBefore a x → least (some a) x ≡ some a
    smaller nowhere-before = refl
    smaller (at_least h) = ap some (omega arith)

here : (d : ℕ) (p : Place) (low : ℕ) → low ≤ p.start → NotBefore low (deep_here d p)
here d p low h = elim (dec_lt depth_most d) [
  | yes lt ↦ subst (NotBefore low) (sym (here-deep d p lt)) (at_least h)
  | no ge ↦ subst (NotBefore low) (sym (here-fine d p (omega arith))) nowhere-before
]

-- a node and what lies below it
with-parts : (d : ℕ) (p : Place) (low : ℕ) {x : Option ℕ} → low ≤ p.start → NotBefore p.start x → NotBefore low (least (deep_here d p) x)
with-parts d p low h k = both (here d p low h) (later h k)

pub not-before : (d : ℕ) {s : Sort} (t : Part s) (low : ℕ) → Ordered low t → NotBefore low (deep d t)
unfolding Ordered deep
not-before d (literal p n) low h = here d p low h
not-before d (truth p b) low h = here d p low h
not-before d (variable p x) low h = here d p low h
not-before d (this p) low h = here d p low h
not-before d (new_array_lem p u e) low h = with-parts d p low h.0 (not-before (d + 1) e p.start h.1)
not-before d (new_object_lem p c) low h = here d p low h
not-before d (negation p e) low h = with-parts d p low h.0 (not-before (d + 1) e p.start h.1)
not-before d (binary p o l r) low h =
    with-parts d p low h.0 (both (not-before (d + 1) l p.start h.1) (not-before (d + 1) r p.start h.2))
not-before d (element p a i) low h =
    with-parts d p low h.0 (both (not-before (d + 1) a p.start h.1) (not-before (d + 1) i p.start h.2))
not-before d (array_length p a) low h = with-parts d p low h.0 (not-before (d + 1) a p.start h.1)
not-before d (call p e m es) low h =
    with-parts d p low h.0 (both (not-before (d + 1) e p.start h.1) (not-before (d + 1) es p.start h.2))
not-before d (port_get_lem p e) low h = with-parts d p low h.0 (not-before (d + 1) e p.start h.1)
not-before d no_arguments low h = nowhere-before
not-before d (argument e es) low h = both (not-before d e low h.1) (not-before d es low h.2)
not-before d (block p ss) low h = with-parts d p low h.0 (not-before (d + 1) ss p.start h.1)
not-before d (conditional p e s t) low h =
    with-parts d p low h.0
    (both (not-before (d + 1) e p.start h.1)
    (both (not-before (d + 1) s p.start h.2) (not-before (d + 1) t p.start h.3)))
not-before d (loop p e s) low h =
    with-parts d p low h.0 (both (not-before (d + 1) e p.start h.1) (not-before (d + 1) s p.start h.2))
not-before d (print p e) low h = with-parts d p low h.0 (not-before (d + 1) e p.start h.1)
not-before d (assign p x e) low h = with-parts d p low h.0 (not-before (d + 1) e p.start h.1)
not-before d (assign_element_lem p x i e) low h =
    with-parts d p low h.0 (both (not-before (d + 1) i p.start h.1) (not-before (d + 1) e p.start h.2))
not-before d (port_put_lem p n e) low h =
    with-parts d p low h.0 (both (not-before (d + 1) n p.start h.1) (not-before (d + 1) e p.start h.2))
not-before d no_statements low h = nowhere-before
not-before d (sequence s ss) low h = both (not-before d s low h.1) (not-before d ss low h.2)

-- ANSWERS

found-least : (x y : Option ℕ) (a b : ℕ) → FoundPlace x a → FoundPlace y b → FoundPlace (least x y) (min a b)
found-least none none a b h k = omega arith
found-least none (some q) a b h k = (omega arith, k.1)
found-least (some p) none a b h k = (omega arith, h.1)
found-least (some p) (some q) a b h k = (omega arith, omega arith)

found_at : (x : Option ℕ) (a b : ℕ) → a ≡ b → FoundPlace x a → FoundPlace x b
found_at x a b e h = subst (FoundPlace x) e h

-- what `join` answers of two answers
abbrev pub Joins : Walked → Walked → Walked → Type 0
Joins a b w = (w.count ≡ min (a.count + b.count) count_most) × (w.place ≡ min a.place b.place)

-- what `whole` answers of its parts' answer
abbrev pub Encloses : Walked → Walked → Type 0
Encloses a w = (w.count ≡ min (1 + a.count) count_most) × (w.place ≡ a.place)

pub nothing : {w : Walked} → w.count ≡ 0 → w.place ≡ nowhere → WalkAnswers none 0 w
nothing c p = record { place = p; count = λ _. omega arith }

pub joined : {x y : Option ℕ} {k l : ℕ} {a b w : Walked} → WalkAnswers x k a → WalkAnswers y l b → Joins a b w
    → WalkAnswers (least x y) (k + l) w
joined {x} {y} {k} {l} {a} {b} {w} h g j =
    record {
      place = found_at (least x y) _ _ (sym j.1) (found-least x y _ _ h.place g.place);
      count = λ e. omega (arith, h.count (none_left x y e), g.count (none_right x y e), j.0);
    }

pub enclosed : {x : Option ℕ} {k : ℕ} {a w : Walked} → WalkAnswers x k a → Encloses a w → WalkAnswers x (1 + k) w
enclosed {x} {k} {a} {w} h j =
    record {
      place = found_at x _ _ (sym j.1) h.place;
      count = λ e. omega (arith, h.count e, j.0);
    }

-- the same answer, of equal things
pub same_answer : {x y : Option ℕ} {k l : ℕ} {w : Walked} → x ≡ y → k ≡ l → WalkAnswers x k w → WalkAnswers y l w
same_answer {x} {y} {k} {l} {w} e q h = subst (λ (o : Option ℕ). WalkAnswers o l w) e (subst (λ (m : ℕ). WalkAnswers x m w) q h)

-- where one part is nothing, two answer what the other does
pub joined-nothing : {x : Option ℕ} {k : ℕ} {a b w : Walked} → a.count ≡ 0 → a.place ≡ nowhere → WalkAnswers x k b → Joins a b w
    → WalkAnswers x k w
joined-nothing {x} c p h j = same_answer {x = x} refl (omega arith) (joined (nothing c p) h j)
