-- The test that judging makes of types decides equality: it compares constructor by constructor.
use Rattle.std.specs.Prelude.{◌≡◌, refl, true, false}
use Rattle.std.proofs.Common.{sym, ap, ◌∙◌}
use Rattle.std.proofs.lemmas.Bool.{false≢true}
use Rattle.base.specs.laws.Tests.{not-true, same_refl, same-equal}
use Rattle.parser.specs.Tree.{Element, Element.int, Element.boolean, Element.fixed, Element.class, Ty, Ty.plain, Ty.array_of}
use Rattle.typesystem.specs.ClassTable.{same_element, same_type}

pub same_element-refl : (t : Element) → same_element t t ≡ true
unfolding same_element
same_element-refl int = refl
same_element-refl boolean = refl
same_element-refl fixed = refl
same_element-refl (class c) = same_refl c

pub same_element-equal : (s t : Element) → same_element s t ≡ true → s ≡ t
unfolding same_element
same_element-equal int int e = refl
same_element-equal int boolean e = absurd (false≢true e)
same_element-equal int fixed e = absurd (false≢true e)
same_element-equal int (class d) e = absurd (false≢true e)
same_element-equal boolean int e = absurd (false≢true e)
same_element-equal boolean boolean e = refl
same_element-equal boolean fixed e = absurd (false≢true e)
same_element-equal boolean (class d) e = absurd (false≢true e)
same_element-equal fixed int e = absurd (false≢true e)
same_element-equal fixed boolean e = absurd (false≢true e)
same_element-equal fixed fixed e = refl
same_element-equal fixed (class d) e = absurd (false≢true e)
same_element-equal (class c) int e = absurd (false≢true e)
same_element-equal (class c) boolean e = absurd (false≢true e)
same_element-equal (class c) fixed e = absurd (false≢true e)
same_element-equal (class c) (class d) e = ap class (same-equal c d e)

pub same_type-refl : (t : Ty) → same_type t t ≡ true
unfolding same_type
same_type-refl (plain t) = same_element-refl t
same_type-refl (array_of t) = same_element-refl t

pub same_type-equal : (s t : Ty) → same_type s t ≡ true → s ≡ t
unfolding same_type
same_type-equal (plain s) (plain t) e = ap plain (same_element-equal s t e)
same_type-equal (plain s) (array_of t) e = absurd (false≢true e)
same_type-equal (array_of s) (plain t) e = absurd (false≢true e)
same_type-equal (array_of s) (array_of t) e = ap array_of (same_element-equal s t e)

pub same_type-of : {s t : Ty} → s ≡ t → same_type s t ≡ true
same_type-of {s} e = rw (← e) (same_type-refl s)

pub same_type-apart : (s t : Ty) → same_type s t ≡ false → s ≡ t → ⊥
same_type-apart s t f e = false≢true (sym f ∙ same_type-of e)

pub apart-same_type : (s t : Ty) → (s ≡ t → ⊥) → same_type s t ≡ false
apart-same_type s t f = not-true (same_type s t) λ e. f (same_type-equal s t e)
