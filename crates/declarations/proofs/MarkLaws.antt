-- Laws on marks: what marking a name returns meets its contract; a name that is marked is one more with the stamp; and a stamp above all
-- words is no name's.
use Prim.Native.Nat.{ℕ, ◌≤◌, ◌<◌}
use native.Mathlib.Omega.{arith}
use native.Mathlib.Decide.{ℕ_discrete}
use mathlib.Core.Path.{◌≡◌, refl, sym, ap, ◌∙◌}
use mathlib.Core.List.{List, [], ◌∷◌}
use mathlib.Core.Bool.{Bool, true, false}
use lib.ListN.{length, get_or, set}
use lib.Seq.{get_or-set_same, get_or-set_other}
use borrow.Author.Tests.{eq-eqb, ne_eqb}
use Rattle.lexer.specs.Tokens.{Token}
use Rattle.typesystem.specs.ClassTable.{occurs}
use Rattle.parser.specs.promises.Layout.{absent}
use Rattle.lookup.specs.promises.HeldClasses.{Lexemes, NameNumber}
use Rattle.lookup.specs.laws.HeldLaws.{row-there, same_names, other-names}
use Rattle.declarations.specs.promises.Marking.{StampsBelow, Marked, MarkPost}

-- ONE NAME

module _ {x stamp : ℕ} {before : List ℕ} where
  pub mark-past : absent ≤ x → MarkPost x stamp before before false
  mark-past far = record { says = λ near. absurd (omega arith); here = λ near. absurd (omega arith); others = λ i other. refl; below = λ bound high b. b }

  pub mark-again : get_or before x 0 ≡ stamp → MarkPost x stamp before before true
  mark-again is = record { says = λ near. sym (eq-eqb (get_or before x 0) stamp is); here = λ near. is; others = λ i other. refl; below = λ bound high b. b }

  pub mark-new : x < absent → absent ≤ length before → (get_or before x 0 ≡ stamp → ⊥) → {after : List ℕ} → after ≡ set before x stamp
      → MarkPost x stamp before after false
  mark-new near long new {after} e = record {
    says = λ _. sym (ne_eqb (get_or before x 0) stamp new);
    here = λ _. written;
    others = kept;
    below = λ bound high b. record {
      words = λ i. elim (ℕ_discrete x i) [
        | yes is ↦ let w : get_or after i 0 ≡ stamp = ap (λ (j : ℕ). get_or after j 0) (sym is) ∙ written in omega (arith, w)
        | no other ↦ omega (arith, kept i other, b.words i)
      ];
    };
  }
    where
      written : get_or after x 0 ≡ stamp
      written = ap (λ (l : List ℕ). get_or l x 0) e ∙ get_or-set_same before x stamp 0 (omega arith)

      kept : (i : ℕ) → (x ≡ i → ⊥) → get_or after i 0 ≡ get_or before i 0
      kept i other = ap (λ (l : List ℕ). get_or l i 0) e ∙ get_or-set_other before x i stamp 0 (λ z. other (sym z))

-- THE NAMES OF A LIST

-- a name is marked after the earlier ones
module _ {tab : List ℕ} {n : ℕ} {ts : List Token} (lx : Lexemes tab n ts) {x stamp : ℕ} {before after : List ℕ} {r : Bool} (h : MarkPost x stamp before after r)
    {name : List ℕ} (sp : NameNumber ts name x) {earlier : List (List ℕ)} (m : Marked ts before stamp earlier) where
  pub marked-is : occurs name earlier ≡ r
  marked-is = sym (m.says name x sp) ∙ sym (h.says (row-there lx x sp.there))

  pub marked_next : Marked ts after stamp (name ∷ earlier)
  unfolding occurs
  marked_next = record {
    says = λ text i sp'. elim (ℕ_discrete x i) [
      | yes is ↦
          rw (same_names sp sp' is) (eq-eqb (get_or after i 0) stamp (ap (λ (j : ℕ). get_or after j 0) (sym is) ∙ h.here (row-there lx x sp.there)))
      | no other ↦ rw (other-names sp sp' other, h.others i other) (m.says text i sp')
    ];
  }

-- STAMPS

pub below_more : {low high : ℕ} {marks : List ℕ} → low ≤ high → StampsBelow low marks → StampsBelow high marks
below_more h b = record { words = λ i. omega (arith, b.words i) }

-- no name has a new stamp
pub none-marked : {ts : List Token} {stamp : ℕ} {marks : List ℕ} → StampsBelow stamp marks → Marked ts marks stamp []
unfolding occurs
none-marked {stamp = stamp} {marks} b = record { says = λ text x sp. ne_eqb (get_or marks x 0) stamp λ e. omega (arith, e, b.words x) }
