-- Document 02, (ii): Menu writes, again and again, the unwritten class earliest in the lesson whose parent is already written or absent.
-- The orders are worked out by hand; " class A{}" is 10 bytes long, " class A extends B{}" 20, and the first class's name stands at 75.
use Rattle.std.specs.Prelude.{ℕ, ◌≡◌, refl, List, [], ◌∷◌, map}
use Rattle.base.specs.Bytes.{bytes}
use Rattle.typesystem.specs.Check.{CheckAnswer}
use Rattle.menu.specs.Menu.{may_stand, earliest, writing, menu_order, positions, Listing, menu}
use Rattle.semantics.specs.Ends.{end_of}
use Rattle.rows.specs.Further.{declaring}

-- classes after the frame; a strip; Menu's answer, and the strip afterwards
pub record MenuRow : Type 0 where
  pub source : List ℕ
  pub before : List ℕ
  pub listing : Listing

abbrev pub menu_row : List ℕ → List ℕ → (number position classes : ℕ) → List ℕ → MenuRow
menu_row classes before n p k after =
    let answer : CheckAnswer = record { number = n; position = p; classes = k } in
    record { source = declaring classes; before = before; listing = record { answer = answer; strip = after } }

-- strips of nines
abbrev pub three : List ℕ
three = 9 ∷ 9 ∷ 9 ∷ []

abbrev pub four : List ℕ
four = 9 ∷ three

abbrev pub menu_rows : List MenuRow
menu_rows =
    -- no class at all; the rest of the strip is unchanged
    menu_row [] [] 0 0 0 [] ∷
    menu_row [] three 0 0 0 three ∷
    -- several roots
    menu_row (bytes " class A{} class B{} class C{}") four 0 0 3 (75 ∷ 85 ∷ 95 ∷ 9 ∷ []) ∷
    -- a child before its parent: it comes directly after, before the next root
    menu_row (bytes " class B extends A{} class A{} class C{}") four 0 0 3 (95 ∷ 75 ∷ 105 ∷ 9 ∷ []) ∷
    -- siblings before their parent
    menu_row (bytes " class B extends A{} class C extends A{} class A{}") three 0 0 3 (115 ∷ 75 ∷ 95 ∷ []) ∷
    -- a chain backwards, then a root
    menu_row (bytes " class C extends B{} class B extends A{} class A{} class D{}") four 0 0 4 (115 ∷ 95 ∷ 75 ∷ 125 ∷ []) ∷
    -- a grandchild after the sibling of its parent, which stands earlier; with the root first, and with the root last
    menu_row (bytes " class R{} class A extends R{} class B extends R{} class X extends A{}") four 0 0 4 (75 ∷ 85 ∷ 105 ∷ 125 ∷ []) ∷
    menu_row (bytes " class A extends R{} class B extends R{} class X extends A{} class R{}") four 0 0 4 (135 ∷ 75 ∷ 95 ∷ 115 ∷ []) ∷
    -- a grandchild before the sibling of its parent, which stands later
    menu_row (bytes " class X extends A{} class A extends R{} class B extends R{} class R{}") four 0 0 4 (135 ∷ 95 ∷ 75 ∷ 115 ∷ []) ∷
    -- two roots, each after a child of the other
    menu_row (bytes " class B extends A{} class C{} class D extends C{} class A{}") four 0 0 4 (95 ∷ 105 ∷ 125 ∷ 75 ∷ []) ∷
    -- refusals leave the strip
    menu_row (bytes " class A{} class B{} class C{} class D{}") three 4 0 0 three ∷
    menu_row (bytes " class A extends A{}") [] 22 75 0 [] ∷
    menu_row (bytes " class A{} class B{X x;}") three 24 87 0 three ∷
    []

pub menus : map (λ (r : MenuRow). menu r.source 16384 r.before) menu_rows ≡ map (λ (r : MenuRow). r.listing) menu_rows
unfolding end_of may_stand earliest writing menu_order positions menu
menus = refl
