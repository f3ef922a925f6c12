-- Document 02, (iii): refusal 22 stands at the first class in the lesson whose chain never ends. The ends are worked out by hand;
-- " class A extends B{}" is 20 bytes long, and the first class's name stands at 75.
use Rattle.std.specs.Prelude.{refl, List, [], ◌∷◌, pos}
use Rattle.base.specs.Bytes.{bytes}
use Rattle.base.specs.All.{All}
use Rattle.semantics.specs.Ends.{Row, row, end_of, refused_at, ends, usual}
use Rattle.rows.specs.Answers.{RowHolds, hold}
use Rattle.rows.specs.Further.{declaring}

abbrev pub endless_rows : List Row
endless_rows =
    -- a class that extends itself
    row (declaring (bytes " class A extends A{}")) usual (refused_at 22 75) ∷
    -- C only leads into the loop of A and B: first, in the middle, last
    row (declaring (bytes " class C extends A{} class A extends B{} class B extends A{}")) usual (refused_at 22 75) ∷
    row (declaring (bytes " class D{} class C extends A{} class A extends B{} class B extends A{}")) usual (refused_at 22 85) ∷
    row (declaring (bytes " class A extends B{} class C extends A{} class B extends A{}")) usual (refused_at 22 75) ∷
    row (declaring (bytes " class A extends B{} class B extends A{} class C extends A{}")) usual (refused_at 22 75) ∷
    -- it leads there by way of others
    row (declaring (bytes " class E{} class D extends C{} class C extends B{} class B extends B{}")) usual (refused_at 22 85) ∷
    -- two loops, and a class that leads into the second of them
    row (declaring (bytes " class A extends E{} class B extends C{} class C extends B{} class D extends D{} class E{}"))
    usual (refused_at 22 95) ∷
    row (declaring (bytes " class E{} class A extends D{} class B extends C{} class C extends B{} class D extends D{}"))
    usual (refused_at 22 85) ∷
    -- 21 and 20 come first, wherever they stand
    row (declaring (bytes " class A extends A{} class B extends X{}")) usual (refused_at 21 105) ∷
    row (declaring (bytes " class B extends X{} class A extends A{}")) usual (refused_at 21 85) ∷
    row (declaring (bytes " class A extends A{} class A extends A{}")) usual (refused_at 20 95) ∷
    row (declaring (bytes " class A extends A{} class M{}")) usual (refused_at 20 95) ∷
    -- 22 comes before what is wrong inside a class
    row (declaring (bytes " class B{X x;} class A extends A{}")) usual (refused_at 22 89) ∷
    -- a chain of all the classes ends
    row (declaring (bytes " class A extends B{} class B extends C{} class C{}")) usual (ends 0 0 2 0 0 (pos 1 ∷ [])) ∷
    []

pub endless : All RowHolds endless_rows
unfolding end_of
endless = hold endless_rows (record { ends = refl; ranges = refl })
