-- Document 01, "Results that would be worthless": each version that concerns reading, checking or running is refuted by how a small source
-- ends, in one theorem closed by computation. Menu's row is a matter of its contract (menu, `Written`).
use Rattle.std.specs.Prelude.{refl, List, [], ◌∷◌, ◌++◌, pos}
use Rattle.base.specs.Bytes.{bytes}
use Rattle.base.specs.All.{All}
use Rattle.semantics.specs.Ends.{Row, row, end_of, refused_at, ends, limits, usual, printing}
use Rattle.rows.specs.Answers.{RowHolds, hold}

abbrev pub refuting_rows : List Row
refuting_rows =
    -- 16 for every lesson; 0 and nothing printed for every lesson; steps copied from the budget
    row (printing (bytes "1+2")) usual (ends 0 0 4 0 0 (pos 3 ∷ [])) ∷
    -- judges the first method, waves the others through
    row (printing (bytes "1") ++ bytes " class A{public int m(){return 1;}public int n(){return true;}}") usual (refused_at 31 124) ∷
    -- 50 before the first node under a positive budget: the statement is begun
    row (printing (bytes "1+2")) (limits 1 64) (ends 50 63 1 0 0 []) ∷
    -- carries out one statement, then 0
    row (bytes "class M{public static void main(String[] a){{System.out.println(1);System.out.println(2);}}}")
    usual (ends 0 0 5 0 0 (pos 1 ∷ pos 2 ∷ [])) ∷
    []

pub worthless : All RowHolds refuting_rows
unfolding end_of
worthless = hold refuting_rows (record { ends = refl; ranges = refl })
