-- Document 01, "Benches to pass": the starred rows, as one theorem about what Run answers (Answers), closed by computation.
use Rattle.std.specs.Prelude.{refl, List, [], ◌∷◌, pos, negsuc}
use Rattle.base.specs.Bytes.{bytes}
use Rattle.base.specs.All.{All}
use Rattle.semantics.specs.Ends.{Row, row, end_of, refused_at, ends, limits, usual, printing}
use Rattle.rows.specs.Answers.{RowHolds, hold}

abbrev pub starred_rows : List Row
starred_rows =
    row (printing (bytes "46341*46341")) usual (ends 0 0 4 0 0 (negsuc 2147479014 ∷ [])) ∷
    row (printing (bytes "0-2147483647-2")) usual (ends 0 0 6 0 0 (pos 2147483647 ∷ [])) ∷
    row (printing (bytes "2147483648")) usual (refused_at 14 63) ∷
    row (printing (bytes "!1<2")) usual (refused_at 31 64) ∷
    row (printing (bytes "this")) usual (refused_at 34 63) ∷
    row (printing (bytes "a")) usual (refused_at 30 63) ∷
    row (printing (bytes "new int[0-1].length")) usual (ends 42 63 6 0 0 []) ∷
    row (printing (bytes "new int[2][0]")) usual (refused_at 16 73) ∷
    row (printing (bytes "(new int[1])[1]")) usual (ends 41 63 5 0 2 []) ∷
    row (printing (bytes "1+2")) (limits 3 64) (ends 50 65 3 0 0 []) ∷
    row (printing (bytes "1+2")) (limits 0 64) (ends 50 44 0 0 0 []) ∷
    row [] usual (refused_at 16 0) ∷
    row (bytes "/*/**/") usual (refused_at 12 0) ∷
    []

-- negsuc n is -(n + 1)
pub starred : All RowHolds starred_rows
unfolding end_of
starred = hold starred_rows (record { ends = refl; ranges = refl })
