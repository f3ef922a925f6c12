-- Rows of our own for document 02, (ix): literals of fixed and their refusals, sums and products of thousandths, and what mixes with
-- nothing; the ends are worked out by hand.
use Rattle.std.specs.Prelude.{refl, List, [], ◌∷◌, ◌++◌, ℕ, pos, negsuc}
use Rattle.base.specs.Bytes.{bytes}
use Rattle.base.specs.All.{All}
use Rattle.semantics.specs.Ends.{Row, row, end_of, refused_at, ends, usual, printing}
use Rattle.rows.specs.Answers.{RowHolds, hold}

-- a class A with these members, behind a lesson that prints what its method m gives
abbrev members : List ℕ → List ℕ
members m = printing (bytes "new A().m()") ++ bytes " class A{" ++ m ++ bytes "}"

-- LITERALS

abbrev pub literal_rows : List Row
literal_rows =
    row (printing (bytes "1.500")) usual (ends 0 0 2 0 0 (pos 1500 ∷ [])) ∷
    row (printing (bytes "0.000")) usual (ends 0 0 2 0 0 (pos 0 ∷ [])) ∷
    row (printing (bytes "1.050")) usual (ends 0 0 2 0 0 (pos 1050 ∷ [])) ∷
    row (printing (bytes "2147483.647")) usual (ends 0 0 2 0 0 (pos 2147483647 ∷ [])) ∷
    -- 14 above that, whatever the digits behind the point are; 65 before it, 60 before both, by the digits before the point
    row (printing (bytes "2147483.648")) usual (refused_at 14 63) ∷
    row (printing (bytes "2147483648.500")) usual (refused_at 14 63) ∷
    row (printing (bytes "2147483648.5")) usual (refused_at 65 63) ∷
    row (printing (bytes "1.5")) usual (refused_at 65 63) ∷
    row (printing (bytes "1.5000")) usual (refused_at 65 63) ∷
    row (printing (bytes "1.5.500")) usual (refused_at 65 63) ∷
    row (printing (bytes "01.500")) usual (refused_at 60 63) ∷
    row (printing (bytes "00.5")) usual (refused_at 60 63) ∷
    -- a point with no digit directly behind it, or none directly before it, is a token of its own
    row (printing (bytes "1.")) usual (refused_at 16 65) ∷
    row (printing (bytes "1.length")) usual (refused_at 31 63) ∷
    row (printing (bytes "1 .500")) usual (refused_at 16 66) ∷
    row (printing (bytes "1. 500")) usual (refused_at 16 66) ∷
    row (printing (bytes "1./**/500")) usual (refused_at 16 69) ∷
    row (printing (bytes "1 .05")) usual (refused_at 60 66) ∷
    row (printing (bytes "1.500.500")) usual (refused_at 16 69) ∷
    row (printing (bytes "1.500e3")) usual (refused_at 16 68) ∷
    []

-- COUNTS

abbrev pub count_rows : List Row
count_rows =
    row (printing (bytes "1.000+2.000")) usual (ends 0 0 4 0 0 (pos 3000 ∷ [])) ∷
    row (printing (bytes "2147483.647+0.001")) usual (ends 0 0 4 0 0 (negsuc 2147483647 ∷ [])) ∷
    row (printing (bytes "0.000-2147483.647-0.002")) usual (ends 0 0 6 0 0 (pos 2147483647 ∷ [])) ∷
    row (printing (bytes "1.500*2.000")) usual (ends 0 0 4 0 0 (pos 3000 ∷ [])) ∷
    -- the quotient is cut toward zero on both sides
    row (printing (bytes "0.999*0.001")) usual (ends 0 0 4 0 0 (pos 0 ∷ [])) ∷
    row (printing (bytes "(0.000-0.999)*0.001")) usual (ends 0 0 6 0 0 (pos 0 ∷ [])) ∷
    row (printing (bytes "(0.000-1.500)*0.001")) usual (ends 0 0 6 0 0 (negsuc 0 ∷ [])) ∷
    -- the exact product takes 63 bits, and of its quotient the low 32 are kept
    row (printing (bytes "2147483.647*2147483.647")) usual (ends 0 0 4 0 0 (negsuc 760209211 ∷ [])) ∷
    row (printing (bytes "(0.000-2147483.647-0.001)*(0.000-2147483.647-0.001)")) usual (ends 0 0 12 0 0 (negsuc 755914244 ∷ [])) ∷
    -- `<` compares signed
    row (members (bytes "public int m(){int r;if(0.000-1.000<0.001)r=1;else r=2;return r;}")) usual (ends 0 0 12 1 1 (pos 1 ∷ [])) ∷
    []

-- VARIABLES: a fixed begins as 0.000 and takes one word as a field. The type of the left operand says which `*` is meant.

abbrev pub variable_rows : List Row
variable_rows =
    row (members (bytes "fixed x;public fixed m(){x=x+1.250;return x*2.000;}")) usual (ends 0 0 10 1 2 (pos 2500 ∷ [])) ∷
    row (members (bytes "public fixed m(){fixed x;return x;}")) usual (ends 0 0 4 1 1 (pos 0 ∷ [])) ∷
    row (members (bytes "int x;public fixed m(){fixed x;x=2.000;return x*x;}")) usual (ends 0 0 8 1 2 (pos 4000 ∷ [])) ∷
    row (members (bytes "fixed x;public int m(){int x;x=2000;return x*x;}")) usual (ends 0 0 8 1 2 (pos 4000000 ∷ [])) ∷
    row (members (bytes "public fixed m(){return this.v(1.500)*this.v(0.500);}public fixed v(fixed x){return x*x;}")) usual
    (ends 0 0 16 3 1 (pos 562 ∷ [])) ∷
    []

-- REFUSALS

abbrev pub mixed_rows : List Row
mixed_rows =
    -- 31 at the right operand, since the left one decides; at the left one where it is no number
    row (printing (bytes "1+1.000")) usual (refused_at 31 65) ∷
    row (printing (bytes "1.000+1")) usual (refused_at 31 69) ∷
    row (printing (bytes "1.000*true")) usual (refused_at 31 69) ∷
    row (printing (bytes "true<1.000")) usual (refused_at 31 63) ∷
    -- no other place takes fixed
    row (printing (bytes "!1.000")) usual (refused_at 31 64) ∷
    row (printing (bytes "new int[1.000].length")) usual (refused_at 31 71) ∷
    row (printing (bytes "Port.get(1.000)")) usual (refused_at 31 72) ∷
    row (members (bytes "public int m(){return 1.000;}")) usual (refused_at 31 109) ∷
    row (members (bytes "public fixed m(){fixed x;x=1;return x;}")) usual (refused_at 31 114) ∷
    -- the grammar gives no array `fixed` elements
    row (members (bytes "fixed[] x;")) usual (refused_at 16 92) ∷
    row (printing (bytes "new fixed[1].length")) usual (refused_at 16 67) ∷
    []

pub thousandths : All RowHolds (literal_rows ++ count_rows ++ variable_rows ++ mixed_rows)
unfolding end_of
thousandths = hold _ (record { ends = refl; ranges = refl })
