-- Rows of our own, for the rules that the starred rows do not touch; the ends are worked out by hand from documents 01 and 02.
use Rattle.std.specs.Prelude.{ℕ, zero, suc, ◌+◌, refl, List, [], ◌∷◌, ◌++◌, pos, replicate}
use Rattle.base.specs.Bytes.{bytes}
use Rattle.base.specs.All.{All}
use Rattle.lexer.specs.Bytes.{b_small_a}
use Rattle.semantics.specs.Limits.{Limits}
use Rattle.semantics.specs.Ends.{Row, row, end_of, refused_at, ends, limits, usual, printing}
use Rattle.rows.specs.Answers.{RowHolds, hold}

-- the frame with the expression 1, 68 bytes long, then classes
abbrev pub declaring : List ℕ → List ℕ
declaring classes = printing (bytes "1") ++ classes

-- a statement of main, at position 44
abbrev pub doing : List ℕ → List ℕ
doing s = bytes "class M{public static void main(String[] a){" ++ s ++ bytes "}}"

-- a heap strip and an output strip of these lengths
abbrev pub strip_limits : (heap output : ℕ) → Limits
strip_limits heap output = record { budget = 100000; calls = 64; heap = heap; printed = output }

-- so many times
abbrev pub times : ℕ → List ℕ → List ℕ
times zero s = []
times (suc n) s = s ++ times n s

-- int a,int aa,.. : n + 1 parameters
abbrev pub parameters : ℕ → List ℕ
parameters zero = bytes "int a"
parameters (suc n) = parameters n ++ bytes ",int " ++ replicate (n + 2) b_small_a

abbrev pub further_rows : List Row
further_rows =
    -- document 02, (i): two or more digits that begin with 0, whatever their value; a lone 0 stays
    row (printing (bytes "010")) usual (refused_at 60 63) ∷
    row (printing (bytes "0")) usual (ends 0 0 2 0 0 (pos 0 ∷ [])) ∷
    row (printing (bytes "00")) usual (refused_at 60 63) ∷
    row (printing (bytes "000")) usual (refused_at 60 63) ∷
    row (printing (bytes "007")) usual (refused_at 60 63) ∷
    row (printing (bytes "09")) usual (refused_at 60 63) ∷
    -- 63 sums: the leftmost 1 has depth 65
    row (printing (times 63 (bytes "1+") ++ bytes "1")) usual (refused_at 17 63) ∷
    row (declaring (bytes " class A{} class A{}")) usual (refused_at 20 85) ∷
    row (declaring (bytes " class A extends M{}")) usual (refused_at 21 85) ∷
    row (declaring (bytes " class A{int x;boolean x;}")) usual (refused_at 23 91) ∷
    -- main's name is no type
    row (declaring (bytes " class A{M x;}")) usual (refused_at 24 77) ∷
    -- a field may share a method's name
    row (declaring (bytes " class A{int m;public int m(){return 1;}public int m(){return 2;}}")) usual (refused_at 25 119) ∷
    row (declaring (bytes " class A{public int m(int x){return x;}} class B extends A{public int m(boolean y){return 1;}}"))
    usual (refused_at 26 138) ∷
    row (declaring (bytes " class A{public int m(int x,int x){return x;}}")) usual (refused_at 27 100) ∷
    row (declaring (bytes " class A{public int m(" ++ parameters 32 ++ bytes "){return a;}}")) usual (refused_at 28 782) ∷
    row (printing (bytes "new A().m()") ++ bytes " class A{}") usual (refused_at 32 71) ∷
    -- the count is tested before the arguments
    row (printing (bytes "new A().m(1,x)") ++ bytes " class A{public int m(int y){return y;}}") usual (refused_at 33 71) ∷
    row (printing (bytes "new A().m()") ++ bytes " class A{public int m(){return this.m();}}") (limits 100000 2) (ends 52 109 7 2 1 []) ∷
    -- 51 where the heap strip is one word short, and not where it is just long enough; 42 comes first
    row (printing (bytes "new int[3].length")) (strip_limits 3 256) (ends 51 63 4 0 0 []) ∷
    row (printing (bytes "new int[3].length")) (strip_limits 4 256) (ends 0 0 4 0 4 (pos 3 ∷ [])) ∷
    row (printing (bytes "new int[0-1].length")) (strip_limits 0 256) (ends 42 63 6 0 0 []) ∷
    -- 53 after the printed expression, at the statement
    row (doing (bytes "{System.out.println(1);System.out.println(2);}")) (strip_limits 4096 1) (ends 53 67 5 0 0 (pos 1 ∷ [])) ∷
    -- the right side of `&&` is begun only after true
    row (doing (bytes "if(1<0&&(new int[1])[1]<0)System.out.println(1);else System.out.println(2);")) usual (ends 0 0 7 0 0 (pos 2 ∷ [])) ∷
    row (doing (bytes "if(0<1&&(new int[1])[1]<0)System.out.println(1);else System.out.println(2);")) usual (ends 41 52 10 0 2 []) ∷
    -- `<` compares signed
    row (doing (bytes "if(0-1<0)System.out.println(1);else System.out.println(2);")) usual (ends 0 0 8 0 0 (pos 1 ∷ [])) ∷
    -- a null array is found after the index, whose array is made
    row (printing (bytes "new A().m()") ++ bytes " class A{int[] x;public int m(){return x[new int[3].length];}}") usual
    (ends 40 117 8 1 6 []) ∷
    -- 40 comes before 52
    row (printing (bytes "new A().m()") ++ bytes " class A{A n;public int m(){return n.m();}}") (limits 100000 1) (ends 40 113 5 1 2 []) ∷
    -- an indexed target is read before its index: the array that x held then is written to, not the one that it holds afterwards
    row (printing (bytes "new A().m()") ++ bytes " class A{int[] x;int[] y;public int n(){x=new int[2];return 0;}"
    ++ bytes "public int m(){x=new int[1];y=x;x[this.n()]=7;return y[0]*10+x[0];}}")
    usual (ends 0 0 25 2 8 (pos 70 ∷ [])) ∷
    -- two arguments, in their order
    row (printing (bytes "new A().m(5,3)") ++ bytes " class A{public int m(int x,int y){return x-y;}}") usual
    (ends 0 0 8 1 1 (pos 2 ∷ [])) ∷
    []

pub further : All RowHolds further_rows
unfolding end_of
further = hold further_rows (record { ends = refl; ranges = refl })
