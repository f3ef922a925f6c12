-- Rows of our own for document 02, (viii): samples, flags, mask, and the registers that are got and put; the ends are worked out by hand.
use Rattle.std.specs.Prelude.{ℕ, refl, List, [], ◌∷◌, ◌++◌, replicate, pos}
use Rattle.base.specs.Bytes.{bytes}
use Rattle.base.specs.All.{All}
use Rattle.semantics.specs.Ends.{Row, row, taped, end_of, refused_at, ends, ends_with, limits, usual, printing}
use Rattle.rows.specs.Answers.{RowHolds, hold}

-- registers 0, 1 and 2, and 0 in all the others
abbrev shows : (status mask reading : ℕ) → List ℕ
shows s m r = s ∷ m ∷ r ∷ replicate 13 0

-- main's statement, at position 44
abbrev doing : List ℕ → List ℕ
doing s = bytes "class M{public static void main(String[] a){" ++ s ++ bytes "}}"

-- a method's body
abbrev method : List ℕ → List ℕ
method b = printing (bytes "new A().m()") ++ bytes " class A{public int m(){" ++ b ++ bytes "}}"

-- WHEN A SAMPLE COMES

abbrev endless : List ℕ
endless = doing (bytes "while(true){}")

abbrev pub sample_rows : List Row
sample_rows =
    -- with step 100, and not before; a node that 50 refuses brings none
    taped (5 ∷ 6 ∷ 7 ∷ []) endless (limits 99 64) (ends 50 50 99 0 0 []) ∷
    taped (5 ∷ 6 ∷ 7 ∷ []) endless (limits 100 64) (ends_with 50 55 100 0 0 [] (shows 1 0 5)) ∷
    taped (5 ∷ 6 ∷ 7 ∷ []) endless (limits 199 64) (ends_with 50 50 199 0 0 [] (shows 1 0 5)) ∷
    -- the next one finds bit 0 set: one is lost
    taped (5 ∷ 6 ∷ 7 ∷ []) endless (limits 200 64) (ends_with 50 55 200 0 0 [] (shows 3 0 6)) ∷
    -- past the tape's end nothing happens
    taped (5 ∷ []) endless (limits 200 64) (ends_with 50 55 200 0 0 [] (shows 1 0 5)) ∷
    row endless (limits 200 64) (ends 50 55 200 0 0 []) ∷
    -- a reading that is waited for: the sample comes between two nodes, or with the get itself
    taped (42 ∷ []) (method (bytes "while(Port.get(0)<1){}return Port.get(2);")) usual (ends_with 0 0 105 1 1 (pos 42 ∷ []) (shows 0 0 42)) ∷
    taped (42 ∷ []) (method (bytes "{}{}while(Port.get(0)<1){}return Port.get(2);")) usual
    (ends_with 0 0 107 1 1 (pos 42 ∷ []) (shows 0 0 42)) ∷
    taped (42 ∷ []) (method (bytes "{}{}{}while(Port.get(0)<1){}return Port.get(2);")) usual
    (ends_with 0 0 103 1 1 (pos 42 ∷ []) (shows 0 0 42)) ∷
    []

-- FLAGS AND MASK, after two samples of which the first was lost

abbrev after_two : (before after : List ℕ) → List ℕ
after_two b a = method (bytes "int i;" ++ b ++ bytes "while(i<30)i=i+1;" ++ a ++ bytes "return Port.get(0);")

abbrev seven : List ℕ
seven = 7 ∷ 8 ∷ []

abbrev pub flag_rows : List Row
flag_rows =
    taped seven (after_two [] []) usual (ends_with 0 0 219 1 1 (pos 3 ∷ []) (shows 3 0 8)) ∷
    row (after_two [] []) usual (ends 0 0 219 1 1 (pos 0 ∷ [])) ∷
    -- getting register 2 clears bit 0, getting another nothing
    taped seven (after_two [] (bytes "i=Port.get(2);")) usual (ends_with 0 0 222 1 1 (pos 2 ∷ []) (shows 2 0 8)) ∷
    taped seven (after_two [] (bytes "i=Port.get(1);")) usual (ends_with 0 0 222 1 1 (pos 3 ∷ []) (shows 3 0 8)) ∷
    -- putting to register 0 clears the flags that are 1 in the value
    taped seven (after_two [] (bytes "Port.put(0,1);")) usual (ends_with 0 0 222 1 1 (pos 2 ∷ []) (shows 2 0 8)) ∷
    taped seven (after_two [] (bytes "Port.put(0,2);")) usual (ends_with 0 0 222 1 1 (pos 1 ∷ []) (shows 1 0 8)) ∷
    taped seven (after_two [] (bytes "Port.put(0,255);")) usual (ends_with 0 0 222 1 1 (pos 0 ∷ []) (shows 0 0 8)) ∷
    taped seven (after_two [] (bytes "Port.put(0,252);")) usual (ends_with 0 0 222 1 1 (pos 3 ∷ []) (shows 3 0 8)) ∷
    -- putting to register 2 does nothing
    taped seven (after_two [] (bytes "Port.put(2,0);")) usual (ends_with 0 0 222 1 1 (pos 3 ∷ []) (shows 3 0 8)) ∷
    -- bit 7: each flag has its own mask bit, and the mask keeps all its bits
    taped seven (after_two [] (bytes "Port.put(1,1);")) usual (ends_with 0 0 222 1 1 (pos 131 ∷ []) (shows 131 1 8)) ∷
    taped seven (after_two [] (bytes "Port.put(1,128);")) usual (ends_with 0 0 222 1 1 (pos 3 ∷ []) (shows 3 128 8)) ∷
    taped seven (after_two (bytes "Port.put(1,2);") (bytes "i=Port.get(2);")) usual (ends_with 0 0 225 1 1 (pos 130 ∷ []) (shows 130 2 8)) ∷
    taped seven (after_two (bytes "Port.put(1,1);") (bytes "i=Port.get(2);")) usual (ends_with 0 0 225 1 1 (pos 2 ∷ []) (shows 2 1 8)) ∷
    taped seven (after_two (bytes "Port.put(1,3);") (bytes "Port.put(0,2);")) usual (ends_with 0 0 225 1 1 (pos 129 ∷ []) (shows 129 3 8)) ∷
    []

-- REGISTERS

abbrev pub register_rows : List Row
register_rows =
    -- the others hold what was put; main may do it
    row (doing (bytes "Port.put(3,200);")) usual (ends_with 0 0 3 0 0 [] (0 ∷ 0 ∷ 0 ∷ 200 ∷ replicate 12 0)) ∷
    row (doing (bytes "Port.put(15,255);")) usual (ends_with 0 0 3 0 0 [] (replicate 15 0 ++ 255 ∷ [])) ∷
    row (doing (bytes "Port.put(2,77);")) usual (ends 0 0 3 0 0 []) ∷
    row (doing (bytes "{Port.put(1,254);System.out.println(Port.get(1));}")) usual (ends_with 0 0 7 0 0 (pos 254 ∷ []) (shows 0 254 0)) ∷
    -- 63 and 64 at the node, after all parts, 64 after 63
    row (printing (bytes "Port.get(16)")) usual (ends 63 63 3 0 0 []) ∷
    row (printing (bytes "(Port.get(0-1))")) usual (ends 63 64 5 0 0 []) ∷
    row (printing (bytes "Port.get(Port.get(16))")) usual (ends 63 72 4 0 0 []) ∷
    row (doing (bytes "Port.put(16,256);")) usual (ends 63 44 3 0 0 []) ∷
    row (doing (bytes "Port.put(15,256);")) usual (ends 64 44 3 0 0 []) ∷
    row (doing (bytes "Port.put(2,0-1);")) usual (ends 64 44 5 0 0 []) ∷
    row (doing (bytes "Port.put(16,new int[0-1].length);")) usual (ends 42 56 7 0 0 []) ∷
    -- what may follow an expression may follow a get; all parts are int
    row (printing (bytes "Port.get(1).length")) usual (refused_at 31 63) ∷
    row (printing (bytes "Port.get(true)")) usual (refused_at 31 72) ∷
    row (doing (bytes "Port.put(true,x);")) usual (refused_at 31 53) ∷
    -- `Port` is reserved, `get` and `put` are required behind it
    row (printing (bytes "Port.put(1,2)")) usual (refused_at 16 68) ∷
    row (doing (bytes "Port.get(1);")) usual (refused_at 16 49) ∷
    row (doing (bytes "Port=1;")) usual (refused_at 16 48) ∷
    row (method (bytes "int get;int put;put=3;get=put;return get;")) usual (ends 0 0 8 1 1 (pos 3 ∷ [])) ∷
    []

pub ports : All RowHolds (sample_rows ++ flag_rows ++ register_rows)
unfolding end_of
ports = hold _ (record { ends = refl; ranges = refl })
