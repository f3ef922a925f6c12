-- Rows for Join, closed by computation; the answers are worked out by hand from document 02, (x).
use Rattle.std.specs.Prelude.{ℕ, ◌≡◌, refl, List, [], ◌∷◌, ◌++◌, map, length, replicate}
use Rattle.base.specs.Bytes.{bytes}
use Rattle.base.specs.Write.{WriteResult}
use Rattle.lexer.specs.Bytes.{b_space}
use Rattle.semantics.specs.Ends.{end_of, printing}
use Rattle.joining.specs.Library.{parse_library, reading_library}
use Rattle.joining.specs.Join.{joining, join}

-- a lesson, a library, the length of the work table, a byte strip, and the answer with the strip afterwards
pub record JoinRow : Type 0 where
  pub lesson : List ℕ
  pub library : List ℕ
  pub table : ℕ
  pub before : List ℕ
  pub result : WriteResult

-- a strip of spaces that is `left` bytes longer than the text, which is written
abbrev pub writes : (lesson library : List ℕ) → (left : ℕ) → (text : List ℕ) → JoinRow
writes s lib left text =
    record {
      lesson = s;
      library = lib;
      table = 16384;
      before = map (λ _. b_space) text ++ replicate left b_space;
      result = record {
        answer = record { number = 0; position = 0; count = length text };
        strip = text ++ replicate left b_space;
      };
    }

-- a strip of so many spaces, which stays as it is
abbrev pub refuses : (lesson library : List ℕ) → (table strip number position : ℕ) → JoinRow
refuses s lib table strip n p =
    record {
      lesson = s;
      library = lib;
      table = table;
      before = replicate strip b_space;
      result = record { answer = record { number = n; position = p; count = 0 }; strip = replicate strip b_space };
    }

-- 68 bytes
abbrev pub lesson : List ℕ
lesson = printing (bytes "1")

abbrev pub join_rows : List JoinRow
join_rows =
    -- no class; blanks and comments alone
    writes lesson [] 0 (lesson ++ bytes "\n") ∷
    writes lesson (bytes " // none") 2 (lesson ++ bytes "\n") ∷
    -- a comment at the lesson's end is ended by the line feed; A and M have names of the lesson; what stands between classes goes, what
    -- stands in them stays
    writes (lesson ++ bytes "class A{}//end") (bytes "/*c*/class A{} class B extends A{int x;/*in*/}//x\n class M{} class C{}") 1
    (lesson ++ bytes "class A{}//end\nclass B extends A{int x;/*in*/}\nclass C{}\n") ∷
    -- two classes of one name that the lesson lacks are both kept
    writes lesson (bytes "class B{}class B{}") 0 (lesson ++ bytes "\nclass B{}\nclass B{}\n") ∷
    -- 67: the text has 79 bytes
    refuses lesson (bytes "class B{}") 16384 78 67 0 ∷
    -- 66: no closing brace, at the end; a main class, at its `static`; a token between classes; an open comment; a leading zero
    refuses lesson (bytes "class B{") 16384 100 66 8 ∷
    refuses lesson lesson 16384 200 66 15 ∷
    refuses lesson (bytes "class B{};") 16384 100 66 9 ∷
    refuses lesson (bytes "class B{}/*") 16384 100 66 9 ∷
    refuses lesson (bytes "class B{public int f(){return 01;}}") 16384 100 66 30 ∷
    -- 66 in a class that would be dropped, and before 67
    refuses lesson (bytes "class M{int}") 16384 0 66 11 ∷
    -- Read's refusals of the lesson come before 66, and 1 before these
    refuses (bytes "class") (bytes "}") 16384 0 16 5 ∷
    refuses (bytes "class") (bytes "}") 16383 0 1 0 ∷
    []

pub joins : map (λ (r : JoinRow). join r.lesson r.library r.table r.before) join_rows ≡ map (λ (r : JoinRow). r.result) join_rows
unfolding end_of parse_library reading_library joining join
joins = refl
