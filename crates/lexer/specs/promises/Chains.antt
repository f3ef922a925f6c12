-- The work table while the lexer fills it: the tokens are read off it, with `c_length` for a token's length, and the names stand in chains.
-- `c_head` of row b is the head of bucket b and `c_link` of a row the link to the next one of its chain: a row plus one, or 0 for none.
use Rattle.std.specs.Prelude.{ℕ, zero, suc, ◌+◌, ◌*◌, ◌-◌, ◌%◌, ◌≤◌, ◌<◌, List, [], ◌∷◌, ◌++◌, true, ◌≡◌, length, take, drop, Result, Ok, Err}
use Rattle.base.specs.Outcome.{Outcome, accepted, refused, ◌>>=◌}
use Rattle.base.specs.promises.Table.{col, put, rows, size, c_kind, c_start, c_number, c_head, c_link, c_length}
use Rattle.base.specs.Codes.{source_most}
use Rattle.lexer.specs.Kinds.{k_literal, k_fixed_literal, is_name_lem}
use Rattle.lexer.specs.Tokens.{Token, token, decimal, thousandths_of_lem, turn}
use Rattle.lexer.specs.promises.Rows.{first_named}
use Rattle.base.specs.declared.refusal.Refusal.{Refusal}
use Rattle.base.specs.promises.Refusals.{number_of}

-- the bucket of a name
unfoldable pub bucket_from : (h : ℕ) → List ℕ → ℕ
bucket_from h [] = h
bucket_from h (b ∷ bs) = bucket_from ((h * 31 + b) % rows) bs

-- the bytes of the token of row i
unfoldable pub text_from : (s tab : List ℕ) → ℕ → List ℕ
text_from s tab i = take (col tab c_length i) (drop (col tab c_start i) s)

abbrev pub row_token : (s tab : List ℕ) → ℕ → Token
row_token s tab i = record { kind = col tab c_kind i; start = col tab c_start i; text = text_from s tab i }

-- the tokens of the first n rows
unfoldable pub tokens_of : (s tab : List ℕ) → ℕ → List Token
tokens_of s tab zero = []
tokens_of s tab (suc n) = tokens_of s tab n ++ (row_token s tab n ∷ [])

-- a token's row: its kind, its position, its name's number or literal's value, the link to the next row of its chain, its length
pub record TokenRow : Type 0 where
  pub kind : ℕ
  pub start : ℕ
  pub number : ℕ
  pub link : ℕ
  pub length : ℕ

-- the row of a token of kind k from i to e
abbrev pub token_row : (k i e number link : ℕ) → TokenRow
token_row k i e number link = record { kind = k; start = i; number = number; link = link; length = e - i }

-- a row as it is stored
unfoldable pub stored_row : List ℕ → ℕ → TokenRow → List ℕ
stored_row tab i r = put (put (put (put (put tab c_kind i r.kind) c_start i r.start) c_number i r.number) c_link i r.link) c_length i r.length

-- the first n buckets are empty
pub record NoNames (tab : List ℕ) (n : ℕ) : Type 0 where
  pub heads : (b : ℕ) → b < n → col tab c_head b ≡ 0

-- a link to a name among the first n rows, or to none
pub record Link (tab : List ℕ) (n x : ℕ) : Type 0 where
  pub below : x ≤ n
  pub named : (j : ℕ) → x ≡ j + 1 → is_name_lem (col tab c_kind j) ≡ true

-- a chain that begins with the link x has a row with the text t
pub data Reaches (s tab : List ℕ) (n : ℕ) (t : List ℕ) : ℕ → Type 0 where
  here : {x : ℕ} (j : ℕ) → j < n → x ≡ j + 1 → text_from s tab j ≡ t → Reaches s tab n t x
  next : {x : ℕ} (j : ℕ) → j < n → x ≡ j + 1 → Reaches s tab n t (col tab c_link j) → Reaches s tab n t x

-- a row's number is right by the rows before it
pub record Numbered (s tab : List ℕ) (i : ℕ) : Type 0 where
  pub inside : col tab c_start i + col tab c_length i ≤ length s
  pub link : Link tab i (col tab c_link i)
  pub name : is_name_lem (col tab c_kind i) ≡ true → col tab c_number i ≡ first_named (tokens_of s tab i) (text_from s tab i)
  pub literal : col tab c_kind i ≡ k_literal → col tab c_number i ≡ decimal 0 (text_from s tab i)
  pub fixed : col tab c_kind i ≡ k_fixed_literal → col tab c_number i ≡ thousandths_of_lem (text_from s tab i)

-- the first n rows hold tokens
pub record RowsFilled (s tab : List ℕ) (n : ℕ) : Type 0 where
  pub big : size ≤ length tab
  pub few : n ≤ rows
  pub row : (i : ℕ) → i < n → Numbered s tab i

-- and each name is in the chain of its bucket, or another with its text is
pub record Chained (s tab : List ℕ) (n : ℕ) : Type 0 where
  pub filled : RowsFilled s tab n
  pub heads : (b : ℕ) → b < rows → Link tab n (col tab c_head b)
  pub found : (j : ℕ) → j < n → is_name_lem (col tab c_kind j) ≡ true → Reaches s tab n (text_from s tab j) (col tab c_head (bucket_from 0 (text_from s tab j)))

-- a chain, from the link `head` on, in which a name with the text t is looked for: if a row has it, the chain has
pub record Sought (s tab : List ℕ) (n head : ℕ) (t : List ℕ) : Type 0 where
  pub filled : RowsFilled s tab n
  pub link : Link tab n head
  pub found : (j : ℕ) → j < n → is_name_lem (col tab c_kind j) ≡ true → text_from s tab j ≡ t → Reaches s tab n t head

-- a token from i to e is to become row n
pub record Adding (s tab : List ℕ) (n i e : ℕ) : Type 0 where
  pub chained : Chained s tab n
  pub ordered : i ≤ e
  pub inside : e ≤ length s
  pub short : length s ≤ source_most

-- it became that row
pub record Extended (s tab : List ℕ) (n k i e : ℕ) (tab' : List ℕ) : Type 0 where
  pub chained : Chained s tab' (n + 1)
  pub tokens : tokens_of s tab' (n + 1) ≡ tokens_of s tab n ++ ((record { kind = k; start = i; text = take (e - i) (drop i s) }) ∷ [])

-- a token is refused, or it becomes row n: either as the definition has it, whatever follows
pub record Added (s tab : List ℕ) (n k i e : ℕ) (r : Result (Unit {0}) Refusal) (tab' : List ℕ) : Type 0 where
  pub refusal : (q : Refusal) → r ≡ Err q
      → (next : ℕ → ℕ → Outcome (List Token)) → turn next n i (token k (take (e - i) (drop i s))) ≡ refused (number_of q.reason) q.position
  pub done : r ≡ Ok tt → Extended s tab n k i e tab'
  pub passed : r ≡ Ok tt → (next : ℕ → ℕ → Outcome (List Token))
      → turn next n i (token k (take (e - i) (drop i s)))
      ≡ (next (n + 1) e >>= λ ts. accepted ((record { kind = k; start = i; text = take (e - i) (drop i s) }) ∷ ts))
