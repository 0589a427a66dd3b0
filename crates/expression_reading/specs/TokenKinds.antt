-- The kind of a token: a symbol, a function's name, a variable, a number, or none of them.
use Rattle.std.specs.Prelude.{◌≢◌, ℕ, suc, ◌<◌, nat_lt, ◌&&◌, List, [], ◌∷◌, map, slice_index_or, Option, Some, None, if◌then◌else◌, codes}
use Rattle.std.specs.List.{All, AllPairs}
use Rattle.std.specs.Option.{option_map}
use Rattle.std.specs.Str.{bytes_eq}
use Rattle.std.specs.Str.Parse.{digits_value}
use Rattle.std.specs.Fmt.{decimal}
use Rattle.line_words.specs.Names.{IsName}
use Rattle.expression_reading.specs.declared.token_kind.TokenKind.{TokenKind}
use Rattle.expression_reading.specs.declared.token_kind.TokenKind.TheVariants as kind
use Rattle.base.specs.declared.limits.TheConstants.{NUMBER_LIMIT}

-- The names of variables differ from each other, and none is reserved.
pub record AreNames (names : List (List ℕ)) : Type 0 where
  pub each : All IsName names
  pub differ : AllPairs (λ a b. a ≢ b) names

-- ---- the kind of a token

-- what f makes of a value, or d where there is none
abbrev pub or_else : {A B : Type 0} → Option A → B → (A → B) → B
or_else None d f = d
or_else (Some x) d f = f x

-- the kind of a symbol
abbrev pub parse_symbol : List ℕ → Option TokenKind
parse_symbol token =
    if bytes_eq token (codes "+") then Some kind.Plus
    else (if bytes_eq token (codes "-") then Some kind.Minus
    else (if bytes_eq token (codes "*") then Some kind.Star
    else (if bytes_eq token (codes "/") then Some kind.Slash
    else (if bytes_eq token (codes "(") then Some kind.Open
    else (if bytes_eq token (codes ")") then Some kind.Close
    else (if bytes_eq token (codes ",") then Some kind.Comma
    else (if bytes_eq token (codes ":") then Some kind.Colon else None)))))))

-- the kind of a function's name
abbrev pub parse_function : List ℕ → Option TokenKind
parse_function token =
    if bytes_eq token (codes "min") then Some kind.Min
    else (if bytes_eq token (codes "max") then Some kind.Max
    else (if bytes_eq token (codes "abs") then Some kind.Abs
    else (if bytes_eq token (codes "lut") then Some kind.Lut else None)))

-- the number that a token spells in its one spelling
unfoldable pub parse_literal : List ℕ → Option ℕ
parse_literal token = if bytes_eq (decimal (digits_value 10 token)) token && nat_lt (digits_value 10 token) NUMBER_LIMIT then Some (digits_value 10 token) else None

-- the position of a name
abbrev pub position_in : List (List ℕ) → List ℕ → Option ℕ
position_in [] token = None
position_in (name ∷ names) token = if bytes_eq name token then Some 0 else option_map suc (position_in names token)

-- a number, or what no expression has
abbrev pub number_kind : Option ℕ → TokenKind
number_kind o = or_else o kind.Other (λ k. kind.Number k)

-- a variable or a number
abbrev pub leaf_of : List (List ℕ) → List ℕ → TokenKind
leaf_of names token = or_else (position_in names token) (number_kind (parse_literal token)) (λ i. kind.Variable i)

-- a symbol, a function's name, or a leaf
abbrev pub kind_of : List (List ℕ) → List ℕ → TokenKind
kind_of names token = or_else (parse_symbol token) (or_else (parse_function token) (leaf_of names token) (λ t. t)) (λ t. t)

-- the kinds of tokens, over variables of these names
abbrev pub kinds_among : List (List ℕ) → List (List ℕ) → List TokenKind
kinds_among names tokens = map (kind_of names) tokens

-- ---- the tokens of a kind

-- how a kind is spelled
abbrev pub spelling_of : List (List ℕ) → TokenKind → List ℕ
spelling_of names (kind.Number k) = decimal k
spelling_of names (kind.Variable i) = slice_index_or names i []
spelling_of names kind.Plus = codes "+"
spelling_of names kind.Minus = codes "-"
spelling_of names kind.Star = codes "*"
spelling_of names kind.Slash = codes "/"
spelling_of names kind.Open = codes "("
spelling_of names kind.Close = codes ")"
spelling_of names kind.Comma = codes ","
spelling_of names kind.Colon = codes ":"
spelling_of names kind.Min = codes "min"
spelling_of names kind.Max = codes "max"
spelling_of names kind.Abs = codes "abs"
spelling_of names kind.Lut = codes "lut"
spelling_of names kind.Other = []

-- the kinds that an expression over m variables may have
abbrev pub IsKind : ℕ → TokenKind → Type 0
IsKind m (kind.Number k) = k < NUMBER_LIMIT
IsKind m (kind.Variable i) = i < m
IsKind m kind.Other = ⊥
IsKind m t = Unit {0}
