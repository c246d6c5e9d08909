-- What Erlang reads, and the reader of cluster files doesn't (Erlang Reference Manual, Data Types; which of them are read is ours).
-- Bytes are written as numbers: 32 is a blank, 35 `#`, 36 `$`, 40 `(`, 44 a comma, 46 a dot, 60 `<`, 91 `[`, 95 `_`, 123 `{`.
use Rattle.std.specs.Prelude.{ℕ, List, [], ◌∷◌, codes, nat_eq, nat_le, unwrap_or, slice_get, Bool, false, ◌&&◌, ◌||◌, ◌==◌, Option, Some, None}
use Rattle.std.specs.List.{find, starts_with}
use Rattle.rh_cluster_lint.specs.declared.constructs.Construct.{Construct}
use Rattle.rh_cluster_lint.specs.declared.constructs.Construct.TheVariants.{Binary, Map, BasedInteger, Float, Char, Fun, Variable}

-- the byte at a place, or 0
abbrev pub byte_at : List ℕ → ℕ → ℕ
byte_at bytes place = unwrap_or (slice_get bytes place) 0

abbrev pub is_digit : ℕ → Bool
is_digit b = nat_le 48 b && nat_le b 57

-- what can stand right before or behind a word: a blank, a comma, a bracket that opens
abbrev pub goes_before : ℕ → Bool
goes_before b = (b == 32) || (b == 44) || (b == 91) || (b == 123) || (b == 40)

-- a construct begins with this byte, before these; a word begins behind the byte
unfoldable pub begins_here : Construct → ℕ → List ℕ → Bool
begins_here Binary b bs = (b == 60) && (byte_at bs 0 == 60)
begins_here Map b bs = (b == 35) && (byte_at bs 0 == 123)
begins_here BasedInteger b bs = is_digit b && (byte_at bs 0 == 35)
begins_here Float b bs = is_digit b && (byte_at bs 0 == 46) && is_digit (byte_at bs 1)
begins_here Char b bs = b == 36
begins_here Fun b bs = goes_before b && starts_with nat_eq bs (codes "fun") && goes_before (byte_at bs 3)
begins_here Variable b bs = goes_before b && ((nat_le 65 (byte_at bs 0) && nat_le (byte_at bs 0) 90) || (byte_at bs 0 == 95))

-- it stands in a line
abbrev pub stands_in : Construct → List ℕ → Bool
stands_in c [] = false
stands_in c (b ∷ bs) = begins_here c b bs || stands_in c bs

-- all of them, in the order in which they are looked for
abbrev pub constructs : List Construct
constructs = Binary ∷ Map ∷ BasedInteger ∷ Float ∷ Char ∷ Fun ∷ Variable ∷ []

-- what is told of it
abbrev pub construct_words : Construct → List ℕ
construct_words Binary = codes "; << begins a binary, which isn't read"
construct_words Map = codes "; #{ begins a map, which isn't read"
construct_words BasedInteger = codes "; an integer with a base, as 16#ff, isn't read"
construct_words Float = codes "; a float, as 1.5, isn't read"
construct_words Char = codes "; a character, as $a, isn't read: write its number"
construct_words Fun = codes "; a fun isn't read"
construct_words Variable = codes "; what begins with a capital or _ is a variable: quotes make it a name"

abbrev pub told_of : Option Construct → List ℕ
told_of None = []
told_of (Some c) = construct_words c

-- what is told of the first of them that stands in a line
abbrev pub construct_in : List ℕ → List ℕ
construct_in line = told_of (find (λ c. stands_in c line) constructs)
