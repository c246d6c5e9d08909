-- What Erlang reads and this project refuses as unsupported, where reading comes to it: behind whole terms, blanks and
-- marks, so not in a comment, and between quotes as an escape alone.
-- Bytes are written as numbers: 10 is LF, 34 `"`, 37 `%`, 39 `'`, 44 `,`, 45 `-`, 46 `.`, 91 `[`, 92 `\`, 93 `]`,
-- 123 `{`, 124 `|`, 125 `}`.
use Rattle.std.specs.Prelude.{◌≡◌, ◌<◌, ◌+◌, ℕ, suc, List, [], ◌∷◌, ◌++◌, length, Bool, true, false, ◌==◌, None, ◌⊎◌}
use Rattle.std.specs.Prelude.{count_by}
use Rattle.std.specs.List.{list_all}
use Rattle.rh_terms.specs.declared.nest.TheConstants.{MAX_DEPTH}
use Rattle.rh_terms.specs.Bytes.{is_digit, is_end, is_unsupported, begins}
use Rattle.rh_terms.specs.Tokens.{escape, number, fits, is_other_number}
use Rattle.rh_terms.specs.Spelling.{IsQuoted, IsBlank, Spells}
use Rattle.rh_base.specs.Tree.{Tree}

-- the bytes begin with `$`, `#`, `<`, `~`, `+`, or a character past ASCII
abbrev pub IsSign : List ℕ → Type 0
IsSign rest = begins is_unsupported rest ≡ true

-- the rest of a float, of an integer with a base, or of digits with underscores, behind digits
abbrev pub IsOtherNumber : Bool → List ℕ → List ℕ → Type 0
IsOtherNumber minus digits rest =
    (0 < length digits) × (list_all is_digit digits ≡ true) × (fits minus (number digits) ≡ true) × (is_other_number rest ≡ true)

-- A construct within a term, or where a term has to stand: first what comes before it, from where the term begins, then
-- what comes from it on (ours).
mutual
  pub data InTerm : ℕ → List ℕ → List ℕ → Type 0 where
    sign : (room : ℕ) (rest : List ℕ) → IsSign rest → InTerm room [] rest
    minus_sign : (room : ℕ) (rest : List ℕ) → IsSign rest → InTerm room (45 ∷ []) rest
    number_of : (room : ℕ) (digits rest : List ℕ) → IsOtherNumber false digits rest → InTerm room digits rest
    minus_number : (room : ℕ) (digits rest : List ℕ) → IsOtherNumber true digits rest → InTerm room (45 ∷ digits) rest
    -- a `\` before a byte that no escape has
    escape_of :
        (room quote : ℕ) (s content : List ℕ) (b : ℕ) (rest : List ℕ) → (quote ≡ 34) ⊎ (quote ≡ 39)
        → IsQuoted quote s content → escape b ≡ None → InTerm room (quote ∷ s) (92 ∷ (b ∷ rest))
    -- the second of two texts that would be joined
    text_of :
        (room : ℕ) (s content blank rest : List ℕ) → IsQuoted 34 s content → IsBlank blank
        → InTerm room (34 ∷ (s ++ 34 ∷ blank)) (34 ∷ rest)
    list_of :
        (room : ℕ) (a front rest : List ℕ) → IsBlank a → InElements room 93 front rest
        → InTerm (suc room) (91 ∷ (a ++ front)) rest
    tuple_of :
        (room : ℕ) (a front rest : List ℕ) → IsBlank a → InElements room 125 front rest
        → InTerm (suc room) (123 ∷ (a ++ front)) rest

  -- among the elements up to this closing byte
  pub data InElements : ℕ → ℕ → List ℕ → List ℕ → Type 0 where
    element : (room close : ℕ) (front rest : List ℕ) → InTerm room front rest → InElements room close front rest
    sign_behind :
        (room close : ℕ) (t : Tree) (s b rest : List ℕ) → Spells room t s → IsBlank b → IsSign rest
        → InElements room close (s ++ b) rest
    -- the `|` of an improper list
    bar :
        (room : ℕ) (t : Tree) (s b rest : List ℕ) → Spells room t s → IsBlank b → begins (λ x. x == 124) rest ≡ true
        → InElements room 93 (s ++ b) rest
    comma :
        (room close : ℕ) (t : Tree) (s b a front rest : List ℕ) → Spells room t s → IsBlank b → IsBlank a
        → InElements room close front rest → InElements room close (s ++ (b ++ 44 ∷ (a ++ front))) rest

-- the same of a whole text
pub data InText : List ℕ → List ℕ → Type 0 where
  term : (a front rest : List ℕ) → IsBlank a → InTerm MAX_DEPTH front rest → InText (a ++ front) rest
  sign_behind :
      (t : Tree) (a s b rest : List ℕ) → IsBlank a → Spells MAX_DEPTH t s → IsBlank b → IsSign rest
      → InText (a ++ (s ++ b)) rest
  sign_at_dot :
      (t : Tree) (a s b rest : List ℕ) → IsBlank a → Spells MAX_DEPTH t s → IsBlank b → IsSign rest
      → InText (a ++ (s ++ (b ++ 46 ∷ []))) rest
  dot :
      (t : Tree) (a s b front rest : List ℕ) → IsBlank a → Spells MAX_DEPTH t s → IsBlank b
      → begins is_end (front ++ rest) ≡ true → InText front rest → InText (a ++ (s ++ (b ++ 46 ∷ front))) rest

-- one of them stands on this line of the text
pub record HasConstruct (line : ℕ) (bytes : List ℕ) : Type 0 where
  pub front : List ℕ
  pub rest : List ℕ
  pub parts : bytes ≡ front ++ rest
  pub line_is : line ≡ count_by (λ b. b == 10) front + 1
  pub is : InText front rest
