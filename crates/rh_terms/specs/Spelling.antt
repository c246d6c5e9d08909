-- The grammar: which bytes spell which terms (Reference Manual, Data Types).
-- Bytes are written as numbers: 10 is LF, 34 `"`, 37 `%`, 39 `'`, 44 `,`, 45 `-`, 46 `.`, 91 `[`, 92 `\`, 93 `]`,
-- 123 `{`, 124 `|`, 125 `}`.
use Rattle.std.specs.Prelude.{◌≡◌, ◌<◌, ℕ, suc, List, [], ◌∷◌, ◌++◌, length, true, false, not, ◌==◌, Some, ◌⊎◌}
use Rattle.std.specs.List.{list_all}
use Rattle.rh_terms.specs.declared.nest.TheConstants.{MAX_DEPTH}
use Rattle.rh_terms.specs.Bytes.{is_white, is_digit, is_lower, is_atom_byte, is_end, begins}
use Rattle.rh_terms.specs.Tokens.{escape, number, fits, signed}
use Rattle.rh_base.specs.Tree.{Tree, Trees, atom, int, text, list, tuple, none, more}

-- bytes within a line
abbrev pub InLine : List ℕ → Type 0
InLine bs = list_all (λ b. not (b == 10)) bs ≡ true

-- White space, and comments with the ends of their lines (Reference Manual, Modules, Comments).
pub data IsBlank : List ℕ → Type 0 where
  nothing : IsBlank []
  white : (b : ℕ) (bs : List ℕ) → is_white b ≡ true → IsBlank bs → IsBlank (b ∷ bs)
  comment : (line bs : List ℕ) → InLine line → IsBlank bs → IsBlank (37 ∷ (line ++ 10 ∷ bs))

-- What stands between quotes, and the bytes that it stands for (Data Types, Escape Sequences).
pub data IsQuoted (quote : ℕ) : List ℕ → List ℕ → Type 0 where
  nothing : IsQuoted quote [] []
  plain :
      (b : ℕ) (bs content : List ℕ) → (b == quote) ≡ false → (b == 92) ≡ false → IsQuoted quote bs content
      → IsQuoted quote (b ∷ bs) (b ∷ content)
  escaped :
      (b x : ℕ) (bs content : List ℕ) → escape b ≡ Some x → IsQuoted quote bs content
      → IsQuoted quote (92 ∷ (b ∷ bs)) (x ∷ content)

-- The spelling of a term, with room for so many lists and tuples inside each other.
mutual
  pub data Spells : ℕ → Tree → List ℕ → Type 0 where
    name :
        (room : ℕ) (s : List ℕ) → begins is_lower s ≡ true → list_all is_atom_byte s ≡ true → Spells room (atom s) s
    quoted_atom :
        (room : ℕ) (s content : List ℕ) → IsQuoted 39 s content → Spells room (atom content) (39 ∷ (s ++ 39 ∷ []))
    text_of :
        (room : ℕ) (s content : List ℕ) → IsQuoted 34 s content → Spells room (text content) (34 ∷ (s ++ 34 ∷ []))
    integer :
        (room : ℕ) (s : List ℕ) → 0 < length s → list_all is_digit s ≡ true → fits false (number s) ≡ true
        → Spells room (int (signed false (number s))) s
    minus :
        (room : ℕ) (s : List ℕ) → 0 < length s → list_all is_digit s ≡ true → fits true (number s) ≡ true
        → Spells room (int (signed true (number s))) (45 ∷ s)
    list_of :
        (room : ℕ) (ts : Trees) (s : List ℕ) → IsInside room ts s
        → Spells (suc room) (list ts) (91 ∷ (s ++ 93 ∷ []))
    tuple_of :
        (room : ℕ) (ts : Trees) (s : List ℕ) → IsInside room ts s
        → Spells (suc room) (tuple ts) (123 ∷ (s ++ 125 ∷ []))

  -- between the brackets
  pub data IsInside : ℕ → Trees → List ℕ → Type 0 where
    nothing : (room : ℕ) (a : List ℕ) → IsBlank a → IsInside room none a
    some : (room : ℕ) (ts : Trees) (a s : List ℕ) → IsBlank a → AreSeparated room ts s → IsInside room ts (a ++ s)

  -- elements and the commas between them
  pub data AreSeparated : ℕ → Trees → List ℕ → Type 0 where
    last :
        (room : ℕ) (t : Tree) (s b : List ℕ) → Spells room t s → IsBlank b
        → AreSeparated room (more t none) (s ++ b)
    comma :
        (room : ℕ) (t : Tree) (ts : Trees) (s b a r : List ℕ) → Spells room t s → IsBlank b → IsBlank a
        → AreSeparated room ts r → AreSeparated room (more t ts) (s ++ (b ++ 44 ∷ (a ++ r)))

-- The spelling of a whole text: terms, each followed by a dot (kernel, file, consult/1). The last line may be a comment
-- without its end.
pub data AreDotted : Trees → List ℕ → Type 0 where
  nothing : (a : List ℕ) → IsBlank a → AreDotted none a
  last_comment : (a line : List ℕ) → IsBlank a → InLine line → AreDotted none (a ++ 37 ∷ line)
  term :
      (t : Tree) (ts : Trees) (a s b r : List ℕ) → IsBlank a → Spells MAX_DEPTH t s → IsBlank b
      → (length r ≡ 0) ⊎ (begins is_end r ≡ true) → AreDotted ts r
      → AreDotted (more t ts) (a ++ (s ++ (b ++ 46 ∷ r)))
