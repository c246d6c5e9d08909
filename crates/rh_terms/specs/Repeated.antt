-- A list that is read the same wherever its text stands.
use Rattle.std.specs.Prelude.{◌≡◌, ◌<◌, ℕ, List, ◌++◌, length, Some, Ok}
use Rattle.rh_terms.specs.declared.repeats.Again.{Again}
use Rattle.rh_base.specs.declared.term.Terms.{Terms}
use Rattle.rh_base.specs.Tree.{list, trees_of, items_of}
use Rattle.rh_terms.specs.Grammar.{term_at}
use Rattle.rh_terms.specs.Kept.{behind}

-- of this text this list is read, whatever stands behind it
abbrev pub Repeats : ℕ → List ℕ → Terms → Type 0
Repeats room text ts = (rest : List ℕ) → term_at room (text ++ rest) ≡ Ok (list (trees_of (items_of ts)), rest)

-- of this text a term is read to its end, whatever stands behind it
abbrev pub Ends : ℕ → List ℕ → Type 0
Ends room text = (rest : List ℕ) → behind (term_at room (text ++ rest)) ≡ Ok rest

-- the list that is remembered, if any, is read of its text, and a term of the text that was skipped, if any was
pub record IsRead (again : Again) : Type 0 where
  pub kept : (ts : Terms) → again.list ≡ Some ts → Repeats again.room again.text.now ts
  pub skipped : 0 < length again.skipped.now → Ends again.skipped_room again.skipped.now
