-- Edits of timers: the edit of the slots' links, and a timer with a due time that is exchanged for its own (ours).
use Rattle.std.specs.Prelude.{ℕ, Bool, List, Option, slice_index_or, slice_set}
use Rattle.rh_arena.specs.declared.change.Change.{Change}
use Rattle.rh_arena.specs.Exchange.{exchange as exchange_links, turned as turned_links, EditView as LinksView}
use Rattle.rh_wheel.specs.Stored.{Stored}

pub record EditView : Type 0 where
  pub is_done : Bool
  pub changes : List Change
  -- a timer, and when it is due on the other side of the change, if it is armed there
  pub timer : ℕ
  pub due : Option ℕ

abbrev pub links_of : EditView → LinksView
links_of e = record { is_done = e.is_done; changes = e.changes }

-- what is kept, with the values of an edit
unfoldable pub exchange : Stored → EditView → Stored
exchange w e = record { links = exchange_links w.links (links_of e); dues = slice_set w.dues e.timer e.due }

-- the edit on its other side, with the values that there were
unfoldable pub turned : Stored → EditView → EditView
turned w e =
    let links = turned_links w.links (links_of e) in
    record { is_done = links.is_done; changes = links.changes; timer = e.timer; due = slice_index_or w.dues e.timer e.due }
