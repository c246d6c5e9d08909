-- Edits of a state: what a setter changed, with values that are exchanged for those that are kept (ours).
use Rattle.std.specs.Prelude.{ℕ, ◌+◌, Bool, not, length, slice_get, slice_set, unwrap_or}
use Rattle.rh_arena.specs.Exchange as links
use Rattle.rh_wheel.specs.Edits as timers
use Rattle.rh_state.specs.declared.edit.Change.{Change}
use Rattle.rh_state.specs.declared.edit.Change.TheVariants.{Now, Mode, Incarnation, Allowed, Restart, Kind, Standing}
use Rattle.rh_state.specs.declared.edit.Edit.{Edit}
use Rattle.rh_state.specs.declared.edit.Edit.TheVariants.{Links, Timer, Part}
use Rattle.rh_state.specs.Tables.{row, with_cell}
use Rattle.rh_state.specs.Stored.{Stored}

-- what is kept, with one part that has the value of a change
abbrev pub put : Stored → Change → Stored
put w (Now time) = record w { time = time }
put w (Mode n mode) = record w { modes = slice_set w.modes n.0 mode }
put w (Incarnation n incarnation) = record w { incarnations = slice_set w.incarnations n.0 incarnation }
put w (Allowed n a allow) = record w { allowed = with_cell w.allowed n.0 a.0 allow }
put w (Restart n a restart) = record w { restarts = with_cell w.restarts n.0 a.0 restart }
put w (Kind n a kind) = record w { kinds = with_cell w.kinds n.0 a.0 kind }
put w (Standing a standing) = record w { standings = slice_set w.standings a.0 standing }

-- the change of the same part to the value that it has (a part that isn't there has any)
abbrev pub had : Stored → Change → Change
had w (Now time) = Now w.time
had w (Mode n mode) = Mode n (unwrap_or (slice_get w.modes n.0) mode)
had w (Incarnation n incarnation) = Incarnation n (unwrap_or (slice_get w.incarnations n.0) incarnation)
had w (Allowed n a allow) = Allowed n a (unwrap_or (slice_get (row w.allowed n.0) a.0) allow)
had w (Restart n a restart) = Restart n a (unwrap_or (slice_get (row w.restarts n.0) a.0) restart)
had w (Kind n a kind) = Kind n a (unwrap_or (slice_get (row w.kinds n.0) a.0) kind)
had w (Standing a standing) = Standing a (unwrap_or (slice_get w.standings a.0) standing)

-- the side of an edit
abbrev pub is_done : Edit → Bool
is_done (Links e) = e.is_done
is_done (Timer e) = e.is_done
is_done (Part done c) = done

-- how many words it has a value of: those of lists, and the due of a timer; or one single part
abbrev pub words_of : Edit → ℕ
words_of (Links e) = length e.changes
words_of (Timer e) = length e.changes + 1
words_of (Part done c) = 1

-- what is kept, with the values of an edit
unfoldable pub exchange : Stored → Edit → Stored
exchange w (Links e) = record w { links = links.exchange w.links e }
exchange w (Timer e) = record w { wheel = timers.exchange w.wheel e }
exchange w (Part done c) = put w c

-- the edit on its other side, with the values that there were
unfoldable pub turned : Stored → Edit → Edit
turned w (Links e) = Links (links.turned w.links e)
turned w (Timer e) = Timer (timers.turned w.wheel e)
turned w (Part done c) = Part (not done) (had w c)
