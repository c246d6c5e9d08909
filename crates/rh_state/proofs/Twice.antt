-- Edits that are taken back and made again.
use Rattle.std.proofs.Common.{◌≡◌, true, false, not, refl, sym, ap, subst, ◌∙◌}
use Rattle.std.proofs.lemmas.Option.{unwrap_or-slice_get}
use Rattle.rh_arena.specs.Exchange as links
use Rattle.rh_arena.proofs.Exchanges.{exchange_twice as links_twice}
use Rattle.rh_wheel.specs.Edits as timers
use Rattle.rh_wheel.proofs.Exchanging.{set-back, exchange_twice as timers_twice}
use Rattle.rh_state.specs.declared.edit.Change.{Change}
use Rattle.rh_state.specs.declared.edit.Change.TheVariants.{Now, Mode, Incarnation, Allowed, Restart, Kind, Standing}
use Rattle.rh_state.specs.declared.edit.Edit.{Edit}
use Rattle.rh_state.specs.declared.edit.Edit.TheVariants.{Links, Timer, Part}
use Rattle.rh_state.specs.Edits.{put, had, exchange, turned, is_done}
use Rattle.rh_state.specs.Formed.{IsFormed}
use Rattle.rh_state.specs.Records.{CanGoBack, CanGoForth}
use Rattle.rh_state.specs.Stored.{Stored}
use Rattle.rh_state.proofs.Tables.{cell_exchanged, value_exchanged, cell_value_exchanged}

-- a part has its own value again
pub put-had : (w : Stored) (c : Change) → put (put w c) (had w c) ≡ w
put-had w (Now time) = refl
put-had w (Mode n mode) = ap (λ xs. record w { modes = xs }) (set-back w.modes n.0 mode _ mode (sym (unwrap_or-slice_get w.modes n.0 mode)))
put-had w (Incarnation n k) = ap (λ xs. record w { incarnations = xs }) (set-back w.incarnations n.0 k _ k (sym (unwrap_or-slice_get w.incarnations n.0 k)))
put-had w (Allowed n a allow) = ap (λ xs. record w { allowed = xs }) (cell_exchanged w.allowed n.0 a.0 allow)
put-had w (Restart n a restart) = ap (λ xs. record w { restarts = xs }) (cell_exchanged w.restarts n.0 a.0 restart)
put-had w (Kind n a kind) = ap (λ xs. record w { kinds = xs }) (cell_exchanged w.kinds n.0 a.0 kind)
put-had w (Standing a standing) = ap (λ xs. record w { standings = xs })
    (set-back w.standings a.0 standing _ standing (sym (unwrap_or-slice_get w.standings a.0 standing)))

-- and the change that gave it another one comes back
pub had-put : (w : Stored) (c : Change) → had (put w c) (had w c) ≡ c
had-put w (Now time) = refl
had-put w (Mode n mode) = ap (Mode n) (value_exchanged w.modes n.0 mode)
had-put w (Incarnation n k) = ap (Incarnation n) (value_exchanged w.incarnations n.0 k)
had-put w (Allowed n a allow) = ap (Allowed n a) (cell_value_exchanged w.allowed n.0 a.0 allow)
had-put w (Restart n a restart) = ap (Restart n a) (cell_value_exchanged w.restarts n.0 a.0 restart)
had-put w (Kind n a kind) = ap (Kind n a) (cell_value_exchanged w.kinds n.0 a.0 kind)
had-put w (Standing a standing) = ap (Standing a) (value_exchanged w.standings a.0 standing)

-- an exchange is taken back by the next one
pub exchange_twice : (w : Stored) (e : Edit) → exchange (exchange w e) (turned w e) ≡ w
unfolding exchange turned
exchange_twice w (Links e) = ap (λ links. record w { links = links }) (links_twice w.links e)
exchange_twice w (Timer e) = ap (λ wheel. record w { wheel = wheel }) (timers_twice w.wheel e)
exchange_twice w (Part side c) = put-had w c

-- and each changes the side
turns : (w : Stored) (e : Edit) → is_done (turned w e) ≡ not (is_done e)
unfolding turned links.turned timers.turned
turns w (Links e) = refl
turns w (Timer e) = refl
turns w (Part side c) = refl

pub done_turns : (w : Stored) (e : Edit) → is_done e ≡ true → is_done (turned w e) ≡ false
done_turns w e done = turns w e ∙ ap not done

pub undone_turns : (w : Stored) (e : Edit) → is_done e ≡ false → is_done (turned w e) ≡ true
undone_turns w e undone = turns w e ∙ ap not undone

-- an edit that was taken back can be made again, and one that was made again can be taken back
pub back_turns_one : (w : Stored) (e : Edit) → CanGoBack w e → CanGoForth (exchange w e) (turned w e)
back_turns_one w e can = record { undone = done_turns w e can.done; before = can.before; after = subst IsFormed (sym (exchange_twice w e)) can.after }

pub forth_turns_one : (w : Stored) (e : Edit) → CanGoForth w e → CanGoBack (exchange w e) (turned w e)
forth_turns_one w e can = record { done = undone_turns w e can.undone; before = subst IsFormed (sym (exchange_twice w e)) can.before; after = can.after }
