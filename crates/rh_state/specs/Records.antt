-- Edits that follow one another, and lead from what was kept to what is kept (ours).
use Rattle.std.specs.Prelude.{◌≡◌, ◌++◌, true, false, List}
use Rattle.rh_base.specs.Exchanges.{back, AllBack}
use Rattle.rh_state.specs.declared.edit.Edit.{Edit}
use Rattle.rh_state.specs.Edits.{exchange, is_done}
use Rattle.rh_state.specs.Formed.{IsFormed}
use Rattle.rh_state.specs.Stored.{Stored}

-- the edit can be taken back: it is done, and what is kept is well formed before and after
pub record CanGoBack (w : Stored) (e : Edit) : Type 0 where
  pub done : is_done e ≡ true
  pub before : IsFormed (exchange w e)
  pub after : IsFormed w

-- and can be made again
pub record CanGoForth (w : Stored) (e : Edit) : Type 0 where
  pub undone : is_done e ≡ false
  pub before : IsFormed w
  pub after : IsFormed (exchange w e)

-- done edits that led from v to w: taken back one after the other, from the last to the first, they give v again
pub record LedBy (v : Stored) (edits : List Edit) (w : Stored) : Type 0 where
  pub all : AllBack exchange CanGoBack w edits
  pub back : back exchange w edits ≡ v

-- edits were added that led from v to w
pub record Grows (v : Stored) (old : List Edit) (w : Stored) (new : List Edit) : Type 0 where
  pub added : List Edit
  pub is : new ≡ old ++ added
  pub led : LedBy v added w
