-- What settling keeps between its moves, so that no move is searched for from the beginning (ours).
use Rattle.std.specs.Prelude.{◌≡◌, ◌&&◌, ◌||◌, List, [], ◌∷◌, Bool, true, false, slice_get, unwrap_or, is_some}
use Rattle.std.specs.List.{list_any}
use Rattle.rh_model.specs.declared.node.Node.{Node}
use Rattle.rh_model.specs.declared.node.App.{App}
use Rattle.rh_model.specs.ClusterView.{ClusterView, group_of}
use Rattle.rh_model.specs.Marks.{AppMarks, is_marked, touches}
use Rattle.rh_state.specs.declared.status.Standing.{Standing}
use Rattle.rh_state.specs.declared.status.Standing.TheVariants.{Wanted}
use Rattle.rh_state.specs.Numbers.{apps_of}
use Rattle.rh_state.specs.Shape.{IsNodeOf, IsAppOf}
use Rattle.rh_state.specs.StateView.{StateView, standing_of}
use Rattle.rh_base.specs.Lists.{head}
use Rattle.rh_rules.specs.Placing.{is_operational}
use Rattle.rh_place.specs.Sets.{NodeBits, has}
use Rattle.rh_rules.specs.declared.notice.Move.{Move}
use Rattle.rh_rules.specs.declared.notice.Move.TheVariants.{Local, Placement, Takeover}
use Rattle.rh_rules.specs.declared.notice.Pair.{Pair}
use Rattle.rh_rules.specs.Course.{is_fresh, is_local}
use Rattle.rh_rules.specs.Moves.{local_moves}

-- for each application, by its number, a set of nodes
pub record AppSets : Type 0 where
  pub sets : List NodeBits

-- an application without a set has the one without a node
abbrev pub set_of : AppSets → App → NodeBits
set_of t a = unwrap_or (slice_get t.sets a.0) (record { bits = 0 })

-- a node is in the set of an application
unfoldable pub is_among : AppSets → App → Node → Bool
is_among t a n = has (set_of t a) n

-- a set of nodes, and for each application two marks
pub record ReadyView : Type 0 where
  pub starts : NodeBits
  pub local : AppMarks
  pub wanted : AppMarks

-- a set of nodes, and for each application two marks and two sets of nodes
pub record BoardView : Type 0 where
  pub starts : NodeBits
  pub local : AppMarks
  pub moving : AppMarks
  pub fresh : AppSets
  pub able : AppSets

-- of the applications of a cluster the local ones are marked
abbrev pub AreLocals : ClusterView → AppMarks → Type 0
AreLocals c marks = (a : App) → IsAppOf c a → is_marked marks a ≡ is_local c a

-- each application that has a node in its set is marked
abbrev pub Covers : AppMarks → AppSets → Type 0
Covers marks sets = (a : App) (n : Node) → is_among sets a n ≡ true → is_marked marks a ≡ true

-- an application is to run
abbrev pub is_wanted : Standing → Bool
is_wanted (Wanted from) = true
is_wanted _ = false

-- the nodes at which a local application can start, the local applications, and those that are to run
pub record IsReadyOf (s : StateView) (r : ReadyView) : Type 0 where
  pub starts : (n : Node) → has r.starts n ≡ is_some (head (local_moves s n))
  pub local : AreLocals s.cluster r.local
  pub wanted : (a : App) → IsAppOf s.cluster a → is_marked r.wanted a ≡ is_wanted (standing_of s a)

-- where an application can run matters to its placement, and at the nodes of its fresh pairs to its takeover
abbrev pub matters : StateView → AppSets → App → Node → Bool
matters s fresh a n = is_wanted (standing_of s a) || is_among fresh a n

-- to its placement it matters at the nodes of its list only
abbrev pub is_asked : StateView → AppSets → App → Node → Bool
is_asked s fresh a n = (is_wanted (standing_of s a) && is_some (group_of s.cluster a n)) || is_among fresh a n

-- a move of an application can change which local application can start: it touches one of them
unfoldable pub touches_local : ClusterView → App → Bool
touches_local c moved = list_any (λ a. is_local c a && touches c moved a) (apps_of c)

-- at a node: a local application can start there, and an application can run there, wherever that is asked; and where it
-- matters the application is marked
pub record IsExactAt (s : StateView) (b : BoardView) (n : Node) : Type 0 where
  pub starts : has b.starts n ≡ is_some (head (local_moves s n))
  pub moving : (a : App) → IsAppOf s.cluster a → matters s b.fresh a n ≡ true → is_marked b.moving a ≡ true
  pub able : (a : App) → IsAppOf s.cluster a → is_asked s b.fresh a n ≡ true → is_among b.able a n ≡ is_operational s a n

-- the same of each node, the fresh pairs are these, and those are marked that are local
pub record IsBoardOf (s : StateView) (pairs : List Pair) (b : BoardView) : Type 0 where
  pub local : AreLocals s.cluster b.local
  pub fresh : (a : App) (n : Node) → IsAppOf s.cluster a → IsNodeOf s.cluster n → is_among b.fresh a n ≡ is_fresh pairs n a
  pub exact : (n : Node) → IsExactAt s b n

-- the nodes whose lists a move changes
abbrev pub nodes_changed : Move → List Node
nodes_changed (Local n a) = n ∷ []
nodes_changed (Placement a from n) = n ∷ []
nodes_changed (Takeover a m n) = n ∷ m ∷ []

-- the application that it moves
abbrev pub mover : Move → App
mover (Local n a) = a
mover (Placement a from n) = a
mover (Takeover a m n) = a
