-- RULES, "The cluster", "The state": which applications are local (kernel(6), distributed), and a state on its way through a command,
-- with what was told so far, and which pairs are fresh (ours).
use Rattle.std.specs.Prelude.{Bool, is_none, List, [], ◌∷◌, ◌++◌, ◌&&◌, ◌==◌}
use Rattle.rh_rules.specs.Prelude.{list_any, ClusterView, spread_of, App, Node, StateView, Notice, Pair}

-- an application is local if it isn't distributed
abbrev pub is_local : ClusterView → App → Bool
is_local c a = is_none (spread_of c a)

-- a state, with what was told on the way to it, and which pairs were marked and freed
pub record Course : Type 0 where
  pub state : StateView
  pub notices : List Notice
  pub marked : List Pair
  pub freed : List Pair

-- a state on a way on which no pair was freed
abbrev pub course_of : StateView → List Notice → List Pair → Course
course_of s notices marked = record { state = s; notices = notices; marked = marked; freed = [] }

-- a notice more is told
abbrev pub told : Course → Notice → Course
told o notice = record o { notices = o.notices ++ notice ∷ [] }

-- the state is another one, and what was told and made fresh stays
abbrev pub now_in : Course → StateView → Course
now_in o s = record o { state = s }

-- the fresh pairs are those that were marked, and those that were freed
abbrev pub fresh_of : Course → List Pair
fresh_of o = o.freed ++ o.marked

-- a pair is one of the fresh ones
abbrev pub is_fresh : List Pair → Node → App → Bool
is_fresh fresh n a = list_any (λ (p : Pair). (n.0 == p.node.0) && (a.0 == p.app.0)) fresh
