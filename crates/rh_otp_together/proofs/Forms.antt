-- How far a node is whose boot script runs beside those of others, and how it stands then.
use Rattle.std.proofs.Common.{◌≡◌, ◌≢◌, ◌≤◌, ◌⊎◌, ◌+◌, ◌++◌, ◌==◌, ◌&&◌, ◌||◌, ℕ, Bool, true, false, not, cond, nat_lt, List, [], ◌∷◌, map, filter, length, unwrap_or, Some, None}
use Rattle.std.specs.Prelude.{All}
use Rattle.rh_model.specs.ClusterView.{boot_of, node_count}
use Rattle.rh_model.specs.declared.node.App.{App}
use Rattle.rh_model.specs.declared.node.Node.{Node}
use Rattle.rh_model.specs.declared.settings.Restart.{Restart}
use Rattle.rh_otp_model.specs.declared.fault.Outcome.TheVariants.{Done}
use Rattle.rh_otp_model.specs.declared.message.Reply.TheVariants as reply
use Rattle.rh_otp_model.specs.declared.output.Envelope.{Envelope}
use Rattle.rh_otp_model.specs.declared.output.Event.{Event}
use Rattle.rh_otp_model.specs.declared.output.Event.TheVariants as event
use Rattle.rh_otp_model.specs.declared.process.Here.{Here}
use Rattle.rh_otp_model.specs.declared.process.Role.TheVariants as role
use Rattle.rh_otp_model.specs.declared.process.StartType.{StartType}
use Rattle.rh_otp_model.specs.declared.process.StartType.TheVariants.{Normal}
use Rattle.rh_otp_model.specs.Own.{controls}
use Rattle.rh_otp_model.specs.Processes.{process_at}
use Rattle.rh_otp_model.specs.Rows.{keystore}
use Rattle.rh_otp_controller.specs.declared.state.Place.{Place}
use Rattle.rh_otp_controller.specs.declared.state.Place.TheVariants as place_of
use Rattle.rh_otp_controller.specs.State.{ControllerView}
use Rattle.rh_otp_dist.specs.declared.state.Appl.{Appl}
use Rattle.rh_otp_dist.specs.declared.state.Stand.{Stand}
use Rattle.rh_otp_dist.specs.declared.state.Stand.TheVariants as stand
use Rattle.rh_otp_dist.specs.declared.state.Standing.{Standing}
use Rattle.rh_otp_dist.specs.declared.state.Standing.TheVariants as standing
use Rattle.rh_otp_dist.specs.State.{DistView, beginning, is_among}
use Rattle.rh_otp_node.specs.Live.{LiveView, here_of, permission_rows}
use Rattle.rh_otp_system.specs.State.{SystemView, node_at, own_at, is_alive_at, has_dist_at}
use Rattle.rh_otp_starts.specs.Elsewhere.{asked_attempt, candidates_at}
use Rattle.rh_otp_starts.proofs.Requests.{its_reply}
use Rattle.rh_otp_scripts.proofs.Words.{its_start, its_request, its_report, its_answer, own_news}
use Rattle.rh_otp_joins.proofs.Lists.{more_if}
use Rattle.rh_otp_together.specs.Together.{InOrder}
use Rattle.rh_otp_together.proofs.Apps.{tally, tally_rows, IsMarked}
use Rattle.rh_otp_together.proofs.Controlling.{calm_with, awaiting}
use Rattle.rh_otp_together.proofs.Deciding.{with_appl}
use Rattle.rh_otp_together.proofs.Handling.{dist_with, note}

-- ---- how far it is

-- Its script hasn't begun; or it asks for a start, its controller asks dist_ac, which waits for another node, or has answered that it
-- starts here or has started elsewhere; the starter reports; the script has its answer; or it is over.
pub data How : Type 0 where
  unbegun : How
  asks : App → Restart → How
  requests : App → Restart → How
  stands : App → Restart → How
  starts : App → Restart → How
  learns : App → Restart → How
  reports : App → Restart → How
  answered : How
  over : How

-- The entries whose start is over, the last one in front; how it is with the next one; those behind it. Which application's start here its
-- dist_ac is to be told of, if of any; and what other nodes have told of starts: what it knows, and what is in its mailbox.
pub record Far : Type 0 where
  pub done : List (App × Restart)
  pub how : How
  pub rest : List (App × Restart)
  pub ran : List App
  pub rows : List (App × Node)
  pub mail : List App

-- the entry whose start isn't over
abbrev pub current : How → List (App × Restart) → List (App × Restart)
current (asks a r) rest = (a, r) ∷ rest
current (requests a r) rest = (a, r) ∷ rest
current (stands a r) rest = (a, r) ∷ rest
current (starts a r) rest = (a, r) ∷ rest
current (learns a r) rest = (a, r) ∷ rest
current (reports a r) rest = (a, r) ∷ rest
current how rest = rest

abbrev pub onto : {A : Type 0} → List A → List A → List A
onto [] l = l
onto (x ∷ d) l = onto d (x ∷ l)

abbrev pub app_of : App × Restart → App
app_of row = row.0

abbrev pub some_app : List App → Bool
some_app [] = false
some_app (a ∷ l) = true

abbrev pub behind_first : List App → List App
behind_first [] = []
behind_first (a ∷ l) = l

abbrev pub is_standing : How → Bool
is_standing (stands a r) = true
is_standing how = false

module _ (b : SystemView) (at : App → Node) (m : Node) where
  abbrev pub d0 : DistView
  d0 = unwrap_or (node_at b m).dist (beginning 0 0 m [])

  abbrev pub is_dist : App → Bool
  is_dist a = controls (own_at b m) a

  -- is it to run here, of those that dist_ac controls?
  abbrev pub is_mine : App → Bool
  is_mine a = (at a).0 == m.0

  abbrev pub starts_here : App → Bool
  starts_here a = cond (is_dist a) (is_mine a) true

  abbrev pub h : Here
  h = here_of m (node_at b m)

  -- ---- its controller

  abbrev pub place_for : App → Place
  place_for a = cond (starts_here a) place_of.Here (place_of.At (at a))

  abbrev pub calm : List (App × Restart) → ControllerView
  calm done = calm_with (permission_rows b.cluster m) (map (λ (row : App × Restart). (row.0, place_for row.0)) done)
      (map (λ (row : App × Restart). (row.0, Some row.1)) done)

  abbrev pub controller_by : How → List (App × Restart) → ControllerView
  controller_by (requests a r) done = awaiting (process_at h role.Boot) a r (calm done)
  controller_by (stands a r) done = awaiting (process_at h role.Boot) a r (calm done)
  controller_by (starts a r) done = awaiting (process_at h role.Boot) a r (calm done)
  controller_by (learns a r) done = awaiting (process_at h role.Boot) a r (calm done)
  controller_by (reports a r) done = awaiting (process_at h role.Boot) a r (calm done)
  controller_by how done = calm done

  abbrev pub kinds_of : List (App × Restart) → List (App × StartType)
  kinds_of [] = (node_at b m).kinds
  kinds_of (row ∷ done) = cond (starts_here row.0) (keystore row.0 Normal (kinds_of done)) (kinds_of done)

  abbrev pub kinds_by : How → List (App × Restart) → List (App × StartType)
  kinds_by (reports a r) done = keystore a Normal (kinds_of done)
  kinds_by how done = kinds_of done

  abbrev pub place_by : How → List (App × Restart) → ℕ
  place_by unbegun done = length done
  place_by answered done = length done
  place_by how done = length done + 1

  -- ---- its dist_ac

  abbrev pub dists : List (App × Restart) → List App
  dists done = filter is_dist (map app_of done)

  -- of which it has decided where they run
  abbrev pub asked_by : How → List (App × Restart) → List App
  asked_by (starts a r) done = a ∷ dists done
  asked_by (learns a r) done = a ∷ dists done
  asked_by (reports a r) done = cond (is_dist a) (a ∷ dists done) (dists done)
  asked_by how done = dists done

  -- does it not know yet that the last one runs here?
  abbrev pub pends_by : How → List App → Bool
  pends_by (starts a r) ran = true
  pends_by (reports a r) ran = is_dist a || some_app ran
  pends_by how ran = some_app ran

  -- of which it has told the others that they run here, if they do
  abbrev pub told_by : Bool → List App → List App
  told_by pends asked = cond pends (behind_first asked) asked

  abbrev pub standing_for : Bool → App → Standing
  standing_for pends a = cond (is_mine a) (cond pends standing.RunWaiting standing.Local) (standing.Distributed (at a))

  abbrev pub appls_by : Bool → List App → List Appl
  appls_by pends [] = d0.appls
  appls_by pends (a ∷ asked) = with_appl a (standing_for pends a) (appls_by false asked)

  abbrev pub may_itself : App → Bool
  may_itself a = is_among m (candidates_at (own_at b m) a d0)

  abbrev pub stand_by : How → Stand
  stand_by (stands a r) = cond (may_itself a) (stand.ForStart (asked_attempt d0 a) (at a)) (stand.ForAnyStart (asked_attempt d0 a))
  stand_by how = stand.Idle

  abbrev pub watched_by : How → List Node
  watched_by (stands a r) = cond (may_itself a) (at a ∷ []) []
  watched_by how = []

  abbrev pub dist_of : Far → DistView
  dist_of k = dist_with d0 (stand_by k.how) (map (note at) k.mail) k.rows (asked_by k.how k.done) (watched_by k.how)
      (appls_by (pends_by k.how k.ran) (asked_by k.how k.done))

  -- ---- the node

  abbrev pub live : Far → LiveView
  live k = record (node_at b m) {
    place = place_by k.how k.done;
    controller = controller_by k.how k.done;
    dist = Some (dist_of k);
    kinds = kinds_by k.how k.done;
  }

  -- what an observer has been told of it
  abbrev pub tale_of : List (App × Restart) → List Event
  tale_of [] = []
  tale_of (row ∷ done) = tale_of done ++ cond (starts_here row.0) (event.Started row.0 m Normal ∷ []) []

  abbrev pub tale : How → List (App × Restart) → List Event
  tale (reports a r) done = tale_of done ++ event.Started a m Normal ∷ []
  tale over done = tale_of done ++ cond (nat_lt m.0 (node_count b.cluster)) (event.Booted m ∷ []) []
  tale how done = tale_of done

  -- those that its dist_ac tells of what runs here
  abbrev pub friends : List Node
  friends = filter (λ (x : Node). not (x.0 == m.0) && (is_alive_at b x && has_dist_at b x)) d0.known

  -- ---- how many moves are left to it

  -- its dist_ac is told that an application runs, and tells the others
  abbrev pub telling_weight : ℕ
  telling_weight = 1 + length friends

  abbrev pub request_weight : App → ℕ
  request_weight a = cond (is_mine a) (4 + telling_weight) 3

  abbrev pub cost : App → ℕ
  cost a = cond (is_dist a) (1 + request_weight a) 3

  abbrev pub costs : List (App × Restart) → ℕ
  costs [] = 0
  costs (row ∷ rest) = cost row.0 + costs rest

  abbrev pub weight_by : How → ℕ
  weight_by unbegun = 1
  weight_by (asks a r) = cost a
  weight_by (requests a r) = request_weight a
  weight_by (stands a r) = 2
  weight_by (starts a r) = 3 + telling_weight
  weight_by (learns a r) = 2
  weight_by (reports a r) = 2 + cond (is_dist a) telling_weight 0
  weight_by answered = 1
  weight_by over = 0

  abbrev pub ran_weight : List App → ℕ
  ran_weight [] = 0
  ran_weight (a ∷ l) = telling_weight

  abbrev pub weight : Far → ℕ
  weight k = weight_by k.how + costs k.rest + ran_weight k.ran

  -- ---- what is so of it

  abbrev pub IsSo : How → List (App × Restart) → List (App × Restart) → List App → Type 0
  IsSo unbegun done rest ran = (done ≡ []) × (ran ≡ [])
  IsSo (asks a r) done rest ran = Unit {0}
  IsSo (requests a r) done rest ran = is_dist a ≡ true
  IsSo (stands a r) done rest ran = (is_dist a ≡ true) × ((at a).0 ≢ m.0) × (ran ≡ [])
  IsSo (starts a r) done rest ran = (is_dist a ≡ true) × ((at a).0 ≡ m.0) × (ran ≡ [])
  IsSo (learns a r) done rest ran = (is_dist a ≡ true) × ((at a).0 ≢ m.0) × (ran ≡ [])
  IsSo (reports a r) done rest ran = (is_dist a ≡ false) ⊎ ((is_dist a ≡ true) × ((at a).0 ≡ m.0) × (ran ≡ []))
  IsSo answered done rest ran = Unit {0}
  IsSo over done rest ran = rest ≡ []

  -- its mailbox is empty, or holds no news of that for which it waits
  abbrev pub IsMailed : How → List App → Type 0
  IsMailed (stands a r) mail = tally a mail ≡ 0
  IsMailed how mail = mail ≡ []

  -- that for which it waits isn't known to run
  abbrev pub IsAwaited : How → List (App × Node) → Type 0
  IsAwaited (stands a r) rows = tally_rows a rows ≡ 0
  IsAwaited how rows = Unit {0}

  -- the application of whose start here it is to be told is the last one of which it has decided
  abbrev pub IsLately : List App → List App → Type 0
  IsLately ran asked = (ran ≡ []) ⊎ ((a : App) × (l : List App) × (ran ≡ a ∷ []) × (asked ≡ a ∷ l) × ((at a).0 ≡ m.0))

  pub record Fine (k : Far) : Type 0 where
    pub boots : boot_of b.cluster m ≡ onto k.done (current k.how k.rest)
    pub order : InOrder b m (map app_of k.done) (current k.how k.rest)
    pub so : IsSo k.how k.done k.rest k.ran
    pub lately : IsLately k.ran (asked_by k.how k.done)
    pub marked : All (IsMarked at) k.rows
    pub mail : IsMailed k.how k.mail
    pub single : (a : App) → tally a (map app_of k.done) ≤ 1
    pub awaited : IsAwaited k.how k.rows

-- ---- what is on its way

-- By which scripts go on: a script asks for a start, its controller asks dist_ac, that answers that it starts here, or has started
-- elsewhere, the starter reports, and the script has its answer. And beside it the node's own dist_ac is told of a start, and those of
-- others.
pub data Token : Type 0 where
  start : Node → App → Restart → Token
  request : Node → App → Token
  yes : Node → App → Token
  there : Node → App → Token
  report : Node → App → Token
  answer : Node → Token
  ran : Node → App → Token
  news : Node → App → Token

abbrev pub letter : SystemView → (App → Node) → Token → Envelope
letter b at (start m a r) = its_start (here_of m (node_at b m)) a r
letter b at (request m a) = its_request (here_of m (node_at b m)) a
letter b at (yes m a) = its_reply (here_of m (node_at b m)) a reply.StartIt
letter b at (there m a) = its_reply (here_of m (node_at b m)) a (reply.Started (at a))
letter b at (report m a) = its_report (here_of m (node_at b m)) a None
letter b at (answer m) = its_answer (here_of m (node_at b m)) Done
letter b at (ran m a) = own_news (here_of m (node_at b m)) a None
letter b at (news m a) = record {
  from = process_at (here_of (at a) (node_at b (at a))) role.DistAc;
  to = process_at (here_of m (node_at b m)) role.DistAc;
  message = note at a;
}

abbrev pub node_of : Token → Node
node_of (start m a r) = m
node_of (request m a) = m
node_of (yes m a) = m
node_of (there m a) = m
node_of (report m a) = m
node_of (answer m) = m
node_of (ran m a) = m
node_of (news m a) = m

-- from a controller to its dist_ac
abbrev pub is_inner : Node → Token → Bool
is_inner m (request x a) = x.0 == m.0
is_inner m (ran x a) = x.0 == m.0
is_inner m t = false

-- of the others, by which the script of the node goes on
abbrev pub is_voice : Node → Token → Bool
is_voice m (start x a r) = x.0 == m.0
is_voice m (yes x a) = x.0 == m.0
is_voice m (there x a) = x.0 == m.0
is_voice m (report x a) = x.0 == m.0
is_voice m (answer x) = x.0 == m.0
is_voice m t = false

abbrev pub news_of : Node → App → Token → ℕ
news_of m a (news x c) = more_if (x.0 == m.0 && c.0 == a.0) 0
news_of m a t = 0

-- is it news to the node, of one of these applications?
abbrev pub is_news : Node → (App → Bool) → Token → Bool
is_news m q (news x c) = x.0 == m.0 && q c
is_news m q t = false

-- of which start it is news
abbrev pub said_in : Token → List App
said_in (news x c) = c ∷ []
said_in t = []

abbrev pub all_said : List Token → List App
all_said [] = []
all_said (t ∷ tokens) = said_in t ++ all_said tokens

-- how many moves come of it by itself
abbrev pub token_weight : Token → ℕ
token_weight (news x c) = 1
token_weight t = 0

abbrev pub voices : Node → How → List Token
voices m (asks a r) = start m a r ∷ []
voices m (starts a r) = yes m a ∷ []
voices m (learns a r) = there m a ∷ []
voices m (reports a r) = report m a ∷ []
voices m answered = answer m ∷ []
voices m how = []

abbrev pub asking : Node → How → List Token
asking m (requests a r) = request m a ∷ []
asking m how = []

abbrev pub inners : Node → How → List App → List Token
inners m how [] = asking m how
inners m how (a ∷ l) = ran m a ∷ asking m how
