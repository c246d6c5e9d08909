-- In all that live nodes reach, nodes that are alive, and that wait for one another by their files, see one another.
use Rattle.std.proofs.Common.{◌≡◌, ◌≢◌, ◌⊎◌, ◌||◌, ℕ, Bool, true, false, List, [], Option, Some, None, unwrap_or, slice_get, refl, sym, ap, subst, ◌∙◌, inl, inr}
use Rattle.std.specs.Option.{option_map}
use Rattle.std.proofs.lemmas.Bool.{cases_Bool, cases_eq, or_cases, false≢true}
use Rattle.rh_model.specs.ClusterView.{ClusterView, numbered, is_in}
use Rattle.rh_model.specs.declared.node.App.{App}
use Rattle.rh_model.specs.declared.node.Node.{Node}
use Rattle.rh_otp_model.specs.declared.wait.OwnFile.{OwnFile}
use Rattle.rh_otp_model.specs.declared.wait.Wait.{Wait}
use Rattle.rh_otp_model.specs.declared.wait.Wait.TheVariants as wait
use Rattle.rh_otp_net.specs.Links.{are_linked}
use Rattle.rh_otp_node.specs.Live.{LiveView, is_alive, begun}
use Rattle.rh_otp_system.specs.declared.cell.Cell.{Cell}
use Rattle.rh_otp_system.specs.Doing.{begun_at, booted, waited, waited_for, all_seen, with_timeout}
use Rattle.rh_otp_system.specs.Ending.{taken_down}
use Rattle.rh_otp_system.specs.Resting.{rested, forgotten}
use Rattle.rh_otp_system.specs.Sending.{told}
use Rattle.rh_otp_system.specs.State.{SystemView, live_at, node_at, own_at, wait_at, is_alive_at}
use Rattle.rh_otp_laws.specs.Acting.{Acts, moves, begins, crashes, calls, Happens, acts, fires, passes, ticks, settles, rests, forgets, takes_up, taken_up, IsNew, IsReached, new, later}
use Rattle.rh_otp_laws.specs.Lives.{IsNoneBegun}
use Rattle.rh_otp_laws.proofs.Beginning.{begun_there, boots, calls_on}
use Rattle.rh_otp_laws.proofs.Crashing.{ends_alone}
use Rattle.rh_otp_laws.proofs.Listing.{alive_listed}
use Rattle.rh_otp_laws.proofs.Lives.{none_begins, moved_none}
use Rattle.rh_otp_laws.proofs.Moving.{ends, made_by_turn}
use Rattle.rh_otp_laws.proofs.Nodes.{others_same, same_number}
use Rattle.rh_otp_laws.proofs.Time.{due_fire}
use Rattle.rh_otp_laws.proofs.Turn.{Turn, nothing, both, wrote, noted, seen, put, set, linked, slowed, took, freed, called, answered, fell, unmonitored}
use Rattle.rh_otp_crashes.proofs.Crossing.{same_node}
use Rattle.rh_otp_waits.specs.Waits.{HasItWait, is_listed, NodesThatNameOneAnotherSeeOneAnother}
use Rattle.rh_otp_waits.proofs.Going.{Goes, goes_made, goes_booted, grows_called}
use Rattle.rh_otp_waits.proofs.Growing.{◌past◌, grows_go_on}
use Rattle.rh_otp_waits.proofs.Linking.{linked_back, linked_left}
use Rattle.rh_otp_waits.proofs.Seeing.{bare_all_seen, bare_alive, grows_all_seen, grows_timeout, named_linked}

-- ---- whom the files name stays

-- the cluster and the nodes' own files are the same
abbrev Same : SystemView → SystemView → Type 0
Same s t = (t.cluster ≡ s.cluster) × (t.files ≡ s.files)

fell_same : (n : Node) (s : SystemView) → Same s (taken_down n s)
unfolding taken_down told
fell_same n s = (refl, refl)

turn_same : (n : Node) (s t : SystemView) → Turn n s t → Same s t
turn_same n _ _ (nothing s) = (refl, refl)
turn_same n _ _ (both s t u p q) =
    let first : Same s t = turn_same n s t p in
    let next : Same t u = turn_same n t u q in
    (next.0 ∙ first.0, next.1 ∙ first.1)
turn_same n _ _ (wrote s v on) = (refl, refl)
turn_same n _ _ (noted s m a kind) = (refl, refl)
turn_same n _ _ (seen s e) = (refl, refl)
turn_same n _ _ (put s more) = (refl, refl)
turn_same n _ _ (set s due to m after_now) = (refl, refl)
turn_same n _ _ (linked s links) = (refl, refl)
turn_same n _ _ (slowed s slow) = (refl, refl)
turn_same n _ _ (took s r p nodes) = (refl, refl)
turn_same n _ _ (freed s r p) = (refl, refl)
turn_same n _ _ (called s asked last) = (refl, refl)
turn_same n _ _ (answered s answers) = (refl, refl)
turn_same n _ _ (fell s) = fell_same n s
turn_same n _ _ (unmonitored s m) = (refl, refl)

-- how a node waits by these files
abbrev pub wait_in : List OwnFile → Node → Wait
wait_in files n = unwrap_or (option_map (λ (f : OwnFile). f.wait) (slice_get files n.0)) wait.Unset

-- the two name one another, by the cluster and the files, and wait
record Named (c : ClusterView) (files : List OwnFile) (n m : Node) : Type 0 where
  apart : n.0 ≢ m.0
  waits : HasItWait (wait_in files n)
  waits_too : HasItWait (wait_in files m)
  names : is_listed c n m ≡ true
  names_too : is_listed c m n ≡ true

-- whoever name one another and are alive see one another
AllNamed : SystemView → Type 0
AllNamed s = (n m : Node) → Named s.cluster s.files n m → is_alive_at s n ≡ true → is_alive_at s m ≡ true → are_linked n m s.links ≡ true

named_before : (s t : SystemView) (n m : Node) → Same s t → Named t.cluster t.files n m → Named s.cluster s.files n m
named_before s t n m is named =
    subst (λ (files : List OwnFile). Named s.cluster files n m) is.1 (subst (λ (c : ClusterView). Named c t.files n m) is.0 named)

-- ---- where none begins

alive_before : (s t : SystemView) (n : Node) → (is_alive_at s n ≡ false → is_alive_at t n ≡ false) → is_alive_at t n ≡ true
    → is_alive_at s n ≡ true
alive_before s t n down alive = by (cases_Bool (is_alive_at s n))
  where
    by : (is_alive_at s n ≡ true) ⊎ (is_alive_at s n ≡ false) → is_alive_at s n ≡ true
    by (inl is) = is
    by (inr is) = absurd (false≢true (sym (down is) ∙ alive))

not_gone : (t : SystemView) (gone n : Node) → is_alive_at t gone ≡ false → is_alive_at t n ≡ true → n.0 ≢ gone.0
not_gone t gone n down alive is = false≢true (sym down ∙ sym (ap is_alive (same_number t n gone is)) ∙ alive)

-- two that are alive still, and were connected, are
pub still_linked : (s t : SystemView) (n m : Node) → Goes s t → is_alive_at t n ≡ true → is_alive_at t m ≡ true
    → are_linked n m s.links ≡ true → are_linked n m t.links ≡ true
still_linked s t n m (inl grows) alive alive_too is = grows.linked n m is
still_linked s t n m (inr over) alive alive_too is =
    ap (are_linked n m) over.left
    ∙ linked_left over.gone n m s.links (not_gone t over.gone n over.down alive) (not_gone t over.gone m over.down alive_too) is

goes_on : (s t : SystemView) → Same s t → IsNoneBegun s t → Goes s t → AllNamed s → AllNamed t
unfolding AllNamed
goes_on s t is none goes all n m named alive alive_too =
    still_linked s t n m goes alive alive_too
    (all n m (named_before s t n m is named) (alive_before s t n (none n).1 alive) (alive_before s t m (none m).1 alive_too))

-- ---- where a node begins

-- it connects with each node that its lists name and that is alive
wait_links : (n m : Node) (time : Option ℕ) (s : SystemView) → (is_in m (node_at s n).mandatory || is_in m (node_at s n).optional) ≡ true
    → is_alive_at s m ≡ true → n.0 ≢ m.0 → are_linked n m (waited_for n time s).links ≡ true
unfolding waited_for
wait_links n m time s names alive apart =
    (grows_go_on n (with_timeout n time all) past grows_timeout n time all).linked n m
    (by (or_cases (is_in m (node_at s n).mandatory) (is_in m (node_at s n).optional) names))
  where
    first : SystemView
    first = all_seen n (node_at s n).mandatory s

    all : SystemView
    all = all_seen n (node_at s n).optional first

    by : (is_in m (node_at s n).mandatory ≡ true) ⊎ (is_in m (node_at s n).optional ≡ true) → are_linked n m all.links ≡ true
    by (inl among) =
        (grows_all_seen n (node_at s n).optional first).linked n m (named_linked n m (node_at s n).mandatory s among alive apart)
    by (inr among) =
        named_linked n m (node_at s n).optional first among
        (bare_alive s first m (bare_all_seen n (node_at s n).mandatory s) ∙ alive) apart

waited_links : (n m : Node) (w : Wait) (s : SystemView) → HasItWait w
    → (is_in m (node_at s n).mandatory || is_in m (node_at s n).optional) ≡ true → is_alive_at s m ≡ true → n.0 ≢ m.0
    → are_linked n m (waited w n s).links ≡ true
waited_links n m wait.Unset s waits names alive apart = absurd waits
waited_links n m wait.Refused s waits names alive apart = absurd waits
waited_links n m (wait.After time) s waits names alive apart = wait_links n m (Some time) s names alive apart
waited_links n m wait.Forever s waits names alive apart = wait_links n m None s names alive apart

pub booted_links : (s : SystemView) (n m : Node) (v : LiveView) → live_at s n ≡ Some v → HasItWait (wait_at s n)
    → is_listed s.cluster n m ≡ true → is_alive_at (begun_at n s) m ≡ true → n.0 ≢ m.0 → are_linked n m (booted n s).links ≡ true
unfolding booted
booted_links s n m v there waits names alive apart =
    waited_links n m (wait_at s n) (begun_at n s) waits
    (ap (λ (w : LiveView). is_in m w.mandatory || is_in m w.optional) (begun_there s n v there) ∙ names) alive apart

begins_on : (s : SystemView) (n : Node) (v : LiveView) → live_at s n ≡ Some v → AllNamed s → AllNamed (booted n s)
unfolding AllNamed
begins_on s n v there all k m named alive alive_too = by (cases_eq k.0 n.0) (cases_eq m.0 n.0)
  where
    b : SystemView
    b = begun_at n s

    t : SystemView
    t = booted n s

    turn : Turn n b t
    turn = boots s n v there

    before : Named s.cluster s.files k m
    before = named_before s t k m (turn_same n b t turn) named

    in_begin : (j : Node) → is_alive_at t j ≡ true → is_alive_at b j ≡ true
    in_begin j is = alive_before b t j (none_begins n b t turn j).1 is

    earlier : (j : Node) → j.0 ≢ n.0 → is_alive_at t j ≡ true → is_alive_at s j ≡ true
    earlier j other is = sym (ap is_alive (others_same s n j (begun s.cluster (own_at s n) n (node_at s n)) other)) ∙ in_begin j is

    reaches : (j : Node) → is_alive_at t j ≡ true → HasItWait (wait_at s n) → is_listed s.cluster n j ≡ true → n.0 ≢ j.0
        → are_linked n j t.links ≡ true
    reaches j is waits names apart = booted_links s n j v there waits names (in_begin j is) apart

    it : (j : Node) → j.0 ≡ n.0 → n ≡ j
    it j here = same_node n j (sym here)

    by : (k.0 ≡ n.0) ⊎ (k.0 ≢ n.0) → (m.0 ≡ n.0) ⊎ (m.0 ≢ n.0) → are_linked k m t.links ≡ true
    by (inl here) any =
        subst (λ (j : Node). Named s.cluster s.files j m → are_linked j m t.links ≡ true) (it k here)
        (λ so. reaches m alive_too so.waits so.names so.apart) before
    by (inr other) (inl here) =
        linked_back k m t.links
        ∙ subst (λ (j : Node). Named s.cluster s.files k j → are_linked j k t.links ≡ true) (it m here)
        (λ so. reaches k alive so.waits_too so.names_too (λ is. so.apart (sym is))) before
    by (inr other) (inr other_too) =
        still_linked b t k m (goes_booted n s) alive alive_too (all k m before (earlier k other alive) (earlier m other_too alive_too))

-- ---- whatever happens

acts_on : (s t : SystemView) → Acts s t → AllNamed s → AllNamed t
acts_on _ _ (moves s next possible) all =
    goes_on s _ (turn_same _ _ _ (made_by_turn (numbered 0) next s)) (moved_none s next) (goes_made next s) all
acts_on _ _ (begins s n there down) all = begins_on s n there.0 there.1 all
acts_on _ _ (crashes s n) all =
    goes_on s _ (turn_same n _ _ (ends n s)) (none_begins n _ _ (ends n s))
    (inr (record { gone = n; down = (ends_alone s n).itself; left = (ends_alone s n).links })) all
acts_on _ _ (calls s a n app) all =
    goes_on s _ (turn_same n _ _ (calls_on n a n app s)) (none_begins n _ _ (calls_on n a n app s)) (inl (grows_called a n app s)) all

-- whoever is alive was, and all are connected as they were
alike : (s t : SystemView) → Same s t → t.links ≡ s.links → ((n : Node) → is_alive_at t n ≡ true → is_alive_at s n ≡ true) → AllNamed s
    → AllNamed t
unfolding AllNamed
alike s t is links before all n m named alive alive_too =
    ap (are_linked n m) links ∙ all n m (named_before s t n m is named) (before n alive) (before m alive_too)

rests_on : (s : SystemView) → AllNamed s → AllNamed (rested s)
unfolding rested
rests_on s all = alike s (rested s) (refl, refl) refl (λ n alive. alive) all

forgets_on : (s : SystemView) → AllNamed s → AllNamed (forgotten s)
unfolding forgotten
forgets_on s all = alike s (forgotten s) (refl, refl) refl (λ n alive. alive) all

-- those that are taken up are listed as they were
taken_up_on : (s : SystemView) (cells : List Cell) (told : List (App × Node)) (ends_soon : Bool) → IsReached s
    → IsReached (taken_up s cells told ends_soon) → AllNamed s → AllNamed (taken_up s cells told ends_soon)
taken_up_on s cells told ends_soon reached reached_too all =
    let t : SystemView = taken_up s cells told ends_soon in
    alike s t (refl, refl) refl
    (λ n alive. ((alive_listed s reached).exactly n).0 (((alive_listed t reached_too).exactly n).1 alive)) all

happens_on : (s t : SystemView) → IsReached s → Happens s t → AllNamed s → AllNamed t
happens_on _ _ reached (acts s t one) all = acts_on s t one all
happens_on _ _ reached (fires s due step next) all =
    subst AllNamed (sym (due_fire s due)) (alike s _ (refl, refl) refl (λ n alive. alive) all)
happens_on _ _ reached (passes s time on none) all = alike s (record s { clock = time }) (refl, refl) refl (λ n alive. alive) all
happens_on _ _ reached (ticks s ticking) all = alike s (record s { is_ticking = ticking }) (refl, refl) refl (λ n alive. alive) all
happens_on _ _ reached (settles s) all = alike s (record s { answers = [] }) (refl, refl) refl (λ n alive. alive) all
happens_on _ _ reached (rests s) all = rests_on s all
happens_on _ _ reached (forgets s) all = forgets_on s all
happens_on _ _ reached (takes_up s cells told ends_soon quiet has) all =
    taken_up_on s cells told ends_soon reached (later s _ reached (takes_up s cells told ends_soon quiet has)) all

none_alive : (s : SystemView) → IsNew s → AllNamed s
unfolding AllNamed
none_alive s is n m named alive alive_too = absurd (false≢true (sym (ap is_alive (is.nodes n)) ∙ alive))

all_named : (s : SystemView) → IsReached s → AllNamed s
all_named _ (new s is) = none_alive s is
all_named _ (later s t before one) = happens_on s t before one (all_named s before)

pub named_see : NodesThatNameOneAnotherSeeOneAnother
unfolding AllNamed
named_see s n m reached apart waits waits_too names names_too alive alive_too =
    all_named s reached n m
    (record { apart = apart; waits = waits; waits_too = waits_too; names = names; names_too = names_too }) alive alive_too
