-- While a boot script runs any two messages meet again.
use Rattle.std.proofs.Common.{◌≡◌, ◌≢◌, ◌⊎◌, ◌&&◌, ℕ, Bool, true, false, List, [], slice_get, Option, Some, refl, sym, ap, subst, ◌∙◌, inl, inr}
use Rattle.std.specs.Prelude.{All}
use Rattle.std.proofs.lemmas.Bool.{cases_Bool, cases_eq, false≢true}
use Rattle.std.proofs.lemmas.Option.{none-some}
use Rattle.rh_model.specs.declared.node.App.{App}
use Rattle.rh_model.specs.declared.node.Node.{Node}
use Rattle.rh_model.specs.declared.settings.Dep.{Dep}
use Rattle.rh_otp_model.specs.declared.message.Message.TheVariants as message
use Rattle.rh_otp_model.specs.declared.output.Envelope.{Envelope}
use Rattle.rh_otp_dist.specs.State.{DistView}
use Rattle.rh_otp_net.specs.Queue.{is_of_pair}
use Rattle.rh_otp_system.specs.declared.calls.Call.{Call}
use Rattle.rh_otp_system.specs.Delivering.{arrived, received}
use Rattle.rh_otp_system.specs.Moves.{Delivers}
use Rattle.rh_otp_system.specs.State.{SystemView, node_at, is_alive_at}
use Rattle.rh_otp_laws.proofs.Order.{pair_itself}
use Rattle.rh_otp_orders.specs.Confluence.{Meet}
use Rattle.rh_otp_orders.specs.Orders.{AreAlike, AreIndependent, IsAtHome, LeavesAlone, is_call}
use Rattle.rh_otp_orders.proofs.Commuting.{messages_commute}
use Rattle.rh_otp_orders.proofs.Confluence.{alike_itself}
use Rattle.rh_otp_orders.proofs.Taking.{Taken, taken_arrives, both_taken}
use Rattle.rh_otp_crashes.proofs.Crossing.{crosses, meet_back, not_back, same_node}
use Rattle.rh_otp_crashes.proofs.Peace.{here_in, without, delivers, one_first, taken_all}
use Rattle.rh_otp_crashes.proofs.Starting.{moves_elsewhere}
use Rattle.rh_otp_stops.proofs.Still.{Come}
use Rattle.rh_otp_starts.proofs.Parting.{message_comes}
use Rattle.rh_otp_starts.proofs.Turns.{never_both}
use Rattle.rh_otp_scripts.proofs.Coming.{heard_at, side_came, main_came, Takes, voice, request, takes_so, comes_there, arrives_there, wrote}
use Rattle.rh_otp_scripts.proofs.Crossing.{cross_own, hears_there, learns_there, cross_request, cross_request_dead}
use Rattle.rh_otp_scripts.proofs.Requesting.{Requested}
use Rattle.rh_otp_scripts.proofs.Running.{Stands}
use Rattle.rh_otp_scripts.proofs.Speaking.{Spoken}
use Rattle.rh_otp_scripts.proofs.Underway.{leaves, Calm, calm_left, Underway, Thread, stands_so, busy, done, hung, SideCame, lost, own, elsewhere, side_on, main_on}
use Rattle.rh_otp_scripts.proofs.Words.{its_request, own_news, news, learned, IsSide, runs, tells, moves, HasMain, main_taken}

-- ---- at two nodes

-- none of these is for a call
no_call : {lives : Node → ℕ} {n : Node} (e : Envelope) → IsSide lives n e → is_call e.to.role ≡ false
no_call _ (runs a error) = refl
no_call _ (tells a error m apart) = refl
no_call _ (moves a m apart) = refl

-- nor is there any
at_home : (s : SystemView) (e : Envelope) → s.calls ≡ [] → IsAtHome e s
at_home s e none place call there is = absurd (none-some call (sym (ap (λ (l : List Call). slice_get l place) none) ∙ there))

-- what comes of one beside the script leaves alone what nodes share
side_leaves : {lives : Node → ℕ} {n : Node} (s t : SystemView) (left : List Envelope) → SideCame lives n (without s left) t → (k : Node)
    → LeavesAlone k s t
side_leaves s _ left lost k = record { links = refl; locks = refl; alive = λ m. refl; answers = λ m app. inl refl }
side_leaves s _ left (own t w kinds controller stands) k = leaves s t left w k
side_leaves s _ left (elsewhere m t w apart kinds rest stopped ending) k = leaves s t left w k

-- two at two nodes that leave that alone
apart_meet : (s : SystemView) (e f : Envelope) (left_e left_f : List Envelope) → s.calls ≡ [] → Taken e s.messages left_e
    → Taken f s.messages left_f → ((k : Node) → LeavesAlone k s (arrived e.to e.message (without s left_e)))
    → ((k : Node) → LeavesAlone k s (arrived f.to f.message (without s left_f))) → (is_call e.to.role && is_call f.to.role) ≡ false
    → e.to.node.0 ≢ f.to.node.0 → Meet (arrived e.to e.message (without s left_e)) (arrived f.to f.message (without s left_f))
apart_meet s e f left_e left_f none taken_e taken_f leaves_e leaves_f one_call apart =
    let t : SystemView = arrived e.to e.message (without s left_e) in
    let u : SystemView = arrived f.to f.message (without s left_f) in
    let independent : AreIndependent s t u e f = record {
      one = taken_arrives s e left_e taken_e;
      other = taken_arrives s f left_f taken_f;
      two_nodes = apart;
      leaves_other = leaves_e f.to.node;
      leaves_one = leaves_f e.to.node;
      one_home = at_home s e none;
      other_home = at_home s f none;
      one_call = one_call;
    } in
    let both = messages_commute s t u e f independent in
    inr (both.0, both.1, delivers f t both.0 both.2, delivers e u both.1 both.3, both.4)

-- of one pair there is one
same_meet : (s : SystemView) (e f : Envelope) (left_e left_f : List Envelope) → Taken e s.messages left_e → Taken f s.messages left_f
    → is_of_pair e f ≡ true → Meet (arrived e.to e.message (without s left_e)) (arrived f.to f.message (without s left_f))
same_meet s e f left_e left_f taken_e taken_f pair =
    let is : (e ≡ f) × (left_e ≡ left_f) = one_first e f s.messages left_e left_f pair taken_e taken_f in
    let t : SystemView = arrived e.to e.message (without s left_e) in
    inl (subst (AreAlike t) (λ i. arrived (is.0 i).to (is.0 i).message (without s (is.1 i))) (alike_itself t))

-- ---- beside the script

-- another node's dist_ac hears of a start, and its controller learns of one
cross_there : {lives : Node → ℕ} {n : Node} (s : SystemView) → Calm lives n s → (a b : App) (error : Option Dep) (m k : Node)
    (left_e left_f : List Envelope) → m.0 ≢ n.0 → Taken (news lives n a error m) s.messages left_e
    → Taken (learned lives n b k) s.messages left_f → is_of_pair (news lives n a error m) (learned lives n b k) ≡ false → m ≡ k
    → Meet (arrived (news lives n a error m).to (news lives n a error m).message (without s left_e))
    (arrived (learned lives n b k).to (learned lives n b k).message (without s left_f))
cross_there {lives} {n} s f a b error m k left_e left_f other taken_e taken_f apart one =
    subst (λ (x : Node). Taken (learned lives n b x) s.messages left_f → is_of_pair (news lives n a error m) (learned lives n b x) ≡ false
    → Meet (arrived (news lives n a error m).to (news lives n a error m).message (without s left_e))
    (arrived (learned lives n b x).to (learned lives n b x).message (without s left_f))) one
    (λ taken apart. crosses {K = IsSide lives n} s m (news lives n a error m).from (learned lives n b m).from
    (news lives n a error m).message (learned lives n b m).message left_e left_f f.same_lives
    (λ alive. heard_at a error m s f other (moves a m other) alive)
    (moves_elsewhere s.cluster s.files m b n) taken_e taken apart)
    taken_f apart

sides_here : {lives : Node → ℕ} {n : Node} (s : SystemView) (e f : Envelope) (left_e left_f : List Envelope) → Calm lives n s
    → IsSide lives n e → IsSide lives n f → Taken e s.messages left_e → Taken f s.messages left_f → is_of_pair e f ≡ false
    → e.to.node.0 ≡ f.to.node.0 → Meet (arrived e.to e.message (without s left_e)) (arrived f.to f.message (without s left_f))
sides_here {lives} {n} s _ _ left_e left_f c (runs a error) (runs b error') taken_e taken_f apart one =
    absurd (false≢true (sym apart ∙ pair_itself (own_news (here_in lives n) a error)))
sides_here s _ _ left_e left_f c (runs a error) (tells b error' m other) taken_e taken_f apart one = absurd (other (sym one))
sides_here s _ _ left_e left_f c (runs a error) (moves b m other) taken_e taken_f apart one = absurd (other (sym one))
sides_here s _ _ left_e left_f c (tells a error m other) (runs b error') taken_e taken_f apart one = absurd (other one)
sides_here {lives} {n} s _ _ left_e left_f c (tells a error m other) (tells b error' k other') taken_e taken_f apart one =
    absurd (false≢true (sym apart
    ∙ ap (λ (x : Node). is_of_pair (news lives n a error m) (news lives n b error' x)) (sym (same_node m k one))
    ∙ pair_itself (news lives n a error m)))
sides_here {lives} {n} s _ _ left_e left_f c (tells a error m other) (moves b k other') taken_e taken_f apart one =
    cross_there s c a b error m k left_e left_f other taken_e taken_f apart (same_node m k one)
sides_here s _ _ left_e left_f c (moves a m other) (runs b error') taken_e taken_f apart one = absurd (other one)
sides_here {lives} {n} s _ _ left_e left_f c (moves a m other) (tells b error' k other') taken_e taken_f apart one =
    meet_back _ _ (cross_there s c b a error' k m left_f left_e other' taken_f taken_e
    (not_back (learned lives n a m) (news lives n b error' k) apart) (same_node k m (sym one)))
sides_here {lives} {n} s _ _ left_e left_f c (moves a m other) (moves b k other') taken_e taken_f apart one =
    absurd (false≢true (sym apart ∙ ap (λ (x : Node). is_of_pair (learned lives n a m) (learned lives n b x)) (sym (same_node m k one))
    ∙ pair_itself (learned lives n a m)))

-- any two beside the script
sides_meet : {lives : Node → ℕ} {n : Node} (s : SystemView) (e f : Envelope) (left_e left_f : List Envelope) → Calm lives n s
    → ((d : DistView) → (node_at s n).dist ≡ Some d → Stands d) → IsSide lives n e → IsSide lives n f → Taken e s.messages left_e
    → Taken f s.messages left_f → Meet (arrived e.to e.message (without s left_e)) (arrived f.to f.message (without s left_f))
sides_meet {lives} {n} s e f left_e left_f c stands kind_e kind_f taken_e taken_f =
    by (cases_Bool (is_of_pair e f)) (cases_eq e.to.node.0 f.to.node.0)
  where
    by : (is_of_pair e f ≡ true) ⊎ (is_of_pair e f ≡ false) → (e.to.node.0 ≡ f.to.node.0) ⊎ (e.to.node.0 ≢ f.to.node.0)
        → Meet (arrived e.to e.message (without s left_e)) (arrived f.to f.message (without s left_f))
    by (inl pair) at = same_meet s e f left_e left_f taken_e taken_f pair
    by (inr apart) (inl one) = sides_here s e f left_e left_f c kind_e kind_f taken_e taken_f apart one
    by (inr apart) (inr two) =
        apart_meet s e f left_e left_f c.calls taken_e taken_f
        (side_leaves s _ left_e (side_came (without s left_e) e (calm_left s left_e c) stands kind_e))
        (side_leaves s _ left_f (side_came (without s left_f) f (calm_left s left_f c) stands kind_f))
        (ap (λ (b : Bool). b && is_call f.to.role) (no_call e kind_e)) two

-- ---- by which the script goes on, and beside it

-- its controller or its boot script takes it
voice_meets : {lives : Node → ℕ} {n : Node} (s : SystemView) (g e : Envelope) (left_g left_e : List Envelope) → Calm lives n s
    → ((d : DistView) → (node_at s n).dist ≡ Some d → Stands d) → (g.to.node ≡ n) × (g.to.life ≡ lives n)
    → Spoken lives n s (λ (p : SystemView). received g.to g.message p) → IsSide lives n e → Taken g s.messages left_g
    → Taken e s.messages left_e → is_of_pair g e ≡ false
    → Meet (arrived g.to g.message (without s left_g)) (arrived e.to e.message (without s left_e))
voice_meets {lives} {n} s g e left_g left_e c stands to sp kind taken_g taken_e apart = by e kind taken_e apart
  where
    leaves_g : (k : Node) → LeavesAlone k s (arrived g.to g.message (without s left_g))
    leaves_g k =
        subst (LeavesAlone k s) (sym (arrives_there (without s left_g) g c.alive c.same_lives to))
        (leaves s _ left_g (wrote (without s left_g) g (calm_left s left_g c) (respoken left_g)) k)
      where
        respoken : (left : List Envelope) → Spoken lives n (without s left) (λ (p : SystemView). received g.to g.message p)
        respoken left = record {
          next = sp.next;
          kinds = sp.kinds;
          place = sp.place;
          more = sp.more;
          seen = sp.seen;
          comes = sp.comes;
          then_on = sp.then_on;
          voices = sp.voices;
        }

    far : (x : Envelope) → IsSide lives n x → Taken x s.messages left_e → x.to.node.0 ≢ n.0
        → Meet (arrived g.to g.message (without s left_g)) (arrived x.to x.message (without s left_e))
    far x side taken other =
        apart_meet s g x left_g left_e c.calls taken_g taken leaves_g
        (side_leaves s _ left_e (side_came (without s left_e) x (calm_left s left_e c) stands side))
        (ap (λ (b : Bool). is_call g.to.role && b) (no_call x side) ∙ never_both (is_call g.to.role))
        (λ same. other (sym same ∙ ap (λ (k : Node). k.0) to.0))

    by : (x : Envelope) → IsSide lives n x → Taken x s.messages left_e → is_of_pair g x ≡ false
        → Meet (arrived g.to g.message (without s left_g)) (arrived x.to x.message (without s left_e))
    by _ (runs a error) taken two =
        meet_back _ _ (cross_own s (own_news (here_in lives n) a error) g a error left_e left_g c stands refl to sp taken taken_g
        (not_back g (own_news (here_in lives n) a error) two))
    by _ (tells a error m other) taken two = far (news lives n a error m) (tells a error m other) taken other
    by _ (moves a m other) taken two = far (learned lives n a m) (moves a m other) taken other

-- its dist_ac takes the request
request_meets : {lives : Node → ℕ} {n : Node} (s : SystemView) (a : App) (e : Envelope) (left_g left_e : List Envelope) → Calm lives n s
    → s.locks ≡ [] → Requested lives n a s → IsSide lives n e → Taken (its_request (here_in lives n) a) s.messages left_g
    → Taken e s.messages left_e → is_of_pair (its_request (here_in lives n) a) e ≡ false
    → Meet (arrived (its_request (here_in lives n) a).to (message.StartRequest a) (without s left_g))
    (arrived e.to e.message (without s left_e))
request_meets {lives} {n} s a _ left_g left_e c none r (runs b error) taken_g taken_e apart =
    absurd (false≢true (sym apart ∙ pair_itself (its_request (here_in lives n) a)))
request_meets {lives} {n} s a _ left_g left_e c none r (tells b error m other) taken_g taken_e apart = by (cases_Bool (is_alive_at s m))
  where
    g : Envelope
    g = its_request (here_in lives n) a

    e : Envelope
    e = news lives n b error m

    both : (left : List Envelope) × Taken e left_g left × Taken g left_e left
    both = both_taken g e s.messages left_g left_e apart taken_g taken_e

    by : (is_alive_at s m ≡ true) ⊎ (is_alive_at s m ≡ false)
        → Meet (arrived g.to g.message (without s left_g)) (arrived e.to e.message (without s left_e))
    by (inl alive) =
        cross_request s a m e left_g left_e both.0 c none r (hears_there b error m s c other alive) (λ same. other (sym same)) alive both.1
        both.2
    by (inr dead) = cross_request_dead s a e left_g left_e both.0 c none r dead both.1 both.2
request_meets {lives} {n} s a _ left_g left_e c none r (moves b m other) taken_g taken_e apart = by (cases_Bool (is_alive_at s m))
  where
    g : Envelope
    g = its_request (here_in lives n) a

    e : Envelope
    e = learned lives n b m

    both : (left : List Envelope) × Taken e left_g left × Taken g left_e left
    both = both_taken g e s.messages left_g left_e apart taken_g taken_e

    by : (is_alive_at s m ≡ true) ⊎ (is_alive_at s m ≡ false)
        → Meet (arrived g.to g.message (without s left_g)) (arrived e.to e.message (without s left_e))
    by (inl alive) =
        cross_request s a m e left_g left_e both.0 c none r (learns_there b m s c alive) (λ same. other (sym same)) alive both.1 both.2
    by (inr dead) = cross_request_dead s a e left_g left_e both.0 c none r dead both.1 both.2

-- whoever takes it
main_meets : {lives : Node → ℕ} {n : Node} (s : SystemView) (g e : Envelope) (left_g left_e : List Envelope) → Calm lives n s
    → s.locks ≡ [] → ((d : DistView) → (node_at s n).dist ≡ Some d → Stands d) → (g.to.node ≡ n) × (g.to.life ≡ lives n)
    → Takes lives n s g → IsSide lives n e → Taken g s.messages left_g → Taken e s.messages left_e
    → Meet (arrived g.to g.message (without s left_g)) (arrived e.to e.message (without s left_e))
main_meets {lives} {n} s g e left_g left_e c none stands to takes kind taken_g taken_e = by (cases_Bool (is_of_pair g e))
  where
    at : (y : Envelope) → Takes lives n s y → (y.to.node ≡ n) × (y.to.life ≡ lives n) → Taken y s.messages left_g → is_of_pair y e ≡ false
        → Meet (arrived y.to y.message (without s left_g)) (arrived e.to e.message (without s left_e))
    at _ (voice y sp) there taken apart = voice_meets s y e left_g left_e c stands there sp kind taken taken_e apart
    at _ (request a asked r) there taken apart = request_meets s a e left_g left_e c none r kind taken taken_e apart

    by : (is_of_pair g e ≡ true) ⊎ (is_of_pair g e ≡ false)
        → Meet (arrived g.to g.message (without s left_g)) (arrived e.to e.message (without s left_e))
    by (inl pair) = same_meet s g e left_g left_e taken_g taken_e pair
    by (inr apart) = at g takes to taken_g apart

-- ---- any two

messages_meet : {lives : Node → ℕ} {n : Node} (s : SystemView) (e f : Envelope) (left_e left_f : List Envelope)
    → Underway lives n s → Taken e s.messages left_e → Taken f s.messages left_f
    → Meet (arrived e.to e.message (without s left_e)) (arrived f.to f.message (without s left_f))
messages_meet {lives} {n} s e f left_e left_f u taken_e taken_f = by u.thread
  where
    K : Envelope → Type 0
    K = IsSide lives n

    M : Type 0
    M = Meet (arrived e.to e.message (without s left_e)) (arrived f.to f.message (without s left_f))

    beside : All K s.messages → M
    beside sides =
        sides_meet s e f left_e left_f u.calm (stands_so s u.thread) (taken_all K e s.messages left_e taken_e sides).0
        (taken_all K f s.messages left_f taken_f sides).0 taken_e taken_f

    by : Thread lives n s → M
    by (done sides free) = beside sides
    by (hung sides waits) = beside sides
    by (busy g fits has none free) =
        among (main_taken K g e s.messages left_e has taken_e) (main_taken K g f s.messages left_f has taken_f)
      where
        stands : (d : DistView) → (node_at s n).dist ≡ Some d → Stands d
        stands d is = inl (free d is)

        meets_main : (x y : Envelope) (left_x left_y : List Envelope) → x ≡ g → K y → Taken x s.messages left_x → Taken y s.messages left_y
            → Meet (arrived x.to x.message (without s left_x)) (arrived y.to y.message (without s left_y))
        meets_main x y left_x left_y is kind taken_x taken_y =
            subst (λ (z : Envelope). Taken z s.messages left_x
            → Meet (arrived z.to z.message (without s left_x)) (arrived y.to y.message (without s left_y))) (sym is)
            (λ taken. main_meets s g y left_x left_y u.calm none stands (comes_there g fits) (takes_so s g u.calm free fits) kind taken
            taken_y)
            taken_x

        among : ((e ≡ g) × All K left_e) ⊎ (K e × HasMain K g left_e) → ((f ≡ g) × All K left_f) ⊎ (K f × HasMain K g left_f) → M
        among (inl one) (inl other) =
            same_meet s e f left_e left_f taken_e taken_f (ap (is_of_pair e) (other.0 ∙ sym one.0) ∙ pair_itself e)
        among (inl one) (inr beside_it) = meets_main e f left_e left_f one.0 beside_it.0 taken_e taken_f
        among (inr beside_it) (inl other) = meet_back _ _ (meets_main f e left_f left_e other.0 beside_it.0 taken_f taken_e)
        among (inr beside_it) (inr beside_too) = sides_meet s e f left_e left_f u.calm stands beside_it.0 beside_too.0 taken_e taken_f

pub meets : {lives : Node → ℕ} {n : Node} (s t u : SystemView) → Underway lives n s → (s.messages ≡ [] → ⊥) → Delivers s t → Delivers s u
    → Meet t u
meets s t u f some to_t to_u =
    let d : Come s t = message_comes s t some to_t in
    let e : Come s u = message_comes s u some to_u in
    subst (λ (x : SystemView). Meet x u) (sym d.is)
    (subst (λ (x : SystemView). Meet (arrived d.message.to d.message.message (without s d.left)) x) (sym e.is)
    (messages_meet s d.message e.message d.left e.left f d.taken e.taken))

-- ---- it goes on

pub goes_on : {lives : Node → ℕ} {n : Node} (s t : SystemView) → Underway lives n s → (s.messages ≡ [] → ⊥) → Delivers s t
    → Underway lives n t
goes_on {lives} {n} s t u some to_t =
    let d : Come s t = message_comes s t some to_t in
    subst (Underway lives n) (sym d.is) (by d.message d.left d.taken u.thread)
  where
    K : Envelope → Type 0
    K = IsSide lives n

    by : (e : Envelope) (left : List Envelope) → Taken e s.messages left → Thread lives n s
        → Underway lives n (arrived e.to e.message (without s left))
    by e left taken (done sides free) =
        let all : K e × All K left = taken_all K e s.messages left taken sides in
        side_on (without s left) _ (record { calm = calm_left s left u.calm; thread = done all.1 free })
        (side_came (without s left) e (calm_left s left u.calm) (λ d is. inl (free d is)) all.0)
    by e left taken (hung sides waits) =
        let all : K e × All K left = taken_all K e s.messages left taken sides in
        side_on (without s left) _ (record { calm = calm_left s left u.calm; thread = hung all.1 waits })
        (side_came (without s left) e (calm_left s left u.calm) (λ d is. inr (waits d is)) all.0)
    by e left taken (busy g fits has none free) = among (main_taken K g e s.messages left has taken)
      where
        q : SystemView
        q = without s left

        c : Calm lives n q
        c = calm_left s left u.calm

        among : ((e ≡ g) × All K left) ⊎ (K e × HasMain K g left) → Underway lives n (arrived e.to e.message q)
        among (inl one) =
            subst (λ (x : Envelope). Underway lives n (arrived x.to x.message q)) (sym one.0)
            (main_on q _ c one.1 none free (main_came q g c none free fits))
        among (inr beside_it) =
            side_on q _ (record { calm = c; thread = busy g fits beside_it.1 none free })
            (side_came q e c (λ d is. inl (free d is)) beside_it.0)
