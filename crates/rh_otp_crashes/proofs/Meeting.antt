-- While a start at the first node is underway any two messages meet again.
use Rattle.std.proofs.Common.{◌≡◌, ◌≢◌, ◌⊎◌, ◌≤◌, ◌+◌, ◌==◌, ℕ, Bool, true, false, cond, length, filter, List, refl, sym, ap, subst, ◌∙◌, inl, inr, arith}
use Rattle.std.specs.Prelude.{All}
use Rattle.std.proofs.lemmas.Bool.{cases_Bool, eq-eqb, false≢true}
use Rattle.rh_model.specs.declared.node.App.{App}
use Rattle.rh_model.specs.declared.node.Node.{Node}
use Rattle.rh_otp_model.specs.declared.message.Message.TheVariants as message
use Rattle.rh_otp_model.specs.declared.output.Envelope.{Envelope}
use Rattle.rh_otp_net.specs.Queue.{is_of_pair}
use Rattle.rh_otp_system.specs.Delivering.{arrived}
use Rattle.rh_otp_system.specs.Moves.{Reaches, here, behind_one}
use Rattle.rh_otp_system.specs.State.{SystemView, node_at}
use Rattle.rh_otp_laws.proofs.Order.{pair_itself}
use Rattle.rh_otp_orders.specs.Confluence.{Meet, IsOrderly}
use Rattle.rh_otp_orders.proofs.Taking.{Taken, both_taken}
use Rattle.rh_otp_crashes.proofs.Coming.{came_on, goes_on}
use Rattle.rh_otp_crashes.proofs.Crossing.{crosses, meet_back, not_back, same_node}
use Rattle.rh_otp_crashes.proofs.Hearing.{stale_turned}
use Rattle.rh_otp_crashes.proofs.News.{IsNews, IsAbroad, IsHis, IsLater, IsUnmoved, hears, learns, wakens, news, runs_there, it_is_lost, is_to, abroad, no_call, count_taken}
use Rattle.rh_otp_crashes.proofs.Peace.{without, meets, MeetHere, taken_all}
use Rattle.rh_otp_crashes.proofs.Phases.{Phase, over, told, ready, due, hears_there, races_there}
use Rattle.rh_otp_crashes.proofs.Racing.{races}
use Rattle.rh_otp_crashes.proofs.Starting.{moves_elsewhere}
use Rattle.rh_otp_crashes.proofs.Turning.{Turned}
use Rattle.rh_otp_crashes.proofs.Underway.{Underway}

-- ---- at one node

-- two for the node that starts it there never are
not_two : {lives : Node → ℕ} {n : Node} {a : App} (s : SystemView) (e f : Envelope) (left_e left_f : List Envelope) → Underway lives n a s
    → Taken e s.messages left_e → Taken f s.messages left_f → is_of_pair e f ≡ false → is_to n e ≡ true → is_to n f ≡ true → ⊥
not_two {n = n} s e f left_e left_f g taken_e taken_f apart to_e to_f =
    let both : (left : List Envelope) × Taken f left_e left × Taken e left_f left = both_taken e f s.messages left_e left_f apart taken_e taken_f in
    let one : length (filter (is_to n) s.messages) ≡ 1 + length (filter (is_to n) left_e) =
    count_taken (is_to n) e s.messages left_e taken_e ∙ ap (λ (b : Bool). cond b 1 0 + length (filter (is_to n) left_e)) to_e in
    let other : length (filter (is_to n) left_e) ≡ 1 + length (filter (is_to n) both.0) =
    count_taken (is_to n) f left_e both.0 both.1 ∙ ap (λ (b : Bool). cond b 1 0 + length (filter (is_to n) both.0)) to_f in
    let few : length (filter (is_to n) s.messages) ≤ 1 = g.lone in
    absurd (omega (arith, one, other, few))

cross_here : {lives : Node → ℕ} {n : Node} {a : App} (s : SystemView) → Underway lives n a s → (m k : Node) (left_e left_f : List Envelope)
    → m.0 ≢ n.0 → Taken (news lives n a m) s.messages left_e → Taken (runs_there lives n a k) s.messages left_f
    → is_of_pair (news lives n a m) (runs_there lives n a k) ≡ false → m ≡ k
    → Meet (arrived (news lives n a m).to (news lives n a m).message (without s left_e))
    (arrived (runs_there lives n a k).to (runs_there lives n a k).message (without s left_f))
cross_here {lives} {n} {a} s f m k left_e left_f other taken_e taken_f apart one =
    subst (λ (x : Node). Taken (runs_there lives n a x) s.messages left_f
    → is_of_pair (news lives n a m) (runs_there lives n a x) ≡ false
    → Meet (arrived (news lives n a m).to (news lives n a m).message (without s left_e))
    (arrived (runs_there lives n a x).to (runs_there lives n a x).message (without s left_f))) one
    (λ taken apart. crosses s m (news lives n a m).from (runs_there lives n a m).from (news lives n a m).message (runs_there lives n a m).message
    left_e left_f f.peace.same_lives
    (λ alive. (hears_there {lives = lives} m s (λ d has. f.peace.dists m d alive has) (f.phases m other alive)).turned)
    (moves_elsewhere s.cluster s.files m a n) taken_e taken apart)
    taken_f apart

-- what isn't there isn't taken
not_taken : (P : Envelope → Type 0) (e : Envelope) (messages left : List Envelope) → Taken e messages left → (P e → ⊥) → All P messages → ⊥
not_taken P e messages left taken is_not all = is_not (taken_all P e messages left taken all).0

not_to_itself : (n : Node) → (n.0 == n.0) ≡ false → ⊥
not_to_itself n is = false≢true (sym is ∙ eq-eqb n.0 n.0 refl)

-- a timer's message and the news
race_here : {lives : Node → ℕ} {n : Node} {a : App} (s : SystemView) → Underway lives n a s → (m k : Node) (loss : ℕ)
    (left_e left_f : List Envelope) → m.0 ≢ n.0 → Taken (it_is_lost lives m a loss) s.messages left_e
    → Taken (news lives n a k) s.messages left_f → is_of_pair (it_is_lost lives m a loss) (news lives n a k) ≡ false → m ≡ k
    → Meet (arrived (it_is_lost lives m a loss).to (it_is_lost lives m a loss).message (without s left_e))
    (arrived (news lives n a k).to (news lives n a k).message (without s left_f))
race_here {lives} {n} {a} s f m k loss left_e left_f other taken_e taken_f apart one =
    subst (λ (x : Node). Taken (news lives n a x) s.messages left_f
    → is_of_pair (it_is_lost lives m a loss) (news lives n a x) ≡ false
    → Meet (arrived (it_is_lost lives m a loss).to (it_is_lost lives m a loss).message (without s left_e))
    (arrived (news lives n a x).to (news lives n a x).message (without s left_f))) one
    (λ taken apart. races s m (it_is_lost lives m a loss).from (news lives n a m).from (it_is_lost lives m a loss).message
    (news lives n a m).message left_e left_f f.peace.same_lives
    (λ alive. races_there {lives = lives} m loss s other
    (due m s s.messages (not_taken (IsLater m) (it_is_lost lives m a loss) s.messages left_e taken_e (not_to_itself m)) (f.phases m other alive)))
    taken_e taken apart)
    taken_f apart

-- a timer's message, where its controller is told, changes nothing
stale_here : (lives : Node → ℕ) {n : Node} {a : App} (s : SystemView) (m : Node) (loss : ℕ) (left_e left_f : List Envelope)
    → Taken (it_is_lost lives m a loss) s.messages left_e → Taken (runs_there lives n a m) s.messages left_f → Phase n a m s
    → Turned (IsHis lives n a m) s.cluster s.files m (lives m) (message.RestartAppl a loss) (node_at s m).dist
stale_here lives {n} {a} s m loss left_e left_f taken_e taken_f (over all) =
    absurd (not_taken (IsLater m) (it_is_lost lives m a loss) s.messages left_e taken_e (not_to_itself m) all)
stale_here lives {n} {a} s m loss left_e left_f taken_e taken_f (told so) =
    stale_turned (IsHis lives n a m) s.cluster s.files m (lives m) a loss (node_at s m).dist so
stale_here lives {n} {a} s m loss left_e left_f taken_e taken_f (ready standby free alive sees none) =
    absurd (not_taken (IsUnmoved m) (runs_there lives n a m) s.messages left_f taken_f (not_to_itself m) none)

left_over_here : {lives : Node → ℕ} {n : Node} {a : App} (s : SystemView) → Underway lives n a s → (m k : Node) (loss : ℕ)
    (left_e left_f : List Envelope) → m.0 ≢ n.0 → Taken (it_is_lost lives m a loss) s.messages left_e
    → Taken (runs_there lives n a k) s.messages left_f → is_of_pair (it_is_lost lives m a loss) (runs_there lives n a k) ≡ false → m ≡ k
    → Meet (arrived (it_is_lost lives m a loss).to (it_is_lost lives m a loss).message (without s left_e))
    (arrived (runs_there lives n a k).to (runs_there lives n a k).message (without s left_f))
left_over_here {lives} {n} {a} s f m k loss left_e left_f other taken_e taken_f apart one =
    subst (λ (x : Node). Taken (runs_there lives n a x) s.messages left_f
    → is_of_pair (it_is_lost lives m a loss) (runs_there lives n a x) ≡ false
    → Meet (arrived (it_is_lost lives m a loss).to (it_is_lost lives m a loss).message (without s left_e))
    (arrived (runs_there lives n a x).to (runs_there lives n a x).message (without s left_f))) one
    (λ taken apart. crosses s m (it_is_lost lives m a loss).from (runs_there lives n a m).from (it_is_lost lives m a loss).message
    (runs_there lives n a m).message left_e left_f f.peace.same_lives
    (λ alive. stale_here lives s m loss left_e left_f taken_e taken (f.phases m other alive))
    (moves_elsewhere s.cluster s.files m a n) taken_e taken apart)
    taken_f apart

meet_abroad : {lives : Node → ℕ} {n : Node} {a : App} (s : SystemView) → Underway lives n a s → (e f : Envelope)
    (left_e left_f : List Envelope) → IsAbroad lives n a e → IsAbroad lives n a f → Taken e s.messages left_e → Taken f s.messages left_f
    → is_of_pair e f ≡ false → e.to.node.0 ≡ f.to.node.0
    → Meet (arrived e.to e.message (without s left_e)) (arrived f.to f.message (without s left_f))
meet_abroad {lives} {n} {a} s g _ _ left_e left_f (hears m other) (hears k other') taken_e taken_f apart one =
    absurd (false≢true (sym apart ∙ ap (λ (x : Node). is_of_pair (news lives n a m) (news lives n a x)) (sym (same_node m k one))
    ∙ pair_itself (news lives n a m)))
meet_abroad {lives} {n} {a} s g _ _ left_e left_f (learns m other) (learns k other') taken_e taken_f apart one =
    absurd (false≢true (sym apart ∙ ap (λ (x : Node). is_of_pair (runs_there lives n a m) (runs_there lives n a x)) (sym (same_node m k one))
    ∙ pair_itself (runs_there lives n a m)))
meet_abroad {lives} {n} {a} s g _ _ left_e left_f (wakens m other loss) (wakens k other' loss') taken_e taken_f apart one =
    absurd (false≢true (sym apart
    ∙ ap (λ (x : Node). is_of_pair (it_is_lost lives m a loss) (it_is_lost lives x a loss')) (sym (same_node m k one))
    ∙ pair_itself (it_is_lost lives m a loss)))
meet_abroad {lives} {n} {a} s g _ _ left_e left_f (hears m other) (learns k other') taken_e taken_f apart one =
    cross_here s g m k left_e left_f other taken_e taken_f apart (same_node m k one)
meet_abroad {lives} {n} {a} s g _ _ left_e left_f (learns m other) (hears k other') taken_e taken_f apart one =
    meet_back _ _ (cross_here s g k m left_f left_e other' taken_f taken_e (not_back (runs_there lives n a m) (news lives n a k) apart)
    (same_node k m (sym one)))
meet_abroad {lives} {n} {a} s g _ _ left_e left_f (wakens m other loss) (hears k other') taken_e taken_f apart one =
    race_here s g m k loss left_e left_f other taken_e taken_f apart (same_node m k one)
meet_abroad {lives} {n} {a} s g _ _ left_e left_f (hears m other) (wakens k other' loss) taken_e taken_f apart one =
    meet_back _ _ (race_here s g k m loss left_f left_e other' taken_f taken_e
    (not_back (news lives n a m) (it_is_lost lives k a loss) apart) (same_node k m (sym one)))
meet_abroad {lives} {n} {a} s g _ _ left_e left_f (wakens m other loss) (learns k other') taken_e taken_f apart one =
    left_over_here s g m k loss left_e left_f other taken_e taken_f apart (same_node m k one)
meet_abroad {lives} {n} {a} s g _ _ left_e left_f (learns m other) (wakens k other' loss) taken_e taken_f apart one =
    meet_back _ _ (left_over_here s g k m loss left_f left_e other' taken_f taken_e
    (not_back (runs_there lives n a m) (it_is_lost lives k a loss) apart) (same_node k m (sym one)))

meet_here : {lives : Node → ℕ} {n : Node} {a : App} (s : SystemView) → Underway lives n a s → MeetHere (IsNews lives n a) s
meet_here {lives} {n} {a} s g e f left_e left_f kind_e kind_f taken_e taken_f apart one = by (cases_Bool (is_to n e))
  where
    by : (is_to n e ≡ true) ⊎ (is_to n e ≡ false)
        → Meet (arrived e.to e.message (without s left_e)) (arrived f.to f.message (without s left_f))
    by (inl to_e) =
        absurd (not_two s e f left_e left_f g taken_e taken_f apart to_e (ap (λ (k : ℕ). k == n.0) (sym one) ∙ to_e))
    by (inr away) =
        meet_abroad s g e f left_e left_f (abroad e kind_e away) (abroad f kind_f (ap (λ (k : ℕ). k == n.0) (sym one) ∙ away)) taken_e taken_f
        apart one

-- ---- every order

all_on : {lives : Node → ℕ} {n : Node} {a : App} (s p : SystemView) → Reaches s p → Underway lives n a s → Underway lives n a p
all_on _ _ (here s) f = f
all_on _ _ (behind_one s q p one rest) f = all_on q p rest (goes_on s q f one)

pub orderly : {lives : Node → ℕ} {n : Node} {a : App} (s : SystemView) → Underway lives n a s → IsOrderly s
orderly {lives} {n} {a} s start p t u reaches to_t to_u =
    let f : Underway lives n a p = all_on s p reaches start in
    meets no_call p t u f.peace (λ e left kind taken. (came_on p e left f taken kind).0) (meet_here p f) to_t to_u
