-- What another node's dist_ac does at the news that the application runs, whether it takes whatever comes or waits for that, and at its own
-- timer; and that it does nothing behind the news.
use Rattle.std.proofs.Common.{◌≡◌, ◌≢◌, ◌⊎◌, ℕ, true, List, [], ◌∷◌, Option, Some, None, refl, sym, ap, subst, ◌∙◌, inl, inr}
use Rattle.std.specs.Prelude.{All}
use Rattle.std.proofs.lemmas.List.Elements.{All-append}
use Rattle.std.proofs.lemmas.Option.{none-some, same_Some}
use Rattle.rh_model.specs.declared.node.App.{App}
use Rattle.rh_model.specs.declared.node.Node.{Node}
use Rattle.rh_otp_model.specs.declared.message.Message.TheVariants as message
use Rattle.rh_otp_model.specs.declared.output.Envelope.{Envelope}
use Rattle.rh_otp_dist.specs.State.{DistView, TurnView}
use Rattle.rh_otp_node.specs.Live.{LiveView}
use Rattle.rh_otp_system.specs.State.{SystemView, node_at, is_alive_at}
use Rattle.rh_otp_system.specs.Working.{mailed}
use Rattle.rh_otp_laws.proofs.Nodes.{node_written}
use Rattle.rh_otp_crashes.specs.Crashes.{IsUnoccupied}
use Rattle.rh_otp_crashes.proofs.Hearing.{IsTold, stale_comes}
use Rattle.rh_otp_crashes.proofs.News.{IsLater}
use Rattle.rh_otp_crashes.proofs.Peace.{turned_so}
use Rattle.rh_otp_crashes.proofs.Phases.{Due, stale, stands_by, HearsThere, hears_there, waits_there}
use Rattle.rh_otp_crashes.proofs.Starting.{heard}
use Rattle.rh_otp_crashes.proofs.Turning.{own_in, turn}
use Rattle.rh_otp_crashes.proofs.Underway.{Underway}
use Rattle.rh_otp_crashes.proofs.Waiting.{Behaves, hears_waiting}
use Rattle.rh_otp_stops.proofs.Stopping.{there_is}
use Rattle.rh_agreement_spread.proofs.Hearing.{acted, sends_none}
use Rattle.rh_agreement_spread.proofs.HearingStarts.{HearsSo, learned_at, hears}

-- ---- the news

-- it has told its controller, or nobody
pub hears_it : (lives : Node → ℕ) (n m : Node) (a : App) (q : SystemView) → (node_at q m).life ≡ lives m → is_alive_at q m ≡ true
    → ((d : DistView) → (node_at q m).dist ≡ Some d → Behaves n a m d) → HearsSo lives n a m q
hears_it lives n m a q same alive behaves = by (node_at q m).dist refl
  where
    at : (d : DistView) → (node_at q m).dist ≡ Some d → Behaves n a m d → HearsSo lives n a m q
    at d has (inl free) = hears lives n m a q same alive (λ e has_too. subst IsUnoccupied (same_Some d e (sym has ∙ has_too)) free)
    at d has (inr (other, waits)) =
        let over : TurnView = heard a n (turn q.cluster (own_in q.files m) m (lives m) waits.before) in (
          Some over.state,
          learned_at lives n a m ∷ [],
          inr refl,
          hears_waiting q.cluster q.files m (lives m) a n waits.before waits.stands q (node_at q m) (there_is q m alive)
              (has ∙ ap Some waits.is) same refl refl,
        )

    by : (o : Option DistView) → (node_at q m).dist ≡ o → HearsSo lives n a m q
    by None none = hears lives n m a q same alive (λ d has. absurd (none-some d (sym none ∙ has)))
    by (Some d) has = at d has (behaves d has)

-- ---- its timer

pub wakes_it : (lives : Node → ℕ) {n : Node} {a : App} (m : Node) (loss : ℕ) (q : SystemView) → m.0 ≢ n.0 → (node_at q m).life ≡ lives m
    → is_alive_at q m ≡ true → Due n a m q
    → (next : Option DistView) × (mailed m (message.RestartAppl a loss) q ≡ acted m next [] q)
wakes_it lives {n} {a} m loss q other same alive (stale so) = (
  (node_at q m).dist,
  stale_comes q.cluster q.files m (lives m) a loss (node_at q m).dist so q (node_at q m) (there_is q m alive) refl same refl refl
      ∙ sends_none m (node_at q m).dist q,
)
wakes_it lives {n} {a} m loss q other same alive (stands_by standby free up sees) =
    let at = waits_there lives m loss q other standby free up sees q.messages (node_at q m) (there_is q m alive) refl same in
    (_, at ∙ sends_none m _ q)

-- where it is left over its dist_ac is as it was
pub as_it_was : (lives : Node → ℕ) (a : App) (m : Node) (loss : ℕ) (q : SystemView) → (node_at q m).life ≡ lives m → is_alive_at q m ≡ true
    → IsTold a (node_at q m).dist → (node_at (mailed m (message.RestartAppl a loss) q) m).dist ≡ (node_at q m).dist
as_it_was lives a m loss q same alive so =
    ap (λ (t : SystemView). (node_at t m).dist)
    (stale_comes q.cluster q.files m (lives m) a loss (node_at q m).dist so q (node_at q m) (there_is q m alive) refl same refl refl)
    ∙ ap (λ (v : LiveView). v.dist) (node_written q m (node_at q m) (node_at q m) (there_is q m alive))

-- ---- it does nothing

-- No timer's message is on its way for it, and its dist_ac does nothing; or it isn't lost there any more.
abbrev pub IsSafe : Node → App → SystemView → Type 0
IsSafe m a s =
    (All (IsLater m) s.messages × ((d : DistView) → (node_at s m).dist ≡ Some d → IsUnoccupied d)) ⊎ IsTold a (node_at s m).dist

pub safe_is_free : (m : Node) (a : App) (s : SystemView) → IsSafe m a s → (d : DistView) → (node_at s m).dist ≡ Some d → IsUnoccupied d
safe_is_free m a s (inl safe) d has = safe.1 d has
safe_is_free m a s (inr told) d has = told.free d has

-- where its dist_ac is as it was, and no more timers have fired
pub safe_on : (m : Node) (a : App) (s t : SystemView) → (node_at t m).dist ≡ (node_at s m).dist
    → (All (IsLater m) s.messages → All (IsLater m) t.messages) → IsSafe m a s → IsSafe m a t
safe_on m a s t same later (inl safe) = inl (later safe.0, λ d has. safe.1 d (sym same ∙ has))
safe_on m a s t same later (inr told) = inr (subst (IsTold a) (sym same) told)

-- so it is behind the news
pub safe_behind : {lives : Node → ℕ} {n : Node} {a : App} (m : Node) (q : SystemView) → Underway lives n a q → m.0 ≢ n.0
    → is_alive_at q m ≡ true → (next : Option DistView) (more : List Envelope) → All (IsLater m) more
    → mailed m (message.AppStarted n a None) q ≡ acted m next more q → IsSafe m a (mailed m (message.AppStarted n a None) q)
safe_behind {lives} {n} {a} m q g other alive next more later same = after heard_so.after
  where
    heard_so : HearsThere lives n a m q
    heard_so = hears_there m q (λ d has. g.peace.dists m d alive has) (g.phases m other alive)

    t : SystemView
    t = mailed m (message.AppStarted n a None) q

    next_so : (node_at t m).dist ≡ heard_so.turned.next
    next_so =
        ap (λ (x : SystemView). (node_at x m).dist)
        (turned_so m (message.AppStarted n a None) q q (node_at q m) (node_at q m).dist heard_so.turned (there_is q m alive) refl
        (g.peace.same_lives m) refl refl)
        ∙ ap (λ (v : LiveView). v.dist)
        (node_written q m (node_at q m) (record (node_at q m) { dist = heard_so.turned.next }) (there_is q m alive))

    after : All (IsLater m) q.messages ⊎ IsTold a heard_so.turned.next → IsSafe m a t
    after (inl all) = inl (
      subst (λ (x : SystemView). All (IsLater m) x.messages) (sym same) (All-append (IsLater m) q.messages more all later),
      λ d has. heard_so.turned.rest d (sym next_so ∙ has),
    )
    after (inr told) = inr (subst (IsTold a) (sym next_so) told)
