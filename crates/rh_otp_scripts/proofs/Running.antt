-- What the node's own dist_ac does where it is told that an application runs there: it tells the others, or it takes nothing of it yet.
use Rattle.std.proofs.Common.{◌≡◌, ◌⊎◌, ◌++◌, ◌==◌, ◌||◌, ◌&&◌, ℕ, true, false, cond, List, [], ◌∷◌, Option, Some, None, refl, sym, ap, subst, ◌∙◌, inl, inr}
use Rattle.std.specs.Prelude.{All}
use Rattle.std.proofs.lemmas.Bool.{false≢true}
use Rattle.std.proofs.lemmas.List.{append-nil}
use Rattle.std.proofs.lemmas.List.Elements.{All-nil, All-cons, All-append}
use Rattle.std.proofs.lemmas.Option.{none-some, same_Some}
use Rattle.rh_model.specs.declared.node.App.{App}
use Rattle.rh_model.specs.declared.node.Node.{Node}
use Rattle.rh_model.specs.declared.settings.Dep.{Dep}
use Rattle.rh_otp_model.specs.declared.message.Message.{Message}
use Rattle.rh_otp_model.specs.declared.message.Message.TheVariants as message
use Rattle.rh_otp_model.specs.declared.output.Envelope.{Envelope}
use Rattle.rh_otp_dist.specs.declared.state.Stand.TheVariants as stand
use Rattle.rh_otp_dist.specs.Outside.{with_message}
use Rattle.rh_otp_dist.specs.State.{DistView, TurnView, is_among}
use Rattle.rh_otp_dist.specs.Waiting.{takes}
use Rattle.rh_otp_net.specs.Links.{are_linked}
use Rattle.rh_otp_node.specs.Live.{LiveView, is_alive}
use Rattle.rh_otp_system.specs.State.{SystemView, live_at, node_at, with_node, is_alive_at}
use Rattle.rh_otp_system.specs.Working.{mailed}
use Rattle.rh_otp_laws.proofs.Nodes.{same_of_all}
use Rattle.rh_otp_crashes.specs.Crashes.{IsUnoccupied}
use Rattle.rh_otp_crashes.proofs.Posting.{posted_to, mails, all_posted, all_mailed}
use Rattle.rh_otp_crashes.proofs.Telling.{run_over, runs_so}
use Rattle.rh_otp_crashes.proofs.Turning.{own_in, node_is, turn, weighing, none_on, idle_comes, works_on, works_waiting}
use Rattle.rh_otp_scripts.proofs.Requesting.{IsHung, Keeps}
use Rattle.rh_otp_scripts.proofs.Words.{IsSide, tells, is_dist}

-- it does nothing, or waits for another node
abbrev pub Stands : DistView → Type 0
Stands d = IsUnoccupied d ⊎ IsHung d

-- It stands as before, and so does what it knows.
pub record StandsOn (o : Option DistView) (d : DistView) : Type 0 where
  pub keeps : Keeps o d
  pub free : IsUnoccupied keeps.before → IsUnoccupied d
  pub hung : IsHung keeps.before → IsHung d

-- It takes the news: how it stands behind it and what it sends, whatever its controller and the boot script have done meanwhile.
pub record Ran (lives : Node → ℕ) (n : Node) (a : App) (error : Option Dep) (s : SystemView) : Type 0 where
  pub next : Option DistView
  pub more : List Envelope
  pub comes : (q : SystemView) (v : LiveView) → live_at q n ≡ Some v → v.dist ≡ (node_at s n).dist
      → ((k : Node) → (node_at q k).life ≡ lives k) → q.cluster ≡ s.cluster → q.files ≡ s.files → q.links ≡ s.links
      → ((k : Node) → is_alive_at q k ≡ is_alive_at s k)
      → mailed n (message.Run a error) q ≡ record (with_node n (record v { dist = next }) q) { messages = q.messages ++ more }
  pub kinds : All (IsSide lives n) more
  pub of_dist : All (λ (e : Envelope). is_dist e.from.role ≡ true) more
  pub stands : (d : DistView) → next ≡ Some d → StandsOn (node_at s n).dist d

-- ---- it takes nothing of it yet

-- where it took nothing it takes nothing still
free_on : (x : Message) (d : DistView) → takes d.stand x ≡ false → IsUnoccupied d → IsUnoccupied (with_message x d)
free_on x d refuses free = record {
  stand = free.stand;
  mail = All-append (λ (m : Message). takes d.stand m ≡ false) d.mail (x ∷ []) free.mail
      (All-cons (λ (m : Message). takes d.stand m ≡ false) x [] refuses (All-nil (λ (m : Message). takes d.stand m ≡ false)));
  permits = free.permits;
  parked = free.parked;
}

hung_on : (x : Message) (d : DistView) → takes d.stand x ≡ false → IsHung d → IsHung (with_message x d)
hung_on x d refuses hung = record {
  lock = hung.lock;
  parked = hung.parked;
  mail = All-append (λ (m : Message). takes d.stand m ≡ false) d.mail (x ∷ []) hung.mail
      (All-cons (λ (m : Message). takes d.stand m ≡ false) x [] refuses (All-nil (λ (m : Message). takes d.stand m ≡ false)));
  refuses = hung.refuses;
}

-- it has none
ran_none : (lives : Node → ℕ) (n : Node) (a : App) (error : Option Dep) (s : SystemView) → (node_at s n).dist ≡ None
    → Ran lives n a error s
ran_none lives n a error s had = record {
  next = None;
  more = [];
  comes = λ q v there has same in_cluster in_files links awake.
      none_on n (message.Run a error) q v there (has ∙ had)
      ∙ (λ i. record (with_node n (record v { dist = None }) q) { messages = sym (append-nil q.messages) i });
  kinds = All-nil (IsSide lives n);
  of_dist = All-nil (λ (e : Envelope). is_dist e.from.role ≡ true);
  stands = λ d is. absurd (none-some d is);
}

-- it waits
ran_waiting : (lives : Node → ℕ) (n : Node) (a : App) (error : Option Dep) (s : SystemView) (d : DistView)
    → (node_at s n).dist ≡ Some d → takes d.stand (message.Run a error) ≡ false → All (λ (m : Message). takes d.stand m ≡ false) d.mail
    → Ran lives n a error s
ran_waiting lives n a error s d had refuses mail =
    let x : Message = message.Run a error in
    let next : DistView = with_message x d in
    record {
      next = Some next;
      more = [];
      comes = λ q v there has same in_cluster in_files links awake.
          works_on n x q v there
          ∙ works_waiting n x q v d there (has ∙ had)
          (All-append (λ (m : Message). takes d.stand m ≡ false) d.mail (x ∷ []) mail
          (All-cons (λ (m : Message). takes d.stand m ≡ false) x [] refuses (All-nil (λ (m : Message). takes d.stand m ≡ false))))
          ∙ (λ i. record (with_node n (record v { dist = Some next }) q) { messages = sym (append-nil q.messages) i });
      kinds = All-nil (IsSide lives n);
      of_dist = All-nil (λ (e : Envelope). is_dist e.from.role ≡ true);
      stands = λ e is. subst (StandsOn (node_at s n).dist) (same_Some next e is) (record {
        keeps = record { before = d; had = had; takeovers = refl; known = refl; may = refl };
        free = free_on x d refuses;
        hung = hung_on x d refuses;
      });
    }

-- ---- it tells the others

-- who of them gets it depends on who is alive alone
mails_same : (lives : Node → ℕ) (p q : SystemView) (n : Node) (x : Message) (nodes : List Node)
    → ((k : Node) → is_alive_at p k ≡ is_alive_at q k) → p.files ≡ q.files → mails lives p n x nodes ≡ mails lives q n x nodes
mails_same lives p q n x [] awake files = refl
mails_same lives p q n x (m ∷ nodes) awake files =
    let rest : mails lives p n x nodes ≡ mails lives q n x nodes = mails_same lives p q n x nodes awake files in
    λ i. cond (m.0 == n.0) (rest i)
    (cond (awake m i && (own_in (files i) m).has_dist) (posted_to lives n x m ∷ rest i) (rest i))

ran_idle : (lives : Node → ℕ) (n : Node) (a : App) (error : Option Dep) (s : SystemView) (d : DistView) → (node_at s n).dist ≡ Some d
    → IsUnoccupied d → d.stand ≡ stand.Idle → d.t_reqs ≡ []
    → ((m : Node) → is_among m d.known ≡ true → is_alive_at s m ≡ true → (n.0 == m.0 || are_linked n m s.links) ≡ true)
    → Ran lives n a error s
ran_idle lives n a error s d had free is none sees = record {
  next = Some over.state;
  more = mails lives s n msg d.known;
  comes = λ q v there has same in_cluster in_files links awake.
      let new : LiveView = record v { dist = Some over.state } in
      let here : node_at q n ≡ v = node_is q n v there in
      let next : SystemView = with_node n new q in
      let still : (k : Node) → is_alive_at next k ≡ is_alive_at s k =
      λ k. same_of_all is_alive q n k new (sym (ap is_alive here)) ∙ awake k in
      idle_comes s.cluster s.files n (lives n) (message.Run a error) d over free is refl (λ w. runs_so a error (weighing w t) none) q v
      there (has ∙ had) (sym (ap (λ (w : LiveView). w.life) here) ∙ same n) in_cluster in_files
      ∙ all_posted n msg d.known next
      (λ k. same_of_all (λ (w : LiveView). w.life) q n k new (sym (ap (λ (w : LiveView). w.life) here)) ∙ same k)
      (λ m among up. ap (λ l. n.0 == m.0 || are_linked n m l) links ∙ sees m among (sym (still m) ∙ up))
      ∙ (λ i. record next { messages = q.messages ++ mails_same lives next s n msg d.known still in_files i });
  kinds = all_mailed lives (IsSide lives n) s n msg d.known (λ m other. tells a error m other);
  of_dist = all_mailed lives (λ (e : Envelope). is_dist e.from.role ≡ true) s n msg d.known (λ m other. refl);
  stands = λ e same. subst (StandsOn (node_at s n).dist) (same_Some over.state e same) (record {
    keeps = record { before = d; had = had; takeovers = sym none; known = refl; may = refl };
    free = λ before. record {
      stand = inl refl;
      mail = All-nil (λ (x : Message). takes stand.Idle x ≡ false);
      permits = free.permits;
      parked = free.parked;
    };
    hung = λ hung. absurd (false≢true (sym (hung.refuses a error) ∙ ap (λ w. takes w (message.Run a error)) is));
  });
}
  where
    msg : Message
    msg = message.AppStarted n a error

    t : TurnView
    t = turn s.cluster (own_in s.files n) n (lives n) d

    over : TurnView
    over = run_over a error t

-- ---- however it stands

pub ran : (lives : Node → ℕ) (n : Node) (a : App) (error : Option Dep) (s : SystemView)
    → ((d : DistView) → (node_at s n).dist ≡ Some d → Stands d) → ((d : DistView) → (node_at s n).dist ≡ Some d → d.t_reqs ≡ [])
    → ((d : DistView) → (node_at s n).dist ≡ Some d → (m : Node) → is_among m d.known ≡ true → is_alive_at s m ≡ true
    → (n.0 == m.0 || are_linked n m s.links) ≡ true)
    → Ran lives n a error s
ran lives n a error s stands none sees = by (node_at s n).dist refl
  where
    free_at : (d : DistView) → (node_at s n).dist ≡ Some d → IsUnoccupied d → (d.stand ≡ stand.Idle) ⊎ (d.stand ≡ stand.ForGo)
        → Ran lives n a error s
    free_at d had free (inl is) = ran_idle lives n a error s d had free is (none d had) (sees d had)
    free_at d had free (inr is) = ran_waiting lives n a error s d had (ap (λ w. takes w (message.Run a error)) is) free.mail

    at : (d : DistView) → (node_at s n).dist ≡ Some d → Stands d → Ran lives n a error s
    at d had (inl free) = free_at d had free free.stand
    at d had (inr hung) = ran_waiting lives n a error s d had (hung.refuses a error) hung.mail

    by : (o : Option DistView) → (node_at s n).dist ≡ o → Ran lives n a error s
    by None had = ran_none lives n a error s had
    by (Some d) had = at d had (stands d had)
