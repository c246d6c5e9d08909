-- What the messages of a failover can lead to, and whom they are for.
use Rattle.std.proofs.Common.{◌≡◌, ◌≢◌, ◌≤◌, ◌+◌, ◌*◌, ◌++◌, ◌==◌, ◌&&◌, ◌||◌, ℕ, Bool, true, false, cond, List, [], ◌∷◌, length, filter, map, refl, sym, ap, subst, ◌∙◌, inl, inr, arith}
use Rattle.std.specs.Prelude.{All}
use Rattle.std.proofs.lemmas.Bool.{cases_Bool, cases_eq, eq-eqb, false≢true, ne_eqb}
use Rattle.std.proofs.lemmas.List.{length-append}
use Rattle.std.proofs.lemmas.List.Elements.{All-nil, All-cons, All-head, All-tail, filter-append}
use Rattle.rh_model.specs.declared.node.App.{App}
use Rattle.rh_model.specs.declared.node.Node.{Node}
use Rattle.rh_otp_model.specs.declared.message.Change.TheVariants as change_of
use Rattle.rh_otp_model.specs.declared.message.Message.{Message}
use Rattle.rh_otp_model.specs.declared.message.Message.TheVariants as message
use Rattle.rh_otp_model.specs.declared.output.Envelope.{Envelope}
use Rattle.rh_otp_dist.specs.State.{is_among}
use Rattle.rh_otp_system.specs.State.{SystemView, has_dist_at, is_alive_at}
use Rattle.rh_otp_orders.proofs.Taking.{Taken}
use Rattle.rh_otp_crashes.specs.Failovers.{losses_at}
use Rattle.rh_otp_crashes.proofs.Crossing.{same_node}
use Rattle.rh_otp_crashes.proofs.Failover.{lost_there}
use Rattle.rh_otp_crashes.proofs.Crash.{lives_of}
use Rattle.rh_otp_crashes.proofs.News.{is_to, it_is_lost}
use Rattle.rh_otp_crashes.proofs.Posting.{posted_to, mails}
use Rattle.rh_agreement_spread.proofs.Summing.{sum_of}

-- ---- what each can lead to

-- where it is for the node that starts the application, or not
abbrev pub cost_of : ℕ → Bool → Message → ℕ
cost_of most true (message.RestartAppl a loss) = 2 * most + 4
cost_of most here (message.Change a (change_of.Failover gone)) = 2 * most + 3
cost_of most here (message.ApplicationStarted a error) = 2 * most + 2
cost_of most here (message.Run a error) = 2 * most + 1
cost_of most here (message.AppStarted n a error) = 2
cost_of most here m = 1

abbrev pub cost : ℕ → Node → Envelope → ℕ
cost most n e = cost_of most (is_to n e) e.message

-- ---- whom they are for

pub to_itself : (n : Node) → (n.0 == n.0) ≡ true
to_itself n = eq-eqb n.0 n.0 refl

-- the news
abbrev pub is_told : Message → Bool
is_told (message.AppStarted n a error) = true
is_told m = false

abbrev pub is_news_for : Node → Envelope → Bool
is_news_for m e = is_told e.message && is_to m e

pub and_false : (p q : Bool) → q ≡ false → (p && q) ≡ false
and_false true q is = is
and_false false q is = refl

-- what is so of one that is taken and of those that are left is so of all
pub put_back : (P : Envelope → Type 0) (e : Envelope) (messages left : List Envelope) → Taken e messages left → P e → All P left
    → All P messages
put_back P e [] left taken here all = absurd taken
put_back P e (m ∷ messages) left (inl is) here all = All-cons P m messages (subst P (sym is.0) here) (subst (All P) is.1 all)
put_back P e (m ∷ messages) left (inr later) here all =
    let parts : All P (m ∷ later.1) = subst (All P) later.2 all in
    All-cons P m messages (All-head P m later.1 parts) (put_back P e messages later.1 later.3 here (All-tail P m later.1 parts))

-- how many are for the node
abbrev pub count : Node → List Envelope → ℕ
count n messages = length (filter (is_to n) messages)

pub count_more : (n : Node) (left more : List Envelope) → count n (left ++ more) ≡ count n left + count n more
count_more n left more = ap length (filter-append (is_to n) left more) ∙ length-append (filter (is_to n) left) (filter (is_to n) more)

-- ---- each node that is known, alive and has a dist_ac is told

-- what is so of more is so of the rest
of_rest : (P : Envelope → Type 0) (e : Envelope) (rest : List Envelope) (b c : Bool) → All P (cond b rest (cond c (e ∷ rest) rest))
    → All P rest
of_rest P e rest true c all = all
of_rest P e rest false true all = All-tail P e rest all
of_rest P e rest false false all = all

pub told_there : (lives : Node → ℕ) (s : SystemView) (n k : Node) (x : Message) → is_told x ≡ true → k.0 ≢ n.0 → is_alive_at s k ≡ true
    → has_dist_at s k ≡ true → (nodes : List Node) → is_among k nodes ≡ true
    → All (λ (e : Envelope). is_news_for k e ≡ false) (mails lives s n x nodes) → ⊥
told_there lives s n k x told other alive has [] among none = false≢true among
told_there lives s n k x told other alive has (m ∷ nodes) among none = elim (cases_eq k.0 m.0) [
  | inl same ↦ here same
  | inr apart ↦ told_there lives s n k x told other alive has nodes
      (sym (ap (λ (b : Bool). b || is_among k nodes) (ne_eqb k.0 m.0 apart)) ∙ among)
      (of_rest IsNone (posted_to lives n x m) (mails lives s n x nodes) (m.0 == n.0) (is_alive_at s m && has_dist_at s m) none)
]
  where
    IsNone : Envelope → Type 0
    IsNone e = is_news_for k e ≡ false

    here : k.0 ≡ m.0 → ⊥
    here same =
        let one : k ≡ m = same_node k m same in
        let away : (m.0 == n.0) ≡ false = ne_eqb m.0 n.0 (λ is. other (same ∙ is)) in
        let gets : mails lives s n x (m ∷ nodes) ≡ posted_to lives n x m ∷ mails lives s n x nodes =
        λ i. cond (away i) (mails lives s n x nodes)
        (cond (subst (λ (j : Node). is_alive_at s j ≡ true) one alive i && subst (λ (j : Node). has_dist_at s j ≡ true) one has i)
        (posted_to lives n x m ∷ mails lives s n x nodes) (mails lives s n x nodes)) in
        let first : is_news_for k (posted_to lives n x m) ≡ false =
        All-head IsNone (posted_to lives n x m) (mails lives s n x nodes) (subst (All IsNone) gets none) in
        false≢true (sym first ∙ (λ i. told i && eq-eqb m.0 k.0 (sym same) i))

-- ---- where the timers have fired

-- of those for the node it is this one
abbrev pub IsOnly : Node → Envelope → Envelope → Type 0
IsOnly n x e = is_to n e ≡ true → e ≡ x

abbrev lost_at : SystemView → App → List (Node × ℕ) → List Envelope
lost_at s a losses = map (lost_there s a) losses

some_is_one : (row : Node × ℕ) (rows : List (Node × ℕ)) (n : Node) → (row.0.0 == n.0) ≡ true
    → length (losses_at n (row ∷ rows)) ≡ 1 + length (losses_at n rows)
some_is_one row rows n is = ap (λ (b : Bool). length (cond b (row ∷ losses_at n rows) (losses_at n rows))) is ∙ omega arith

other_is_none : (row : Node × ℕ) (rows : List (Node × ℕ)) (n : Node) → (row.0.0 == n.0) ≡ false
    → length (losses_at n (row ∷ rows)) ≡ length (losses_at n rows)
other_is_none row rows n is = ap (λ (b : Bool). length (cond b (row ∷ losses_at n rows) (losses_at n rows))) is

module _ (s : SystemView) (a : App) (n : Node) where
  none_only : (x : Envelope) (losses : List (Node × ℕ)) → length (losses_at n losses) ≡ 0 → All (IsOnly n x) (lost_at s a losses)
  none_only x [] none = All-nil (IsOnly n x)
  none_only x (row ∷ rows) none = elim (cases_Bool (row.0.0 == n.0)) [
    | inl is ↦
        let one : length (losses_at n (row ∷ rows)) ≡ 1 + length (losses_at n rows) = some_is_one row rows n is in
        absurd (omega (arith, one, none))
    | inr is ↦
        All-cons (IsOnly n x) (lost_there s a row) (lost_at s a rows) (λ to. absurd (false≢true (sym is ∙ to)))
        (none_only x rows (sym (other_is_none row rows n is) ∙ none))
  ]

  -- the node's own
  pub the_loss : (losses : List (Node × ℕ)) → is_among n (map (λ (row : Node × ℕ). row.0) losses) ≡ true
      → length (losses_at n losses) ≤ 1
      → (loss : ℕ) × All (IsOnly n (it_is_lost (lives_of s) n a loss)) (lost_at s a losses) × (length (losses_at n losses) ≡ 1)
  the_loss [] among few = absurd (false≢true among)
  the_loss (row ∷ rows) among few = elim (cases_eq n.0 row.0.0) [
    | inl same ↦
        let one : length (losses_at n (row ∷ rows)) ≡ 1 + length (losses_at n rows) =
        some_is_one row rows n (eq-eqb row.0.0 n.0 (sym same)) in
        let x : Envelope = it_is_lost (lives_of s) n a row.1 in (
          row.1,
          All-cons (IsOnly n x) (lost_there s a row) (lost_at s a rows)
              (λ to. ap (λ (m : Node). it_is_lost (lives_of s) m a row.1) (same_node row.0 n (sym same)))
              (none_only x rows (omega (arith, one, few))),
          omega (arith, one, few),
        )
    | inr other ↦
        let away : (row.0.0 == n.0) ≡ false = ne_eqb row.0.0 n.0 (λ is. other (sym is)) in
        let same : length (losses_at n (row ∷ rows)) ≡ length (losses_at n rows) = other_is_none row rows n away in
        let more = the_loss rows
        (sym (ap (λ (b : Bool). b || is_among n (map (λ (r : Node × ℕ). r.0) rows)) (ne_eqb n.0 row.0.0 other)) ∙ among)
        (subst (λ (k : ℕ). k ≤ 1) same few) in
        let x : Envelope = it_is_lost (lives_of s) n a more.0 in (
          more.0,
          All-cons (IsOnly n x) (lost_there s a row) (lost_at s a rows) (λ to. absurd (false≢true (sym away ∙ to))) more.1,
          same ∙ more.2,
        )
  ]

  -- ---- what they can lead to

  sum_alone : (most : ℕ) (losses : List (Node × ℕ)) → length (losses_at n losses) ≡ 0
      → sum_of (cost most n) (lost_at s a losses) ≡ length losses
  sum_alone most [] none = refl
  sum_alone most (row ∷ rows) none = elim (cases_Bool (row.0.0 == n.0)) [
    | inl is ↦
        let one : length (losses_at n (row ∷ rows)) ≡ 1 + length (losses_at n rows) = some_is_one row rows n is in
        absurd (omega (arith, one, none))
    | inr is ↦
        let first : cost most n (lost_there s a row) ≡ 1 = ap (λ (b : Bool). cost_of most b (message.RestartAppl a row.1)) is in
        let more : sum_of (cost most n) (lost_at s a rows) ≡ length rows =
        sum_alone most rows (sym (other_is_none row rows n is) ∙ none) in
        omega (arith, first, more)
  ]

  pub sum_few : (most : ℕ) (losses : List (Node × ℕ)) → length (losses_at n losses) ≤ 1
      → sum_of (cost most n) (lost_at s a losses) ≤ length losses + 2 * most + 3
  sum_few most [] few = omega arith
  sum_few most (row ∷ rows) few = elim (cases_Bool (row.0.0 == n.0)) [
    | inl is ↦
        let one : length (losses_at n (row ∷ rows)) ≡ 1 + length (losses_at n rows) = some_is_one row rows n is in
        let first : cost most n (lost_there s a row) ≡ 2 * most + 4 = ap (λ (b : Bool). cost_of most b (message.RestartAppl a row.1)) is in
        let more : sum_of (cost most n) (lost_at s a rows) ≡ length rows = sum_alone most rows (omega (arith, one, few)) in
        omega (arith, first, more)
    | inr is ↦
        let same : length (losses_at n (row ∷ rows)) ≡ length (losses_at n rows) = other_is_none row rows n is in
        let first : cost most n (lost_there s a row) ≡ 1 = ap (λ (b : Bool). cost_of most b (message.RestartAppl a row.1)) is in
        let more : sum_of (cost most n) (lost_at s a rows) ≤ length rows + 2 * most + 3 =
        sum_few most rows (subst (λ (k : ℕ). k ≤ 1) same few) in
        omega (arith, first, more)
  ]
