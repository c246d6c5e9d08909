-- Whatever moves, one node is further.
use Rattle.std.proofs.Common.{◌≡◌, ◌≢◌, ◌≤◌, ◌⊎◌, ◌==◌, ℕ, suc, Bool, true, false, List, [], ◌∷◌, map, filter, refl, sym, ap, subst, ◌∙◌, inl, inr, ◌&&◌}
use Rattle.std.proofs.lemmas.Bool.{cases_eq, eq-eqb, eqb-true, false≢true}
use Rattle.rh_model.specs.declared.node.App.{App}
use Rattle.rh_model.specs.declared.node.Node.{Node}
use Rattle.rh_model.specs.declared.settings.Restart.{Restart}
use Rattle.rh_otp_model.specs.declared.output.Envelope.{Envelope}
use Rattle.rh_otp_model.specs.declared.process.Role.TheVariants as role
use Rattle.rh_otp_model.specs.Processes.{process_at}
use Rattle.rh_otp_net.specs.Queue.{is_of_pair}
use Rattle.rh_otp_node.specs.Live.{here_of}
use Rattle.rh_otp_system.specs.Delivering.{arrived}
use Rattle.rh_otp_system.specs.State.{SystemView, node_at}
use Rattle.rh_otp_laws.proofs.Order.{pair_itself}
use Rattle.rh_otp_orders.proofs.Taking.{Taken}
use Rattle.rh_otp_crashes.proofs.Crossing.{same_node}
use Rattle.rh_otp_crashes.proofs.Peace.{without}
use Rattle.rh_otp_joins.proofs.Lists.{count_of}
use Rattle.rh_otp_gathers.proofs.Stages.{drawn_all}
use Rattle.rh_otp_gathers.proofs.Tokens.{Drawn}
use Rattle.rh_otp_together.specs.Together.{BootTogether}
use Rattle.rh_otp_together.proofs.Apps.{same_app}
use Rattle.rh_otp_together.proofs.Finishing.{learns_so, reports_so}
use Rattle.rh_otp_together.proofs.Forms.{How, unbegun, asks, requests, stands, starts, learns, reports, answered, over, Far, Token, start, request, yes, there, report, answer, ran, news, letter, h, is_inner, is_voice, is_standing, inners, is_news}
use Rattle.rh_otp_together.proofs.Going.{goes_further}
use Rattle.rh_otp_together.proofs.Handling.{note}
use Rattle.rh_otp_together.proofs.Hearing.{IsNext, noted_now, mailed_now}
use Rattle.rh_otp_together.proofs.Plain.{IsMine}
use Rattle.rh_otp_together.proofs.Requesting.{answers_it}
use Rattle.rh_otp_together.proofs.Resuming.{goes_on_there}
use Rattle.rh_otp_together.proofs.Running.{tells_all}
use Rattle.rh_otp_together.proofs.Stages.{IsOf, Stage, First, first_as, drawn_fits, drawn_apart}
use Rattle.rh_otp_together.proofs.Starting.{starts_so, starts_here}
use Rattle.rh_otp_together.proofs.Voices.{only_start, only_yes, only_there, only_report, only_answer, Goes, goes_on}

-- what a controller sends to its dist_ac goes between the same two processes
pairs_request : (b : SystemView) (at : App → Node) (m : Node) (a c : App)
    → is_of_pair (letter b at (request m a)) (letter b at (request m c)) ≡ true
pairs_request b at m a c = pair_itself (letter b at (request m a))

inner_pairs : (b : SystemView) (at : App → Node) (m : Node) (x y : Token) → is_inner m x ≡ true → is_inner m y ≡ true
    → is_of_pair (letter b at x) (letter b at y) ≡ true
inner_pairs b at m x y one other = by x y one other
  where
    same : (n k : Node) (a c : App) → (n.0 == m.0) ≡ true → (k.0 == m.0) ≡ true
        → is_of_pair (letter b at (request n a)) (letter b at (request k c)) ≡ true
    same n k a c first second =
        ap (λ (z : Node). is_of_pair (letter b at (request n a)) (letter b at (request z c)))
        (same_node k n (eqb-true k.0 m.0 second ∙ sym (eqb-true n.0 m.0 first)))
        ∙ pairs_request b at n a c

    by : (x y : Token) → is_inner m x ≡ true → is_inner m y ≡ true → is_of_pair (letter b at x) (letter b at y) ≡ true
    by (request n a) (request k c) first second = same n k a c first second
    by (request n a) (ran k c) first second = same n k a c first second
    by (ran n a) (request k c) first second = same n k a c first second
    by (ran n a) (ran k c) first second = same n k a c first second
    by (start n a r) z first second = absurd (false≢true first)
    by (yes n a) z first second = absurd (false≢true first)
    by (there n a) z first second = absurd (false≢true first)
    by (report n a) z first second = absurd (false≢true first)
    by (answer n) z first second = absurd (false≢true first)
    by (news n a) z first second = absurd (false≢true first)
    by (request n a) (start k c r) first second = absurd (false≢true second)
    by (request n a) (yes k c) first second = absurd (false≢true second)
    by (request n a) (there k c) first second = absurd (false≢true second)
    by (request n a) (report k c) first second = absurd (false≢true second)
    by (request n a) (answer k) first second = absurd (false≢true second)
    by (request n a) (news k c) first second = absurd (false≢true second)
    by (ran n a) (start k c r) first second = absurd (false≢true second)
    by (ran n a) (yes k c) first second = absurd (false≢true second)
    by (ran n a) (there k c) first second = absurd (false≢true second)
    by (ran n a) (report k c) first second = absurd (false≢true second)
    by (ran n a) (answer k) first second = absurd (false≢true second)
    by (ran n a) (news k c) first second = absurd (false≢true second)

-- so do the news to a node of what is left to one node
news_pairs : (b : SystemView) (at : App → Node) (m n : Node) (q : App → Bool) → ((c : App) → q c ≡ true → (at c).0 ≡ n.0)
    → (x y : Token) → is_news m q x ≡ true → is_news m q y ≡ true → is_of_pair (letter b at x) (letter b at y) ≡ true
news_pairs b at m n q own x y one other = by x y one other
  where
    both : (c d : Bool) → (c && d) ≡ true → (c ≡ true) × (d ≡ true)
    both true true is = (refl, refl)
    both true false is = absurd (false≢true is)
    both false d is = absurd (false≢true is)

    sent : Node → Node → App → Envelope
    sent x y c = record {
      from = process_at (here_of x (node_at b x)) role.DistAc;
      to = process_at (here_of y (node_at b y)) role.DistAc;
      message = note at c;
    }

    by : (x y : Token) → is_news m q x ≡ true → is_news m q y ≡ true → is_of_pair (letter b at x) (letter b at y) ≡ true
    by (news x c) (news y d) first second =
        let here : (x.0 ≡ m.0) × (q c ≡ true) = (eqb-true x.0 m.0 (both (x.0 == m.0) (q c) first).0, (both (x.0 == m.0) (q c) first).1) in
        let there_too : (y.0 ≡ m.0) × (q d ≡ true) =
        (eqb-true y.0 m.0 (both (y.0 == m.0) (q d) second).0, (both (y.0 == m.0) (q d) second).1) in
        (λ i. is_of_pair (sent (at c) x c) (sent (same_node (at d) (at c) (own d there_too.1 ∙ sym (own c here.1)) i)
        (same_node y x (there_too.0 ∙ sym here.0) i) d))
        ∙ pair_itself (sent (at c) x c)
    by (news x c) (start y d r) first second = absurd (false≢true second)
    by (news x c) (request y d) first second = absurd (false≢true second)
    by (news x c) (yes y d) first second = absurd (false≢true second)
    by (news x c) (there y d) first second = absurd (false≢true second)
    by (news x c) (report y d) first second = absurd (false≢true second)
    by (news x c) (answer y) first second = absurd (false≢true second)
    by (news x c) (ran y d) first second = absurd (false≢true second)
    by (start x c r) z first second = absurd (false≢true first)
    by (request x c) z first second = absurd (false≢true first)
    by (yes x c) z first second = absurd (false≢true first)
    by (there x c) z first second = absurd (false≢true first)
    by (report x c) z first second = absurd (false≢true first)
    by (answer x) z first second = absurd (false≢true first)
    by (ran x c) z first second = absurd (false≢true first)

module _ {b : SystemView} (g : BootTogether b) {left : ℕ} {u : SystemView} (f : Stage b g.at (suc left) u) (messages : List Envelope) where
  abbrev s : SystemView
  s = without u messages

  -- by a voice of the node
  voiced : (m : Node) (t : Token) (rest : List Token) (how : How) → 1 ≤ count_of m b.alive → Drawn t f.tokens rest → IsMine m t
      → is_voice m t ≡ true
      → is_inner m t ≡ false → (f.far m).how ≡ how → filter (is_voice m) rest ≡ []
      → (old : Far) → f.far m ≡ old
      → (filter (is_inner m) rest ≡ inners m how (f.far m).ran
      → Goes g f m old rest (arrived (letter b g.at t).to (letter b g.at t).message s))
      → Stage b g.at left (arrived (letter b g.at t).to (letter b g.at t).message s)
  voiced m t rest how alive drawn mine voice apart is none old was goes =
      goes_on g f m old t rest (arrived (letter b g.at t).to (letter b g.at t).message s) alive was mine drawn none
      (goes (sym (drawn_apart (is_inner m) t f.tokens rest drawn apart) ∙ f.inner m alive ∙ ap (λ (x : How). inners m x (f.far m).ran) is))

  -- where it is told of a start elsewhere
  heard : (m : Node) (a : App) (rest : List Token) → 1 ≤ count_of m b.alive → messages ≡ map (letter b g.at) rest
      → Drawn (news m a) f.tokens rest → IsNext g.at m a f.tokens rest
      → (how : How) → (f.far m).how ≡ how
      → Stage b g.at left (arrived (process_at (h b g.at m) role.DistAc) (note g.at a) s)
  heard m a rest alive left_so drawn first unbegun is = noted_now g f m a alive messages rest left_so drawn first (ap is_standing is)
  heard m a rest alive left_so drawn first (asks c r) is = noted_now g f m a alive messages rest left_so drawn first (ap is_standing is)
  heard m a rest alive left_so drawn first (requests c r) is = noted_now g f m a alive messages rest left_so drawn first (ap is_standing is)
  heard m a rest alive left_so drawn first (stands c r) is = by (cases_eq a.0 c.0)
    where
      by : (a.0 ≡ c.0) ⊎ (a.0 ≢ c.0) → Stage b g.at left (arrived (process_at (h b g.at m) role.DistAc) (note g.at a) s)
      by (inl same) = goes_on_there g f m a alive messages rest left_so drawn r
          (is ∙ ap (λ (x : App). stands x r) (sym (same_app a c same)))
      by (inr other) = mailed_now g f m a alive messages rest left_so drawn c r first is other
  heard m a rest alive left_so drawn first (starts c r) is = noted_now g f m a alive messages rest left_so drawn first (ap is_standing is)
  heard m a rest alive left_so drawn first (learns c r) is = noted_now g f m a alive messages rest left_so drawn first (ap is_standing is)
  heard m a rest alive left_so drawn first (reports c r) is = noted_now g f m a alive messages rest left_so drawn first (ap is_standing is)
  heard m a rest alive left_so drawn first answered is = noted_now g f m a alive messages rest left_so drawn first (ap is_standing is)
  heard m a rest alive left_so drawn first over is = noted_now g f m a alive messages rest left_so drawn first (ap is_standing is)

  by_token : (t : Token) (rest : List Token) → messages ≡ map (letter b g.at) rest → Drawn t f.tokens rest
      → ((p : Token → Bool) → ((x y : Token) → p x ≡ true → p y ≡ true → is_of_pair (letter b g.at x) (letter b g.at y) ≡ true) → p t ≡ true
      → filter p f.tokens ≡ t ∷ filter p rest)
      → Stage b g.at left (arrived (letter b g.at t).to (letter b g.at t).message s)
  by_token (start m a r) rest left_so drawn first =
      let alive : 1 ≤ count_of m b.alive = (drawn_all (IsOf b) (start m a r) f.tokens rest f.known drawn).0 in
      let one : ((f.far m).how ≡ asks a r) × (filter (is_voice m) rest ≡ []) =
      only_start m a r (f.far m).how (filter (is_voice m) rest)
      (subst (λ (l : List Token). Drawn (start m a r) l (filter (is_voice m) rest)) (f.voiced m alive)
      (drawn_fits (is_voice m) (start m a r) f.tokens rest drawn (eq-eqb m.0 m.0 refl))) in
      let was : f.far m ≡ record (f.far m) { how = asks a r } = (λ i. record (f.far m) { how = one.0 i }) in
      voiced m (start m a r) rest (asks a r) alive drawn (refl, refl) (eq-eqb m.0 m.0 refl) refl one.0 one.1
      (record (f.far m) { how = asks a r }) was
      (λ inner. starts_so g f m a r alive messages rest left_so was inner)
  by_token (request m a) rest left_so drawn first =
      let alive : 1 ≤ count_of m b.alive = (drawn_all (IsOf b) (request m a) f.tokens rest f.known drawn).0 in
      answers_it g f m a alive messages rest left_so drawn (first (is_inner m) (inner_pairs b g.at m) (eq-eqb m.0 m.0 refl))
  by_token (yes m a) rest left_so drawn first =
      let alive : 1 ≤ count_of m b.alive = (drawn_all (IsOf b) (yes m a) f.tokens rest f.known drawn).0 in
      let one : (r : Restart) × ((f.far m).how ≡ starts a r) × (filter (is_voice m) rest ≡ []) =
      only_yes m a (f.far m).how (filter (is_voice m) rest)
      (subst (λ (l : List Token). Drawn (yes m a) l (filter (is_voice m) rest)) (f.voiced m alive)
      (drawn_fits (is_voice m) (yes m a) f.tokens rest drawn (eq-eqb m.0 m.0 refl))) in
      let was : f.far m ≡ record (f.far m) { how = starts a one.0 } = (λ i. record (f.far m) { how = one.1 i }) in
      voiced m (yes m a) rest (starts a one.0) alive drawn (refl, refl) (eq-eqb m.0 m.0 refl) refl one.1 one.2
      (record (f.far m) { how = starts a one.0 }) was
      (λ inner. starts_here g f m a one.0 alive messages rest left_so was inner)
  by_token (there m a) rest left_so drawn first =
      let alive : 1 ≤ count_of m b.alive = (drawn_all (IsOf b) (there m a) f.tokens rest f.known drawn).0 in
      let one : (r : Restart) × ((f.far m).how ≡ learns a r) × (filter (is_voice m) rest ≡ []) =
      only_there m a (f.far m).how (filter (is_voice m) rest)
      (subst (λ (l : List Token). Drawn (there m a) l (filter (is_voice m) rest)) (f.voiced m alive)
      (drawn_fits (is_voice m) (there m a) f.tokens rest drawn (eq-eqb m.0 m.0 refl))) in
      let was : f.far m ≡ record (f.far m) { how = learns a one.0 } = (λ i. record (f.far m) { how = one.1 i }) in
      voiced m (there m a) rest (learns a one.0) alive drawn (refl, refl) (eq-eqb m.0 m.0 refl) refl one.1 one.2
      (record (f.far m) { how = learns a one.0 }) was
      (λ inner. learns_so g f m a one.0 alive messages rest left_so was inner)
  by_token (report m a) rest left_so drawn first =
      let alive : 1 ≤ count_of m b.alive = (drawn_all (IsOf b) (report m a) f.tokens rest f.known drawn).0 in
      let one : (r : Restart) × ((f.far m).how ≡ reports a r) × (filter (is_voice m) rest ≡ []) =
      only_report m a (f.far m).how (filter (is_voice m) rest)
      (subst (λ (l : List Token). Drawn (report m a) l (filter (is_voice m) rest)) (f.voiced m alive)
      (drawn_fits (is_voice m) (report m a) f.tokens rest drawn (eq-eqb m.0 m.0 refl))) in
      let was : f.far m ≡ record (f.far m) { how = reports a one.0 } = (λ i. record (f.far m) { how = one.1 i }) in
      voiced m (report m a) rest (reports a one.0) alive drawn (refl, refl) (eq-eqb m.0 m.0 refl) refl one.1 one.2
      (record (f.far m) { how = reports a one.0 }) was
      (λ inner. reports_so g f m a one.0 alive messages rest left_so was inner)
  by_token (answer m) rest left_so drawn first =
      let alive : 1 ≤ count_of m b.alive = (drawn_all (IsOf b) (answer m) f.tokens rest f.known drawn).0 in
      let one : ((f.far m).how ≡ answered) × (filter (is_voice m) rest ≡ []) =
      only_answer m (f.far m).how (filter (is_voice m) rest)
      (subst (λ (l : List Token). Drawn (answer m) l (filter (is_voice m) rest)) (f.voiced m alive)
      (drawn_fits (is_voice m) (answer m) f.tokens rest drawn (eq-eqb m.0 m.0 refl))) in
      let was : f.far m ≡ record (f.far m) { how = answered } = (λ i. record (f.far m) { how = one.0 i }) in
      voiced m (answer m) rest answered alive drawn (refl, refl) (eq-eqb m.0 m.0 refl) refl one.0 one.1
      (record (f.far m) { how = answered }) was
      (λ inner. goes_further g f m alive messages rest left_so (f.far m).rest was inner)
  by_token (ran m a) rest left_so drawn first =
      let alive : 1 ≤ count_of m b.alive = (drawn_all (IsOf b) (ran m a) f.tokens rest f.known drawn).0 in
      tells_all g f m a alive messages rest left_so drawn (first (is_inner m) (inner_pairs b g.at m) (eq-eqb m.0 m.0 refl))
  by_token (news m a) rest left_so drawn first =
      let alive : 1 ≤ count_of m b.alive = (drawn_all (IsOf b) (news m a) f.tokens rest f.known drawn).0 in
      heard m a rest alive left_so drawn
      (λ n q own is. first (is_news m q) (news_pairs b g.at m n q own) (λ i. eq-eqb m.0 m.0 refl i && is i)) (f.far m).how refl

  -- a message is taken
  pub taken_on : (e : Envelope) → Taken e u.messages messages → Stage b g.at left (arrived e.to e.message s)
  taken_on e taken =
      let one : First (letter b g.at) e f.tokens messages =
      first_as (letter b g.at) e f.tokens messages
      (subst (λ (l : List Envelope). Taken e l messages) (ap (λ (x : SystemView). x.messages) f.same) taken) in
      subst (λ (y : Envelope). Stage b g.at left (arrived y.to y.message s)) (sym one.is)
      (by_token one.token one.rest one.left_so one.drawn one.first)
