-- A script begins, or goes on to the next entry of its list, or comes to its end.
use Rattle.std.proofs.Common.{◌≡◌, ◌≢◌, ◌≤◌, ◌<◌, ◌⊎◌, ◌+◌, ◌-◌, ◌^◌, ◌++◌, ◌==◌, ◌&&◌, ℕ, zero, suc, min, nat_lt, Bool, true, false, cond, List, [], ◌∷◌, map, filter, length, slice_get, Option, Some, None, refl, sym, ap, subst, ◌∙◌, inl, inr, arith}
use Rattle.std.specs.List.{remove}
use Rattle.std.specs.Prelude.{All}
use Rattle.std.proofs.Math.Bool.{and-true}
use Rattle.std.proofs.lemmas.Bool.{cases_eq, eq-eqb, ne_eqb}
use Rattle.std.proofs.lemmas.List.{append-nil, map-append}
use Rattle.std.proofs.lemmas.List.Elements.{All-nil, All-cons, filter-append}
use Rattle.rh_model.specs.ClusterView.{boot_of, node_count}
use Rattle.rh_model.specs.declared.node.App.{App}
use Rattle.rh_model.specs.declared.node.Node.{Node}
use Rattle.rh_model.specs.declared.settings.Restart.{Restart}
use Rattle.rh_otp_model.specs.declared.fault.Outcome.TheVariants.{Done}
use Rattle.rh_otp_model.specs.declared.message.Message.TheVariants as message
use Rattle.rh_otp_model.specs.declared.output.Envelope.{Envelope}
use Rattle.rh_otp_model.specs.declared.output.Event.{Event}
use Rattle.rh_otp_model.specs.declared.output.Event.TheVariants as event
use Rattle.rh_otp_model.specs.declared.process.Role.TheVariants as role
use Rattle.rh_otp_model.specs.Processes.{process_at}
use Rattle.rh_otp_node.specs.Boot.{entry_at, is_end}
use Rattle.rh_otp_node.specs.Live.{LiveView, here_of, is_alive}
use Rattle.rh_otp_system.specs.declared.slow.Slow.{Slow}
use Rattle.rh_otp_system.specs.declared.slow.Slow.TheVariants as slow
use Rattle.rh_otp_system.specs.Delivering.{arrived, slowed}
use Rattle.rh_otp_system.specs.Joining.{boot_next}
use Rattle.rh_otp_system.specs.Moves.{slow_done, slow_done_if}
use Rattle.rh_otp_system.specs.State.{SystemView, live_at, with_node}
use Rattle.rh_otp_orders.specs.Orders.{node_told}
use Rattle.rh_otp_crashes.proofs.Crossing.{same_node}
use Rattle.rh_otp_crashes.proofs.Peace.{without}
use Rattle.rh_otp_crashes.proofs.Turning.{node_is}
use Rattle.rh_otp_joins.proofs.Lists.{more_if, count_of}
use Rattle.rh_otp_together.specs.Together.{BootTogether}
use Rattle.rh_otp_together.proofs.Apps.{swapped}
use Rattle.rh_otp_together.proofs.Booting.{asked_for, ended_at, boots_on}
use Rattle.rh_otp_together.proofs.Forms.{How, unbegun, asks, requests, stands, starts, learns, reports, answered, over, Far, live, Fine, Token, letter, h, onto, is_inner, is_voice, voices, inners, is_standing, tale_of}
use Rattle.rh_otp_together.proofs.Moving.{comes_to, there_now, written}
use Rattle.rh_otp_together.proofs.Needs.{each_of, once_of, up_of}
use Rattle.rh_otp_together.proofs.Plain.{IsMine, plainly, live_there, voices_pass, voices_mine, voices_no_inner}
use Rattle.rh_otp_together.proofs.Stages.{is_unbegun, Stage, changed, changed_here, changed_other}
use Rattle.rh_otp_together.proofs.Starting.{no_events}
use Rattle.rh_otp_together.proofs.Stepping.{stepped}
use Rattle.rh_otp_together.proofs.Voices.{Goes, same_inners, still_held}

-- ---- the place in the list

pub at_onto : {A : Type 0} (d l : List A) (k : ℕ) → slice_get (onto d l) (length d + k) ≡ slice_get l k
at_onto [] l k = ap (slice_get l) (let same : 0 + k ≡ k = omega arith in same)
at_onto (x ∷ d) l k =
    ap (slice_get (onto d (x ∷ l))) (let same : suc (length d) + k ≡ length d + suc k = omega arith in same)
    ∙ at_onto d (x ∷ l) (suc k)

pub length_onto : {A : Type 0} (d l : List A) → length (onto d l) ≡ length d + length l
length_onto [] l = omega arith
length_onto (x ∷ d) l = let rest : length (onto d (x ∷ l)) ≡ length d + suc (length l) = length_onto d (x ∷ l) in omega (arith, rest)

abbrev pub head : List (App × Restart) → Option (App × Restart)
head [] = None
head (row ∷ rest) = Some row

abbrev pub ended_by : SystemView → Node → List (App × Restart) → List Event
ended_by b m [] = cond (nat_lt m.0 (node_count b.cluster)) (event.Booted m ∷ []) []
ended_by b m (row ∷ rest) = []

first_of : (rest : List (App × Restart)) → slice_get rest 0 ≡ head rest
first_of [] = refl
first_of (row ∷ rest) = refl

-- what it does then
pub boots_now : (b s : SystemView) (m : Node) (v : LiveView) (done rest : List (App × Restart)) → live_at s m ≡ Some v
    → v.place ≡ length done → s.cluster ≡ b.cluster → boot_of b.cluster m ≡ onto done rest → length (boot_of b.cluster m) < 2 ^ 64 - 1
    → boot_next m None s
    ≡ record (with_node m (record v { place = length done + 1 }) s) {
      messages = s.messages ++ asked_for (here_of m v) (head rest);
      events = s.events ++ ended_by b m rest;
    }
boots_now b s m v done rest there place in_cluster boots short =
    boots_on m s v there
    ∙ (λ i. record (with_node m (record v { place = min (place i + 1) (2 ^ 64 - 1) }) s) {
      messages = s.messages ++ asked_for (here_of m v) (entry_at (in_cluster i) m (place i));
      events = s.events ++ ended_at m (is_end (in_cluster i) m (place i)) (entry_at (in_cluster i) m (place i));
    })
    ∙ (λ i. record (with_node m (record v { place = within i }) s) {
      messages = s.messages ++ asked_for (here_of m v) (entry i);
      events = s.events ++ (ap (ended_at m (is_end b.cluster m (length done))) entry ∙ ends rest boots) i;
    })
  where
    many : length (boot_of b.cluster m) ≡ length done + length rest
    many = ap (λ (l : List (App × Restart)). length l) boots ∙ length_onto done rest

    within : min (length done + 1) (2 ^ 64 - 1) ≡ length done + 1
    within = omega (arith, short, many)

    entry : entry_at b.cluster m (length done) ≡ head rest
    entry =
        ap (λ (l : List (App × Restart)). slice_get l (length done)) boots
        ∙ ap (slice_get (onto done rest)) (let same : length done ≡ length done + 0 = omega arith in same)
        ∙ at_onto done rest 0 ∙ first_of rest

    ends : (l : List (App × Restart)) → boot_of b.cluster m ≡ onto done l → ended_at m (is_end b.cluster m (length done)) (head l)
        ≡ ended_by b m l
    ends [] is =
        ap (λ (c : Bool). cond (nat_lt m.0 (node_count b.cluster) && c) (event.Booted m ∷ []) [])
        (eq-eqb (length done) (length (boot_of b.cluster m))
        (let all : length (boot_of b.cluster m) ≡ length done + 0 = ap (λ (x : List (App × Restart)). length x) is
        ∙ length_onto done [] in omega (arith, all)))
        ∙ ap (λ (c : Bool). cond c (event.Booted m ∷ []) []) (and-true (nat_lt m.0 (node_count b.cluster)))
    ends (row ∷ l) is = refl

-- how it is then
abbrev pub how_then : List (App × Restart) → How
how_then [] = over
how_then (row ∷ rest) = asks row.0 row.1

abbrev pub rest_then : List (App × Restart) → List (App × Restart)
rest_then [] = []
rest_then (row ∷ rest) = rest

told_once : (m : Node) (c : Bool) → All (λ (e : Event). node_told e ≡ Some m) (cond c (event.Booted m ∷ []) [])
told_once m true = All-cons (λ (e : Event). node_told e ≡ Some m) (event.Booted m) [] refl (no_events m)
told_once m false = no_events m

-- ---- the script has its answer

module _ {b : SystemView} (g : BootTogether b) {left : ℕ} {u : SystemView} (f : Stage b g.at (suc left) u) (m : Node)
    (alive : 1 ≤ count_of m b.alive) (messages : List Envelope) (rest : List Token) (left_so : messages ≡ map (letter b g.at) rest) where
  abbrev k : Far
  k = f.far m

  in_cluster : u.cluster ≡ b.cluster
  in_cluster = ap (λ (x : SystemView). x.cluster) f.same

  abbrev pub with_answer : List (App × Restart) → Far
  with_answer entries = record (f.far m) { how = answered; rest = entries }

  pub goes_further : (entries : List (App × Restart)) → f.far m ≡ with_answer entries → filter (is_inner m) rest ≡ inners m answered k.ran
      → Goes g f m (with_answer entries) rest (arrived (process_at (h b g.at m) role.Boot) (message.Answer Done) (without u messages))
  goes_further [] was inner = record {
    next = record (f.far m) { how = over; rest = [] };
    extra = [];
    seen = ended_by b m [];
    is = comes_to g f m (with_answer []) alive was messages role.Boot (message.Answer Done)
        ∙ boots_now b (without u messages) m (live b g.at m (with_answer [])) k.done []
        (there_now g f m (with_answer []) alive was messages)
        refl in_cluster fine.boots (each_of g m alive).short
        ∙ written g f m (with_answer []) alive was messages (live b g.at m (record (f.far m) { how = over; rest = [] })) rest []
        (ended_by b m []) left_so;
    same_rows = refl;
    same_mail = refl;
    asked = refl;
    told = refl;
    mine = All-nil (IsMine m);
    voiceless = refl;
    inner = append-nil (filter (is_inner m) rest) ∙ inner ∙ same_inners m answered over k.ran refl;
    quiet = refl;
    begun = refl;
    weighs = omega arith;
    fine = record {
      boots = fine.boots;
      order = fine.order;
      so = refl;
      lately = fine.lately;
      marked = fine.marked;
      mail =
          fine.mail;
      single = fine.single;
      awaited = tt;
    };
    tells = refl;
    own = told_once m (nat_lt m.0 (node_count b.cluster));
  }
    where
      fine : Fine b g.at m (with_answer [])
      fine = subst (Fine b g.at m) was (f.fine m alive)
  goes_further (row ∷ entries) was inner = record {
    next = record (f.far m) { how = asks row.0 row.1; rest = entries };
    extra = [];
    seen = [];
    is = comes_to g f m (with_answer (row ∷ entries)) alive was messages role.Boot (message.Answer Done)
        ∙ boots_now b (without u messages) m (live b g.at m (with_answer (row ∷ entries))) k.done (row ∷ entries)
        (there_now g f m (with_answer (row ∷ entries)) alive was messages) refl in_cluster fine.boots (each_of g m alive).short
        ∙ written g f m (with_answer (row ∷ entries)) alive was messages
        (live b g.at m (record (f.far m) { how = asks row.0 row.1; rest = entries })) rest
        (voices m (asks row.0 row.1)) [] left_so;
    same_rows = refl;
    same_mail = refl;
    asked = refl;
    told = refl;
    mine = All-nil (IsMine m);
    voiceless = refl;
    inner = append-nil (filter (is_inner m) rest) ∙ inner ∙ same_inners m answered (asks row.0 row.1) k.ran refl;
    quiet = refl;
    begun = refl;
    weighs = omega arith;
    fine = record {
      boots = fine.boots;
      order = fine.order;
      so = tt;
      lately = fine.lately;
      marked = fine.marked;
      mail =
          fine.mail;
      single = fine.single;
      awaited = tt;
    };
    tells = sym (append-nil (tale_of b g.at m k.done));
    own = no_events m;
  }
    where
      fine : Fine b g.at m (with_answer (row ∷ entries))
      fine = subst (Fine b g.at m) was (f.fine m alive)

-- ---- a script begins

-- one of those that wait is taken
pub record Chosen (waiting : List Node) (place : ℕ) : Type 0 where
  pub node : Node
  pub others : List Node
  pub is : slice_get (map slow.Boot waiting) place ≡ Some (slow.Boot node)
  pub left : remove (map slow.Boot waiting) place ≡ map slow.Boot others
  pub counts : (k : Node) → count_of k waiting ≡ more_if (node.0 == k.0) (count_of k others)

pub chosen : (waiting : List Node) (place : ℕ) → place < length (map slow.Boot waiting) → Chosen waiting place
chosen [] place within = absurd (omega (arith, within))
chosen (x ∷ waiting) zero within = record { node = x; others = waiting; is = refl; left = refl; counts = λ k. refl }
chosen (x ∷ waiting) (suc place) within =
    let rest : Chosen waiting place = chosen waiting place (omega (arith, within)) in
    record {
      node = rest.node;
      others = x ∷ rest.others;
      is = rest.is;
      left = ap (λ (l : List Slow). slow.Boot x ∷ l) rest.left;
      counts = λ k. ap (more_if (x.0 == k.0)) (rest.counts k) ∙ swapped (x.0 == k.0) (rest.node.0 == k.0) (count_of k rest.others);
    }

is_waiting : (how : How) → is_unbegun how ≡ true → how ≡ unbegun
is_waiting unbegun is = refl
is_waiting (asks a r) is = absurd (cc)
is_waiting (requests a r) is = absurd (cc)
is_waiting (stands a r) is = absurd (cc)
is_waiting (starts a r) is = absurd (cc)
is_waiting (learns a r) is = absurd (cc)
is_waiting (reports a r) is = absurd (cc)
is_waiting answered is = absurd (cc)
is_waiting over is = absurd (cc)

some_waits : (c : Bool) (j : ℕ) → 1 ≤ cond c j 0 → (c ≡ true) × (1 ≤ j)
some_waits true j some = (refl, some)
some_waits false j some = absurd (omega (arith, some))

module _ {b : SystemView} (g : BootTogether b) {left : ℕ} {u : SystemView} (f : Stage b g.at (suc left) u) (place : ℕ)
    (within : place < length (map slow.Boot f.waiting)) where
  abbrev c : Chosen f.waiting place
  c = chosen f.waiting place within

  abbrev m : Node
  m = c.node

  abbrev s : SystemView
  s = record u { slow = remove u.slow place }

  slow_so : u.slow ≡ map slow.Boot f.waiting
  slow_so = ap (λ (x : SystemView). x.slow) f.same

  waits : (is_unbegun (f.far m).how ≡ true) × (1 ≤ count_of m b.alive)
  waits =
      let counts : count_of m f.waiting ≡ more_if (m.0 == m.0) (count_of m c.others) = c.counts m in
      let here : more_if (m.0 == m.0) (count_of m c.others) ≡ suc (count_of m c.others) =
      ap (λ (d : Bool). more_if d (count_of m c.others)) (eq-eqb m.0 m.0 refl) in
      let so : count_of m f.waiting ≡ cond (is_unbegun (f.far m).how) (count_of m b.alive) 0 = f.slow m in
      some_waits (is_unbegun (f.far m).how) (count_of m b.alive) (omega (arith, counts, here, so))

  alive : 1 ≤ count_of m b.alive
  alive = waits.1

  abbrev unbegun_with : List (App × Restart) → Far
  unbegun_with entries = record (f.far m) { how = unbegun; rest = entries }

  was : f.far m ≡ unbegun_with (f.far m).rest
  was = λ i. record (f.far m) { how = is_waiting (f.far m).how waits.0 i }

  -- what it comes to
  begins_so : slow_done place u ≡ boot_next m None s
  unfolding slowed
  begins_so =
      ap (λ (o : Option Slow). slow_done_if place o u) (ap (λ (l : List Slow). slice_get l place) slow_so ∙ c.is)
      ∙ ap (λ (d : Bool). cond d (boot_next m None s) s)
      (ap is_alive (node_is u m (live b g.at m (unbegun_with (f.far m).rest)) (live_there f m (unbegun_with (f.far m).rest) alive was))
      ∙ up_of g m alive)

  others_wait : (next : Far) → is_unbegun next.how ≡ false → (k : Node)
      → count_of k c.others ≡ cond (is_unbegun (changed m f.far next k).how) (count_of k b.alive) 0
  others_wait next begun k = by (cases_eq k.0 m.0)
    where
      by : (k.0 ≡ m.0) ⊎ (k.0 ≢ m.0) → count_of k c.others ≡ cond (is_unbegun (changed m f.far next k).how) (count_of k b.alive) 0
      by (inl is) =
          let counts : count_of k f.waiting ≡ more_if (m.0 == k.0) (count_of k c.others) = c.counts k in
          let here : more_if (m.0 == k.0) (count_of k c.others) ≡ suc (count_of k c.others) =
          ap (λ (d : Bool). more_if d (count_of k c.others)) (eq-eqb m.0 k.0 (sym is)) in
          let so : count_of k f.waiting ≡ cond (is_unbegun (f.far k).how) (count_of k b.alive) 0 = f.slow k in
          let yes : cond (is_unbegun (f.far k).how) (count_of k b.alive) 0 ≡ count_of k b.alive =
          ap (λ (d : Bool). cond d (count_of k b.alive) 0) (ap (λ (x : Node). is_unbegun (f.far x).how) (same_node k m is) ∙ waits.0) in
          let one : count_of k b.alive ≡ 1 = ap (λ (x : Node). count_of x b.alive) (same_node k m is) ∙ once_of g m alive in
          let none : cond (is_unbegun (changed m f.far next k).how) (count_of k b.alive) 0 ≡ 0 =
          ap (λ (d : Bool). cond d (count_of k b.alive) 0) (ap (λ (x : Far). is_unbegun x.how) (changed_here m f.far next k is) ∙ begun) in
          omega (arith, counts, here, so, yes, one, none)
      by (inr other) =
          sym (c.counts k ∙ ap (λ (d : Bool). more_if d (count_of k c.others)) (ne_eqb m.0 k.0 (λ is. other (sym is))))
          ∙ f.slow k ∙ ap (λ (x : Far). cond (is_unbegun x.how) (count_of k b.alive) 0) (sym (changed_other m f.far next k other))

  further : (entries : List (App × Restart)) → f.far m ≡ unbegun_with entries
      → boot_next m None s
      ≡ record (with_node m (record (live b g.at m (unbegun_with entries)) { place = length (f.far m).done + 1 }) u) {
        messages = u.messages ++ asked_for (h b g.at m) (head entries);
        slow = map slow.Boot c.others;
        events = u.events ++ ended_by b m entries;
      }
  further entries so =
      boots_now b s m (live b g.at m (unbegun_with entries)) (f.far m).done entries (live_there f m (unbegun_with entries) alive so) refl
      (ap (λ (x : SystemView). x.cluster) f.same) (subst (Fine b g.at m) so (f.fine m alive)).boots (each_of g m alive).short
      ∙ (λ i. record (with_node m (record (live b g.at m (unbegun_with entries)) { place = length (f.far m).done + 1 }) u) {
        messages = u.messages ++ asked_for (h b g.at m) (head entries);
        slow = (ap (λ (l : List Slow). remove l place) slow_so ∙ c.left) i;
        events = u.events ++ ended_by b m entries;
      })

  app_nil : (l : List Token) → l ++ [] ≡ l
  app_nil [] = refl
  app_nil (x ∷ l) = ap (λ (y : List Token). x ∷ y) (app_nil l)

  none_voiced : filter (is_voice m) f.tokens ≡ []
  none_voiced = f.voiced m alive ∙ ap (voices m) (is_waiting (f.far m).how waits.0)

  messages_so : u.messages ≡ map (letter b g.at) f.tokens
  messages_so = ap (λ (x : SystemView). x.messages) f.same

  one_begins : (entries : List (App × Restart)) → f.far m ≡ unbegun_with entries → Stage b g.at left (boot_next m None s)
  one_begins [] so = stepped f m (boot_next m None s) (once_of g m alive) (plainly f m (boot_next m None s) (record {
    old = unbegun_with [];
    was = so;
    alive = alive;
    next = next;
    rest = f.tokens;
    left_by = inl refl;
    more = [];
    mine = All-nil (IsMine m);
    waiting = c.others;
    seen = ended_by b m [];
    locks = u.locks;
    is = further [] so ∙ (λ i. record (with_node m (live b g.at m next) u) {
      messages = (append-nil u.messages ∙ messages_so ∙ ap (map (letter b g.at)) (sym (app_nil f.tokens))) i;
      slow = map slow.Boot c.others;
      events = u.events ++ ended_by b m [];
    });
    weighs = omega arith;
    fine = record {
      boots = fine.boots;
      order = fine.order;
      so = refl;
      lately = fine.lately;
      marked = fine.marked;
      mail =
          fine.mail;
      single = fine.single;
      awaited = tt;
    };
    locked = still_held b f.far m next u.locks (ap (λ (x : Far). is_standing x.how) so) f.locks;
    slow = others_wait next refl;
    voiced = ap (filter (is_voice m)) (app_nil f.tokens) ∙ none_voiced;
    inner = ap (filter (is_inner m)) (app_nil f.tokens) ∙ f.inner m alive ∙ ap (λ (x : Far). inners m x.how x.ran) so
        ∙ same_inners m unbegun over (f.far m).ran refl;
    sums = λ a away. refl;
    homes = λ a home. refl;
    told = λ a home. refl;
    ordered = λ q strange. refl;
    said = λ q own. refl;
    tells = refl;
    own = told_once m (nat_lt m.0 (node_count b.cluster));
  }))
    where
      next : Far
      next = record (f.far m) { how = over; rest = [] }

      fine : Fine b g.at m (unbegun_with [])
      fine = subst (Fine b g.at m) so (f.fine m alive)
  one_begins (row ∷ entries) so = stepped f m (boot_next m None s) (once_of g m alive) (plainly f m (boot_next m None s) (record {
    old = unbegun_with (row ∷ entries);
    was = so;
    alive = alive;
    next = next;
    rest = f.tokens;
    left_by = inl refl;
    more = voices m (asks row.0 row.1);
    mine = voices_mine m (asks row.0 row.1);
    waiting = c.others;
    seen = [];
    locks = u.locks;
    is = further (row ∷ entries) so ∙ (λ i. record (with_node m (live b g.at m next) u) {
      messages = (ap (λ (l : List Envelope). l ++ map (letter b g.at) (voices m (asks row.0 row.1))) messages_so
          ∙ sym (map-append (letter b g.at) f.tokens (voices m (asks row.0 row.1)))) i;
      slow = map slow.Boot c.others;
      events = u.events ++ [];
    });
    weighs = omega arith;
    fine = record {
      boots = fine.boots;
      order = fine.order;
      so = tt;
      lately = fine.lately;
      marked = fine.marked;
      mail =
          fine.mail;
      single = fine.single;
      awaited = tt;
    };
    locked = still_held b f.far m next u.locks (ap (λ (x : Far). is_standing x.how) so) f.locks;
    slow = others_wait next refl;
    voiced =
        filter-append (is_voice m) f.tokens (voices m (asks row.0 row.1))
        ∙ (λ i. none_voiced i ++ voices_pass m (asks row.0 row.1) i);
    inner =
        filter-append (is_inner m) f.tokens (voices m (asks row.0 row.1))
        ∙ (λ i. filter (is_inner m) f.tokens ++ voices_no_inner m m (asks row.0 row.1) i) ∙ app_nil (filter (is_inner m) f.tokens)
        ∙ f.inner m alive ∙ ap (λ (x : Far). inners m x.how x.ran) so ∙ same_inners m unbegun (asks row.0 row.1) (f.far m).ran refl;
    sums = λ a away. refl;
    homes = λ a home. refl;
    told = λ a home. refl;
    ordered = λ q strange. refl;
    said = λ q own. refl;
    tells = sym (append-nil (tale_of b g.at m (f.far m).done));
    own = no_events m;
  }))
    where
      next : Far
      next = record (f.far m) { how = asks row.0 row.1; rest = entries }

      fine : Fine b g.at m (unbegun_with (row ∷ entries))
      fine = subst (Fine b g.at m) so (f.fine m alive)

  pub begins : Stage b g.at left (slow_done place u)
  begins = subst (Stage b g.at left) (sym begins_so) (one_begins (f.far m).rest was)
