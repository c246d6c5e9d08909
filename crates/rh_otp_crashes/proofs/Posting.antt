-- What a dist_ac tells the others that it knows, carried out.
use Rattle.std.proofs.Common.{◌≡◌, ◌≢◌, ◌++◌, ◌==◌, ◌&&◌, ◌||◌, ℕ, Bool, true, false, cond, List, [], ◌∷◌, refl, sym, ap, ◌∙◌}
use Rattle.std.specs.Prelude.{All}
use Rattle.std.proofs.lemmas.Bool.{eq-eqb, false≢true}
use Rattle.std.proofs.lemmas.List.{append_assoc, append-nil}
use Rattle.std.proofs.lemmas.List.Elements.{All-nil, All-cons}
use Rattle.rh_model.specs.declared.node.Node.{Node}
use Rattle.rh_otp_model.specs.declared.message.Message.{Message}
use Rattle.rh_otp_model.specs.declared.output.Envelope.{Envelope}
use Rattle.rh_otp_model.specs.declared.output.Output.{Output}
use Rattle.rh_otp_model.specs.declared.output.Output.TheVariants as output
use Rattle.rh_otp_model.specs.declared.process.Role.TheVariants as role
use Rattle.rh_otp_model.specs.Processes.{process_at}
use Rattle.rh_otp_dist.specs.Sending.{send_all, send_to}
use Rattle.rh_otp_dist.specs.State.{TurnView, is_among}
use Rattle.rh_otp_net.specs.Links.{are_linked}
use Rattle.rh_otp_system.specs.Connecting.{reach, send_reached, send_to_dist}
use Rattle.rh_otp_system.specs.Outputs.{all_carried_out}
use Rattle.rh_otp_system.specs.State.{SystemView, node_at, has_dist_at, is_alive_at, process_in}
use Rattle.rh_otp_crashes.proofs.Peace.{here_in}
use Rattle.rh_otp_crashes.proofs.Waiting.{stays}

-- what it tells, of these nodes, all but its own
abbrev pub posts : Node → Message → List Node → List Output
posts n x [] = []
posts n x (m ∷ nodes) = cond (m.0 == n.0) (posts n x nodes) (output.ToDist m x ∷ posts n x nodes)

sends_by : (n : Node) (x : Message) (m : Node) (nodes : List Node) (b : Bool) (t : TurnView)
    → ((out : List Output) → send_all nodes x (record t { out = out }) ≡ record t { out = out ++ posts n x nodes })
    → send_all nodes x (cond b t (send_to m x t))
    ≡ record t { out = t.out ++ cond b (posts n x nodes) (output.ToDist m x ∷ posts n x nodes) }
sends_by n x m nodes true t rest = rest t.out
sends_by n x m nodes false t rest =
    rest (t.out ++ output.ToDist m x ∷ [])
    ∙ (λ i. record t { out = append_assoc t.out (output.ToDist m x ∷ []) (posts n x nodes) i })

pub sends : (x : Message) (nodes : List Node) (t : TurnView) → send_all nodes x t ≡ record t { out = t.out ++ posts t.here.node x nodes }
sends x [] t = λ i. record t { out = sym (append-nil t.out) i }
sends x (m ∷ nodes) t = sends_by t.here.node x m nodes (m.0 == t.here.node.0) t (λ out. sends x nodes (record t { out = out }))

-- the message from one dist_ac to another
abbrev pub posted_to : (Node → ℕ) → Node → Message → Node → Envelope
posted_to lives n x m = record {
  from = process_at (here_in lives n) role.DistAc;
  to = process_at (here_in lives m) role.DistAc;
  message = x;
}

-- those that are alive and have a dist_ac get it
abbrev pub mails : (Node → ℕ) → SystemView → Node → Message → List Node → List Envelope
mails lives s n x [] = []
mails lives s n x (m ∷ nodes) =
    cond (m.0 == n.0) (mails lives s n x nodes)
    (cond (is_alive_at s m && has_dist_at s m) (posted_to lives n x m ∷ mails lives s n x nodes) (mails lives s n x nodes))

posted : {lives : Node → ℕ} (n m : Node) (x : Message) (s : SystemView) → ((k : Node) → (node_at s k).life ≡ lives k)
    → (is_alive_at s m ≡ true → (n.0 == m.0 || are_linked n m s.links) ≡ true)
    → send_to_dist n m x s
    ≡ cond (is_alive_at s m && has_dist_at s m) (record s { messages = s.messages ++ posted_to lives n x m ∷ [] }) s
posted {lives} n m x s same seen = by (is_alive_at s m) refl
  where
    sent_so : record s {
      messages = s.messages ++ record { from = process_in s n role.DistAc; to = process_in s m role.DistAc; message = x } ∷ [];
    }
        ≡ record s { messages = s.messages ++ posted_to lives n x m ∷ [] }
    sent_so = λ i. record s {
      messages = s.messages ++ record {
        from = process_at (record { node = n; life = same n i }) role.DistAc;
        to = process_at (record { node = m; life = same m i }) role.DistAc;
        message = x;
      } ∷ [];
    }

    has : (c : Bool) → cond c (record s {
      messages = s.messages ++ record { from = process_in s n role.DistAc; to = process_in s m role.DistAc; message = x } ∷ [];
    }) s
        ≡ cond c (record s { messages = s.messages ++ posted_to lives n x m ∷ [] }) s
    has true = sent_so
    has false = refl

    by : (b : Bool) → is_alive_at s m ≡ b → cond b (send_reached n m x (reach n m s)) s
        ≡ cond (b && has_dist_at s m) (record s { messages = s.messages ++ posted_to lives n x m ∷ [] }) s
    by true alive = ap (send_reached n m x) (stays n m s (seen alive)) ∙ has (has_dist_at s m)
    by false dead = refl

post_by : (lives : Node → ℕ) (n m : Node) (x : Message) (nodes : List Node) (s : SystemView) (b : Bool)
    → ((l : List Envelope) → all_carried_out n (posts n x nodes) (record s { messages = l })
    ≡ record s { messages = l ++ mails lives s n x nodes })
    → send_to_dist n m x s ≡ cond (is_alive_at s m && has_dist_at s m) (record s { messages = s.messages ++ posted_to lives n x m ∷ [] }) s
    → all_carried_out n (cond b (posts n x nodes) (output.ToDist m x ∷ posts n x nodes)) s
    ≡ record s {
      messages = s.messages ++ cond b (mails lives s n x nodes)
          (cond (is_alive_at s m && has_dist_at s m) (posted_to lives n x m ∷ mails lives s n x nodes) (mails lives s n x nodes));
    }
post_by lives n m x nodes s true rest one = rest s.messages
post_by lives n m x nodes s false rest one = ap (all_carried_out n (posts n x nodes)) one ∙ by (is_alive_at s m && has_dist_at s m)
  where
    by : (c : Bool) → all_carried_out n (posts n x nodes) (cond c (record s { messages = s.messages ++ posted_to lives n x m ∷ [] }) s)
        ≡ record s { messages = s.messages ++ cond c (posted_to lives n x m ∷ mails lives s n x nodes) (mails lives s n x nodes) }
    by true =
        rest (s.messages ++ posted_to lives n x m ∷ [])
        ∙ (λ i. record s { messages = append_assoc s.messages (posted_to lives n x m ∷ []) (mails lives s n x nodes) i })
    by false = rest s.messages

either_way : (p : Bool) → (p || true) ≡ true
either_way true = refl
either_way false = refl

-- where it sees those of them that are alive no node is connected
pub all_posted : {lives : Node → ℕ} (n : Node) (x : Message) (nodes : List Node) (s : SystemView)
    → ((k : Node) → (node_at s k).life ≡ lives k)
    → ((m : Node) → is_among m nodes ≡ true → is_alive_at s m ≡ true → (n.0 == m.0 || are_linked n m s.links) ≡ true)
    → all_carried_out n (posts n x nodes) s ≡ record s { messages = s.messages ++ mails lives s n x nodes }
all_posted n x [] s same seen = λ i. record s { messages = sym (append-nil s.messages) i }
all_posted {lives} n x (m ∷ nodes) s same seen =
    post_by lives n m x nodes s (m.0 == n.0)
    (λ l. all_posted n x nodes (record s { messages = l }) same
    (λ k among. seen k (ap (λ (c : Bool). k.0 == m.0 || c) among ∙ either_way (k.0 == m.0))))
    (posted n m x s same (seen m (ap (λ (b : Bool). b || is_among m nodes) (eq-eqb m.0 m.0 refl))))

mailed_by : (lives : Node → ℕ) (P : Envelope → Type 0) (s : SystemView) (n m : Node) (x : Message) (nodes : List Node) (b : Bool)
    → ((k : Node) → k.0 ≢ n.0 → P (posted_to lives n x k)) → (m.0 == n.0) ≡ b → (c : Bool) → All P (mails lives s n x nodes)
    → All P (cond b (mails lives s n x nodes) (cond c (posted_to lives n x m ∷ mails lives s n x nodes) (mails lives s n x nodes)))
mailed_by lives P s n m x nodes true so is c rest = rest
mailed_by lives P s n m x nodes false so is true rest =
    All-cons P (posted_to lives n x m) (mails lives s n x nodes) (so m (λ same. false≢true (sym is ∙ eq-eqb m.0 n.0 same))) rest
mailed_by lives P s n m x nodes false so is false rest = rest

-- what is so of the message to each other node is so of all that is sent
pub all_mailed : (lives : Node → ℕ) (P : Envelope → Type 0) (s : SystemView) (n : Node) (x : Message) (nodes : List Node)
    → ((k : Node) → k.0 ≢ n.0 → P (posted_to lives n x k)) → All P (mails lives s n x nodes)
all_mailed lives P s n x [] so = All-nil P
all_mailed lives P s n x (m ∷ nodes) so =
    mailed_by lives P s n m x nodes (m.0 == n.0) so refl (is_alive_at s m && has_dist_at s m) (all_mailed lives P s n x nodes so)
