-- The commands of each session in a log.
use Rattle.std.proofs.Common.{◌≡◌, ◌≤◌, ◌==◌, ℕ, List, [], ◌∷◌, map, All, Bool, false, cond, refl, sym, ap, ◌∙◌, inl, inr, arith}
use Rattle.std.proofs.lemmas.Bool.{cases_lt}
use Rattle.std.proofs.lemmas.Bool.Decides.{nat_tests}
use Rattle.std.proofs.lemmas.List.Elements.{All-head, All-tail, All-weaker, All-map}
use Rattle.rh_trail.specs.SimView.{SimView}
use Rattle.rh_room.specs.declared.pass.Entry.{Entry}
use Rattle.rh_room.specs.Legal.{IsRoom, IsSession, session_limit}
use Rattle.rh_script.specs.declared.session_lines.Command.{Command}
use Rattle.rh_app.specs.Histories.{asked, by_session}

cond-false : (b : Bool) (xs ys : List Command) → b ≡ false → cond b xs ys ≡ ys
cond-false b xs ys is = ap (λ t. cond t xs ys) is

-- no command is of this session
none_of : (session : ℕ) (commands : List Command) → All (λ (x : Command). (x.session == session) ≡ false) commands → by_session session commands ≡ []
none_of session [] others = refl
none_of session (x ∷ xs) others =
    cond-false (x.session == session) (x ∷ by_session session xs) (by_session session xs)
    (All-head (λ (y : Command). (y.session == session) ≡ false) x xs others)
    ∙ none_of session xs (All-tail (λ (y : Command). (y.session == session) ≡ false) x xs others)

abbrev Same : List Command → List Entry → ℕ → Type 0
Same commands log session = by_session session (map asked log) ≡ by_session session commands

-- none is of a session that there isn't
module _ (commands : List Command) (log : List Entry)
    (numbered : All (λ (x : Command). IsSession session_limit x.session) commands) (known : All (λ (e : Entry). IsSession session_limit e.session) log) where
  elsewhere : (session : ℕ) → ((other : ℕ) → IsSession session_limit other → (other == session) ≡ false) → Same commands log session
  elsewhere session apart =
      let other : Command → Type 0 = λ x. (x.session == session) ≡ false in
      let not_logged = All-weaker (λ (e : Entry). IsSession session_limit e.session) (λ (e : Entry). other (asked e)) (λ e is. apart e.session is) log known in
      let not_asked = All-weaker (λ (x : Command). IsSession session_limit x.session) other (λ x is. apart x.session is) commands numbered in
      none_of session (map asked log) (All-map other asked log not_logged) ∙ sym (none_of session commands not_asked)

  -- so it is enough to look at the sessions that a room can have
  pub everywhere : (last : ℕ) → session_limit ≤ last → ((session : ℕ) → 1 ≤ session → session ≤ last → Same commands log session)
      → (session : ℕ) → Same commands log session
  everywhere last all each session = elim (cases_lt 0 session) [
    | inl some ↦ elim (cases_lt session_limit session) [
      | inl above ↦ elsewhere session (λ other is. let high = is.1 in grind (arith, nat_tests, above, high))
      | inr below ↦ each session (omega (arith, some)) (omega (arith, below, all))
    ]
    | inr none ↦ elsewhere session (λ other is. let low = is.0 in grind (arith, nat_tests, none, low))
  ]

-- and of those are the sessions of a room
pub known_of : (sim : SimView) (sessions : ℕ) (log : List Entry) → IsRoom sim sessions log → All (λ (e : Entry). IsSession session_limit e.session) log
known_of sim sessions log room =
    All-weaker (λ (e : Entry). IsSession sessions e.session) (λ (e : Entry). IsSession session_limit e.session)
    (λ e is. let few = room.few.1 in (is.0, omega (arith, is.1, few))) log room.known
