-- One more entry in the log of a room.
use Rattle.std.proofs.Common.{◌≡◌, ℕ, suc, ◌-◌, ◌<◌, List, [], ◌∷◌, ◌++◌, length, map, slice_get, refl, sym, ap, subst, ◌∙◌, arith}
use Rattle.std.proofs.lemmas.List.{length_push, map-append}
use Rattle.std.proofs.lemmas.List.Elements.{All-push}
use Rattle.rh_calls.specs.declared.call.Call.{Call}
use Rattle.rh_calls.specs.declared.call.Call.TheVariants as call
use Rattle.rh_calls.specs.declared.call.Reply.{Reply}
use Rattle.rh_trail.specs.SimView.{SimView}
use Rattle.rh_trail.proofs.Bases.{base_of, base-served}
use Rattle.rh_trail.specs.Lone.{Served, answered, served, opened, replies, sim_after}
use Rattle.rh_room.specs.declared.pass.Entry.{Entry}
use Rattle.rh_room.specs.Legal.{IsRoom, IsSession, calls, entry, log_limit}
use Rattle.rh_room.specs.Serving.{look_reply, look_in, last_look, IsStill}

-- one more call, with its reply
pub replies-push : (s : SimView) (cs : List Call) (c : Call) → replies s (cs ++ c ∷ []) ≡ replies s cs ++ (served (sim_after s cs) c).reply ∷ []
replies-push s [] c = refl
replies-push s (d ∷ cs) c = ap (λ (rs : List Reply). (served s d).reply ∷ rs) (replies-push (served s d).sim cs c)

pub sim_after-push : (s : SimView) (cs : List Call) (c : Call) → sim_after s (cs ++ c ∷ []) ≡ (served (sim_after s cs) c).sim
sim_after-push s [] c = refl
sim_after-push s (d ∷ cs) c = sim_after-push (served s d).sim cs c

module _ (s t : SimView) (k : ℕ) (log : List Entry) (session : ℕ) (c : Call) (r : Reply) where
  pub room_goes_on : IsRoom s k log → served s c ≡ answered r t → IsSession k session → length log < log_limit
      → IsRoom t k (log ++ entry session c r ∷ [])
  room_goes_on room is known space = record {
    few = room.few;
    legal =
        map-append (λ (e : Entry). e.reply) log (entry session c r ∷ [])
        ∙ ap (λ (rs : List Reply). rs ++ r ∷ []) room.legal
        ∙ ap (λ (q : Reply). replies start (calls log) ++ q ∷ []) (sym (ap (λ (v : Served). v.reply) at))
        ∙ sym (replies-push start (calls log) c)
        ∙ ap (λ (cs : List Call). replies start cs) (sym (map-append (λ (e : Entry). e.call) log (entry session c r ∷ [])))
        ∙ ap (λ (b : SimView). replies b (calls (log ++ entry session c r ∷ []))) (sym base);
    is =
        sym (ap (λ (v : Served). v.sim) at)
        ∙ sym (sim_after-push start (calls log) c)
        ∙ ap (λ (cs : List Call). sim_after start cs) (sym (map-append (λ (e : Entry). e.call) log (entry session c r ∷ [])))
        ∙ ap (λ (b : SimView). sim_after b (calls (log ++ entry session c r ∷ []))) (sym base);
    known = All-push (λ (e : Entry). IsSession k e.session) log (entry session c r) room.known known;
    limited = omega (arith, length_push log (entry session c r), space);
  }
    where
      start : SimView
      start = opened s.cluster s.pick

      at : served (sim_after start (calls log)) c ≡ answered r t
      at = ap (λ (v : SimView). served v c) (sym room.is) ∙ is

      base : opened t.cluster t.pick ≡ start
      base = sym (ap base_of is) ∙ base-served s c

-- ---- a look right behind another

-- behind a look a look is answered the same
still_behind : (s : SimView) (c : Call) (r : Reply) → r ≡ (served s c).reply → IsStill (served s c).sim (look_reply c r)
still_behind s (call.Step e) r is = tt
still_behind s call.Undo r is = tt
still_behind s call.Redo r is = tt
still_behind s call.UndoAll r is = tt
still_behind s call.RedoAll r is = tt
still_behind s call.Look r is = ap (λ (q : Reply). answered q s) (sym is)

abbrev first_or : Reply → List Reply → Reply
first_or d [] = d
first_or d (r ∷ rs) = r

abbrev rest_of : List Reply → List Reply
rest_of [] = []
rest_of (r ∷ rs) = rs

last_behind : (e f : Entry) (log : List Entry) → last_look (e ∷ f ∷ log) ≡ last_look (f ∷ log)
last_behind e f log =
    let one : length (e ∷ f ∷ log) - 1 ≡ suc (length log) = omega arith in
    let other : length (f ∷ log) - 1 ≡ length log = omega arith in
    ap (λ (k : ℕ). look_in (slice_get (e ∷ f ∷ log) k)) one ∙ sym (ap (λ (k : ℕ). look_in (slice_get (f ∷ log) k)) other)

still_from : (s : SimView) (log : List Entry) → map (λ e. e.reply) log ≡ replies s (calls log) → IsStill (sim_after s (calls log)) (last_look log)
still_from s [] legal = tt
still_from s (e ∷ []) legal = still_behind s e.call e.reply (ap (first_or e.reply) legal)
still_from s (e ∷ f ∷ log) legal =
    subst (IsStill (sim_after s (calls (e ∷ f ∷ log)))) (sym (last_behind e f log)) (still_from (served s e.call).sim (f ∷ log) (ap rest_of legal))

-- where the last call of a room was a look, one more is answered the same
pub look_is_still : (s : SimView) (k : ℕ) (log : List Entry) → IsRoom s k log → IsStill s (last_look log)
look_is_still s k log room =
    subst (λ (t : SimView). IsStill t (last_look log)) (sym room.is) (still_from (opened s.cluster s.pick) log room.legal)
