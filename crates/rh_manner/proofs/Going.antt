-- What a device did, with a text behind it.
use Rattle.std.proofs.Common.{◌≡◌, ◌∙◌, ℕ, List, [], ◌∷◌, ◌++◌, refl, sym, subst, append_assoc, append-nil}
use Rattle.std.specs.List.{flat_map}
use Rattle.rh_devices.specs.Devices.{InTurn, Passed}
use Rattle.rh_manner.specs.Deeds.{Deed, Took, given, taken, is_ended, Goes}
use Rattle.rh_manner.specs.DialogueText.{IsPrompt}

module _ {D : Type 0} (gives takes : D → D → List ℕ → Type 0) (flushes : D → D → Type 0) (a : D) where
  -- behind these deeds the device took this text
  pub record Later (b : D) (log : List Deed) (text : List ℕ) : Type 0 where
    pub log' : List Deed
    pub goes : Goes gives takes flushes a b log'
    pub came : given log' ≡ given log
    pub took : taken log' ≡ taken log ++ text
    pub end : is_ended log' ≡ is_ended log
    pub prompt : (said : List ℕ → List ℕ) → IsPrompt said log → IsPrompt said log'

  in_turn : (d b : D) (log : List Deed) (pieces : List (List ℕ)) → Goes gives takes flushes a d log → InTurn takes d b pieces
      → Later b log (flat_map (λ piece. piece) pieces)
  in_turn d b log [] goes same = record {
    log' = log;
    goes = subst (λ (e : D). Goes gives takes flushes a e log) same goes;
    came = refl;
    took = sym (append-nil (taken log));
    end = refl;
    prompt = λ said p. p;
  }
  in_turn d b log (piece ∷ pieces) goes h =
      let more = in_turn h.0 b (Took piece ∷ log) pieces (d, goes, h.1) h.2 in
      record {
        log' = more.log';
        goes = more.goes;
        came = more.came;
        took = more.took ∙ append_assoc (taken log) piece (flat_map (λ p. p) pieces);
        end = more.end;
        prompt = λ said p. more.prompt said p;
      }

  pub later : (d b : D) (log : List Deed) (text : List ℕ) → Goes gives takes flushes a d log → Passed takes d b text → Later b log text
  later d b log text goes h = subst (λ (t : List ℕ). Later b log t) h.2 (in_turn d b log h.0 goes h.1)
