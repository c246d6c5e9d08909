-- What threads give back, one thread after the other.
use Rattle.std.proofs.Common.{◌≡◌, ◌+◌, ◌<◌, ℕ, suc, List, [], ◌∷◌, ◌++◌, length, map, get_or, IsNone, Result, Ok, Err, IfOk, OnOk, Bool, true, false, ◌||◌, refl, sym, subst, true≢false, arith}
use Rattle.std.specs.List.{list_any}
use Rattle.rh_room.specs.Legal.{PassView}
use Rattle.rh_script.specs.declared.session_lines.Command.{Command}
use Rattle.rh_app.specs.declared.fault.HistoryFault.{HistoryFault}
use Rattle.rh_app.specs.declared.sessions.threads.Ended.{Ended}
use Rattle.rh_app.specs.Histories.{answered, calls_by}
use Rattle.rh_app.specs.Workers.{WereServed, had_fault, pass_of}

-- a thread gives its pass back, and without a fault the session was answered its commands
abbrev pub Worked : List Command → PassView → Ended → Type 0
Worked commands given e =
    (e.pass.session ≡ given.session) × (IsNone e.fault → answered e.pass ≡ answered given ++ calls_by given.session commands)

neither : (a b : Bool) → (a || b) ≡ false → (a ≡ false) × (b ≡ false)
neither false b is = (refl, is)
neither true b is = absurd (true≢false is)

-- where none had a fault, all sessions were answered their commands
pub were_served : (commands : List Command) (given : List PassView) (ended : List Ended) → length ended ≡ length given
    → ((i : ℕ) (e : Ended) (p : PassView) → i < length given → Worked commands (get_or given i p) (get_or ended i e))
    → list_any had_fault ended ≡ false → WereServed commands given (map pass_of ended)
were_served commands [] [] as_long each fine = tt
were_served commands [] (e ∷ es) as_long each fine = absurd (omega (arith, as_long))
were_served commands (p ∷ ps) [] as_long each fine = absurd (omega (arith, as_long))
were_served commands (p ∷ ps) (e ∷ es) as_long each fine =
    let first = each 0 e p (omega arith) in
    let parts = neither (had_fault e) (list_any had_fault es) fine in (
      record { session = first.0; answered = first.1 parts.0 },
      were_served commands ps es (omega (arith, as_long)) (λ i d q within. each (suc i) d q (omega (arith, within))) parts.1,
    )

-- so the passes that are given were
pub served_if : {V : Type 0} (items : V → List PassView) (commands : List Command) (given : List PassView) (ended : List Ended) (r : Result V HistoryFault)
    → length ended ≡ length given
    → ((i : ℕ) (e : Ended) (p : PassView) → i < length given → Worked commands (get_or given i p) (get_or ended i e))
    → IfOk r (λ passes. items passes ≡ map pass_of ended) → OnOk r (list_any had_fault ended ≡ false)
    → IfOk r (λ passes. WereServed commands given (items passes))
served_if items commands given ended (Ok passes) as_long each is fine =
    subst (WereServed commands given) (sym is) (were_served commands given ended as_long each fine)
served_if items commands given ended (Err fault) as_long each is fine = tt
