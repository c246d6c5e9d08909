use Rattle.std.proofs.Common.{◌≡◌, ◌≤◌, ℕ, map}
use Rattle.rh_app.specs.Histories.{asked, by_session}
use Rattle.rh_app.proofs.sessions.threads.are_interleaved.Given as goal

abbrev pub invariant-loop-before : goal.invariant-loop-before
invariant-loop-before l = (session : ℕ) → 1 ≤ session → session ≤ l.before → by_session session (map asked l.log) ≡ by_session session l.commands
