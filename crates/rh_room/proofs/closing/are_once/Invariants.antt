use Rattle.std.proofs.Common.{◌≡◌, ◌≤◌, ◌<◌, ◌==◌, ℕ, count_by}
use Rattle.rh_room.proofs.closing.are_once.Given as goal

abbrev pub invariant-loop-session : goal.invariant-loop-session
invariant-loop-session l = (session : ℕ) → 1 ≤ session → session < l.session → count_by (λ p. p.session == session) l.passes ≡ 1
