-- A worker between two moves (ours).
use Rattle.std.specs.Prelude.{◌≡◌, []}
use Rattle.rh_explore.specs.declared.worker.Worker.{Worker}

-- no move is tried, and no time passes
pub record IsIdle (worker : Worker) : Type 0 where
  pub none : worker.tried.edits.items ≡ []
  pub calm : worker.asked.edits.items ≡ []
