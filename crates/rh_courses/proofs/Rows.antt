-- Worked rows: which moments are changes, how long an application ran and was away, and its line.
use Rattle.std.proofs.Common.{◌≡◌, ℕ, List, [], ◌∷◌, Option, Some, None, false, codes, refl}
use Rattle.std.specs.Fmt.{digits}
use Rattle.rh_model.specs.ClusterView.{ClusterView, AppView, numbered, app_numbered}
use Rattle.rh_model.specs.declared.node.Node.{Node}
use Rattle.rh_courses.specs.declared.course.Change.{Change}
use Rattle.rh_courses.specs.Courses.{CourseView, changes_from, stays_of, ran, away, pieces}
use Rattle.rh_courses.specs.Texts.{run_words, runs_words, away_words, pieces_words, course_text}

abbrev app : AppView
app = record { deps = []; start_arg = None; phases = false; spread = Some (record { timeout = 2000; groups = [] }) }

abbrev cluster : ClusterView
cluster = record {
  profile = 1;
  node_names = codes "n1" ∷ codes "n2" ∷ [];
  app_names = codes "web" ∷ [];
  platform_names = [];
  nodes = [];
  apps = app ∷ [];
}

abbrev at : ℕ → Option Node → Change
at time place = record { time = time; place = place }

abbrev first_node : Option Node
first_node = Some (numbered 0)

abbrev second_node : Option Node
second_node = Some (numbered 1)

-- a moment is no change where the application is where it was just before: nowhere before the first
changes_row : changes_from None (at 0 None ∷ at 0 first_node ∷ at 5 first_node ∷ at 6 None ∷ at 7 None ∷ at 8 second_node ∷ at 8 first_node ∷ [])
    ≡ at 0 first_node ∷ at 6 None ∷ at 8 second_node ∷ at 8 first_node ∷ []
unfolding changes_from
changes_row = refl

abbrev with_changes : List Change → ℕ → CourseView
with_changes changes time = record { app = app_numbered 0; changes = changes; place = None; time = time }

never_row : course_text cluster (with_changes [] 500) ≡ codes "web never ran"
unfolding stays_of away run_words runs_words away_words pieces_words digits
never_row = refl

running_row : course_text cluster (with_changes (at 20 first_node ∷ []) 500) ≡ codes "web ran at n1 20 to now"
unfolding stays_of away run_words runs_words away_words pieces_words digits
running_row = refl

failover_row : course_text cluster (with_changes (at 0 first_node ∷ at 6000 None ∷ at 8000 second_node ∷ []) 66000)
    ≡ codes "web ran at n1 0 to 6000, at n2 8000 to now; nowhere for 2000 ms in 1 piece"
unfolding stays_of away run_words runs_words away_words pieces_words digits
failover_row = refl

-- a takeover is no gap, a gap that lasts goes up to now, and one of no length is a piece
pieces_row : course_text cluster (with_changes (at 3 first_node ∷ at 3 second_node ∷ at 9 None ∷ at 9 first_node ∷ at 10 None ∷ []) 12)
    ≡ codes "web ran at n1 3 to 3, at n2 3 to 9, at n1 9 to 10; nowhere for 2 ms in 2 pieces"
unfolding stays_of away run_words runs_words away_words pieces_words digits
pieces_row = refl

lengths_row : (ran (with_changes (at 3 first_node ∷ at 9 None ∷ at 20 second_node ∷ []) 50) ≡ 36)
    × (away (with_changes (at 3 first_node ∷ at 9 None ∷ at 20 second_node ∷ []) 50) ≡ 11)
    × (pieces (with_changes (at 3 first_node ∷ at 9 None ∷ at 20 second_node ∷ []) 50) ≡ 1)
unfolding stays_of ran away
lengths_row = (refl, refl, refl)
