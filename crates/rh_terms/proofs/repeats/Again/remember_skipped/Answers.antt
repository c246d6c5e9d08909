use Rattle.rh_terms.proofs.ListAgain.{ends_again, end_within}
use Rattle.rh_terms.proofs.repeats.Again.remember_skipped.Goals as goal

pub slice_bounds-passed-count : goal.slice_bounds-passed-count
slice_bounds-passed-count c = end_within c.args.room c.args.bytes.now c.args.rest.now c.requires.read

pub returns-then-passed-self : goal.returns-then-passed-self
returns-then-passed-self c = record {
  kept = c.requires.known.kept;
  skipped = λ _. ends_again c.args.room c.args.bytes.now c.args.rest.now c.requires.read c.requires.opens;
}
