use Rattle.std.proofs.Common.{◌≡◌, length}
use Rattle.std.specs.Str.{IsUtf8}
use Rattle.rh_base.specs.Tree.{trees_of}
use Rattle.rh_terms.specs.Kept.{kept_from}
use Rattle.rh_terms.specs.Repeated.{IsRead}
use Rattle.rh_terms.proofs.Joined.{after_trees}
use Rattle.rh_terms.proofs.reading.terms_of_text.Given as goal

abbrev pub invariant-bytes : goal.invariant-bytes
invariant-bytes g l = record {
  so_far : after_trees (trees_of l.terms.items) (kept_from g.K.Keep.behind_key l.keep l.rest) ≡ kept_from g.K.Keep.behind_key l.keep l.bytes;
  text : IsUtf8 l.rest;
  known : IsRead l.again;
}

abbrev pub decreases-bytes : goal.decreases-bytes
decreases-bytes g l = length l.rest
