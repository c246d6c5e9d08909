use Rattle.std.proofs.Common.{ap}
use Rattle.rh_base.specs.Tree.{tree_of}
use Rattle.rh_model.specs.TermSymbols.{symbols_of}
use Rattle.rh_model.proofs.Prefix.{symbols_told}
use Rattle.rh_model.proofs.app_settings.same_argument.Goals as goal

pub returns : goal.returns
returns c = (
  λ e. ap symbols_of (c.same.ensures.0 e),
  λ e. c.same.ensures.1 (symbols_told (tree_of c.args.this.now) (tree_of c.args.that.now) e),
)
