use Rattle.rh_explore.specs.Kept.{bytes_of}
use Rattle.rh_explore.proofs.space.Space.known_so_far.Goals as goal

pub returns : goal.returns
returns c = λ i. record { keys = bytes_of c.args.self.now; firsts = c.as_slice.ensures.value i }
