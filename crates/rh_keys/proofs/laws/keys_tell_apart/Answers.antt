use Rattle.rh_keys.proofs.KeysApart.{keys_apart, keys_alike}
use Rattle.rh_keys.proofs.laws.keys_tell_apart.Goals as goal

pub returns : goal.returns
returns c = λ s t shaped_s shaped_t same. (keys_apart s t shaped_s shaped_t same, keys_alike s t)
