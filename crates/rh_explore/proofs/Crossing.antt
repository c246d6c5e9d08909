-- What is handed to the threads that expand states, and what they share.
use denote.Ref.{NamedLft}
use denote.Param.Send.{IsSend, IsSync, sendable}
use Rattle.std.proofs.Crossing.{crosses}
use Rattle.rh_state.proofs.Crossing.{state_send, state_sync}
use Rattle.rh_rules.proofs.event.Event.TheSendSync as event
use Rattle.rh_keys.proofs.key.Key.TheSendSync as key
use Rattle.rh_explore.specs.contracts.families.Family as Family
use Rattle.rh_explore.specs.contracts.leads.Expansion as Expansion
use Rattle.rh_explore.specs.contracts.search.Search as Search
use Rattle.rh_explore.specs.contracts.worker.Known as Known

-- ---- what is handed over
pub family_send : IsSend Family.the_row
family_send = search (state_send, event.the_send, crosses, sendable) depth 60 fits 20000

pub expansion_send : IsSend Expansion.the_row
expansion_send = search (state_send, crosses, sendable) depth 60 fits 20000

-- ---- what is shared
pub search_sync : (l : NamedLft) → IsSync (Search.the_row l)
search_sync l = search (state_sync, crosses, sendable) depth 60 fits 20000

pub known_sync : (l : NamedLft) → IsSync (Known.the_row l)
known_sync l = search (key.the_sync, crosses, sendable) depth 60 fits 20000
