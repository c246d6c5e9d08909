-- What a parameter, a key or a section takes (kernel(6), Configuration; app(4); the section `rehearse` is ours).
use Rattle.std.specs.Prelude.{List, [], ℕ, codes, if◌then◌else◌}
use Rattle.std.specs.Str.{bytes_eq}

-- by its name, as words; none where the name isn't read
abbrev pub expected : List ℕ → List ℕ
expected name =
    if bytes_eq name (codes "distributed") then codes "; it takes a list of {App, Nodes} or {App, Timeout, Nodes}, Timeout from 0 to 10^12"
    else if bytes_eq name (codes "sync_nodes_mandatory") then codes "; it takes a list of node names"
    else if bytes_eq name (codes "sync_nodes_optional") then codes "; it takes a list of node names"
    else if bytes_eq name (codes "sync_nodes_timeout") then codes "; it takes 0 to 10^12 milliseconds, infinity or undefined"
    else if bytes_eq name (codes "permissions") then codes "; it takes a list of {App, true} or {App, false}"
    else if bytes_eq name (codes "boot") then codes "; it takes a list of {App, permanent}, {App, transient} or {App, temporary}"
    else if bytes_eq name (codes "platform") then codes "; it takes a list of names"
    else if bytes_eq name (codes "applications") then codes "; it takes a list of names"
    else if bytes_eq name (codes "mod") then codes "; it takes {Module, StartArg} or []"
    else if bytes_eq name (codes "start_phases") then codes "; it takes undefined, or a list of {Phase, Argument}"
    else if bytes_eq name (codes "kernel") then codes "; it takes a list of {Name, Value}"
    else if bytes_eq name (codes "rehearse") then codes "; it takes a list of {boot, Applications} and {platform, Names}"
    else []
